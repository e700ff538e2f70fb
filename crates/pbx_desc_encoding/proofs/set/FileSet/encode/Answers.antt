use Rattle.std.proofs.Common.{◌^◌, ◌<◌, [], length, ap, refl, arith}
use Rattle.pbx_desc_encoding.specs.Content.{files_content}
use Rattle.pbx_desc_encoding.specs.Sets.{SetText}
use Rattle.pbx_desc_encoding.proofs.Behind.{written_decodes, written_parts}
use Rattle.pbx_desc_encoding.proofs.Sets.{set_written}
use Rattle.pbx_desc_encoding.proofs.set.FileSet.encode.Goals as goal

pub returns-clause-bytes : goal.returns-clause-bytes
returns-clause-bytes c = λ files is.
    let text = ap (λ (s : SetText). s.text) c.self.view_is in
    let written = set_written c.args.self files c.self.inside.schema c.new-none.result.list c.new-unknown.result c.put_fields.new.out.items is
    c.new-none.ensures c.new-unknown.ensures c.self.invariant (rw (text) at c.in_ok-put_fields.ensures.text) c.in_ok-put_fields.ensures.fit in
    written.text

pub returns-clause-decodes : goal.returns-clause-decodes
returns-clause-decodes c = λ files is.
    let text = ap (λ (s : SetText). s.text) c.self.view_is in
    let vec = c.put_fields.new.out in
    let short : length vec.items < 2 ^ 64 = omega (arith, vec.ok.0, vec.ok.1, vec.small) in
    let written = set_written c.args.self files c.self.inside.schema c.new-none.result.list c.new-unknown.result vec.items is
    c.new-none.ensures c.new-unknown.ensures c.self.invariant (rw (text) at c.in_ok-put_fields.ensures.text) c.in_ok-put_fields.ensures.fit in
    written_decodes 0 (files_content files) [] vec.items c.encoding_decodes.ensures.whole written refl short

pub returns-clause-parts : goal.returns-clause-parts
returns-clause-parts c = λ files is.
    let text = ap (λ (s : SetText). s.text) c.self.view_is in
    let vec = c.put_fields.new.out in
    let short : length vec.items < 2 ^ 64 = omega (arith, vec.ok.0, vec.ok.1, vec.small) in
    let written = set_written c.args.self files c.self.inside.schema c.new-none.result.list c.new-unknown.result vec.items is
    c.new-none.ensures c.new-unknown.ensures c.self.invariant (rw (text) at c.in_ok-put_fields.ensures.text) c.in_ok-put_fields.ensures.fit in
    written_parts 0 (files_content files) [] vec.items c.encoding_decodes.ensures.parts written refl short
