use Rattle.std.proofs.Common.{◌^◌, ◌<◌, length, arith}
use Rattle.pbx_desc_encoding.specs.Content.{source_code_info_content}
use Rattle.pbx_desc_encoding.proofs.Behind.{written_decodes, written_parts}
use Rattle.pbx_desc_encoding.proofs.source.SourceCodeInfoMessage.encode_to_vec.Goals as goal

pub returns-clause-decodes : goal.returns-clause-decodes
returns-clause-decodes c =
    let vec = c.write_source.new.out in
    let short : length vec.items < 2 ^ 64 = omega (arith, vec.ok.0, vec.ok.1, vec.small) in
    written_decodes 12 (source_code_info_content c.args.self.now) c.new-bytes.result.items vec.items c.encoding_decodes.ensures.whole c.in_ok-write_source.ensures c.new-bytes.ensures.items short

pub returns-clause-parts : goal.returns-clause-parts
returns-clause-parts c =
    let vec = c.write_source.new.out in
    let short : length vec.items < 2 ^ 64 = omega (arith, vec.ok.0, vec.ok.1, vec.small) in
    written_parts 12 (source_code_info_content c.args.self.now) c.new-bytes.result.items vec.items c.encoding_decodes.ensures.parts c.in_ok-write_source.ensures c.new-bytes.ensures.items short
