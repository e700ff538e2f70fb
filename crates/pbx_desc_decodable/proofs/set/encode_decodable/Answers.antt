use Rattle.std.proofs.Common.{◌≡◌, ◌∙◌, ◌<◌, ◌^◌, length, true, false, sym, arith}
use Rattle.std.specs.Option.{is_some}
use Rattle.pbx_content.specs.Meaning.{parts_meaning_of}
use Rattle.pbx_content.proofs.OntoSplits.{not_there}
use Rattle.pbx_desc_decodable.specs.Schema.{options_schema}
use Rattle.pbx_desc_decodable.proofs.Told.{set_decodable, set_undecodable, no_set}
use Rattle.pbx_desc_decodable.proofs.set.encode_decodable.Goals as goal

pub returns-then-is_some : goal.returns-then-is_some
returns-then-is_some c files is = no_set files c.deep_file.result (c.deep_file.ensures.first files is) (sym c.is_some.ensures ∙ c.if-is_some.true)

pub returns-then-branch : goal.returns-then-branch
returns-then-branch c files is =
    let bytes = c.in_ok-bytes.bytes in
    let short : length bytes.items < 2 ^ 64 = omega (arith, bytes.ok.0, bytes.ok.1, bytes.small) in
    let none = sym c.is_some.ensures ∙ c.if-is_some.false in
    let told : true ≡ is_some (parts_meaning_of options_schema 0 bytes.items) =
    rw (c.in_ok-schema.ensures, c.as_slice.ensures.value) at (sym c.if-branch.true ∙ c.in_ok-is_decodable_by_parts.ensures) in
    set_decodable files bytes.items c.deep_file.result (c.deep_file.ensures.first files is) none (c.in_ok-bytes.ensures.bytes files is)
    (c.in_ok-bytes.ensures.parts files is (c.deep_file.ensures.fits files is (not_there c.deep_file.result none))) short told

pub returns-else-branch : goal.returns-else-branch
returns-else-branch c files is =
    let bytes = c.in_ok-bytes.bytes in
    let none = sym c.is_some.ensures ∙ c.if-is_some.false in
    let short : length bytes.items < 2 ^ 64 = omega (arith, bytes.ok.0, bytes.ok.1, bytes.small) in
    let told : false ≡ is_some (parts_meaning_of options_schema 0 bytes.items) =
    rw (c.in_ok-schema.ensures, c.as_slice.ensures.value) at (sym c.if-branch.false ∙ c.in_ok-is_decodable_by_parts.ensures) in
    set_undecodable files bytes.items (c.in_ok-bytes.ensures.bytes files is)
    (c.in_ok-bytes.ensures.parts files is (c.deep_file.ensures.fits files is (not_there c.deep_file.result none))) short told
