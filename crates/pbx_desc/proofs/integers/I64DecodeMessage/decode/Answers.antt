use Rattle.std.proofs.Common.{◌≡◌, to_z, of_z, rules}
use Rattle.std.specs.Int.{w64}
use Rattle.pbx_content.specs.declared.shape.Kind.TheVariants as kind
use Rattle.pbx_desc_wrappers.proofs.Wrappers.{int64_type}
use Rattle.pbx_desc_wrappers.proofs.Sound.{value_read}
use Rattle.pbx_desc.proofs.integers.I64DecodeMessage.decode.Goals as goal

pub returns-clause-found : goal.returns-clause-found
returns-clause-found c =
    let same : to_z w64 (of_z w64 c.i64_in.result) ≡ c.i64_in.result = search rules in
    rw same
    (value_read (c.in_ok-wrapped_value.ensures.found kind.Int64 int64_type) c.i64_in.ensures)
