use Rattle.std.proofs.Common.{◌≡◌, to_z, of_z, w64, rules}
use Rattle.serde_json.specs.Data.{string}
use Rattle.pbx_json_reading.proofs.Numbers.{in_32_bits}
use Rattle.pbx_json_reading.proofs.keys.i32_key.Goals as goal

pub overflow_cast-result : goal.overflow_cast-result
overflow_cast-result c =
    let same : to_z w64 (of_z w64 c.in-Ok.number) ≡ c.in-Ok.number = search rules in
    rw same (in_32_bits (string c.args.text.now) c.in-Ok.number (rw (c.from.ensures, c.from-2.ensures) at c.in-Ok.ensures))
