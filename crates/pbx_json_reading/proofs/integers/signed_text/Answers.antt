use Rattle.std.proofs.Common.{◌≡◌, ◌∙◌, sym, ap, Ok, Err, to_z, of_z, w64, rules}
use Rattle.std.proofs.lemmas.Int.{to_z-of_z}
use Rattle.pbx_text.specs.Decimal.{signed_read}
use Rattle.pbx_json_reading.proofs.Numbers.{told, signed_told}
use Rattle.pbx_json_reading.proofs.integers.signed_text.Goals as goal

pub returns-in-Ok : goal.returns-in-Ok
returns-in-Ok c =
    let is : c.read_signed.result ≡ signed_read c.args.min c.args.max c.args.text.now =
    rw (to_z-of_z w64 c.args.min c.ranges.min, to_z-of_z w64 c.args.max c.ranges.max) at c.read_signed.ensures in
    let same : to_z w64 (of_z w64 c.in-Ok.number) ≡ c.in-Ok.number = search rules in
    ap Ok same ∙ ap told (sym c.in-Ok.is ∙ is) ∙ signed_told c.args.min c.args.max c.args.text.now c.requires

pub returns-in-Err-Form : goal.returns-in-Err-Form
returns-in-Err-Form c =
    let is : c.read_signed.result ≡ signed_read c.args.min c.args.max c.args.text.now =
    rw (to_z-of_z w64 c.args.min c.ranges.min, to_z-of_z w64 c.args.max c.ranges.max) at c.read_signed.ensures in
    ap told (ap Err (sym c.in-Err-Form.field-0-is) ∙ sym c.in-Err-Form.is ∙ is) ∙ signed_told c.args.min c.args.max c.args.text.now c.requires
