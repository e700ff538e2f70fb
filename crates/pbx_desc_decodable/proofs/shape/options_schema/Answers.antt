use Rattle.std.proofs.Common.{refl}
use Rattle.pbx_desc_decodable.proofs.Proper.{not_refused}
use Rattle.pbx_desc_decodable.proofs.shape.options_schema.Goals as goal

pub unreachable-requires : goal.unreachable-requires
unreachable-requires c =
    not_refused (record { messages = c.in_ok-messages.field-0; enums = c.in_ok-enums.field-0 }) c.in-Err-Improper.field-0-0 c.in-Err-Improper.field-0
    (rw (c.in_ok-messages.ensures, c.in_ok-enums.ensures) refl) c.in-Err-Improper.ensures.err c.in-Err-Improper.field-0-is
