use Rattle.std.proofs.Common.{refl}
use Rattle.pbx_desc_shapes.specs.TypesShape.{types_shape}
use Rattle.pbx_desc_shapes.proofs.WellKnownProper.{not_refused}
use Rattle.pbx_desc_shapes.proofs.well_known.types_shape.Goals as goal

pub unreachable-requires : goal.unreachable-requires
unfolding types_shape
unreachable-requires c =
    not_refused (record { messages = c.in_ok-messages.field-0; enums = c.new.result }) c.in-Err-Improper.field-0-0 c.in-Err-Improper.field-0
    (rw (c.in_ok-messages.ensures, c.new.ensures) refl) c.in-Err-Improper.ensures.err c.in-Err-Improper.field-0-is
