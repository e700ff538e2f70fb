use Rattle.std.proofs.Common.{true}
use Rattle.pbx_content_codec.specs.Fields.{field_like}
use Rattle.pbx_content_codec.proofs.Keyed.{unnot}
use Rattle.pbx_content_codec.proofs.Stable.{not_empty, list_stays, pairs_stay}
use Rattle.pbx_content_codec.proofs.stabilizing.is_stable_value.Goals as goal

pub returns-in-Many : goal.returns-in-Many
returns-in-Many c = λ some shape.
    rw (c.in-Repeated.is, c.in-Many.is)
    (list_stays shape (field_like c.args.view) c.in-Many.many (not_empty c.is_empty.result c.in-Many.many c.is_empty.ensures
    (unnot c.is_empty.result true some)))

pub returns-then-not-is_empty : goal.returns-then-not-is_empty
returns-then-not-is_empty c = λ ordered shape.
    rw (c.in-Map.is, c.in-Pairs.is)
    (pairs_stay shape (field_like c.args.view) c.in-Map.field-0 c.in-Pairs.pairs
    (not_empty c.is_empty-in-Pairs.result c.in-Pairs.pairs c.is_empty-in-Pairs.ensures c.if-not-is_empty.true) (rw c.as_slice.ensures at c.are_in_order.ensures.order ordered))
