use Rattle.std.proofs.Common.{◌≡◌, List, IfOk, subst}
use Rattle.pbx_wire.specs.declared.rec.Rec.{Rec}
use Rattle.pbx_link_record.proofs.Kept.{settled_is}
use Rattle.pbx_link_record.proofs.unknown.settled_unknown.Goals as goal

pub returns : goal.returns
returns c =
    subst (λ (recs : List Rec). IfOk c.in_order.result (λ settled. settled ≡ recs))
    (settled_is c.args.of c.args.recs.now c.in_ok-kept.kept c.field_numbers.result.now c.field_numbers.ensures c.in_ok-kept.ensures.kept) c.in_order.ensures
