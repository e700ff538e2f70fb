use Rattle.std.proofs.Common.{Some, None, arith}
use Rattle.std.proofs.lemmas.Str.Pattern.{split_parts}
use Rattle.pbx_link_scope.proofs.Outward.{no_dot}
use Rattle.pbx_link_scope.proofs.Found.{first_part_is, has_parts}
use Rattle.pbx_link_scope.proofs.binding.type_from.Goals as goal

pub type_in_first-requires : goal.type_in_first-requires
type_in_first-requires g c =
    let cut = split_parts 46 c.args.name.now (Some (c.in-Some.first, c.in-Some.field-0-1)) c.in-Some.ensures.cases (omega arith) in
    first_part_is c.args.name.now c.in-Some.first.now c.in-Some.field-0-1.now cut.0 cut.1

pub returns-in-Some : goal.returns-in-Some
returns-in-Some g c =
    let cut = split_parts 46 c.args.name.now (Some (c.in-Some.first, c.in-Some.field-0-1)) c.in-Some.ensures.cases (omega arith) in
    rw (has_parts c.args.name.now c.in-Some.first.now c.in-Some.field-0-1.now cut.0) c.type_in_first.ensures

pub returns-in-None : goal.returns-in-None
returns-in-None g c = rw (no_dot c.args.name.now (split_parts 46 c.args.name.now None c.in-None.ensures.cases (omega arith))) c.first_type.ensures
