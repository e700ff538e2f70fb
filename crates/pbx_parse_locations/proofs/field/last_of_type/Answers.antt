use Rattle.std.proofs.Common.{◌-◌, length, ap, sym, ◌∙◌}
use Rattle.std.specs.List.{slice_get}
use Rattle.pbx_parse_tree.specs.Tree.{Name}
use Rattle.pbx_parse_tree.specs.View.{name_of}
use Rattle.pbx_parse_locations.proofs.Last.{last_more, last_alone}
use Rattle.pbx_parse_locations.proofs.field.last_of_type.Goals as goal

pub returns-in-Some : goal.returns-in-Some
returns-in-Some c =
    let full = c.args.name.now.full in
    let e = c.in-Some.ensures.value ∙ ap (λ xs. slice_get xs (length xs - 1)) c.deref.ensures.value in
    sym (ap (λ (n : Name). n.span) (last_more name_of full.first c.in-Some.field-0.now full.more.items e))

pub returns-in-None : goal.returns-in-None
returns-in-None c =
    let full = c.args.name.now.full in
    let e = c.in-None.ensures.value ∙ ap (λ xs. slice_get xs (length xs - 1)) c.deref.ensures.value in
    sym (ap (λ (n : Name). n.span) (last_alone name_of full.first full.more.items e))
