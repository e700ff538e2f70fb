use Rattle.std.proofs.Common.{◌≡◌, ap, ◌∙◌, option_and_then, to_z, of_z, rules}
use Rattle.std.specs.Prelude.{slice_get}
use Rattle.std.specs.BTreeMap.{get_by}
use Rattle.std.specs.Int.{w128}
use Rattle.std.specs.Ordering.{int_cmp}
use Rattle.pbx_json_writing.proofs.enums.value_at.Goals as goal

pub returns-in-Some : goal.returns-in-Some
returns-in-Some c =
    let same : to_z w128 (of_z w128 c.args.number) ≡ c.args.number = search rules in
    c.value_in.ensures
    ∙ ap (option_and_then (λ i. slice_get c.args.values.now i)) (c.in-Some.ensures.value ∙ ap (λ z. get_by (int_cmp z) c.args.index.now) same)

pub returns-in-None : goal.returns-in-None
returns-in-None c =
    let same : to_z w128 (of_z w128 c.args.number) ≡ c.args.number = search rules in
    ap (option_and_then (λ i. slice_get c.args.values.now i)) (c.in-None.ensures.value ∙ ap (λ z. get_by (int_cmp z) c.args.index.now) same)
