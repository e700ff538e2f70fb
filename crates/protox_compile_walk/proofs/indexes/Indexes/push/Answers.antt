use Rattle.std.proofs.Common.{◌≡◌, ◌∙◌, ap, sym, cond, Some, true, false}
use Rattle.std.specs.Prelude.{is_some}
use Rattle.std.specs.Str.{bytes_eq}
use Rattle.protox_compile_walk.specs.Indexes.{first_index}
use Rattle.protox_compile_walk.proofs.Indexed.{on_ok_map, same_with, new_with}
use Rattle.protox_compile_walk.proofs.indexes.Indexes.push.Goals as goal

pub returns-then-is_some-clause-ok : goal.returns-then-is_some-clause-ok
returns-then-is_some-clause-ok c names long indexed q =
    let there : is_some (first_index c.args.name.now names) ≡ true =
    ap (λ o. is_some o) (sym (indexed c.args.name.now)) ∙ ap (λ o. is_some o) (sym c.get.ensures) ∙ sym c.is_some.ensures ∙ c.if-is_some.true in
    indexed q ∙ same_with q c.args.name.now names there

pub returns-clause-ok : goal.returns-clause-ok
returns-clause-ok c = on_ok_map c.put.result (λ put names long indexed q.
    let new : is_some (first_index c.args.name.now names) ≡ false =
    ap (λ o. is_some o) (sym (indexed c.args.name.now)) ∙ ap (λ o. is_some o) (sym c.get.ensures) ∙ sym c.is_some.ensures ∙ c.if-is_some.false in
    put q ∙ ap (cond (bytes_eq c.args.name.now q) (Some c.args.index)) (indexed q)
    ∙ ap (λ i. cond (bytes_eq c.args.name.now q) (Some i) (first_index q names)) (sym long) ∙ new_with q c.args.name.now names new) c.put.ensures.ok
