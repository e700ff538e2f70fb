use Rattle.std.proofs.Common.{◌≡◌, ◌∙◌, ap, sym, subst, refl, Some, true, cond, w32, ℤ, List, string_bytes}
use Rattle.std.specs.BTreeMap.{get_by_text, is_at}
use Rattle.std.specs.BTreeSet.{contains}
use Rattle.std.specs.List.{list_any}
use Rattle.std.specs.Map.{lookup}
use Rattle.std.specs.Option.{IsSome}
use Rattle.std.specs.Ordering.{int_eq, int_cmp}
use Rattle.std.proofs.lemmas.Map.Text.{btree_map_updates_text, text_cmp}
use Rattle.std.proofs.lemmas.Result.{IfOk-at_ok}
use Rattle.std.proofs.lemmas.Int.{to_z-of_z}
use Rattle.pbx_link_names.specs.Numbers.{is_there, is_in}
use Rattle.pbx_link_names.proofs.Values.{on_any_err}
use Rattle.pbx_link_names.proofs.Sets.{one_more, the_same, first_one}
use Rattle.pbx_link_names.proofs.numbered_names.NumberedNames.add.Goals as goal

pub returns-in_err-insert-clause-err : goal.returns-in_err-insert-clause-err
unfolding is_there
returns-in_err-insert-clause-err c = on_any_err c.from_residual.result (λ q z.
    let after = c.get_mut.follows.lender c.insert.new.self in
    let sets = btree_map_updates_text c.args.name.now c.args.self.now.numbers after (Some c.insert.new.self)
    ((c.get_mut.follows.holds c.insert.new.self).3 (subst IsSome c.in-Some.ensures.value refl)) in
    the_same (get_by_text c.args.self.now.numbers) (get_by_text after) c.args.name.now q z c.insert.new.self
    (ap (λ (ks : List ℤ). list_any (is_at (int_cmp z)) ks) c.in_err-insert.ensures.err ∙ ap (is_in z) c.in-Some.ensures.value) sets)

pub returns-in-Some-clause-ok : goal.returns-in-Some-clause-ok
unfolding is_there
returns-in-Some-clause-ok c = λ q z.
    let after = c.get_mut.follows.lender c.insert.new.self in
    let sets = btree_map_updates_text c.args.name.now c.args.self.now.numbers after (Some c.insert.new.self)
    ((c.get_mut.follows.holds c.insert.new.self).3 (subst IsSome c.in-Some.ensures.value refl)) in
    one_more (get_by_text c.args.self.now.numbers) (get_by_text after) c.args.name.now q c.args.number z c.insert.new.self
    (c.in_ok-insert.ensures.updates.0 z ∙ ap (λ (k : ℤ). cond (int_eq k z) true (contains int_cmp c.in-Some.numbers.now z)) (to_z-of_z w32 c.args.number c.ranges.number) ∙ ap (λ o. cond (int_eq c.args.number z) true (is_in z o)) c.in-Some.ensures.value) sets

pub returns-in_err-insert-3-clause-err : goal.returns-in_err-insert-3-clause-err
unfolding is_there
returns-in_err-insert-3-clause-err c = on_any_err c.from_residual-in_err-insert-3.result (λ q z.
    ap (λ es. is_in z (lookup (is_at (text_cmp q)) es)) c.in_err-insert-3.ensures.err ∙ ap (λ m. is_in z (get_by_text m q)) c.get_mut.follows.holds-at-none)

pub returns-clause-ok : goal.returns-clause-ok
unfolding is_there
returns-clause-ok c = λ q z.
    let is_name = IfOk-at_ok (λ s. string_bytes s ≡ c.args.name.now) c.in_ok-key.was c.from_str.ensures.ok in
    let same = c.get_mut.follows.holds-at-none in
    let sets = btree_map_updates_text (string_bytes c.in_ok-key.key) c.get_mut.follows.lender-at-none c.insert-3.new.self _ c.in_ok-insert-3.ensures.updates in
    one_more (get_by_text c.args.self.now.numbers) (get_by_text c.insert-3.new.self) c.args.name.now q c.args.number z c.insert-2.new.self
    (first_one z c.args.number c.new-numbers.result c.insert-2.new.self (get_by_text c.args.self.now.numbers c.args.name.now) c.new-numbers.ensures.empty
    (c.in_ok-insert-2.ensures.updates.0 z ∙ ap (λ (k : ℤ). cond (int_eq k z) true (contains int_cmp c.new-numbers.result z)) (to_z-of_z w32 c.args.number c.ranges.number)) (sym c.in_default.ensures.value)) (rw (is_name, same) at sets)
