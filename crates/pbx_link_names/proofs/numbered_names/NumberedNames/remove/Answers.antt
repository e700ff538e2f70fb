use Rattle.std.proofs.Common.{ap, ◌∙◌, sym, subst, refl, w32, Some, ℤ, cond, false}
use Rattle.std.specs.BTreeMap.{get_by_text}
use Rattle.std.specs.BTreeSet.{contains}
use Rattle.std.specs.Option.{IsSome}
use Rattle.std.specs.Ordering.{int_eq, int_cmp}
use Rattle.std.proofs.lemmas.Map.Text.{btree_map_updates_text}
use Rattle.std.proofs.lemmas.Int.{to_z-of_z}
use Rattle.pbx_link_names.specs.Numbers.{is_there, is_in}
use Rattle.pbx_link_names.proofs.Sets.{one_less, none_less}
use Rattle.pbx_link_names.proofs.numbered_names.NumberedNames.remove.Goals as goal

pub returns-in-Some : goal.returns-in-Some
unfolding is_there
returns-in-Some c = λ q z.
    let sets = btree_map_updates_text c.args.name.now c.args.self.now.numbers (c.get_mut.follows.lender c.remove.new.self) (Some c.remove.new.self)
    ((c.get_mut.follows.holds c.remove.new.self).3 (subst IsSome c.in-Some.ensures.value refl)) in
    one_less (get_by_text c.args.self.now.numbers) (get_by_text (c.get_mut.follows.lender c.remove.new.self)) c.args.name.now q c.args.number z c.remove.new.self
    (c.remove.ensures.updates.0 z ∙ ap (λ (k : ℤ). cond (int_eq k z) false (contains int_cmp c.in-Some.numbers.now z)) (to_z-of_z w32 c.args.number c.ranges.number) ∙ ap (λ o. cond (int_eq c.args.number z) false (is_in z o)) c.in-Some.ensures.value) sets

pub returns-in_default : goal.returns-in_default
unfolding is_there
returns-in_default c = λ q z.
    ap (λ m. is_in z (get_by_text m q)) c.get_mut.follows.holds-at-none ∙ none_less (get_by_text c.args.self.now.numbers) c.args.name.now q c.args.number z (sym c.in_default.ensures.value)
