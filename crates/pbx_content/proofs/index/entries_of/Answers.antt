use Rattle.std.proofs.Common.{◌≡◌, ℕ, List, true, false, sym, ap, ◌∙◌, subst, rules}
use Rattle.std.specs.List.Sorted.{IsPermutation}
use Rattle.std.proofs.lemmas.List.Sorted.{IsNonDecreasingBy-from_sort_by_key}
use Rattle.pbx_content.specs.Index.{ascend, IsIndexOf}
use Rattle.pbx_content.proofs.SchemaIndex.{proper_good, proper_ascends, index_proper}
use Rattle.pbx_content.proofs.index.entries_of.Goals as goal

pub returns-then-not-are_good : goal.returns-then-not-are_good
returns-then-not-are_good c =
    λ proper. (let good = proper_good c.args.fields.now proper in let bad : true ≡ false = sym good ∙ sym c.are_good.ensures ∙ c.if-not-are_good.true in cc)

pub returns-then-not-are_ascending : goal.returns-then-not-are_ascending
returns-then-not-are_ascending c = λ proper.
    let up = IsNonDecreasingBy-from_sort_by_key (λ (e : ℕ × ℕ). e.0) _ c.sort_unstable_by_key.ensures.sorted (λ a r q k. search rules) in
    let moved =
    subst
    (λ (es : List (ℕ × ℕ)). IsPermutation es c.sort_unstable_by_key.new.self.items) c.in_ok-entries.ensures c.sort_unstable_by_key.ensures.permutation in
    let ascends = proper_ascends c.args.fields.now c.sort_unstable_by_key.new.self.items proper moved up in
    let bad : true ≡ false = sym ascends ∙ ap (ascend 0) (sym c.as_slice.ensures.value) ∙ sym c.are_ascending.ensures ∙ c.if-not-are_ascending.true in
    cc

pub returns : goal.returns
returns c =
    let moved =
    subst
    (λ (es : List (ℕ × ℕ)). IsPermutation es c.sort_unstable_by_key.new.self.items) c.in_ok-entries.ensures c.sort_unstable_by_key.ensures.permutation in
    let index : IsIndexOf c.args.fields.now c.sort_unstable_by_key.new.self.items = record {
      ascending = ap (ascend 0) (sym c.as_slice.ensures.value) ∙ sym c.are_ascending.ensures ∙ c.if-not-are_ascending.false;
      moved = moved;
    } in
    (index_proper c.args.fields.now c.sort_unstable_by_key.new.self.items (sym c.are_good.ensures ∙ c.if-not-are_good.false) index, index)
