-- Indexes of enums.
use Rattle.std.proofs.Common.{◌≡◌, ℕ, zero, suc, ◌+◌, ◌<◌, ℤ, List, [], ◌∷◌, length, drop, get_or, Bool, true, false, cond, if◌then◌else◌, Some}
use Rattle.std.proofs.Common.{IfSome, option_and_then, refl, sym, ap, subst, ◌∙◌, arith}
use Rattle.std.specs.Prelude.{slice_get}
use Rattle.std.specs.BTreeMap.{BTreeMap, get, is_at}
use Rattle.std.specs.Map.{lookup}
use Rattle.std.specs.Ordering.{nat_cmp, int_cmp, int_eq, is_eq}
use Rattle.std.proofs.lemmas.Bool.Decides.{nat_tests}
use Rattle.pbx_content.specs.Shape.{enum_values_of}
use Rattle.pbx_content.specs.declared.shape.EnumValueShape.{EnumValueShape}
use Rattle.pbx_content.specs.declared.shape.Shape.{Shape}
use Rattle.pbx_json_meaning.specs.Canonical.{value_of_number}
use Rattle.pbx_json_writing.specs.Indexes.{value_at, IsIndexOf, AreEnumIndexes}

slice_here : (vs : List EnumValueShape) (i : ℕ) (v : EnumValueShape) → i < length vs → v ≡ get_or vs i v → slice_get vs i ≡ Some v
slice_here [] i v h is = absurd (omega arith)
slice_here (w ∷ vs) zero v h is = ap Some (sym is)
slice_here (w ∷ vs) (suc i) v h is = slice_here vs i v (omega arith) is

drop_here : (vs : List EnumValueShape) (i : ℕ) (v : EnumValueShape) → i < length vs → v ≡ get_or vs i v → drop i vs ≡ v ∷ drop (suc i) vs
drop_here [] i v h is = absurd (omega arith)
drop_here (w ∷ vs) zero v h is = ap (λ z. z ∷ vs) (sym is)
drop_here (w ∷ vs) (suc i) v h is = drop_here vs i v (omega arith) is

-- an index with the value before those that it has
pub index_more : (vs : List EnumValueShape) (left i : ℕ) (v : EnumValueShape) (old new : BTreeMap ℤ ℕ) → left ≡ i + 1 → i < length vs → v ≡ get_or vs i v
    → ((q : ℤ) → get int_cmp new q ≡ cond (is_at (int_cmp v.number) q) (Some i) (get int_cmp old q))
    → ((z : ℤ) → value_at vs old z ≡ value_of_number z (drop left vs)) → (z : ℤ) → value_at vs new z ≡ value_of_number z (drop i vs)
index_more vs left i v old new next within is set so z =
    ap (option_and_then (λ j. slice_get vs j)) (set z)
    ∙ at (int_eq v.number z)
    ∙ ap (value_of_number z) (sym (drop_here vs i v within is))
  where
    after : left ≡ suc i
    after = omega arith

    at : (b : Bool) → option_and_then (λ j. slice_get vs j) (cond b (Some i) (get int_cmp old z))
        ≡ (if b then Some v else value_of_number z (drop (suc i) vs))
    at true = slice_here vs i v within is
    at false = so z ∙ ap (λ n. value_of_number z (drop n vs)) after

-- indexes with one more
pub indexes_more : (shape : Shape) (e : ℕ) (index : BTreeMap ℤ ℕ) (old new : BTreeMap ℕ (BTreeMap ℤ ℕ)) → AreEnumIndexes shape old
    → IsIndexOf (enum_values_of shape e) index → ((q : ℕ) → get nat_cmp new q ≡ cond (is_at (nat_cmp e) q) (Some index) (get nat_cmp old q))
    → AreEnumIndexes shape new
unfolding AreEnumIndexes
indexes_more shape e index old new known is set q = rw (set q) (at (is_at (nat_cmp e) q) refl)
  where
    same_place : (q : ℕ) → is_eq (nat_cmp e q) ≡ true → e ≡ q
    same_place q h = grind (arith, nat_tests)

    at : (b : Bool) → is_at (nat_cmp e) q ≡ b → IfSome (cond b (Some index) (get nat_cmp old q)) (IsIndexOf (enum_values_of shape q))
    at true h = subst (λ p. IsIndexOf (enum_values_of shape p) index) (same_place q h) is
    at false h = known q

-- indexes of the same entries
pub indexes_same : (shape : Shape) (old new : BTreeMap ℕ (BTreeMap ℤ ℕ)) → AreEnumIndexes shape old → new.entries ≡ old.entries → AreEnumIndexes shape new
unfolding AreEnumIndexes
indexes_same shape old new known same e =
    subst (λ es. IfSome (lookup (is_at (nat_cmp e)) es) (IsIndexOf (enum_values_of shape e))) (sym same) (known e)

-- an index that is found
pub index_known : (shape : Shape) (indexes : BTreeMap ℕ (BTreeMap ℤ ℕ)) (e : ℕ) (index : BTreeMap ℤ ℕ) → AreEnumIndexes shape indexes
    → Some index ≡ get nat_cmp indexes e → IsIndexOf (enum_values_of shape e) index
unfolding AreEnumIndexes
index_known shape indexes e index known found = subst (λ o. IfSome o (IsIndexOf (enum_values_of shape e))) (sym found) (known e)

-- no index
pub indexes_none : (shape : Shape) (indexes : BTreeMap ℕ (BTreeMap ℤ ℕ)) → indexes.entries ≡ [] → AreEnumIndexes shape indexes
unfolding AreEnumIndexes
indexes_none shape indexes empty e =
    subst (λ es. IfSome (lookup (is_at (nat_cmp e)) es) (IsIndexOf (enum_values_of shape e))) (sym empty) tt
