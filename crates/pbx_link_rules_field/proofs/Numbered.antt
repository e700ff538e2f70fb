-- Numbers that fields have, and the set of those seen.
use Rattle.std.proofs.Common.{◌≡◌, ◌∙◌, ℕ, ◌+◌, ◌<◌, Bool, true, false, not, ◌||◌, ◌&&◌, List, [], ◌∷◌, length, take, get_or, is_eq, refl, ap, sym}
use Rattle.std.proofs.Common.{Decides, arith}
use Rattle.std.specs.Prelude.{ℤ, int_le, Option, Some, None}
use Rattle.std.specs.List.{list_any}
use Rattle.std.specs.Ordering.{int_cmp}
use Rattle.std.specs.BTreeMap.{is_at}
use Rattle.std.specs.BTreeSet.{insert_key}
use Rattle.std.proofs.lemmas.List.Folds.{list_any_more}
use Rattle.pbx_desc_records.specs.declared.field.FieldDescriptorProto.{FieldDescriptorProto}
use Rattle.pbx_link_definitions.specs.Says.{are_equal}
use Rattle.pbx_link_definitions.specs.Found.{is_earlier}
use Rattle.pbx_link_definitions.proofs.Seen.{swap, was_there, was_new, contains_is, has_inserted, equal, tied, decides}
use Rattle.pbx_link_definitions.proofs.Indexes.{or_none, any_default}

-- both fields have one number
abbrev pub like : FieldDescriptorProto → FieldDescriptorProto → Bool
like x y = are_equal x.number y.number

-- one of the fields has the number
abbrev pub has_number : List FieldDescriptorProto → ℤ → Bool
has_number xs q = list_any (λ (y : FieldDescriptorProto). are_equal (Some q) y.number) xs

-- the set's keys are the numbers of the fields
abbrev pub Holds : List ℤ → List FieldDescriptorProto → Type 0
Holds keys xs = (q : ℤ) → list_any (λ k. equal q k) keys ≡ has_number xs q

none_equal : (xs : List FieldDescriptorProto) → list_any (λ (y : FieldDescriptorProto). are_equal None y.number) xs ≡ false
none_equal [] = refl
none_equal (x ∷ xs) = none_equal xs

-- the field at i, when the set has the numbers of those before it
module _ (xs : List FieldDescriptorProto) (i : ℕ) (x : FieldDescriptorProto) (keys : List ℤ) (within : i < length xs) (is : x
    ≡ get_or xs i x) (seen : Holds keys (take i xs)) where
  here : (d : FieldDescriptorProto) → get_or xs i d ≡ x
  here d = any_default xs i d x within ∙ sym is

  more : (q : ℤ) → has_number (take (i + 1) xs) q ≡ (has_number (take i xs) q || are_equal (Some q) x.number)
  more q = list_any_more (λ (y : FieldDescriptorProto). are_equal (Some q) y.number) xs i x within
      ∙ ap (λ (y : FieldDescriptorProto). has_number (take i xs) q || are_equal (Some q) y.number) (sym is)

  -- it has a number
  module _ (z : ℤ) (has : x.number ≡ Some z) where
    told : (d : FieldDescriptorProto) (b : Bool) → list_any (is_at (int_cmp z)) keys ≡ b → is_earlier like xs i (get_or xs i d) ≡ b
    told d b h =
        ap (λ (y : FieldDescriptorProto). is_earlier like xs i y) (here d)
        ∙ ap (λ (n : Option ℤ). list_any (λ (y : FieldDescriptorProto). are_equal n y.number) (take i xs)) has
        ∙ sym (seen z) ∙ sym (contains_is int_cmp (λ k. k) equal tied decides z keys) ∙ h

    pub number_there : (added : Bool) → added ≡ not (list_any (is_at (int_cmp z)) keys) → added ≡ false → (d : FieldDescriptorProto)
        → is_earlier like xs i (get_or xs i d) ≡ true
    number_there added e h d = told d true (was_there added _ e h)

    pub number_new : (added : Bool) → added ≡ not (list_any (is_at (int_cmp z)) keys) → added ≡ true → (d : FieldDescriptorProto)
        → is_earlier like xs i (get_or xs i d) ≡ false
    number_new added e h d = told d false (was_new added _ e h)

    pub number_added : (after : List ℤ) → after ≡ insert_key int_cmp keys z → Holds after (take (i + 1) xs)
    number_added after e q =
        ap (λ (ks : List ℤ). list_any (λ k. equal q k) ks) e ∙ has_inserted int_cmp (λ k. k) equal tied decides q z keys
        ∙ swap (equal q z) (list_any (λ k. equal q k) keys)
        ∙ ap (λ b. b || equal q z) (seen q) ∙ ap (λ (n : Option ℤ). has_number (take i xs) q || are_equal (Some q) n) (sym has) ∙ sym (more q)

  -- it has none
  module _ (none : x.number ≡ None) where
    pub no_number_new : (d : FieldDescriptorProto) → is_earlier like xs i (get_or xs i d) ≡ false
    no_number_new d =
        ap (λ (y : FieldDescriptorProto). is_earlier like xs i y) (here d)
        ∙ ap (λ (n : Option ℤ). list_any (λ (y : FieldDescriptorProto). are_equal n y.number) (take i xs)) none ∙ none_equal (take i xs)

    pub no_number_added : (after : List ℤ) → after ≡ keys → Holds after (take (i + 1) xs)
    no_number_added after e q =
        ap (λ (ks : List ℤ). list_any (λ k. equal q k) ks) e ∙ seen q ∙ sym (or_none (has_number (take i xs) q))
        ∙ ap (λ (n : Option ℤ). has_number (take i xs) q || are_equal (Some q) n) (sym none) ∙ sym (more q)
