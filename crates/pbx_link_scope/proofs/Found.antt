-- What a look-up in one scope says of the look-up from it outward.
use Rattle.std.proofs.Common.{◌≡◌, ◌≢◌, ◌∙◌, ℕ, suc, ◌<◌, ◌||◌, List, [], ◌∷◌, ◌++◌, length, get_or, Bool, true, false, Option, Some, None, if◌then◌else◌, refl, ap, sym, arith}
use Rattle.std.specs.Prelude.{◌==◌}
use Rattle.std.specs.Option.{option_or}
use Rattle.std.proofs.lemmas.Bool.Decides.{nat_tests}
use Rattle.pbx_desc_records.specs.declared.file.FileDescriptorProto.{FileDescriptorProto}
use Rattle.pbx_link_definitions.specs.Names.{qualified, first_part, has_dot, outward}
use Rattle.pbx_link_scope.specs.declared.types.Bound.{Bound}
use Rattle.pbx_link_scope.specs.Scope.{outer, type_named, is_scope_name, first_type, type_in_first, type_from, bound}
use Rattle.pbx_link_scope.proofs.Outward.{steps_outward}

or_twice : {X : Type 0} (a : Option X) → option_or a (option_or a None) ≡ option_or a None
or_twice None = refl
or_twice (Some x) = refl

or_none : {X : Type 0} (a : Option X) → option_or a None ≡ a
or_none None = refl
or_none (Some x) = refl

if_twice : {X : Type 0} (c : Bool) (a : X) (b : X) → (if c then a else (if c then a else b)) ≡ (if c then a else b)
if_twice true a b = refl
if_twice false a b = refl

module _ (files : List FileDescriptorProto) (name : List ℕ) where
  -- ---- the first type of the name

  first_step : (s : List ℕ) → 0 < length s → first_type files name (outward s) ≡ option_or (type_named files (qualified s name)) (first_type files name (outward (outer s)))
  unfolding first_type
  first_step s h =
      steps_outward (first_type files name) (λ (t : List ℕ) (r : Option Bound). option_or (type_named files (qualified t name)) r) (λ t ts. refl) (or_twice (type_named files name)) s h

  pub first_on : (s : List ℕ) → 0 < length s → None ≡ type_named files (qualified s name) → first_type files name (outward (outer s)) ≡ first_type files name (outward s)
  first_on s h none = sym (first_step s h ∙ ap (λ (a : Option Bound). option_or a (first_type files name (outward (outer s)))) (sym none))

  pub first_here : (s : List ℕ) (b : Bound) → 0 < length s → Some b ≡ type_named files (qualified s name) → Some b ≡ first_type files name (outward s)
  first_here s b h some = sym (first_step s h ∙ ap (λ (a : Option Bound). option_or a (first_type files name (outward (outer s)))) (sym some))

  pub first_root : type_named files name ≡ first_type files name (outward [])
  unfolding first_type
  first_root = sym (or_none (type_named files name))

  -- ---- the type in the first scope that has the first part of the name

  decided_step : (s : List ℕ) → 0 < length s
      → type_in_first files name (outward s) ≡ (if is_scope_name files (qualified s (first_part name)) then type_named files (qualified s name) else type_in_first files name (outward (outer s)))
  unfolding type_in_first
  decided_step s h =
      steps_outward (type_in_first files name) (λ (t : List ℕ) (r : Option Bound). if is_scope_name files (qualified t (first_part name)) then type_named files (qualified t name) else r) (λ t ts. refl)
      (if_twice (is_scope_name files (first_part name)) (type_named files name) None) s h

  pub decided_on : (s : List ℕ) → 0 < length s → false ≡ is_scope_name files (qualified s (first_part name)) → type_in_first files name (outward (outer s)) ≡ type_in_first files name (outward s)
  decided_on s h unknown = sym (decided_step s h ∙ ap (λ (c : Bool). if c then type_named files (qualified s name) else type_in_first files name (outward (outer s))) (sym unknown))

  pub decided_here : (s : List ℕ) → 0 < length s → true ≡ is_scope_name files (qualified s (first_part name)) → type_named files (qualified s name) ≡ type_in_first files name (outward s)
  decided_here s h known = sym (decided_step s h ∙ ap (λ (c : Bool). if c then type_named files (qualified s name) else type_in_first files name (outward (outer s))) (sym known))

  pub decided_root : true ≡ is_scope_name files (first_part name) → type_named files name ≡ type_in_first files name (outward [])
  unfolding type_in_first
  decided_root known = ap (λ (c : Bool). if c then type_named files name else None) known

  pub undecided : false ≡ is_scope_name files (first_part name) → None ≡ type_in_first files name (outward [])
  unfolding type_in_first
  undecided unknown = ap (λ (c : Bool). if c then type_named files name else None) unknown

-- ---- dots in the name

pub filled : (s : List ℕ) → false ≡ (length s == 0) → 0 < length s
filled [] h = absurd (cc)
filled (b ∷ bs) h = omega arith

pub root : (s : List ℕ) → true ≡ (length s == 0) → s ≡ []
root [] h = refl
root (b ∷ bs) h = absurd (let some : 0 < length (b ∷ bs) = omega arith in grind (arith, nat_tests, h, some))

-- what stands before the first dot
first_part_at : (xs ys : List ℕ) → ((i : ℕ) → i < length xs → get_or xs i 0 ≢ 46) → first_part (xs ++ 46 ∷ ys) ≡ xs
unfolding first_part
first_part_at [] ys h = refl
first_part_at (x ∷ xs) ys h = by_test (x == 46) refl (first_part_at xs ys (λ i lt. h (suc i) (omega (arith, lt))))
  where
    by_test : (c : Bool) → x == 46 ≡ c → first_part (xs ++ 46 ∷ ys) ≡ xs → (if c then [] else x ∷ first_part (xs ++ 46 ∷ ys)) ≡ x ∷ xs
    by_test true w rest = absurd (h 0 (omega arith) (grind (arith, nat_tests, w)))
    by_test false w rest = ap (λ (t : List ℕ). x ∷ t) rest

pub first_part_is : (name xs ys : List ℕ) → name ≡ xs ++ 46 ∷ ys → ((i : ℕ) → i < length xs → get_or xs i 0 ≢ 46) → xs ≡ first_part name
first_part_is name xs ys e h = sym (ap first_part e ∙ first_part_at xs ys h)

dot_between : (xs ys : List ℕ) → has_dot (xs ++ 46 ∷ ys) ≡ true
dot_between [] ys = refl
dot_between (x ∷ xs) ys = by_test (x == 46) (dot_between xs ys)
  where
    by_test : (c : Bool) → has_dot (xs ++ 46 ∷ ys) ≡ true → (c || has_dot (xs ++ 46 ∷ ys)) ≡ true
    by_test true rest = refl
    by_test false rest = rest

pub has_parts : (name xs ys : List ℕ) → name ≡ xs ++ 46 ∷ ys → has_dot name ≡ true
has_parts name xs ys e = ap (λ (n : List ℕ). has_dot n) e ∙ dot_between xs ys

-- ---- names as they are written

module _ (files : List FileDescriptorProto) (scope : List ℕ) where
  pub unnamed : (name : List ℕ) → name ≡ [] → None ≡ bound files scope name
  unfolding bound
  unnamed name e = sym (ap (bound files scope) e)

  pub exact : (name rest : List ℕ) → name ≡ 46 ∷ rest → type_named files rest ≡ bound files scope name
  unfolding bound
  exact name rest e = sym (ap (bound files scope) e)

  pub looked_up : (name : List ℕ) → 0 < length name → ((rest : List ℕ) → name ≢ 46 ∷ rest) → type_from files scope name ≡ bound files scope name
  unfolding bound
  looked_up [] h plain = absurd (omega (arith, h))
  looked_up (b ∷ bs) h plain = by_test (b == 46) refl
    where
      by_test : (c : Bool) → b == 46 ≡ c → type_from files scope (b ∷ bs) ≡ (if c then type_named files bs else type_from files scope (b ∷ bs))
      by_test true w = absurd (plain bs (ap (λ (d : ℕ). d ∷ bs) (grind (arith, nat_tests, w))))
      by_test false w = refl
