-- Among the values of an enum each name is found once, and each number has 32 bits.
use Rattle.std.proofs.Common.{◌≡◌, ◌∙◌, ◌⊎◌, ℕ, ℤ, pos, negsuc, zero, suc, ◌+◌, ◌≤◌, ◌<◌, ◌&&◌, int_le, if◌then◌else◌, cond, List, [], ◌∷◌, map, Bool, true, false, Option, Some, None, refl, ap, sym, subst, inl, inr, arith}
use Rattle.std.specs.Prelude.{Contains, find}
use Rattle.std.specs.List.{All, list_all, enumerate_from}
use Rattle.std.specs.Int.{w32}
use Rattle.std.specs.Int.RustNames.{FitsSigned}
use Rattle.std.specs.Ordering.{int_eq}
use Rattle.std.specs.Str.{bytes_eq}
use Rattle.std.proofs.lemmas.Slice.Eq.{bytes_eq-Decides}
use Rattle.std.proofs.lemmas.Bool.Decides.{nat_tests}
use Rattle.std.proofs.lemmas.List.Elements.{All-head, All-tail}
use Rattle.pbx_content.specs.Shape.{enum_values_at}
use Rattle.pbx_content.specs.declared.shape.EnumShape.{EnumShape}
use Rattle.pbx_content.specs.declared.shape.EnumValueShape.{EnumValueShape}
use Rattle.pbx_desc_records.specs.declared.enumeration.EnumDescriptorProto.{EnumDescriptorProto}
use Rattle.pbx_desc_records.specs.declared.enumeration.EnumValueDescriptorProto.{EnumValueDescriptorProto}
use Rattle.pbx_desc_records.specs.declared.file.FileDescriptorProto.{FileDescriptorProto}
use Rattle.pbx_link_definitions.specs.Names.{text_or_empty, qualified}
use Rattle.pbx_link_definitions.specs.Definitions.{Part, Place, Defined, part, values_in, value_definitions, defined, enums}
use Rattle.pbx_link_definitions.specs.declared.definitions.Sort.TheVariants.{Value as a_value}
use Rattle.pbx_link_rules.specs.Pool.{ArePooled}
use Rattle.pbx_link_rules.proofs.Counted.{count, count_map, is_called}
use Rattle.pbx_link_rules.proofs.Lists.{here, there}
use Rattle.pbx_link_meaning.specs.Descriptors.{Described, values_of_enum}
use Rattle.pbx_link_meaning.specs.Shapes.{value_shape, enum_shape}
use Rattle.pbx_link_meaning.proofs.DescribedLists.{parts_of_described}
use Rattle.pbx_link_shapes.specs.EnumNumbers.{AreEnumNumbers}
use Rattle.pbx_json_meaning.specs.Canonical.{value_of_number}
use Rattle.pbx_json_meaning.specs.Named.{has_enum_number}
use Rattle.pbx_json_meaning.specs.Scalars.{value_named}
use Rattle.pbx_json_laws.proofs.Once.{find_only}
use Rattle.pbx_json_laws.proofs.Defined.{values_once}
use Rattle.pbx_json_laws.proofs.Places.{IsPart}

same_bytes : (s : List ℕ) → bytes_eq s s ≡ true
same_bytes s = (bytes_eq-Decides s s).1 refl

-- ---- names

abbrev own : Part EnumValueDescriptorProto → List ℕ
own p = text_or_empty p.item.name

abbrev value_definition : Part EnumValueDescriptorProto → Defined
value_definition p = defined a_value (λ (v : EnumValueDescriptorProto). v.name) p

-- values of one scope and one name have one full name
scoped : (scope name : List ℕ) (place : Place) (n : ℕ) (xs : List (ℕ × EnumValueDescriptorProto))
    → count (λ p. bytes_eq (own p) name) (map (λ (x : ℕ × EnumValueDescriptorProto). part scope place n x.0 x.1) xs)
    ≤ count (is_called (qualified scope name)) (map value_definition (map (λ (x : ℕ × EnumValueDescriptorProto). part scope place n x.0 x.1) xs))
scoped scope name place n [] = omega arith
scoped scope name place n (x ∷ xs) = at (bytes_eq (text_or_empty x.1.name) name) refl (scoped scope name place n xs)
  where
    rest : ℕ
    rest = count (λ p. bytes_eq (own p) name) (map (λ (y : ℕ × EnumValueDescriptorProto). part scope place n y.0 y.1) xs)

    all : ℕ
    all = count (is_called (qualified scope name)) (map value_definition (map (λ (y : ℕ × EnumValueDescriptorProto). part scope place n y.0 y.1) xs))

    called : bytes_eq (text_or_empty x.1.name) name ≡ true → bytes_eq (qualified scope (text_or_empty x.1.name)) (qualified scope name) ≡ true
    called h =
        ap (λ (s : List ℕ). bytes_eq (qualified scope s) (qualified scope name)) ((bytes_eq-Decides (text_or_empty x.1.name) name).0 h)
        ∙ same_bytes (qualified scope name)

    at : (b : Bool) → bytes_eq (text_or_empty x.1.name) name ≡ b → rest ≤ all
        → (if b then 1 else 0) + rest ≤ (if bytes_eq (qualified scope (text_or_empty x.1.name)) (qualified scope name) then 1 else 0) + all
    at true h less = rw (called h) (omega (arith, less))
    at false h less = omega (arith, less)

-- how many values of an enum have a name
abbrev named : List ℕ → Part EnumDescriptorProto → ℕ
named name p = count (λ x. bytes_eq (own x) name) (values_in p)

-- what is found is there
found_there : {X : Type 0} (test : X → Bool) (xs : List X) (x : X) → find test xs ≡ Some x → Contains xs x
found_there test [] x e = absurd (cc)
found_there {X} test (y ∷ ys) x e = at (test y) e (found_there test ys x)
  where
    at : (b : Bool) → cond b (Some y) (find test ys) ≡ Some x → (find test ys ≡ Some x → Contains ys x) → Contains (y ∷ ys) x
    at true k more = let same : y ≡ x = cc in subst (λ (z : X). Contains (y ∷ ys) z) same (here y ys)
    at false k more = there y x ys (more k)

module _ (pool : List FileDescriptorProto) (pooled : ArePooled [] pool) (d : Described EnumDescriptorProto) (is : IsPart enums pool d) where
  abbrev vs : List EnumValueShape
  vs = (enum_shape d).values

  named_once : (name : List ℕ) → named name d.part ≤ 1
  named_once name =
      let P : Part EnumDescriptorProto → Type 0 = λ p. named name p ≤ 1 in
      let less = scoped is.part.scope name is.part.place 2 (enumerate_from 0 is.part.item.value) in
      let one = values_once (qualified is.part.scope name) pool pooled is.file is.part is.in_pool is.in_file in
      subst P (ap (λ (x : Described EnumDescriptorProto). x.part) is.made) (omega (arith, less, one))

  name_once : (name : List ℕ) → count (λ (v : EnumValueShape). bytes_eq v.name name) vs ≤ 1
  name_once name =
      let same = count_map (λ (v : EnumValueShape). bytes_eq v.name name) value_shape (values_of_enum d)
      ∙ sym (count_map (λ (p : Part EnumValueDescriptorProto). bytes_eq (own p) name) (λ (x : Described EnumValueDescriptorProto). x.part) (values_of_enum d))
      ∙ ap (count (λ (p : Part EnumValueDescriptorProto). bytes_eq (own p) name)) (parts_of_described d.pool d.file (values_in d.part)) in
      let one = named_once name in
      omega (arith, same, one)

  -- a value is found by its name
  pub value_found : (z : ℤ) (v : EnumValueShape) → value_of_number z vs ≡ Some v → value_named v.name vs ≡ Some v
  value_found z v e =
      find_only (λ (w : EnumValueShape). bytes_eq w.name v.name) vs v (found_there (λ (w : EnumValueShape). int_eq w.number z) vs v e) (same_bytes v.name)
      (name_once v.name)

-- ---- numbers

fits : (z : ℤ) → FitsSigned w32 z → has_enum_number z ≡ true
fits (pos n) h = grind (arith, nat_tests, h.sfits)
fits (negsuc n) h = grind (arith, nat_tests, h.sfits)

all_fit : (vs : List EnumValueShape) → All (λ (v : EnumValueShape). FitsSigned w32 v.number) vs → list_all (λ (v : EnumValueShape). has_enum_number v.number) vs ≡ true
all_fit [] h = refl
all_fit (v ∷ vs) h =
    let first : has_enum_number v.number ≡ true = fits v.number (All-head (λ (w : EnumValueShape). FitsSigned w32 w.number) v vs h) in
    rw first (all_fit vs (All-tail (λ (w : EnumValueShape). FitsSigned w32 w.number) v vs h))

abbrev Fit : EnumShape → Type 0
Fit e = All (λ (v : EnumValueShape). FitsSigned w32 v.number) e.values

-- the numbers of the values of an enum
pub numbers_fit : (es : List EnumShape) (e : ℕ) → AreEnumNumbers es → list_all (λ (v : EnumValueShape). has_enum_number v.number) (enum_values_at es e) ≡ true
numbers_fit [] e h = refl
numbers_fit (x ∷ xs) zero h = all_fit x.values (All-head Fit x xs h)
numbers_fit (x ∷ xs) (suc e) h = numbers_fit xs e (All-tail Fit x xs h)
