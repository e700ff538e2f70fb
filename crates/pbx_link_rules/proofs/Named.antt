-- Each message or enum of a pool is the first of its full name.
use Rattle.std.proofs.Common.{◌≡◌, ◌∙◌, ℕ, zero, suc, ◌+◌, ◌<◌, ◌≤◌, cond, List, [], ◌∷◌}
use Rattle.std.proofs.Common.{map, length, get_or, Bool, true, false, if◌then◌else◌, Some, refl, ap, sym, arith}
use Rattle.std.specs.Prelude.{Contains, find}
use Rattle.std.specs.List.{flat_map, enumerate_from}
use Rattle.std.specs.Str.{bytes_eq}
use Rattle.std.proofs.lemmas.Slice.Eq.{bytes_eq-Decides}
use Rattle.pbx_desc_records.specs.declared.file.FileDescriptorProto.{FileDescriptorProto}
use Rattle.pbx_desc_records.specs.declared.message.DescriptorProto.{DescriptorProto}
use Rattle.pbx_link_definitions.specs.Definitions.{Place, Part, message_name, messages}
use Rattle.pbx_link_definitions.specs.Says.{own_fields}
use Rattle.pbx_link_scope.specs.declared.types.Bound.{Bound}
use Rattle.pbx_link_scope.specs.Scope.{bound_name}
use Rattle.pbx_link_scope.specs.Pooled.{by_file, file_types}
use Rattle.pbx_link_rules.specs.PoolLaws.{TypesAreNamed, MessagesAreNamed, FieldsAreHeld}
use Rattle.pbx_link_rules.proofs.Lists.{parts_from}
use Rattle.pbx_link_rules.proofs.Counted.{count, count_append, count_map, typed_once, message_once}
use Rattle.pbx_link_rules.proofs.Distinct.{pooled_are_distinct}

-- ---- the only one that passes a test

module _ {X : Type 0} (test : X → Bool) (x : X) (passes : test x ≡ true) where
  abbrev at_one : Bool → ℕ
  at_one b = if b then 1 else 0

  counted : (xs : List X) (i : ℕ) → i < length xs → get_or xs i x ≡ x → 1 ≤ count test xs
  counted [] i lt e = absurd (omega (arith, lt))
  counted (y ∷ ys) zero lt e =
      let one : at_one (test y) ≡ 1 = ap at_one (ap test e ∙ passes) in
      omega (arith, one)
  counted (y ∷ ys) (suc i) lt e = let more = counted ys i (omega (arith, lt)) e in omega (arith, more)

  found : (xs : List X) (i : ℕ) → i < length xs → get_or xs i x ≡ x → count test xs ≤ 1 → find test xs ≡ Some x
  found [] i lt e once = absurd (omega (arith, lt))
  found (y ∷ ys) zero lt e once =
      ap (λ (b : Bool). cond b (Some y) (find test ys)) (ap test e ∙ passes) ∙ ap (λ (z : X). Some z) e
  found (y ∷ ys) (suc i) lt e once = at (test y) (counted ys i (omega (arith, lt)) e) once (found ys i (omega (arith, lt)) e)
    where
      at : (b : Bool) → 1 ≤ count test ys → (if b then 1 else 0) + count test ys ≤ 1 → (count test ys ≤ 1 → find test ys ≡ Some x)
          → cond b (Some y) (find test ys) ≡ Some x
      at true more less ih = absurd (omega (arith, more, less))
      at false more less ih = ih (omega (arith, less))

  pub only_found : (xs : List X) → Contains xs x → count test xs ≤ 1 → find test xs ≡ Some x
  only_found xs h once = found xs h.0 h.1 h.2 once

-- ---- what is told of each file

module _ {X : Type 0} (tell : FileDescriptorProto → List X) (test : X → Bool) where
  told_from : (k : ℕ) (files : List FileDescriptorProto)
      → count (λ (t : ℕ × X). test t.1) (flat_map (λ f. map (λ x. (f.0, x)) (tell f.1)) (enumerate_from k files)) ≡ count test (flat_map tell files)
  told_from k [] = refl
  told_from k (f ∷ fs) =
      let rest : List (ℕ × X) = flat_map (λ g. map (λ x. (g.0, x)) (tell g.1)) (enumerate_from (k + 1) fs) in
      count_append (λ (t : ℕ × X). test t.1) (map (λ (x : X). (k, x)) (tell f)) rest
      ∙ ap (λ (n : ℕ). n + count (λ (t : ℕ × X). test t.1) rest) (count_map (λ (t : ℕ × X). test t.1) (λ (x : X). (k, x)) (tell f))
      ∙ ap (λ (n : ℕ). count test (tell f) + n) (told_from (k + 1) fs) ∙ sym (count_append test (tell f) (flat_map tell fs))

  pub told_once : (files : List FileDescriptorProto) → count test (flat_map tell files) ≤ 1 → count (λ (t : ℕ × X). test t.1) (by_file tell files) ≤ 1
  told_once files h = let same = told_from 0 files in omega (arith, same, h)

pub same_name : (name : List ℕ) → bytes_eq name name ≡ true
same_name name = (bytes_eq-Decides name name).1 refl

pub types_are_named : TypesAreNamed
types_are_named files t h there =
    only_found (λ (b : ℕ × Bound). bytes_eq (bound_name b.1) (bound_name t.1)) t (same_name (bound_name t.1)) (by_file file_types files) there
    (told_once file_types (λ (b : Bound). bytes_eq (bound_name b) (bound_name t.1)) files (typed_once files (pooled_are_distinct files h) (bound_name t.1)))

pub messages_are_named : MessagesAreNamed
messages_are_named files d h there =
    only_found (λ (m : ℕ × Part DescriptorProto). bytes_eq (message_name m.1) (message_name d.1)) d (same_name (message_name d.1))
    (by_file messages files) there
    (told_once messages (λ (m : Part DescriptorProto). bytes_eq (message_name m) (message_name d.1)) files
    (message_once files (pooled_are_distinct files h) (message_name d.1)))

-- ---- fields

-- each has the scope of the list
scope_of : {X : Type 0} (scope : List ℕ) (place : Place) (n k : ℕ) (xs : List X) (p : Part X) (i : ℕ)
    → i < length (parts_from scope place n k xs) → get_or (parts_from scope place n k xs) i p ≡ p
    → p.scope ≡ scope
scope_of scope place n k [] p i lt e = absurd (omega (arith, lt))
scope_of {X} scope place n k (x ∷ xs) p zero lt e = ap (λ (q : Part X). q.scope) (sym e)
scope_of scope place n k (x ∷ xs) p (suc i) lt e = scope_of scope place n (k + 1) xs p i (omega (arith, lt)) e

pub fields_are_held : FieldsAreHeld
fields_are_held files d x h there inside =
    ap (λ (name : List ℕ). find (λ (m : ℕ × Part DescriptorProto). bytes_eq (message_name m.1) name) (by_file messages files))
    (scope_of (message_name d.1) d.1.place 2 0 (own_fields d.1.item) x inside.0 inside.1 inside.2)
    ∙ messages_are_named files d h there
