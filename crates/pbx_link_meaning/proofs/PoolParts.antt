-- Lemmas that pbx_link_rules has too, and keeps to itself.
use Rattle.std.proofs.Common.{◌≡◌, ◌∙◌, ◌⊎◌, ℕ, ◌+◌, ◌||◌, Bool, true, false, cond, List, [], ◌∷◌, ◌++◌, map, Some, inl, inr, refl, sym, ap, subst, arith}
use Rattle.std.specs.Prelude.{pos, Contains, find}
use Rattle.std.specs.List.{flat_map, list_any}
use Rattle.std.proofs.lemmas.List.{append_assoc}
use Rattle.std.proofs.lemmas.List.Elements.{Contains-append_cases}
use Rattle.pbx_desc_records.specs.declared.file.FileDescriptorProto.{FileDescriptorProto}
use Rattle.pbx_desc_records.specs.declared.message.DescriptorProto.{DescriptorProto, out-DescriptorProto}
use Rattle.pbx_desc_records.specs.declared.message.DescriptorProto.TheOpen.{DescriptorProto-F}
use Rattle.pbx_link_definitions.specs.Names.{text_or_empty, qualified}
use Rattle.pbx_link_definitions.specs.Definitions.{Place, Part, parts, message_name, fields_in}
use Rattle.pbx_link_record.specs.Settled.{settled_field, settled_message}
use Rattle.pbx_link_record.specs.Linked.{linked_field, linked_message, linked_record}
use Rattle.pbx_link_record.specs.Laws.{linked_part}
use Rattle.pbx_link_record.proofs.Layers.{linked_open, linked_out, settled_open, settled_out}
use Rattle.pbx_link_rules.specs.Breaches.{keeps_rules}
use Rattle.pbx_link_rules.specs.Pool.{IsLinked, ArePooled}
use Rattle.pbx_link_rules.proofs.LinkedParts.{changed_in, field_linked}
use Rattle.pbx_link_rules.proofs.Lists.{here, there, parts_from}

-- ---- lists

pub map_twice : {A B C : Type 0} (f : A → B) (g : B → C) (xs : List A) → map g (map f xs) ≡ map (λ x. g (f x)) xs
map_twice f g [] = refl
map_twice {A} {B} {C} f g (x ∷ xs) = ap (λ (ys : List C). g (f x) ∷ ys) (map_twice f g xs)

pub any_same : {X : Type 0} (p r : X → Bool) → ((x : X) → p x ≡ r x) → (xs : List X) → list_any p xs ≡ list_any r xs
any_same p r same [] = refl
any_same p r same (x ∷ xs) = ap (λ (b : Bool). b || list_any p xs) (same x) ∙ ap (λ (b : Bool). r x || b) (any_same p r same xs)

pub found_there : {X : Type 0} (test : X → Bool) (xs : List X) (x : X) → find test xs ≡ Some x → Contains xs x
found_there test [] x e = absurd (cc)
found_there {X} test (y ∷ ys) x e = by_test (test y) e (found_there test ys x)
  where
    by_test : (b : Bool) → cond b (Some y) (find test ys) ≡ Some x → (find test ys ≡ Some x → Contains ys x) → Contains (y ∷ ys) x
    by_test true g ih = let same : y ≡ x = cc in subst (λ (z : X). Contains (y ∷ ys) z) same (here y ys)
    by_test false g ih = there y x ys (ih g)

-- ---- fields of a linked message

parts_mapped : {X : Type 0} (g : List ℕ → X → X) (scope : List ℕ) (place : Place) (n k : ℕ) (xs : List X)
    → parts_from scope place n k (map (g scope) xs) ≡ map (changed_in g) (parts_from scope place n k xs)
parts_mapped g scope place n k [] = refl
parts_mapped {X} g scope place n k (x ∷ xs) =
    ap (λ (ps : List (Part X)). record { scope = scope; place = place ++ pos n ∷ pos k ∷ []; index = k; item = g scope x } ∷ ps)
    (parts_mapped g scope place n (k + 1) xs)

module _ (seen : List FileDescriptorProto) where
  pub linked_layer_is : (scope : List ℕ) (m : DescriptorProto)
      → out-DescriptorProto (settled_message (linked_message seen scope m)) ≡ settled_open (linked_open seen scope (out-DescriptorProto m))
  linked_layer_is scope m = settled_out (linked_message seen scope m) ∙ ap settled_open (linked_out seen scope m)

  pub fields_in_linked : (p : Part DescriptorProto) → fields_in (linked_part seen p) ≡ map (changed_in (field_linked seen)) (fields_in p)
  fields_in_linked p =
      let o : DescriptorProto-F DescriptorProto = out-DescriptorProto p.item in
      let name : List ℕ = message_name p in
      ap (λ (l : DescriptorProto-F DescriptorProto). parts (qualified p.scope (text_or_empty l.name)) p.place 2 l.field) (linked_layer_is p.scope p.item)
      ∙ ap (parts name p.place 2) (map_twice (linked_field seen name) settled_field o.field) ∙ parts_mapped (field_linked seen) name p.place 2 0 o.field

-- ---- all files of a pool

-- what holds of each part of a linked record, among the files before it and any after it, holds of each in a pool
module _ {X : Type 0} (tell : FileDescriptorProto → List X) (Holds : List FileDescriptorProto → X → Type 0)
    (of_linked : (before : List FileDescriptorProto) (f : FileDescriptorProto) → keeps_rules before f ≡ true → (after : List FileDescriptorProto) (x : X)
    → Contains (tell (linked_record before f)) x → Holds (before ++ linked_record before f ∷ [] ++ after) x) where
  pub in_pool : (before gs : List FileDescriptorProto) → ArePooled before gs → (x : X) → Contains (flat_map tell gs) x → Holds (before ++ gs) x
  unfolding ArePooled
  in_pool before [] h x c = absurd (omega (arith, c.1))
  in_pool before (g ∷ gs) h x c = by_file_of (Contains-append_cases (tell g) (flat_map tell gs) x c) (λ k. in_pool (before ++ g ∷ []) gs h.1 x k)
    where
      joined : before ++ g ∷ [] ++ gs ≡ before ++ g ∷ gs
      joined = append_assoc before (g ∷ []) gs

      of_file : (f k : FileDescriptorProto) → IsLinked before f k → Contains (tell k) x → Holds (before ++ k ∷ [] ++ gs) x
      of_file f k is d =
          subst (λ (l : FileDescriptorProto). Holds (before ++ l ∷ [] ++ gs) x) (sym is.is)
          (of_linked before f is.keeps gs x (subst (λ (l : FileDescriptorProto). Contains (tell l) x) is.is d))

      by_file_of : Contains (tell g) x ⊎ Contains (flat_map tell gs) x → (Contains (flat_map tell gs) x → Holds (before ++ g ∷ [] ++ gs) x)
          → Holds (before ++ g ∷ gs) x
      by_file_of (inl k) ih = subst (λ (fs : List FileDescriptorProto). Holds fs x) joined (of_file h.0.0 g h.0.1 k)
      by_file_of (inr k) ih = subst (λ (fs : List FileDescriptorProto). Holds fs x) joined (ih k)
