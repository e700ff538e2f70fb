-- Messages that are changed in their scopes, at every depth: what is told of them.
use Rattle.std.proofs.Common.{◌≡◌, ◌∙◌, ℕ, ◌+◌, List, [], ◌∷◌, ◌++◌, map, refl, ap, sym}
use Rattle.std.specs.Prelude.{pos}
use Rattle.std.specs.List.{flat_map, enumerate_from}
use Rattle.pbx_desc_records.specs.declared.message.DescriptorProto.{DescriptorProto, out-DescriptorProto}
use Rattle.pbx_link_definitions.specs.Names.{qualified}
use Rattle.pbx_link_definitions.specs.Says.{own_name}
use Rattle.pbx_link_definitions.specs.Definitions.{messages_from, Place, Part, parts, message_name, nothing, around, nested_in}
use Rattle.pbx_link_definitions.proofs.Around.{around_is_told}
use Rattle.pbx_link_definitions.proofs.Told.{Each, ind_part}

map_append : {X Y : Type 0} (h : X → Y) → (xs ys : List X) → map h (xs ++ ys) ≡ map h xs ++ map h ys
map_append h [] ys = refl
map_append h (x ∷ xs) ys = ap (λ zs. h x ∷ zs) (map_append h xs ys)

pub map_id : {X : Type 0} (xs : List X) → map (λ x. x) xs ≡ xs
map_id [] = refl
map_id (x ∷ xs) = ap (λ ys. x ∷ ys) (map_id xs)

-- a part with its message changed in its scope
abbrev pub changed_by : (List ℕ → DescriptorProto → DescriptorProto) → Part DescriptorProto → Part DescriptorProto
changed_by g p = record p { item = g p.scope p.item }

-- A change keeps the name of a message, and changes those nested in it in its scope.
pub record IsChange (g : List ℕ → DescriptorProto → DescriptorProto) : Type 0 where
  pub name : (scope : List ℕ) (m : DescriptorProto) → own_name (g scope m) ≡ own_name m
  pub nested : (scope : List ℕ) (m : DescriptorProto) → (out-DescriptorProto (g scope m)).nested_type ≡ map (g (qualified scope (own_name m))) (out-DescriptorProto m).nested_type

parts_changed : (g : List ℕ → DescriptorProto → DescriptorProto) (scope : List ℕ) (place : Place) (n k : ℕ) (ms : List DescriptorProto)
    → map (λ x. record { scope = scope; place = place ++ pos n ∷ pos x.0 ∷ []; index = x.0; item = x.1 }) (enumerate_from k (map (g scope) ms))
    ≡ map (changed_by g) (map (λ x. record { scope = scope; place = place ++ pos n ∷ pos x.0 ∷ []; index = x.0; item = x.1 }) (enumerate_from k ms))
parts_changed g scope place n k [] = refl
parts_changed g scope place n k (m ∷ ms) =
    ap (λ (ps : List (Part DescriptorProto)). record { scope = scope; place = place ++ pos n ∷ pos k ∷ []; index = k; item = g scope m } ∷ ps) (parts_changed g scope place n (k + 1) ms)

-- the messages of a list, in the same scope
pub parts_all_changed : (g : List ℕ → DescriptorProto → DescriptorProto) (scope : List ℕ) (place : Place) (n : ℕ) (ms : List DescriptorProto)
    → parts scope place n (map (g scope) ms) ≡ map (changed_by g) (parts scope place n ms)
parts_all_changed g scope place n ms = parts_changed g scope place n 0 ms

pub flat_map_changed : {A B C D : Type 0} (v : A → B) (h : C → D) (f : B → List D) (f' : A → List C) → (xs : List A) → Each (λ x. f (v x) ≡ map h (f' x)) xs → flat_map f (map v xs) ≡ map h (flat_map f' xs)
flat_map_changed v h f f' [] e = refl
flat_map_changed v h f f' (x ∷ xs) e =
    ap (λ ys. ys ++ flat_map f (map v xs)) e.0 ∙ ap (λ ys. map h (f' x) ++ ys) (flat_map_changed v h f f' xs e.1) ∙ sym (map_append h (f' x) (flat_map f' xs))

module _ {X Y : Type 0} (first last : Part DescriptorProto → List Y) (first' last' : Part DescriptorProto → List X) (h : X → Y)
    (g : List ℕ → DescriptorProto → DescriptorProto) (is : IsChange g)
    (firsts : (p : Part DescriptorProto) → first (changed_by g p) ≡ map h (first' p)) (lasts : (p : Part DescriptorProto) → last (changed_by g p) ≡ map h (last' p)) where
  nested_changed : (p : Part DescriptorProto) → nested_in (changed_by g p) ≡ map (changed_by g) (nested_in p)
  nested_changed p =
      ap (λ (ms : List DescriptorProto). parts (message_name (changed_by g p)) p.place 3 ms) (is.nested p.scope p.item)
      ∙ ap (λ (n : List ℕ). parts (qualified p.scope n) p.place 3 (map (g (message_name p)) (out-DescriptorProto p.item).nested_type)) (is.name p.scope p.item)
      ∙ parts_all_changed g (message_name p) p.place 3 (out-DescriptorProto p.item).nested_type

  pub around_changed : (p : Part DescriptorProto) → around first last (changed_by g p) ≡ map h (around first' last' p)
  around_changed =
      ind_part (λ p. around first last (changed_by g p) ≡ map h (around first' last' p))
      (λ p inside.
      let qs = nested_in p in
      let nested : flat_map (around first last) (nested_in (changed_by g p)) ≡ map h (flat_map (around first' last') qs) =
      ap (flat_map (around first last)) (nested_changed p) ∙ flat_map_changed (changed_by g) h (around first last) (around first' last') qs inside in
      let after : map h (around first' last' p) ≡ (map h (first' p) ++ map h (flat_map (around first' last') qs)) ++ map h (last' p) =
      ap (map h) (around_is_told first' last' p) ∙ map_append h (first' p ++ flat_map (around first' last') qs) (last' p)
      ∙ ap (λ (ys : List Y). ys ++ map h (last' p)) (map_append h (first' p) (flat_map (around first' last') qs)) in
      around_is_told first last (changed_by g p)
      ∙ ap (λ (ys : List Y). (ys ++ flat_map (around first last) (nested_in (changed_by g p))) ++ last (changed_by g p)) (firsts p)
      ∙ ap (λ (ys : List Y). (map h (first' p) ++ ys) ++ last (changed_by g p)) nested
      ∙ ap (λ (ys : List Y). (map h (first' p) ++ map h (flat_map (around first' last') qs)) ++ ys) (lasts p)
      ∙ sym after)

-- The messages of a changed message are the changed ones.
pub messages_changed : (g : List ℕ → DescriptorProto → DescriptorProto) → IsChange g → (p : Part DescriptorProto) → messages_from (changed_by g p) ≡ map (changed_by g) (messages_from p)
unfolding messages_from
messages_changed g is = around_changed (λ p. p ∷ []) nothing (λ p. p ∷ []) nothing (changed_by g) g is (λ p. refl) (λ p. refl)

-- What is told alike of every message is told alike of all.
pub around_unchanged : {X : Type 0} (first last : Part DescriptorProto → List X) (g : List ℕ → DescriptorProto → DescriptorProto) → IsChange g
    → ((p : Part DescriptorProto) → first (changed_by g p) ≡ first p) → ((p : Part DescriptorProto) → last (changed_by g p) ≡ last p) → (p : Part DescriptorProto) → around first last (changed_by g p) ≡ around first last p
around_unchanged first last g is firsts lasts p =
    around_changed first last first last (λ x. x) g is (λ q. firsts q ∙ sym (map_id (first q))) (λ q. lasts q ∙ sym (map_id (last q))) p ∙ map_id (around first last p)
