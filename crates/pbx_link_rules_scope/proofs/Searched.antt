-- Places that searches for a record that breaks a rule find.
use Rattle.std.proofs.Common.{◌≡◌, ◌∙◌, ℕ, ◌+◌, ◌<◌, ◌≤◌, Bool, true, false, cond, List, [], ◌∷◌, ◌++◌, map, length, drop, get_or, ap, sym, subst, arith}
use Rattle.std.proofs.Common.{below_more}
use Rattle.std.specs.Prelude.{pos, Option, Some, None, Contains, filter}
use Rattle.std.specs.List.{flat_map, enumerate_from}
use Rattle.std.specs.Option.{option_map}
use Rattle.std.proofs.lemmas.List.{at_drop_more, at_drop_all, append_assoc, map-append}
use Rattle.std.proofs.lemmas.List.Elements.{Contains-append_left, filter-append}
use Rattle.pbx_desc_records.specs.declared.message.DescriptorProto.{DescriptorProto}
use Rattle.pbx_desc_records.specs.declared.field.FieldDescriptorProto.{FieldDescriptorProto}
use Rattle.pbx_desc_records.specs.declared.service.MethodDescriptorProto.{MethodDescriptorProto}
use Rattle.pbx_desc_records.specs.declared.service.ServiceDescriptorProto.{ServiceDescriptorProto}
use Rattle.pbx_link_definitions.specs.Definitions.{Place, Part, at, part, parts, fields_in, methods_in}
use Rattle.pbx_link_definitions.specs.Places.{IsAmong}
use Rattle.pbx_link_definitions.specs.Found.{IsIndex}
use Rattle.pbx_link_definitions.proofs.Indexes.{any_default, at_head, is_among, place_here, place_none}
use Rattle.pbx_link_rules_scope.specs.Rules.{places_by}

-- ---- an item of a list

-- none of the first items passes
abbrev pub NonePasses : {X : Type 0} → (X → Bool) → List X → ℕ → Type 0
NonePasses {X} P xs k = (i : ℕ) → i < k → (d : X) → P (get_or xs i d) ≡ false

module _ {X : Type 0} (P : X → Bool) (xs : List X) (k : ℕ) (x : X) (within : k < length xs) (is : x ≡ get_or xs k x) (b : Bool) (said : b ≡ P x) where
  pub one_passes : b ≡ true → IsIndex (λ i. P) xs (Some k)
  one_passes h = (within, λ d. ap P (any_default xs k d x within ∙ sym is) ∙ sym said ∙ h)

  pub none_passes : NonePasses P xs k → b ≡ false → NonePasses P xs (k + 1)
  none_passes none h = below_more (λ i. (d : X) → P (get_or xs i d) ≡ false) k none (λ d. ap P (any_default xs k d x within ∙ sym is) ∙ sym said ∙ h)

pub none_is_index : {X : Type 0} (P : X → Bool) (xs : List X) (k : ℕ) → length xs ≤ k → NonePasses P xs k → IsIndex (λ i. P) xs None
none_is_index P xs k done none = λ i d lt. none i (omega (arith, lt, done)) d

-- the place of the field of a number of the item at an index of a list
abbrev pub item_at : Place → ℕ → ℕ → ℕ → Place
item_at above l n i = above ++ pos l ∷ pos i ∷ pos n ∷ []

-- an index of an item that breaks the rule, among the parts of its list
module _ {X : Type 0} (P : List ℕ → X → Bool) (scope name : List ℕ) (is_scope : name ≡ scope) (above : Place) (l n : ℕ) (xs items : List X)
    (is_items : items ≡ xs) (o : Option ℕ) (is : IsIndex (λ i. P name) items o) where
  among : IsAmong (places_by P n (parts scope above l xs)) (option_map (item_at above l n) o)
  among =
      is_among scope above l (λ (p : Part X). P p.scope p.item) (λ p. at p n) (item_at above l n) (λ i x. append_assoc above (pos l ∷ pos i ∷ []) (pos n ∷ []))
      xs o (subst (λ ys. IsIndex (λ i. P scope) ys o) is_items (subst (λ s. IsIndex (λ i. P s) items o) is_scope is))

  pub item_here : (i : ℕ) (place there : Place) → o ≡ Some i → place ≡ above → there ≡ item_at place l n i
      → Contains (places_by P n (parts scope above l xs)) there
  item_here i place there found over e =
      place_here (places_by P n (parts scope above l xs)) (item_at above l n) o among i found there (e ∙ ap (λ a. item_at a l n i) over)

  pub item_none : o ≡ None → places_by P n (parts scope above l xs) ≡ []
  item_none found = place_none (places_by P n (parts scope above l xs)) (item_at above l n) o among found

-- ---- parts

module _ {X : Type 0} (P : List ℕ → X → Bool) (n : ℕ) where
  places_append : (ps qs : List (Part X)) → places_by P n (ps ++ qs) ≡ places_by P n ps ++ places_by P n qs
  places_append ps qs =
      ap (map (λ (p : Part X). at p n)) (filter-append (λ (p : Part X). P p.scope p.item) ps qs)
      ∙ map-append (λ (p : Part X). at p n) (filter (λ (p : Part X). P p.scope p.item) ps) (filter (λ (p : Part X). P p.scope p.item) qs)

  -- the parts that are left are these and the rest
  module _ (all : List Place) (these rest : List (Part X)) (so_far : all ≡ places_by P n (these ++ rest)) where
    next : all ≡ places_by P n these ++ places_by P n rest
    next = so_far ∙ places_append these rest

    pub some_here : (o : Option Place) → IsAmong (places_by P n these) o → (p : Place) → o ≡ Some p → Contains all p
    some_here o h p e =
        subst (λ (ps : List Place). Contains ps p) (sym next)
        (Contains-append_left (places_by P n these) (places_by P n rest) p (subst (λ (r : Option Place). IsAmong (places_by P n these) r) e h))

    pub none_here : (o : Option Place) → IsAmong (places_by P n these) o → o ≡ None → all ≡ places_by P n rest
    none_here o h e = next ∙ ap (λ (ps : List Place). ps ++ places_by P n rest) (subst (λ (r : Option Place). IsAmong (places_by P n these) r) e h)

  -- parts one by one
  module _ (ps : List (Part X)) (i : ℕ) (p : Part X) (within : i < length ps) (is : p ≡ get_or ps i p)
      (so_far : places_by P n ps ≡ places_by P n (drop i ps)) (scope : List ℕ) (is_scope : scope ≡ p.scope) (item : X) (is_item : item ≡ p.item)
      (b : Bool) (said : b ≡ P scope item) where
    tested : b ≡ P p.scope p.item
    tested = said ∙ ap (λ (s : List ℕ). P s item) is_scope ∙ ap (P p.scope) is_item

    left : places_by P n ps ≡ places_by P n (p ∷ drop (i + 1) ps)
    left = so_far ∙ at_drop_more (places_by P n) ps i p within ∙ ap (λ (q : Part X). places_by P n (q ∷ drop (i + 1) ps)) (sym is)

    taken : (c : Bool) → b ≡ c → places_by P n ps ≡ map (λ (q : Part X). at q n)
        (cond c (p ∷ filter (λ (q : Part X). P q.scope q.item) (drop (i + 1) ps)) (filter (λ (q : Part X). P q.scope q.item) (drop (i + 1) ps)))
    taken c e =
        left
        ∙ ap (λ (d : Bool). map (λ (q : Part X). at q n) (cond d (p ∷ filter (λ (q : Part X). P q.scope q.item) (drop (i + 1) ps))
        (filter (λ (q : Part X). P q.scope q.item) (drop (i + 1) ps))))
        (sym tested ∙ e)

    pub part_here : b ≡ true → (there : Place) → there ≡ at p n → Contains (places_by P n ps) there
    part_here h there e =
        subst (λ (qs : List Place). Contains qs there) (sym (taken true h)) (at_head (at p n) there (places_by P n (drop (i + 1) ps)) (sym e))

    pub part_not : b ≡ false → places_by P n ps ≡ places_by P n (drop (i + 1) ps)
    part_not h = taken false h

  pub part_none : (ps : List (Part X)) (i : ℕ) → length ps ≤ i → places_by P n ps ≡ places_by P n (drop i ps) → places_by P n ps ≡ []
  part_none ps i done so_far = so_far ∙ at_drop_all (places_by P n) ps i done

-- ---- lists of parts one by one

-- the items that are left, from this index on, as parts
abbrev pub parts_from : {X : Type 0} → List ℕ → Place → ℕ → ℕ → List X → List (Part X)
parts_from scope above l k xs = map (λ x. part scope above l x.0 x.1) (enumerate_from k xs)

-- the parts of each item of a list
module _ {A X : Type 0} (F : ℕ → List A → List (Part X)) (P : List ℕ → X → Bool) (n : ℕ) (all : List Place) (xs : List A) (i : ℕ) where
  pub list_next : (x : A) → i < length xs → x ≡ get_or xs i x → all ≡ places_by P n (F i (drop i xs)) → all ≡ places_by P n (F i (x ∷ drop (i + 1) xs))
  list_next x within is so_far =
      so_far ∙ at_drop_more (λ (ys : List A). places_by P n (F i ys)) xs i x within
      ∙ ap (λ (y : A). places_by P n (F i (y ∷ drop (i + 1) xs))) (sym is)

  pub list_done : length xs ≤ i → all ≡ places_by P n (F i (drop i xs)) → all ≡ places_by P n (F i [])
  list_done done so_far = so_far ∙ at_drop_all (λ (ys : List A). places_by P n (F i ys)) xs i done

-- the fields of messages, from an index on
abbrev pub message_fields : ℕ → List (Part DescriptorProto) → List (Part FieldDescriptorProto)
message_fields k ms = flat_map fields_in ms

-- the methods of services, from an index on
abbrev pub service_methods : List ℕ → ℕ → List ServiceDescriptorProto → List (Part MethodDescriptorProto)
service_methods scope k ss = flat_map methods_in (parts_from scope [] 6 k ss)

-- ---- one of two searches

pub first_of : (ps qs : List Place) (o : Option Place) → IsAmong ps o → (p : Place) → o ≡ Some p → Contains (ps ++ qs) p
first_of ps qs o h p e = Contains-append_left ps qs p (subst (λ (r : Option Place). IsAmong ps r) e h)

pub second_of : (ps qs : List Place) (o r : Option Place) → IsAmong ps o → o ≡ None → IsAmong qs r → IsAmong (ps ++ qs) r
second_of ps qs o r h e k = subst (λ (rs : List Place). IsAmong (rs ++ qs) r) (sym (subst (λ (t : Option Place). IsAmong ps t) e h)) k
