-- From an index in a list of records to the place of the record.
use Rattle.std.proofs.Common.{◌≡◌, ◌∙◌, ◌⊎◌, ℕ, zero, suc, ◌-◌, ◌<◌, ◌≤◌, ◌==◌, pos, cond, ◌&&◌, ◌||◌, not, List, [], ◌∷◌, ◌++◌, map, length, get_or, Bool, true, false, Some, None, refl, ap, sym, subst, inl, inr, arith}
use Rattle.std.specs.Prelude.{Contains, position}
use Rattle.std.proofs.lemmas.Bool.{false≢true}
use Rattle.std.proofs.lemmas.Bool.Decides.{nat_tests}
use Rattle.std.proofs.lemmas.List.{get_or_default, get_or_append_left, get_or-append_right, length-map, length-append, map-append}
use Rattle.std.proofs.lemmas.List.Elements.{Contains-append_left, Contains-append_right}
use Rattle.pbx_desc_records.specs.declared.enumeration.EnumDescriptorProto.{EnumDescriptorProto}
use Rattle.pbx_desc_records.specs.declared.enumeration.EnumValueDescriptorProto.{EnumValueDescriptorProto}
use Rattle.pbx_desc_records.specs.declared.message.DescriptorProto.{DescriptorProto, out-DescriptorProto}
use Rattle.pbx_desc_records.specs.declared.message.ExtensionRange.{ExtensionRange}
use Rattle.pbx_link_definitions.specs.Says.{has_option, is_number, signed_or_zero}
use Rattle.pbx_link_definitions.specs.Definitions.{Place, Part, parts, values_in}
use Rattle.pbx_link_definitions.specs.Places.{places_where, repeated, place_if}
use Rattle.pbx_link_definitions.specs.Ranges.{Range, extension_ranges, reserved_ranges, all_ranges}
use Rattle.pbx_link_definitions.specs.Found.{IsIndex, is_earlier}
use Rattle.pbx_link_rules_record.specs.EnumRules.{is_bad_value, like_valued, aliases, bad_first, bad_enum, breaks_value}
use Rattle.pbx_link_rules_record.specs.EntryRules.{is_empty}
use Rattle.pbx_link_rules_record.specs.RangeRules.{is_bad_range, bad_message_ranges, extension_range_parts, share_number, bad_ranges_of, message_ranges}
use Rattle.pbx_link_definitions.proofs.Indexes.{position_is_index}
use Rattle.pbx_link_rules_record.proofs.Among.{among_right, passing, none_pass, again, none_again, items_are, place_at_index}

module _ {X : Type 0} (scope : List ℕ) (place : Place) (n : ℕ) (xs : List X) where
  abbrev there : ℕ → Place
  there i = place ++ pos n ∷ pos i ∷ []

  items : map (λ p. p.item) (parts scope place n xs) ≡ xs
  items = items_are scope place n xs

  part_of : X → Part X
  part_of x = record { scope = []; place = []; index = 0; item = x }

  pub where_of_parts : (test : X → Bool) (i : ℕ) (x : X) → i < length xs → ((d : X) → test (get_or xs i d) ≡ true) → Contains (places_where (λ p. test p.item) (λ p. p.place) (parts scope place n xs)) (place ++ pos n ∷ pos i ∷ [])
  where_of_parts test i x lt h =
      subst (Contains (places_where (λ p. test p.item) (λ p. p.place) (parts scope place n xs))) (place_at_index scope place n xs i (part_of x) lt)
      (passing (λ (p : Part X). p.item) (λ (p : Part X). p.place) (parts scope place n xs) test i (part_of x)
      (subst (λ (ys : List X). i < length ys) (sym items) lt) (λ d. subst (λ (ys : List X). test (get_or ys i d) ≡ true) (sym items) (h d)))

  pub none_of_parts : (test : X → Bool) → ((i : ℕ) (d : X) → i < length xs → test (get_or xs i d) ≡ false) → places_where (λ p. test p.item) (λ p. p.place) (parts scope place n xs) ≡ []
  none_of_parts test h =
      none_pass (λ (p : Part X). p.item) (λ (p : Part X). p.place) (parts scope place n xs) test
      (subst (λ (ys : List X). (i : ℕ) (d : X) → i < length ys → test (get_or ys i d) ≡ false) (sym items) h)

  pub again_of_parts : (like : X → X → Bool) (i : ℕ) (x : X) → i < length xs → ((d : X) → is_earlier like xs i (get_or xs i d) ≡ true)
      → Contains (map (λ p. p.place) (repeated (λ p q. like p.item q.item) [] (parts scope place n xs))) (place ++ pos n ∷ pos i ∷ [])
  again_of_parts like i x lt h =
      subst (Contains (map (λ p. p.place) (repeated (λ p q. like p.item q.item) [] (parts scope place n xs)))) (place_at_index scope place n xs i (part_of x) lt)
      (again (λ (p : Part X). p.item) (λ (p : Part X). p.place) (parts scope place n xs) like i (part_of x)
      (subst (λ (ys : List X). i < length ys) (sym items) lt) (λ d. subst (λ (ys : List X). is_earlier like ys i (get_or ys i d) ≡ true) (sym items) (h d)))

  pub none_again_of_parts : (like : X → X → Bool) → ((i : ℕ) (d : X) → i < length xs → is_earlier like xs i (get_or xs i d) ≡ false)
      → map (λ p. p.place) (repeated (λ p q. like p.item q.item) [] (parts scope place n xs)) ≡ []
  none_again_of_parts like h =
      none_again (λ (p : Part X). p.item) (λ (p : Part X). p.place) (parts scope place n xs) like
      (subst (λ (ys : List X). (i : ℕ) (d : X) → i < length ys → is_earlier like ys i (get_or ys i d) ≡ false) (sym items) h)

-- ---- ranges

or_cases : (a b : Bool) → (a || b) ≡ true → (a ≡ true) ⊎ (b ≡ true)
or_cases true b h = inl refl
or_cases false b h = inr h

neither : (a b : Bool) → (a || b) ≡ false → (a ≡ false) × (b ≡ false)
neither true b h = absurd (false≢true (sym h))
neither false b h = (refl, h)

-- an index in the list of the items, as a place of a part
pub ranges_none : (P : Range → Bool) (ps : List (Part Range)) (rs : List Range) → rs ≡ map (λ p. p.item) ps → IsIndex (λ i r. P r || is_earlier share_number rs i r) rs None → bad_ranges_of P ps ≡ []
ranges_none P ps rs is h =
    let g = subst (λ (l : List Range). (k : ℕ) (d : Range) → k < length l → (P (get_or l k d) || is_earlier share_number l k (get_or l k d)) ≡ false) is h in
    among_right (places_where (λ (r : Part Range). P r.item) (λ r. r.place) ps) (map (λ r. r.place) (repeated (λ r s. share_number r.item s.item) [] ps)) None
    (none_pass (λ (p : Part Range). p.item) (λ (p : Part Range). p.place) ps P (λ i d lt. (neither (P (get_or (map (λ p. p.item) ps) i d)) _ (g i d lt)).0))
    (none_again (λ (p : Part Range). p.item) (λ (p : Part Range). p.place) ps share_number (λ i d lt. (neither (P (get_or (map (λ p. p.item) ps) i d)) _ (g i d lt)).1))

pub ranges_some : (P : Range → Bool) (ps : List (Part Range)) (rs : List Range) (i : ℕ) (p : Part Range) → rs ≡ map (λ q. q.item) ps → IsIndex (λ k r. P r || is_earlier share_number rs k r) rs (Some i)
    → Contains (bad_ranges_of P ps) (get_or ps i p).place
ranges_some P ps rs i p is h = at (or_cases (P it) (is_earlier share_number items i it) (g.1 p.item))
  where
    items : List Range
    items = map (λ q. q.item) ps

    it : Range
    it = get_or (map (λ q. q.item) ps) i p.item

    g : (i < length (map (λ q. q.item) ps)) × ((d : Range) → (P (get_or (map (λ q. q.item) ps) i d) || is_earlier share_number (map (λ q. q.item) ps) i (get_or (map (λ q. q.item) ps) i d)) ≡ true)
    g = subst (λ (l : List Range). (i < length l) × ((d : Range) → (P (get_or l i d) || is_earlier share_number l i (get_or l i d)) ≡ true)) is h

    same : (d : Range) → get_or (map (λ q. q.item) ps) i p.item ≡ get_or (map (λ q. q.item) ps) i d
    same d = get_or_default (map (λ q. q.item) ps) i p.item d g.0

    at : (P (get_or (map (λ q. q.item) ps) i p.item) ≡ true) ⊎ (is_earlier share_number (map (λ q. q.item) ps) i (get_or (map (λ q. q.item) ps) i p.item) ≡ true) → Contains (bad_ranges_of P ps) (get_or ps i p).place
    at (inl passes) = Contains-append_left (places_where (λ (r : Part Range). P r.item) (λ r. r.place) ps) _ (get_or ps i p).place
        (passing (λ (q : Part Range). q.item) (λ (q : Part Range). q.place) ps P i p g.0 (λ d. ap P (sym (same d)) ∙ passes))
    at (inr passes) = Contains-append_right (places_where (λ (r : Part Range). P r.item) (λ r. r.place) ps) _ (get_or ps i p).place
        (again (λ (q : Part Range). q.item) (λ (q : Part Range). q.place) ps share_number i p g.0 (λ d. ap (is_earlier share_number (map (λ q. q.item) ps) i) (sym (same d)) ∙ passes))

-- ---- values of an enum

module _ (proto3 : Bool) (e : Part EnumDescriptorProto) where
  abbrev values : List EnumValueDescriptorProto
  values = e.item.value

  abbrev bad_ones : List Place
  bad_ones = places_where (λ v. is_bad_value e.item v.item) (λ v. v.place) (values_in e)

  not_empty : (vs : List EnumValueDescriptorProto) → (vs ≡ [] → ⊥) → place_if (length vs == 0) e.place ≡ []
  not_empty [] h = absurd (h refl)
  not_empty (v ∷ vs) h =
      let some : (length (v ∷ vs) == 0) ≡ false = grind (arith, nat_tests) in
      ap (λ (b : Bool). place_if b e.place) some

  first_none : (vs : List EnumValueDescriptorProto) → ((k : ℕ) (v : EnumValueDescriptorProto) → k < length vs → (proto3 && (k == 0 && not (is_number (get_or vs k v).number 0))) ≡ false)
      → bad_first proto3 (parts e.scope e.place 2 vs) ≡ []
  first_none [] h = refl
  first_none (v ∷ vs) h = ap (λ (b : Bool). place_if b (e.place ++ pos 2 ∷ pos 0 ∷ [])) (h 0 v (omega arith))

  first_some : (vs : List EnumValueDescriptorProto) (i : ℕ) → i < length vs → ((v : EnumValueDescriptorProto) → (proto3 && (i == 0 && not (is_number (get_or vs i v).number 0))) ≡ true)
      → Contains (bad_first proto3 (parts e.scope e.place 2 vs)) (e.place ++ pos 2 ∷ pos i ∷ [])
  first_some [] i lt h = absurd (omega arith)
  first_some (v ∷ vs) zero lt h = subst (λ (b : Bool). Contains (place_if b (e.place ++ pos 2 ∷ pos 0 ∷ [])) (e.place ++ pos 2 ∷ pos 0 ∷ [])) (sym (h v)) (0, omega arith, refl)
  first_some (v ∷ vs) (suc i) lt h =
      let later : (suc i == 0) ≡ false = grind (arith, nat_tests) in
      absurd (fails proto3 (sym (ap (λ (b : Bool). proto3 && (b && not (is_number (get_or vs i v).number 0))) later) ∙ h v))
    where
      fails : (b : Bool) → (b && false) ≡ true → ⊥
      fails true g = false≢true g
      fails false g = false≢true g

  aliases_none : (b : Bool) → has_option 2 e.item.options ≡ b → ((k : ℕ) (v : EnumValueDescriptorProto) → k < length e.item.value → (not (has_option 2 e.item.options) && is_earlier like_valued e.item.value k (get_or e.item.value k v)) ≡ false)
      → cond b [] (map (λ v. v.place) (repeated (λ v w. like_valued v.item w.item) [] (values_in e))) ≡ []
  aliases_none true is h = refl
  aliases_none false is h =
      none_again_of_parts e.scope e.place 2 e.item.value like_valued (λ k v lt. sym (ap (λ (b : Bool). not b && is_earlier like_valued e.item.value k (get_or e.item.value k v)) is) ∙ h k v lt)

  aliases_some : (b : Bool) → has_option 2 e.item.options ≡ b → (i : ℕ) (x : EnumValueDescriptorProto) → i < length e.item.value → ((v : EnumValueDescriptorProto) → (not (has_option 2 e.item.options) && is_earlier like_valued e.item.value i (get_or e.item.value i v)) ≡ true)
      → Contains (cond b [] (map (λ v. v.place) (repeated (λ v w. like_valued v.item w.item) [] (values_in e)))) (e.place ++ pos 2 ∷ pos i ∷ [])
  aliases_some true is i x lt h = absurd (false≢true (sym (ap (λ (b : Bool). not b && is_earlier like_valued e.item.value i (get_or e.item.value i x)) is) ∙ h x))
  aliases_some false is i x lt h =
      again_of_parts e.scope e.place 2 e.item.value like_valued i x lt (λ v. sym (ap (λ (b : Bool). not b && is_earlier like_valued e.item.value i (get_or e.item.value i v)) is) ∙ h v)

  pub values_none : (e.item.value ≡ [] → ⊥) → IsIndex (breaks_value proto3 e.item) e.item.value None → bad_enum proto3 e ≡ []
  values_none some h =
      let parts_none = λ (k : ℕ) (v : EnumValueDescriptorProto) (lt : k < length e.item.value). neither (is_bad_value e.item (get_or e.item.value k v) || (not (has_option 2 e.item.options) && is_earlier like_valued e.item.value k (get_or e.item.value k v))) _ (h k v lt) in
      let two_none = λ (k : ℕ) (v : EnumValueDescriptorProto) (lt : k < length e.item.value). neither (is_bad_value e.item (get_or e.item.value k v)) _ (parts_none k v lt).0 in
      let a : place_if (length e.item.value == 0) e.place ≡ [] = not_empty e.item.value some in
      let b : bad_ones ≡ [] = none_of_parts e.scope e.place 2 e.item.value (is_bad_value e.item) (λ k v lt. (two_none k v lt).0) in
      let d : aliases e ≡ [] = aliases_none (has_option 2 e.item.options) refl (λ k v lt. (two_none k v lt).1) in
      let f : bad_first proto3 (values_in e) ≡ [] = first_none e.item.value (λ k v lt. (parts_none k v lt).1) in
      among_right ((place_if (length e.item.value == 0) e.place ++ bad_ones) ++ aliases e) (bad_first proto3 (values_in e)) None
      (among_right (place_if (length e.item.value == 0) e.place ++ bad_ones) (aliases e) None (among_right (place_if (length e.item.value == 0) e.place) bad_ones None a b) d) f

  pub values_some : (i : ℕ) (x : EnumValueDescriptorProto) → IsIndex (breaks_value proto3 e.item) e.item.value (Some i) → Contains (bad_enum proto3 e) (e.place ++ pos 2 ∷ pos i ∷ [])
  values_some i x h = at (or_cases (is_bad_value e.item v || (not (has_option 2 e.item.options) && is_earlier like_valued e.item.value i v)) (proto3 && (i == 0 && not (is_number v.number 0))) (h.1 x))
    where
      v : EnumValueDescriptorProto
      v = get_or e.item.value i x

      at_any : (P : EnumValueDescriptorProto → Bool) → P (get_or e.item.value i x) ≡ true → (d : EnumValueDescriptorProto) → P (get_or e.item.value i d) ≡ true
      at_any P passes d = ap P (get_or_default e.item.value i d x h.0) ∙ passes

      front : List Place
      front = place_if (length e.item.value == 0) e.place

      at : ((is_bad_value e.item (get_or e.item.value i x) || (not (has_option 2 e.item.options) && is_earlier like_valued e.item.value i (get_or e.item.value i x))) ≡ true)
          ⊎ ((proto3 && (i == 0 && not (is_number (get_or e.item.value i x).number 0))) ≡ true) → Contains (bad_enum proto3 e) (e.place ++ pos 2 ∷ pos i ∷ [])
      at (inr passes) = Contains-append_right ((place_if (length e.item.value == 0) e.place ++ bad_ones) ++ aliases e) (bad_first proto3 (values_in e)) (e.place ++ pos 2 ∷ pos i ∷ [])
          (first_some e.item.value i h.0 (at_any (λ w. proto3 && (i == 0 && not (is_number w.number 0))) passes))
      at (inl passes) = Contains-append_left ((place_if (length e.item.value == 0) e.place ++ bad_ones) ++ aliases e) (bad_first proto3 (values_in e)) (e.place ++ pos 2 ∷ pos i ∷ [])
          (within (or_cases (is_bad_value e.item (get_or e.item.value i x)) (not (has_option 2 e.item.options) && is_earlier like_valued e.item.value i (get_or e.item.value i x)) passes))
        where
          within : (is_bad_value e.item (get_or e.item.value i x) ≡ true) ⊎ ((not (has_option 2 e.item.options) && is_earlier like_valued e.item.value i (get_or e.item.value i x)) ≡ true)
              → Contains ((place_if (length e.item.value == 0) e.place ++ bad_ones) ++ aliases e) (e.place ++ pos 2 ∷ pos i ∷ [])
          within (inr that) = Contains-append_right (place_if (length e.item.value == 0) e.place ++ bad_ones) (aliases e) (e.place ++ pos 2 ∷ pos i ∷ [])
              (aliases_some (has_option 2 e.item.options) refl i x h.0 (at_any (λ w. not (has_option 2 e.item.options) && is_earlier like_valued e.item.value i w) that))
          within (inl that) = Contains-append_left (place_if (length e.item.value == 0) e.place ++ bad_ones) (aliases e) (e.place ++ pos 2 ∷ pos i ∷ [])
              (Contains-append_right (place_if (length e.item.value == 0) e.place) bad_ones (e.place ++ pos 2 ∷ pos i ∷ [])
              (where_of_parts e.scope e.place 2 e.item.value (is_bad_value e.item) i x h.0 (at_any (is_bad_value e.item) that)))

-- ---- what `position` says, as places

abbrev pub IsFound : {X : Type 0} → (X → Bool) → List X → ℕ → Type 0
IsFound test xs i = Some i ≡ position test xs

abbrev pub IsNotFound : {X : Type 0} → (X → Bool) → List X → Type 0
IsNotFound test xs = None ≡ position test xs

module _ {X : Type 0} (scope : List ℕ) (place : Place) (n : ℕ) (xs : List X) (test : X → Bool) where
  pub where_found_in : (i : ℕ) → IsFound test xs i → Contains (places_where (λ p. test p.item) (λ p. p.place) (parts scope place n xs)) (place ++ pos n ∷ pos i ∷ [])
  where_found_in i e = by_item xs refl (position_is_index test xs (Some i) e)
    where
      by_item : (ys : List X) → xs ≡ ys → IsIndex (λ k. test) xs (Some i) → Contains (places_where (λ p. test p.item) (λ p. p.place) (parts scope place n xs)) (place ++ pos n ∷ pos i ∷ [])
      by_item [] same h = absurd (let lt = subst (λ (l : List X). i < length l) same h.0 in omega (arith, lt))
      by_item (y ∷ ys) same h = where_of_parts scope place n xs test i y h.0 h.1

  pub where_not_in : IsNotFound test xs → places_where (λ p. test p.item) (λ p. p.place) (parts scope place n xs) ≡ []
  where_not_in e = none_of_parts scope place n xs test (position_is_index test xs None e)

-- the field k of an item that passes a test
module _ {X : Type 0} (scope : List ℕ) (place : Place) (n : ℕ) (xs : List X) (test : X → Bool) (k : ℕ) where
  pub field_found_in : (i : ℕ) → IsFound test xs i → Contains (places_where (λ p. test p.item) (λ p. p.place ++ pos k ∷ []) (parts scope place n xs)) ((place ++ pos n ∷ pos i ∷ []) ++ pos k ∷ [])
  field_found_in i e = by_item xs refl (position_is_index test xs (Some i) e)
    where
      by_item : (ys : List X) → xs ≡ ys → IsIndex (λ j. test) xs (Some i) → Contains (places_where (λ p. test p.item) (λ p. p.place ++ pos k ∷ []) (parts scope place n xs)) ((place ++ pos n ∷ pos i ∷ []) ++ pos k ∷ [])
      by_item [] same h = absurd (let lt = subst (λ (l : List X). i < length l) same h.0 in omega (arith, lt))
      by_item (y ∷ ys) same h =
          subst (Contains (places_where (λ p. test p.item) (λ p. p.place ++ pos k ∷ []) (parts scope place n xs)))
          (ap (λ (q : Place). q ++ pos k ∷ []) (place_at_index scope place n xs i (record { scope = []; place = []; index = 0; item = y }) h.0))
          (passing (λ (p : Part X). p.item) (λ (p : Part X). p.place ++ pos k ∷ []) (parts scope place n xs) test i (record { scope = []; place = []; index = 0; item = y })
          (subst (λ (zs : List X). i < length zs) (sym (items_are scope place n xs)) h.0) (λ d. subst (λ (zs : List X). test (get_or zs i d) ≡ true) (sym (items_are scope place n xs)) (h.1 d)))

  pub field_not_in : IsNotFound test xs → places_where (λ p. test p.item) (λ p. p.place ++ pos k ∷ []) (parts scope place n xs) ≡ []
  field_not_in e =
      none_pass (λ (p : Part X). p.item) (λ (p : Part X). p.place ++ pos k ∷ []) (parts scope place n xs) test
      (subst (λ (zs : List X). (i : ℕ) (d : X) → i < length zs → test (get_or zs i d) ≡ false) (sym (items_are scope place n xs)) (position_is_index test xs None e))

-- ---- the ranges of a message, behind one another

length_parts : {X : Type 0} (scope : List ℕ) (place : Place) (n : ℕ) (xs : List X) → length (parts scope place n xs) ≡ length xs
length_parts {X} scope place n xs = sym (length-map (parts scope place n xs) (λ (p : Part X). p.item)) ∙ ap length (items_are scope place n xs)

module _ (m : Part DescriptorProto) where
  abbrev first_ones : List (Part Range)
  first_ones = parts [] m.place 5 (extension_ranges m.item)

  abbrev other_ones : List (Part Range)
  other_ones = parts [] m.place 9 (reserved_ranges m.item)

  count_is : length (extension_ranges m.item) ≡ length (out-DescriptorProto m.item).extension_range
  count_is = length-map (out-DescriptorProto m.item).extension_range (λ (r : ExtensionRange). record { start = signed_or_zero r.start; «end» = r.«end» })

  pub range_in_first : (i : ℕ) (r : Part Range) → i < length (out-DescriptorProto m.item).extension_range → (get_or (message_ranges m) i r).place ≡ m.place ++ pos 5 ∷ pos i ∷ []
  range_in_first i r lt =
      let below : i < length first_ones = omega (arith, length_parts [] m.place 5 (extension_ranges m.item), count_is) in
      ap (λ (p : Part Range). p.place) (get_or_append_left first_ones other_ones r i below)
      ∙ place_at_index [] m.place 5 (extension_ranges m.item) i r (omega (arith, count_is))

  pub range_in_other : (i : ℕ) (r : Part Range) → length (out-DescriptorProto m.item).extension_range ≤ i → i < length (message_ranges m)
      → (get_or (message_ranges m) i r).place ≡ m.place ++ pos 9 ∷ pos (i - length (out-DescriptorProto m.item).extension_range) ∷ []
  range_in_other i r from lt =
      let count : length first_ones ≡ length (out-DescriptorProto m.item).extension_range = length_parts [] m.place 5 (extension_ranges m.item) ∙ count_is in
      let below : i - length (out-DescriptorProto m.item).extension_range < length (reserved_ranges m.item) =
      omega (arith, count, length-append first_ones other_ones, length_parts [] m.place 9 (reserved_ranges m.item)) in
      ap (λ (p : Part Range). p.place) (get_or-append_right first_ones other_ones (length (out-DescriptorProto m.item).extension_range) i r count from)
      ∙ place_at_index [] m.place 9 (reserved_ranges m.item) (i - length (out-DescriptorProto m.item).extension_range) r below

  pub ranges_items : all_ranges m.item ≡ map (λ p. p.item) (message_ranges m)
  ranges_items =
      sym (map-append (λ (p : Part Range). p.item) first_ones other_ones
      ∙ ap (λ (rs : List Range). rs ++ map (λ (p : Part Range). p.item) other_ones) (items_are [] m.place 5 (extension_ranges m.item))
      ∙ ap (λ (rs : List Range). extension_ranges m.item ++ rs) (items_are [] m.place 9 (reserved_ranges m.item)))

  -- ---- ranges of a message

  -- the extension ranges of proto3
  abbrev tail : Bool → List Place
  tail proto3 = cond proto3 (map (λ r. r.place) (extension_range_parts m)) []

  pub first_extension : (proto3 : Bool) → proto3 ≡ true → is_empty (out-DescriptorProto m.item).extension_range ≡ false → Contains (bad_message_ranges proto3 m) (m.place ++ pos 5 ∷ pos 0 ∷ [])
  first_extension proto3 on some =
      Contains-append_right (bad_ranges_of is_bad_range (message_ranges m)) (tail proto3) (m.place ++ pos 5 ∷ pos 0 ∷ [])
      (subst (λ (b : Bool). Contains (tail b) (m.place ++ pos 5 ∷ pos 0 ∷ [])) (sym on) (first (out-DescriptorProto m.item).extension_range some))
    where
      first : (rs : List ExtensionRange) → is_empty rs ≡ false
          → Contains (map (λ (q : Part Range). q.place) (parts {X = Range} [] m.place 5 (map (λ (r : ExtensionRange). record { start = signed_or_zero r.start; «end» = r.«end» }) rs))) (m.place ++ pos 5 ∷ pos 0 ∷ [])
      first [] e = absurd (false≢true (sym e))
      first (r ∷ rs) e = (0, omega arith, refl)

  pub no_extensions : (proto3 : Bool) → (proto3 ≡ false) ⊎ (is_empty (out-DescriptorProto m.item).extension_range ≡ true) → tail proto3 ≡ []
  no_extensions proto3 (inl off) = ap tail off
  no_extensions true (inr none) = empty (out-DescriptorProto m.item).extension_range none
    where
      empty : (rs : List ExtensionRange) → is_empty rs ≡ true → map (λ (q : Part Range). q.place) (parts {X = Range} [] m.place 5 (map (λ (r : ExtensionRange). record { start = signed_or_zero r.start; «end» = r.«end» }) rs)) ≡ []
      empty [] e = refl
      empty (r ∷ rs) e = absurd (false≢true e)
  no_extensions false (inr none) = refl

  pub message_range_some : (proto3 : Bool) (rs : List Range) (i : ℕ) (p : Place) → rs ≡ all_ranges m.item → IsIndex (λ k r. is_bad_range r || is_earlier share_number rs k r) rs (Some i)
      → ((r : Part Range) → i < length (message_ranges m) → p ≡ (get_or (message_ranges m) i r).place) → Contains (bad_message_ranges proto3 m) p
  message_range_some proto3 rs i p is h at =
      let d : Part Range = record { scope = []; place = []; index = 0; item = record { start = pos 0; «end» = None } } in
      let within : i < length (message_ranges m) =
      omega (arith, h.0, ap length (is ∙ ranges_items), length-map (message_ranges m) (λ (q : Part Range). q.item)) in
      Contains-append_left (bad_ranges_of is_bad_range (message_ranges m)) (tail proto3) p
      (subst (Contains (bad_ranges_of is_bad_range (message_ranges m))) (sym (at d within)) (ranges_some is_bad_range (message_ranges m) rs i d (is ∙ ranges_items) h))

  pub message_range_none : (proto3 : Bool) (rs : List Range) → rs ≡ all_ranges m.item → IsIndex (λ k r. is_bad_range r || is_earlier share_number rs k r) rs None
      → (proto3 ≡ false) ⊎ (is_empty (out-DescriptorProto m.item).extension_range ≡ true) → bad_message_ranges proto3 m ≡ []
  message_range_none proto3 rs is h off =
      among_right (bad_ranges_of is_bad_range (message_ranges m)) (tail proto3) None (ranges_none is_bad_range (message_ranges m) rs (is ∙ ranges_items) h) (no_extensions proto3 off)
