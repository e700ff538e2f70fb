-- Places that searches find.
use Rattle.std.proofs.Common.{◌≡◌, ◌∙◌, ℕ, ◌+◌, ◌<◌, ◌≤◌, Bool, true, false, cond, List, [], ◌∷◌, ◌++◌, map, length, drop, get_or, refl, ap, sym, subst}
use Rattle.std.specs.Prelude.{pos, Option, Some, None, Contains, filter, find}
use Rattle.std.specs.List.{flat_map, position}
use Rattle.std.specs.Option.{option_map}
use Rattle.std.proofs.lemmas.List.{at_drop_more, at_drop_all, append_assoc, map-append}
use Rattle.std.proofs.lemmas.List.Elements.{Contains-append_left, filter-append}
use Rattle.pbx_desc_records.specs.declared.field.FieldDescriptorProto.{FieldDescriptorProto}
use Rattle.pbx_desc_records.specs.declared.message.DescriptorProto.{DescriptorProto}
use Rattle.pbx_desc_records.specs.declared.file.FileDescriptorProto.{FileDescriptorProto}
use Rattle.pbx_link_definitions.specs.Says.{own_fields, is_proto3}
use Rattle.pbx_link_definitions.specs.Definitions.{Place, Part, part, at, message_name, fields_in, messages, extensions}
use Rattle.pbx_link_definitions.specs.Places.{places_where, repeated, IsAmong}
use Rattle.pbx_link_definitions.specs.Found.{IsIndex, is_earlier}
use Rattle.pbx_link_rules_field.specs.Rules.{unfit_numbers, repeated_numbers, reserved_names, bad_numbers_in, has_bad_type, bad_types_among, bad_types_in}
use Rattle.pbx_link_rules_field.specs.Rules.{bad_types, is_bad_label, bad_labels_among, bad_labels_in, bad_labels}
use Rattle.pbx_link_definitions.proofs.Indexes.{position_is_index, is_among, again_is_among, at_head}

-- ---- fields of a message

-- the place of the field of a number of the field at an index
abbrev pub field_at : Part DescriptorProto → ℕ → ℕ → Place
field_at m n i = m.place ++ pos 2 ∷ pos i ∷ pos n ∷ []

is_field_at : (m : Part DescriptorProto) (n i : ℕ) (x : FieldDescriptorProto) → at (part (message_name m) m.place 2 i x) n ≡ field_at m n i
is_field_at m n i x = append_assoc m.place (pos 2 ∷ pos i ∷ []) (pos n ∷ [])

module _ (m : Part DescriptorProto) (item : DescriptorProto) (same : item ≡ m.item) (n : ℕ) where
  -- the first field that passes a test, which may look at the message
  module _ (P : DescriptorProto → FieldDescriptorProto → Bool) (o : Option ℕ) (is : o ≡ position (P item) (own_fields item)) where
    pub among_fields : IsAmong (places_where (λ (p : Part FieldDescriptorProto). P m.item p.item) (λ p. at p n) (fields_in m)) (option_map
        (field_at m n) o)
    among_fields =
        is_among (message_name m) m.place 2 (λ (p : Part FieldDescriptorProto). P m.item p.item) (λ p. at p n) (field_at m n) (is_field_at m n)
        (own_fields m.item) o
        (position_is_index (P m.item) (own_fields m.item) o (is ∙ ap (λ (d : DescriptorProto). position (P d) (own_fields d)) same))

    pub field_here : (i : ℕ) (above there : Place) → o ≡ Some i → above ≡ m.place → there ≡ above ++ pos 2 ∷ pos i ∷ pos n ∷ []
        → Contains (places_where (λ (p : Part FieldDescriptorProto). P m.item p.item) (λ p. at p n) (fields_in m)) there
    field_here i above there found over e =
        subst (λ q. Contains (places_where (λ (p : Part FieldDescriptorProto). P m.item p.item) (λ p. at p n) (fields_in m)) q) (sym (e
        ∙ ap (λ (a : Place). a ++ pos 2 ∷ pos i ∷ pos n ∷ []) over))
        (subst (λ r. IsAmong (places_where (λ (p : Part FieldDescriptorProto). P m.item p.item) (λ p. at p n) (fields_in m)) (option_map (field_at
        m n) r)) found among_fields)

    pub no_field : o ≡ None → places_where (λ (p : Part FieldDescriptorProto). P m.item p.item) (λ p. at p n) (fields_in m) ≡ []
    no_field found = subst (λ r. IsAmong (places_where (λ (p : Part FieldDescriptorProto). P m.item p.item) (λ p. at p n) (fields_in m))
        (option_map (field_at m n) r)) found among_fields

  -- a field that is like an earlier one
  module _ (like : FieldDescriptorProto → FieldDescriptorProto → Bool) (fields : List FieldDescriptorProto) (own : fields
      ≡ own_fields item) (o : Option ℕ) (is : IsIndex (is_earlier like fields) fields o) where
    pub among_again : IsAmong (map (λ (p : Part FieldDescriptorProto). at p n) (repeated (λ (p q : Part FieldDescriptorProto). like p.item q.item)
        [] (fields_in m))) (option_map (field_at m n) o)
    among_again =
        again_is_among (message_name m) m.place 2 like (λ (p q : Part FieldDescriptorProto). like p.item q.item) (λ p q. refl) (λ p. at p n)
        (field_at m n) (is_field_at m n) (own_fields m.item) o
        (subst (λ xs. IsIndex (is_earlier like xs) xs o) (own ∙ ap own_fields same) is)

    pub again_here : (i : ℕ) (above there : Place) → o ≡ Some i → above ≡ m.place → there ≡ above ++ pos 2 ∷ pos i ∷ pos n ∷ []
        → Contains (map (λ (p : Part FieldDescriptorProto). at p n) (repeated (λ (p q : Part FieldDescriptorProto). like p.item q.item) []
        (fields_in m))) there
    again_here i above there found over e =
        subst (λ q. Contains (map (λ (p : Part FieldDescriptorProto). at p n) (repeated (λ (p q : Part FieldDescriptorProto). like p.item q.item)
        [] (fields_in m))) q)
        (sym (e ∙ ap (λ (a : Place). a ++ pos 2 ∷ pos i ∷ pos n ∷ []) over))
        (subst (λ r. IsAmong (map (λ (p : Part FieldDescriptorProto). at p n) (repeated (λ (p q : Part FieldDescriptorProto). like p.item q.item)
        [] (fields_in m))) (option_map (field_at m n) r)) found among_again)

    pub none_again : o ≡ None → map (λ (p : Part FieldDescriptorProto). at p n) (repeated (λ (p q : Part FieldDescriptorProto). like p.item q.item)
        [] (fields_in m)) ≡ []
    none_again found = subst (λ r. IsAmong (map (λ (p : Part FieldDescriptorProto). at p n) (repeated (λ (p q : Part FieldDescriptorProto). like
        p.item q.item) [] (fields_in m))) (option_map (field_at m n) r)) found among_again

-- ---- two lists of places

pub in_second : (ps qs : List Place) (p : Place) → ps ≡ [] → Contains qs p → Contains (ps ++ qs) p
in_second ps qs p e h = subst (λ (rs : List Place). Contains (rs ++ qs) p) (sym e) h

pub none_of_both : (ps qs : List Place) → ps ≡ [] → qs ≡ [] → ps ++ qs ≡ []
none_of_both ps qs e h = ap (λ (rs : List Place). rs ++ qs) e ∙ h

-- ---- item by item

module _ {A : Type 0} (places : A → List Place) (xs : List A) (i : ℕ) (x : A) (within : i < length xs) (is : x
    ≡ get_or xs i x) (so_far : flat_map places xs ≡ flat_map places (drop i xs)) where
  next : flat_map places xs ≡ places x ++ flat_map places (drop (i + 1) xs)
  next = so_far ∙ at_drop_more (flat_map places) xs i x within ∙ ap (λ (y : A). places y ++ flat_map places (drop (i + 1) xs)) (sym is)

  pub item_here : (p : Place) → Contains (places x) p → Contains (flat_map places xs) p
  item_here p h = subst (λ (ps : List Place). Contains ps p) (sym next) (Contains-append_left (places x) (flat_map places (drop (i + 1) xs)) p h)

  pub item_not : places x ≡ [] → flat_map places xs ≡ flat_map places (drop (i + 1) xs)
  item_not e = next ∙ ap (λ (ps : List Place). ps ++ flat_map places (drop (i + 1) xs)) e

pub no_item : {A : Type 0} (places : A → List Place) (xs : List A) (i : ℕ) → length xs ≤ i → flat_map places xs ≡ flat_map places (drop i xs)
    → flat_map places xs ≡ []
no_item places xs i done so_far = so_far ∙ at_drop_all (flat_map places) xs i done

-- ---- what `find` says

module _ {A : Type 0} (P : A → Bool) (place : A → Place) where
  pub among_found : (xs : List A) (o : Option A) → o ≡ find P xs → IsAmong (places_where P place xs) (option_map place o)
  among_found xs o e = subst (λ (r : Option A). IsAmong (places_where P place xs) (option_map place r)) (sym e) (at xs)
    where
      at : (xs : List A) → IsAmong (places_where P place xs) (option_map place (find P xs))
      at [] = refl
      at (x ∷ xs) = by (P x) (at xs)
        where
          by : (b : Bool) → IsAmong (places_where P place xs) (option_map place (find P xs))
              → IsAmong (map place (cond b (x ∷ filter P xs) (filter P xs))) (option_map place (cond b (Some x) (find P xs)))
          by true h = at_head (place x) (place x) (places_where P place xs) refl
          by false h = h

-- ---- of fields and extensions

places_append : {A : Type 0} (P : A → Bool) (place : A → Place) (xs ys : List A) → places_where P place (xs ++ ys)
    ≡ places_where P place xs ++ places_where P place ys
places_append P place xs ys = ap (map place) (filter-append P xs ys) ∙ map-append place (filter P xs) (filter P ys)

pub places_flat : {A B : Type 0} (P : B → Bool) (place : B → Place) (f : A → List B) (xs : List A) → places_where P place (flat_map f xs)
    ≡ flat_map (λ x. places_where P place (f x)) xs
places_flat P place f [] = refl
places_flat P place f (x ∷ xs) = places_append P place (f x) (flat_map f xs)
    ∙ ap (λ (ps : List Place). places_where P place (f x) ++ ps) (places_flat P place f xs)

pub places_both : {A B : Type 0} (P : B → Bool) (place : B → Place) (f : A → List B) (xs : List A) (ys : List B)
    → places_where P place (flat_map f xs ++ ys) ≡ flat_map (λ x. places_where P place (f x)) xs ++ places_where P place ys
places_both P place f xs ys = places_append P place (flat_map f xs) ys
    ∙ ap (λ (ps : List Place). ps ++ places_where P place ys) (places_flat P place f xs)

-- ---- the parts of a list of places

-- found in the first part
pub in_first_part : (all ps qs : List Place) (o : Option Place) (p : Place) → all ≡ ps ++ qs → IsAmong ps o → o ≡ Some p → Contains all p
in_first_part all ps qs o p e h found =
    subst (λ (rs : List Place). Contains rs p) (sym e) (Contains-append_left ps qs p (subst (λ (r : Option Place). IsAmong ps r) found h))

-- not in the first part, so what is found in the second
pub in_second_part : (all ps qs : List Place) (o r : Option Place) → all ≡ ps ++ qs → IsAmong ps o → o ≡ None → IsAmong qs r → IsAmong all r
in_second_part all ps qs o r e h none k =
    subst (λ (rs : List Place). IsAmong rs r) (sym (e ∙ ap (λ (rs : List Place). rs ++ qs) (subst (λ (t : Option Place). IsAmong ps t) none h))) k

-- numbers and names of a message
pub number_first : (m : Part DescriptorProto) (p : Place) → Contains (unfit_numbers m) p → Contains (bad_numbers_in m) p
number_first m p h = Contains-append_left (unfit_numbers m ++ repeated_numbers m) (reserved_names m) p (Contains-append_left (unfit_numbers m)
    (repeated_numbers m) p h)

pub number_second : (m : Part DescriptorProto) (p : Place) → unfit_numbers m ≡ [] → Contains (repeated_numbers m) p → Contains (bad_numbers_in m) p
number_second m p e h = Contains-append_left (unfit_numbers m ++ repeated_numbers m) (reserved_names m) p (in_second (unfit_numbers m)
    (repeated_numbers m) p e h)

pub name_third : (m : Part DescriptorProto) (p : Place) → unfit_numbers m ≡ [] → repeated_numbers m ≡ [] → Contains (reserved_names m) p
    → Contains (bad_numbers_in m) p
name_third m p e k h = in_second (unfit_numbers m ++ repeated_numbers m) (reserved_names m) p (none_of_both (unfit_numbers m) (repeated_numbers m)
    e k) h

pub no_number : (m : Part DescriptorProto) → unfit_numbers m ≡ [] → repeated_numbers m ≡ [] → reserved_names m ≡ [] → bad_numbers_in m ≡ []
no_number m e k h = none_of_both (unfit_numbers m ++ repeated_numbers m) (reserved_names m) (none_of_both (unfit_numbers m) (repeated_numbers m) e
    k) h

-- types of fields and of extensions
pub types_both : (f : FileDescriptorProto) → bad_types f ≡ flat_map bad_types_in (messages f) ++ bad_types_among (extensions f)
types_both f = places_both (λ (p : Part FieldDescriptorProto). has_bad_type p.item) (λ p. at p 5) fields_in (messages f) (extensions f)

-- labels of fields and of extensions
pub labels_both : (f : FileDescriptorProto) → bad_labels f
    ≡ flat_map (bad_labels_in (is_proto3 f)) (messages f) ++ bad_labels_among true (extensions f)
labels_both f =
    ap (λ (ps : List Place). ps ++ bad_labels_among true (extensions f))
    (places_flat (λ (p : Part FieldDescriptorProto). is_bad_label (is_proto3 f) p.item.label) (λ p. at p 4) fields_in (messages f))
