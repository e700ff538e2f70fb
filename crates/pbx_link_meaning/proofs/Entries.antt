-- The entries of maps in a pool: linking leaves them entries, and the kind of their keys is one that keys may have.
use Rattle.std.proofs.Common.{◌≡◌, ◌∙◌, ◌⊎◌, ℕ, ◌+◌, ℤ, pos, negsuc, ◌==◌, ◌&&◌, ◌||◌, not, cond, if◌then◌else◌, List, [], ◌∷◌, map}
use Rattle.std.proofs.Common.{Bool, true, false, Option, Some, None, refl, ap, sym, subst, inl, inr, rules}
use Rattle.std.specs.Prelude.{Contains, filter}
use Rattle.std.specs.List.{list_any, filter_map, cons_option, last_or, flat_map}
use Rattle.std.proofs.lemmas.Bool.{false≢true}
use Rattle.std.proofs.lemmas.List.Folds.{list_any-append}
use Rattle.pbx_wire.specs.Text.{is_record_number, is_numbered}
use Rattle.pbx_wire.specs.declared.rec.Rec.{Rec, Varint, Fixed64, Bytes, Group', Fixed32, the_lemmas as rec_lemmas}
use Rattle.pbx_content.specs.Shape.{is_kept, is_key_kind}
use Rattle.pbx_content.specs.declared.shape.Kind.{Kind}
use Rattle.pbx_desc_records.specs.Options.{truth_at}
use Rattle.pbx_desc_records.specs.declared.field.FieldDescriptorProto.{FieldDescriptorProto}
use Rattle.pbx_desc_records.specs.declared.message.DescriptorProto.{DescriptorProto, out-DescriptorProto}
use Rattle.pbx_desc_records.specs.declared.message.DescriptorProto.TheOpen.{DescriptorProto-F}
use Rattle.pbx_desc_records.specs.declared.options.Options.{Options}
use Rattle.pbx_link_definitions.specs.Definitions.{Place, Part, at, part, parts, fields_in, messages, fields, extensions, top_messages, message_name}
use Rattle.pbx_link_definitions.specs.Places.{places_where}
use Rattle.pbx_link_definitions.specs.Says.{is_number, number_or_zero, is_set, option_bool, is_entry, own_fields}
use Rattle.pbx_link_scope.specs.Scope.{visible, bound_if}
use Rattle.pbx_link_rules_field.specs.Rules.{all_fields, has_bad_type, is_bad_type}
use Rattle.pbx_link_rules_record.specs.EntryRules.{is_key_type, is_key, is_value, are_entry_fields, is_empty, is_proper_entry, is_bad_entry, bad_entries}
use Rattle.pbx_link_rules_scope.specs.MapFields.{bad_map_fields}
use Rattle.pbx_link_record.specs.Unknown.{unread}
use Rattle.pbx_link_record.specs.Settled.{settled_field, settled_options}
use Rattle.pbx_link_record.specs.Linked.{linked_field, type_by, exact}
use Rattle.pbx_link_record.specs.Laws.{linked_part}
use Rattle.pbx_link_rules.specs.Breaches.{keeps_rules}
use Rattle.pbx_link_rules.proofs.First.{rule_8, rule_12}
use Rattle.pbx_link_rules.proofs.RulesKept.{keeps_each}
use Rattle.pbx_link_rules.specs.Pool.{ArePooled}
use Rattle.pbx_link_rules.proofs.Lists.{neither, no_other, or_cases, left_nil, right_nil, none_where, parts_from}
use Rattle.pbx_link_meaning.proofs.PoolParts.{linked_layer_is}
use Rattle.pbx_link_rules.proofs.Types.{not_at}
use Rattle.pbx_link_meaning.specs.Descriptors.{Described, described, fields_of_message, with_number}
use Rattle.pbx_link_meaning.specs.Shapes.{kind_by, part_kind}
use Rattle.pbx_link_meaning.proofs.DescribedLists.{File}
use Rattle.pbx_link_meaning.proofs.Lists.{both_parts, equal_is, none_inside}
use Rattle.pbx_link_meaning.proofs.Types.{each_message}

-- ---- options that are settled

varint_numbered : (n v : ℕ) → is_numbered (Varint n v) ≡ is_record_number n
varint_numbered n v = search (rules, rec_lemmas)

-- a record that is not written says nothing under the number 7
unwritten_is_silent : (r : Rec) → (is_numbered r && is_kept [] r) ≡ false → truth_at 7 r ≡ None
unwritten_is_silent (Varint n v) h = by_test (n == 7) refl
  where
    by_test : (b : Bool) → (n == 7) ≡ b → (if b then Some (not (v == 0)) else None) ≡ None
    by_test true w =
        let seven : n ≡ 7 = equal_is n 7 w in
        let numbered : is_numbered (Varint n v) ≡ true = varint_numbered n v ∙ ap is_record_number seven in
        absurd (cc)
    by_test false w = refl
unwritten_is_silent (Fixed64 n v) h = refl
unwritten_is_silent (Bytes n b) h = refl
unwritten_is_silent (Group' n shape row) h = refl
unwritten_is_silent (Fixed32 n v) h = refl

skipped : (o : Option Bool) (bs : List Bool) → o ≡ None → cons_option o bs ≡ bs
skipped None bs h = refl
skipped (Some b) bs h = absurd (cc)

-- the record may be written
abbrev is_written : Rec → Bool
is_written r = is_numbered r && is_kept [] r

said_alike : (rs : List Rec) → filter_map (truth_at 7) (filter is_written rs) ≡ filter_map (truth_at 7) rs
said_alike [] = refl
said_alike (r ∷ rs) = by_test (is_written r) refl (said_alike rs)
  where
    by_test : (b : Bool) → is_written r ≡ b → filter_map (truth_at 7) (filter is_written rs) ≡ filter_map (truth_at 7) rs
        → filter_map (truth_at 7) (cond b (r ∷ filter is_written rs) (filter is_written rs)) ≡ filter_map (truth_at 7) (r ∷ rs)
    by_test true w ih = ap (cons_option (truth_at 7 r)) ih
    by_test false w ih = ih ∙ sym (skipped (truth_at 7 r) (filter_map (truth_at 7) rs) (unwritten_is_silent r w))

options_kept : (o : Option Options) → option_bool 7 (settled_options o) ≡ option_bool 7 o
unfolding unread
options_kept None = refl
options_kept (Some p) = ap (last_or None) (said_alike p.recs)

module _ (seen : List File) (p : Part DescriptorProto) where
  abbrev own : DescriptorProto-F DescriptorProto
  own = out-DescriptorProto p.item

  -- linking leaves an entry an entry
  entry_kept : is_entry (linked_part seen p).item ≡ is_entry p.item
  entry_kept =
      ap (λ (l : DescriptorProto-F DescriptorProto). is_set (option_bool 7 l.options)) (linked_layer_is seen p.scope p.item)
      ∙ ap is_set (options_kept own.options)

  fields_linked : own_fields (linked_part seen p).item ≡ map settled_field (map (linked_field seen (message_name p)) (own_fields p.item))
  fields_linked = ap (λ (l : DescriptorProto-F DescriptorProto). l.field) (linked_layer_is seen p.scope p.item)

-- ---- the kind of a key

either_key : (b : Bool) (j k : Kind) → (b ≡ true → is_key_kind j ≡ true) → is_key_kind k ≡ true → is_key_kind (if b then j else k) ≡ true
either_key true j k h g = h refl
either_key false j k h g = g

key_type_at : (n k : ℕ) → is_key_type (Some (pos n)) ≡ true → (n == k) ≡ true → is_key_type (Some (pos k)) ≡ true
key_type_at n k h e = subst (λ (m : ℕ). is_key_type (Some (pos m)) ≡ true) (equal_is n k e) h

key_by : (pool : List File) (n : ℕ) (name : Option (List ℕ)) → is_key_type (Some (pos n)) ≡ true → is_key_kind (kind_by pool n name) ≡ true
key_by pool n name h =
    other _ _ 11 refl (other _ _ 14 refl (other _ _ 1 refl (other _ _ 2 refl (key _ _ 3 refl (key _ _ 4 refl (key _ _ 5 refl (key _ _ 6 refl
    (key _ _ 7 refl (key _ _ 8 refl (key _ _ 9 refl (other _ _ 12 refl (key _ _ 13 refl (key _ _ 15 refl (key _ _ 16 refl (key _ _ 17 refl refl)))))))))))))))
  where
    other : (j k : Kind) (m : ℕ) → is_key_type (Some (pos m)) ≡ false → is_key_kind k ≡ true → is_key_kind (if n == m then j else k) ≡ true
    other j k m none rest = either_key (n == m) j k (λ e. absurd (false≢true (sym none ∙ key_type_at n m h e))) rest

    key : (j k : Kind) (m : ℕ) → is_key_kind j ≡ true → is_key_kind k ≡ true → is_key_kind (if n == m then j else k) ≡ true
    key j k m this rest = either_key (n == m) j k (λ e. this) rest

module _ (pool seen : List File) (scope : List ℕ) where
  linked_key : (kind : Option ℤ) (name : Option (List ℕ)) → is_key_type kind ≡ true → is_bad_type kind name ≡ false
      → is_key_kind (kind_by pool (number_or_zero (type_by kind (bound_if seen scope name))) (exact seen scope name)) ≡ true
  linked_key None name h g = absurd (cc)
  linked_key (Some (negsuc n)) name h g = absurd (cc)
  linked_key (Some (pos n)) None h g = key_by pool n None h
  linked_key (Some (pos n)) (Some name) h g = absurd (named (n == 11) (n == 14) refl refl g)
    where
      named : (a b : Bool) → (n == 11) ≡ a → (n == 14) ≡ b → not (a || b) ≡ false → ⊥
      named true b e f u = false≢true (key_type_at n 11 h e)
      named false true e f u = false≢true (key_type_at n 14 h f)
      named false false e f u = absurd (cc)

-- ---- the fields of an entry

number_of_value : (o : Option ℤ) → is_number o 2 ≡ true → is_number o 1 ≡ false
number_of_value None h = refl
number_of_value (Some (negsuc n)) h = refl
number_of_value (Some (pos n)) h = let two : n ≡ 2 = equal_is n 2 h in ap (λ (k : ℕ). k == 1) two

numbered_key : (x : FieldDescriptorProto) → is_key x ≡ true → (is_number x.number 1 ≡ true) × (is_key_type x.kind ≡ true)
numbered_key x h =
    let all = both_parts _ (is_key_type x.kind) h in
    ((both_parts _ (is_number x.number 1) (both_parts _ _ (both_parts _ _ (both_parts _ _ all.0).0).0).0).1, all.1)

numbered_value : (x : FieldDescriptorProto) → is_value x ≡ true → is_number x.number 2 ≡ true
numbered_value x h = (both_parts _ (is_number x.number 2) (both_parts _ _ (both_parts _ _ (both_parts _ _ h).0).0).0).1

module _ (pool seen : List File) (file : File) (scope name : List ℕ) (place : Place) where
  -- the kind of the key among the linked and settled fields
  abbrev KeyFits : List FieldDescriptorProto → Type 0
  KeyFits xs =
      is_key_kind (part_kind (with_number (map (described pool file) (parts scope place 2 (map settled_field (map (linked_field seen name) xs)))) 1)) ≡ true

  abbrev first_of_two : Bool → Bool → FieldDescriptorProto → FieldDescriptorProto → Kind
  first_of_two a b x y =
      let made : ℕ → FieldDescriptorProto → Described FieldDescriptorProto =
      λ i z. described pool file (part scope place 2 i (settled_field (linked_field seen name z))) in
      part_kind (cond a (Some (made 0 x)) (cond b (Some (made 1 y)) None))

  key_fits : (xs : List FieldDescriptorProto) → are_entry_fields xs ≡ true → list_any has_bad_type xs ≡ false → KeyFits xs
  key_fits [] h none = absurd (cc)
  key_fits (x ∷ []) h none = absurd (cc)
  key_fits (x ∷ y ∷ []) h none =
      let first = neither (has_bad_type x) _ none in
      at (or_cases (is_key x && is_value y) (is_value x && is_key y) h) first.0 (neither (has_bad_type y) false first.1).0
    where
      fits : (z : FieldDescriptorProto) → is_key_type z.kind ≡ true → has_bad_type z ≡ false
          → is_key_kind (kind_by pool (number_or_zero (type_by z.kind (bound_if seen name z.type_name))) (exact seen name z.type_name)) ≡ true
      fits z k good = linked_key pool seen name z.kind z.type_name k good

      at : ((is_key x && is_value y) ≡ true) ⊎ ((is_value x && is_key y) ≡ true) → has_bad_type x ≡ false → has_bad_type y ≡ false
          → is_key_kind (first_of_two (is_number x.number 1) (is_number y.number 1) x y) ≡ true
      at (inl e) good other =
          let key = numbered_key x (both_parts (is_key x) (is_value y) e).0 in
          ap (λ (b : Bool). is_key_kind (first_of_two b (is_number y.number 1) x y)) key.0 ∙ fits x key.1 good
      at (inr e) other good =
          let both = both_parts (is_value x) (is_key y) e in
          let key = numbered_key y both.1 in
          ap (λ (b : Bool). is_key_kind (first_of_two b (is_number y.number 1) x y)) (number_of_value x.number (numbered_value x both.0))
          ∙ ap (λ (b : Bool). is_key_kind (first_of_two false b x y)) key.0 ∙ fits y key.1 good
  key_fits (x ∷ y ∷ z ∷ xs) h none = absurd (cc)

-- ---- entries of records that keep the rules

proper_fields : (m : DescriptorProto) → is_proper_entry m ≡ true → are_entry_fields (own_fields m) ≡ true
proper_fields m h =
    (both_parts (are_entry_fields (own_fields m)) _
    (both_parts _ _ (both_parts _ _ (both_parts _ _ (both_parts _ (is_empty (out-DescriptorProto m).reserved_range) h).0).0).0).0).0

module _ (before : List File) (f : File) (kept : keeps_rules before f ≡ true) where
  abbrev seen : List File
  seen = visible before f

  no_bad_type : list_any (λ (p : Part FieldDescriptorProto). has_bad_type p.item) (fields f) ≡ false
  no_bad_type =
      (neither _ _
      (sym (list_any-append (λ (p : Part FieldDescriptorProto). has_bad_type p.item) (fields f) (extensions f))
      ∙ none_where (λ (p : Part FieldDescriptorProto). has_bad_type p.item) (λ p. at p 5) (all_fields f)
      (sym (rule_8 before seen f) ∙ keeps_each before f kept 8))).0

  no_bad_entry : list_any (λ (m : Part DescriptorProto). is_bad_entry m.item) (messages f) ≡ false
  no_bad_entry =
      none_where (λ (m : Part DescriptorProto). is_bad_entry m.item) (λ m. m.place) (messages f)
      (right_nil (places_where (λ (m : Part DescriptorProto). is_entry m.item) (λ m. m.place) (top_messages f)) _
      (left_nil (bad_entries f) (bad_map_fields seen f) (sym (rule_12 before seen f) ∙ keeps_each before f kept 12)))

  entry_fields : (p : Part DescriptorProto) → Contains (messages f) p → is_entry p.item ≡ true → are_entry_fields (own_fields p.item) ≡ true
  entry_fields p c e =
      proper_fields p.item
      (proper (is_entry p.item) (is_proper_entry p.item) e (not_at (λ (m : Part DescriptorProto). is_bad_entry m.item) (messages f) p no_bad_entry c))
    where
      proper : (a b : Bool) → a ≡ true → (a && not b) ≡ false → b ≡ true
      proper true true u v = refl
      proper true false u v = absurd (cc)
      proper false b u v = absurd (cc)

  abbrev HasKey : Part DescriptorProto → Type 0
  HasKey p =
      (pool : List File) (file : File) → is_entry p.item ≡ true → is_key_kind (part_kind (with_number (fields_of_message (described pool file p)) 1)) ≡ true

  items_good : (k : ℕ) (scope : List ℕ) (place : Place) (xs : List FieldDescriptorProto)
      → list_any (λ (p : Part FieldDescriptorProto). has_bad_type p.item) (parts_from scope place 2 k xs) ≡ false → list_any has_bad_type xs ≡ false
  items_good k scope place [] h = refl
  items_good k scope place (x ∷ xs) h =
      let both = neither (has_bad_type x) _ h in
      no_other (has_bad_type x) (list_any has_bad_type xs) both.0 (items_good (k + 1) scope place xs both.1)

  linked_has_key : (p : Part DescriptorProto) → Contains (messages f) p → HasKey (linked_part seen p)
  linked_has_key p c pool file e =
      subst
      (λ (xs : List FieldDescriptorProto).
      is_key_kind (part_kind (with_number (map (described pool file) (parts (message_name (linked_part seen p)) p.place 2 xs)) 1)) ≡ true)
      (sym (fields_linked seen p))
      (key_fits pool seen file (message_name (linked_part seen p)) (message_name p) p.place (own_fields p.item)
      (entry_fields p c (sym (entry_kept seen p) ∙ e))
      (items_good 0 (message_name p) p.place (own_fields p.item)
      (none_inside fields_in (λ (x : Part FieldDescriptorProto). has_bad_type x.item) (messages f) p c no_bad_type)))

-- an entry of a pool has a key of a kind that keys may have
pub keys_fit : (pool : List File) → ArePooled [] pool → (p : Part DescriptorProto) → Contains (flat_map messages pool) p
    → (file : File) → is_entry p.item ≡ true → is_key_kind (part_kind (with_number (fields_of_message (described pool file p)) 1)) ≡ true
keys_fit pool pooled p c file e =
    each_message
    (λ m. (files : List File) (g : File) → is_entry m.item ≡ true → is_key_kind (part_kind (with_number (fields_of_message (described files g m)) 1)) ≡ true)
    (λ before f kept m d. linked_has_key before f kept m d) pool pooled p c pool file e
