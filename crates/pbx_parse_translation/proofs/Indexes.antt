-- The index of each field names its own oneof.
use Rattle.std.proofs.Common.{◌≡◌, ℕ, zero, suc, ◌+◌, ◌≤◌, pos, List, [], ◌∷◌, ◌++◌, map, length, drop, slice_get, Bool, true, false, if◌then◌else◌, Option, Some, None, option_map, option_and_then, refl, sym, ap, ◌∙◌, arith, append_assoc, length-append, length-drop}
use Rattle.std.specs.List.{flat_map}
use Rattle.std.proofs.lemmas.List.{drop-drop, drop-map, map-append}
use Rattle.pbx_desc_records.specs.declared.field.FieldDescriptorProto.{FieldDescriptorProto}
use Rattle.pbx_desc_records.specs.declared.field.OneofDescriptorProto.{OneofDescriptorProto}
use Rattle.pbx_desc_records.specs.declared.message.DescriptorProto.{DescriptorProto, out-roll-DescriptorProto}
use Rattle.pbx_parse_tree.specs.declared.tree.Version.{Version}
use Rattle.pbx_parse_tree.specs.Tree.{Body, Field, MapField, Member, empty_member, member, empty_item, item_field, item_map, item_oneof, item_enum, item_extend, item_extensions, item_reserved, item_option}
use Rattle.pbx_parse_tree.specs.View.{BodyItem, plain, nested}
use Rattle.pbx_parse_translation.specs.Fields.{is_proto3_optional, labelled_field, typed_field, untyped_field, field_record, member_records, map_record}
use Rattle.pbx_parse_translation.specs.Synthetic.{free_name, synthetic_names}
use Rattle.pbx_parse_translation.specs.Messages.{body_items, oneof_record, oneofs_in, optional_names_in, member_names, scope_names, synthetic_oneofs, oneof_records, fields_in, fields_from, fields_of, message_with}
use Rattle.pbx_parse_translation.specs.Oneofs.{own_oneofs_in, own_oneofs_from, own_oneofs, name_at, indexed_oneofs}

-- ---- lists

first_of_rest : {A : Type 0} (xs : List A) (n : ℕ) (x : A) (ys : List A) → drop n xs ≡ x ∷ ys → slice_get xs n ≡ Some x
first_of_rest [] zero x ys e = cc
first_of_rest [] (suc n) x ys e = cc
first_of_rest (z ∷ xs) zero x ys e = cc
first_of_rest (z ∷ xs) (suc n) x ys e = first_of_rest xs n x ys e

drop_front : {A : Type 0} (xs ys : List A) → drop (length xs) (xs ++ ys) ≡ ys
drop_front [] ys = refl
drop_front (x ∷ xs) ys = drop_front xs ys

length_synthetic : (taken fields : List (List ℕ)) → length (synthetic_names taken fields) ≡ length fields
unfolding synthetic_names
length_synthetic taken [] = refl
length_synthetic taken (field ∷ fields) = ap suc (length_synthetic (taken ++ free_name taken field ∷ []) fields)

-- ---- one item

-- what the index of a field names
abbrev named : List OneofDescriptorProto → FieldDescriptorProto → Option (Option (List ℕ))
named oneofs f = option_map (name_at oneofs) f.oneof_index

module _ (oneofs : List OneofDescriptorProto) (v : Version) where
  written_named : (w : ℕ) (name : List ℕ) (after : List OneofDescriptorProto) → drop w oneofs ≡ oneof_record name ∷ after → name_at oneofs (pos w) ≡ Some name
  unfolding oneof_record
  written_named w name after written = ap (λ (o : Option OneofDescriptorProto). option_and_then (λ r. r.name) o) (first_of_rest oneofs w (oneof_record name) after written)

  members_named : (w : ℕ) (name : List ℕ) → name_at oneofs (pos w) ≡ Some name → (ms : List Member)
      → map (named oneofs) (flat_map (member_records w) ms) ≡ map (option_map Some) (map (λ (m : List ℕ). Some name) (flat_map member_names ms))
  unfolding member_records typed_field untyped_field
  members_named w name at [] = refl
  members_named w name at (empty_member s ∷ ms) = members_named w name at ms
  members_named w name at (member k t ∷ ms) = ap (λ (n : Option (List ℕ)). Some n ∷ map (named oneofs) (flat_map (member_records w) ms)) at ∙ ap (λ ns. Some (Some name) ∷ ns) (members_named w name at ms)

  module _ (s : ℕ) (f : Field) where
    labelled_named : named oneofs (labelled_field f) ≡ None
    unfolding labelled_field typed_field untyped_field
    labelled_named = refl

    optional_named : (synthetic : List (List ℕ)) → drop s oneofs ≡ map oneof_record synthetic → 1 ≤ length synthetic → Some (name_at oneofs (pos s)) ≡ option_map Some (slice_get synthetic 0)
    unfolding oneof_record
    optional_named [] from enough = absurd (omega arith)
    optional_named (x ∷ xs) from enough = ap (λ (o : Option OneofDescriptorProto). Some (option_and_then (λ r. r.name) o)) (first_of_rest oneofs s (oneof_record x) (map oneof_record xs) from)

    either_named : (b : Bool) (synthetic : List (List ℕ)) → drop s oneofs ≡ map oneof_record synthetic → length (if b then f.tail.name.text ∷ [] else []) ≤ length synthetic
        → named oneofs (if b then record (labelled_field f) { oneof_index = Some (pos s); proto3_optional = Some true } else labelled_field f) ≡ option_map Some (if b then slice_get synthetic 0 else None)
    either_named true synthetic from enough = optional_named synthetic from enough
    either_named false synthetic from enough = labelled_named

    field_named : (synthetic : List (List ℕ)) → drop s oneofs ≡ map oneof_record synthetic → length (optional_names_in v (plain (item_field f))) ≤ length synthetic
        → named oneofs (field_record v s f) ≡ option_map Some (if is_proto3_optional v f.label then slice_get synthetic 0 else None)
    unfolding field_record
    field_named synthetic from enough = either_named (is_proto3_optional v f.label) synthetic from enough

  map_named : (m : MapField) → named oneofs (map_record m) ≡ None
  unfolding map_record untyped_field
  map_named m = refl

  item_named : (w s : ℕ) (synthetic : List (List ℕ)) (p : BodyItem) (after : List OneofDescriptorProto) → drop w oneofs ≡ oneofs_in p ++ after → drop s oneofs ≡ map oneof_record synthetic → length (optional_names_in v p) ≤ length synthetic
      → map (named oneofs) (fields_in v w s p) ≡ map (option_map Some) (own_oneofs_in v synthetic p)
  item_named w s synthetic (plain (item_field f)) after written from enough = ap (λ (n : Option (Option (List ℕ))). n ∷ []) (field_named s f synthetic from enough)
  item_named w s synthetic (plain (item_map m)) after written from enough = ap (λ (n : Option (Option (List ℕ))). n ∷ []) (map_named m)
  item_named w s synthetic (plain (item_oneof o)) after written from enough = members_named w o.name.text (written_named w o.name.text after written) o.members
  item_named w s synthetic (plain (empty_item x)) after written from enough = refl
  item_named w s synthetic (plain (item_enum x)) after written from enough = refl
  item_named w s synthetic (plain (item_extend x)) after written from enough = refl
  item_named w s synthetic (plain (item_extensions x)) after written from enough = refl
  item_named w s synthetic (plain (item_reserved x)) after written from enough = refl
  item_named w s synthetic (plain (item_option x)) after written from enough = refl
  item_named w s synthetic (nested h b x) after written from enough = refl

  -- ---- all items

  items_named : (w s : ℕ) (synthetic : List (List ℕ)) (ps : List BodyItem) (after : List OneofDescriptorProto) → drop w oneofs ≡ flat_map oneofs_in ps ++ after → drop s oneofs ≡ map oneof_record synthetic → length synthetic ≡ length (flat_map (optional_names_in v) ps)
      → map (named oneofs) (fields_from v w s ps) ≡ map (option_map Some) (own_oneofs_from v synthetic ps)
  unfolding fields_from own_oneofs_from
  items_named w s synthetic [] after written from all = refl
  items_named w s synthetic (p ∷ ps) after written from all =
      let os = oneofs_in p in
      let k = length (optional_names_in v p) in
      let later = flat_map oneofs_in ps ++ after in
      let here : drop w oneofs ≡ os ++ later = written ∙ append_assoc os (flat_map oneofs_in ps) after in
      let n : length synthetic ≡ k + length (flat_map (optional_names_in v) ps) = all ∙ length-append (optional_names_in v p) (flat_map (optional_names_in v) ps) in
      let written_then : drop (w + length os) oneofs ≡ later = sym (drop-drop (length os) w oneofs) ∙ ap (drop (length os)) here ∙ drop_front os later in
      let from_then : drop (s + k) oneofs ≡ map oneof_record (drop k synthetic) = sym (drop-drop k s oneofs) ∙ ap (drop k) from ∙ drop-map oneof_record k synthetic in
      let all_then : length (drop k synthetic) ≡ length (flat_map (optional_names_in v) ps) = omega (arith, length-drop k synthetic) in
      map-append (named oneofs) (fields_in v w s p) (fields_from v (w + length os) (s + k) ps)
      ∙ ap (λ xs. xs ++ map (named oneofs) (fields_from v (w + length os) (s + k) ps)) (item_named w s synthetic p later here from (omega arith))
      ∙ ap (λ ys. map (option_map Some) (own_oneofs_in v synthetic p) ++ ys) (items_named (w + length os) (s + k) (drop k synthetic) ps after written_then from_then all_then)
      ∙ sym (map-append (option_map Some) (own_oneofs_in v synthetic p) (own_oneofs_from v (drop k synthetic) ps))

fields_named : (v : Version) (ps : List BodyItem) → map (named (oneof_records v ps)) (fields_of v ps) ≡ map (option_map Some) (own_oneofs v ps)
fields_named v ps =
    let os = flat_map oneofs_in ps in
    let synthetic = synthetic_oneofs v ps in
    items_named (oneof_records v ps) v 0 (length os) synthetic ps (map oneof_record synthetic) refl (drop_front os (map oneof_record synthetic)) (length_synthetic (scope_names ps) (flat_map (optional_names_in v) ps))

pub all_named : (v : Version) (name : List ℕ) (b : Body) (types : List DescriptorProto) → indexed_oneofs (message_with v name b types) ≡ map (option_map Some) (own_oneofs v (body_items b))
unfolding message_with
all_named v name b types = ap (λ m. map (named m.oneof_decl) m.field) (out-roll-DescriptorProto _) ∙ fields_named v (body_items b)
