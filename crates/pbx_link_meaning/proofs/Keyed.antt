-- The keys of maps in the shape of a pool are of kinds that keys may have.
use Rattle.std.proofs.Common.{◌≡◌, ◌∙◌, ℕ, ◌&&◌, cond, if◌then◌else◌, List, [], ◌∷◌, map, Bool, true, false, Option, Some, None, refl, subst}
use Rattle.std.specs.Prelude.{Contains, filter, option_and_then}
use Rattle.std.specs.List.{list_all, flat_map}
use Rattle.std.specs.Str.{bytes_eq}
use Rattle.std.proofs.lemmas.List.Folds.{list_all-append}
use Rattle.pbx_content.specs.Shape.{is_key_kind}
use Rattle.pbx_content.specs.Sound.{has_good_keys}
use Rattle.pbx_content.specs.declared.shape.Cardinality.TheVariants.{Singular, Repeated, Map}
use Rattle.pbx_content.specs.declared.shape.FieldShape.{FieldShape}
use Rattle.pbx_desc_records.specs.declared.field.FieldDescriptorProto.{FieldDescriptorProto}
use Rattle.pbx_desc_records.specs.declared.message.DescriptorProto.{DescriptorProto}
use Rattle.pbx_link_definitions.specs.Definitions.{Part, message_name, extensions, fields_in}
use Rattle.pbx_link_definitions.specs.Says.{is_entry, is_repeated}
use Rattle.pbx_link_rules.specs.Pool.{ArePooled}
use Rattle.pbx_link_meaning.proofs.PoolParts.{found_there}
use Rattle.pbx_link_meaning.specs.Descriptors.{Described, described, all_messages, all_extensions, message_of_name, message_referred, referred, is_entry_described}
use Rattle.pbx_link_meaning.specs.Descriptors.{fields_of_message, extensions_of_message, with_number}
use Rattle.pbx_link_meaning.specs.Shapes.{part_kind, entry_kind, cardinality_of, field_shape, extension_shape, message_shape}
use Rattle.pbx_link_meaning.proofs.DescribedLists.{File}
use Rattle.pbx_link_meaning.specs.Laws.{KeysAreValid}
use Rattle.pbx_link_meaning.proofs.Lists.{both_parts, both_true}
use Rattle.pbx_link_meaning.proofs.Types.{of_pool, each_type}
use Rattle.pbx_link_meaning.proofs.Entries.{keys_fit}

abbrev is_keyed : FieldShape → Bool
is_keyed s = has_good_keys s.cardinality

module _ (pool : List File) (pooled : ArePooled [] pool) where
  entry_key : (d : Described DescriptorProto) → Contains (all_messages pool) d → is_entry d.part.item ≡ true
      → is_key_kind (part_kind (with_number (fields_of_message d) 1)) ≡ true
  entry_key d c e =
      let o = of_pool pool d c in
      subst (λ (m : Described DescriptorProto). is_entry m.part.item ≡ true → is_key_kind (part_kind (with_number (fields_of_message m) 1)) ≡ true) o.is
      (keys_fit pool pooled o.part o.within o.file) e

  referred_there : (name : Option (List ℕ)) (d : Described DescriptorProto) → message_referred pool name ≡ Some d → Contains (all_messages pool) d
  referred_there name d h = at (referred name) h
    where
      at : (o : Option (List ℕ)) → option_and_then (message_of_name pool) o ≡ Some d → Contains (all_messages pool) d
      at None e = absurd (cc)
      at (Some q) e = found_there (λ (m : Described DescriptorProto). bytes_eq (message_name m.part) q) (all_messages pool) d e

  by_type : (r s : Bool) (o : Option (Described DescriptorProto)) → ((d : Described DescriptorProto) → o ≡ Some d → Contains (all_messages pool) d)
      → has_good_keys (if (r && is_entry_described o) then Map (entry_kind 1 o) else (if s then Repeated else Singular)) ≡ true
  by_type false true o there = refl
  by_type false false o there = refl
  by_type true true None there = refl
  by_type true false None there = refl
  by_type true s (Some d) there = by_entry (is_entry d.part.item) s (entry_key d (there d refl))
    where
      by_entry : (b c : Bool) → (b ≡ true → is_key_kind (part_kind (with_number (fields_of_message d) 1)) ≡ true)
          → has_good_keys (if b then Map (part_kind (with_number (fields_of_message d) 1)) else (if c then Repeated else Singular)) ≡ true
      by_entry true c h = h refl
      by_entry false true h = refl
      by_entry false false h = refl

  good_keys : (f : File) (p : Part FieldDescriptorProto) → has_good_keys (cardinality_of (described pool f p)) ≡ true
  good_keys f p =
      by_type (is_repeated p.item) (is_repeated p.item) (message_referred pool p.item.type_name) (referred_there p.item.type_name)

  own_keyed : (f : File) (ps : List (Part FieldDescriptorProto)) → list_all is_keyed (map field_shape (map (described pool f) ps)) ≡ true
  own_keyed f [] = refl
  own_keyed f (p ∷ ps) = both_true (has_good_keys (cardinality_of (described pool f p))) _ (good_keys f p) (own_keyed f ps)

  abbrev has_keys : Described FieldDescriptorProto → Bool
  has_keys x = has_good_keys (cardinality_of x)

  parts_good : (f : File) (ps : List (Part FieldDescriptorProto)) → list_all has_keys (map (described pool f) ps) ≡ true
  parts_good f [] = refl
  parts_good f (p ∷ ps) = both_true (has_keys (described pool f p)) _ (good_keys f p) (parts_good f ps)

  all_good : (files : List File) → list_all has_keys (flat_map (λ f. map (described pool f) (extensions f)) files) ≡ true
  all_good [] = refl
  all_good (f ∷ fs) =
      list_all-append has_keys (map (described pool f) (extensions f)) (flat_map (λ g. map (described pool g) (extensions g)) fs)
      ∙ both_true _ _ (parts_good f (extensions f)) (all_good fs)

  extending_keyed : (test : Described FieldDescriptorProto → Bool) (xs : List (Described FieldDescriptorProto)) → list_all has_keys xs ≡ true
      → list_all is_keyed (map extension_shape (filter test xs)) ≡ true
  extending_keyed test [] h = refl
  extending_keyed test (x ∷ xs) h = let both = both_parts (has_keys x) (list_all has_keys xs) h in at (test x) both.0 (extending_keyed test xs both.1)
    where
      at : (b : Bool) → has_keys x ≡ true → list_all is_keyed (map extension_shape (filter test xs)) ≡ true
          → list_all is_keyed (map extension_shape (cond b (x ∷ filter test xs) (filter test xs))) ≡ true
      at true good ih = both_true (has_keys x) _ good ih
      at false good ih = ih

  message_keyed : (f : File) (p : Part DescriptorProto) → list_all is_keyed (message_shape (described pool f p)).fields ≡ true
  message_keyed f p =
      list_all-append is_keyed (map field_shape (fields_of_message (described pool f p))) (map extension_shape (extensions_of_message (described pool f p)))
      ∙ both_true _ _ (own_keyed f (fields_in p)) (extending_keyed _ (all_extensions pool) (all_good pool))

pub keys_are_valid : KeysAreValid
keys_are_valid pool pooled t = each_type pool (λ fs. list_all is_keyed fs ≡ true) refl (λ f p c. message_keyed pool pooled f p) t
