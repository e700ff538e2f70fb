-- What a pass over items has gathered, and what is left of it.
use Rattle.std.proofs.Common.{◌≡◌, ℕ, ◌+◌, ◌<◌, ◌≤◌, List, [], ◌∷◌, ◌++◌, length, map, drop, get_or, Bool, true, false, if◌then◌else◌, pos, ℤ, sym, ap, ◌∙◌, append_assoc, append-nil}
use Rattle.pbx_desc_records.specs.declared.field.FieldDescriptorProto.{FieldDescriptorProto}
use Rattle.pbx_desc_records.specs.declared.message.DescriptorProto.{DescriptorProto}
use Rattle.pbx_parse_tree.specs.declared.tree.Version.{Version}
use Rattle.pbx_parse_tree.specs.declared.tree.Modifier.{Modifier}
use Rattle.pbx_parse_tree.specs.declared.tree.Import as code_import
use Rattle.pbx_parse_tree.specs.declared.tree.Item as code_item
use Rattle.pbx_parse_tree.specs.Tree.{end}
use Rattle.pbx_parse_tree.specs.View.{import_of, item_of, body_of, all_before}
use Rattle.pbx_parse_translation.specs.Messages.{oneofs_in, optional_names_in, fields_in, fields_from, nested_types}
use Rattle.pbx_parse_translation.specs.Translation.{has_modifier, indexes_from}
use Rattle.pbx_parse_translation.proofs.Counted.{rest_seen, none_seen, fields_more, fields_none, types_in, types_more, types_none, indexes_more, indexes_none}

module _ {A : Type 0} where
  -- what comes next is added
  pub moves : (before now later after whole total : List A) → before ++ whole ≡ total → whole ≡ now ++ later → after ≡ before ++ now → after ++ later ≡ total
  moves before now later after whole total so_far e added = ap (λ (ys : List A). ys ++ later) added ∙ append_assoc before now later ∙ ap (λ (ys : List A). before ++ ys) (sym e) ∙ so_far

  -- nothing is left
  pub all_there : (all rest total : List A) → all ++ rest ≡ total → rest ≡ [] → all ≡ total
  all_there all rest total so_far e = sym (append-nil all) ∙ ap (λ (ys : List A). all ++ ys) (sym e) ∙ so_far

-- ---- fields

module _ (v : Version) (items : List code_item.Item) (i written synthetic : ℕ) where
  pub fields_go_on : (x : code_item.Item) (written_then synthetic_then : ℕ) (before after total : List FieldDescriptorProto) → i < length items → x ≡ get_or items i x
      → before ++ fields_from v written synthetic (map item_of (drop i items)) ≡ total
      → after ≡ before ++ fields_in v written synthetic (item_of x)
      → written_then ≡ written + length (oneofs_in (item_of x))
      → synthetic_then ≡ synthetic + length (optional_names_in v (item_of x))
      → after ++ fields_from v written_then synthetic_then (map item_of (drop (i + 1) items)) ≡ total
  fields_go_on x written_then synthetic_then before after total below is so_far added w m =
      let rest = map item_of (drop (i + 1) items) in
      let now = fields_in v written synthetic (item_of x) in
      let whole : fields_from v written synthetic (map item_of (drop i items)) ≡ now ++ fields_from v written_then synthetic_then rest =
      ap (fields_from v written synthetic) (rest_seen item_of items i x below is)
      ∙ fields_more v written synthetic (item_of x) rest
      ∙ ap (λ (n : ℕ). now ++ fields_from v n (synthetic + length (optional_names_in v (item_of x))) rest) (sym w)
      ∙ ap (λ (n : ℕ). now ++ fields_from v written_then n rest) (sym m) in
      moves before now (fields_from v written_then synthetic_then rest) after (fields_from v written synthetic (map item_of (drop i items))) total so_far whole added

  pub fields_end : (all total : List FieldDescriptorProto) → length items ≤ i → all ++ fields_from v written synthetic (map item_of (drop i items)) ≡ total → all ≡ total
  fields_end all total past so_far =
      all_there all (fields_from v written synthetic (map item_of (drop i items))) total so_far (ap (fields_from v written synthetic) (none_seen item_of items i past) ∙ fields_none v written synthetic)

-- ---- nested types

module _ (v : Version) (items : List code_item.Item) (i : ℕ) where
  pub types_go_on : (x : code_item.Item) (before after total : List DescriptorProto) → i < length items → x ≡ get_or items i x
      → before ++ nested_types v (body_of (drop i items)) ≡ total
      → after ≡ before ++ types_in v (item_of x)
      → after ++ nested_types v (body_of (drop (i + 1) items)) ≡ total
  types_go_on x before after total below is so_far added =
      let rest = body_of (drop (i + 1) items) in
      let whole : nested_types v (body_of (drop i items)) ≡ types_in v (item_of x) ++ nested_types v rest =
      ap (λ ps. nested_types v (all_before ps end)) (rest_seen item_of items i x below is) ∙ types_more v (item_of x) rest in
      moves before (types_in v (item_of x)) (nested_types v rest) after (nested_types v (body_of (drop i items))) total so_far whole added

  pub types_end : (all total : List DescriptorProto) → length items ≤ i → all ++ nested_types v (body_of (drop i items)) ≡ total → all ≡ total
  types_end all total past so_far =
      all_there all (nested_types v (body_of (drop i items))) total so_far (ap (λ ps. nested_types v (all_before ps end)) (none_seen item_of items i past) ∙ types_none v)

-- ---- indexes

module _ (m : Modifier) (imports : List code_import.Import) (i : ℕ) where
  pub indexes_go_on : (x : code_import.Import) (before after total : List ℤ) → i < length imports → x ≡ get_or imports i x
      → before ++ indexes_from i m (map import_of (drop i imports)) ≡ total
      → after ≡ before ++ (if has_modifier m x.modifier then pos i ∷ [] else [])
      → after ++ indexes_from (i + 1) m (map import_of (drop (i + 1) imports)) ≡ total
  indexes_go_on x before after total below is so_far added =
      let rest = map import_of (drop (i + 1) imports) in
      let now : List ℤ = if has_modifier m x.modifier then pos i ∷ [] else [] in
      let whole : indexes_from i m (map import_of (drop i imports)) ≡ now ++ indexes_from (i + 1) m rest =
      ap (indexes_from i m) (rest_seen import_of imports i x below is) ∙ indexes_more i m (import_of x) rest in
      moves before now (indexes_from (i + 1) m rest) after (indexes_from i m (map import_of (drop i imports))) total so_far whole added

  pub indexes_end : (all total : List ℤ) → length imports ≤ i → all ++ indexes_from i m (map import_of (drop i imports)) ≡ total → all ≡ total
  indexes_end all total past so_far =
      all_there all (indexes_from i m (map import_of (drop i imports))) total so_far (ap (indexes_from i m) (none_seen import_of imports i past) ∙ indexes_none i m)

  -- one that has the modifier
  pub index_taken : (x : code_import.Import) (k : ℤ) (before after total : List ℤ) → i < length imports → x ≡ get_or imports i x
      → before ++ indexes_from i m (map import_of (drop i imports)) ≡ total
      → has_modifier m x.modifier ≡ true
      → k ≡ pos i
      → after ≡ before ++ k ∷ []
      → after ++ indexes_from (i + 1) m (map import_of (drop (i + 1) imports)) ≡ total
  index_taken x k before after total below is so_far on number added =
      indexes_go_on x before after total below is so_far
      (added ∙ ap (λ (z : ℤ). before ++ z ∷ []) number ∙ ap (λ (b : Bool). before ++ (if b then pos i ∷ [] else [])) (sym on))

  pub index_passed : (x : code_import.Import) (before after total : List ℤ) → i < length imports → x ≡ get_or imports i x
      → before ++ indexes_from i m (map import_of (drop i imports)) ≡ total
      → has_modifier m x.modifier ≡ false
      → after ≡ before
      → after ++ indexes_from (i + 1) m (map import_of (drop (i + 1) imports)) ≡ total
  index_passed x before after total below is so_far off same =
      indexes_go_on x before after total below is so_far
      (same ∙ sym (append-nil before) ∙ ap (λ (b : Bool). before ++ (if b then pos i ∷ [] else [])) (sym off))
