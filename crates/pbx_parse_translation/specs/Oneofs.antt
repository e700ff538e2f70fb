-- The oneof that each field of a message is in, as it is written and as the record has it.
use Rattle.std.specs.Prelude.{ℕ, ℤ, pos, negsuc, List, [], ◌∷◌, ◌++◌, map, length, drop, slice_get, if◌then◌else◌}
use Rattle.std.specs.Prelude.{Option, Some, None, option_map, option_and_then}
use Rattle.std.specs.List.{flat_map}
use Rattle.pbx_desc_records.specs.declared.field.OneofDescriptorProto.{OneofDescriptorProto}
use Rattle.pbx_desc_records.specs.declared.message.DescriptorProto.{DescriptorProto, out-DescriptorProto}
use Rattle.pbx_parse_tree.specs.declared.tree.Version.{Version}
use Rattle.pbx_parse_tree.specs.Tree.{item_field, item_map, item_oneof}
use Rattle.pbx_parse_tree.specs.View.{BodyItem, plain}
use Rattle.pbx_parse_translation.specs.Fields.{is_proto3_optional}
use Rattle.pbx_parse_translation.specs.Messages.{optional_names_in, member_names, synthetic_oneofs}

-- the oneof of each field of an item by its name, where the first of these is that of the next synthetic oneof
abbrev pub own_oneofs_in : Version → List (List ℕ) → BodyItem → List (Option (List ℕ))
own_oneofs_in v synthetic (plain (item_field f)) = (if is_proto3_optional v f.label then slice_get synthetic 0 else None) ∷ []
own_oneofs_in v synthetic (plain (item_map m)) = None ∷ []
own_oneofs_in v synthetic (plain (item_oneof o)) = map (λ member. Some o.name.text) (flat_map member_names o.members)
own_oneofs_in v synthetic _ = []

-- the same of each field of these items, where these are the names of their synthetic oneofs in the order of the fields
unfoldable pub own_oneofs_from : Version → List (List ℕ) → List BodyItem → List (Option (List ℕ))
own_oneofs_from v synthetic [] = []
own_oneofs_from v synthetic (p ∷ ps) = own_oneofs_in v synthetic p ++ own_oneofs_from v (drop (length (optional_names_in v p)) synthetic) ps

-- the oneof of each field of a message: none, or the one that it stands in, or its synthetic one
abbrev pub own_oneofs : Version → List BodyItem → List (Option (List ℕ))
own_oneofs v ps = own_oneofs_from v (synthetic_oneofs v ps) ps

-- the name of the oneof with this index, if there is one
abbrev pub name_at : List OneofDescriptorProto → ℤ → Option (List ℕ)
name_at oneofs (pos i) = option_and_then (λ o. o.name) (slice_get oneofs i)
name_at oneofs (negsuc i) = None

-- what the index of each field of a record names, where the field has one
abbrev pub indexed_oneofs : DescriptorProto → List (Option (Option (List ℕ)))
indexed_oneofs m = map (λ f. option_map (name_at (out-DescriptorProto m).oneof_decl) f.oneof_index) (out-DescriptorProto m).field
