-- Messages and enums of a pool, file by file.
use Rattle.std.proofs.Common.{◌≡◌, ◌∙◌, ℕ, ◌+◌, ◌<◌, List, [], ◌∷◌, ◌++◌, map, take, length, get_or, false, Option, Some, None, refl, ap, sym, arith}
use Rattle.std.specs.Prelude.{slice_get}
use Rattle.std.specs.List.{flat_map}
use Rattle.std.proofs.lemmas.Grind.{flat_map-append}
use Rattle.std.proofs.lemmas.List.{append-nil, append_assoc, take_more, map-append}
use Rattle.std.proofs.lemmas.Option.{get_or_from_slice_get, slice_get-get_or}
use Rattle.pbx_content.specs.declared.shape.EnumShape.{EnumShape}
use Rattle.pbx_content.specs.declared.shape.FieldShape.{FieldShape}
use Rattle.pbx_content.specs.declared.shape.MessageShape.{MessageShape}
use Rattle.pbx_desc_records.specs.declared.message.DescriptorProto.{DescriptorProto}
use Rattle.pbx_link_definitions.specs.Definitions.{Part, messages, enums, message_name, fields_in}
use Rattle.pbx_link_definitions.specs.Says.{is_proto3, own_fields}
use Rattle.pbx_link_meaning.specs.Descriptors.{described, all_messages, all_enums, all_extensions, fields_of_message}
use Rattle.pbx_link_meaning.specs.Shapes.{field_shape, message_shape, enum_shape}
use Rattle.pbx_link_shapes.specs.Items.{item_shape, own_shape, part_enum}
use Rattle.pbx_link_shapes.specs.Extending.{shape_with, shapes_with}
use Rattle.pbx_link_meaning.proofs.DescribedLists.{File}
use Rattle.pbx_link_shapes.proofs.Lists.{items_of_parts, mapped_items, mapped_parts}
use Rattle.pbx_link_shapes.proofs.FieldKinds.{field_same, enum_same}

-- ---- loops over files and their parts

-- one file more
pub file_more : {Y : Type 0} (G : File → List Y) (files : List File) (i : ℕ) (f : File) (ys : List Y) → i < length files → f ≡ get_or files i f
    → ys ≡ flat_map G (take i files) → ys ++ G f ≡ flat_map G (take (i + 1) files)
file_more {Y} G files i f ys lt is so_far =
    ap (λ (zs : List Y). zs ++ G f) so_far
    ∙ sym (ap (flat_map G) (take_more files i f lt ∙ ap (λ (g : File). take i files ++ g ∷ []) (sym is))
    ∙ flat_map-append G (take i files) (f ∷ []) ∙ ap (λ (zs : List Y). flat_map G (take i files) ++ zs) (append-nil (G f)))

-- one part more
pub part_more : {X Y : Type 0} (g : X → Y) (ps : List X) (i : ℕ) (p : X) (before ys : List Y) → i < length ps → Some p ≡ slice_get ps i
    → ys ≡ before ++ map g (take i ps) → ys ++ g p ∷ [] ≡ before ++ map g (take (i + 1) ps)
part_more {X} {Y} g ps i p before ys lt is so_far =
    ap (λ (zs : List Y). zs ++ g p ∷ []) so_far ∙ append_assoc before (map g (take i ps)) (g p ∷ [])
    ∙ ap (λ (zs : List Y). before ++ zs)
    (sym (ap (map g) (take_more ps i p lt ∙ ap (λ (x : X). take i ps ++ x ∷ []) (get_or_from_slice_get ps i p p (sym is))) ∙ map-append g (take i ps) (p ∷ [])))

-- a part is there
pub part_there : {X P : Type 0} (ps : List X) (i : ℕ) (o : Option X) → i < length ps → o ≡ slice_get ps i → o ≡ None → P
part_there [] i o lt is none = absurd (omega (arith, lt))
part_there {X} (p ∷ ps) i o lt is none =
    let there : slice_get (p ∷ ps) i ≡ Some (get_or (p ∷ ps) i p) = slice_get-get_or (p ∷ ps) i p lt in absurd (cc)

-- ---- messages with their own fields

own_message : (pool : List File) (f : File) (p : Part DescriptorProto) → shape_with [] (described pool f p) ≡ own_shape pool (is_proto3 f) p
unfolding shape_with own_shape
own_message pool f p =
    ap (λ (fs : List FieldShape). record { full_name = message_name p; fields = fs; keeps_order = false; proto3 = is_proto3 f })
    (append-nil (map field_shape (fields_of_message (described pool f p)))
    ∙ mapped_items pool f field_shape (item_shape pool (is_proto3 f)) (field_same pool f) (fields_in p)
    ∙ ap (map (item_shape pool (is_proto3 f))) (items_of_parts (message_name p) p.place 2 (own_fields p.item)))

-- of one file
abbrev pub own_shapes : List File → File → List MessageShape
own_shapes pool f = map (own_shape pool (is_proto3 f)) (messages f)

pub own_messages : (pool : List File) → shapes_with pool [] ≡ flat_map (own_shapes pool) pool
unfolding shapes_with
own_messages pool = mapped_parts pool messages (shape_with []) (λ f. own_shape pool (is_proto3 f)) (own_message pool) pool

-- ---- messages with all extensions

pub all_extended : (pool : List File) → shapes_with pool (all_extensions pool) ≡ map message_shape (all_messages pool)
unfolding shapes_with shape_with
all_extended pool =
    mapped_parts pool messages (shape_with (all_extensions pool)) (λ f p. message_shape (described pool f p)) (λ f p. refl) pool
    ∙ sym (mapped_parts pool messages message_shape (λ f p. message_shape (described pool f p)) (λ f p. refl) pool)

-- ---- enums

abbrev pub file_enums : File → List EnumShape
file_enums f = map part_enum (enums f)

pub whole_enums : (pool : List File) → flat_map file_enums pool ≡ map enum_shape (all_enums pool)
whole_enums pool = sym (mapped_parts pool enums enum_shape (λ f p. part_enum p) (λ f p. enum_same pool f p) pool)
