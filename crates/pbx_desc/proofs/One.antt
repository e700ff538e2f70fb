-- No two exact records hold the same content.
use Rattle.std.proofs.Common.{◌≡◌, ℕ, ℤ, Bool, true, false, List, [], ◌∷◌, map, Option, Some, None, refl, sym, ap, ◌∙◌, subst, arith}
use Rattle.pbx_wire.specs.Text.{all_true}
use Rattle.pbx_wire.proofs.Written.{both}
use Rattle.pbx_wire.specs.declared.rec.Rec.{Rec}
use Rattle.pbx_content.specs.declared.shape.FieldShape.{FieldShape}
use Rattle.pbx_content.specs.Content.{Content, fields, kept, Fields, Val, number, text, message, vals_of, IsAbove}
use Rattle.pbx_content.specs.Meaning.{with_field}
use Rattle.pbx_content.specs.Shape.{fields_of}
use Rattle.pbx_content.proofs.WrittenOrder.{AreAbove, fields_above}
use Rattle.pbx_desc_shapes.specs.DescriptorShape.{descriptor_shape, set_fields, file_fields, message_fields, field_fields, extension_range_fields, reserved_range_fields, oneof_fields, enum_fields, enum_reserved_range_fields, enum_value_fields, service_fields, method_fields, source_code_info_fields, location_fields}
use Rattle.pbx_desc_shapes.proofs.DescriptorsProper.{descriptor_shape_proper}
use Rattle.pbx_desc_records.specs.declared.enumeration.EnumDescriptorProto.{EnumDescriptorProto}
use Rattle.pbx_desc_records.specs.declared.enumeration.EnumReservedRange.{EnumReservedRange}
use Rattle.pbx_desc_records.specs.declared.enumeration.EnumValueDescriptorProto.{EnumValueDescriptorProto}
use Rattle.pbx_desc_records.specs.declared.field.FieldDescriptorProto.{FieldDescriptorProto}
use Rattle.pbx_desc_records.specs.declared.field.OneofDescriptorProto.{OneofDescriptorProto}
use Rattle.pbx_desc_records.specs.declared.file.FileDescriptorProto.{FileDescriptorProto}
use Rattle.pbx_desc_records.specs.declared.file.FileDescriptorSet.{FileDescriptorSet}
use Rattle.pbx_desc_records.specs.declared.message.DescriptorProto.{DescriptorProto, out-DescriptorProto, roll-DescriptorProto, roll-out-DescriptorProto, fold_out-DescriptorProto, fold-roll-DescriptorProto, ind-DescriptorProto}
use Rattle.pbx_desc_records.specs.declared.message.DescriptorProto.TheOpen.{DescriptorProto-F}
use Rattle.pbx_desc_records.specs.declared.message.ExtensionRange.{ExtensionRange}
use Rattle.pbx_desc_records.specs.declared.message.ReservedRange.{ReservedRange}
use Rattle.pbx_desc_records.specs.declared.options.Options.{Options}
use Rattle.pbx_desc_records.specs.declared.service.MethodDescriptorProto.{MethodDescriptorProto}
use Rattle.pbx_desc_records.specs.declared.service.ServiceDescriptorProto.{ServiceDescriptorProto}
use Rattle.pbx_desc_records.specs.declared.source.Location.{Location}
use Rattle.pbx_desc_records.specs.declared.source.SourceCodeInfo.{SourceCodeInfo}
use Rattle.pbx_desc_encoding.specs.Content.{listed, is_writable, writable, fields_from, record_content, of_text, of_number, of_truth, of_texts, of_numbers, of_record, of_records, options_content, extension_range_values, extension_range_content, reserved_range_values, reserved_range_content, field_values, field_content, oneof_values, oneof_content, enum_reserved_range_values, enum_reserved_range_content, enum_value_values, enum_value_content, enum_values, enum_content, method_values, method_content, service_values, service_content, location_values, location_content, source_code_info_values, source_code_info_content, message_values, message_step, message_content, file_values, file_content, file_set_values, file_set_content}
use Rattle.pbx_desc_encoding.proofs.Fields.{ascend_from}
use Rattle.pbx_desc_encoding.proofs.Messages.{layer_with}
use Rattle.pbx_desc_encoding.proofs.Types.{file_set_type, file_type, message_type, field_type, extension_range_type, reserved_range_type, oneof_type, enum_type, enum_reserved_range_type, enum_value_type, service_type, method_type, source_code_info_type, location_type, file_options_type}
use Rattle.pbx_desc.specs.Exact.{are_writable, is_exact_with, are_exact, is_exact_if, is_exact_options, is_exact_extension_range, is_exact_reserved_range, is_exact_field, is_exact_oneof, is_exact_enum_reserved_range, is_exact_enum_value, is_exact_enum, is_exact_method, is_exact_service, is_exact_location, is_exact_source_code_info, is_exact_message_step, is_exact_message, is_exact_file, is_exact_file_set}
use Rattle.pbx_desc.specs.Laws.{FixedByContent}
use Rattle.pbx_desc.proofs.Lists.{vals_same}

-- ---- values under ascending numbers

-- the same values in a row
abbrev pub AreSame : List (Option Val) → List (Option Val) → Type 0
AreSame [] ws = Unit {0}
AreSame (v ∷ vs) [] = Unit {0}
AreSame (v ∷ vs) (w ∷ ws) = (v ≡ w) × AreSame vs ws

-- a value for each field
abbrev pub has_each : List FieldShape → List (Option Val) → Bool
has_each [] [] = true
has_each [] (v ∷ vs) = false
has_each (g ∷ gs) [] = false
has_each (g ∷ gs) (v ∷ vs) = has_each gs vs

first_same : (n : ℕ) (v w : Option Val) (fs gs : Fields) → IsAbove n fs → IsAbove n gs → with_field n v fs ≡ with_field n w gs → (v ≡ w) × (fs ≡ gs)
first_same n None None fs gs a b e = (refl, e)
first_same n None (Some w) fs gs a b e = absurd (omega (arith, (subst (IsAbove n) e a).0))
first_same n (Some v) None fs gs a b e = absurd (omega (arith, (subst (IsAbove n) (sym e) b).0))
first_same n (Some v) (Some w) fs gs a b e =
    let first : v ≡ w = cc in
    let rest : fs ≡ gs = cc in
    (ap Some first, rest)

values_same : (n : ℕ) (gs : List FieldShape) (vs ws : List (Option Val)) → AreAbove n gs → has_each gs vs ≡ true → has_each gs ws ≡ true → fields_from gs vs ≡ fields_from gs ws → AreSame vs ws
values_same n [] [] ws a p q e = tt
values_same n [] (v ∷ vs) ws a p q e = absurd cc
values_same n (g ∷ gs) [] ws a p q e = tt
values_same n (g ∷ gs) (v ∷ vs) [] a p q e = tt
values_same n (g ∷ gs) (v ∷ vs) (w ∷ ws) a p q e =
    let same = first_same g.number v w (fields_from gs vs) (fields_from gs ws) (ascend_from g.number gs vs a.2) (ascend_from g.number gs ws a.2) e in
    (same.0, values_same g.number gs vs ws a.2 p q same.1)

-- ---- unknown records

all_written : (gs : List FieldShape) (rs : List Rec) → are_writable gs rs ≡ true → writable gs rs ≡ rs
all_written gs [] h = refl
all_written gs (r ∷ rs) h = let parts = both (is_writable gs r) (are_writable gs rs) h in rw (parts.0, all_written gs rs parts.1) refl

-- ---- a whole record

-- each is true
abbrev AreTrue : List Bool → Type 0
AreTrue [] = Unit {0}
AreTrue (x ∷ xs) = (x ≡ true) × AreTrue xs

each_true : (xs : List Bool) → all_true xs ≡ true → AreTrue xs
each_true [] h = tt
each_true (x ∷ xs) h = let parts = both x (all_true xs) h in (parts.0, each_true xs parts.1)

-- what two exact records of one content have in common
record IsOneRecord (vs ws : List (Option Val)) (rs ss : List Rec) (xs ys : List Bool) : Type 0 where
  values : AreSame vs ws
  unknown : rs ≡ ss
  first : AreTrue xs
  second : AreTrue ys

one_of : (t : ℕ) (gs : List FieldShape) (vs ws : List (Option Val)) (rs ss : List Rec) (xs ys : List Bool) → fields_of descriptor_shape t ≡ gs → has_each gs vs ≡ true → has_each gs ws ≡ true
    → is_exact_with xs gs rs ≡ true → is_exact_with ys gs ss ≡ true → record_content gs vs rs ≡ record_content gs ws ss → IsOneRecord vs ws rs ss xs ys
one_of t gs vs ws rs ss xs ys type p q x y e =
    let a = both (all_true xs) (are_writable gs rs) x in
    let b = both (all_true ys) (are_writable gs ss) y in
    record {
      values = values_same 0 gs vs ws (subst (AreAbove 0) type (fields_above descriptor_shape t descriptor_shape_proper)) p q (ap fields e);
      unknown = sym (all_written gs rs a.1) ∙ ap kept e ∙ all_written gs ss b.1;
      first = each_true xs a.0;
      second = each_true ys b.0;
    }

-- ---- values of fields

text_one : (a b : Option (List ℕ)) → of_text a ≡ of_text b → a ≡ b
text_one None None e = refl
text_one None (Some b) e = absurd cc
text_one (Some a) None e = absurd cc
text_one (Some a) (Some b) e = let same : a ≡ b = cc in ap Some same

number_one : (a b : Option ℤ) → of_number a ≡ of_number b → a ≡ b
number_one None None e = refl
number_one None (Some b) e = absurd cc
number_one (Some a) None e = absurd cc
number_one (Some a) (Some b) e = let same : a ≡ b = cc in ap Some same

truth_one : (a b : Option Bool) → of_truth a ≡ of_truth b → a ≡ b
truth_one None None e = refl
truth_one None (Some b) e = absurd cc
truth_one (Some a) None e = absurd cc
truth_one (Some a) (Some b) e = let same : a ≡ b = cc in ap Some same

listed_one : (vs ws : List Val) → listed vs ≡ listed ws → vs ≡ ws
listed_one [] [] e = refl
listed_one [] (w ∷ ws) e = absurd cc
listed_one (v ∷ vs) [] e = absurd cc
listed_one (v ∷ vs) (w ∷ ws) e = vals_same (v ∷ vs) (w ∷ ws) (let same : vals_of (v ∷ vs) ≡ vals_of (w ∷ ws) = cc in same)

texts_in : (as' bs : List (List ℕ)) → map text as' ≡ map text bs → as' ≡ bs
texts_in [] [] e = refl
texts_in [] (b ∷ bs) e = absurd cc
texts_in (a ∷ as') [] e = absurd cc
texts_in (a ∷ as') (b ∷ bs) e =
    let first : a ≡ b = cc in
    let rest = texts_in as' bs (let same : map text as' ≡ map text bs = cc in same) in
    λ i. first i ∷ rest i

texts_one : (as' bs : List (List ℕ)) → of_texts as' ≡ of_texts bs → as' ≡ bs
texts_one as' bs e = texts_in as' bs (listed_one (map text as') (map text bs) e)

numbers_in : (as' bs : List ℤ) → map number as' ≡ map number bs → as' ≡ bs
numbers_in [] [] e = refl
numbers_in [] (b ∷ bs) e = absurd cc
numbers_in (a ∷ as') [] e = absurd cc
numbers_in (a ∷ as') (b ∷ bs) e =
    let first : a ≡ b = cc in
    let rest = numbers_in as' bs (let same : map number as' ≡ map number bs = cc in same) in
    λ i. first i ∷ rest i

numbers_one : (as' bs : List ℤ) → of_numbers as' ≡ of_numbers bs → as' ≡ bs
numbers_one as' bs e = numbers_in as' bs (listed_one (map number as') (map number bs) e)

record_one : {R : Type 0} (f : R → Content) (x : R → Bool) → FixedByContent f x → (a b : Option R) → is_exact_if x a ≡ true → is_exact_if x b ≡ true → of_record f a ≡ of_record f b → a ≡ b
record_one f x apart None None p q e = refl
record_one f x apart None (Some b) p q e = absurd cc
record_one f x apart (Some a) None p q e = absurd cc
record_one f x apart (Some a) (Some b) p q e = let same : f a ≡ f b = cc in ap Some (apart a b p q same)

records_in : {R : Type 0} (f : R → Content) (x : R → Bool) → FixedByContent f x → (as' bs : List R) → are_exact x as' ≡ true → are_exact x bs ≡ true
    → map (λ r. message (f r)) as' ≡ map (λ r. message (f r)) bs → as' ≡ bs
records_in f x apart [] [] p q e = refl
records_in f x apart [] (b ∷ bs) p q e = absurd cc
records_in f x apart (a ∷ as') [] p q e = absurd cc
records_in f x apart (a ∷ as') (b ∷ bs) p q e =
    let ps = both (x a) (are_exact x as') p in
    let qs = both (x b) (are_exact x bs) q in
    let first : f a ≡ f b = cc in
    let rest : map (λ r. message (f r)) as' ≡ map (λ r. message (f r)) bs = cc in
    let head = apart a b ps.0 qs.0 first in
    let tail = records_in f x apart as' bs ps.1 qs.1 rest in
    λ i. head i ∷ tail i

records_one : {R : Type 0} (f : R → Content) (x : R → Bool) → FixedByContent f x → (as' bs : List R) → are_exact x as' ≡ true → are_exact x bs ≡ true → of_records f as' ≡ of_records f bs → as' ≡ bs
records_one f x apart as' bs p q e = records_in f x apart as' bs p q (listed_one (map (λ r. message (f r)) as') (map (λ r. message (f r)) bs) e)

-- what the same bytes mean is the same
pub by_bytes : {R : Type 0} (f : R → Content) (x : R → Bool) → FixedByContent f x → (a b : R) (meant : Option Content) → x a ≡ true → x b ≡ true → meant ≡ Some (f a) → meant ≡ Some (f b) → a ≡ b
by_bytes f x fixed a b meant p q e g = fixed a b p q (let same : f a ≡ f b = cc in same)

-- ---- each record

pub options_one : (a b : Options) → is_exact_options a ≡ true → is_exact_options b ≡ true → options_content a ≡ options_content b → a ≡ b
options_one a b x y e =
    let one = one_of 14 [] [] [] a.recs b.recs [] [] file_options_type refl refl x y e in
    λ i. record { recs = one.unknown i }

pub extension_range_one : (a b : ExtensionRange) → is_exact_extension_range a ≡ true → is_exact_extension_range b ≡ true → extension_range_content a ≡ extension_range_content b → a ≡ b
extension_range_one a b x y e =
    let one = one_of 4 extension_range_fields (extension_range_values a) (extension_range_values b) a.unknown b.unknown (is_exact_if is_exact_options a.options ∷ []) (is_exact_if is_exact_options b.options ∷ []) extension_range_type refl refl x y e in
    let same_start = number_one a.start b.start one.values.0 in
    let same_end = number_one a.end b.end one.values.1.0 in
    let same_options = record_one options_content is_exact_options options_one a.options b.options one.first.0 one.second.0 one.values.1.1.0 in
    λ i. record { start = same_start i; end = same_end i; options = same_options i; unknown = one.unknown i }

pub reserved_range_one : (a b : ReservedRange) → is_exact_reserved_range a ≡ true → is_exact_reserved_range b ≡ true → reserved_range_content a ≡ reserved_range_content b → a ≡ b
reserved_range_one a b x y e =
    let one = one_of 5 reserved_range_fields (reserved_range_values a) (reserved_range_values b) a.unknown b.unknown [] [] reserved_range_type refl refl x y e in
    let same_start = number_one a.start b.start one.values.0 in
    let same_end = number_one a.end b.end one.values.1.0 in
    λ i. record { start = same_start i; end = same_end i; unknown = one.unknown i }

pub field_one : (a b : FieldDescriptorProto) → is_exact_field a ≡ true → is_exact_field b ≡ true → field_content a ≡ field_content b → a ≡ b
field_one a b x y e =
    let one = one_of 3 field_fields (field_values a) (field_values b) a.unknown b.unknown (is_exact_if is_exact_options a.options ∷ []) (is_exact_if is_exact_options b.options ∷ []) field_type refl refl x y e in
    let same_name = text_one a.name b.name one.values.0 in
    let same_extendee = text_one a.extendee b.extendee one.values.1.0 in
    let same_number = number_one a.number b.number one.values.1.1.0 in
    let same_label = number_one a.label b.label one.values.1.1.1.0 in
    let same_kind = number_one a.kind b.kind one.values.1.1.1.1.0 in
    let same_type_name = text_one a.type_name b.type_name one.values.1.1.1.1.1.0 in
    let same_default_value = text_one a.default_value b.default_value one.values.1.1.1.1.1.1.0 in
    let same_options = record_one options_content is_exact_options options_one a.options b.options one.first.0 one.second.0 one.values.1.1.1.1.1.1.1.0 in
    let same_oneof_index = number_one a.oneof_index b.oneof_index one.values.1.1.1.1.1.1.1.1.0 in
    let same_json_name = text_one a.json_name b.json_name one.values.1.1.1.1.1.1.1.1.1.0 in
    let same_proto3_optional = truth_one a.proto3_optional b.proto3_optional one.values.1.1.1.1.1.1.1.1.1.1.0 in
    λ i. record { name = same_name i; extendee = same_extendee i; number = same_number i; label = same_label i; kind = same_kind i; type_name = same_type_name i; default_value = same_default_value i; options = same_options i; oneof_index = same_oneof_index i; json_name = same_json_name i; proto3_optional = same_proto3_optional i; unknown = one.unknown i }

pub oneof_one : (a b : OneofDescriptorProto) → is_exact_oneof a ≡ true → is_exact_oneof b ≡ true → oneof_content a ≡ oneof_content b → a ≡ b
oneof_one a b x y e =
    let one = one_of 6 oneof_fields (oneof_values a) (oneof_values b) a.unknown b.unknown (is_exact_if is_exact_options a.options ∷ []) (is_exact_if is_exact_options b.options ∷ []) oneof_type refl refl x y e in
    let same_name = text_one a.name b.name one.values.0 in
    let same_options = record_one options_content is_exact_options options_one a.options b.options one.first.0 one.second.0 one.values.1.0 in
    λ i. record { name = same_name i; options = same_options i; unknown = one.unknown i }

pub enum_reserved_range_one : (a b : EnumReservedRange) → is_exact_enum_reserved_range a ≡ true → is_exact_enum_reserved_range b ≡ true → enum_reserved_range_content a ≡ enum_reserved_range_content b → a ≡ b
enum_reserved_range_one a b x y e =
    let one = one_of 8 enum_reserved_range_fields (enum_reserved_range_values a) (enum_reserved_range_values b) a.unknown b.unknown [] [] enum_reserved_range_type refl refl x y e in
    let same_start = number_one a.start b.start one.values.0 in
    let same_end = number_one a.end b.end one.values.1.0 in
    λ i. record { start = same_start i; end = same_end i; unknown = one.unknown i }

pub enum_value_one : (a b : EnumValueDescriptorProto) → is_exact_enum_value a ≡ true → is_exact_enum_value b ≡ true → enum_value_content a ≡ enum_value_content b → a ≡ b
enum_value_one a b x y e =
    let one = one_of 9 enum_value_fields (enum_value_values a) (enum_value_values b) a.unknown b.unknown (is_exact_if is_exact_options a.options ∷ []) (is_exact_if is_exact_options b.options ∷ []) enum_value_type refl refl x y e in
    let same_name = text_one a.name b.name one.values.0 in
    let same_number = number_one a.number b.number one.values.1.0 in
    let same_options = record_one options_content is_exact_options options_one a.options b.options one.first.0 one.second.0 one.values.1.1.0 in
    λ i. record { name = same_name i; number = same_number i; options = same_options i; unknown = one.unknown i }

pub enum_one : (a b : EnumDescriptorProto) → is_exact_enum a ≡ true → is_exact_enum b ≡ true → enum_content a ≡ enum_content b → a ≡ b
enum_one a b x y e =
    let one = one_of 7 enum_fields (enum_values a) (enum_values b) a.unknown b.unknown (are_exact is_exact_enum_value a.value ∷ is_exact_if is_exact_options a.options ∷ are_exact is_exact_enum_reserved_range a.reserved_range ∷ []) (are_exact is_exact_enum_value b.value ∷ is_exact_if is_exact_options b.options ∷ are_exact is_exact_enum_reserved_range b.reserved_range ∷ []) enum_type refl refl x y e in
    let same_name = text_one a.name b.name one.values.0 in
    let same_value = records_one enum_value_content is_exact_enum_value enum_value_one a.value b.value one.first.0 one.second.0 one.values.1.0 in
    let same_options = record_one options_content is_exact_options options_one a.options b.options one.first.1.0 one.second.1.0 one.values.1.1.0 in
    let same_reserved_range = records_one enum_reserved_range_content is_exact_enum_reserved_range enum_reserved_range_one a.reserved_range b.reserved_range one.first.1.1.0 one.second.1.1.0 one.values.1.1.1.0 in
    let same_reserved_name = texts_one a.reserved_name b.reserved_name one.values.1.1.1.1.0 in
    λ i. record { name = same_name i; value = same_value i; options = same_options i; reserved_range = same_reserved_range i; reserved_name = same_reserved_name i; unknown = one.unknown i }

pub method_one : (a b : MethodDescriptorProto) → is_exact_method a ≡ true → is_exact_method b ≡ true → method_content a ≡ method_content b → a ≡ b
method_one a b x y e =
    let one = one_of 11 method_fields (method_values a) (method_values b) a.unknown b.unknown (is_exact_if is_exact_options a.options ∷ []) (is_exact_if is_exact_options b.options ∷ []) method_type refl refl x y e in
    let same_name = text_one a.name b.name one.values.0 in
    let same_input_type = text_one a.input_type b.input_type one.values.1.0 in
    let same_output_type = text_one a.output_type b.output_type one.values.1.1.0 in
    let same_options = record_one options_content is_exact_options options_one a.options b.options one.first.0 one.second.0 one.values.1.1.1.0 in
    let same_client_streaming = truth_one a.client_streaming b.client_streaming one.values.1.1.1.1.0 in
    let same_server_streaming = truth_one a.server_streaming b.server_streaming one.values.1.1.1.1.1.0 in
    λ i. record { name = same_name i; input_type = same_input_type i; output_type = same_output_type i; options = same_options i; client_streaming = same_client_streaming i; server_streaming = same_server_streaming i; unknown = one.unknown i }

pub service_one : (a b : ServiceDescriptorProto) → is_exact_service a ≡ true → is_exact_service b ≡ true → service_content a ≡ service_content b → a ≡ b
service_one a b x y e =
    let one = one_of 10 service_fields (service_values a) (service_values b) a.unknown b.unknown (are_exact is_exact_method a.method ∷ is_exact_if is_exact_options a.options ∷ []) (are_exact is_exact_method b.method ∷ is_exact_if is_exact_options b.options ∷ []) service_type refl refl x y e in
    let same_name = text_one a.name b.name one.values.0 in
    let same_method = records_one method_content is_exact_method method_one a.method b.method one.first.0 one.second.0 one.values.1.0 in
    let same_options = record_one options_content is_exact_options options_one a.options b.options one.first.1.0 one.second.1.0 one.values.1.1.0 in
    λ i. record { name = same_name i; method = same_method i; options = same_options i; unknown = one.unknown i }

pub location_one : (a b : Location) → is_exact_location a ≡ true → is_exact_location b ≡ true → location_content a ≡ location_content b → a ≡ b
location_one a b x y e =
    let one = one_of 13 location_fields (location_values a) (location_values b) a.unknown b.unknown [] [] location_type refl refl x y e in
    let same_path = numbers_one a.path b.path one.values.0 in
    let same_span = numbers_one a.span b.span one.values.1.0 in
    let same_leading_comments = text_one a.leading_comments b.leading_comments one.values.1.1.0 in
    let same_trailing_comments = text_one a.trailing_comments b.trailing_comments one.values.1.1.1.0 in
    let same_leading_detached_comments = texts_one a.leading_detached_comments b.leading_detached_comments one.values.1.1.1.1.0 in
    λ i. record { path = same_path i; span = same_span i; leading_comments = same_leading_comments i; trailing_comments = same_trailing_comments i; leading_detached_comments = same_leading_detached_comments i; unknown = one.unknown i }

pub source_code_info_one : (a b : SourceCodeInfo) → is_exact_source_code_info a ≡ true → is_exact_source_code_info b ≡ true → source_code_info_content a ≡ source_code_info_content b → a ≡ b
source_code_info_one a b x y e =
    let one = one_of 12 source_code_info_fields (source_code_info_values a) (source_code_info_values b) a.unknown b.unknown (are_exact is_exact_location a.location ∷ []) (are_exact is_exact_location b.location ∷ []) source_code_info_type refl refl x y e in
    let same_location = records_one location_content is_exact_location location_one a.location b.location one.first.0 one.second.0 one.values.0 in
    λ i. record { location = same_location i; unknown = one.unknown i }

-- ---- messages

-- an exact message that holds what this one does is this one
abbrev IsOne : DescriptorProto → Type 0
IsOne m = (n : DescriptorProto) → is_exact_message m ≡ true → is_exact_message n ≡ true → message_content m ≡ message_content n → m ≡ n

-- the same of messages in a row
abbrev AreOne : List DescriptorProto → Type 0
AreOne ms =
    (ns : List DescriptorProto) → are_exact is_exact_message ms ≡ true → are_exact is_exact_message ns ≡ true
    → map message (map message_content ms) ≡ map message (map message_content ns) → ms ≡ ns

nested_one : {S : Type 0} (v : S → DescriptorProto) → ((s : S) → IsOne (v s)) → (ss : List S) → AreOne (map v ss)
nested_one v one [] [] x y e = refl
nested_one v one [] (n ∷ ns) x y e = absurd cc
nested_one v one (s ∷ ss) [] x y e = absurd cc
nested_one v one (s ∷ ss) (n ∷ ns) x y e =
    let xs = both (is_exact_message (v s)) (are_exact is_exact_message (map v ss)) x in
    let ys = both (is_exact_message n) (are_exact is_exact_message ns) y in
    let first : message_content (v s) ≡ message_content n = cc in
    let rest : map message (map message_content (map v ss)) ≡ map message (map message_content ns) = cc in
    let head = one s n xs.0 ys.0 first in
    let tail = nested_one v one ss ns xs.1 ys.1 rest in
    λ i. head i ∷ tail i

-- one layer
layer_one : (o p : DescriptorProto-F DescriptorProto) → AreOne o.nested_type
    → is_exact_message_step (layer_with (map is_exact_message o.nested_type) o) ≡ true → is_exact_message_step (layer_with (map is_exact_message p.nested_type) p) ≡ true
    → message_step (layer_with (map message_content o.nested_type) o) ≡ message_step (layer_with (map message_content p.nested_type) p) → o ≡ p
layer_one o p nested x y e =
    let one = one_of 2 message_fields (message_values (layer_with (map message_content o.nested_type) o)) (message_values (layer_with (map message_content p.nested_type) p)) o.unknown p.unknown (are_exact is_exact_field o.field ∷ are_exact is_exact_message o.nested_type ∷ are_exact is_exact_enum o.enum_type ∷ are_exact is_exact_extension_range o.extension_range ∷ are_exact is_exact_field o.extension ∷ is_exact_if is_exact_options o.options ∷ are_exact is_exact_oneof o.oneof_decl ∷ are_exact is_exact_reserved_range o.reserved_range ∷ []) (are_exact is_exact_field p.field ∷ are_exact is_exact_message p.nested_type ∷ are_exact is_exact_enum p.enum_type ∷ are_exact is_exact_extension_range p.extension_range ∷ are_exact is_exact_field p.extension ∷ is_exact_if is_exact_options p.options ∷ are_exact is_exact_oneof p.oneof_decl ∷ are_exact is_exact_reserved_range p.reserved_range ∷ []) message_type refl refl x y e in
    let same_name = text_one o.name p.name one.values.0 in
    let same_field = records_one field_content is_exact_field field_one o.field p.field one.first.0 one.second.0 one.values.1.0 in
    let same_nested_type = nested p.nested_type one.first.1.0 one.second.1.0 (listed_one (map message (map message_content o.nested_type)) (map message (map message_content p.nested_type)) one.values.1.1.0) in
    let same_enum_type = records_one enum_content is_exact_enum enum_one o.enum_type p.enum_type one.first.1.1.0 one.second.1.1.0 one.values.1.1.1.0 in
    let same_extension_range = records_one extension_range_content is_exact_extension_range extension_range_one o.extension_range p.extension_range one.first.1.1.1.0 one.second.1.1.1.0 one.values.1.1.1.1.0 in
    let same_extension = records_one field_content is_exact_field field_one o.extension p.extension one.first.1.1.1.1.0 one.second.1.1.1.1.0 one.values.1.1.1.1.1.0 in
    let same_options = record_one options_content is_exact_options options_one o.options p.options one.first.1.1.1.1.1.0 one.second.1.1.1.1.1.0 one.values.1.1.1.1.1.1.0 in
    let same_oneof_decl = records_one oneof_content is_exact_oneof oneof_one o.oneof_decl p.oneof_decl one.first.1.1.1.1.1.1.0 one.second.1.1.1.1.1.1.0 one.values.1.1.1.1.1.1.1.0 in
    let same_reserved_range = records_one reserved_range_content is_exact_reserved_range reserved_range_one o.reserved_range p.reserved_range one.first.1.1.1.1.1.1.1.0 one.second.1.1.1.1.1.1.1.0 one.values.1.1.1.1.1.1.1.1.0 in
    let same_reserved_name = texts_one o.reserved_name p.reserved_name one.values.1.1.1.1.1.1.1.1.1.0 in
    λ i. record { name = same_name i; field = same_field i; nested_type = same_nested_type i; enum_type = same_enum_type i; extension_range = same_extension_range i; extension = same_extension i; options = same_options i; oneof_decl = same_oneof_decl i; reserved_range = same_reserved_range i; reserved_name = same_reserved_name i; unknown = one.unknown i }

rolled_one : (o : DescriptorProto-F DescriptorProto) → AreOne o.nested_type → IsOne (roll-DescriptorProto o)
rolled_one o nested n x y e =
    let p = out-DescriptorProto n in
    let exact_o = sym (fold-roll-DescriptorProto Bool is_exact_message_step o) ∙ x in
    let exact_p = sym (fold_out-DescriptorProto Bool is_exact_message_step n) ∙ y in
    let same = sym (fold-roll-DescriptorProto Content message_step o) ∙ e ∙ fold_out-DescriptorProto Content message_step n in
    ap roll-DescriptorProto (layer_one o p nested exact_o exact_p same) ∙ roll-out-DescriptorProto n

pub message_one : (a b : DescriptorProto) → is_exact_message a ≡ true → is_exact_message b ≡ true → message_content a ≡ message_content b → a ≡ b
message_one =
    ind-DescriptorProto IsOne
    (λ o inside e. rolled_one o (subst (λ (p : DescriptorProto-F DescriptorProto). AreOne p.nested_type) e (nested_one (λ s. s.0) (λ s. s.1) inside.nested_type)))

pub file_one : (a b : FileDescriptorProto) → is_exact_file a ≡ true → is_exact_file b ≡ true → file_content a ≡ file_content b → a ≡ b
file_one a b x y e =
    let one = one_of 1 file_fields (file_values a) (file_values b) a.unknown b.unknown (are_exact is_exact_message a.message_type ∷ are_exact is_exact_enum a.enum_type ∷ are_exact is_exact_service a.service ∷ are_exact is_exact_field a.extension ∷ is_exact_if is_exact_options a.options ∷ is_exact_if is_exact_source_code_info a.source_code_info ∷ []) (are_exact is_exact_message b.message_type ∷ are_exact is_exact_enum b.enum_type ∷ are_exact is_exact_service b.service ∷ are_exact is_exact_field b.extension ∷ is_exact_if is_exact_options b.options ∷ is_exact_if is_exact_source_code_info b.source_code_info ∷ []) file_type refl refl x y e in
    let same_name = text_one a.name b.name one.values.0 in
    let same_package = text_one a.«package» b.«package» one.values.1.0 in
    let same_dependency = texts_one a.dependency b.dependency one.values.1.1.0 in
    let same_message_type = records_one message_content is_exact_message message_one a.message_type b.message_type one.first.0 one.second.0 one.values.1.1.1.0 in
    let same_enum_type = records_one enum_content is_exact_enum enum_one a.enum_type b.enum_type one.first.1.0 one.second.1.0 one.values.1.1.1.1.0 in
    let same_service = records_one service_content is_exact_service service_one a.service b.service one.first.1.1.0 one.second.1.1.0 one.values.1.1.1.1.1.0 in
    let same_extension = records_one field_content is_exact_field field_one a.extension b.extension one.first.1.1.1.0 one.second.1.1.1.0 one.values.1.1.1.1.1.1.0 in
    let same_options = record_one options_content is_exact_options options_one a.options b.options one.first.1.1.1.1.0 one.second.1.1.1.1.0 one.values.1.1.1.1.1.1.1.0 in
    let same_source_code_info = record_one source_code_info_content is_exact_source_code_info source_code_info_one a.source_code_info b.source_code_info one.first.1.1.1.1.1.0 one.second.1.1.1.1.1.0 one.values.1.1.1.1.1.1.1.1.0 in
    let same_public_dependency = numbers_one a.public_dependency b.public_dependency one.values.1.1.1.1.1.1.1.1.1.0 in
    let same_weak_dependency = numbers_one a.weak_dependency b.weak_dependency one.values.1.1.1.1.1.1.1.1.1.1.0 in
    let same_syntax = text_one a.syntax b.syntax one.values.1.1.1.1.1.1.1.1.1.1.1.0 in
    λ i. record { name = same_name i; «package» = same_package i; dependency = same_dependency i; message_type = same_message_type i; enum_type = same_enum_type i; service = same_service i; extension = same_extension i; options = same_options i; source_code_info = same_source_code_info i; public_dependency = same_public_dependency i; weak_dependency = same_weak_dependency i; syntax = same_syntax i; unknown = one.unknown i }

pub file_set_one : (a b : FileDescriptorSet) → is_exact_file_set a ≡ true → is_exact_file_set b ≡ true → file_set_content a ≡ file_set_content b → a ≡ b
file_set_one a b x y e =
    let one = one_of 0 set_fields (file_set_values a) (file_set_values b) a.unknown b.unknown (are_exact is_exact_file a.file ∷ []) (are_exact is_exact_file b.file ∷ []) file_set_type refl refl x y e in
    let same_file = records_one file_content is_exact_file file_one a.file b.file one.first.0 one.second.0 one.values.0 in
    λ i. record { file = same_file i; unknown = one.unknown i }
