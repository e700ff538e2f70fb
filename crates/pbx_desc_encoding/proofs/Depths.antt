-- No content has more levels than its record.
use Rattle.std.proofs.Common.{◌≡◌, ℕ, suc, ◌+◌, ◌<◌, ◌≤◌, Bool, true, false, cond, List, [], ◌∷◌, map, Option, Some, None, refl, sym, subst, ap, arith}
use Rattle.std.specs.Prelude.{ℤ, max, All}
use Rattle.pbx_wire.specs.Text.{depth_of}
use Rattle.pbx_wire.specs.declared.rec.Rec.{Rec}
use Rattle.pbx_content.specs.declared.shape.FieldShape.{FieldShape}
use Rattle.pbx_content.specs.Content.{Content, Val, message, text, number, vals_of}
use Rattle.pbx_content.specs.Sound.{depth, fields_depth, val_depth, vals_depth}
use Rattle.pbx_desc_shapes.specs.DescriptorShape.{set_fields, file_fields, message_fields, field_fields, extension_range_fields, reserved_range_fields, oneof_fields, enum_fields, enum_reserved_range_fields, enum_value_fields, service_fields, method_fields, source_code_info_fields, location_fields}
use Rattle.pbx_desc_records.specs.declared.enumeration.EnumDescriptorProto.{EnumDescriptorProto}
use Rattle.pbx_desc_records.specs.declared.enumeration.EnumReservedRange.{EnumReservedRange}
use Rattle.pbx_desc_records.specs.declared.enumeration.EnumValueDescriptorProto.{EnumValueDescriptorProto}
use Rattle.pbx_desc_records.specs.declared.field.FieldDescriptorProto.{FieldDescriptorProto}
use Rattle.pbx_desc_records.specs.declared.field.OneofDescriptorProto.{OneofDescriptorProto}
use Rattle.pbx_desc_records.specs.declared.file.FileDescriptorProto.{FileDescriptorProto}
use Rattle.pbx_desc_records.specs.declared.file.FileDescriptorSet.{FileDescriptorSet}
use Rattle.pbx_desc_records.specs.declared.message.DescriptorProto.{DescriptorProto, out-DescriptorProto, roll-DescriptorProto, fold_out-DescriptorProto, fold-roll-DescriptorProto, ind-DescriptorProto}
use Rattle.pbx_desc_records.specs.declared.message.DescriptorProto.TheOpen.{DescriptorProto-F}
use Rattle.pbx_desc_records.specs.declared.message.ExtensionRange.{ExtensionRange}
use Rattle.pbx_desc_records.specs.declared.message.ReservedRange.{ReservedRange}
use Rattle.pbx_desc_records.specs.declared.options.Options.{Options}
use Rattle.pbx_desc_records.specs.declared.service.MethodDescriptorProto.{MethodDescriptorProto}
use Rattle.pbx_desc_records.specs.declared.service.ServiceDescriptorProto.{ServiceDescriptorProto}
use Rattle.pbx_desc_records.specs.declared.source.Location.{Location}
use Rattle.pbx_desc_records.specs.declared.source.SourceCodeInfo.{SourceCodeInfo}
use Rattle.pbx_desc_encoding.specs.Content.{listed, is_writable, writable, fields_from, record_content, of_text, of_number, of_truth, of_texts, of_numbers, of_record, of_records, of_options, options_content, extension_range_values, extension_range_content, reserved_range_values, reserved_range_content, field_values, field_content, oneof_values, oneof_content, enum_reserved_range_values, enum_reserved_range_content, enum_value_values, enum_value_content, enum_values, enum_content, method_values, method_content, service_values, service_content, location_values, location_content, source_code_info_values, source_code_info_content, message_values, message_step, message_content, file_values, file_content, file_set_values, file_set_content, files_content}
use Rattle.pbx_desc_encoding.specs.Levels.{greatest, levels_of, below, below_one, options_levels, extension_range_levels, reserved_range_levels, field_levels, oneof_levels, enum_reserved_range_levels, enum_value_levels, enum_levels, method_levels, service_levels, location_levels, source_code_info_levels, message_levels_step, message_levels, file_levels, file_set_levels}
use Rattle.pbx_desc_encoding.proofs.Messages.{layer_with}

-- ---- the greatest of numbers

abbrev pub AreAtMost : ℕ → List ℕ → Type 0
AreAtMost n [] = Unit {0}
AreAtMost n (m ∷ ms) = (m ≤ n) × AreAtMost n ms

greatest_bounds : (n : ℕ) (ms : List ℕ) → greatest ms ≤ n → AreAtMost n ms
greatest_bounds n [] h = tt
greatest_bounds n (m ∷ ms) h = (omega (arith, h), greatest_bounds n ms (omega (arith, h)))

bounds : (ms : List ℕ) (rs : List Rec) → AreAtMost (levels_of ms rs) ms
bounds ms rs = greatest_bounds (levels_of ms rs) ms (omega arith)

unknown_bound : (ms : List ℕ) (rs : List Rec) → depth_of rs ≤ levels_of ms rs
unknown_bound ms rs = omega arith

-- levels that are bounded part by part
pub levels_within : (n : ℕ) (ms : List ℕ) (rs : List Rec) → AreAtMost n ms → depth_of rs ≤ n → levels_of ms rs ≤ n
levels_within n [] rs h unknown = omega (arith, unknown)
levels_within n (m ∷ ms) rs h unknown = omega (arith, h.0, levels_within n ms rs h.1 unknown)

pub below_within : {R : Type 0} (levels : R → ℕ) (n : ℕ) (rs : List R) → All (λ r. levels r < n) rs → below levels rs ≤ n
below_within levels n [] h = omega arith
below_within levels n (r ∷ rs) h = omega (arith, h 0 r (omega arith), below_within levels n rs (λ k d lt. h (suc k) d (omega arith)))

-- ---- values

abbrev value_depth : Option Val → ℕ
value_depth None = 0
value_depth (Some v) = val_depth v

abbrev AreDeep : ℕ → List Val → Type 0
AreDeep n [] = Unit {0}
AreDeep n (v ∷ vs) = (val_depth v ≤ n) × AreDeep n vs

vals_within : (n : ℕ) (vs : List Val) → AreDeep n vs → vals_depth (vals_of vs) ≤ n
vals_within n [] h = omega arith
vals_within n (v ∷ vs) h = omega (arith, h.0, vals_within n vs h.1)

listed_within : (n : ℕ) (vs : List Val) → AreDeep n vs → value_depth (listed vs) ≤ n
listed_within n [] h = omega arith
listed_within n (v ∷ vs) h = vals_within n (v ∷ vs) h

text_within : (n : ℕ) (t : Option (List ℕ)) → value_depth (of_text t) ≤ n
text_within n None = omega arith
text_within n (Some t) = omega arith

number_within : (n : ℕ) (z : Option ℤ) → value_depth (of_number z) ≤ n
number_within n None = omega arith
number_within n (Some z) = omega arith

truth_within : (n : ℕ) (b : Option Bool) → value_depth (of_truth b) ≤ n
truth_within n None = omega arith
truth_within n (Some b) = omega arith

texts_deep : (n : ℕ) (ts : List (List ℕ)) → AreDeep n (map text ts)
texts_deep n [] = tt
texts_deep n (t ∷ ts) = (omega arith, texts_deep n ts)

texts_within : (n : ℕ) (ts : List (List ℕ)) → value_depth (of_texts ts) ≤ n
texts_within n ts = listed_within n (map text ts) (texts_deep n ts)

numbers_deep : (n : ℕ) (zs : List ℤ) → AreDeep n (map number zs)
numbers_deep n [] = tt
numbers_deep n (z ∷ zs) = (omega arith, numbers_deep n zs)

numbers_within : (n : ℕ) (zs : List ℤ) → value_depth (of_numbers zs) ≤ n
numbers_within n zs = listed_within n (map number zs) (numbers_deep n zs)

records_deep : {R : Type 0} (f : R → Content) (levels : R → ℕ) (n : ℕ) → ((r : R) → depth (f r) ≤ levels r) → (rs : List R) → below levels rs ≤ n → AreDeep n (map (λ r. message (f r)) rs)
records_deep f levels n within [] h = tt
records_deep f levels n within (r ∷ rs) h = (omega (arith, within r, h), records_deep f levels n within rs (omega (arith, h)))

records_within : {R : Type 0} (f : R → Content) (levels : R → ℕ) (n : ℕ) → ((r : R) → depth (f r) ≤ levels r) → (rs : List R) → below levels rs ≤ n → value_depth (of_records f rs) ≤ n
records_within f levels n within rs h = listed_within n (map (λ r. message (f r)) rs) (records_deep f levels n within rs h)

record_within : {R : Type 0} (f : R → Content) (levels : R → ℕ) (n : ℕ) → ((r : R) → depth (f r) ≤ levels r) → (r : Option R) → below_one levels r ≤ n → value_depth (of_record f r) ≤ n
record_within f levels n within None h = omega arith
record_within f levels n within (Some r) h = omega (arith, within r, h)

-- ---- contents

abbrev AreWithin : ℕ → List (Option Val) → Type 0
AreWithin n [] = Unit {0}
AreWithin n (v ∷ vs) = (value_depth v ≤ n) × AreWithin n vs

fields_within : (n : ℕ) (gs : List FieldShape) (vs : List (Option Val)) → AreWithin n vs → fields_depth (fields_from gs vs) ≤ n
fields_within n [] vs h = omega arith
fields_within n (g ∷ gs) [] h = omega arith
fields_within n (g ∷ gs) (None ∷ vs) h = fields_within n gs vs h.1
fields_within n (g ∷ gs) (Some v ∷ vs) h = omega (arith, h.0, fields_within n gs vs h.1)

writable_within : (gs : List FieldShape) (rs : List Rec) → depth_of (writable gs rs) ≤ depth_of rs
writable_within gs [] = omega arith
writable_within gs (r ∷ rs) = at (is_writable gs r) (writable_within gs rs)
  where
    at : (b : Bool) → depth_of (writable gs rs) ≤ depth_of rs → depth_of (cond b (r ∷ writable gs rs) (writable gs rs)) ≤ depth_of (r ∷ rs)
    at true ih = omega (arith, ih)
    at false ih = omega (arith, ih)

content_within : (n : ℕ) (gs : List FieldShape) (vs : List (Option Val)) (rs : List Rec) → AreWithin n vs → depth_of rs ≤ n → depth (record_content gs vs rs) ≤ n
content_within n gs vs rs h unknown = omega (arith, fields_within n gs vs h, writable_within gs rs, unknown)

-- ---- records

options_depth : (o : Options) → depth (options_content o) ≤ depth_of o.recs
options_depth o = content_within (depth_of o.recs) [] [] o.recs tt (omega arith)

options_within : (n : ℕ) (o : Option Options) → options_levels o ≤ n → value_depth (of_options o) ≤ n
options_within n o h = record_within options_content (λ (p : Options). depth_of p.recs) n options_depth o h

pub extension_range_depth : (r : ExtensionRange) → depth (extension_range_content r) ≤ extension_range_levels r
extension_range_depth r =
    let n = extension_range_levels r in
    let parts : List ℕ = options_levels r.options ∷ [] in
    let b = bounds parts r.unknown in
    content_within n extension_range_fields (extension_range_values r) r.unknown (number_within n r.start, (number_within n r.end, (options_within n r.options b.0, tt))) (unknown_bound parts r.unknown)

pub reserved_range_depth : (r : ReservedRange) → depth (reserved_range_content r) ≤ reserved_range_levels r
reserved_range_depth r =
    let n = reserved_range_levels r in
    content_within n reserved_range_fields (reserved_range_values r) r.unknown (number_within n r.start, (number_within n r.end, tt)) (unknown_bound [] r.unknown)

pub field_depth : (f : FieldDescriptorProto) → depth (field_content f) ≤ field_levels f
field_depth f =
    let n = field_levels f in
    let parts : List ℕ = options_levels f.options ∷ [] in
    let b = bounds parts f.unknown in
    content_within n field_fields (field_values f) f.unknown (text_within n f.name, (text_within n f.extendee, (number_within n f.number, (number_within n f.label, (number_within n f.kind, (text_within n f.type_name, (text_within n f.default_value, (options_within n f.options b.0, (number_within n f.oneof_index, (text_within n f.json_name, (truth_within n f.proto3_optional, tt))))))))))) (unknown_bound parts f.unknown)

pub oneof_depth : (o : OneofDescriptorProto) → depth (oneof_content o) ≤ oneof_levels o
oneof_depth o =
    let n = oneof_levels o in
    let parts : List ℕ = options_levels o.options ∷ [] in
    let b = bounds parts o.unknown in
    content_within n oneof_fields (oneof_values o) o.unknown (text_within n o.name, (options_within n o.options b.0, tt)) (unknown_bound parts o.unknown)

pub enum_reserved_range_depth : (r : EnumReservedRange) → depth (enum_reserved_range_content r) ≤ enum_reserved_range_levels r
enum_reserved_range_depth r =
    let n = enum_reserved_range_levels r in
    content_within n enum_reserved_range_fields (enum_reserved_range_values r) r.unknown (number_within n r.start, (number_within n r.end, tt)) (unknown_bound [] r.unknown)

pub enum_value_depth : (v : EnumValueDescriptorProto) → depth (enum_value_content v) ≤ enum_value_levels v
enum_value_depth v =
    let n = enum_value_levels v in
    let parts : List ℕ = options_levels v.options ∷ [] in
    let b = bounds parts v.unknown in
    content_within n enum_value_fields (enum_value_values v) v.unknown (text_within n v.name, (number_within n v.number, (options_within n v.options b.0, tt))) (unknown_bound parts v.unknown)

pub enum_depth : (e : EnumDescriptorProto) → depth (enum_content e) ≤ enum_levels e
enum_depth e =
    let n = enum_levels e in
    let parts : List ℕ = below enum_value_levels e.value ∷ options_levels e.options ∷ below enum_reserved_range_levels e.reserved_range ∷ [] in
    let b = bounds parts e.unknown in
    content_within n enum_fields (enum_values e) e.unknown (text_within n e.name, (records_within enum_value_content enum_value_levels n enum_value_depth e.value b.0, (options_within n e.options b.1.0, (records_within enum_reserved_range_content enum_reserved_range_levels n enum_reserved_range_depth e.reserved_range b.1.1.0, (texts_within n e.reserved_name, tt))))) (unknown_bound parts e.unknown)

pub method_depth : (m : MethodDescriptorProto) → depth (method_content m) ≤ method_levels m
method_depth m =
    let n = method_levels m in
    let parts : List ℕ = options_levels m.options ∷ [] in
    let b = bounds parts m.unknown in
    content_within n method_fields (method_values m) m.unknown (text_within n m.name, (text_within n m.input_type, (text_within n m.output_type, (options_within n m.options b.0, (truth_within n m.client_streaming, (truth_within n m.server_streaming, tt)))))) (unknown_bound parts m.unknown)

pub service_depth : (s : ServiceDescriptorProto) → depth (service_content s) ≤ service_levels s
service_depth s =
    let n = service_levels s in
    let parts : List ℕ = below method_levels s.method ∷ options_levels s.options ∷ [] in
    let b = bounds parts s.unknown in
    content_within n service_fields (service_values s) s.unknown (text_within n s.name, (records_within method_content method_levels n method_depth s.method b.0, (options_within n s.options b.1.0, tt))) (unknown_bound parts s.unknown)

pub location_depth : (l : Location) → depth (location_content l) ≤ location_levels l
location_depth l =
    let n = location_levels l in
    content_within n location_fields (location_values l) l.unknown (numbers_within n l.path, (numbers_within n l.span, (text_within n l.leading_comments, (text_within n l.trailing_comments, (texts_within n l.leading_detached_comments, tt))))) (unknown_bound [] l.unknown)

pub source_code_info_depth : (s : SourceCodeInfo) → depth (source_code_info_content s) ≤ source_code_info_levels s
source_code_info_depth s =
    let n = source_code_info_levels s in
    let parts : List ℕ = below location_levels s.location ∷ [] in
    let b = bounds parts s.unknown in
    content_within n source_code_info_fields (source_code_info_values s) s.unknown (records_within location_content location_levels n location_depth s.location b.0, tt) (unknown_bound parts s.unknown)

-- a message whose nested messages are no deeper than their levels
nested_deep : {S : Type 0} (v : S → DescriptorProto) → ((s : S) → depth (message_content (v s)) ≤ message_levels (v s)) → (n : ℕ) (ss : List S) → below message_levels (map v ss) ≤ n
    → AreDeep n (map message (map message_content (map v ss)))
nested_deep v within n [] h = tt
nested_deep v within n (s ∷ ss) h = (omega (arith, within s, h), nested_deep v within n ss (omega (arith, h)))

pub below-map : (ms : List DescriptorProto) → below (λ n. n) (map message_levels ms) ≡ below message_levels ms
below-map [] = refl
below-map (m ∷ ms) = ap (max (message_levels m + 1)) (below-map ms)

abbrev with_contents : DescriptorProto-F DescriptorProto → DescriptorProto-F Content
with_contents o = layer_with (map message_content o.nested_type) o

abbrev with_levels : DescriptorProto-F DescriptorProto → DescriptorProto-F ℕ
with_levels o = layer_with (map message_levels o.nested_type) o

layer_depth : (o : DescriptorProto-F DescriptorProto) → ((n : ℕ) → below message_levels o.nested_type ≤ n → AreDeep n (map message (map message_content o.nested_type)))
    → depth (record_content message_fields (message_values (with_contents o)) o.unknown) ≤ message_levels_step (with_levels o)
layer_depth o nested =
    let n = message_levels_step (with_levels o) in
    let parts : List ℕ =
    below field_levels o.field
    ∷ below (λ k. k) (map message_levels o.nested_type)
    ∷ below enum_levels o.enum_type
    ∷ below extension_range_levels o.extension_range
    ∷ below field_levels o.extension
    ∷ options_levels o.options
    ∷ below oneof_levels o.oneof_decl
    ∷ below reserved_range_levels o.reserved_range
    ∷ []
    in
    let b = bounds parts o.unknown in
    let inner = listed_within n (map message (map message_content o.nested_type)) (nested n (omega (arith, b.1.0, below-map o.nested_type))) in
    content_within n message_fields (message_values (with_contents o)) o.unknown (
      text_within n o.name,
      (
        records_within field_content field_levels n field_depth o.field b.0,
        (
          inner,
          (
            records_within enum_content enum_levels n enum_depth o.enum_type b.1.1.0,
            (
              records_within extension_range_content extension_range_levels n extension_range_depth o.extension_range b.1.1.1.0,
              (
                records_within field_content field_levels n field_depth o.extension b.1.1.1.1.0,
                (
                  options_within n o.options b.1.1.1.1.1.0,
                  (
                    records_within oneof_content oneof_levels n oneof_depth o.oneof_decl b.1.1.1.1.1.1.0,
                    (
                      records_within reserved_range_content reserved_range_levels n reserved_range_depth o.reserved_range b.1.1.1.1.1.1.1.0,
                      (texts_within n o.reserved_name, tt),
                    ),
                  ),
                ),
              ),
            ),
          ),
        ),
      ),
    )
    (unknown_bound parts o.unknown)

abbrev IsWithin : DescriptorProto → Type 0
IsWithin m = depth (message_content m) ≤ message_levels m

rolled_depth : (o : DescriptorProto-F DescriptorProto) → ((n : ℕ) → below message_levels o.nested_type ≤ n → AreDeep n (map message (map message_content o.nested_type))) → IsWithin (roll-DescriptorProto o)
rolled_depth o nested =
    subst (λ (c : Content). depth c ≤ message_levels (roll-DescriptorProto o)) (sym (fold-roll-DescriptorProto Content message_step o))
    (subst (λ (n : ℕ). depth (record_content message_fields (message_values (with_contents o)) o.unknown) ≤ n) (sym (fold-roll-DescriptorProto ℕ message_levels_step o)) (layer_depth o nested))

-- the levels of a message, one level down
pub message_levels_at : (m : DescriptorProto) → message_levels m ≡ message_levels_step (layer_with (map message_levels (out-DescriptorProto m).nested_type) (out-DescriptorProto m))
message_levels_at m = fold_out-DescriptorProto ℕ message_levels_step m

pub message_depth : (m : DescriptorProto) → depth (message_content m) ≤ message_levels m
message_depth =
    ind-DescriptorProto IsWithin
    (λ o inside e.
    rolled_depth o
    (subst (λ (p : DescriptorProto-F DescriptorProto). (n : ℕ) → below message_levels p.nested_type ≤ n → AreDeep n (map message (map message_content p.nested_type))) e
    (λ n h. nested_deep (λ s. s.0) (λ s. s.1) n inside.nested_type h)))

pub file_depth : (f : FileDescriptorProto) → depth (file_content f) ≤ file_levels f
file_depth f =
    let n = file_levels f in
    let parts : List ℕ = below message_levels f.message_type ∷ below enum_levels f.enum_type ∷ below service_levels f.service ∷ below field_levels f.extension ∷ options_levels f.options ∷ below_one source_code_info_levels f.source_code_info ∷ [] in
    let b = bounds parts f.unknown in
    content_within n file_fields (file_values f) f.unknown (text_within n f.name, (text_within n f.«package», (texts_within n f.dependency, (records_within message_content message_levels n message_depth f.message_type b.0, (records_within enum_content enum_levels n enum_depth f.enum_type b.1.0, (records_within service_content service_levels n service_depth f.service b.1.1.0, (records_within field_content field_levels n field_depth f.extension b.1.1.1.0, (options_within n f.options b.1.1.1.1.0, (record_within source_code_info_content source_code_info_levels n source_code_info_depth f.source_code_info b.1.1.1.1.1.0, (numbers_within n f.public_dependency, (numbers_within n f.weak_dependency, (text_within n f.syntax, tt)))))))))))) (unknown_bound parts f.unknown)

pub file_set_depth : (s : FileDescriptorSet) → depth (file_set_content s) ≤ file_set_levels s
file_set_depth s =
    let n = file_set_levels s in
    let parts : List ℕ = below file_levels s.file ∷ [] in
    let b = bounds parts s.unknown in
    content_within n set_fields (file_set_values s) s.unknown (records_within file_content file_levels n file_depth s.file b.0, tt) (unknown_bound parts s.unknown)

pub files_depth : (files : List FileDescriptorProto) → depth (files_content files) ≤ below file_levels files
files_depth files =
    content_within (below file_levels files) set_fields (of_records file_content files ∷ []) [] (records_within file_content file_levels (below file_levels files) file_depth files (omega arith), tt) (omega arith)
