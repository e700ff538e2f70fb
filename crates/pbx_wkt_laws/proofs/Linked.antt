-- A built-in file is what linking makes of it.
use Rattle.std.proofs.Common.{◌≡◌, ◌∙◌, ℕ, List, [], ◌∷◌, map, Bool, true, false, ◌&&◌, cond, Option, Some, None, refl, ap, sym}
use Rattle.std.proofs.Common.{subst, arith, rules}
use Rattle.std.specs.Prelude.{◌==◌, ℤ, pos, negsuc, find, is_none, is_some, option_map}
use Rattle.std.specs.List.{list_all}
use Rattle.std.specs.Str.{bytes_eq}
use Rattle.std.proofs.lemmas.Slice.Eq.{bytes_eq-Decides}
use Rattle.std.proofs.lemmas.Bool.Decides.{nat_tests}
use Rattle.pbx_wire.specs.Text.{is_numbered, is_record_number}
use Rattle.pbx_wire.specs.declared.rec.Rec.{Rec, the_lemmas as rec_lemmas}
use Rattle.pbx_wire.specs.declared.rec.Rec.{Varint, Fixed64, Bytes, Group', Fixed32}
use Rattle.pbx_wire.proofs.Written.{both}
use Rattle.pbx_desc_shapes.specs.DescriptorShape.{file_fields, message_fields, field_fields, enum_fields, enum_value_fields}
use Rattle.pbx_content.specs.declared.shape.FieldShape.{FieldShape}
use Rattle.pbx_desc_records.specs.declared.enumeration.EnumReservedRange.{EnumReservedRange}
use Rattle.pbx_desc_records.specs.declared.enumeration.EnumDescriptorProto.{EnumDescriptorProto}
use Rattle.pbx_desc_records.specs.declared.enumeration.EnumValueDescriptorProto.{EnumValueDescriptorProto}
use Rattle.pbx_desc_records.specs.declared.field.FieldDescriptorProto.{FieldDescriptorProto}
use Rattle.pbx_desc_records.specs.declared.field.OneofDescriptorProto.{OneofDescriptorProto}
use Rattle.pbx_desc_records.specs.declared.file.FileDescriptorProto.{FileDescriptorProto}
use Rattle.pbx_desc_records.specs.declared.message.DescriptorProto.{DescriptorProto, roll-DescriptorProto, out-DescriptorProto}
use Rattle.pbx_desc_records.specs.declared.message.DescriptorProto.{out-roll-DescriptorProto, roll-out-DescriptorProto}
use Rattle.pbx_desc_records.specs.declared.message.ExtensionRange.{ExtensionRange}
use Rattle.pbx_desc_records.specs.declared.message.ReservedRange.{ReservedRange}
use Rattle.pbx_desc_records.specs.declared.options.Options.{Options}
use Rattle.pbx_link_definitions.specs.Names.{qualified, text_or_empty, dotted}
use Rattle.pbx_link_scope.specs.Scope.{visible}
use Rattle.pbx_link_rules_record.specs.EntryRules.{is_empty}
use Rattle.pbx_link_record.specs.Unknown.{unread, settled_unknown}
use Rattle.pbx_link_record.specs.Settled.{settled_options, settled_extension_range, settled_reserved_range, settled_field, settled_oneof}
use Rattle.pbx_link_record.specs.Settled.{settled_enum_range, settled_value, settled_enum, settled_message, settled_file}
use Rattle.pbx_link_record.specs.Linked.{exact, exact_by, type_by, json_name_or_default, linked_field, linked_message, linked_with, linked_record}
use Rattle.pbx_link_record.proofs.Layers.{linked_open, linked_out, settled_open, settled_out}
use Rattle.pbx_wkt_files.specs.Records.{Message, Top, File, extension_range, reserved_range, oneof, options_of, message_layer, message_record}
use Rattle.pbx_wkt_files.specs.Records.{top_record, file_record}
use Rattle.pbx_wkt_laws.proofs.Opened.{Layer}
use Rattle.pbx_wkt_laws.proofs.Looked.{Open, shut_bound, open_full, full_open, all_open, open_type, bound_by, open_bound, bound_open}

-- ---- exact names

-- there is no name, or one with a leading dot
abbrev pub is_exact : Option (List ℕ) → Bool
is_exact None = true
is_exact (Some []) = false
is_exact (Some (b ∷ bs)) = b == 46

found_fits : (p : Open → Bool) (bs : List Open) (b : Open) → find p bs ≡ Some b → p b ≡ true
found_fits p [] b h = cc
found_fits p (c ∷ bs) b h = at (p c) refl h (found_fits p bs b)
  where
    at : (t : Bool) → p c ≡ t → cond t (Some c) (find p bs) ≡ Some b → (find p bs ≡ Some b → p b ≡ true) → p b ≡ true
    at true e is more = let same : c ≡ b = cc in sym (ap p same) ∙ e
    at false e is more = more is

exact_found : (rs : List File) (bs : List ℕ) (o : Option Open) → open_type rs bs ≡ o → exact_by (Some (46 ∷ bs)) (option_map shut_bound o) ≡ Some (46 ∷ bs)
exact_found rs bs None h = refl
exact_found rs bs (Some b) h =
    ap (λ (n : List ℕ). Some (dotted n))
    (full_open b ∙ (bytes_eq-Decides (open_full b) bs).0 (found_fits (λ b. bytes_eq (open_full b) bs) (all_open rs) b h))

pub exact_is : (rs : List File) (scope : List ℕ) (name : Option (List ℕ)) → is_exact name ≡ true → exact (map file_record rs) scope name ≡ name
exact_is rs scope None h = refl
exact_is rs scope (Some []) h = cc
exact_is rs scope (Some (b ∷ bs)) h =
    ap (exact_by (Some (b ∷ bs))) (bound_open rs scope (Some (b ∷ bs)) ∙ ap (λ t. bound_by t rs scope b bs) h)
    ∙ subst (λ n. exact_by (Some (n ∷ bs)) (option_map shut_bound (open_type rs bs)) ≡ Some (n ∷ bs)) (sym (dot_is b h))
    (exact_found rs bs (open_type rs bs) refl)
  where
    dot_is : (b : ℕ) → (b == 46) ≡ true → b ≡ 46
    dot_is b e = grind (arith, nat_tests)

-- ---- options

-- a record that may be written, and is no group
abbrev pub is_plain : Rec → Bool
is_plain (Varint n v) = is_record_number n
is_plain (Fixed64 n v) = false
is_plain (Bytes n b) = is_record_number n
is_plain (Group' n shape row) = false
is_plain (Fixed32 n v) = false

plain_numbered : (r : Rec) → is_plain r ≡ true → is_numbered r ≡ true
plain_numbered (Varint n v) h = let numbered : is_numbered (Varint n v) ≡ is_record_number n = search (rules, rec_lemmas) in numbered ∙ h
plain_numbered (Fixed64 n v) h = cc
plain_numbered (Bytes n b) h = let numbered : is_numbered (Bytes n b) ≡ is_record_number n = search (rules, rec_lemmas) in numbered ∙ h
plain_numbered (Group' n shape row) h = cc
plain_numbered (Fixed32 n v) h = cc

all_unread : (rs : List Rec) → list_all is_plain rs ≡ true → unread [] rs ≡ rs
unfolding unread
all_unread [] h = refl
all_unread (r ∷ rs) h =
    let tests = both (is_plain r) (list_all is_plain rs) h in
    rw (plain_numbered r tests.0) (ap (λ (ss : List Rec). r ∷ ss) (all_unread rs tests.1))

abbrev pub are_plain : Option Options → Bool
are_plain None = true
are_plain (Some o) = list_all is_plain o.recs

options_settled : (o : Option Options) → are_plain o ≡ true → settled_options o ≡ o
options_settled None h = refl
options_settled (Some o) h = ap (λ (rs : List Rec). Some (record { recs = rs })) (all_unread o.recs h)

-- ---- fields

-- the number is there in both and the same, and is not negative
abbrev pub same_kind : Option ℤ → Option ℤ → Bool
same_kind (Some (pos a)) (Some (pos b)) = a == b
same_kind a b = false

kinds_same : (a b : Option ℤ) → same_kind a b ≡ true → a ≡ b
kinds_same (Some (pos a)) (Some (pos b)) h = ap (λ n. Some (pos n)) (numbers_same a b h)
  where
    numbers_same : (a b : ℕ) → (a == b) ≡ true → a ≡ b
    numbers_same a b e = grind (arith, nat_tests)
kinds_same (Some (pos a)) (Some (negsuc b)) h = cc
kinds_same (Some (pos a)) None h = cc
kinds_same (Some (negsuc a)) (Some (pos b)) h = cc
kinds_same (Some (negsuc a)) (Some (negsuc b)) h = cc
kinds_same (Some (negsuc a)) None h = cc
kinds_same None (Some (pos b)) h = cc
kinds_same None (Some (negsuc b)) h = cc
kinds_same None None h = cc

-- A field has no extendee, an exact name of its type and that type, a JSON name, and only what may be written.
abbrev pub field_kept : List File → List ℕ → FieldDescriptorProto → Bool
field_kept rs scope x =
    is_none x.extendee
    && (is_exact x.type_name
    && (is_some x.json_name && (same_kind (type_by x.kind (open_bound rs scope x.type_name)) x.kind && (are_plain x.options && is_empty x.unknown))))

json_kept : (o : Option (List ℕ)) (name : List ℕ) → is_some o ≡ true → Some (json_name_or_default o name) ≡ o
json_kept None name h = cc
json_kept (Some n) name h = refl

none_extended : (rs : List File) (scope : List ℕ) (o : Option (List ℕ)) → is_none o ≡ true → exact (map file_record rs) scope o ≡ o
none_extended rs scope None h = refl
none_extended rs scope (Some n) h = cc

unknown_settled : (gs : List FieldShape) (rs : List Rec) → is_empty rs ≡ true → settled_unknown gs rs ≡ rs
unfolding settled_unknown unread
unknown_settled gs [] h = refl
unknown_settled gs (r ∷ rs) h = cc

field_same : (x : FieldDescriptorProto) (e : Option (List ℕ)) (k : Option ℤ) (t : Option (List ℕ)) (o : Option Options) (j : Option (List ℕ))
    (u : List Rec)
    → e ≡ x.extendee → k ≡ x.kind → t ≡ x.type_name → o ≡ x.options → j ≡ x.json_name → u ≡ x.unknown
    → record x { extendee = e; kind = k; type_name = t; options = o; json_name = j; unknown = u } ≡ x
field_same x e k t o j u he hk ht ho hj hu = rw (he, hk, ht, ho, hj, hu) refl

field_linked : (rs : List File) (scope : List ℕ) (x : FieldDescriptorProto) → field_kept rs scope x ≡ true
    → settled_field (linked_field (map file_record rs) scope x) ≡ x
field_linked rs scope x h =
    let one = both (is_none x.extendee) _ h in
    let two = both (is_exact x.type_name) _ one.1 in
    let three = both (is_some x.json_name) _ two.1 in
    let four = both (same_kind (type_by x.kind (open_bound rs scope x.type_name)) x.kind) _ three.1 in
    let five = both (are_plain x.options) (is_empty x.unknown) four.1 in
    field_same x _ _ _ _ _ _
    (none_extended rs scope x.extendee one.0)
    (ap (type_by x.kind) (bound_open rs scope x.type_name) ∙ kinds_same (type_by x.kind (open_bound rs scope x.type_name)) x.kind four.0)
    (exact_is rs scope x.type_name two.0)
    (options_settled x.options five.0)
    (json_kept x.json_name (text_or_empty x.name) three.0)
    (unknown_settled field_fields x.unknown five.1)

fields_linked : (rs : List File) (scope : List ℕ) (xs : List FieldDescriptorProto) → list_all (field_kept rs scope) xs ≡ true
    → map settled_field (map (linked_field (map file_record rs) scope) xs) ≡ xs
fields_linked rs scope [] h = refl
fields_linked rs scope (x ∷ xs) h =
    let tests = both (field_kept rs scope x) (list_all (field_kept rs scope) xs) h in
    ap (λ (y : FieldDescriptorProto). y ∷ map settled_field (map (linked_field (map file_record rs) scope) xs)) (field_linked rs scope x tests.0)
    ∙ ap (λ (ys : List FieldDescriptorProto). x ∷ ys) (fields_linked rs scope xs tests.1)

-- ---- enums

-- a value has no options
abbrev pub value_kept : EnumValueDescriptorProto → Bool
value_kept v = is_none v.options && is_empty v.unknown

-- an enum has neither options nor reserved ranges
abbrev pub enum_kept : EnumDescriptorProto → Bool
enum_kept e = is_none e.options && (is_empty e.unknown && (is_empty e.reserved_range && list_all value_kept e.value))

no_options : (o : Option Options) → is_none o ≡ true → settled_options o ≡ o
no_options None h = refl
no_options (Some o) h = cc

value_settled : (v : EnumValueDescriptorProto) → value_kept v ≡ true → settled_value v ≡ v
value_settled v h =
    let tests = both (is_none v.options) (is_empty v.unknown) h in
    ap (λ (o : Option Options). record v { options = o; unknown = settled_unknown enum_value_fields v.unknown }) (no_options v.options tests.0)
    ∙ ap (λ (u : List Rec). record v { unknown = u }) (unknown_settled enum_value_fields v.unknown tests.1)

values_settled : (vs : List EnumValueDescriptorProto) → list_all value_kept vs ≡ true → map settled_value vs ≡ vs
values_settled [] h = refl
values_settled (v ∷ vs) h =
    let tests = both (value_kept v) (list_all value_kept vs) h in
    ap (λ (w : EnumValueDescriptorProto). w ∷ map settled_value vs) (value_settled v tests.0) ∙ ap (λ (ws : List EnumValueDescriptorProto). v ∷ ws)
    (values_settled vs tests.1)

no_ranges : (rs : List EnumReservedRange) → is_empty rs ≡ true → map settled_enum_range rs ≡ rs
no_ranges [] h = refl
no_ranges (r ∷ rs) h = cc

enum_settled : (e : EnumDescriptorProto) → enum_kept e ≡ true → settled_enum e ≡ e
enum_settled e h =
    let one = both (is_none e.options) _ h in
    let two = both (is_empty e.unknown) _ one.1 in
    let three = both (is_empty e.reserved_range) (list_all value_kept e.value) two.1 in
    ap (λ (vs : List EnumValueDescriptorProto). record e {
      value = vs;
      options = settled_options e.options;
      reserved_range = map settled_enum_range e.reserved_range;
      unknown = settled_unknown enum_fields e.unknown;
    }) (values_settled e.value three.1)
    ∙ ap (λ (o : Option Options).
    record e { options = o; reserved_range = map settled_enum_range e.reserved_range; unknown = settled_unknown enum_fields e.unknown })
    (no_options e.options one.0)
    ∙ ap (λ (rs : List EnumReservedRange). record e { reserved_range = rs; unknown = settled_unknown enum_fields e.unknown })
    (no_ranges e.reserved_range three.0)
    ∙ ap (λ (u : List Rec). record e { unknown = u }) (unknown_settled enum_fields e.unknown two.0)

enums_settled : (es : List EnumDescriptorProto) → list_all enum_kept es ≡ true → map settled_enum es ≡ es
enums_settled [] h = refl
enums_settled (e ∷ es) h =
    let tests = both (enum_kept e) (list_all enum_kept es) h in
    ap (λ (f : EnumDescriptorProto). f ∷ map settled_enum es) (enum_settled e tests.0) ∙ ap (λ (fs : List EnumDescriptorProto). e ∷ fs)
    (enums_settled es tests.1)

-- ---- messages

extension_ranges_settled : (rs : List (ℕ × ℕ)) → map settled_extension_range (map extension_range rs) ≡ map extension_range rs
unfolding settled_unknown unread
extension_ranges_settled [] = refl
extension_ranges_settled (r ∷ rs) = ap (λ (ss : List ExtensionRange). extension_range r ∷ ss) (extension_ranges_settled rs)

reserved_ranges_settled : (rs : List (ℕ × ℕ)) → map settled_reserved_range (map reserved_range rs) ≡ map reserved_range rs
unfolding settled_unknown unread
reserved_ranges_settled [] = refl
reserved_ranges_settled (r ∷ rs) = ap (λ (ss : List ReservedRange). reserved_range r ∷ ss) (reserved_ranges_settled rs)

oneofs_settled : (ns : List (List ℕ)) → map settled_oneof (map oneof ns) ≡ map oneof ns
unfolding settled_unknown unread
oneofs_settled [] = refl
oneofs_settled (n ∷ ns) = ap (λ (os : List OneofDescriptorProto). oneof n ∷ os) (oneofs_settled ns)

-- a message's own parts in its scope
abbrev pub message_kept : List File → List ℕ → Message → Bool
message_kept rs scope m =
    list_all (field_kept rs (qualified scope m.name)) m.fields && (list_all enum_kept m.enums && are_plain (options_of m.rest.options))

layer_same : (m : Message) (fields : List FieldDescriptorProto) (nested ns : List DescriptorProto) (enums : List EnumDescriptorProto)
    (exts : List ExtensionRange)
    (opts : Option Options) (os : List OneofDescriptorProto) (res : List ReservedRange) (u : List Rec)
    → fields ≡ m.fields → nested ≡ ns → enums ≡ m.enums → exts ≡ map extension_range m.rest.extension_ranges → opts ≡ options_of m.rest.options
    → os ≡ map oneof m.rest.oneofs → res ≡ map reserved_range m.rest.reserved_ranges → u ≡ []
    → record (message_layer m ns) {
      field = fields;
      nested_type = nested;
      enum_type = enums;
      extension_range = exts;
      options = opts;
      oneof_decl = os;
      reserved_range = res;
      unknown = u;
    }
    ≡ message_layer m ns
layer_same m fields nested ns enums exts opts os res u hf hn he hx ho hs hr hu = rw (hf, hn, he, hx, ho, hs, hr, hu) refl

message_linked : (rs : List File) (scope : List ℕ) (m : Message) (ns : List DescriptorProto) → message_kept rs scope m ≡ true
    → map settled_message (map (linked_message (map file_record rs) (qualified scope m.name)) ns) ≡ ns
    → settled_message (linked_message (map file_record rs) scope (roll-DescriptorProto (message_layer m ns))) ≡ roll-DescriptorProto (message_layer m ns)
message_linked rs scope m ns h inner =
    let seen = map file_record rs in
    let l = message_layer m ns in
    let one = both (list_all (field_kept rs (qualified scope m.name)) m.fields) _ h in
    let two = both (list_all enum_kept m.enums) (are_plain (options_of m.rest.options)) one.1 in
    let it = settled_message (linked_message seen scope (roll-DescriptorProto l)) in
    let same : out-DescriptorProto it ≡ l =
    settled_out (linked_message seen scope (roll-DescriptorProto l)) ∙ ap settled_open (linked_out seen scope (roll-DescriptorProto l))
    ∙ ap (λ (o : Layer). settled_open (linked_open seen scope o)) (out-roll-DescriptorProto l)
    ∙ layer_same m _ _ ns _ _ _ _ _ _ (fields_linked rs (qualified scope m.name) m.fields one.0) inner (enums_settled m.enums two.0)
    (extension_ranges_settled m.rest.extension_ranges) (options_settled (options_of m.rest.options) two.1) (oneofs_settled m.rest.oneofs)
    (reserved_ranges_settled m.rest.reserved_ranges) (unknown_settled message_fields [] refl) in
    sym (roll-out-DescriptorProto it) ∙ ap roll-DescriptorProto same

nested_linked : (rs : List File) (scope : List ℕ) (ms : List Message) → list_all (message_kept rs scope) ms ≡ true
    → map settled_message (map (linked_message (map file_record rs) scope) (map message_record ms)) ≡ map message_record ms
nested_linked rs scope [] h = refl
nested_linked rs scope (m ∷ ms) h =
    let tests = both (message_kept rs scope m) (list_all (message_kept rs scope) ms) h in
    ap (λ (n : DescriptorProto). n ∷ map settled_message (map (linked_message (map file_record rs) scope) (map message_record ms)))
    (message_linked rs scope m [] tests.0 refl)
    ∙ ap (λ (ns : List DescriptorProto). message_record m ∷ ns) (nested_linked rs scope ms tests.1)

abbrev pub top_kept : List File → List ℕ → Top → Bool
top_kept rs scope t = message_kept rs scope t.own && list_all (message_kept rs (qualified scope t.own.name)) t.nested

tops_linked : (rs : List File) (scope : List ℕ) (ts : List Top) → list_all (top_kept rs scope) ts ≡ true
    → map settled_message (map (linked_message (map file_record rs) scope) (map top_record ts)) ≡ map top_record ts
tops_linked rs scope [] h = refl
tops_linked rs scope (t ∷ ts) h =
    let tests = both (top_kept rs scope t) (list_all (top_kept rs scope) ts) h in
    let own = both (message_kept rs scope t.own) (list_all (message_kept rs (qualified scope t.own.name)) t.nested) tests.0 in
    ap (λ (n : DescriptorProto). n ∷ map settled_message (map (linked_message (map file_record rs) scope) (map top_record ts)))
    (message_linked rs scope t.own (map message_record t.nested) own.0 (nested_linked rs (qualified scope t.own.name) t.nested own.1))
    ∙ ap (λ (ns : List DescriptorProto). top_record t ∷ ns) (tops_linked rs scope ts tests.1)

-- ---- files

-- the file's parts among the files that it sees
abbrev pub file_kept : List File → File → Bool
file_kept sr r = list_all (top_kept sr r.«package») r.messages && (list_all enum_kept r.enums && list_all is_plain r.options)

file_same : (r : File) (ms : List DescriptorProto) (es : List EnumDescriptorProto) (o : Option Options) (u : List Rec)
    → ms ≡ map top_record r.messages → es ≡ r.enums → o ≡ Some (record { recs = r.options }) → u ≡ []
    → record (file_record r) { message_type = ms; enum_type = es; options = o; unknown = u } ≡ file_record r
file_same r ms es o u hm he ho hu = rw (hm, he, ho, hu) refl

pub row_is_linked : (rs sr : List File) (r : File) → visible (map file_record rs) (file_record r) ≡ map file_record sr → file_kept sr r ≡ true
    → linked_record (map file_record rs) (file_record r) ≡ file_record r
row_is_linked rs sr r sees h =
    let one = both (list_all (top_kept sr r.«package») r.messages) _ h in
    let two = both (list_all enum_kept r.enums) (list_all is_plain r.options) one.1 in
    ap (λ (seen : List FileDescriptorProto). settled_file (linked_with seen (file_record r))) sees
    ∙ file_same r _ _ _ _ (tops_linked sr r.«package» r.messages one.0) (enums_settled r.enums two.0)
    (options_settled (Some (record { recs = r.options })) two.1) (unknown_settled file_fields [] refl)
