-- The rules of linking on a built-in file, each as a list of places or a test that computes from the file's row.
use Rattle.std.proofs.Common.{◌≡◌, ◌∙◌, ℕ, suc, ◌+◌, List, [], ◌∷◌, ◌++◌, map, length, Bool, true, false, not, ◌&&◌, ◌||◌, cond, Option, Some, None}
use Rattle.std.proofs.Common.{refl, ap, sym}
use Rattle.std.specs.Prelude.{◌==◌, ℤ, pos, filter, is_none, is_some, nat_lt}
use Rattle.std.specs.List.{flat_map, enumerate_from, list_all, list_any}
use Rattle.std.specs.Str.{bytes_eq}
use Rattle.pbx_wire.specs.Text.{is_numbered}
use Rattle.pbx_wire.specs.declared.rec.Rec.{Rec}
use Rattle.pbx_wire.proofs.Written.{both}
use Rattle.pbx_content.specs.Records.{number_of}
use Rattle.pbx_desc_records.specs.declared.enumeration.EnumValueDescriptorProto.{EnumValueDescriptorProto}
use Rattle.pbx_desc_records.specs.declared.options.Options.{Options}
use Rattle.pbx_desc_records.specs.declared.enumeration.EnumDescriptorProto.{EnumDescriptorProto}
use Rattle.pbx_desc_records.specs.declared.field.FieldDescriptorProto.{FieldDescriptorProto}
use Rattle.pbx_desc_records.specs.declared.field.OneofDescriptorProto.{OneofDescriptorProto}
use Rattle.pbx_desc_records.specs.declared.file.FileDescriptorProto.{FileDescriptorProto}
use Rattle.pbx_desc_records.specs.declared.message.DescriptorProto.{DescriptorProto, roll-DescriptorProto, out-DescriptorProto, out-roll-DescriptorProto}
use Rattle.pbx_desc_records.specs.declared.message.ExtensionRange.{ExtensionRange}
use Rattle.pbx_desc_records.specs.declared.message.ReservedRange.{ReservedRange}
use Rattle.pbx_link_definitions.specs.Definitions.{Place, Part, Defined, at, part, parts, full_name, name_place, messages, top_messages, enums}
use Rattle.pbx_link_definitions.specs.Definitions.{extensions, definitions, fields_in, values_in}
use Rattle.pbx_link_definitions.specs.Names.{among, qualified, text_or_empty}
use Rattle.pbx_link_definitions.specs.Places.{places_where, place_if, repeated}
use Rattle.pbx_link_definitions.specs.Ranges.{Range, in_ranges, is_field_number}
use Rattle.pbx_link_definitions.specs.Says.{is_proto3, is_set, is_number, is_optional, is_repeated, is_entry, option_bool, has_option, signed_or_zero}
use Rattle.pbx_link_definitions.specs.Says.{are_equal, is_uninterpreted, has_record}
use Rattle.pbx_link_scope.specs.declared.types.Bound.{Bound}
use Rattle.pbx_link_scope.specs.Scope.{packages, visible}
use Rattle.pbx_link_scope.specs.Pooled.{like_named, all_packages}
use Rattle.pbx_link_rules_field.specs.Rules.{bad_field_numbers, bad_types, bad_oneofs, bad_labels, bad_types_among, bad_labels_among, bad_numbers_in}
use Rattle.pbx_link_rules_field.specs.Rules.{like_numbered, is_below, has_oneof, bad_member, bad_oneofs_in, is_bad_extension}
use Rattle.pbx_link_rules_record.specs.FileRules.{unknown_syntax, bad_names, is_bad_name, is_bad_package}
use Rattle.pbx_link_rules_record.specs.EnumRules.{bad_enums, bad_enum}
use Rattle.pbx_link_rules_record.specs.EntryRules.{is_empty, bad_entries, is_bad_entry, are_entry_fields}
use Rattle.pbx_link_rules_record.specs.OptionRules.{uninterpreted_options, uninterpreted, uninterpreted_in_message, uninterpreted_in_enum, message_sets}
use Rattle.pbx_link_rules_record.specs.OptionRules.{is_message_set}
use Rattle.pbx_link_rules_record.specs.RangeRules.{bad_ranges, bad_ranges_of, bad_message_ranges, bad_enum_ranges, is_bad_range}
use Rattle.pbx_link_rules_scope.specs.Rules.{unbound_names, has_bad_type_name, is_bad_type_name, places_by, has_bad_extendee, has_no_extendee}
use Rattle.pbx_link_rules_scope.specs.Defaults.{bad_defaults, has_bad_default, is_default_of}
use Rattle.pbx_link_rules_scope.specs.ExtensionNumbers.{bad_extension_numbers, is_unfit, has_taken_number, extended_again}
use Rattle.pbx_link_rules_scope.specs.MapFields.{bad_map_fields, bad_map_fields_in, is_bad_map_field, is_held_in, same_text, full_name_of}
use Rattle.pbx_link_rules_scope.specs.MapFields.{type_in, of_entry_types, fields_of_type, same_type}
use Rattle.pbx_link_rules.specs.Rules.{file_twice, missing_imports, names_twice}
use Rattle.pbx_link_rules.specs.Breaches.{all_breaches, bad_maps, bad_numbers, keeps_rules}
use Rattle.pbx_wkt_files.specs.Records.{Top, File, top_record, file_record}
use Rattle.pbx_wkt_laws.proofs.Opened.{Layer, shut, open_own, open_messages, messages_shut, told_of, all_fields_of, fields_are, all_enums_of}
use Rattle.pbx_wkt_laws.proofs.Opened.{enums_are, no_extensions, defines, definitions_are, all_definitions_are}
use Rattle.pbx_wkt_laws.proofs.Looked.{open_bound, bound_open, has_entry, entry_is, full_of, full_is}

-- ---- lists that are empty

pub nothing_in : {X : Type 0} (xs : List X) → is_empty xs ≡ true → xs ≡ []
nothing_in [] h = refl
nothing_in (x ∷ xs) h = cc

pub none_placed : {X : Type 0} (P : X → Bool) (place : X → Place) (xs : List X) → list_all (λ x. not (P x)) xs ≡ true → places_where P place xs ≡ []
none_placed P place [] h = refl
none_placed P place (x ∷ xs) h =
    let tests = both (not (P x)) (list_all (λ x. not (P x)) xs) h in at (P x) refl tests.0 (none_placed P place xs tests.1)
  where
    at : (b : Bool) → P x ≡ b → not (P x) ≡ true → places_where P place xs ≡ [] → places_where P place (x ∷ xs) ≡ []
    at true e n rest = absurd (let none : not (P x) ≡ false = ap not e in cc)
    at false e n rest = rw e rest

pub same_tests : {X : Type 0} (P Q : X → Bool) → ((x : X) → P x ≡ Q x) → (xs : List X) → list_all (λ x. not (Q x)) xs ≡ true
    → list_all (λ x. not (P x)) xs ≡ true
same_tests P Q e [] h = refl
same_tests P Q e (x ∷ xs) h =
    let parts = both (not (Q x)) (list_all (λ x. not (Q x)) xs) h in rw (ap not (e x) ∙ parts.0, same_tests P Q e xs parts.1) refl

-- of tests that are alike
pub none_by : {X : Type 0} (P Q : X → Bool) (place : X → Place) → ((x : X) → P x ≡ Q x) → (xs : List X) → list_all (λ x. not (Q x)) xs ≡ true
    → places_where P place xs ≡ []
none_by P Q place e xs h = none_placed P place xs (same_tests P Q e xs h)

-- ---- 4: names

abbrev pub misnamed : File → List Place
misnamed r = let f = file_record r in
    place_if (is_none f.name) (pos 1 ∷ []) ++ place_if (is_bad_package f.«package») (pos 2 ∷ []) ++ places_where is_bad_name name_place (defines r)

pub names_open : (r : File) → bad_names (file_record r) ≡ misnamed r
names_open r =
    ap (λ ds. place_if (is_none (file_record r).name) (pos 1 ∷ []) ++ place_if (is_bad_package (file_record r).«package») (pos 2 ∷ [])
    ++ places_where is_bad_name name_place ds)
    (definitions_are r)

-- ---- 5: full names

-- No name that the file's package begins with is one that the pool defines, none of the file's is taken, and no two of them are the same.
abbrev pub names_apart : List (List ℕ) → List (List ℕ) → List (List ℕ) → List (List ℕ) → Bool
names_apart pool taken own names = not (list_any (among pool) own) && (list_all (λ n. not (among taken n)) names && is_empty (repeated bytes_eq [] names))

abbrev pub full_names : List File → List (List ℕ)
full_names rs = map full_name (flat_map defines rs)

abbrev pub names_kept : List File → File → Bool
names_kept rs r =
    names_apart (full_names rs) (full_names rs ++ all_packages (map file_record (r ∷ rs))) (packages (file_record r)) (map full_name (defines r))

any_mapped : (d : Defined) (ds : List Defined) → list_any (like_named d) ds ≡ list_any (bytes_eq (full_name d)) (map full_name ds)
any_mapped d [] = refl
any_mapped d (e ∷ ds) = ap (λ b. bytes_eq (full_name d) (full_name e) || b) (any_mapped d ds)

not_repeated : (before ds : List Defined) → repeated bytes_eq (map full_name before) (map full_name ds) ≡ [] → repeated like_named before ds ≡ []
unfolding repeated
not_repeated before [] h = refl
not_repeated before (d ∷ ds) h = at (list_any (like_named d) before) refl (not_repeated (d ∷ before) ds)
  where
    at : (b : Bool) → list_any (like_named d) before ≡ b
        → (repeated bytes_eq (map full_name (d ∷ before)) (map full_name ds) ≡ [] → repeated like_named (d ∷ before) ds ≡ [])
        → repeated like_named before (d ∷ ds) ≡ []
    at true e more =
        absurd (let bad : full_name d ∷ repeated bytes_eq (map full_name (d ∷ before)) (map full_name ds) ≡ [] = rw
        (sym (any_mapped d before) ∙ e) at h in cc)
    at false e more = rw e (more (rw (sym (any_mapped d before) ∙ e) at h))

none_taken : (taken : List (List ℕ)) (ds : List Defined) → list_all (λ n. not (among taken n)) (map full_name ds) ≡ true
    → list_all (λ (d : Defined). not (among taken (full_name d))) ds ≡ true
none_taken taken [] h = refl
none_taken taken (d ∷ ds) h =
    let parts = both (not (among taken (full_name d))) (list_all (λ n. not (among taken n)) (map full_name ds)) h in rw
    (parts.0, none_taken taken ds parts.1) refl

not_true : (b : Bool) → not b ≡ true → b ≡ false
not_true true h = cc
not_true false h = refl

pub names_are_kept : (rs : List File) (r : File) → names_kept rs r ≡ true → names_twice (map file_record rs) (file_record r) ≡ []
names_are_kept rs r h =
    let f = file_record r in
    let taken = full_names rs ++ all_packages (map file_record (r ∷ rs)) in
    let parts = both (not (list_any (among (full_names rs)) (packages f)))
    (list_all (λ n. not (among taken n)) (map full_name (defines r)) && is_empty (repeated bytes_eq [] (map full_name (defines r)))) h in
    let inner = both (list_all (λ n. not (among taken n)) (map full_name (defines r)))
    (is_empty (repeated bytes_eq [] (map full_name (defines r)))) parts.1 in
    ap (λ ds. place_if (list_any (among (map full_name ds)) (packages f)) (pos 2 ∷ [])
    ++ (places_where (λ d. among (map full_name ds ++ all_packages (map file_record (r ∷ rs))) (full_name d)) name_place (definitions f)
    ++ map name_place (repeated like_named [] (definitions f))))
    (all_definitions_are rs)
    ∙ ap (λ ds. place_if (list_any (among (full_names rs)) (packages f)) (pos 2 ∷ [])
    ++ (places_where (λ d. among taken (full_name d)) name_place ds ++ map name_place (repeated like_named [] ds)))
    (definitions_are r)
    ∙ ap (λ b. place_if b (pos 2 ∷ [])
    ++ (places_where (λ d. among taken (full_name d)) name_place (defines r) ++ map name_place (repeated like_named [] (defines r))))
    (not_true (list_any (among (full_names rs)) (packages f)) parts.0)
    ∙ ap (λ ps. ps ++ map name_place (repeated like_named [] (defines r)))
    (none_placed (λ d. among taken (full_name d)) name_place (defines r) (none_taken taken (defines r) inner.0))
    ∙ ap (map name_place) (not_repeated [] (defines r) (nothing_in (repeated bytes_eq [] (map full_name (defines r))) inner.1))

-- ---- 6: numbers

abbrev pub open_range : ExtensionRange → Range
open_range r = record { start = signed_or_zero r.start; «end» = r.«end» }

abbrev pub open_reserved : ReservedRange → Range
open_reserved r = record { start = signed_or_zero r.start; «end» = r.«end» }

abbrev numbers_by : Part Layer → Layer → List Place
numbers_by q l =
    let ps : List (Part FieldDescriptorProto) = parts (qualified q.scope (text_or_empty l.name)) q.place 2 l.field in
    places_where
    (λ (p : Part FieldDescriptorProto). not (is_field_number p.item.number) || in_ranges
    (map open_range l.extension_range ++ map open_reserved l.reserved_range) p.item.number)
    (λ p. at p 3) ps
    ++ map (λ (p : Part FieldDescriptorProto). at p 3) (repeated like_numbered [] ps)
    ++ places_where (λ (p : Part FieldDescriptorProto). among l.reserved_name (text_or_empty p.item.name)) (λ p. at p 1) ps

abbrev pub numbers_in : Part Layer → List Place
numbers_in q = numbers_by q q.item

abbrev pub misnumbered : File → List Place
misnumbered r = flat_map numbers_in (open_messages r)

pub numbers_open : (r : File) → bad_field_numbers (file_record r) ≡ misnumbered r
numbers_open r = told_of bad_numbers_in numbers_in (λ q. ap (numbers_by q) (out-roll-DescriptorProto q.item)) r

pub no_extension_numbers : (files seen : List FileDescriptorProto) (r : File) → bad_extension_numbers files seen (file_record r) ≡ []
unfolding repeated
no_extension_numbers files seen r =
    ap (λ xs. places_by (is_unfit seen) 3 xs ++ places_by (has_taken_number files seen) 3 xs ++ extended_again seen xs) (no_extensions r)

-- ---- 7: names of types

abbrev pub is_unbound : List File → Part FieldDescriptorProto → Bool
is_unbound rs p = is_bad_type_name p.item.type_name (open_bound rs p.scope p.item.type_name) p.item.kind

-- the fields of a file have types among these files, and no extendees
abbrev pub types_kept : List File → List (Part FieldDescriptorProto) → Bool
types_kept rs ps = list_all (λ p. not (is_unbound rs p)) ps && list_all (λ (p : Part FieldDescriptorProto). is_none p.item.extendee) ps

unextending : (seen : List FileDescriptorProto) (ps : List (Part FieldDescriptorProto))
    → list_all (λ (p : Part FieldDescriptorProto). is_none p.item.extendee) ps ≡ true
    → list_all (λ (p : Part FieldDescriptorProto). not (has_bad_extendee seen p.scope p.item)) ps ≡ true
unextending seen [] h = refl
unextending seen (p ∷ ps) h =
    let parts = both (is_none p.item.extendee) (list_all (λ (p : Part FieldDescriptorProto). is_none p.item.extendee) ps) h in
    at p.item.extendee refl parts.0 (unextending seen ps parts.1)
  where
    at : (o : Option (List ℕ)) → p.item.extendee ≡ o → is_none o ≡ true
        → list_all (λ (p : Part FieldDescriptorProto). not (has_bad_extendee seen p.scope p.item)) ps ≡ true
        → list_all (λ (p : Part FieldDescriptorProto). not (has_bad_extendee seen p.scope p.item)) (p ∷ ps) ≡ true
    at None e n more = rw (e, more) refl
    at (Some x) e n more = cc

pub types_are_kept : (sr : List File) (r : File) → types_kept sr (all_fields_of r) ≡ true → unbound_names (map file_record sr) (file_record r) ≡ []
types_are_kept sr r h =
    let seen = map file_record sr in
    let tests = both (list_all (λ p. not (is_unbound sr p)) (all_fields_of r))
    (list_all (λ (p : Part FieldDescriptorProto). is_none p.item.extendee) (all_fields_of r)) h in
    ap (λ ps. (places_by (has_bad_type_name seen) 6 ps ++ places_by (has_bad_extendee seen) 2 ps)
    ++ (places_by (has_bad_type_name seen) 6 (extensions (file_record r)) ++ places_by (has_no_extendee seen) 2 (extensions (file_record r))) ++ [])
    (fields_are r)
    ∙ ap (λ xs. (places_by (has_bad_type_name seen) 6 (all_fields_of r) ++ places_by (has_bad_extendee seen) 2 (all_fields_of r))
    ++ (places_by (has_bad_type_name seen) 6 xs ++ places_by (has_no_extendee seen) 2 xs) ++ [])
    (no_extensions r)
    ∙ ap (λ (xs : List Place). (xs ++ places_by (has_bad_extendee seen) 2 (all_fields_of r)) ++ [] ++ [])
    (none_by (λ (p : Part FieldDescriptorProto). has_bad_type_name seen p.scope p.item) (is_unbound sr) (λ p. at p 6)
    (λ p. ap (λ b. is_bad_type_name p.item.type_name b p.item.kind) (bound_open sr p.scope p.item.type_name)) (all_fields_of r) tests.0)
    ∙ ap (λ (xs : List Place). xs ++ [] ++ [])
    (none_placed (λ (p : Part FieldDescriptorProto). has_bad_extendee seen p.scope p.item) (λ p. at p 2) (all_fields_of r)
    (unextending seen (all_fields_of r) tests.1))

-- ---- 8 and 13: types and labels

pub field_types_open : (r : File) → bad_types (file_record r) ≡ bad_types_among (all_fields_of r ++ [])
field_types_open r =
    ap (λ ps. bad_types_among (ps ++ extensions (file_record r))) (fields_are r) ∙ ap (λ xs. bad_types_among (all_fields_of r ++ xs)) (no_extensions r)

pub labels_open : (r : File) → bad_labels (file_record r) ≡ bad_labels_among (is_proto3 (file_record r)) (all_fields_of r) ++ []
labels_open r =
    ap (λ ps. bad_labels_among (is_proto3 (file_record r)) ps ++ bad_labels_among true (extensions (file_record r))) (fields_are r)
    ∙ ap (λ xs. bad_labels_among (is_proto3 (file_record r)) (all_fields_of r) ++ bad_labels_among true xs) (no_extensions r)

-- ---- 9: oneofs

-- an index, if there is one, is below the number of oneofs
abbrev pub is_index : ℕ → Option ℤ → Bool
is_index n None = true
is_index n (Some i) = is_below i n

index_open : (q : Part Layer) (i : Option ℤ) → has_oneof (shut q) i ≡ is_index (length q.item.oneof_decl) i
index_open q None = refl
index_open q (Some i) = ap (λ (l : Layer). is_below i (length l.oneof_decl)) (out-roll-DescriptorProto q.item)

abbrev bad_member_by : Bool → Bool → List (Part FieldDescriptorProto) → Part FieldDescriptorProto → Bool
bad_member_by proto3 fits ps p =
    not fits || (is_some p.item.oneof_index && not (is_optional p.item))
    || (is_set p.item.proto3_optional
    && (not proto3 || not (length (filter (λ (o : Part FieldDescriptorProto). are_equal o.item.oneof_index p.item.oneof_index) ps) == 1)))

abbrev empty_by : Part Layer → Layer → List Place
empty_by q l =
    places_where
    (λ (o : Part OneofDescriptorProto). length
    (filter (λ (p : Part FieldDescriptorProto). is_number p.item.oneof_index o.index)
    (parts (qualified q.scope (text_or_empty l.name)) q.place 2 l.field)) == 0)
    (λ o. o.place) (parts (qualified q.scope (text_or_empty l.name)) q.place 8 l.oneof_decl)

abbrev members_by : Bool → Part Layer → Layer → List Place
members_by proto3 q l =
    let ps : List (Part FieldDescriptorProto) = parts (qualified q.scope (text_or_empty l.name)) q.place 2 l.field in
    places_where (λ p. bad_member_by proto3 (is_index (length q.item.oneof_decl) p.item.oneof_index) ps p) (λ p. p.place) ps

abbrev pub oneofs_in_open : Bool → Part Layer → List Place
oneofs_in_open proto3 q = members_by proto3 q q.item ++ empty_by q q.item

same_places : {X : Type 0} (P Q : X → Bool) (place : X → Place) → ((x : X) → P x ≡ Q x) → (xs : List X) → places_where P place xs ≡ places_where Q place xs
same_places P Q place e [] = refl
same_places P Q place e (x ∷ xs) =
    ap (λ b. map place (cond b (x ∷ filter P xs) (filter P xs))) (e x) ∙ at (Q x) (same_places P Q place e xs)
  where
    at : (b : Bool) → places_where P place xs ≡ places_where Q place xs
        → map place (cond b (x ∷ filter P xs) (filter P xs)) ≡ map place (cond b (x ∷ filter Q xs) (filter Q xs))
    at true h = ap (λ ps. place x ∷ ps) h
    at false h = h

oneofs_shut : (r : File) (q : Part Layer) → bad_oneofs_in (file_record r) (shut q) ≡ oneofs_in_open (is_proto3 (file_record r)) q
oneofs_shut r q =
    let proto3 = is_proto3 (file_record r) in
    ap (λ (ps : List Place). ps ++ empty_by q (out-DescriptorProto (roll-DescriptorProto q.item)))
    (same_places (bad_member (file_record r) (shut q))
    (λ p. bad_member_by proto3 (is_index (length q.item.oneof_decl) p.item.oneof_index) (fields_in (shut q)) p) (λ p. p.place)
    (λ p. ap (λ b. bad_member_by proto3 b (fields_in (shut q)) p) (index_open q p.item.oneof_index)) (fields_in (shut q)))
    ∙ ap (λ (l : Layer). members_by proto3 q l ++ empty_by q l) (out-roll-DescriptorProto q.item)

abbrev pub unfit_oneofs : File → List Place
unfit_oneofs r = flat_map (oneofs_in_open (is_proto3 (file_record r))) (open_messages r)

pub oneofs_are : (r : File) → bad_oneofs (file_record r) ≡ unfit_oneofs r ++ []
oneofs_are r =
    let proto3 = is_proto3 (file_record r) in
    ap (λ (ps : List Place). ps ++ places_where (λ (p : Part FieldDescriptorProto). is_bad_extension proto3 p.item) (λ p. p.place)
    (extensions (file_record r)))
    (told_of (bad_oneofs_in (file_record r)) (oneofs_in_open proto3) (oneofs_shut r) r)
    ∙ ap (λ xs. unfit_oneofs r ++ places_where (λ (p : Part FieldDescriptorProto). is_bad_extension proto3 p.item) (λ p. p.place) xs) (no_extensions r)

-- ---- 10: enums

abbrev pub unfit_enums : File → List Place
unfit_enums r = flat_map (bad_enum (is_proto3 (file_record r))) (all_enums_of r)

pub enums_kept : (r : File) → bad_enums (file_record r) ≡ unfit_enums r
enums_kept r = ap (flat_map (bad_enum (is_proto3 (file_record r)))) (enums_are r)

-- ---- 11: defaults

-- a default is one of the type; the type is looked up where there is a default
abbrev pub default_by : Bool → List File → Part FieldDescriptorProto → Option (List ℕ) → Bool
default_by proto3 rs p None = false
default_by proto3 rs p (Some text) = proto3 || is_repeated p.item || not (is_default_of (open_bound rs p.scope p.item.type_name) p.item.kind text)

abbrev pub is_unfit_default : Bool → List File → Part FieldDescriptorProto → Bool
is_unfit_default proto3 rs p = default_by proto3 rs p p.item.default_value

default_open : (proto3 : Bool) (rs : List File) (p : Part FieldDescriptorProto)
    → has_bad_default proto3 (map file_record rs) p.scope p.item ≡ is_unfit_default proto3 rs p
default_open proto3 rs p =
    ap (λ b. is_some p.item.default_value
    && (proto3 || is_repeated p.item || not (is_default_of b p.item.kind (text_or_empty p.item.default_value)))) (bound_open rs p.scope p.item.type_name)
    ∙ at p.item.default_value
  where
    at : (o : Option (List ℕ))
        → (is_some o && (proto3 || is_repeated p.item || not (is_default_of (open_bound rs p.scope p.item.type_name) p.item.kind (text_or_empty o))))
        ≡ default_by proto3 rs p o
    at None = refl
    at (Some text) = refl

abbrev pub defaults_kept : List File → File → Bool
defaults_kept rs r = list_all (λ p. not (is_unfit_default (is_proto3 (file_record r)) rs p)) (all_fields_of r)

pub defaults_are_kept : (rs : List File) (r : File) → defaults_kept rs r ≡ true → bad_defaults (map file_record rs) (file_record r) ≡ []
defaults_are_kept rs r h =
    let proto3 = is_proto3 (file_record r) in
    ap (λ ps. places_by (has_bad_default proto3 (map file_record rs)) 7 ps ++ places_by (has_bad_default proto3 (map file_record rs)) 7
    (extensions (file_record r))) (fields_are r)
    ∙ ap (λ xs. places_by (has_bad_default proto3 (map file_record rs)) 7 (all_fields_of r) ++ places_by
    (has_bad_default proto3 (map file_record rs)) 7 xs) (no_extensions r)
    ∙ ap (λ (ps : List Place). ps ++ [])
    (none_by (λ (p : Part FieldDescriptorProto). has_bad_default proto3 (map file_record rs) p.scope p.item) (is_unfit_default proto3 rs)
    (λ p. at p 7) (default_open proto3 rs) (all_fields_of r) h)

-- ---- 12: maps

-- the messages that no other holds
tops_at : (scope : List ℕ) (k : ℕ) (ts : List Top)
    → map (λ x. part scope [] 4 x.0 x.1) (enumerate_from k (map top_record ts)) ≡ map shut (map (λ t. open_own scope t.0 t.1) (enumerate_from k ts))
tops_at scope k [] = refl
tops_at scope k (t ∷ ts) = ap (λ ps. part scope [] 4 k (top_record t) ∷ ps) (tops_at scope (k + 1) ts)

abbrev pub open_tops : File → List (Part Layer)
open_tops r = map (λ t. open_own r.«package» t.0 t.1) (enumerate_from 0 r.messages)

tops_are : (r : File) → top_messages (file_record r) ≡ map shut (open_tops r)
tops_are r = tops_at r.«package» 0 r.messages

-- tests of messages, by what their records hold
none_shut : (P : Part DescriptorProto → Bool) (Q : Part Layer → Bool) (place : Part DescriptorProto → Place) → ((q : Part Layer) → P (shut q) ≡ Q q)
    → (qs : List (Part Layer)) → list_all (λ q. not (Q q)) qs ≡ true → places_where P place (map shut qs) ≡ []
none_shut P Q place e [] h = refl
none_shut P Q place e (q ∷ qs) h =
    let tests = both (not (Q q)) (list_all (λ q. not (Q q)) qs) h in
    at (Q q) refl tests.0 (none_shut P Q place e qs tests.1)
  where
    at : (b : Bool) → Q q ≡ b → not (Q q) ≡ true → places_where P place (map shut qs) ≡ [] → places_where P place (map shut (q ∷ qs)) ≡ []
    at true is n rest = absurd (let none : not (Q q) ≡ false = ap not is in cc)
    at false is n rest = rw (e q ∙ is) rest

abbrev is_entry_layer : Layer → Bool
is_entry_layer l = is_set (option_bool 7 l.options)

abbrev is_bad_layer : Layer → Bool
is_bad_layer l =
    is_entry_layer l && not (are_entry_fields l.field && is_empty l.oneof_decl && is_empty l.nested_type && is_empty l.enum_type
    && is_empty l.extension_range && is_empty l.reserved_range)

-- no message at the top is an entry, and every entry has its form
abbrev pub entries_kept : File → Bool
entries_kept r =
    list_all (λ (q : Part Layer). not (is_entry_layer q.item)) (open_tops r) && list_all (λ (q : Part Layer). not (is_bad_layer q.item)) (open_messages r)

entries_are_kept : (r : File) → entries_kept r ≡ true → bad_entries (file_record r) ≡ []
entries_are_kept r h =
    let tests = both (list_all (λ (q : Part Layer). not (is_entry_layer q.item)) (open_tops r))
    (list_all (λ (q : Part Layer). not (is_bad_layer q.item)) (open_messages r)) h in
    ap (λ ms. places_where (λ (m : Part DescriptorProto). is_entry m.item) (λ m. m.place) ms
    ++ places_where (λ (m : Part DescriptorProto). is_bad_entry m.item) (λ m. m.place) (messages (file_record r)))
    (tops_are r)
    ∙ ap (λ ms. places_where (λ (m : Part DescriptorProto). is_entry m.item) (λ m. m.place) (map shut (open_tops r))
    ++ places_where (λ (m : Part DescriptorProto). is_bad_entry m.item) (λ m. m.place) ms)
    (messages_shut r)
    ∙ ap (λ (ps : List Place). ps ++ places_where (λ (m : Part DescriptorProto). is_bad_entry m.item) (λ m. m.place) (map shut (open_messages r)))
    (none_shut (λ m. is_entry m.item) (λ q. is_entry_layer q.item) (λ m. m.place) (λ q. ap is_entry_layer (out-roll-DescriptorProto q.item))
    (open_tops r) tests.0)
    ∙ none_shut (λ m. is_bad_entry m.item) (λ q. is_bad_layer q.item) (λ m. m.place) (λ q. ap is_bad_layer (out-roll-DescriptorProto q.item))
    (open_messages r) tests.1

-- a field of an entry type is repeated, of the message that holds the entry, and the only one of the type there
abbrev pub entry_field_by : Bool → List File → List FieldDescriptorProto → Part FieldDescriptorProto → Bool
entry_field_by false rs xs p = false
entry_field_by true rs xs p =
    not (is_repeated p.item) || not (is_held_in p.scope (open_bound rs p.scope p.item.type_name))
    || nat_lt 1 (length (filter (λ (y : FieldDescriptorProto). same_text (full_of rs p.scope p.item.type_name) (full_of rs p.scope y.type_name)) xs))

abbrev pub is_unfit_entry_field : List File → List FieldDescriptorProto → Part FieldDescriptorProto → Bool
is_unfit_entry_field rs xs p = entry_field_by (has_entry rs p.scope p.item.type_name) rs xs p

same_lengths : {X : Type 0} (P Q : X → Bool) → ((x : X) → P x ≡ Q x) → (xs : List X) → length (filter P xs) ≡ length (filter Q xs)
same_lengths P Q e [] = refl
same_lengths P Q e (x ∷ xs) = ap (λ b. length (cond b (x ∷ filter P xs) (filter P xs))) (e x) ∙ at (Q x) (same_lengths P Q e xs)
  where
    at : (b : Bool) → length (filter P xs) ≡ length (filter Q xs)
        → length (cond b (x ∷ filter P xs) (filter P xs)) ≡ length (cond b (x ∷ filter Q xs) (filter Q xs))
    at true h = ap suc h
    at false h = h

abbrev field_rest : FieldDescriptorProto → List ℕ → Option Bound → ℕ → Bool
field_rest x scope b n = not (is_repeated x) || not (is_held_in scope b) || nat_lt 1 n

abbrev count_open : List File → List FieldDescriptorProto → List ℕ → FieldDescriptorProto → ℕ
count_open rs xs scope x = length (filter (λ (y : FieldDescriptorProto). same_text (full_of rs scope x.type_name) (full_of rs scope y.type_name)) xs)

count_is : (rs : List File) (xs : List FieldDescriptorProto) (scope : List ℕ) (x : FieldDescriptorProto)
    → fields_of_type (map file_record rs) scope xs x ≡ count_open rs xs scope x
count_is rs xs scope x =
    same_lengths (λ (y : FieldDescriptorProto). same_type (type_in (map file_record rs) scope x) (type_in (map file_record rs) scope y))
    (λ (y : FieldDescriptorProto). same_text (full_of rs scope x.type_name) (full_of rs scope y.type_name))
    (λ y. ap (λ n. same_text n (full_name_of (type_in (map file_record rs) scope y))) (full_is rs scope x.type_name)
    ∙ ap (λ n. same_text (full_of rs scope x.type_name) n) (full_is rs scope y.type_name)) xs

entry_field_open : (rs : List File) (xs : List FieldDescriptorProto) (p : Part FieldDescriptorProto)
    → is_bad_map_field (map file_record rs) xs p.scope p.item ≡ is_unfit_entry_field rs xs p
entry_field_open rs xs p =
    ap (λ b. b && field_rest p.item p.scope (type_in (map file_record rs) p.scope p.item) (fields_of_type (map file_record rs) p.scope xs p.item))
    (entry_is rs p.scope p.item.type_name)
    ∙ ap (λ b. has_entry rs p.scope p.item.type_name && field_rest p.item p.scope b (fields_of_type (map file_record rs) p.scope xs p.item))
    (bound_open rs p.scope p.item.type_name)
    ∙ ap (λ n. has_entry rs p.scope p.item.type_name && field_rest p.item p.scope (open_bound rs p.scope p.item.type_name) n)
    (count_is rs xs p.scope p.item)
    ∙ at (has_entry rs p.scope p.item.type_name)
  where
    at : (b : Bool)
        → (b && field_rest p.item p.scope (open_bound rs p.scope p.item.type_name) (count_open rs xs p.scope p.item)) ≡ entry_field_by b rs xs p
    at true = refl
    at false = refl

abbrev fields_by : Part Layer → Layer → List (Part FieldDescriptorProto)
fields_by q l = parts (qualified q.scope (text_or_empty l.name)) q.place 2 l.field

abbrev map_fields_by : List FileDescriptorProto → Part Layer → Layer → List Place
map_fields_by seen q l = places_where (λ (p : Part FieldDescriptorProto). is_bad_map_field seen l.field p.scope p.item) (λ p. p.place) (fields_by q l)

-- of the fields of a message
abbrev pub map_fields_kept : List File → Part Layer → Bool
map_fields_kept rs q = list_all (λ p. not (is_unfit_entry_field rs q.item.field p)) (fields_by q q.item)

map_fields_none : (rs : List File) (qs : List (Part Layer)) → list_all (map_fields_kept rs) qs ≡ true
    → flat_map (bad_map_fields_in (map file_record rs)) (map shut qs) ≡ []
map_fields_none rs [] h = refl
map_fields_none rs (q ∷ qs) h =
    let tests = both (map_fields_kept rs q) (list_all (map_fields_kept rs) qs) h in
    ap (λ (ps : List Place). ps ++ flat_map (bad_map_fields_in (map file_record rs)) (map shut qs))
    (ap (map_fields_by (map file_record rs) q) (out-roll-DescriptorProto q.item)
    ∙ none_by (λ (p : Part FieldDescriptorProto). is_bad_map_field (map file_record rs) q.item.field p.scope p.item)
    (is_unfit_entry_field rs q.item.field) (λ p. p.place)
    (entry_field_open rs q.item.field) (fields_by q q.item) tests.0)
    ∙ map_fields_none rs qs tests.1

abbrev pub maps_kept : List File → File → Bool
maps_kept rs r = entries_kept r && list_all (map_fields_kept rs) (open_messages r)

pub maps_are_kept : (rs : List File) (r : File) → maps_kept rs r ≡ true → bad_maps (map file_record rs) (file_record r) ≡ []
maps_are_kept rs r h =
    let seen = map file_record rs in
    let tests = both (entries_kept r) (list_all (map_fields_kept rs) (open_messages r)) h in
    ap (λ (ps : List Place). ps ++ bad_map_fields seen (file_record r)) (entries_are_kept r tests.0)
    ∙ ap (λ ms. flat_map (bad_map_fields_in seen) ms ++ of_entry_types seen (extensions (file_record r))) (messages_shut r)
    ∙ ap (λ (ps : List Place). ps ++ of_entry_types seen (extensions (file_record r))) (map_fields_none rs (open_messages r) tests.1)
    ∙ ap (of_entry_types seen) (no_extensions r)

-- ---- 14 and 15: options

-- none of the options is an uninterpreted one
abbrev pub is_interpreted : Option Options → Bool
is_interpreted None = true
is_interpreted (Some o) = list_all (λ r. not (number_of r == 999)) o.recs

without : (n : ℕ) (rs : List Rec) → list_all (λ r. not (number_of r == n)) rs ≡ true → has_record n rs ≡ false
without n [] h = refl
without n (r ∷ rs) h =
    let tests = both (not (number_of r == n)) (list_all (λ r. not (number_of r == n)) rs) h in
    rw (not_true (number_of r == n) tests.0, without n rs tests.1) (at (is_numbered r))
  where
    at : (b : Bool) → ((b && false) || false) ≡ false
    at true = refl
    at false = refl

interpreted : (o : Option Options) → is_interpreted o ≡ true → is_uninterpreted o ≡ false
interpreted None h = refl
interpreted (Some o) h = without 999 o.recs h

not_placed : (o : Option Options) (place : Place) → is_interpreted o ≡ true → place_if (is_uninterpreted o) place ≡ []
not_placed o place h = ap (λ b. place_if b place) (interpreted o h)

all_interpreted : {X : Type 0} (options : X → Option Options) (ps : List (Part X)) → list_all (λ (p : Part X). is_interpreted (options p.item)) ps ≡ true
    → list_all (λ (p : Part X). not (is_uninterpreted (options p.item))) ps ≡ true
all_interpreted options [] h = refl
all_interpreted {X} options (p ∷ ps) h =
    let tests = both (is_interpreted (options p.item)) (list_all (λ (p : Part X). is_interpreted (options p.item)) ps) h in
    rw (interpreted (options p.item) tests.0, all_interpreted options ps tests.1) refl

none_left : {X : Type 0} (options : X → Option Options) (n : ℕ) (ps : List (Part X)) → list_all (λ (p : Part X). is_interpreted (options p.item)) ps ≡ true
    → uninterpreted options n ps ≡ []
none_left {X} options n ps h = none_placed (λ (p : Part X). is_uninterpreted (options p.item)) (λ p. at p n) ps (all_interpreted options ps h)

-- nothing is told of those that pass a test
none_told : {A : Type 0} (g : A → List Place) (t : A → Bool) → ((x : A) → t x ≡ true → g x ≡ []) → (xs : List A) → list_all t xs ≡ true
    → flat_map g xs ≡ []
none_told g t e [] h = refl
none_told g t e (x ∷ xs) h =
    let tests = both (t x) (list_all t xs) h in ap (λ (ps : List Place). ps ++ flat_map g xs) (e x tests.0) ∙ none_told g t e xs tests.1

four_none : (a b c d : List Place) → a ≡ [] → b ≡ [] → c ≡ [] → d ≡ [] → a ++ b ++ c ++ d ≡ []
four_none a b c d ha hb hc hd = rw (ha, hb, hc, hd) refl

two_none : (a b : List Place) → a ≡ [] → b ≡ [] → a ++ b ≡ []
two_none a b ha hb = rw (ha, hb) refl

-- of a message, and of its fields, extension ranges and oneofs
abbrev pub message_interpreted : Part Layer → Bool
message_interpreted q =
    is_interpreted q.item.options
    && (list_all (λ (p : Part FieldDescriptorProto). is_interpreted p.item.options) (fields_by q q.item)
    && (list_all (λ (p : Part ExtensionRange). is_interpreted p.item.options) (parts [] q.place 5 q.item.extension_range)
    && list_all (λ (p : Part OneofDescriptorProto). is_interpreted p.item.options)
    (parts (qualified q.scope (text_or_empty q.item.name)) q.place 8 q.item.oneof_decl)))

abbrev uninterpreted_by : Part Layer → Layer → List Place
uninterpreted_by q l =
    place_if (is_uninterpreted l.options) (q.place ++ pos 7 ∷ [])
    ++ uninterpreted (λ (x : FieldDescriptorProto). x.options) 8 (fields_by q l)
    ++ uninterpreted (λ (r : ExtensionRange). r.options) 3 (parts [] q.place 5 l.extension_range)
    ++ uninterpreted (λ (o : OneofDescriptorProto). o.options) 2 (parts (qualified q.scope (text_or_empty l.name)) q.place 8 l.oneof_decl)

abbrev open_uninterpreted : Part Layer → List Place
open_uninterpreted q = uninterpreted_by q q.item

message_left : (q : Part Layer) → message_interpreted q ≡ true → open_uninterpreted q ≡ []
message_left q h =
    let one = both (is_interpreted q.item.options) _ h in
    let two = both (list_all (λ (p : Part FieldDescriptorProto). is_interpreted p.item.options) (fields_by q q.item)) _ one.1 in
    let three = both (list_all (λ (p : Part ExtensionRange). is_interpreted p.item.options) (parts [] q.place 5 q.item.extension_range)) _ two.1 in
    four_none _ _ _ _
    (not_placed q.item.options (q.place ++ pos 7 ∷ []) one.0)
    (none_left (λ (x : FieldDescriptorProto). x.options) 8 (fields_by q q.item) two.0)
    (none_left (λ (r : ExtensionRange). r.options) 3 (parts [] q.place 5 q.item.extension_range) three.0)
    (none_left (λ (o : OneofDescriptorProto). o.options) 2 (parts (qualified q.scope (text_or_empty q.item.name)) q.place 8 q.item.oneof_decl) three.1)

-- of an enum and its values
abbrev pub enum_interpreted : Part EnumDescriptorProto → Bool
enum_interpreted e = is_interpreted e.item.options && list_all (λ (p : Part EnumValueDescriptorProto). is_interpreted p.item.options) (values_in e)

enum_left : (e : Part EnumDescriptorProto) → enum_interpreted e ≡ true → uninterpreted_in_enum e ≡ []
enum_left e h =
    let tests = both (is_interpreted e.item.options) (list_all (λ (p : Part EnumValueDescriptorProto). is_interpreted p.item.options) (values_in e)) h in
    two_none _ _ (not_placed e.item.options (at e 3) tests.0) (none_left (λ (v : EnumValueDescriptorProto). v.options) 3 (values_in e) tests.1)

abbrev pub options_kept : File → Bool
options_kept r = is_interpreted (file_record r).options && (list_all message_interpreted (open_messages r) && list_all enum_interpreted (all_enums_of r))

pub options_are_kept : (r : File) → options_kept r ≡ true → uninterpreted_options (file_record r) ≡ []
options_are_kept r h =
    let f = file_record r in
    let one = both (is_interpreted f.options) (list_all message_interpreted (open_messages r) && list_all enum_interpreted (all_enums_of r)) h in
    let two = both (list_all message_interpreted (open_messages r)) (list_all enum_interpreted (all_enums_of r)) one.1 in
    ap (λ (ps : List Place). place_if (is_uninterpreted f.options) (pos 8 ∷ []) ++ ps ++ uninterpreted (λ (x : FieldDescriptorProto). x.options) 8
    (extensions f)
    ++ flat_map uninterpreted_in_enum (enums f) ++ [])
    (told_of uninterpreted_in_message open_uninterpreted (λ q. ap (uninterpreted_by q) (out-roll-DescriptorProto q.item)) r
    ∙ none_told open_uninterpreted message_interpreted message_left (open_messages r) two.0)
    ∙ ap (λ xs. place_if (is_uninterpreted f.options) (pos 8 ∷ []) ++ [] ++ uninterpreted (λ (x : FieldDescriptorProto). x.options) 8 xs
    ++ flat_map uninterpreted_in_enum (enums f) ++ [])
    (no_extensions r)
    ∙ ap (λ es. place_if (is_uninterpreted f.options) (pos 8 ∷ []) ++ [] ++ [] ++ flat_map uninterpreted_in_enum es ++ []) (enums_are r)
    ∙ ap (λ (ps : List Place). ps ++ [] ++ [] ++ flat_map uninterpreted_in_enum (all_enums_of r) ++ []) (not_placed f.options (pos 8 ∷ []) one.0)
    ∙ ap (λ (ps : List Place). ps ++ []) (none_told uninterpreted_in_enum enum_interpreted enum_left (all_enums_of r) two.1)

abbrev pub sets_kept : File → Bool
sets_kept r = list_all (λ (q : Part Layer). not (has_option 1 q.item.options)) (open_messages r)

pub sets_are_kept : (r : File) → sets_kept r ≡ true → message_sets (file_record r) ≡ []
sets_are_kept r h =
    ap (λ ms. places_where is_message_set (λ m. at m 7) ms) (messages_shut r)
    ∙ none_shut is_message_set (λ q. has_option 1 q.item.options) (λ m. at m 7)
    (λ q. ap (λ (l : Layer). has_option 1 l.options) (out-roll-DescriptorProto q.item)) (open_messages r) h

-- ---- 16: ranges

abbrev extension_parts : Part Layer → Layer → List (Part Range)
extension_parts q l = parts [] q.place 5 (map open_range l.extension_range)

abbrev ranges_by : Bool → Part Layer → Layer → List Place
ranges_by proto3 q l =
    bad_ranges_of is_bad_range (extension_parts q l ++ parts [] q.place 9 (map open_reserved l.reserved_range))
    ++ cond proto3 (map (λ (r : Part Range). r.place) (extension_parts q l)) []

abbrev pub open_ranges : Bool → Part Layer → List Place
open_ranges proto3 q = ranges_by proto3 q q.item

abbrev pub unfit_ranges : File → List Place
unfit_ranges r = flat_map (open_ranges (is_proto3 (file_record r))) (open_messages r) ++ flat_map bad_enum_ranges (all_enums_of r)

pub ranges_open : (r : File) → bad_ranges (file_record r) ≡ unfit_ranges r
ranges_open r =
    let proto3 = is_proto3 (file_record r) in
    ap (λ (ps : List Place). ps ++ flat_map bad_enum_ranges (enums (file_record r)))
    (told_of (bad_message_ranges proto3) (open_ranges proto3) (λ q. ap (ranges_by proto3 q) (out-roll-DescriptorProto q.item)) r)
    ∙ ap (λ es. flat_map (open_ranges proto3) (open_messages r) ++ flat_map bad_enum_ranges es) (enums_are r)

-- ---- all rules

-- a file of a row breaks no rule, by tests of the rows of the earlier files, of those that it sees, and of its own
pub record RowKeeps (rs sr : List File) (r : File) : Type 0 where
  pub sees : visible (map file_record rs) (file_record r) ≡ map file_record sr
  pub once : is_empty (file_twice (map file_record rs) (file_record r)) ≡ true
  pub imports : is_empty (missing_imports (map file_record rs) (file_record r)) ≡ true
  pub syntax : is_empty (unknown_syntax (file_record r)) ≡ true
  pub idents : is_empty (misnamed r) ≡ true
  pub names : names_kept rs r ≡ true
  pub numbers : is_empty (misnumbered r) ≡ true
  pub types : types_kept sr (all_fields_of r) ≡ true
  pub kinds : is_empty (bad_types_among (all_fields_of r ++ [])) ≡ true
  pub oneofs : is_empty (unfit_oneofs r ++ []) ≡ true
  pub enums : is_empty (unfit_enums r) ≡ true
  pub defaults : defaults_kept sr r ≡ true
  pub maps : maps_kept sr r ≡ true
  pub labels : is_empty (bad_labels_among (is_proto3 (file_record r)) (all_fields_of r) ++ []) ≡ true
  pub options : options_kept r ≡ true
  pub sets : sets_kept r ≡ true
  pub ranges : is_empty (unfit_ranges r) ≡ true

all_empty : (b1 b2 b3 b4 b5 b6 b7 b8 b9 b10 b11 b12 b13 b14 b15 b16 : List Place) → b1 ≡ [] → b2 ≡ [] → b3 ≡ [] → b4 ≡ [] → b5 ≡ [] → b6 ≡ [] → b7 ≡ []
    → b8 ≡ []
    → b9 ≡ [] → b10 ≡ [] → b11 ≡ [] → b12 ≡ [] → b13 ≡ [] → b14 ≡ [] → b15 ≡ [] → b16 ≡ []
    → list_all is_empty (b1 ∷ b2 ∷ b3 ∷ b4 ∷ b5 ∷ b6 ∷ b7 ∷ b8 ∷ b9 ∷ b10 ∷ b11 ∷ b12 ∷ b13 ∷ b14 ∷ b15 ∷ b16 ∷ []) ≡ true
all_empty b1 b2 b3 b4 b5 b6 b7 b8 b9 b10 b11 b12 b13 b14 b15 b16 h1 h2 h3 h4 h5 h6 h7 h8 h9 h10 h11 h12 h13 h14 h15 h16 =
    rw (h1, h2, h3, h4, h5, h6, h7, h8, h9, h10, h11, h12, h13, h14, h15, h16) refl

numbers_are_kept : (files seen : List FileDescriptorProto) (r : File) → is_empty (misnumbered r) ≡ true → bad_numbers files seen (file_record r) ≡ []
numbers_are_kept files seen r h =
    ap (λ (ps : List Place). ps ++ bad_extension_numbers files seen (file_record r)) (numbers_open r ∙ nothing_in (misnumbered r) h)
    ∙ no_extension_numbers files seen r

pub row_is_kept : (rs sr : List File) (r : File) → RowKeeps rs sr r → keeps_rules (map file_record rs) (file_record r) ≡ true
unfolding keeps_rules
row_is_kept rs sr r k =
    let f = file_record r in
    let files = map file_record rs in
    let proto3 = is_proto3 f in
    ap (λ (seen : List FileDescriptorProto). list_all is_empty (all_breaches files seen f)) k.sees
    ∙ all_empty (file_twice files f) (missing_imports files f) (unknown_syntax f) (bad_names f) (names_twice files f)
    (bad_numbers files (map file_record sr) f)
    (unbound_names (map file_record sr) f) (bad_types f) (bad_oneofs f) (bad_enums f) (bad_defaults (map file_record sr) f)
    (bad_maps (map file_record sr) f)
    (bad_labels f) (uninterpreted_options f) (message_sets f) (bad_ranges f)
    (nothing_in (file_twice files f) k.once)
    (nothing_in (missing_imports files f) k.imports)
    (nothing_in (unknown_syntax f) k.syntax)
    (names_open r ∙ nothing_in (misnamed r) k.idents)
    (names_are_kept rs r k.names)
    (numbers_are_kept files (map file_record sr) r k.numbers)
    (types_are_kept sr r k.types)
    (field_types_open r ∙ nothing_in (bad_types_among (all_fields_of r ++ [])) k.kinds)
    (oneofs_are r ∙ nothing_in (unfit_oneofs r ++ []) k.oneofs)
    (enums_kept r ∙ nothing_in (unfit_enums r) k.enums)
    (defaults_are_kept sr r k.defaults)
    (maps_are_kept sr r k.maps)
    (labels_open r ∙ nothing_in (bad_labels_among proto3 (all_fields_of r) ++ []) k.labels)
    (options_are_kept r k.options)
    (sets_are_kept r k.sets)
    (ranges_open r ∙ nothing_in (unfit_ranges r) k.ranges)
