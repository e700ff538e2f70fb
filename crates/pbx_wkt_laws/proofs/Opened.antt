-- The messages of a built-in file as parts whose records are open: what a message's record holds is told by its row, and needs no look into the record.
use Rattle.std.proofs.Common.{◌≡◌, ◌∙◌, ℕ, ◌+◌, List, [], ◌∷◌, ◌++◌, map, refl, ap, sym}
use Rattle.std.specs.List.{flat_map, enumerate_from}
use Rattle.std.proofs.lemmas.List.{map-append}
use Rattle.pbx_desc_records.specs.declared.enumeration.EnumDescriptorProto.{EnumDescriptorProto}
use Rattle.pbx_desc_records.specs.declared.field.FieldDescriptorProto.{FieldDescriptorProto}
use Rattle.pbx_desc_records.specs.declared.field.OneofDescriptorProto.{OneofDescriptorProto}
use Rattle.pbx_desc_records.specs.declared.message.DescriptorProto.{DescriptorProto, roll-DescriptorProto, out-roll-DescriptorProto}
use Rattle.pbx_desc_records.specs.declared.message.DescriptorProto.TheOpen.{DescriptorProto-F}
use Rattle.pbx_link_definitions.specs.declared.definitions.Sort.TheVariants.{Message as a_message, Field as a_field, Oneof as a_oneof}
use Rattle.pbx_link_definitions.specs.declared.definitions.Sort.TheVariants.{Extension as an_extension}
use Rattle.pbx_link_definitions.specs.Definitions.{Part, Defined, Place, part, parts, fields_in, enums_in}
use Rattle.pbx_link_definitions.specs.Definitions.{oneofs_in, messages_from, extensions_from, definitions_from, messages, fields, enums}
use Rattle.pbx_link_definitions.specs.Definitions.{extensions, definitions, before_nested, after_nested, defined, field_definition}
use Rattle.pbx_link_definitions.specs.Definitions.{enum_definitions}
use Rattle.pbx_link_definitions.specs.Names.{qualified, text_or_empty}
use Rattle.pbx_link_definitions.proofs.Told.{messages_from_at, extensions_from_at, definitions_from_at}
use Rattle.pbx_wkt_files.specs.Records.{Message, Top, File, message_layer, message_record, top_record, file_record}

-- what a message's record holds
abbrev pub Layer : Type 0
Layer = DescriptorProto-F DescriptorProto

-- the part with its record
abbrev pub shut : Part Layer → Part DescriptorProto
shut q = record { scope = q.scope; place = q.place; index = q.index; item = roll-DescriptorProto q.item }

-- ---- what a part holds

abbrev pub open_name : Part Layer → List ℕ
open_name q = qualified q.scope (text_or_empty q.item.name)

abbrev pub open_fields : Part Layer → List (Part FieldDescriptorProto)
open_fields q = parts (open_name q) q.place 2 q.item.field

abbrev pub open_enums : Part Layer → List (Part EnumDescriptorProto)
open_enums q = parts (open_name q) q.place 4 q.item.enum_type

abbrev pub open_oneofs : Part Layer → List (Part OneofDescriptorProto)
open_oneofs q = parts (open_name q) q.place 8 q.item.oneof_decl

pub fields_open : (q : Part Layer) → fields_in (shut q) ≡ open_fields q
fields_open q = ap (λ (l : Layer). parts (qualified q.scope (text_or_empty l.name)) q.place 2 l.field) (out-roll-DescriptorProto q.item)

pub enums_open : (q : Part Layer) → enums_in (shut q) ≡ open_enums q
enums_open q = ap (λ (l : Layer). parts (qualified q.scope (text_or_empty l.name)) q.place 4 l.enum_type) (out-roll-DescriptorProto q.item)

pub oneofs_open : (q : Part Layer) → oneofs_in (shut q) ≡ open_oneofs q
oneofs_open q = ap (λ (l : Layer). parts (qualified q.scope (text_or_empty l.name)) q.place 8 l.oneof_decl) (out-roll-DescriptorProto q.item)

-- ---- the messages of a file

-- those in a message
abbrev pub open_nested : List ℕ → Place → ℕ → List Message → List (Part Layer)
open_nested scope place k ms = map (λ x. part scope place 3 x.0 (message_layer x.1 [])) (enumerate_from k ms)

-- a message that no other holds
abbrev pub open_own : List ℕ → ℕ → Top → Part Layer
open_own scope k t = part scope [] 4 k (message_layer t.own (map message_record t.nested))

-- with those in it
abbrev pub open_top : List ℕ → ℕ → Top → List (Part Layer)
open_top scope k t = open_own scope k t ∷ open_nested (qualified scope t.own.name) (open_own scope k t).place 0 t.nested

-- all
abbrev pub open_messages : File → List (Part Layer)
open_messages r = flat_map (λ t. open_top r.«package» t.0 t.1) (enumerate_from 0 r.messages)

nested_shut : (scope : List ℕ) (place : Place) (k : ℕ) (ms : List Message)
    → flat_map messages_from (map (λ x. part scope place 3 x.0 x.1) (enumerate_from k (map message_record ms))) ≡ map shut (open_nested scope place k ms)
nested_shut scope place k [] = refl
nested_shut scope place k (m ∷ ms) =
    ap (λ (ps : List (Part DescriptorProto)). ps ++ flat_map messages_from
    (map (λ x. part scope place 3 x.0 x.1) (enumerate_from (k + 1) (map message_record ms))))
    (messages_from_at (part scope place 3 k (message_record m))
    ∙ ap (λ (l : Layer). part scope place 3 k (message_record m) ∷ flat_map messages_from
    (parts (qualified scope (text_or_empty l.name)) (part scope place 3 k m).place 3 l.nested_type))
    (out-roll-DescriptorProto (message_layer m [])))
    ∙ ap (λ ps. part scope place 3 k (message_record m) ∷ ps) (nested_shut scope place (k + 1) ms)

top_shut : (scope : List ℕ) (k : ℕ) (t : Top) → messages_from (part scope [] 4 k (top_record t)) ≡ map shut (open_top scope k t)
top_shut scope k t =
    messages_from_at (part scope [] 4 k (top_record t))
    ∙ ap (λ (l : Layer). part scope [] 4 k (top_record t) ∷ flat_map messages_from
    (parts (qualified scope (text_or_empty l.name)) (open_own scope k t).place 3 l.nested_type))
    (out-roll-DescriptorProto (message_layer t.own (map message_record t.nested)))
    ∙ ap (λ ps. part scope [] 4 k (top_record t) ∷ ps) (nested_shut (qualified scope t.own.name) (open_own scope k t).place 0 t.nested)

tops_shut : (scope : List ℕ) (k : ℕ) (ts : List Top)
    → flat_map messages_from (map (λ x. part scope [] 4 x.0 x.1) (enumerate_from k (map top_record ts)))
    ≡ map shut (flat_map (λ t. open_top scope t.0 t.1) (enumerate_from k ts))
tops_shut scope k [] = refl
tops_shut scope k (t ∷ ts) =
    ap (λ ps. ps ++ flat_map messages_from (map (λ x. part scope [] 4 x.0 x.1) (enumerate_from (k + 1) (map top_record ts)))) (top_shut scope k t)
    ∙ ap (λ ps. map shut (open_top scope k t) ++ ps) (tops_shut scope (k + 1) ts)
    ∙ sym (map-append shut (open_top scope k t) (flat_map (λ t. open_top scope t.0 t.1) (enumerate_from (k + 1) ts)))

pub messages_shut : (r : File) → messages (file_record r) ≡ map shut (open_messages r)
messages_shut r = tops_shut r.«package» 0 r.messages

-- what is told of each message
pub told_shut : {X : Type 0} (f : Part DescriptorProto → List X) (g : Part Layer → List X) → ((q : Part Layer) → f (shut q) ≡ g q)
    → (qs : List (Part Layer)) → flat_map f (map shut qs) ≡ flat_map g qs
told_shut f g h [] = refl
told_shut f g h (q ∷ qs) = ap (λ xs. xs ++ flat_map f (map shut qs)) (h q) ∙ ap (λ xs. g q ++ xs) (told_shut f g h qs)

pub told_of : {X : Type 0} (f : Part DescriptorProto → List X) (g : Part Layer → List X) → ((q : Part Layer) → f (shut q) ≡ g q)
    → (r : File) → flat_map f (messages (file_record r)) ≡ flat_map g (open_messages r)
told_of f g h r = ap (flat_map f) (messages_shut r) ∙ told_shut f g h (open_messages r)

-- ---- fields, enums, extensions

abbrev pub all_fields_of : File → List (Part FieldDescriptorProto)
all_fields_of r = flat_map open_fields (open_messages r)

pub fields_are : (r : File) → fields (file_record r) ≡ all_fields_of r
fields_are r = told_of fields_in open_fields fields_open r

abbrev pub all_enums_of : File → List (Part EnumDescriptorProto)
all_enums_of r = flat_map open_enums (open_messages r) ++ parts r.«package» [] 5 r.enums

pub enums_are : (r : File) → enums (file_record r) ≡ all_enums_of r
enums_are r = ap (λ es. es ++ parts r.«package» [] 5 r.enums) (told_of enums_in open_enums enums_open r)

nested_unextended : (scope : List ℕ) (place : Place) (k : ℕ) (ms : List Message)
    → flat_map extensions_from (map (λ x. part scope place 3 x.0 x.1) (enumerate_from k (map message_record ms))) ≡ []
nested_unextended scope place k [] = refl
nested_unextended scope place k (m ∷ ms) =
    ap (λ (ps : List (Part FieldDescriptorProto)). ps ++ flat_map extensions_from
    (map (λ x. part scope place 3 x.0 x.1) (enumerate_from (k + 1) (map message_record ms))))
    (extensions_from_at (part scope place 3 k (message_record m))
    ∙ ap (λ (l : Layer). flat_map extensions_from (parts (qualified scope (text_or_empty l.name)) (part scope place 3 k m).place 3 l.nested_type)
    ++ parts (qualified scope (text_or_empty l.name)) (part scope place 3 k m).place 6 l.extension)
    (out-roll-DescriptorProto (message_layer m [])))
    ∙ nested_unextended scope place (k + 1) ms

top_unextended : (scope : List ℕ) (k : ℕ) (t : Top) → extensions_from (part scope [] 4 k (top_record t)) ≡ []
top_unextended scope k t =
    extensions_from_at (part scope [] 4 k (top_record t))
    ∙ ap (λ (l : Layer). flat_map extensions_from (parts (qualified scope (text_or_empty l.name)) (open_own scope k t).place 3 l.nested_type)
    ++ parts (qualified scope (text_or_empty l.name)) (open_own scope k t).place 6 l.extension)
    (out-roll-DescriptorProto (message_layer t.own (map message_record t.nested)))
    ∙ ap (λ (ps : List (Part FieldDescriptorProto)). ps ++ []) (nested_unextended (qualified scope t.own.name) (open_own scope k t).place 0 t.nested)

tops_unextended : (scope : List ℕ) (k : ℕ) (ts : List Top)
    → flat_map extensions_from (map (λ x. part scope [] 4 x.0 x.1) (enumerate_from k (map top_record ts))) ≡ []
tops_unextended scope k [] = refl
tops_unextended scope k (t ∷ ts) =
    ap (λ ps. ps ++ flat_map extensions_from (map (λ x. part scope [] 4 x.0 x.1) (enumerate_from (k + 1) (map top_record ts)))) (top_unextended scope k t)
    ∙ tops_unextended scope (k + 1) ts

pub no_extensions : (r : File) → extensions (file_record r) ≡ []
no_extensions r = ap (λ (ps : List (Part FieldDescriptorProto)). ps ++ []) (tops_unextended r.«package» 0 r.messages)

-- ---- definitions

abbrev pub open_before : Part Layer → List Defined
open_before q =
    record { scope = q.scope; name = text_or_empty q.item.name; sort = a_message; place = q.place } ∷ map (field_definition a_field) (open_fields q)

abbrev pub open_after : Part Layer → List Defined
open_after q = flat_map enum_definitions (open_enums q) ++ [] ++ map (defined a_oneof (λ (o : OneofDescriptorProto). o.name)) (open_oneofs q)

abbrev pub nested_defines : Part Layer → List Defined
nested_defines q = open_before q ++ [] ++ open_after q

abbrev pub top_defines : List ℕ → ℕ → Top → List Defined
top_defines scope k t =
    open_before (open_own scope k t) ++ flat_map nested_defines (open_nested (qualified scope t.own.name) (open_own scope k t).place 0 t.nested)
    ++ open_after (open_own scope k t)

abbrev pub defines : File → List Defined
defines r =
    flat_map (λ t. top_defines r.«package» t.0 t.1) (enumerate_from 0 r.messages) ++ flat_map enum_definitions (parts r.«package» [] 5 r.enums) ++ [] ++ []

-- of a layer without extensions
before_open : (q : Part Layer) → before_nested (shut q) ≡ open_before q
before_open q =
    ap (λ (l : Layer). record { scope = q.scope; name = text_or_empty l.name; sort = a_message; place = q.place }
    ∷ map (field_definition a_field) (parts (qualified q.scope (text_or_empty l.name)) q.place 2 l.field))
    (out-roll-DescriptorProto q.item)

after_open : (q : Part Layer) → q.item.extension ≡ [] → after_nested (shut q) ≡ open_after q
after_open q h =
    ap (λ (l : Layer). flat_map enum_definitions (parts (qualified q.scope (text_or_empty l.name)) q.place 4 l.enum_type)
    ++ map (field_definition an_extension) (parts (qualified q.scope (text_or_empty l.name)) q.place 6 l.extension)
    ++ map (defined a_oneof (λ (o : OneofDescriptorProto). o.name)) (parts (qualified q.scope (text_or_empty l.name)) q.place 8 l.oneof_decl))
    (out-roll-DescriptorProto q.item)
    ∙ ap (λ (xs : List FieldDescriptorProto). flat_map enum_definitions (open_enums q) ++ map (field_definition an_extension)
    (parts (open_name q) q.place 6 xs)
    ++ map (defined a_oneof (λ (o : OneofDescriptorProto). o.name)) (open_oneofs q)) h

nested_defined : (scope : List ℕ) (place : Place) (k : ℕ) (ms : List Message)
    → flat_map definitions_from (map (λ x. part scope place 3 x.0 x.1) (enumerate_from k (map message_record ms))) ≡ flat_map nested_defines
    (open_nested scope place k ms)
nested_defined scope place k [] = refl
nested_defined scope place k (m ∷ ms) =
    let q : Part Layer = part scope place 3 k (message_layer m []) in
    ap (λ (ds : List Defined). ds ++ flat_map definitions_from (map (λ x. part scope place 3 x.0 x.1) (enumerate_from (k + 1) (map message_record ms))))
    (definitions_from_at (shut q)
    ∙ ap (λ (l : Layer). before_nested (shut q) ++ flat_map definitions_from (parts (qualified scope (text_or_empty l.name)) q.place 3 l.nested_type)
    ++ after_nested (shut q))
    (out-roll-DescriptorProto (message_layer m []))
    ∙ ap (λ ds. ds ++ [] ++ after_nested (shut q)) (before_open q) ∙ ap (λ ds. open_before q ++ [] ++ ds) (after_open q refl))
    ∙ ap (λ ds. nested_defines q ++ ds) (nested_defined scope place (k + 1) ms)

top_defined : (scope : List ℕ) (k : ℕ) (t : Top) → definitions_from (part scope [] 4 k (top_record t)) ≡ top_defines scope k t
top_defined scope k t =
    let q : Part Layer = open_own scope k t in
    definitions_from_at (shut q)
    ∙ ap (λ (l : Layer). before_nested (shut q) ++ flat_map definitions_from (parts (qualified scope (text_or_empty l.name)) q.place 3 l.nested_type)
    ++ after_nested (shut q))
    (out-roll-DescriptorProto q.item)
    ∙ ap (λ ds. before_nested (shut q) ++ ds ++ after_nested (shut q)) (nested_defined (qualified scope t.own.name) q.place 0 t.nested)
    ∙ ap (λ ds. ds ++ flat_map nested_defines (open_nested (qualified scope t.own.name) q.place 0 t.nested) ++ after_nested (shut q)) (before_open q)
    ∙ ap (λ ds. open_before q ++ flat_map nested_defines (open_nested (qualified scope t.own.name) q.place 0 t.nested) ++ ds) (after_open q refl)

tops_defined : (scope : List ℕ) (k : ℕ) (ts : List Top)
    → flat_map definitions_from (map (λ x. part scope [] 4 x.0 x.1) (enumerate_from k (map top_record ts))) ≡ flat_map
    (λ t. top_defines scope t.0 t.1) (enumerate_from k ts)
tops_defined scope k [] = refl
tops_defined scope k (t ∷ ts) =
    ap (λ ds. ds ++ flat_map definitions_from (map (λ x. part scope [] 4 x.0 x.1) (enumerate_from (k + 1) (map top_record ts)))) (top_defined scope k t)
    ∙ ap (λ ds. top_defines scope k t ++ ds) (tops_defined scope (k + 1) ts)

pub definitions_are : (r : File) → definitions (file_record r) ≡ defines r
definitions_are r = ap (λ ds. ds ++ flat_map enum_definitions (parts r.«package» [] 5 r.enums) ++ [] ++ []) (tops_defined r.«package» 0 r.messages)

-- of the files of rows
pub all_definitions_are : (rs : List File) → flat_map definitions (map file_record rs) ≡ flat_map defines rs
all_definitions_are [] = refl
all_definitions_are (r ∷ rs) =
    ap (λ ds. ds ++ flat_map definitions (map file_record rs)) (definitions_are r) ∙ ap (λ ds. defines r ++ ds) (all_definitions_are rs)
