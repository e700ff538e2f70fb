-- Entries of parts, and the parts found by them.
use Rattle.std.proofs.Common.{◌≡◌, ◌∙◌, ℕ, ◌+◌, List, [], ◌∷◌, map, refl, ap, subst}
use Rattle.std.specs.Prelude.{zero, suc, Option, Some, None, slice_get, option_map}
use Rattle.std.specs.List.{enumerate_from}
use Rattle.std.proofs.lemmas.Option.{slice_get-map}
use Rattle.pbx_desc_records.specs.declared.enumeration.EnumDescriptorProto.{EnumDescriptorProto}
use Rattle.pbx_desc_records.specs.declared.field.FieldDescriptorProto.{FieldDescriptorProto}
use Rattle.pbx_desc_records.specs.declared.file.FileDescriptorProto.{FileDescriptorProto}
use Rattle.pbx_desc_records.specs.declared.message.DescriptorProto.{DescriptorProto}
use Rattle.pbx_desc_records.specs.declared.service.ServiceDescriptorProto.{ServiceDescriptorProto}
use Rattle.pbx_link_definitions.specs.Names.{text_or_empty, qualified}
use Rattle.pbx_link_definitions.specs.Says.{own_name, own_fields}
use Rattle.pbx_link_definitions.specs.Definitions.{Place, Part, part, message_name, field_name, fields_in, messages, enums, extensions, services, package_of}
use Rattle.pbx_link_definitions.proofs.Told.{Each}
use Rattle.pbx_link_tables.specs.declared.entry.Entry.{Entry}
use Rattle.pbx_link_tables.specs.declared.entry.MessageEntry.{MessageEntry}
use Rattle.pbx_link_tables.specs.declared.entry.Entries.{Entries}
use Rattle.pbx_link_tables.specs.Entries.{message_entry, enum_entry, extension_entry, service_entry, in_brackets, json_name, with_item, AreEntries}
use Rattle.pbx_link_tables.specs.Places.{holder, message_at, enum_at, extension_at}
use Rattle.pbx_link_tables.proofs.Standing.{Stands, EnumStands, ExtensionStands, IsItem, items, each_so, messages_stand, enums_stand, extensions_stand}

-- ---- made

-- the name of a field in this scope
abbrev pub named_in : List ℕ → FieldDescriptorProto → List ℕ
named_in scope x = qualified scope (text_or_empty x.name)

names_from : (scope : List ℕ) (place : Place) (k : ℕ) (xs : List FieldDescriptorProto) → map (named_in scope) xs ≡ map field_name (map (λ x. part scope place 2 x.0 x.1) (enumerate_from k xs))
names_from scope place k [] = refl
names_from scope place k (x ∷ xs) = ap (λ (ns : List (List ℕ)). named_in scope x ∷ ns) (names_from scope place (k + 1) xs)

pub message_made : (p : Part DescriptorProto) (m : DescriptorProto) (s own n : List ℕ) (pl : Place) (i : ℕ) (e : Entry) (xs : List FieldDescriptorProto) (fs : List (List ℕ)) → m ≡ p.item → s ≡ p.scope → own ≡ own_name m
    → pl ≡ p.place → i ≡ p.index → e ≡ record { scope = s; name = qualified s own; place = pl; index = i } → n ≡ e.name → xs ≡ own_fields m → fs ≡ map (named_in n) xs
    → (let made : MessageEntry = record { entry = e; fields = fs } in made ≡ message_entry p)
message_made p m s own n pl i e xs fs is_item is_scope is_own is_place is_index is n_is xs_is fs_is =
    let own_is : own ≡ own_name p.item = is_own ∙ ap own_name is_item in
    let name_is : n ≡ message_name p = n_is ∙ ap (λ (x : Entry). x.name) is ∙ ap (λ (t : List ℕ). qualified t own) is_scope ∙ ap (qualified p.scope) own_is in
    let all : fs ≡ map field_name (fields_in p) =
    fs_is ∙ ap (λ (t : List ℕ). map (named_in t) xs) name_is ∙ ap (map (named_in (message_name p))) (xs_is ∙ ap own_fields is_item) ∙ names_from (message_name p) p.place 0 (own_fields p.item) in
    let entry_is : e ≡ (message_entry p).entry =
    is ∙ ap (λ (t : List ℕ). record { scope = t; name = qualified t own; place = pl; index = i }) is_scope
    ∙ ap (λ (t : List ℕ). record { scope = p.scope; name = qualified p.scope t; place = pl; index = i }) own_is
    ∙ ap (λ (t : Place). record { scope = p.scope; name = message_name p; place = t; index = i }) is_place
    ∙ ap (λ (t : ℕ). record { scope = p.scope; name = message_name p; place = p.place; index = t }) is_index in
    ap (λ (x : Entry). record { entry = x; fields = fs }) entry_is ∙ ap (λ (x : List (List ℕ)). record { entry = (message_entry p).entry; fields = x }) all

pub service_made : (scope own : List ℕ) (pl place : Place) (i : ℕ) (s : ServiceDescriptorProto) (e : Entry) → own ≡ text_or_empty s.name → pl ≡ place
    → e ≡ record { scope = scope; name = qualified scope own; place = pl; index = i } → e ≡ service_entry (record { scope = scope; place = place; index = i; item = s })
service_made scope own pl place i s e own_is at is =
    is ∙ ap (λ (t : List ℕ). record { scope = scope; name = qualified scope t; place = pl; index = i }) own_is
    ∙ ap (λ (t : Place). record { scope = scope; name = qualified scope (text_or_empty s.name); place = t; index = i }) at

-- ---- found

each_at : {X : Type 0} (P : X → Type 0) (xs : List X) (i : ℕ) (x : X) → Each P xs → Some x ≡ slice_get xs i → P x
each_at P [] i x h e = cc
each_at P (y ∷ ys) zero x h e =
    let same : y ≡ x = cc in
    subst P same h.0
each_at P (y ∷ ys) (suc i) x h e = each_at P ys i x h.1 e

found_in : {X E : Type 0} (h : Part X → E) (at : E → Option (Part X)) (e : E) (o : Option (Part X)) → ((p : Part X) → Some p ≡ o → at (h p) ≡ Some p) → Some e ≡ option_map h o → at e ≡ o
found_in h at e None f is = cc
found_in {X} {E} h at e (Some p) f is =
    let same : e ≡ h p = cc in
    ap at same ∙ f p refl

-- what an entry leads to is the part of that index
pub found : {X E : Type 0} (h : Part X → E) (at : E → Option (Part X)) (ps : List (Part X)) (es : List E) (i : ℕ) (e : E) → es ≡ map h ps → Each (λ p. at (h p) ≡ Some p) ps → Some e ≡ slice_get es i → at e ≡ slice_get ps i
found {X} {E} h at ps es i e is all here =
    found_in h at e (slice_get ps i) (λ p there. each_at (λ q. at (h q) ≡ Some q) ps i p all there) (here ∙ ap (λ (xs : List E). slice_get xs i) is ∙ slice_get-map h ps i)

missing_in : {X E : Type 0} (h : X → E) (o : Option X) → None ≡ option_map h o → None ≡ o
missing_in h None is = refl
missing_in h (Some p) is = cc

-- no entry, no part
pub missing : {X E : Type 0} (h : X → E) (ps : List X) (es : List E) (i : ℕ) → es ≡ map h ps → None ≡ slice_get es i → None ≡ slice_get ps i
missing {X} {E} h ps es i is none = missing_in h (slice_get ps i) (none ∙ ap (λ (xs : List E). slice_get xs i) is ∙ slice_get-map h ps i)

-- ---- the parts of a file

pub messages_found : (f : FileDescriptorProto) → Each (λ p. with_item (message_entry p).entry (message_at f (message_entry p).entry.place) ≡ Some p) (messages f)
messages_found f = each_so (Stands f) (λ p. with_item (message_entry p).entry (message_at f p.place) ≡ Some p) (λ p stands. ap (with_item (message_entry p).entry) stands.0) (messages f) (messages_stand f)

pub enums_found : (f : FileDescriptorProto) → Each (λ p. with_item (enum_entry p) (enum_at f (holder (enum_entry p).place) (enum_entry p).index) ≡ Some p) (enums f)
enums_found f = each_so (EnumStands f) (λ p. with_item (enum_entry p) (enum_at f (holder p.place) p.index) ≡ Some p) (λ p stands. ap (with_item (enum_entry p)) stands) (enums f) (enums_stand f)

pub extensions_found : (f : FileDescriptorProto) → Each (λ p. with_item (extension_entry p) (extension_at f (holder (extension_entry p).place) (extension_entry p).index) ≡ Some p) (extensions f)
extensions_found f =
    each_so (ExtensionStands f) (λ p. with_item (extension_entry p) (extension_at f (holder p.place) p.index) ≡ Some p) (λ p stands. ap (with_item (extension_entry p)) stands) (extensions f) (extensions_stand f)

pub services_found : (f : FileDescriptorProto) → Each (λ p. with_item (service_entry p) (slice_get f.service (service_entry p).index) ≡ Some p) (services f)
services_found f =
    each_so (IsItem [] 6 f.service) (λ p. with_item (service_entry p) (slice_get f.service p.index) ≡ Some p) (λ p at. ap (with_item (service_entry p)) at.1) (services f) (items (package_of f) [] 6 f.service)

pub message_is : (f : FileDescriptorProto) (e : Entries) (es : List MessageEntry) (i : ℕ) (k : MessageEntry) (place : Place) (x : Option DescriptorProto) (r : Option (Part DescriptorProto)) → AreEntries f e → es ≡ e.messages
    → Some k ≡ slice_get es i → place ≡ k.entry.place → x ≡ message_at f place → r ≡ with_item k.entry x → r ≡ slice_get (messages f) i
message_is f e es i k place x r are is here at there made =
    made ∙ ap (with_item k.entry) (there ∙ ap (message_at f) at)
    ∙ found message_entry (λ (m : MessageEntry). with_item m.entry (message_at f m.entry.place)) (messages f) e.messages i k are.0 (messages_found f) (here ∙ ap (λ (xs : List MessageEntry). slice_get xs i) is)

pub enum_is : (f : FileDescriptorProto) (e : Entries) (es : List Entry) (i : ℕ) (k : Entry) (place front : Place) (x : Option EnumDescriptorProto) (r : Option (Part EnumDescriptorProto)) → AreEntries f e → es ≡ e.enums
    → Some k ≡ slice_get es i → place ≡ k.place → front ≡ holder place → x ≡ enum_at f front k.index → r ≡ with_item k x → r ≡ slice_get (enums f) i
enum_is f e es i k place front x r are is here at over there made =
    made ∙ ap (with_item k) (there ∙ ap (λ (pl : Place). enum_at f pl k.index) (over ∙ ap holder at))
    ∙ found enum_entry (λ (m : Entry). with_item m (enum_at f (holder m.place) m.index)) (enums f) e.enums i k are.1 (enums_found f) (here ∙ ap (λ (xs : List Entry). slice_get xs i) is)

pub extension_is : (f : FileDescriptorProto) (e : Entries) (es : List Entry) (i : ℕ) (k : Entry) (place front : Place) (x : Option FieldDescriptorProto) (r : Option (Part FieldDescriptorProto)) → AreEntries f e → es ≡ e.extensions
    → Some k ≡ slice_get es i → place ≡ k.place → front ≡ holder place → x ≡ extension_at f front k.index → r ≡ with_item k x → r ≡ slice_get (extensions f) i
extension_is f e es i k place front x r are is here at over there made =
    made ∙ ap (with_item k) (there ∙ ap (λ (pl : Place). extension_at f pl k.index) (over ∙ ap holder at))
    ∙ found extension_entry (λ (m : Entry). with_item m (extension_at f (holder m.place) m.index)) (extensions f) e.extensions i k are.2 (extensions_found f) (here ∙ ap (λ (xs : List Entry). slice_get xs i) is)

pub service_is : (f : FileDescriptorProto) (e : Entries) (es : List Entry) (ss : List ServiceDescriptorProto) (i : ℕ) (k : Entry) (x : Option ServiceDescriptorProto) (r : Option (Part ServiceDescriptorProto)) → AreEntries f e → es ≡ e.services
    → Some k ≡ slice_get es i → ss ≡ f.service → x ≡ slice_get ss k.index → r ≡ with_item k x → r ≡ slice_get (services f) i
service_is f e es ss i k x r are is here at there made =
    made ∙ ap (with_item k) (there ∙ ap (λ (xs : List ServiceDescriptorProto). slice_get xs k.index) at)
    ∙ found service_entry (λ (m : Entry). with_item m (slice_get f.service m.index)) (services f) e.services i k are.3 (services_found f) (here ∙ ap (λ (xs : List Entry). slice_get xs i) is)

-- an index of no entry is that of no part
pub none_is : {X E : Type 0} (h : X → E) (ps : List X) (kept es : List E) (i : ℕ) → kept ≡ map h ps → es ≡ kept → None ≡ slice_get es i → None ≡ slice_get ps i
none_is h ps kept es i is of none = missing h ps es i (of ∙ is) none

bracketed : (o : Option (Part FieldDescriptorProto)) → option_map in_brackets (option_map extension_entry o) ≡ option_map json_name o
bracketed None = refl
bracketed (Some p) = refl

pub json_name_is : (f : FileDescriptorProto) (e : Entries) (names : List (List ℕ)) (i : ℕ) → AreEntries f e → names ≡ e.json_names → slice_get names i ≡ option_map json_name (slice_get (extensions f) i)
json_name_is f e names i are is =
    ap (λ (ns : List (List ℕ)). slice_get ns i) (is ∙ are.4 ∙ ap (map in_brackets) are.2) ∙ slice_get-map in_brackets (map extension_entry (extensions f)) i
    ∙ ap (option_map in_brackets) (slice_get-map extension_entry (extensions f) i) ∙ bracketed (slice_get (extensions f) i)
