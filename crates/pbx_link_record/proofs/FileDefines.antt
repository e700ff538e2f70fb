-- The linked and settled record of a file defines what the record defines.
use Rattle.std.proofs.Common.{◌≡◌, ◌∙◌, ℕ, List, [], ◌∷◌, ◌++◌, map, Option, refl, ap, sym}
use Rattle.std.specs.List.{flat_map}
use Rattle.pbx_desc_records.specs.declared.file.FileDescriptorProto.{FileDescriptorProto}
use Rattle.pbx_desc_records.specs.declared.message.DescriptorProto.{DescriptorProto}
use Rattle.pbx_desc_records.specs.declared.service.MethodDescriptorProto.{MethodDescriptorProto}
use Rattle.pbx_desc_records.specs.declared.service.ServiceDescriptorProto.{ServiceDescriptorProto}
use Rattle.pbx_link_record.specs.Settled.{settled_field, settled_method, settled_service, settled_file}
use Rattle.pbx_link_definitions.specs.Names.{text_or_empty, qualified}
use Rattle.pbx_link_record.specs.Linked.{linked_extension, linked_message, linked_method, linked_service, linked_with}
use Rattle.pbx_link_definitions.specs.Definitions.{messages_from, Place, Part, parts, Defined, defined, service_definitions, package_of, definitions, messages, definitions_from}
use Rattle.pbx_link_definitions.specs.declared.definitions.Sort.TheVariants.{Method as a_method, Service as a_service, Extension as an_extension}
use Rattle.pbx_link_record.specs.Laws.{linked_part}
use Rattle.pbx_link_definitions.proofs.Told.{Each}
use Rattle.pbx_link_record.proofs.Changed.{changed_by, IsChange, parts_all_changed, messages_changed, flat_map_changed, map_id}
use Rattle.pbx_link_record.proofs.Defines.{fields_alike, named_alike, told_from, enums_alike, linking_is_change, settling_is_change, settled_in, linked_defines, settled_defines}

each_all : {A : Type 0} (P : A → Type 0) → ((x : A) → P x) → (xs : List A) → Each P xs
each_all P h [] = tt
each_all P h (x ∷ xs) = (h x, each_all P h xs)

-- top messages that are changed with no change of what they define
tops_define : (g : List ℕ → DescriptorProto → DescriptorProto) → ((p : Part DescriptorProto) → definitions_from (changed_by g p) ≡ definitions_from p) → (scope : List ℕ) (ms : List DescriptorProto)
    → flat_map definitions_from (parts scope [] 4 (map (g scope) ms)) ≡ flat_map definitions_from (parts scope [] 4 ms)
tops_define g same scope ms =
    let ps = parts scope [] 4 ms in
    ap (flat_map definitions_from) (parts_all_changed g scope [] 4 ms)
    ∙ flat_map_changed (changed_by g) (λ (x : Defined). x) definitions_from definitions_from ps (each_all (λ p. definitions_from (changed_by g p) ≡ map (λ x. x) (definitions_from p)) (λ p. same p ∙ sym (map_id (definitions_from p))) ps)
    ∙ map_id (flat_map definitions_from ps)

services_define : (h : ServiceDescriptorProto → ServiceDescriptorProto) (g : ServiceDescriptorProto → MethodDescriptorProto → MethodDescriptorProto) → ((s : ServiceDescriptorProto) → (h s).name ≡ s.name)
    → ((s : ServiceDescriptorProto) → (h s).method ≡ map (g s) s.method) → ((s : ServiceDescriptorProto) (m : MethodDescriptorProto) → (g s m).name ≡ m.name) → (scope : List ℕ) (xs : List ServiceDescriptorProto)
    → flat_map service_definitions (parts scope [] 6 (map h xs)) ≡ flat_map service_definitions (parts scope [] 6 xs)
services_define h g same methods names scope xs =
    let told : List ℕ → Place → Option (List ℕ) → List MethodDescriptorProto → List Defined = λ s pl n ms.
    record { scope = s; name = text_or_empty n; sort = a_service; place = pl } ∷ map (defined a_method (λ (m : MethodDescriptorProto). m.name)) (parts (qualified s (text_or_empty n)) pl 2 ms) in
    told_from service_definitions h
    (λ s pl k x.
    ap (λ (n : Option (List ℕ)). told s pl n (h x).method) (same x) ∙ ap (told s pl x.name) (methods x)
    ∙ ap (λ (ds : List Defined). record { scope = s; name = text_or_empty x.name; sort = a_service; place = pl } ∷ ds) (named_alike a_method (λ (m : MethodDescriptorProto). m.name) (g x) (names x) (qualified s (text_or_empty x.name)) pl 2 x.method))
    scope [] 6 0 xs

-- the definitions of a file, part by part
in_order : (a b c d a' b' c' d' : List Defined) → a ≡ a' → b ≡ b' → c ≡ c' → d ≡ d' → a ++ b ++ c ++ d ≡ a' ++ b' ++ c' ++ d'
in_order a b c d a' b' c' d' p q r s = cc

linked_file_defines : (seen : List FileDescriptorProto) (f : FileDescriptorProto) → definitions (linked_with seen f) ≡ definitions f
linked_file_defines seen f =
    let scope = package_of f in
    in_order _ _ _ _ _ _ _ _ (tops_define (linked_message seen) (linked_defines seen) scope f.message_type) refl
    (services_define (linked_service seen scope) (λ s. linked_method seen (qualified scope (text_or_empty s.name))) (λ s. refl) (λ s. refl) (λ s m. refl) scope f.service)
    (fields_alike an_extension (linked_extension seen scope) (λ x. refl) scope [] 7 f.extension)

settled_file_defines : (f : FileDescriptorProto) → definitions (settled_file f) ≡ definitions f
settled_file_defines f =
    let scope = package_of f in
    in_order _ _ _ _ _ _ _ _ (tops_define settled_in settled_defines scope f.message_type) (enums_alike scope [] 5 f.enum_type)
    (services_define settled_service (λ s. settled_method) (λ s. refl) (λ s. refl) (λ s m. refl) scope f.service) (fields_alike an_extension settled_field (λ x. refl) scope [] 7 f.extension)

-- A linked record defines what the record defines, in the same order and at the same places.
pub linked_record_defines : (seen : List FileDescriptorProto) (f : FileDescriptorProto) → definitions (settled_file (linked_with seen f)) ≡ definitions f
linked_record_defines seen f = settled_file_defines (linked_with seen f) ∙ linked_file_defines seen f

-- ---- its messages

messages_of_tops : (g : List ℕ → DescriptorProto → DescriptorProto) → IsChange g → (scope : List ℕ) (ms : List DescriptorProto)
    → flat_map messages_from (parts scope [] 4 (map (g scope) ms)) ≡ map (changed_by g) (flat_map messages_from (parts scope [] 4 ms))
messages_of_tops g is scope ms =
    let ps = parts scope [] 4 ms in
    ap (flat_map messages_from) (parts_all_changed g scope [] 4 ms)
    ∙ flat_map_changed (changed_by g) (changed_by g) messages_from messages_from ps (each_all (λ p. messages_from (changed_by g p) ≡ map (changed_by g) (messages_from p)) (messages_changed g is) ps)

map_twice : {A B C : Type 0} (f : A → B) (g : B → C) → (xs : List A) → map g (map f xs) ≡ map (λ x. g (f x)) xs
map_twice f g [] = refl
map_twice f g (x ∷ xs) = ap (λ ys. g (f x) ∷ ys) (map_twice f g xs)

-- The messages of a linked record are those of the record, each linked in its scope and settled.
pub linked_record_messages : (seen : List FileDescriptorProto) (f : FileDescriptorProto) → messages (settled_file (linked_with seen f)) ≡ map (linked_part seen) (messages f)
linked_record_messages seen f =
    messages_of_tops settled_in settling_is_change (package_of f) (linked_with seen f).message_type
    ∙ ap (map (changed_by settled_in)) (messages_of_tops (linked_message seen) (linking_is_change seen) (package_of f) f.message_type)
    ∙ map_twice (changed_by (linked_message seen)) (changed_by settled_in) (messages f)
