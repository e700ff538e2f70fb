-- Messages, extensions and definitions as recursions over nested messages, and induction over parts.
use Rattle.std.proofs.Common.{◌≡◌, ◌∙◌, ℕ, ◌+◌, List, [], ◌∷◌, ◌++◌, map, refl, ap, sym, subst}
use Rattle.std.specs.Prelude.{pos}
use Rattle.std.specs.List.{flat_map, enumerate_from}
use Rattle.std.proofs.lemmas.Grind.{flat_map-append}
use Rattle.pbx_desc_records.specs.declared.message.DescriptorProto.{DescriptorProto, roll-DescriptorProto, out-roll-DescriptorProto, ind-DescriptorProto}
use Rattle.pbx_desc_records.specs.declared.message.DescriptorProto.TheOpen.{DescriptorProto-F}
use Rattle.pbx_desc_records.specs.declared.file.FileDescriptorProto.{FileDescriptorProto}
use Rattle.pbx_link_definitions.specs.Definitions.{extensions_from, definitions_from, Place, Part, message_name, nested_in, itself, nothing, around, extensions_in, before_nested, after_nested, messages_from, messages, extensions, definitions, top_messages, top_extensions, top_enums, services, field_definition, enum_definitions, service_definitions}
use Rattle.pbx_link_definitions.specs.declared.definitions.Sort.TheVariants.{Extension as an_extension}
use Rattle.pbx_link_definitions.proofs.Around.{around_is_told}

append_nothing : {X : Type 0} (xs : List X) → xs ++ [] ≡ xs
append_nothing [] = refl
append_nothing (x ∷ xs) = ap (λ ys. x ∷ ys) (append_nothing xs)

-- ---- as recursions

pub messages_from_at : (p : Part DescriptorProto) → messages_from p ≡ p ∷ flat_map messages_from (nested_in p)
unfolding messages_from
messages_from_at p = around_is_told itself nothing p ∙ ap (λ ps. p ∷ ps) (append_nothing (flat_map messages_from (nested_in p)))

pub extensions_from_at : (p : Part DescriptorProto) → extensions_from p ≡ flat_map extensions_from (nested_in p) ++ extensions_in p
unfolding extensions_from
extensions_from_at p = around_is_told nothing extensions_in p

pub definitions_from_at : (p : Part DescriptorProto) → definitions_from p ≡ before_nested p ++ flat_map definitions_from (nested_in p) ++ after_nested p
unfolding definitions_from
definitions_from_at p = around_is_told before_nested after_nested p

-- the file's lists are those of its top messages
pub messages_is : (f : FileDescriptorProto) → messages f ≡ flat_map messages_from (top_messages f)
messages_is f = refl

pub extensions_is : (f : FileDescriptorProto) → extensions f ≡ flat_map extensions_from (top_messages f) ++ top_extensions f
extensions_is f = refl

pub definitions_is : (f : FileDescriptorProto) → definitions f ≡ flat_map definitions_from (top_messages f) ++ flat_map enum_definitions (top_enums f)
    ++ flat_map service_definitions (services f) ++ map (field_definition an_extension) (top_extensions f)
definitions_is f = refl

-- ---- induction over parts

abbrev pub Each : {A : Type 0} → (A → Type 0) → List A → Type 0
Each P [] = Unit {0}
Each P (x ∷ xs) = P x × Each P xs

-- of a message at any place
abbrev Anywhere : (Part DescriptorProto → Type 0) → DescriptorProto → Type 0
Anywhere P m = (scope : List ℕ) (place : Place) (index : ℕ) → P (record { scope = scope; place = place; index = index; item = m })

each_of : {S : Type 0} (P : DescriptorProto → Type 0) (v : S → DescriptorProto) → ((s : S) → P (v s)) → (ss : List S) → Each P (map v ss)
each_of P v h [] = tt
each_of P v h (s ∷ ss) = (h s, each_of P v h ss)

each_part : (P : Part DescriptorProto → Type 0) (scope : List ℕ) (place : Place) (k : ℕ) (ms : List DescriptorProto) → Each (Anywhere P) ms
    → Each P (map (λ x. record { scope = scope; place = place ++ pos 3 ∷ pos x.0 ∷ []; index = x.0; item = x.1 }) (enumerate_from k ms))
each_part P scope place k [] h = tt
each_part P scope place k (m ∷ ms) h = (h.0 scope (place ++ pos 3 ∷ pos k ∷ []) k, each_part P scope place (k + 1) ms h.1)

-- what holds of a message wherever it holds of those nested in it holds of every message
pub ind_part : (P : Part DescriptorProto → Type 0) → ((p : Part DescriptorProto) → Each P (nested_in p) → P p) → (p : Part DescriptorProto) → P p
ind_part P step p =
    ind-DescriptorProto (Anywhere P)
    (λ o inside e. λ scope place index.
    let q : Part DescriptorProto = record { scope = scope; place = place; index = index; item = roll-DescriptorProto o } in
    let all : Each (Anywhere P) o.nested_type = subst (λ (l : DescriptorProto-F DescriptorProto). Each (Anywhere P) l.nested_type) e (each_of (Anywhere P) (λ s. s.0) (λ s. s.1) inside.nested_type) in
    step q (each_part P (message_name q) place 0 _ (subst (λ (l : DescriptorProto-F DescriptorProto). Each (Anywhere P) l.nested_type) (sym (out-roll-DescriptorProto o)) all)))
    p.item p.scope p.place p.index

-- ---- lists told of each message

pub flat_map_same : {A B : Type 0} (f g : A → List B) → (xs : List A) → Each (λ x. f x ≡ g x) xs → flat_map f xs ≡ flat_map g xs
flat_map_same f g [] h = refl
flat_map_same f g (x ∷ xs) h = ap (λ ys. ys ++ flat_map f xs) h.0 ∙ ap (λ ys. g x ++ ys) (flat_map_same f g xs h.1)

flat_map_twice : {A B C : Type 0} (f : A → List B) (g : B → List C) → (xs : List A) → flat_map g (flat_map f xs) ≡ flat_map (λ x. flat_map g (f x)) xs
flat_map_twice f g [] = refl
flat_map_twice f g (x ∷ xs) = flat_map-append g (f x) (flat_map f xs) ∙ ap (λ ys. flat_map g (f x) ++ ys) (flat_map_twice f g xs)

-- what is told of each message in front of those nested in it is told of all messages in order
pub told_in_front : {X : Type 0} (first : Part DescriptorProto → List X) → (p : Part DescriptorProto) → around first nothing p ≡ flat_map first (messages_from p)
unfolding messages_from
told_in_front {X} first =
    ind_part (λ p. around first nothing p ≡ flat_map first (messages_from p))
    (λ p inside.
    let a : around first nothing p ≡ first p ++ flat_map (around first nothing) (nested_in p) = around_is_told first nothing p ∙ append_nothing (first p ++ flat_map (around first nothing) (nested_in p)) in
    let b : flat_map (around first nothing) (nested_in p) ≡ flat_map first (flat_map messages_from (nested_in p)) =
    flat_map_same (around first nothing) (λ q. flat_map first (messages_from q)) (nested_in p) inside ∙ sym (flat_map_twice messages_from first (nested_in p)) in
    let d : flat_map first (messages_from p) ≡ first p ++ flat_map first (flat_map messages_from (nested_in p)) = ap (flat_map first) (messages_from_at p) in
    a ∙ ap (λ (xs : List X). first p ++ xs) b ∙ sym d)
