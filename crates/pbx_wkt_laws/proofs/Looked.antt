-- Names that are looked up among built-in files.
use Rattle.std.proofs.Common.{◌≡◌, ◌∙◌, ℕ, List, [], ◌∷◌, ◌++◌, map, Bool, true, false, cond, Option, Some, None, refl, ap, sym}
use Rattle.std.specs.Prelude.{◌==◌, find, option_map}
use Rattle.std.specs.List.{flat_map}
use Rattle.std.specs.Str.{bytes_eq}
use Rattle.std.proofs.lemmas.List.{map-append}
use Rattle.pbx_desc_records.specs.declared.enumeration.EnumDescriptorProto.{EnumDescriptorProto}
use Rattle.pbx_desc_records.specs.declared.message.DescriptorProto.{out-roll-DescriptorProto}
use Rattle.pbx_link_definitions.specs.Definitions.{Part, messages, enums, enum_name}
use Rattle.pbx_link_definitions.specs.Names.{qualified, text_or_empty}
use Rattle.pbx_link_definitions.specs.Says.{is_set, option_bool}
use Rattle.pbx_link_scope.specs.declared.types.Bound.{Bound}
use Rattle.pbx_link_scope.specs.declared.types.Bound.TheVariants.{Message as to_message, Enum as to_enum}
use Rattle.pbx_link_scope.specs.Scope.{bound_name, types, type_named, type_from, bound, bound_if}
use Rattle.pbx_link_rules_scope.specs.MapFields.{is_entry_type, full_name_of}
use Rattle.pbx_wkt_files.specs.Records.{File, file_record}
use Rattle.pbx_wkt_laws.proofs.Opened.{Layer, shut, open_name, open_messages, messages_shut, all_enums_of, enums_are}

-- a message or enum, the message's record open
pub data Open : Type 0 where
  open_message : Part Layer → Open
  open_enum : Part EnumDescriptorProto → Open

abbrev pub shut_bound : Open → Bound
shut_bound (open_message q) = to_message (shut q)
shut_bound (open_enum p) = to_enum p

abbrev pub open_full : Open → List ℕ
open_full (open_message q) = open_name q
open_full (open_enum p) = enum_name p

pub full_open : (b : Open) → bound_name (shut_bound b) ≡ open_full b
full_open (open_message q) = ap (λ (l : Layer). qualified q.scope (text_or_empty l.name)) (out-roll-DescriptorProto q.item)
full_open (open_enum p) = refl

-- ---- the types of files

abbrev pub file_open : File → List Open
file_open r = map open_message (open_messages r) ++ map open_enum (all_enums_of r)

abbrev pub all_open : List File → List Open
all_open rs = flat_map file_open rs

messages_bound : (qs : List (Part Layer)) → map to_message (map shut qs) ≡ map shut_bound (map open_message qs)
messages_bound [] = refl
messages_bound (q ∷ qs) = ap (λ bs. to_message (shut q) ∷ bs) (messages_bound qs)

enums_bound : (ps : List (Part EnumDescriptorProto)) → map to_enum ps ≡ map shut_bound (map open_enum ps)
enums_bound [] = refl
enums_bound (p ∷ ps) = ap (λ bs. to_enum p ∷ bs) (enums_bound ps)

file_types : (r : File) → map to_message (messages (file_record r)) ++ map to_enum (enums (file_record r)) ≡ map shut_bound (file_open r)
file_types r =
    ap (λ ms. map to_message ms ++ map to_enum (enums (file_record r))) (messages_shut r)
    ∙ ap (λ es. map to_message (map shut (open_messages r)) ++ map to_enum es) (enums_are r)
    ∙ ap (λ (bs : List Bound). bs ++ map to_enum (all_enums_of r)) (messages_bound (open_messages r))
    ∙ ap (λ (bs : List Bound). map shut_bound (map open_message (open_messages r)) ++ bs) (enums_bound (all_enums_of r))
    ∙ sym (map-append shut_bound (map open_message (open_messages r)) (map open_enum (all_enums_of r)))

types_open : (rs : List File) → types (map file_record rs) ≡ map shut_bound (all_open rs)
types_open [] = refl
types_open (r ∷ rs) =
    ap (λ (bs : List Bound). bs ++ types (map file_record rs)) (file_types r) ∙ ap (λ (bs : List Bound). map shut_bound (file_open r) ++ bs)
    (types_open rs)
    ∙ sym (map-append shut_bound (file_open r) (all_open rs))

-- ---- a type by its name

abbrev pub open_type : List File → List ℕ → Option Open
open_type rs name = find (λ b. bytes_eq (open_full b) name) (all_open rs)

find_shut : (name : List ℕ) (bs : List Open)
    → find (λ b. bytes_eq (bound_name b) name) (map shut_bound bs) ≡ option_map shut_bound (find (λ b. bytes_eq (open_full b) name) bs)
find_shut name [] = refl
find_shut name (b ∷ bs) =
    ap (λ (n : List ℕ). cond (bytes_eq n name) (Some (shut_bound b)) (find (λ b. bytes_eq (bound_name b) name) (map shut_bound bs))) (full_open b)
    ∙ at (bytes_eq (open_full b) name) (find_shut name bs)
  where
    at : (c : Bool) → find (λ b. bytes_eq (bound_name b) name) (map shut_bound bs) ≡ option_map shut_bound (find (λ b. bytes_eq (open_full b) name) bs)
        → cond c (Some (shut_bound b)) (find (λ b. bytes_eq (bound_name b) name) (map shut_bound bs))
        ≡ option_map shut_bound (cond c (Some b) (find (λ b. bytes_eq (open_full b) name) bs))
    at true e = refl
    at false e = e

pub type_open : (rs : List File) (name : List ℕ) → type_named (map file_record rs) name ≡ option_map shut_bound (open_type rs name)
unfolding type_named
type_open rs name = ap (find (λ b. bytes_eq (bound_name b) name)) (types_open rs) ∙ find_shut name (all_open rs)

-- ---- exact names

-- what the name is bound to, which is looked up where it is exact; the flag says whether it is
abbrev pub bound_by : Bool → List File → List ℕ → ℕ → List ℕ → Option Bound
bound_by true rs scope b bs = option_map shut_bound (open_type rs bs)
bound_by false rs scope b bs = type_from (map file_record rs) scope (b ∷ bs)

abbrev pub open_bound : List File → List ℕ → Option (List ℕ) → Option Bound
open_bound rs scope None = None
open_bound rs scope (Some []) = None
open_bound rs scope (Some (b ∷ bs)) = bound_by (b == 46) rs scope b bs

pub bound_open : (rs : List File) (scope : List ℕ) (name : Option (List ℕ)) → bound_if (map file_record rs) scope name ≡ open_bound rs scope name
unfolding bound
bound_open rs scope None = refl
bound_open rs scope (Some []) = refl
bound_open rs scope (Some (b ∷ bs)) = at (b == 46)
  where
    at : (c : Bool) → cond c (type_named (map file_record rs) bs) (type_from (map file_record rs) scope (b ∷ bs)) ≡ bound_by c rs scope b bs
    at true = type_open rs bs
    at false = refl

-- whether that is the entry of a map
abbrev pub is_open_entry : Option Open → Bool
is_open_entry None = false
is_open_entry (Some (open_message q)) = is_set (option_bool 7 q.item.options)
is_open_entry (Some (open_enum p)) = false

entry_open : (b : Option Open) → is_entry_type (option_map shut_bound b) ≡ is_open_entry b
entry_open None = refl
entry_open (Some (open_message q)) = ap (λ (l : Layer). is_set (option_bool 7 l.options)) (out-roll-DescriptorProto q.item)
entry_open (Some (open_enum p)) = refl

abbrev pub entry_by : Bool → List File → List ℕ → ℕ → List ℕ → Bool
entry_by true rs scope b bs = is_open_entry (open_type rs bs)
entry_by false rs scope b bs = is_entry_type (type_from (map file_record rs) scope (b ∷ bs))

abbrev pub has_entry : List File → List ℕ → Option (List ℕ) → Bool
has_entry rs scope None = false
has_entry rs scope (Some []) = false
has_entry rs scope (Some (b ∷ bs)) = entry_by (b == 46) rs scope b bs

pub entry_is : (rs : List File) (scope : List ℕ) (name : Option (List ℕ))
    → is_entry_type (bound_if (map file_record rs) scope name) ≡ has_entry rs scope name
entry_is rs scope None = refl
entry_is rs scope (Some []) = ap is_entry_type (bound_open rs scope (Some []))
entry_is rs scope (Some (b ∷ bs)) = ap is_entry_type (bound_open rs scope (Some (b ∷ bs))) ∙ at (b == 46)
  where
    at : (c : Bool) → is_entry_type (bound_by c rs scope b bs) ≡ entry_by c rs scope b bs
    at true = entry_open (open_type rs bs)
    at false = refl

-- its full name
full_name_open : (b : Option Open) → full_name_of (option_map shut_bound b) ≡ option_map open_full b
full_name_open None = refl
full_name_open (Some b) = ap Some (full_open b)

abbrev pub full_by : Bool → List File → List ℕ → ℕ → List ℕ → Option (List ℕ)
full_by true rs scope b bs = option_map open_full (open_type rs bs)
full_by false rs scope b bs = full_name_of (type_from (map file_record rs) scope (b ∷ bs))

abbrev pub full_of : List File → List ℕ → Option (List ℕ) → Option (List ℕ)
full_of rs scope None = None
full_of rs scope (Some []) = None
full_of rs scope (Some (b ∷ bs)) = full_by (b == 46) rs scope b bs

pub full_is : (rs : List File) (scope : List ℕ) (name : Option (List ℕ)) → full_name_of (bound_if (map file_record rs) scope name) ≡ full_of rs scope name
full_is rs scope None = refl
full_is rs scope (Some []) = ap full_name_of (bound_open rs scope (Some []))
full_is rs scope (Some (b ∷ bs)) = ap full_name_of (bound_open rs scope (Some (b ∷ bs))) ∙ at (b == 46)
  where
    at : (c : Bool) → full_name_of (bound_by c rs scope b bs) ≡ full_by c rs scope b bs
    at true = full_name_open (open_type rs bs)
    at false = refl
