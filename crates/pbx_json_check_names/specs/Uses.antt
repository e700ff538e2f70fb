-- What the JSON names of a message's fields are used for.
use Rattle.std.specs.Prelude.{ℕ, ◌==◌, List, [], ◌∷◌, Bool, true, false, not, ◌&&◌, ◌||◌, if◌then◌else◌, Option, Some, None}
use Rattle.std.specs.Str.{bytes_eq}
use Rattle.pbx_content.specs.declared.shape.FieldShape.{FieldShape}
use Rattle.pbx_json_meaning.specs.Clash.{lesser_key}
use Rattle.pbx_json_meaning.specs.Names.{name_is}
use Rattle.pbx_json_meaning.specs.Urls.{is_type_key}
use Rattle.pbx_json_check_names.specs.declared.uses.KeyUse.{KeyUse}
use Rattle.pbx_json_check_names.specs.declared.uses.KeyUse.TheVariants as use_of

-- the use of a key with one field more, an extension or not, of this number
abbrev pub with_use : Bool → ℕ → Option KeyUse → KeyUse
with_use true n None = use_of.Extension
with_use true n (Some (use_of.Own m)) = use_of.Clash
with_use true n (Some use_of.Extension) = use_of.Extension
with_use true n (Some use_of.Clash) = use_of.Clash
with_use false n None = use_of.Own n
with_use false n (Some (use_of.Own m)) = use_of.Clash
with_use false n (Some use_of.Extension) = use_of.Clash
with_use false n (Some use_of.Clash) = use_of.Clash

-- the use of a key by the JSON names of these fields too
abbrev pub used_by : List ℕ → List FieldShape → Option KeyUse → Option KeyUse
used_by q [] u = u
used_by q (f ∷ fs) u = used_by q fs (if bytes_eq f.json_name q then Some (with_use f.is_extension f.number u) else u)

-- a field of another number has the key
abbrev pub is_another : Option KeyUse → ℕ → Bool
is_another (Some (use_of.Own m)) n = not (n == m)
is_another u n = false

-- the field's name is not its JSON name, and is the key of another field, where it is used so
abbrev pub is_of_another : Option KeyUse → FieldShape → Bool
is_of_another u f = not f.is_extension && (not (bytes_eq f.name f.json_name) && is_another u f.number)

-- the use of a key by the name of this field too
abbrev pub named : List ℕ → FieldShape → Option KeyUse → Option KeyUse
named q f u = if name_is q f && is_of_another u f then Some use_of.Clash else u

-- the use of a key by the names of these fields too
abbrev pub named_by : List ℕ → List FieldShape → Option KeyUse → Option KeyUse
named_by q [] u = u
named_by q (f ∷ fs) u = named_by q fs (named q f u)

-- what a key is used for by these fields, as their JSON name and as their name
abbrev pub use_by_names : List ℕ → List FieldShape → Option KeyUse
use_by_names q fs = named_by q fs (used_by q fs None)

-- the key has two meanings
abbrev pub is_clash : Option KeyUse → Bool
is_clash None = false
is_clash (Some (use_of.Own n)) = false
is_clash (Some use_of.Extension) = false
is_clash (Some use_of.Clash) = true

-- the field's key has another meaning, where it is used so
abbrev pub is_clashing : Option KeyUse → FieldShape → Bool
is_clashing u f = not f.is_extension && (is_clash u || is_type_key f.json_name)

-- the least key with one field more
abbrev pub least_with : Bool → List ℕ → Option (List ℕ) → Option (List ℕ)
least_with b k l = if b then Some (lesser_key k l) else l
