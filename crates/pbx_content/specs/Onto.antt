-- What records mean that come behind a content: as if they stood behind records that mean the content (Protocol Buffers "Encoding": Last One Wins).
-- Levels are counted in the new records alone.
use Rattle.std.specs.Prelude.{ℕ, zero, suc, List, [], ◌∷◌, ◌++◌, map, filter, false, Option, Some, None, option_map, option_and_then, if◌then◌else◌}
use Rattle.pbx_wire.specs.declared.rec.Rec.{Rec}
use Rattle.pbx_content.specs.declared.shape.Kind.{Kind}
use Rattle.pbx_content.specs.declared.shape.Kind.TheVariants as kind
use Rattle.pbx_content.specs.declared.shape.Cardinality.{Cardinality}
use Rattle.pbx_content.specs.declared.shape.Cardinality.TheVariants.{Singular, Repeated, Map}
use Rattle.pbx_content.specs.declared.shape.Shape.{Shape}
use Rattle.pbx_content.specs.declared.shape.FieldShape.{FieldShape}
use Rattle.pbx_content.specs.Content.{Key, Content, content, empty, get, kept, fields, Fields, no_fields, Val, message, many, keyed, Vals, no_vals, val}
use Rattle.pbx_content.specs.Content.{Pairs, no_pairs, pair, vals_of, by_key}
use Rattle.pbx_content.specs.Records.{bytes_of, those_of, last_of, each, flat, after_last, any, records_in}
use Rattle.pbx_content.specs.Shape.{fields_of, is_float, is_kept, is_rival}
use Rattle.pbx_content.specs.Meaning.{Inner, no_inner, alone, spread, shown, pair_in, entry_in, value, with_field, records_of}

-- ---- what is there

-- the elements of a list, as a list
abbrev pub list_of : Vals → List Val
list_of no_vals = []
list_of (val v vs) = v ∷ list_of vs

-- the pairs of a map, as a list
abbrev pub pair_list : Pairs → List (Key × Val)
pair_list no_pairs = []
pair_list (pair k v ps) = (k, v) ∷ pair_list ps

-- the elements that a field has
abbrev pub elements : Option Val → List Val
elements (Some (many vs)) = list_of vs
elements _ = []

-- the pairs that a field has
abbrev pub pairs_held : Option Val → List (Key × Val)
pairs_held (Some (keyed ps)) = pair_list ps
pairs_held _ = []

-- the message that a field has, or one that holds nothing
abbrev pub message_held : Option Val → Content
message_held (Some (message c)) = c
message_held _ = empty

-- what a field has, unless a record of another member of its oneof comes
abbrev pub still : List FieldShape → FieldShape → List Rec → Option Val → Option Val
still fs f rs old = if any (is_rival fs f) rs then None else old

-- ---- what comes

-- What payloads mean together as a message with these fields, behind a content.
abbrev pub InnerOnto : Type 0
InnerOnto = List FieldShape → Content → List (List ℕ) → Option Content

-- the same behind nothing
abbrev pub from_empty : InnerOnto → Inner
from_empty inner fs bs = inner fs empty bs

-- the last value, or the old one where none came (Protocol Buffers "Encoding": Last One Wins)
abbrev pub latest : Shape → FieldShape → Option Val → Option Val → Option Val
latest shape f old None = old
latest shape f old (Some v) = shown shape f.presence f.kind (Some v)

-- a message of payloads behind the old one, which stays where no payload came (Protocol Buffers "Encoding": Last One Wins)
abbrev pub joined_onto : InnerOnto → List FieldShape → Option Val → List (List ℕ) → Option (Option Val)
joined_onto inner fs old [] = Some old
joined_onto inner fs old (b ∷ bs) = option_map (λ c. Some (message c)) (inner fs (message_held old) (b ∷ bs))

-- the value of a field of at most one
abbrev pub singular_onto : Shape → InnerOnto → FieldShape → Kind → Option Val → List Rec → Option (Option Val)
singular_onto shape inner f (kind.Message t) old rs = option_and_then (joined_onto inner (fields_of shape t) old) (each bytes_of rs)
singular_onto shape inner f k old rs = option_map (λ vs. latest shape f old (last_of vs)) (each (alone shape no_inner k) rs)

-- a single value, the old elements and then the new, or the pairs of both, of each key the last
abbrev pub onto_by_cardinality : Shape → InnerOnto → FieldShape → Cardinality → Option Val → List Rec → Option (Option Val)
onto_by_cardinality shape inner f Singular old rs = singular_onto shape inner f f.kind old rs
onto_by_cardinality shape inner f Repeated old rs =
    option_map (λ vs. shown shape false f.kind (Some (many (vals_of (elements old ++ flat vs))))) (each (spread shape (from_empty inner) f.kind) rs)
onto_by_cardinality shape inner f (Map key) old rs =
    option_map (λ cs. shown shape false f.kind (Some (keyed (by_key (pairs_held old ++ map (pair_in shape key f.kind) cs)))))
    (each (entry_in (from_empty inner) key f.kind) rs)

-- the value of a field with its records behind what it has
abbrev pub value_onto : Shape → InnerOnto → FieldShape → Option Val → List Rec → Option (Option Val)
value_onto shape inner f old rs = if is_float f.kind then Some None else onto_by_cardinality shape inner f f.cardinality old rs

-- Each record of the field has its form, and those after the last of another member of its oneof count.
abbrev pub value_onto_among : Shape → InnerOnto → List FieldShape → FieldShape → Option Val → List Rec → Option (Option Val)
value_onto_among shape inner fs f old rs =
    option_and_then (λ all. value_onto shape inner f (still fs f rs old) (those_of f.number (after_last (is_rival fs f) rs)))
    (value shape (from_empty inner) f (those_of f.number rs))

-- the values of these fields, of all fields of the type
abbrev pub values_onto : Shape → InnerOnto → List FieldShape → List FieldShape → Fields → List Rec → Option Fields
values_onto shape inner all [] old rs = Some no_fields
values_onto shape inner all (f ∷ fs) old rs =
    option_and_then (λ v. option_map (with_field f.number v) (values_onto shape inner all fs old rs)) (value_onto_among shape inner all f (get f.number old) rs)

-- the values of the fields, and the kept records behind the old ones
abbrev pub layer_onto : Shape → InnerOnto → List FieldShape → Content → List Rec → Option Content
layer_onto shape inner fs old rs = option_map (λ vs. content vs (kept old ++ filter (is_kept fs) rs)) (values_onto shape inner fs fs (fields old) rs)

-- what the records mean behind the content, with at most so many levels of messages and map entries below
unfoldable pub meaning_onto : Shape → ℕ → List FieldShape → Content → List Rec → Option Content
meaning_onto shape zero fs old rs = layer_onto shape (λ gs c bs. None) fs old rs
meaning_onto shape (suc levels) fs old rs = layer_onto shape (λ gs c bs. option_and_then (meaning_onto shape levels gs c) (records_of levels bs)) fs old rs

-- what bytes mean behind the content of a type, with at most 100 levels of their own below the top
abbrev pub merged_of : Shape → ℕ → Content → List ℕ → Option Content
merged_of shape t old bytes = option_and_then (meaning_onto shape 100 (fields_of shape t) old) (records_in 100 bytes)
