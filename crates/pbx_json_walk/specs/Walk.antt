-- What the reader does, one key and one element after another: what it answers for each tree where something is asked of it.
use Rattle.std.specs.Prelude.{◌≡◌, ◌⊎◌, ℕ, ◌+◌, ℤ, List, [], ◌∷◌, ◌++◌, filter, Bool, true, false, not, ◌&&◌, if◌then◌else◌}
use Rattle.std.specs.Prelude.{Option, Some, None, option_map, Result, Ok, Err}
use Rattle.std.specs.BTreeSet.{BTreeSet, contains, insert_key}
use Rattle.std.specs.Ordering.{nat_cmp, int_cmp, is_lt}
use Rattle.std.specs.Cmp.Lexicographic.{slice_cmp}
use Rattle.serde_json.specs.Data.{Data, null, boolean, number, string, array, object, Items, no_items, item, Members, no_members, member}
use Rattle.pbx_content.specs.Content as content
use Rattle.pbx_content.specs.Content.{Content, Val, vals_of, Key, number_key, by_key, with_value, with_fields, fields, empty}
use Rattle.pbx_content.specs.Meaning.{shown}
use Rattle.pbx_content.specs.Shape.{declared_of}
use Rattle.pbx_content.specs.declared.shape.Kind.{Kind}
use Rattle.pbx_content.specs.declared.shape.Kind.TheVariants as kind
use Rattle.pbx_content.specs.declared.shape.Shape.{Shape}
use Rattle.pbx_content.specs.declared.shape.FieldShape.{FieldShape}
use Rattle.pbx_json_meaning.specs.Names.{field_named}
use Rattle.pbx_json_meaning.specs.Scalars.{scalar_read, key_read, if_ok}
use Rattle.pbx_json_meaning.specs.Urls.{is_type_key, is_value_key, without_type}
use Rattle.pbx_json_meaning.specs.Forms.{is_object_type, skips_keys, own_read, Own, whole, a_list, a_map, beside, under}
use Rattle.pbx_json_meaning.specs.Stands.{message_in}
use Rattle.pbx_json_walk.specs.Opened.{members_in, items_of_list, members_of_map}
use Rattle.pbx_json_meaning.specs.Asked.{Asked, field, one, root, Target, nothing, single, list, map, target, has_presence}
use Rattle.pbx_json_meaning.specs.declared.error.JsonError.{JsonError}
use Rattle.pbx_json_meaning.specs.declared.kind.JsonKind.{JsonKind}
use Rattle.pbx_json_meaning.specs.declared.kind.JsonKind.TheVariants as fault
use Rattle.pbx_json_meaning.specs.declared.place.Step.{Step}
use Rattle.pbx_json_meaning.specs.declared.place.Step.TheVariants.{Key as to_key, Index as to_index}

-- a value, or a fault and its place
abbrev pub Answer : Type 0 → Type 0
Answer X = Result X JsonError

-- what the reader answers for a tree, whatever is asked of it; `Ok None` is absent, or dropped
abbrev pub Answers : Type 0
Answers = Asked → Answer (Option Val)

-- a key, and what the reader answers for its tree
pub record Part : Type 0 where
  pub key : List ℕ
  pub answers : Answers

-- a fault of the tree itself
abbrev pub here : {X : Type 0} → JsonKind → Answer X
here k = Err (record { place = []; kind = k })

-- a rule that is broken is a fault of the tree itself
abbrev pub or_here : {X : Type 0} → Result X JsonKind → Answer X
or_here (Ok x) = Ok x
or_here (Err k) = here k

-- a fault below a step
abbrev pub below : Step → JsonError → JsonError
below s e = record { place = s ∷ e.place; kind = e.kind }

-- the answer for what stands at a step
abbrev pub at_step : {X : Type 0} → Step → Answer X → Answer X
at_step s (Ok x) = Ok x
at_step s (Err e) = Err (below s e)

-- what follows from a value
abbrev pub and_then : {X Y : Type 0} → Answer X → (X → Answer Y) → Answer Y
and_then (Ok x) f = f x
and_then (Err e) f = Err e

-- the answer with its value changed
abbrev pub answer_map : {X Y : Type 0} → (X → Y) → Answer X → Answer Y
answer_map f (Ok x) = Ok (f x)
answer_map f (Err e) = Err e

-- ---- the keys of an object

-- the keys ascend from above k
abbrev pub are_above : List ℕ → Members → Bool
are_above k no_members = true
are_above k (member l d ms) = is_lt (slice_cmp nat_cmp k l) && are_above l ms

-- the keys ascend, as those of each object that is read do
abbrev pub are_ascending : Members → Bool
are_ascending no_members = true
are_ascending (member k d ms) = are_above k ms

-- the answer for an object whose keys ascend; no other object is read
abbrev pub if_ascending : {X : Type 0} → Members → Answer X → Answer X
if_ascending ms a = if are_ascending ms then a else here fault.NoMemory

-- ---- the fields of an object

-- the numbers of the fields that a key named, the oneofs of which a member has a value, and the content so far
pub record State : Type 0 where
  pub seen : BTreeSet ℕ
  pub taken : BTreeSet ℕ
  pub found : Content

-- nothing was named
abbrev pub start : State
start = record { seen = record { keys = [] }; taken = record { keys = [] }; found = empty }

-- the content with v at n
abbrev pub with_found : ℕ → Val → Content → Content
with_found n v c = with_fields c (with_value n v (fields c))

-- a member of the oneof has a value
abbrev pub is_taken : Option ℕ → BTreeSet ℕ → Bool
is_taken None taken = false
is_taken (Some o) taken = contains nat_cmp taken o

-- with a value of a member of the oneof
abbrev pub with_oneof : Option ℕ → BTreeSet ℕ → BTreeSet ℕ
with_oneof None taken = taken
with_oneof (Some o) taken = record { keys = insert_key nat_cmp taken.keys o }

-- with the field's number
abbrev pub with_number : ℕ → BTreeSet ℕ → BTreeSet ℕ
with_number n seen = record { keys = insert_key nat_cmp seen.keys n }

-- with what is answered for a field
abbrev pub noted : FieldShape → State → Option Val → Answer State
noted f s None = Ok (record { seen = with_number f.number s.seen; taken = s.taken; found = s.found })
noted f s (Some v) =
    if is_taken f.oneof s.taken then here fault.OneofTwice
    else Ok (record { seen = with_number f.number s.seen; taken = with_oneof f.oneof s.taken; found = with_found f.number v s.found })

-- the field that a key names, if it may be read; None where the key is skipped
abbrev pub key_judged : Bool → Option FieldShape → State → Result (Option FieldShape) JsonKind
key_judged allow None s = if allow then Ok None else Err fault.UnknownField
key_judged allow (Some f) s = if contains nat_cmp s.seen f.number then Err fault.DuplicateField else Ok (Some f)

-- what the tree of a key does
abbrev pub field_turn : Answers → State → Option FieldShape → Answer State
field_turn answers s None = Ok s
field_turn answers s (Some f) = and_then (answers (field f)) (noted f s)

-- what one key does
abbrev pub turn : Bool → Option FieldShape → Answers → State → Answer State
turn allow o answers s = and_then (or_here (key_judged allow o s)) (field_turn answers s)

-- what all keys do, one after another
abbrev pub walk : Bool → List FieldShape → List Part → State → Answer State
walk allow fs [] s = Ok s
walk allow fs (p ∷ ps) s = and_then (at_step (to_key p.key) (turn allow (field_named p.key fs) p.answers s)) (walk allow fs ps)

-- the content that was found
abbrev pub content_found : State → Content
content_found s = s.found

-- the content that the members of a message say
abbrev pub members_answer : Bool → List FieldShape → List Part → Members → Answer Content
members_answer allow fs ps ms = if_ascending ms (answer_map content_found (walk allow fs ps start))

-- ---- lists

-- the values with this one, if there is one
abbrev pub with_present : Option Val → List Val → List Val
with_present None vs = vs
with_present (Some v) vs = vs ++ v ∷ []

-- what one element does
abbrev pub item_turn : Kind → ℕ → Answers → List Val → Answer (List Val)
item_turn k i a vs = at_step (to_index i) (answer_map (λ o. with_present o vs) (a (one k)))

-- what the elements from an index on do, one after another
abbrev pub walk_items : Kind → ℕ → List Answers → List Val → Answer (List Val)
walk_items k i [] vs = Ok vs
walk_items k i (a ∷ as') vs = and_then (item_turn k i a vs) (walk_items k (i + 1) as')

-- the values as a list
abbrev pub list_value : List Val → Option Val
list_value vs = Some (content.many (vals_of vs))

-- the list that the elements say
abbrev pub elements_answer : Kind → List Answers → Items → Answer (Option Val)
elements_answer k as' ds = answer_map list_value (walk_items k 0 as' [])

-- a list
abbrev pub list_answer : Kind → Data → List Answers → Answer (Option Val)
list_answer k d as' = and_then (or_here (items_of_list k d)) (elements_answer k as')

-- ---- maps

-- the numbers that keys were read as, and the pairs so far in the order of their texts
pub record Entries : Type 0 where
  pub numbers : BTreeSet ℤ
  pub pairs : List (Key × Val)

-- no entry was read
abbrev pub no_entries : Entries
no_entries = record { numbers = record { keys = [] }; pairs = [] }

-- a key was read as the same number
abbrev pub is_used : Key → BTreeSet ℤ → Bool
is_used (number_key z) numbers = contains int_cmp numbers z
is_used _ numbers = false

-- with the number of a key
abbrev pub with_used : Key → BTreeSet ℤ → BTreeSet ℤ
with_used (number_key z) numbers = record { keys = insert_key int_cmp numbers.keys z }
with_used _ numbers = numbers

-- the pairs with this one, if there is a value
abbrev pub with_pair_of : Key → Option Val → List (Key × Val) → List (Key × Val)
with_pair_of k None ps = ps
with_pair_of k (Some v) ps = ps ++ (k, v) ∷ []

-- the number that a key is
abbrev pub number_of_key : Key → Option ℤ
number_of_key (number_key z) = Some z
number_of_key _ = None

-- the entries with one more
abbrev pub with_entry : Key → Entries → Option Val → Entries
with_entry k es o = record { numbers = with_used k es.numbers; pairs = with_pair_of k o es.pairs }

-- the key as the key of a map, unless one before it was read alike
abbrev pub unless_used : Entries → Key → Result Key JsonKind
unless_used es k = if is_used k es.numbers then Err fault.DuplicateKey else Ok k

-- what a key is
abbrev pub entry_key : Kind → List ℕ → Entries → Result Key JsonKind
entry_key kk key es = if_ok (key_read kk key) (unless_used es)

-- what the tree of a key does
abbrev pub value_turn : Kind → Answers → Entries → Key → Answer Entries
value_turn vk answers es k = answer_map (with_entry k es) (answers (one vk))

-- what one entry does
abbrev pub entry_turn : Kind → Kind → List ℕ → Answers → Entries → Answer Entries
entry_turn kk vk key answers es = and_then (or_here (entry_key kk key es)) (value_turn vk answers es)

-- what all entries do, one after another
abbrev pub walk_entries : Kind → Kind → List Part → Entries → Answer Entries
walk_entries kk vk [] es = Ok es
walk_entries kk vk (p ∷ ps) es = and_then (at_step (to_key p.key) (entry_turn kk vk p.key p.answers es)) (walk_entries kk vk ps)

-- the entries by ascending key
abbrev pub map_value : Entries → Option Val
map_value es = Some (content.keyed (by_key es.pairs))

-- the map that the members say
abbrev pub entries_answer : Kind → Kind → List Part → Members → Answer (Option Val)
entries_answer kk vk ps ms = if_ascending ms (answer_map map_value (walk_entries kk vk ps no_entries))

-- a map
abbrev pub map_answer : Kind → Kind → Data → List Part → Answer (Option Val)
map_answer kk vk d ps = and_then (or_here (members_of_map vk d)) (entries_answer kk vk ps)

-- ---- payloads

-- the keys but that of the type of an `Any`
abbrev pub beside_type : List Part → List Part
beside_type ps = filter (λ p. not (is_type_key p.key)) ps

-- the message that was read
abbrev pub message_found : Option Val → Option Content
message_found o = message_in (Some o)

-- what one key beside a payload of a kind does, which stands under `value`
abbrev pub payload_turn : Bool → Kind → List ℕ → Answers → Option Content → Answer (Option Content)
payload_turn allow k key answers found =
    if is_type_key key then Ok found
    else if is_value_key key then answer_map message_found (answers (one k)) else if allow then Ok found else here fault.UnknownField

-- what all keys do, one after another
abbrev pub walk_payload : Bool → Kind → List Part → Option Content → Answer (Option Content)
walk_payload allow k [] found = Ok found
walk_payload allow k (p ∷ ps) found = and_then (at_step (to_key p.key) (payload_turn allow k p.key p.answers found)) (walk_payload allow k ps)

-- the payload that was found
abbrev pub payload_found : Option Content → Answer Content
payload_found None = here fault.AnyValue
payload_found (Some c) = Ok c

-- the payload that the members say
abbrev pub payload_answer : Bool → Kind → List Part → Members → Answer Content
payload_answer allow k ps ms = if_ascending ms (and_then (walk_payload allow k ps None) payload_found)

-- the message that the members beside the type say
abbrev pub beside_answer : Bool → List FieldShape → List Part → Members → Answer Content
beside_answer allow fs ps ms = members_answer allow fs (beside_type ps) (without_type ms)

-- ---- one value

-- a message of a form of its own; an empty list and an empty map are absent
abbrev pub own_answer : Shape → Result Own JsonKind → Data → List Answers → List Part → Answer Content
own_answer shape (Err k) d as' ps = here k
own_answer shape (Ok (whole c)) d as' ps = Ok c
own_answer shape (Ok (a_list k wrap)) d as' ps = answer_map wrap (answer_map (shown shape false k) (list_answer k d as'))
own_answer shape (Ok (a_map k wrap)) d as' ps = answer_map wrap (answer_map (shown shape false k) (map_answer kind.String k d ps))
own_answer shape (Ok (beside allow fs wrap)) d as' ps = answer_map wrap (and_then (or_here (members_in d)) (beside_answer allow fs ps))
own_answer shape (Ok (under allow k wrap)) d as' ps = answer_map wrap (and_then (or_here (members_in d)) (payload_answer allow k ps))

-- a message: an object of fields, or what the type's own form reads
abbrev pub message_answer : Shape → Bool → ℕ → Data → List Answers → List Part → Answer Content
message_answer shape allow t d as' ps =
    if is_object_type shape t then and_then (or_here (members_in d)) (members_answer (skips_keys shape allow t) (declared_of shape t) ps)
    else own_answer shape (own_read shape allow t d) d as' ps

-- a message as a value
abbrev pub as_value : Content → Option Val
as_value c = Some (content.message c)

-- one value of a kind
abbrev pub value_answer : Shape → Bool → Kind → Data → List Answers → List Part → Answer (Option Val)
value_answer shape allow (kind.Message t) d as' ps = answer_map as_value (message_answer shape allow t d as' ps)
value_answer shape allow k d as' ps = or_here (scalar_read shape allow k d)

-- ---- all trees

-- by what is to be read
abbrev pub target_answer : Shape → Bool → Target → Data → List Answers → List Part → Answer (Option Val)
target_answer shape allow nothing d as' ps = Ok None
target_answer shape allow (single k) d as' ps = value_answer shape allow k d as' ps
target_answer shape allow (list k) d as' ps = list_answer k d as'
target_answer shape allow (map kk vk) d as' ps = map_answer kk vk d ps

-- what is shown of a value where it is asked for
abbrev pub shown_as : Shape → Asked → Option Val → Option Val
shown_as shape (field f) o = shown shape (has_presence f) f.kind o
shown_as shape (one k) o = o

-- the answer for a tree, with those for the trees inside it
abbrev pub answer : Shape → Bool → Data → List Answers → List Part → Answers
answer shape allow d as' ps asked = answer_map (shown_as shape asked) (target_answer shape allow (target shape d asked) d as' ps)

abbrev mutual
  -- what the reader answers for a tree
  pub answers : Shape → Bool → Data → Answers
  answers shape allow null = answer shape allow null [] []
  answers shape allow (boolean b) = answer shape allow (boolean b) [] []
  answers shape allow (number n) = answer shape allow (number n) [] []
  answers shape allow (string s) = answer shape allow (string s) [] []
  answers shape allow (array ds) = answer shape allow (array ds) (items_answers shape allow ds) []
  answers shape allow (object ms) = answer shape allow (object ms) [] (parts shape allow ms)

  -- for each element
  pub items_answers : Shape → Bool → Items → List Answers
  items_answers shape allow no_items = []
  items_answers shape allow (item d ds) = answers shape allow d ∷ items_answers shape allow ds

  -- for the tree of each key
  pub parts : Shape → Bool → Members → List Part
  parts shape allow no_members = []
  parts shape allow (member k d ms) = record { key = k; answers = answers shape allow d } ∷ parts shape allow ms

-- the parts of a tree that is an array or an object
abbrev pub elements_in : Shape → Bool → Data → List Answers
elements_in shape allow (array ds) = items_answers shape allow ds
elements_in shape allow _ = []

-- the keys of a tree that is an object
abbrev pub parts_in : Shape → Bool → Data → List Part
parts_in shape allow (object ms) = parts shape allow ms
parts_in shape allow _ = []

-- what the error tells of a tree whose answer this is: that memory ran out, or the fault
abbrev pub IsFaultOf : {X : Type 0} → Answer X → JsonError → Type 0
IsFaultOf a e = (e.kind ≡ fault.NoMemory) ⊎ (a ≡ Err e)
