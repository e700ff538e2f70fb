-- Which content a tree stands for: said for each field over the whole object (ProtoJSON Format). None is a fault, so at most one content stands
-- for a tree.
use Rattle.std.specs.Prelude.{◌≡◌, ℕ, ◌==◌, List, [], ◌∷◌, filter, find, Bool, true, false, not, ◌&&◌, ◌||◌, if◌then◌else◌, nat_lt}
use Rattle.std.specs.Prelude.{Option, Some, None, option_map, option_and_then, Result, Ok, Err}
use Rattle.std.specs.List.{list_all, list_any}
use Rattle.serde_json.specs.Data.{Data, null, boolean, number, string, array, object, Items, no_items, item, Members, no_members, member}
use Rattle.pbx_content.specs.Content as content
use Rattle.pbx_content.specs.Content.{Content, Fields, no_fields, field as field_of_number, Val, Vals, Pairs, no_pairs, pair, vals_of, Key}
use Rattle.pbx_content.specs.Content.{key_before, with_pair, empty as empty_content}
use Rattle.pbx_content.specs.declared.shape.Kind.{Kind}
use Rattle.pbx_content.specs.declared.shape.Kind.TheVariants as kind
use Rattle.pbx_content.specs.declared.shape.Shape.{Shape}
use Rattle.pbx_content.specs.declared.shape.FieldShape.{FieldShape}
use Rattle.pbx_content.specs.Shape.{declared_of, is_float}
use Rattle.pbx_content.specs.Meaning.{shown}
use Rattle.pbx_content.specs.Sound.{has_one_member}
use Rattle.pbx_json_meaning.specs.Names.{field_named}
use Rattle.pbx_json_meaning.specs.Scalars.{scalar_read, key_read}
use Rattle.pbx_json_meaning.specs.Asked.{Asked, field, one, root, Target, nothing, single, list, map, target, has_presence}
use Rattle.pbx_json_meaning.specs.Urls.{is_type_key, is_value_key, is_type_or_value}
use Rattle.pbx_json_meaning.specs.Forms.{is_object_type, skips_keys, own_read, Own, whole, a_list, a_map, beside, under}
use Rattle.pbx_json_meaning.specs.declared.kind.JsonKind.{JsonKind}

-- What a tree says where something is asked of it: None is a fault, and `Some None` is absent, or dropped. Without presence a default is absent.
abbrev pub Reading : Type 0
Reading = Option (Option Val)

-- what a tree says, whatever is asked of it
abbrev pub Says : Type 0
Says = Asked → Reading

-- a key, and what its tree says
pub record Entry : Type 0 where
  pub key : List ℕ
  pub says : Says

-- the value of a result
abbrev pub ok_of : {X E : Type 0} → Result X E → Option X
ok_of (Ok x) = Some x
ok_of (Err e) = None

-- ---- the fields of an object

-- the key names a field, or keys that name nothing are allowed
abbrev pub is_known_key : Bool → Option FieldShape → Bool
is_known_key allow None = allow
is_known_key allow (Some f) = true

-- unless unknown fields are allowed, every key names a field
abbrev pub all_known : Bool → List FieldShape → List Entry → Bool
all_known allow fs es = list_all (λ e. is_known_key allow (field_named e.key fs)) es

-- with what this key's tree says, where the key names the number's field
abbrev pub told_by : Option FieldShape → ℕ → Entry → List Reading → List Reading
told_by None n e rs = rs
told_by (Some f) n e rs = if f.number == n then e.says (field f) ∷ rs else rs

-- what the keys that name a number's field say for it
abbrev pub told : List FieldShape → ℕ → List Entry → List Reading
told fs n [] = []
told fs n (e ∷ es) = told_by (field_named e.key fs) n e (told fs n es)

-- no key is absent, and two keys are a fault
abbrev pub only : List Reading → Reading
only [] = Some None
only (r ∷ []) = r
only (r ∷ (_ ∷ rs)) = None

-- the fields, with v at n
abbrev pub put : ℕ → Val → Fields → Fields
put n v no_fields = field_of_number n v no_fields
put n v (field_of_number m w fs) =
    if nat_lt n m then field_of_number n v (field_of_number m w fs) else (if n == m then field_of_number n v fs else field_of_number m w (put n v fs))

-- the fields with what is said at n
abbrev pub with_reading : ℕ → Reading → Option Fields → Option Fields
with_reading n None fs = None
with_reading n (Some None) fs = fs
with_reading n (Some (Some v)) fs = option_map (put n v) fs

-- each field with what is said for it
abbrev pub gathered : (ℕ → Reading) → List FieldShape → Option Fields
gathered says [] = Some no_fields
gathered says (f ∷ fs) = with_reading f.number (says f.number) (gathered says fs)

-- a value is there
abbrev pub is_there : {X : Type 0} → Option X → Bool
is_there None = false
is_there (Some x) = true

-- of each oneof at most one member has a value (Protocol Buffers "Language Guide (proto 3)": Oneof)
abbrev pub if_oneofs : List FieldShape → Fields → Option Content
if_oneofs fs found = if has_one_member fs found then Some (content.content found []) else None

-- the content of a message of these fields that the keys say
abbrev pub message_of : Bool → List FieldShape → List Entry → Option Content
message_of allow fs es = if all_known allow fs es then option_and_then (if_oneofs fs) (gathered (λ n. only (told fs n es)) fs) else None

-- ---- lists and maps

-- the readings of all, if none is a fault
abbrev pub all_read : {X Y : Type 0} → (X → Option Y) → List X → Option (List Y)
all_read f [] = Some []
all_read f (x ∷ xs) = option_and_then (λ y. option_map (λ ys. y ∷ ys) (all_read f xs)) (f x)

-- those that were not dropped
abbrev pub present : List (Option Val) → List Val
present [] = []
present (None ∷ os) = present os
present (Some v ∷ os) = v ∷ present os

-- the elements of a list
abbrev pub elements_read : Kind → List Says → Reading
elements_read k items = option_map (λ os. Some (content.many (vals_of (present os)))) (all_read (λ says. says (one k)) items)

-- the entries with one more, unless its value was dropped
abbrev pub with_entry : Key × Option Val → Pairs → Pairs
with_entry (k, None) ps = ps
with_entry (k, Some v) ps = with_pair k v ps

-- the entries in the order of their keys, without those whose value was dropped
abbrev pub pairs_of : List (Key × Option Val) → Pairs
pairs_of [] = no_pairs
pairs_of (e ∷ es) = with_entry e (pairs_of es)

-- two keys read alike
abbrev pub is_alike : Key → Key → Bool
is_alike k l = not (key_before k l) && not (key_before l k)

-- no two keys read alike, also where a value is dropped
abbrev pub all_differ : List (Key × Option Val) → Bool
all_differ [] = true
all_differ (e ∷ es) = not (list_any (λ o. is_alike e.0 o.0) es) && all_differ es

-- a key and its value, if both are read
abbrev pub entry_read : Kind → Kind → Entry → Option (Key × Option Val)
entry_read kk vk e = option_and_then (λ k. option_map (λ v. (k, v)) (e.says (one vk))) (ok_of (key_read kk e.key))

-- the entries, where no two keys read alike
abbrev pub if_differ : List (Key × Option Val) → Reading
if_differ es = if all_differ es then Some (Some (content.keyed (pairs_of es))) else None

-- the entries of a map
abbrev pub entries_read : Kind → Kind → List Entry → Reading
entries_read kk vk es = option_and_then if_differ (all_read (entry_read kk vk) es)

-- ---- all trees

-- what an object is
abbrev pub object_of : (List Entry → Option Content) → Data → List Entry → Option Content
object_of f (object ms) es = f es
object_of f _ es = None

-- a message as a value
abbrev pub as_message : Option Content → Reading
as_message o = option_map (λ c. Some (content.message c)) o

-- the message that was read
abbrev pub message_in : Reading → Option Content
message_in (Some (Some (content.message c))) = Some c
message_in _ = None

-- what an array is as a list; of floats the empty one alone
abbrev pub list_as : Kind → Data → List Says → Reading
list_as k (array no_items) items = Some None
list_as k (array (item d ds)) items = if is_float k then None else elements_read k items
list_as k _ items = None

-- what an object is as a map; of floats the empty one alone
abbrev pub map_as : Kind → Kind → Data → List Entry → Reading
map_as kk vk (object no_members) es = Some None
map_as kk vk (object (member k d ms)) es = if is_float vk then None else entries_read kk vk es
map_as kk vk _ es = None

-- the entries but that of the type of an `Any`
abbrev pub beside_type : List Entry → List Entry
beside_type es = filter (λ e. not (is_type_key e.key)) es

-- what the entry `value` says as a message
abbrev pub value_said : Kind → List Entry → Option Content
value_said k es = option_and_then (λ e. message_in (e.says (one k))) (find (λ e. is_value_key e.key) es)

-- the same, where beside it and the type no other entry stands, or others are skipped
abbrev pub payload_said : Bool → Kind → List Entry → Option Content
payload_said allow k es = if allow || list_all (λ e. is_type_or_value e.key) es then value_said k es else None

-- what a tree is as a message of a form of its own; an empty list and an empty map are absent
abbrev pub own_as : Shape → Result Own JsonKind → Data → List Says → List Entry → Option Content
own_as shape (Err k) d items es = None
own_as shape (Ok (whole c)) d items es = Some c
own_as shape (Ok (a_list k wrap)) d items es = option_map wrap (option_map (shown shape false k) (list_as k d items))
own_as shape (Ok (a_map k wrap)) d items es = option_map wrap (option_map (shown shape false k) (map_as kind.String k d es))
own_as shape (Ok (beside allow fs wrap)) d items es = option_map wrap (object_of (message_of allow fs) d (beside_type es))
own_as shape (Ok (under allow k wrap)) d items es = option_map wrap (object_of (payload_said allow k) d es)

-- what a tree is as a message: an object of fields, or what the type's own form reads
abbrev pub message_as : Shape → Bool → ℕ → Data → List Says → List Entry → Option Content
message_as shape allow t d items es =
    if is_object_type shape t then object_of (message_of (skips_keys shape allow t) (declared_of shape t)) d es
    else own_as shape (own_read shape allow t d) d items es

-- what a tree is as one value of a kind
abbrev pub value_as : Shape → Bool → Kind → Data → List Says → List Entry → Reading
value_as shape allow (kind.Message t) d items es = as_message (message_as shape allow t d items es)
value_as shape allow k d items es = ok_of (scalar_read shape allow k d)

-- what is read of a tree, with what the trees inside it say
abbrev pub read_as : Shape → Bool → Target → Data → List Says → List Entry → Reading
read_as shape allow nothing d items es = Some None
read_as shape allow (single k) d items es = value_as shape allow k d items es
read_as shape allow (list k) d items es = list_as k d items
read_as shape allow (map kk vk) d items es = map_as kk vk d es

-- without presence a field's default is absent, as are an empty list and an empty map
abbrev pub shown_for : Shape → Asked → Reading → Reading
shown_for shape (field f) r = option_map (shown shape (has_presence f) f.kind) r
shown_for shape (one k) r = r

-- what a tree says, with what the trees inside it say
abbrev pub read : Shape → Bool → Data → List Says → List Entry → Says
read shape allow d items es asked = shown_for shape asked (read_as shape allow (target shape d asked) d items es)

abbrev mutual
  -- what a tree says where something is asked of it
  pub said : Shape → Bool → Data → Says
  said shape allow null = read shape allow null [] []
  said shape allow (boolean b) = read shape allow (boolean b) [] []
  said shape allow (number n) = read shape allow (number n) [] []
  said shape allow (string s) = read shape allow (string s) [] []
  said shape allow (array ds) = read shape allow (array ds) (items_said shape allow ds) []
  said shape allow (object ms) = read shape allow (object ms) [] (entries_said shape allow ms)

  -- what each element says
  pub items_said : Shape → Bool → Items → List Says
  items_said shape allow no_items = []
  items_said shape allow (item d ds) = said shape allow d ∷ items_said shape allow ds

  -- each key with what its tree says
  pub entries_said : Shape → Bool → Members → List Entry
  entries_said shape allow no_members = []
  entries_said shape allow (member k d ms) = record { key = k; says = said shape allow d } ∷ entries_said shape allow ms

-- the content that the tree stands for as a message of the type at a place of the shape; `allow` skips keys that name nothing
abbrev pub content_for : Shape → ℕ → Bool → Data → Option Content
content_for shape t allow d = message_in (said shape allow d (root t))

-- the tree stands for the content
abbrev pub Stands : Shape → ℕ → Bool → Data → Content → Type 0
Stands shape t allow d c = content_for shape t allow d ≡ Some c
