-- What a message holds: values by field number, in ascending order, and the records that no field reads
-- (Protocol Buffers "Language Guide (proto 3)": Unknown Fields).
use Rattle.std.specs.Prelude.{ℕ, ◌<◌, ℤ, Bool, true, false, not, ◌&&◌, int_lt, List, [], ◌∷◌, Option, Some, None, ◌==◌, nat_lt, if◌then◌else◌}
use Rattle.pbx_wire.specs.declared.rec.Rec.{Rec}

-- ---- keys of maps

-- a key of a map: a truth value, a number or a text (Protocol Buffers "Language Guide (proto 3)": Maps)
pub data Key : Type 0 where
  truth_key : Bool → Key
  number_key : ℤ → Key
  text_key : List ℕ → Key

-- the first list is less by bytes, where a list is less than each longer one that it begins
abbrev pub bytes_before : List ℕ → List ℕ → Bool
bytes_before [] [] = false
bytes_before [] (b ∷ bs) = true
bytes_before (a ∷ as') [] = false
bytes_before (a ∷ as') (b ∷ bs) = if nat_lt a b then true else (if nat_lt b a then false else bytes_before as' bs)

-- false before true, numbers ascending, texts by their bytes; no map has keys of two sorts
abbrev pub key_before : Key → Key → Bool
key_before (truth_key a) (truth_key b) = not a && b
key_before (truth_key a) (number_key b) = true
key_before (truth_key a) (text_key b) = true
key_before (number_key a) (truth_key b) = false
key_before (number_key a) (number_key b) = int_lt a b
key_before (number_key a) (text_key b) = true
key_before (text_key a) (truth_key b) = false
key_before (text_key a) (number_key b) = false
key_before (text_key a) (text_key b) = bytes_before a b

-- ---- contents

mutual
  -- fields with their values, and the kept records in order of arrival
  pub data Content : Type 0 where
    content : Fields → List Rec → Content

  -- values by field number
  pub data Fields : Type 0 where
    no_fields : Fields
    field : ℕ → Val → Fields → Fields

  -- a value of a field: a number, a truth value, a text in UTF-8, bytes, a message, the values of a repeated field, or the pairs of a map
  pub data Val : Type 0 where
    number : ℤ → Val
    truth : Bool → Val
    text : List ℕ → Val
    octets : List ℕ → Val
    message : Content → Val
    many : Vals → Val
    keyed : Pairs → Val

  -- the values of a repeated field, in their order
  pub data Vals : Type 0 where
    no_vals : Vals
    val : Val → Vals → Vals

  -- the pairs of a map, by ascending key
  pub data Pairs : Type 0 where
    no_pairs : Pairs
    pair : Key → Val → Pairs → Pairs

-- the values by field number
abbrev pub fields : Content → Fields
fields (content fs ks) = fs

-- the records that no field reads
abbrev pub kept : Content → List Rec
kept (content fs ks) = ks

-- the content without its kept records, as values of types without a place for them are read
abbrev pub without_kept : Content → Content
without_kept (content fs ks) = content fs []

-- the content of a message that holds nothing
abbrev pub empty : Content
empty = content no_fields []

-- the value of a number; None where the field is absent (Protocol Buffers "Encoding": Missing Elements)
abbrev pub get : ℕ → Fields → Option Val
get n no_fields = None
get n (field m v fs) = if n == m then Some v else get n fs

-- the field has a value
abbrev pub has : ℕ → Fields → Bool
has n no_fields = false
has n (field m v fs) = if n == m then true else has n fs

-- the numbers ascend, and n is below the first
abbrev pub IsAbove : ℕ → Fields → Type 0
IsAbove n no_fields = Unit {0}
IsAbove n (field m v fs) = (n < m) × IsAbove m fs

-- the numbers ascend
abbrev pub IsAscending : Fields → Type 0
IsAscending no_fields = Unit {0}
IsAscending (field n v fs) = IsAbove n fs

-- the values of a repeated field, in their order
abbrev pub vals_of : List Val → Vals
vals_of [] = no_vals
vals_of (v ∷ vs) = val v (vals_of vs)

-- the pairs of a map, in their order
abbrev pub pairs_of : List (Key × Val) → Pairs
pairs_of [] = no_pairs
pairs_of (p ∷ ps) = pair p.0 p.1 (pairs_of ps)

-- ---- changes

-- the fields with v at n, before those of greater numbers
abbrev pub added : ℕ → Val → Fields → Fields
added n v no_fields = field n v no_fields
added n v (field m w fs) = if nat_lt n m then field n v (field m w fs) else field m w (added n v fs)

-- the fields without the first of number n
abbrev pub without : ℕ → Fields → Fields
without n no_fields = no_fields
without n (field m w fs) = if n == m then fs else field m w (without n fs)

-- the fields with v at n, in the place of what stands there
abbrev pub with_value : ℕ → Val → Fields → Fields
with_value n v fs = added n v (without n fs)

-- the fields with this at n, if there is a value, and with none if there is not
abbrev pub with_option : ℕ → Option Val → Fields → Fields
with_option n None fs = without n fs
with_option n (Some v) fs = with_value n v fs

-- the content with these fields and the same kept records
abbrev pub with_fields : Content → Fields → Content
with_fields (content fs ks) gs = content gs ks

-- the pairs with this one at its key, before those of greater keys; where the key is there, its pair stays
abbrev pub with_pair : Key → Val → Pairs → Pairs
with_pair k v no_pairs = pair k v no_pairs
with_pair k v (pair l w ps) =
    if key_before k l then pair k v (pair l w ps) else (if key_before l k then pair l w (with_pair k v ps) else pair l w ps)

-- the pairs by ascending key, of each key the last (Protocol Buffers "Language Guide (proto 3)": Maps)
abbrev pub by_key : List (Key × Val) → Pairs
by_key [] = no_pairs
by_key (p ∷ ps) = with_pair p.0 p.1 (by_key ps)
