-- What is inside a content, at every depth: how long bytes are, and whether records are kept.
use Rattle.std.specs.Prelude.{◌≡◌, ℕ, ◌<◌, [], length}
use Rattle.pbx_content.specs.Content.{Content, content, Fields, no_fields, field, Val, number, truth, text, octets, message, many, keyed, Vals, no_vals, val}
use Rattle.pbx_content.specs.Content.{Pairs, no_pairs, pair}

-- ---- bytes

abbrev mutual
  -- each value of bytes has fewer than n bytes, at every depth; texts and kept records are not looked at
  pub AreShorter : ℕ → Content → Type 0
  AreShorter n (content fs ks) = AreFieldsShorter n fs

  -- the same of the fields' values
  pub AreFieldsShorter : ℕ → Fields → Type 0
  AreFieldsShorter n no_fields = Unit {0}
  AreFieldsShorter n (field m v fs) = IsValShorter n v × AreFieldsShorter n fs

  -- the same of one value
  pub IsValShorter : ℕ → Val → Type 0
  IsValShorter n (number z) = Unit {0}
  IsValShorter n (truth b) = Unit {0}
  IsValShorter n (text s) = Unit {0}
  IsValShorter n (octets b) = length b < n
  IsValShorter n (message c) = AreShorter n c
  IsValShorter n (many vs) = AreValsShorter n vs
  IsValShorter n (keyed ps) = ArePairsShorter n ps

  -- the same of the elements of a list
  pub AreValsShorter : ℕ → Vals → Type 0
  AreValsShorter n no_vals = Unit {0}
  AreValsShorter n (val v vs) = IsValShorter n v × AreValsShorter n vs

  -- the same of the values of a map
  pub ArePairsShorter : ℕ → Pairs → Type 0
  ArePairsShorter n no_pairs = Unit {0}
  ArePairsShorter n (pair k v ps) = IsValShorter n v × ArePairsShorter n ps

-- ---- kept records

abbrev mutual
  -- no record is kept, at any depth
  pub HasNoKept : Content → Type 0
  HasNoKept (content fs ks) = FieldsHaveNoKept fs × (ks ≡ [])

  -- the same of the fields' values
  pub FieldsHaveNoKept : Fields → Type 0
  FieldsHaveNoKept no_fields = Unit {0}
  FieldsHaveNoKept (field m v fs) = ValHasNoKept v × FieldsHaveNoKept fs

  -- the same of one value
  pub ValHasNoKept : Val → Type 0
  ValHasNoKept (number z) = Unit {0}
  ValHasNoKept (truth b) = Unit {0}
  ValHasNoKept (text s) = Unit {0}
  ValHasNoKept (octets b) = Unit {0}
  ValHasNoKept (message c) = HasNoKept c
  ValHasNoKept (many vs) = ValsHaveNoKept vs
  ValHasNoKept (keyed ps) = PairsHaveNoKept ps

  -- the same of the elements of a list
  pub ValsHaveNoKept : Vals → Type 0
  ValsHaveNoKept no_vals = Unit {0}
  ValsHaveNoKept (val v vs) = ValHasNoKept v × ValsHaveNoKept vs

  -- the same of the values of a map
  pub PairsHaveNoKept : Pairs → Type 0
  PairsHaveNoKept no_pairs = Unit {0}
  PairsHaveNoKept (pair k v ps) = ValHasNoKept v × PairsHaveNoKept ps
