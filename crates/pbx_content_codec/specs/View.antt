-- The content that a tree of Contents stands for, one level at a time.
use Rattle.std.specs.Prelude.{ℕ, pos, List, [], ◌∷◌}
use Rattle.pbx_content.specs.Content.{Key, truth_key, number_key, text_key, Content, content, Fields, no_fields, field, Val, number, truth}
use Rattle.pbx_content.specs.Content.{text, octets, message, many, keyed, vals_of, pairs_of}
use Rattle.pbx_content_codec.specs.declared.key.MapKey.{MapKey}
use Rattle.pbx_content_codec.specs.declared.key.MapKey.TheVariants as map_key
use Rattle.pbx_content_codec.specs.declared.contents.Held.{Held, fold-Held}
use Rattle.pbx_content_codec.specs.declared.contents.Contents.{Contents, fold-Contents}
use Rattle.pbx_content_codec.specs.declared.contents.Pair.{Pair}
use Rattle.pbx_content_codec.specs.declared.contents.Held.TheOpen.{Held-F, Contents-F, Pair-F}

-- the key that a MapKey is
abbrev pub key_of : MapKey → Key
key_of (map_key.Bool b) = truth_key b
key_of (map_key.I32 z) = number_key z
key_of (map_key.I64 z) = number_key z
key_of (map_key.U32 n) = number_key (pos n)
key_of (map_key.U64 n) = number_key (pos n)
key_of (map_key.String s) = text_key s

-- numbers with values, in their order
abbrev pub fields_in : List (ℕ × Val) → Fields
fields_in [] = no_fields
fields_in (f ∷ fs) = field f.0 f.1 (fields_in fs)

-- what a field holds, with all below it given
abbrev pub val_step : Held-F Val Content (Key × Val) → Val
val_step (Held-F.I32 z) = number z
val_step (Held-F.I64 z) = number z
val_step (Held-F.U32 n) = number (pos n)
val_step (Held-F.U64 n) = number (pos n)
val_step (Held-F.Bool b) = truth b
val_step (Held-F.Text t) = text t
val_step (Held-F.Bytes b) = octets b
val_step (Held-F.Message c) = message c
val_step (Held-F.Many vs) = many (vals_of vs)
val_step (Held-F.Pairs ps) = keyed (pairs_of ps)

-- a tree, with all below it given
abbrev pub content_step : Contents-F Val Content (Key × Val) → Content
content_step c = content (fields_in c.fields) c.kept

-- a key and what stands under it, with all below it given
abbrev pub pair_step : Pair-F Val Content (Key × Val) → Key × Val
pair_step p = (key_of p.key, p.held)

-- the value that a tree's field holds
abbrev pub val_of : Held → Val
val_of = fold-Held Val Content (Key × Val) val_step content_step pair_step

-- the content that a tree stands for
abbrev pub content_of : Contents → Content
content_of = fold-Contents Val Content (Key × Val) val_step content_step pair_step

-- a number and the value that stands there
abbrev pub entry_of : ℕ × Held → ℕ × Val
entry_of f = (f.0, val_of f.1)

-- the key and value of a pair of a tree
abbrev pub pair_of : Pair → Key × Val
pair_of p = (key_of p.key, val_of p.held)
