-- Bytes that stand as values inside what bytes mean are shorter than these.
use Rattle.std.proofs.Common.{◌≡◌, ℕ, zero, suc, ◌<◌, ◌≤◌, Bool, true, false, if◌then◌else◌, List, [], ◌∷◌, length, map, Option, Some, None, option_map, ap, subst, arith}
use Rattle.std.proofs.Common.{length-append, refl}
use Rattle.std.specs.Prelude.{◌==◌, option_and_then}
use Rattle.std.specs.Str.{is_utf8}
use Rattle.std.specs.List.{AllByRecursion, filter}
use Rattle.pbx_wire.specs.declared.rec.Rec.{Rec, Varint, Fixed64, Bytes, Group', Fixed32, out-Rec}
use Rattle.pbx_wire.specs.declared.rec.Rec.TheVariants.{outs-Bytes}
use Rattle.pbx_wire.specs.Spelling.{Body, SpellsLayer, SpellsAll, SpellsBelow}
use Rattle.pbx_wire.proofs.Laws.{chain_has}
use Rattle.pbx_wire.proofs.Breaking.{are_spelled}
use Rattle.pbx_content.specs.declared.shape.Kind.{Kind}
use Rattle.pbx_content.specs.declared.shape.Kind.TheVariants as kind
use Rattle.pbx_content.specs.declared.shape.Cardinality.{Cardinality}
use Rattle.pbx_content.specs.declared.shape.Cardinality.TheVariants.{Singular, Repeated, Map}
use Rattle.pbx_content.specs.declared.shape.Shape.{Shape}
use Rattle.pbx_content.specs.declared.shape.FieldShape.{FieldShape}
use Rattle.pbx_content.specs.Content.{Key, key_before, Content, content, get, Fields, no_fields, field, Val, text, octets, message, many, keyed, vals_of, Pairs, no_pairs, pair, with_pair, by_key}
use Rattle.pbx_content.specs.Records.{bytes_of, is_of, those_of, each, flat, last_of, after_last, records_in}
use Rattle.pbx_content.specs.Shape.{fields_of, entry_fields, form_of, is_float, is_packable, is_kept, is_rival}
use Rattle.pbx_content.specs.Meaning.{numeric, number_in, numbers_in, Inner, no_inner, as_text, alone, one, or_packed, spread, zero_of, is_default, shown, or_else, pair_in, entry_in}
use Rattle.pbx_content.specs.Meaning.{repeated, mapped, joined, scalar, singular, by_cardinality, value, value_among, with_field, values, layer, records_of, meaning, meaning_within}
use Rattle.pbx_content.proofs.OntoLaw.{unbound}
use Rattle.pbx_content.proofs.OntoSplits.{after_last_part}
use Rattle.pbx_content.proofs.SoundLists.{all-flat, all-map, all-last, all-each, all-filter, all-right, all-weaken}
use Rattle.pbx_content.proofs.SoundValues.{mapped_is, bound_is}
use Rattle.pbx_json_payload_laws.specs.Inside.{AreShorter, AreFieldsShorter, IsValShorter, AreValsShorter, ArePairsShorter}

-- ---- payloads of records

-- the payload of the record, where it has one, has fewer than n bytes
abbrev pub IsPayloadBelow : ℕ → Rec → Type 0
IsPayloadBelow n r = (b : List ℕ) → bytes_of r ≡ Some b → length b < n

abbrev pub ArePayloadsBelow : ℕ → List Rec → Type 0
ArePayloadsBelow n rs = AllByRecursion (IsPayloadBelow n) rs

layer_below : (inner : Body) (bytes : List ℕ) (r : Rec) → SpellsLayer inner bytes (out-Rec r) → IsPayloadBelow (length bytes) r
layer_below inner bytes (Bytes n b) h c e =
    let s = subst (SpellsLayer inner bytes) (outs-Bytes n b) h in
    let is : b ≡ c = cc in
    omega (arith, simp length-append at (ap length s.4), chain_has s.0 s.2.varint.chain, ap length is)
layer_below inner bytes (Varint n v) h c e = absurd cc
layer_below inner bytes (Fixed64 n v) h c e = absurd cc
layer_below inner bytes (Group' n shape row) h c e = absurd cc
layer_below inner bytes (Fixed32 n v) h c e = absurd cc

all_below : (inner : Body) (n : ℕ) (bytes : List ℕ) (rs : List Rec) → length bytes ≤ n → SpellsAll inner bytes rs → ArePayloadsBelow n rs
all_below inner n bytes [] le h = tt
all_below inner n bytes (r ∷ rs) le h =
    let split = simp length-append at (ap length h.4) in
    (λ b e. omega (arith, le, split, layer_below inner h.0 r h.2 b e), all_below inner n h.1 rs (omega (arith, le, split)) h.3)

-- The payloads that bytes spell are shorter than these.
pub payloads_below : (levels : ℕ) (bytes : List ℕ) (rs : List Rec) → records_in levels bytes ≡ Some rs → ArePayloadsBelow (length bytes) rs
unfolding SpellsBelow
payloads_below levels bytes rs e = all_below (SpellsBelow levels) (length bytes) bytes rs (omega arith) ((are_spelled levels bytes rs).0 e)

pub below_more : (m n : ℕ) (rs : List Rec) → m ≤ n → ArePayloadsBelow m rs → ArePayloadsBelow n rs
below_more m n rs le h = all-weaken (IsPayloadBelow m) (IsPayloadBelow n) (λ r p b e. omega (arith, le, p b e)) rs h

-- ---- one value

-- what payloads of fewer than n bytes mean has only bytes of fewer
pub record Shrinks (n : ℕ) (inner : Inner) : Type 0 where
  pub shrinks : (gs : List FieldShape) (bs : List (List ℕ)) (c : Content) → AllByRecursion (λ (b : List ℕ). length b < n) bs → inner gs bs ≡ Some c
      → AreShorter n c

none_shrinks : (n : ℕ) → Shrinks n no_inner
none_shrinks n = record { shrinks = λ gs bs c h e. absurd cc }

numeric_shorter : (n : ℕ) (k : Kind) (v : ℕ) → IsValShorter n (numeric k v)
numeric_shorter n kind.Int32 v = tt
numeric_shorter n kind.Int64 v = tt
numeric_shorter n kind.Uint32 v = tt
numeric_shorter n kind.Sint32 v = tt
numeric_shorter n kind.Sint64 v = tt
numeric_shorter n kind.Sfixed32 v = tt
numeric_shorter n kind.Sfixed64 v = tt
numeric_shorter n kind.Bool v = tt
numeric_shorter n (kind.Enum e) v = tt
numeric_shorter n k v = tt

text_shorter : (n : ℕ) (b : List ℕ) (v : Val) → as_text b ≡ Some v → IsValShorter n v
text_shorter n b v e = at (is_utf8 b) e
  where
    at : (c : Bool) → (if c then Some (text b) else None) ≡ Some v → IsValShorter n v
    at true e = let is : text b ≡ v = cc in subst (IsValShorter n) is tt
    at false e = absurd cc

number_shorter : (n : ℕ) (k : Kind) (r : Rec) (v : Val) → option_map (numeric k) (number_in (form_of k) r) ≡ Some v → IsValShorter n v
number_shorter n k r v e =
    let x = mapped_is (numeric k) (number_in (form_of k) r) v e in
    subst (IsValShorter n) x.2 (numeric_shorter n k x.0)

alone_shorter : (shape : Shape) (n : ℕ) (inner : Inner) → Shrinks n inner → (k : Kind) (r : Rec) (v : Val) → IsPayloadBelow n r
    → alone shape inner k r ≡ Some v → IsValShorter n v
alone_shorter shape n inner s kind.Double r v p e = absurd cc
alone_shorter shape n inner s kind.Float r v p e = absurd cc
alone_shorter shape n inner s kind.String r v p e = let b = bound_is as_text (bytes_of r) v e in text_shorter n b.0 v b.2
alone_shorter shape n inner s kind.Bytes r v p e =
    let b = mapped_is octets (bytes_of r) v e in
    subst (IsValShorter n) b.2 (p b.0 b.1)
alone_shorter shape n inner s (kind.Message t) r v p e =
    let b = bound_is (λ b. option_map message (inner (fields_of shape t) (b ∷ []))) (bytes_of r) v e in
    let c = mapped_is message (inner (fields_of shape t) (b.0 ∷ [])) v b.2 in
    subst (IsValShorter n) c.2 (s.shrinks (fields_of shape t) (b.0 ∷ []) c.0 (p b.0 b.1, tt) c.1)
alone_shorter shape n inner s kind.Int32 r v p e = number_shorter n kind.Int32 r v e
alone_shorter shape n inner s kind.Int64 r v p e = number_shorter n kind.Int64 r v e
alone_shorter shape n inner s kind.Uint32 r v p e = number_shorter n kind.Uint32 r v e
alone_shorter shape n inner s kind.Uint64 r v p e = number_shorter n kind.Uint64 r v e
alone_shorter shape n inner s kind.Sint32 r v p e = number_shorter n kind.Sint32 r v e
alone_shorter shape n inner s kind.Sint64 r v p e = number_shorter n kind.Sint64 r v e
alone_shorter shape n inner s kind.Fixed32 r v p e = number_shorter n kind.Fixed32 r v e
alone_shorter shape n inner s kind.Fixed64 r v p e = number_shorter n kind.Fixed64 r v e
alone_shorter shape n inner s kind.Sfixed32 r v p e = number_shorter n kind.Sfixed32 r v e
alone_shorter shape n inner s kind.Sfixed64 r v p e = number_shorter n kind.Sfixed64 r v e
alone_shorter shape n inner s kind.Bool r v p e = number_shorter n kind.Bool r v e
alone_shorter shape n inner s (kind.Enum x) r v p e = number_shorter n (kind.Enum x) r v e

spread_shorter : (shape : Shape) (n : ℕ) (inner : Inner) → Shrinks n inner → (k : Kind) (r : Rec) (vs : List Val) → IsPayloadBelow n r
    → spread shape inner k r ≡ Some vs → AllByRecursion (IsValShorter n) vs
spread_shorter shape n inner s k r vs p e = at (is_packable k) (bytes_of r) e
  where
    alone_one : one (alone shape inner k r) ≡ Some vs → AllByRecursion (IsValShorter n) vs
    alone_one e =
        let v = mapped_is (λ w. w ∷ []) (alone shape inner k r) vs e in
        subst (AllByRecursion (IsValShorter n)) v.2 (alone_shorter shape n inner s k r v.0 p v.1, tt)

    any_all : (ns : List ℕ) → AllByRecursion (λ (v : ℕ). Unit {0}) ns
    any_all [] = tt
    any_all (v ∷ ns) = (tt, any_all ns)

    at : (b : Bool) (o : Option (List ℕ)) → (if b then or_packed k (one (alone shape inner k r)) o else one (alone shape inner k r)) ≡ Some vs
        → AllByRecursion (IsValShorter n) vs
    at false o e = alone_one e
    at true None e = alone_one e
    at true (Some b) e =
        let ns = mapped_is (map (numeric k)) (numbers_in (form_of k) b) vs e in
        subst (AllByRecursion (IsValShorter n)) ns.2
        (all-map (IsValShorter n) (λ (v : ℕ). Unit {0}) (numeric k) (λ v u. numeric_shorter n k v) ns.0 (any_all ns.0))

-- ---- a value, if there is one

abbrev MayBeShorter : ℕ → Option Val → Type 0
MayBeShorter n o = (v : Val) → o ≡ Some v → IsValShorter n v

none_shorter : (n : ℕ) → MayBeShorter n None
none_shorter n v e = absurd cc

some_shorter : (n : ℕ) (w : Val) → IsValShorter n w → MayBeShorter n (Some w)
some_shorter n w h v e = let is : w ≡ v = cc in subst (IsValShorter n) is h

shown_shorter : (shape : Shape) (n : ℕ) (presence : Bool) (k : Kind) (o : Option Val) → MayBeShorter n o → MayBeShorter n (shown shape presence k o)
shown_shorter shape n presence k None h = h
shown_shorter shape n presence k (Some w) h = at presence (is_default shape k w)
  where
    at : (a b : Bool) → MayBeShorter n (if a then Some w else (if b then None else Some w))
    at true b = h
    at false true = none_shorter n
    at false false = h

vals_shorter : (n : ℕ) (vs : List Val) → AllByRecursion (IsValShorter n) vs → AreValsShorter n (vals_of vs)
vals_shorter n [] h = tt
vals_shorter n (v ∷ vs) h = (h.0, vals_shorter n vs h.1)

repeated_shorter : (shape : Shape) (n : ℕ) (inner : Inner) → Shrinks n inner → (k : Kind) (rs : List Rec) (o : Option Val) → ArePayloadsBelow n rs
    → repeated shape inner k rs ≡ Some o → MayBeShorter n o
repeated_shorter shape n inner s k rs o p e =
    let vss = mapped_is (λ vs. shown shape false k (Some (many (vals_of (flat vs))))) (each (spread shape inner k) rs) o e in
    let all = all-flat (IsValShorter n) vss.0
    (all-each (IsPayloadBelow n) (AllByRecursion (IsValShorter n)) (spread shape inner k) (λ r vs q d. spread_shorter shape n inner s k r vs q d) rs vss.0 p vss.1) in
    subst (MayBeShorter n) vss.2
    (shown_shorter shape n false k (Some (many (vals_of (flat vss.0)))) (some_shorter n (many (vals_of (flat vss.0))) (vals_shorter n (flat vss.0) all)))

-- ---- maps

pair_with : (n : ℕ) (k : Key) (v : Val) (ps : Pairs) → IsValShorter n v → ArePairsShorter n ps → ArePairsShorter n (with_pair k v ps)
pair_with n k v no_pairs h p = (h, tt)
pair_with n k v (pair l w ps) h p = at (key_before k l) (key_before l k) (pair_with n k v ps h p.1)
  where
    at : (a b : Bool) → ArePairsShorter n (with_pair k v ps)
        → ArePairsShorter n (if a then pair k v (pair l w ps) else (if b then pair l w (with_pair k v ps) else pair l w ps))
    at true b ih = (h, p)
    at false true ih = (p.0, ih)
    at false false ih = p

pairs_shorter : (n : ℕ) (ps : List (Key × Val)) → AllByRecursion (λ (p : Key × Val). IsValShorter n p.1) ps → ArePairsShorter n (by_key ps)
pairs_shorter n [] h = tt
pairs_shorter n (p ∷ ps) h = pair_with n p.0 p.1 (by_key ps) h.0 (pairs_shorter n ps h.1)

get_shorter : (n m : ℕ) (fs : Fields) → AreFieldsShorter n fs → MayBeShorter n (get m fs)
get_shorter n m no_fields h v e = absurd cc
get_shorter n m (field k w fs) h v e = at (m == k) e (get_shorter n m fs h.1 v)
  where
    at : (b : Bool) → (if b then Some w else get m fs) ≡ Some v → (get m fs ≡ Some v → IsValShorter n v) → IsValShorter n v
    at true e ih = let is : w ≡ v = cc in subst (IsValShorter n) is h.0
    at false e ih = ih e

zero_shorter : (shape : Shape) (n : ℕ) (k : Kind) → 0 < n → IsValShorter n (zero_of shape k)
zero_shorter shape n kind.Bool h = tt
zero_shorter shape n kind.String h = tt
zero_shorter shape n kind.Bytes h = h
zero_shorter shape n (kind.Message t) h = tt
zero_shorter shape n (kind.Enum e) h = tt
zero_shorter shape n k h = tt

pair_shorter : (shape : Shape) (n : ℕ) (key k : Kind) (c : Content) → AreShorter n c × (0 < n) → IsValShorter n (pair_in shape key k c).1
pair_shorter shape n key k (content fs ks) h = at (get 2 fs) (get_shorter n 2 fs h.0)
  where
    at : (o : Option Val) → MayBeShorter n o → IsValShorter n (or_else o (zero_of shape k))
    at None m = zero_shorter shape n k h.1
    at (Some v) m = m v refl

entry_shorter : (n : ℕ) (inner : Inner) → Shrinks n inner → (key k : Kind) (r : Rec) (c : Content) → IsPayloadBelow n r → entry_in inner key k r ≡ Some c
    → AreShorter n c × (0 < n)
entry_shorter n inner s key k r c p e =
    let b = bound_is (λ b. inner (entry_fields key k) (b ∷ [])) (bytes_of r) c e in
    let lt = p b.0 b.1 in
    (s.shrinks (entry_fields key k) (b.0 ∷ []) c (lt, tt) b.2, omega (arith, lt))

mapped_shorter : (shape : Shape) (n : ℕ) (inner : Inner) → Shrinks n inner → (key k : Kind) (rs : List Rec) (o : Option Val) → ArePayloadsBelow n rs
    → mapped shape inner key k rs ≡ Some o → MayBeShorter n o
mapped_shorter shape n inner s key k rs o p e =
    let cs = mapped_is (λ cs. shown shape false k (Some (keyed (by_key (map (pair_in shape key k) cs))))) (each (entry_in inner key k) rs) o e in
    let all = all-each (IsPayloadBelow n) (λ c. AreShorter n c × (0 < n)) (entry_in inner key k) (λ r c q d. entry_shorter n inner s key k r c q d) rs cs.0 p cs.1 in
    let pairs = all-map (λ (p : Key × Val). IsValShorter n p.1) (λ c. AreShorter n c × (0 < n)) (pair_in shape key k) (λ c h. pair_shorter shape n key k c h) cs.0 all in
    let whole = pairs_shorter n (map (pair_in shape key k) cs.0) pairs in
    subst (MayBeShorter n) cs.2
    (shown_shorter shape n false k (Some (keyed (by_key (map (pair_in shape key k) cs.0)))) (some_shorter n (keyed (by_key (map (pair_in shape key k) cs.0))) whole))

-- ---- fields of at most one value

scalar_shorter : (shape : Shape) (n : ℕ) (presence : Bool) (k : Kind) (rs : List Rec) (o : Option Val) → ArePayloadsBelow n rs
    → scalar shape presence k rs ≡ Some o → MayBeShorter n o
scalar_shorter shape n presence k rs o p e =
    let vs = mapped_is (λ vs. shown shape presence k (last_of vs)) (each (alone shape no_inner k) rs) o e in
    let all = all-each (IsPayloadBelow n) (IsValShorter n) (alone shape no_inner k)
    (λ r v q d. alone_shorter shape n no_inner (none_shrinks n) k r v q d) rs vs.0 p vs.1 in
    subst (MayBeShorter n) vs.2 (shown_shorter shape n presence k (last_of vs.0) (λ v d. all-last (IsValShorter n) vs.0 v all d))

joined_shorter : (n : ℕ) (inner : Inner) → Shrinks n inner → (gs : List FieldShape) (bs : List (List ℕ)) (o : Option Val)
    → AllByRecursion (λ (b : List ℕ). length b < n) bs → joined inner gs bs ≡ Some o → MayBeShorter n o
joined_shorter n inner s gs [] o h e = let nothing : Option Val = None in let is : nothing ≡ o = cc in subst (MayBeShorter n) is (none_shorter n)
joined_shorter n inner s gs (b ∷ bs) o h e =
    let c = mapped_is (λ c. Some (message c)) (inner gs (b ∷ bs)) o e in
    subst (MayBeShorter n) c.2 (some_shorter n (message c.0) (s.shrinks gs (b ∷ bs) c.0 h c.1))

singular_shorter : (shape : Shape) (n : ℕ) (inner : Inner) → Shrinks n inner → (presence : Bool) (k : Kind) (rs : List Rec) (o : Option Val)
    → ArePayloadsBelow n rs → singular shape inner presence k rs ≡ Some o → MayBeShorter n o
singular_shorter shape n inner s presence (kind.Message t) rs o p e =
    let bs = bound_is (joined inner (fields_of shape t)) (each bytes_of rs) o e in
    joined_shorter n inner s (fields_of shape t) bs.0 o
    (all-each (IsPayloadBelow n) (λ (b : List ℕ). length b < n) bytes_of (λ r b q d. q b d) rs bs.0 p bs.1) bs.2
singular_shorter shape n inner s presence kind.Double rs o p e = scalar_shorter shape n presence kind.Double rs o p e
singular_shorter shape n inner s presence kind.Float rs o p e = scalar_shorter shape n presence kind.Float rs o p e
singular_shorter shape n inner s presence kind.Int32 rs o p e = scalar_shorter shape n presence kind.Int32 rs o p e
singular_shorter shape n inner s presence kind.Int64 rs o p e = scalar_shorter shape n presence kind.Int64 rs o p e
singular_shorter shape n inner s presence kind.Uint32 rs o p e = scalar_shorter shape n presence kind.Uint32 rs o p e
singular_shorter shape n inner s presence kind.Uint64 rs o p e = scalar_shorter shape n presence kind.Uint64 rs o p e
singular_shorter shape n inner s presence kind.Sint32 rs o p e = scalar_shorter shape n presence kind.Sint32 rs o p e
singular_shorter shape n inner s presence kind.Sint64 rs o p e = scalar_shorter shape n presence kind.Sint64 rs o p e
singular_shorter shape n inner s presence kind.Fixed32 rs o p e = scalar_shorter shape n presence kind.Fixed32 rs o p e
singular_shorter shape n inner s presence kind.Fixed64 rs o p e = scalar_shorter shape n presence kind.Fixed64 rs o p e
singular_shorter shape n inner s presence kind.Sfixed32 rs o p e = scalar_shorter shape n presence kind.Sfixed32 rs o p e
singular_shorter shape n inner s presence kind.Sfixed64 rs o p e = scalar_shorter shape n presence kind.Sfixed64 rs o p e
singular_shorter shape n inner s presence kind.Bool rs o p e = scalar_shorter shape n presence kind.Bool rs o p e
singular_shorter shape n inner s presence kind.String rs o p e = scalar_shorter shape n presence kind.String rs o p e
singular_shorter shape n inner s presence kind.Bytes rs o p e = scalar_shorter shape n presence kind.Bytes rs o p e
singular_shorter shape n inner s presence (kind.Enum x) rs o p e = scalar_shorter shape n presence (kind.Enum x) rs o p e

-- ---- fields

value_shorter : (shape : Shape) (n : ℕ) (inner : Inner) → Shrinks n inner → (f : FieldShape) (rs : List Rec) (o : Option Val) → ArePayloadsBelow n rs
    → value shape inner f rs ≡ Some o → MayBeShorter n o
value_shorter shape n inner s f rs o p e = at (is_float f.kind) e
  where
    by : (c : Cardinality) → by_cardinality shape inner f c rs ≡ Some o → MayBeShorter n o
    by Singular e = singular_shorter shape n inner s f.presence f.kind rs o p e
    by Repeated e = repeated_shorter shape n inner s f.kind rs o p e
    by (Map key) e = mapped_shorter shape n inner s key f.kind rs o p e

    at : (b : Bool) → (if b then Some None else by_cardinality shape inner f f.cardinality rs) ≡ Some o → MayBeShorter n o
    at true e = let nothing : Option Val = None in let is : nothing ≡ o = cc in subst (MayBeShorter n) is (none_shorter n)
    at false e = by f.cardinality e

counting_below : (n : ℕ) (p : Rec → Bool) (m : ℕ) (rs : List Rec) → ArePayloadsBelow n rs → ArePayloadsBelow n (those_of m (after_last p rs))
counting_below n p m rs h =
    let part = after_last_part p rs in
    all-filter (IsPayloadBelow n) (is_of m) (after_last p rs) (all-right (IsPayloadBelow n) part.0 (after_last p rs) (subst (ArePayloadsBelow n) part.1 h))

among_shorter : (shape : Shape) (n : ℕ) (inner : Inner) → Shrinks n inner → (gs : List FieldShape) (f : FieldShape) (rs : List Rec) (o : Option Val)
    → ArePayloadsBelow n rs → value_among shape inner gs f rs ≡ Some o → MayBeShorter n o
among_shorter shape n inner s gs f rs o p e =
    let counting = those_of f.number (after_last (is_rival gs f) rs) in
    let parts = unbound (value shape inner f (those_of f.number rs)) (value shape inner f counting) o e in
    value_shorter shape n inner s f counting o (counting_below n (is_rival gs f) f.number rs p) parts.1

with_shorter : (n m : ℕ) (o : Option Val) (fs : Fields) → MayBeShorter n o → AreFieldsShorter n fs → AreFieldsShorter n (with_field m o fs)
with_shorter n m None fs o h = h
with_shorter n m (Some v) fs o h = (o v refl, h)

values_shorter : (shape : Shape) (n : ℕ) (inner : Inner) → Shrinks n inner → (gs : List FieldShape) (rs : List Rec) → ArePayloadsBelow n rs
    → (hs : List FieldShape) (fs : Fields) → values shape inner gs hs rs ≡ Some fs → AreFieldsShorter n fs
values_shorter shape n inner s gs rs p [] fs e = let is : no_fields ≡ fs = cc in subst (AreFieldsShorter n) is tt
values_shorter shape n inner s gs rs p (h ∷ hs) fs e =
    let o = bound_is (λ v. option_map (with_field h.number v) (values shape inner gs hs rs)) (value_among shape inner gs h rs) fs e in
    let ws = mapped_is (with_field h.number o.0) (values shape inner gs hs rs) fs o.2 in
    subst (AreFieldsShorter n) ws.2
    (with_shorter n h.number o.0 ws.0 (among_shorter shape n inner s gs h rs o.0 p o.1) (values_shorter shape n inner s gs rs p hs ws.0 ws.1))

layer_shorter : (shape : Shape) (n : ℕ) (inner : Inner) → Shrinks n inner → (gs : List FieldShape) (rs : List Rec) (c : Content) → ArePayloadsBelow n rs
    → layer shape inner gs rs ≡ Some c → AreShorter n c
layer_shorter shape n inner s gs rs c p e =
    let vs = mapped_is (λ vs. content vs (filter (is_kept gs) rs)) (values shape inner gs gs rs) c e in
    subst (AreShorter n) vs.2 (values_shorter shape n inner s gs rs p gs vs.0 vs.1)

-- ---- by levels

payloads_of : (n levels : ℕ) (bs : List (List ℕ)) (rs : List Rec) → AllByRecursion (λ (b : List ℕ). length b < n) bs → records_of levels bs ≡ Some rs
    → ArePayloadsBelow n rs
payloads_of n levels bs rs h e =
    let rss = mapped_is flat (each (records_in levels) bs) rs e in
    subst (ArePayloadsBelow n) rss.2
    (all-flat (IsPayloadBelow n) rss.0
    (all-each (λ (b : List ℕ). length b < n) (ArePayloadsBelow n) (records_in levels)
    (λ b rs lt d. below_more (length b) n rs (omega (arith, lt)) (payloads_below levels b rs d)) bs rss.0 h rss.1))

-- What records mean has only bytes that are shorter than some number, if their payloads are.
pub meaning_shorter : (shape : Shape) (n levels : ℕ) (gs : List FieldShape) (rs : List Rec) (c : Content) → ArePayloadsBelow n rs
    → meaning shape levels gs rs ≡ Some c → AreShorter n c
unfolding meaning
meaning_shorter shape n zero gs rs c p e = layer_shorter shape n no_inner (none_shrinks n) gs rs c p e
meaning_shorter shape n (suc levels) gs rs c p e =
    layer_shorter shape n (λ gs bs. option_and_then (meaning shape levels gs) (records_of levels bs))
    (record {
      shrinks = λ gs bs c h d.
          let ss = bound_is (meaning shape levels gs) (records_of levels bs) c d in
          meaning_shorter shape n levels gs ss.0 c (payloads_of n levels bs ss.0 h ss.1) ss.2;
    }) gs rs c p e

pub meaning_shrinks : (shape : Shape) (levels : ℕ) (fs : List FieldShape) (bytes : List ℕ) (c : Content) → meaning_within shape levels fs bytes ≡ Some c
    → AreShorter (length bytes) c
meaning_shrinks shape levels fs bytes c e =
    let rs = bound_is (meaning shape levels fs) (records_in levels bytes) c e in
    meaning_shorter shape (length bytes) levels fs rs.0 c (payloads_below levels bytes rs.0 rs.1) rs.2
