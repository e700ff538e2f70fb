-- Pairs that are given one after another, and whole values.
use Rattle.std.proofs.Common.{◌≡◌, ℕ, zero, suc, ◌+◌, ◌<◌, ◌≤◌, List, [], ◌∷◌, ◌++◌, length, take, drop, get_or, map, true, false, refl, sym, ap, ◌∙◌, subst, arith}
use Rattle.std.specs.Prelude.{IsTrue, Result, Ok, Err, IfOk}
use Rattle.std.specs.List.{AllByRecursion}
use Rattle.std.proofs.lemmas.List.{map-append, map_more, take_all}
use Rattle.pbx_content.specs.declared.shape.Kind.{Kind}
use Rattle.pbx_content.specs.declared.shape.Kind.TheVariants as kind
use Rattle.pbx_content.specs.declared.shape.Shape.{Shape}
use Rattle.pbx_content.specs.Content.{Key, Val, message, keyed, pairs_of, key_before}
use Rattle.pbx_content.specs.Sound.{IsSound, IsElement}
use Rattle.pbx_content.proofs.OntoPairs.{key_follows}
use Rattle.pbx_content_codec.specs.declared.contents.Held.{Held}
use Rattle.pbx_content_codec.specs.declared.contents.Held as held
use Rattle.pbx_content_codec.specs.declared.contents.Pair.{Pair}
use Rattle.pbx_content_codec.proofs.Tree.{val_of-Many, val_of-Pairs}
use Rattle.pbx_content.specs.declared.shape.Cardinality.TheVariants.{Repeated, Map}
use Rattle.pbx_content_codec.specs.declared.key.MapKey.{MapKey}
use Rattle.pbx_content_codec.specs.View.{key_of, val_of, pair_of}
use Rattle.pbx_desc_records.specs.declared.file.FileDescriptorProto.{FileDescriptorProto}
use Rattle.pbx_message_dynamic.specs.Keys.{is_before, with_entry}
use Rattle.pbx_message_dynamic.proofs.KeyOrder.{not_both}
use Rattle.pbx_message_laws.specs.Laws.{ListIsOfKind, MapIsOfKinds}
use Rattle.pbx_message_laws.specs.Settable.{IsPairOf, AscendByKey, IsSettableBy}
use Rattle.pbx_message_dynamic.specs.declared.value.Value.{Value, out-Value}
use Rattle.pbx_message_dynamic.specs.declared.value.Value as value
use Rattle.pbx_message_dynamic.specs.declared.value.Value.TheOpen.{Value-F}
use Rattle.pbx_message_dynamic.specs.Given.{IsGiven, IsGivenKey, IsGivenMap, IsFieldGiven, HoldsSound, HoldsPair}
use Rattle.pbx_message_dynamic.specs.Typed.{entry_of_value}
use Rattle.pbx_message_dynamic.specs.Values.{val_of_value, AreEntriesOfKinds, IsMapOfKinds, variant_in_key, variant_of}
use Rattle.pbx_message_dynamic.proofs.Items.{same_before, pairs_more, out-Map, val-Map}

-- ---- what may be held

pub element_holds : (shape : Shape) (k : Kind) (w : Val) → IsElement shape k w → HoldsSound shape k w
element_holds shape (kind.Message t) (message c) h =
    let e : h.0 ≡ t = let same : kind.Message t ≡ kind.Message h.0 = h.1 in cc in
    subst (λ (n : ℕ). IsSound shape n c) e h.2
element_holds shape k w h = tt

pub elements_hold : (shape : Shape) (k : Kind) (ws : List Val) → AllByRecursion (IsElement shape k) ws → AllByRecursion (HoldsSound shape k) ws
elements_hold shape k [] h = tt
elements_hold shape k (w ∷ ws) h = (element_holds shape k w h.0, elements_hold shape k ws h.1)

pub pairs_hold : (shape : Shape) (key k : Kind) (ws : List (Key × Val)) → AllByRecursion (IsPairOf shape key k) ws → AllByRecursion (HoldsPair shape k) ws
pairs_hold shape key k [] h = tt
pairs_hold shape key k (w ∷ ws) h = (element_holds shape k w.1 h.0.1, pairs_hold shape key k ws h.1)

pub one_holds : (P : Key × Val → Type 0) (ps : List Pair) (n : ℕ) (p : Pair) → n < length ps → p ≡ get_or ps n p → AllByRecursion P (map pair_of ps) → P (pair_of p)
one_holds P [] n p lt e a = absurd (omega arith)
one_holds P (x ∷ ps) zero p lt e a = subst (λ (y : Pair). P (pair_of y)) (sym e) a.0
one_holds P (x ∷ ps) (suc n) p lt e a = one_holds P ps n p (omega arith) e a.1

-- ---- the order of keys

-- the keys in front of one are before it
all_before : (xs : List (Key × Val)) (x : Key × Val) (rest : List (Key × Val)) → AscendByKey (xs ++ x ∷ rest) → AllByRecursion (λ (p : Key × Val). IsTrue (key_before p.0 x.0)) xs
all_before [] x rest a = tt
all_before (p ∷ []) x rest a = (a.0, tt)
all_before (p ∷ q ∷ xs) x rest a = let more = all_before (q ∷ xs) x rest a.1 in (key_follows p.0 q.0 x.0 a.0 more.0, more)

parted : (ps : List Pair) (n : ℕ) (p : Pair) → n < length ps → p ≡ get_or ps n p → ps ≡ take n ps ++ p ∷ drop (suc n) ps
parted [] n p lt e = absurd (omega arith)
parted (x ∷ ps) zero p lt e = ap (λ (y : Pair). y ∷ ps) (sym e)
parted (x ∷ ps) (suc n) p lt e = ap (λ (ys : List Pair). x ∷ ys) (parted ps n p (omega arith) e)

-- a key behind all others
entered : (pool : List FileDescriptorProto) (key k : Kind) (es : List (MapKey × Value)) (q : MapKey) (v : Value) → AreEntriesOfKinds pool key k es → variant_in_key q ≡ variant_of key
    → AllByRecursion (λ (p : Key × Val). IsTrue (key_before p.0 (key_of q))) (map entry_of_value es) → with_entry q v es ≡ es ++ (q, v) ∷ []
entered pool key k [] q v o e a = refl
entered pool key k (x ∷ es) q v o e a =
    let b : is_before x.0 q ≡ true = same_before x.0 q (o.0 ∙ sym e) ∙ a.0 in
    let c : is_before q x.0 ≡ false = not_both x.0 q b in
    rw (c, b) (ap (λ (ys : List (MapKey × Value)). x ∷ ys) (entered pool key k es q v o.2 e a.1))

-- ---- one after another

-- the pairs stand for the first so many
pub record AreGivenPairs (pool : List FileDescriptorProto) (key k : Kind) (ps : List Pair) (n : ℕ) (es : List (MapKey × Value)) : Type 0 where
  pub same : map entry_of_value es ≡ map pair_of (take n ps)
  pub pairs : AreEntriesOfKinds pool key k es

pub none_given : (pool : List FileDescriptorProto) (key k : Kind) (ps : List Pair) → AreGivenPairs pool key k ps 0 []
none_given pool key k ps = record { same = refl; pairs = tt }

pub given_more : (pool : List FileDescriptorProto) (key k : Kind) (ps : List Pair) (n : ℕ) (es : List (MapKey × Value)) (p : Pair) (q : MapKey) (v : Value)
    → n < length ps → p ≡ get_or ps n p → AscendByKey (map pair_of ps) → AreGivenPairs pool key k ps n es
    → IsGivenKey key (pair_of p).0 q → IsGiven pool k (pair_of p).1 v → AreGivenPairs pool key k ps (n + 1) (with_entry q v es)
given_more pool key k ps n es p q v lt e order a of is =
    let split : map pair_of ps ≡ map pair_of (take n ps) ++ pair_of p ∷ map pair_of (drop (suc n) ps) =
    ap (map pair_of) (parted ps n p lt e) ∙ map-append pair_of (take n ps) (p ∷ drop (suc n) ps) in
    let front = all_before (map pair_of (take n ps)) (pair_of p) (map pair_of (drop (suc n) ps)) (subst AscendByKey split order) in
    let behind : AllByRecursion (λ (x : Key × Val). IsTrue (key_before x.0 (key_of q))) (map entry_of_value es) =
    subst (λ (xs : List (Key × Val)). AllByRecursion (λ (x : Key × Val). IsTrue (key_before x.0 (key_of q))) xs) (sym a.same)
    (subst (λ (l : Key). AllByRecursion (λ (x : Key × Val). IsTrue (key_before x.0 l)) (map pair_of (take n ps))) (sym of.same) front) in
    let made : with_entry q v es ≡ es ++ (q, v) ∷ [] = entered pool key k es q v a.pairs of.variant behind in
    let last : ◌≡◌ {A = Key × Val} (entry_of_value (q, v)) (pair_of p) =
    ap (λ (l : Key). (l, val_of_value v)) of.same ∙ ap (λ (w : Val). ((pair_of p).0, w)) is.same in
    record {
      same = ap (map entry_of_value) made ∙ map-append entry_of_value es ((q, v) ∷ []) ∙ ap (λ (xs : List (Key × Val)). xs ++ entry_of_value (q, v) ∷ []) a.same
          ∙ ap (λ (x : Key × Val). map pair_of (take n ps) ++ x ∷ []) (last ∙ ap pair_of e) ∙ sym (map_more pair_of ps n p lt);
      pairs = subst (AreEntriesOfKinds pool key k) (sym made) (pairs_more pool key k es (q, v) a.pairs of.variant is.one);
    }

pub all_given : (pool : List FileDescriptorProto) (key k : Kind) (ps : List Pair) (n : ℕ) (es : List (MapKey × Value)) → length ps ≤ n → AreGivenPairs pool key k ps n es
    → IsGivenMap pool key k (map pair_of ps) (value.Map es)
all_given pool key k ps n es le a = record {
  same = val-Map es ∙ ap (λ (ws : List (Key × Val)). keyed (pairs_of ws)) (a.same ∙ ap (map pair_of) (take_all n ps le));
  map = subst (λ (x : Value-F Value). IsMapOfKinds pool key k x) (sym (out-Map es)) a.pairs;
}

-- ---- whole values

pub list_sound : (shape : Shape) (k : Kind) (hs : List Held) → ListIsOfKind → IsSettableBy shape Repeated k (val_of (held.Many hs)) → AllByRecursion (HoldsSound shape k) (map val_of hs)
list_sound shape k hs law s = elements_hold shape k (map val_of hs) ((law shape k (map val_of hs)).0 (subst (IsSettableBy shape Repeated k) (val_of-Many hs) s))

pub map_sound : (shape : Shape) (key k : Kind) (ps : List Pair) → MapIsOfKinds → IsSettableBy shape (Map key) k (val_of (held.Pairs ps)) → AllByRecursion (HoldsPair shape k) (map pair_of ps)
map_sound shape key k ps law s = pairs_hold shape key k (map pair_of ps) ((law shape key k (map pair_of ps)).0 (subst (IsSettableBy shape (Map key) k) (val_of-Pairs ps) s)).0

pub map_field_given : {E : Type 0} (pool : List FileDescriptorProto) (key k : Kind) (ps : List Pair) (r : Result Value E) → IfOk r (IsGivenMap pool key k (map pair_of ps))
    → IfOk r (IsFieldGiven pool (Map key) k (val_of (held.Pairs ps)))
map_field_given pool key k ps (Ok v) g = record { same = g.same ∙ sym (val_of-Pairs ps); by = g.map }
map_field_given pool key k ps (Err e) g = tt
