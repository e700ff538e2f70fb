-- The values of lists and the pairs of maps, one after another.
use Rattle.std.proofs.Common.{◌≡◌, ℕ, List, [], ◌∷◌, ◌++◌, length, map, refl, sym, ap, ◌∙◌, subst, rules, arith}
use Rattle.std.specs.Prelude.{IsTrue, Result, Ok, Err, IfOk}
use Rattle.std.specs.Str.{is_utf8}
use Rattle.std.specs.List.{AllByRecursion}
use Rattle.std.proofs.lemmas.List.{map-append}
use Rattle.pbx_content.specs.declared.shape.Kind.{Kind}
use Rattle.pbx_content.specs.Content.{Key, Val, text, many, keyed, vals_of, pairs_of, key_before}
use Rattle.pbx_content.specs.Sound.{IsElement}
use Rattle.pbx_content_codec.specs.declared.contents.Held.{Held}
use Rattle.pbx_content_codec.specs.declared.contents.Held as held
use Rattle.pbx_content_codec.specs.declared.contents.Pair.{Pair}
use Rattle.pbx_content_codec.specs.declared.key.MapKey.{MapKey}
use Rattle.pbx_content_codec.specs.declared.key.MapKey.TheVariants as key
use Rattle.pbx_content_codec.specs.View.{key_of, val_of, pair_of}
use Rattle.pbx_content_codec.proofs.Tree.{val_of-Many, val_of-Pairs}
use Rattle.pbx_desc_records.specs.declared.file.FileDescriptorProto.{FileDescriptorProto}
use Rattle.pbx_link_meaning.specs.Shapes.{shape_of}
use Rattle.pbx_message_dynamic.specs.Keys.{is_before, IsBeforeAll, IsInKeyOrder}
use Rattle.pbx_message_laws.specs.Laws.{ListIsOfKind, MapIsOfKinds}
use Rattle.pbx_message_laws.specs.Settable.{IsPairOf, IsBeforeFirst, AscendByKey}
use Rattle.pbx_content_codec.specs.declared.contents.Contents.{the_lemmas as held_lemmas}
use Rattle.pbx_content.specs.declared.shape.Cardinality.TheVariants.{Map}
use Rattle.pbx_message_laws.specs.Settable.{IsSettableBy}
use Rattle.pbx_message_dynamic.specs.declared.value.Value.{Value, out-Value, the_lemmas}
use Rattle.pbx_message_dynamic.specs.declared.value.Value as value
use Rattle.pbx_message_dynamic.specs.declared.value.Value.TheOpen.{Value-F}
use Rattle.pbx_message_dynamic.proofs.KindVariants.{kind_string}
use Rattle.pbx_message_dynamic.specs.Typed.{IsHeldAs, IsPairHeld, IsListHeld, IsMapHeld, IsFieldHeld, IsKeyOfKind, entry_of_value}
use Rattle.pbx_message_dynamic.specs.Values.{val_of_value, IsOfKind, AreOfKind, AreEntriesOfKinds, IsMapOfKinds, IsMessageAt, variant_in, variant_in_key, variant_of, texts}

-- ---- lists

pub record AreHeld (pool : List FileDescriptorProto) (k : Kind) (vs : List Value) (hs : List Held) : Type 0 where
  pub same : map val_of hs ≡ map val_of_value vs
  pub ones : AreOfKind pool k vs
  pub elements : AllByRecursion (IsElement (shape_of pool) k) (map val_of_value vs)

pub none_held : (pool : List FileDescriptorProto) (k : Kind) → AreHeld pool k [] []
none_held pool k = record { same = refl; ones = tt; elements = tt }

pub ones_more : (pool : List FileDescriptorProto) (k : Kind) (vs : List Value) (v : Value) → AreOfKind pool k vs → IsOfKind pool k v → AreOfKind pool k (vs ++ v ∷ [])
ones_more pool k [] v o is = (is, tt)
ones_more pool k (w ∷ vs) v o is = (o.0, ones_more pool k vs v o.1 is)

elements_more : (P : Val → Type 0) (vs : List Value) (v : Value) → AllByRecursion P (map val_of_value vs) → P (val_of_value v)
    → AllByRecursion P (map val_of_value (vs ++ v ∷ []))
elements_more P [] v o is = (is, tt)
elements_more P (w ∷ vs) v o is = (o.0, elements_more P vs v o.1 is)

pub held_more : (pool : List FileDescriptorProto) (k : Kind) (vs : List Value) (hs : List Held) (v : Value) (h : Held) → AreHeld pool k vs hs → IsHeldAs pool k v h
    → AreHeld pool k (vs ++ v ∷ []) (hs ++ h ∷ [])
held_more pool k vs hs v h a is = record {
  same = map-append val_of hs (h ∷ []) ∙ ap (λ (xs : List Val). xs ++ val_of h ∷ []) a.same ∙ ap (λ (x : Val). map val_of_value vs ++ x ∷ []) is.same
      ∙ sym (map-append val_of_value vs (v ∷ []));
  ones = ones_more pool k vs v a.ones is.one;
  elements = elements_more (IsElement (shape_of pool) k) vs v a.elements (subst (IsElement (shape_of pool) k) is.same is.element);
}

pub list_of_held : (pool : List FileDescriptorProto) (k : Kind) (vs : List Value) (hs : List Held) → ListIsOfKind → AreHeld pool k vs hs → IsListHeld pool k vs (held.Many hs)
list_of_held pool k vs hs law a = record {
  same = val_of-Many hs ∙ ap (λ (xs : List Val). many (vals_of xs)) a.same;
  ones = a.ones;
  elements = (law (shape_of pool) k (map val_of_value vs)).1 a.elements;
}

pub one_of : (pool : List FileDescriptorProto) (k : Kind) (ys : List Value) (v : Value) (rest : List Value) → AreOfKind pool k (ys ++ v ∷ rest) → IsOfKind pool k v
one_of pool k [] v rest o = o.0
one_of pool k (y ∷ ys) v rest o = one_of pool k ys v rest o.1

-- ---- maps

pub record AreHeldPairs (pool : List FileDescriptorProto) (key k : Kind) (vs : List (MapKey × Value)) (hs : List Pair) : Type 0 where
  pub same : map pair_of hs ≡ map entry_of_value vs
  pub pairs : AreEntriesOfKinds pool key k vs
  pub elements : AllByRecursion (IsPairOf (shape_of pool) key k) (map entry_of_value vs)

pub no_pairs_held : (pool : List FileDescriptorProto) (key k : Kind) → AreHeldPairs pool key k [] []
no_pairs_held pool key k = record { same = refl; pairs = tt; elements = tt }

pub pairs_more : (pool : List FileDescriptorProto) (key k : Kind) (vs : List (MapKey × Value)) (v : MapKey × Value) → AreEntriesOfKinds pool key k vs
    → variant_in_key v.0 ≡ variant_of key → IsOfKind pool k v.1 → AreEntriesOfKinds pool key k (vs ++ v ∷ [])
pairs_more pool key k [] v o e is = (e, is, tt)
pairs_more pool key k (w ∷ vs) v o e is = (o.0, o.1, pairs_more pool key k vs v o.2 e is)

entries_more : (P : Key × Val → Type 0) (vs : List (MapKey × Value)) (v : MapKey × Value) → AllByRecursion P (map entry_of_value vs) → P (entry_of_value v)
    → AllByRecursion P (map entry_of_value (vs ++ v ∷ []))
entries_more P [] v o is = (is, tt)
entries_more P (w ∷ vs) v o is = (o.0, entries_more P vs v o.1 is)

pub one_pair : (pool : List FileDescriptorProto) (key k : Kind) (ys : List (MapKey × Value)) (v : MapKey × Value) (rest : List (MapKey × Value))
    → AreEntriesOfKinds pool key k (ys ++ v ∷ rest) → (variant_in_key v.0 ≡ variant_of key) × IsOfKind pool k v.1
one_pair pool key k [] v rest o = (o.0, o.1)
one_pair pool key k (y ∷ ys) v rest o = one_pair pool key k ys v rest o.2

pub pairs_held_more : (pool : List FileDescriptorProto) (key k : Kind) (vs : List (MapKey × Value)) (hs : List Pair) (v : MapKey × Value) (p : Pair)
    → AreHeldPairs pool key k vs hs → IsPairHeld pool key k v p → AreHeldPairs pool key k (vs ++ v ∷ []) (hs ++ p ∷ [])
pairs_held_more pool key k vs hs v p a is = record {
  same = map-append pair_of hs (p ∷ []) ∙ ap (λ (xs : List (Key × Val)). xs ++ pair_of p ∷ []) a.same ∙ ap (λ (x : Key × Val). map entry_of_value vs ++ x ∷ []) is.same
      ∙ sym (map-append entry_of_value vs (v ∷ []));
  pairs = pairs_more pool key k vs v a.pairs is.own_key.variant is.one;
  elements = entries_more (IsPairOf (shape_of pool) key k) vs v a.elements (is.own_key.fits, is.element);
}

pub pair_is_held : (pool : List FileDescriptorProto) (key k : Kind) (q : MapKey) (v : Value) (now : MapKey) (h : Held) (p : Pair) → pair_of p ≡ (key_of now, val_of h)
    → now ≡ q → IsKeyOfKind key q → IsHeldAs pool k v h → IsPairHeld pool key k (q, v) p
pair_is_held pool key k q v now h p made e one is = record {
  same = made ∙ ap (λ (z : MapKey). (key_of z, val_of h)) e ∙ ap (λ (x : Val). (key_of q, x)) is.same;
  own_key = one;
  one = is.one;
  element = subst (IsElement (shape_of pool) k) is.same is.element;
}

pub same_before : (a b : MapKey) → variant_in_key a ≡ variant_in_key b → is_before a b ≡ key_before (key_of a) (key_of b)
same_before (key.Bool x) (key.Bool y) e = refl
same_before (key.Bool x) (key.I32 y) e = absurd cc
same_before (key.Bool x) (key.I64 y) e = absurd cc
same_before (key.Bool x) (key.U32 y) e = absurd cc
same_before (key.Bool x) (key.U64 y) e = absurd cc
same_before (key.Bool x) (key.String y) e = absurd cc
same_before (key.I32 x) (key.Bool y) e = absurd cc
same_before (key.I32 x) (key.I32 y) e = refl
same_before (key.I32 x) (key.I64 y) e = absurd cc
same_before (key.I32 x) (key.U32 y) e = absurd cc
same_before (key.I32 x) (key.U64 y) e = absurd cc
same_before (key.I32 x) (key.String y) e = absurd cc
same_before (key.I64 x) (key.Bool y) e = absurd cc
same_before (key.I64 x) (key.I32 y) e = absurd cc
same_before (key.I64 x) (key.I64 y) e = refl
same_before (key.I64 x) (key.U32 y) e = absurd cc
same_before (key.I64 x) (key.U64 y) e = absurd cc
same_before (key.I64 x) (key.String y) e = absurd cc
same_before (key.U32 x) (key.Bool y) e = absurd cc
same_before (key.U32 x) (key.I32 y) e = absurd cc
same_before (key.U32 x) (key.I64 y) e = absurd cc
same_before (key.U32 x) (key.U32 y) e = refl
same_before (key.U32 x) (key.U64 y) e = absurd cc
same_before (key.U32 x) (key.String y) e = absurd cc
same_before (key.U64 x) (key.Bool y) e = absurd cc
same_before (key.U64 x) (key.I32 y) e = absurd cc
same_before (key.U64 x) (key.I64 y) e = absurd cc
same_before (key.U64 x) (key.U32 y) e = absurd cc
same_before (key.U64 x) (key.U64 y) e = refl
same_before (key.U64 x) (key.String y) e = absurd cc
same_before (key.String x) (key.Bool y) e = absurd cc
same_before (key.String x) (key.I32 y) e = absurd cc
same_before (key.String x) (key.I64 y) e = absurd cc
same_before (key.String x) (key.U32 y) e = absurd cc
same_before (key.String x) (key.U64 y) e = absurd cc
same_before (key.String x) (key.String y) e = refl

-- of keys of one kind the order is that of contents
before_first : (pool : List FileDescriptorProto) (key k : Kind) (q : MapKey) (vs : List (MapKey × Value)) → variant_in_key q ≡ variant_of key → AreEntriesOfKinds pool key k vs
    → IsBeforeAll q vs → IsBeforeFirst (key_of q) (map entry_of_value vs)
before_first pool key k q [] e o b = tt
before_first pool key k q (w ∷ vs) e o b = sym (same_before q w.0 (e ∙ sym o.0)) ∙ b

ascend : (pool : List FileDescriptorProto) (key k : Kind) (vs : List (MapKey × Value)) → AreEntriesOfKinds pool key k vs → IsInKeyOrder vs → AscendByKey (map entry_of_value vs)
ascend pool key k [] o a = tt
ascend pool key k (v ∷ vs) o a = (before_first pool key k v.0 vs o.0 o.2 a.0, ascend pool key k vs o.2 a.1)

pub map_of_held : (pool : List FileDescriptorProto) (key k : Kind) (vs : List (MapKey × Value)) (hs : List Pair) → MapIsOfKinds → IsInKeyOrder vs → AreHeldPairs pool key k vs hs
    → IsMapHeld pool key k vs (held.Pairs hs)
map_of_held pool key k vs hs law o a = record {
  same = val_of-Pairs hs ∙ ap (λ (xs : List (Key × Val)). keyed (pairs_of xs)) a.same;
  pairs = a.pairs;
  elements = (law (shape_of pool) key k (map entry_of_value vs)).1 (a.elements, ascend pool key k vs a.pairs o);
}

-- ---- whole values

pub none_left : {X : Type 0} (xs : List X) → length xs ≡ 0 → xs ≡ []
none_left [] e = refl
none_left (x ∷ xs) e = absurd (omega (arith, e))

out-String : (t : List ℕ) → out-Value (value.String t) ≡ Value-F.String t
out-String t = search (rules, the_lemmas)

val-String : (t : List ℕ) → val_of_value (value.String t) ≡ text t
val-String t = search (rules, the_lemmas)

val-Text : (t : List ℕ) → val_of (held.Text t) ≡ text t
val-Text t = search (rules, held_lemmas)

pub text_held : (pool : List FileDescriptorProto) (k : Kind) (t : List ℕ) → variant_in (out-Value (value.String t)) ≡ variant_of k → IsTrue (is_utf8 t)
    → IsHeldAs pool k (value.String t) (held.Text t)
text_held pool k t v u =
    let e : variant_of k ≡ texts = sym v ∙ ap variant_in (out-String t) in
    let el : IsElement (shape_of pool) k (text t) = (kind_string k e, u) in
    record {
      same = val-Text t ∙ sym (val-String t);
      one = (v, subst (λ (x : Value-F Value). IsMessageAt pool x k) (sym (out-String t)) tt);
      element = subst (IsElement (shape_of pool) k) (sym (val-Text t)) el;
    }

pub out-Map : (ps : List (MapKey × Value)) → out-Value (value.Map ps) ≡ Value-F.Map ps
out-Map ps = search (rules, the_lemmas)

fused : (h : Value → Val) (ps : List (MapKey × Value))
    → map {B = Key × Val} (λ (p : MapKey × Val). (key_of p.0, p.1)) (map {B = MapKey × Val} (λ (q : MapKey × Value). (q.0, h q.1)) ps)
    ≡ map {B = Key × Val} (λ (q : MapKey × Value). (key_of q.0, h q.1)) ps
fused h [] = refl
fused h (p ∷ ps) = ap (λ (xs : List (Key × Val)). (key_of p.0, h p.1) ∷ xs) (fused h ps)

pub val-Map : (ps : List (MapKey × Value)) → val_of_value (value.Map ps) ≡ keyed (pairs_of (map entry_of_value ps))
val-Map ps =
    let step : val_of_value (value.Map ps)
    ≡ keyed (pairs_of (map {B = Key × Val} (λ (p : MapKey × Val). (key_of p.0, p.1)) (map {B = MapKey × Val} (λ (q : MapKey × Value). (q.0, val_of_value q.1)) ps))) = search (rules, the_lemmas) in
    step ∙ ap (λ (xs : List (Key × Val)). keyed (pairs_of xs)) (fused val_of_value ps)

pub ok_more : {E : Type 0} (P Q : Held → Type 0) (r : Result Held E) → ((h : Held) → P h → Q h) → IfOk r P → IfOk r Q
ok_more P Q (Ok h) more p = more h p
ok_more P Q (Err e) more p = tt

pub map_field : (pool : List FileDescriptorProto) (kk k : Kind) (ps : List (MapKey × Value)) (h : Held) → IsMapHeld pool kk k ps h
    → IsFieldHeld pool (Map kk) k (value.Map ps) h
map_field pool kk k ps h m = record {
  same = m.same ∙ sym (val-Map ps);
  by = subst (λ (x : Value-F Value). IsMapOfKinds pool kk k x) (sym (out-Map ps)) m.pairs;
  settable = subst (λ (x : Val). IsSettableBy (shape_of pool) (Map kk) k x) (sym m.same) m.elements;
}
