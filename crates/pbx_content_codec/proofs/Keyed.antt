-- Pairs by ascending key, with one more.
use Rattle.std.proofs.Common.{◌≡◌, ℕ, zero, suc, ◌+◌, ◌-◌, ◌<◌, ◌≤◌, Bool, true, false, if◌then◌else◌, List, [], ◌∷◌, ◌++◌, length, map, take, drop, drop-cons, get_or, Option, Some, None, refl, sym, ap, ◌∙◌, subst, arith}
use Rattle.std.specs.List.{AllByRecursion, insert, remove}
use Rattle.std.specs.Prelude.{◌==◌, not, Result, Ok, Err, OnOk}
use Rattle.std.proofs.lemmas.Bool.Decides.{nat_tests}
use Rattle.pbx_content.specs.declared.shape.Shape.{Shape}
use Rattle.pbx_content.specs.declared.shape.Kind.{Kind}
use Rattle.pbx_content.specs.Content.{Key, key_before, Content, content, Fields, no_fields, field, fields, get, without, with_fields, Val, keyed, Pairs, no_pairs, pair, pairs_of, with_pair, by_key}
use Rattle.pbx_wire.specs.declared.rec.Rec.{Rec}
use Rattle.std.specs.Prelude.{option_map, option_and_then}
use Rattle.pbx_content.specs.declared.shape.Cardinality.{Cardinality}
use Rattle.pbx_content.specs.declared.shape.Cardinality.TheVariants.{Map}
use Rattle.pbx_content.specs.declared.shape.FieldShape.{FieldShape}
use Rattle.pbx_content.specs.Content.{empty}
use Rattle.pbx_content.specs.Records.{bytes_of, each}
use Rattle.pbx_content.specs.Shape.{is_float, entry_fields}
use Rattle.pbx_content.specs.Meaning.{entry_in}
use Rattle.pbx_content.specs.Faults.{reads, payload_fields}
use Rattle.pbx_content.proofs.OntoAppends.{pairs-shown}
use Rattle.pbx_content.proofs.OntoLaw.{onto_at}
use Rattle.pbx_content_codec.specs.declared.fields.FieldView.{FieldView}
use Rattle.pbx_content_codec.specs.Fields.{field_like}
use Rattle.pbx_content_codec.specs.Merging.{onto_with}
use Rattle.pbx_content_codec.proofs.Single.{each_one, one_onto}
use Rattle.pbx_content.specs.Onto.{pair_list, pairs_held, InnerOnto, from_empty, value_onto}
use Rattle.pbx_content.specs.Meaning.{shown, zero_of, key_in, or_else, pair_in}
use Rattle.pbx_content_codec.specs.View.{pair_of}
use Rattle.pbx_content_codec.specs.Keyed.{AreAfter, AreInOrder, IsPlaceOf, stands_at}
use Rattle.pbx_content_codec.specs.declared.contents.Pair.{Pair}
use Rattle.pbx_content.proofs.OntoPairs.{Compared, first, later, same, key_compared, key_follows, by_key-again}
use Rattle.pbx_content_codec.proofs.Tree.{list-pairs}

-- ---- order

after_less : (k l : Key) (ps : List (Key × Val)) → key_before k l ≡ true → AreAfter l ps → AreAfter k ps
after_less k l [] e h = tt
after_less k l (p ∷ ps) e h = (key_follows k l p.0 e h.0, after_less k l ps e h.1)

not_own : (k l : Key) → key_before k l ≡ true → key_before l k ≡ false
not_own k l e = at (key_compared k l)
  where
    at : Compared key_before k l → key_before l k ≡ false
    at (first p q) = q
    at (later p q) = absurd (let bad : true ≡ false = sym e ∙ q in cc)
    at (same s p q) = absurd (let bad : true ≡ false = sym e ∙ p in cc)

with_after : (k l : Key) (v : Val) (ps : Pairs) → key_before k l ≡ true → AreAfter k (pair_list ps) → AreAfter k (pair_list (with_pair l v ps))
with_after k l v no_pairs e h = (e, tt)
with_after k l v (pair m w ps) e h = at (key_before l m) (key_before m l) (with_after k l v ps e h.1)
  where
    at : (a b : Bool) → AreAfter k (pair_list (with_pair l v ps))
        → AreAfter k (pair_list (if a then pair l v (pair m w ps) else (if b then pair m w (with_pair l v ps) else pair m w ps)))
    at true b ih = (e, h)
    at false true ih = (h.0, ih)
    at false false ih = h

with_order : (k : Key) (v : Val) (ps : Pairs) → AreInOrder (pair_list ps) → AreInOrder (pair_list (with_pair k v ps))
with_order k v no_pairs h = (tt, tt)
with_order k v (pair l w ps) h = at (key_before k l) (key_before l k) refl refl (with_order k v ps h.1)
  where
    at : (a b : Bool) → key_before k l ≡ a → key_before l k ≡ b → AreInOrder (pair_list (with_pair k v ps))
        → AreInOrder (pair_list (if a then pair k v (pair l w ps) else (if b then pair l w (with_pair k v ps) else pair l w ps)))
    at true b d e ih = ((d, after_less k l (pair_list ps) d h.0), h)
    at false true d e ih = (with_after l k v ps e h.0, ih)
    at false false d e ih = h

pub by_key_order : (ps : List (Key × Val)) → AreInOrder (pair_list (by_key ps))
by_key_order [] = tt
by_key_order (p ∷ ps) = with_order p.0 p.1 (by_key ps) (by_key_order ps)

-- ---- one more

with_first : (k : Key) (v : Val) (ps : List (Key × Val)) → AreAfter k ps → with_pair k v (pairs_of ps) ≡ pair k v (pairs_of ps)
with_first k v [] h = refl
with_first k v (p ∷ ps) h = rw h.0 refl

-- behind keys that are greater
by_first : (k : Key) (v : Val) (ps : List (Key × Val)) → AreInOrder ps → AreAfter k ps → by_key (ps ++ (k, v) ∷ []) ≡ pair k v (pairs_of ps)
by_first k v [] o h = refl
by_first k v (p ∷ ps) o h =
    ap (with_pair p.0 p.1) (by_first k v ps o.1 h.1) ∙ rw (not_own k p.0 h.0, h.0) (ap (pair k v) (with_first p.0 p.1 ps o.0))

-- at the key of the first
by_same : (k l : Key) (v w : Val) (ps : List (Key × Val)) → AreInOrder ((l, w) ∷ ps) → key_before l k ≡ false → key_before k l ≡ false
    → by_key ((l, w) ∷ ps ++ (k, v) ∷ []) ≡ pair k v (pairs_of ps)
by_same k l v w ps o d e = at (key_compared k l)
  where
    at : Compared key_before k l → by_key ((l, w) ∷ ps ++ (k, v) ∷ []) ≡ pair k v (pairs_of ps)
    at (first p q) = absurd (let bad : true ≡ false = sym p ∙ e in cc)
    at (later p q) = absurd (let bad : true ≡ false = sym p ∙ d in cc)
    at (same s p q) =
        let after = subst (λ (x : Key). AreAfter x ps) (sym s) o.0 in
        ap (with_pair l w) (by_first k v ps o.1 after) ∙ rw (d, e) refl

-- the pair at its place, where so many keys come before its own: in the place of the one that is there, or before it
abbrev pub placed : ℕ → Key → Val → List (Key × Val) → List (Key × Val)
placed zero k v [] = (k, v) ∷ []
placed zero k v (p ∷ ps) = if key_before k p.0 then (k, v) ∷ p ∷ ps else (k, v) ∷ ps
placed (suc i) k v [] = (k, v) ∷ []
placed (suc i) k v (p ∷ ps) = p ∷ placed i k v ps

placed_after : (l k : Key) (v : Val) (i : ℕ) (ps : List (Key × Val)) → key_before l k ≡ true → AreAfter l ps → AreAfter l (placed i k v ps)
placed_after l k v zero [] e h = (e, tt)
placed_after l k v zero (p ∷ ps) e h = at (key_before k p.0)
  where
    at : (b : Bool) → AreAfter l (if b then (k, v) ∷ p ∷ ps else (k, v) ∷ ps)
    at true = (e, h)
    at false = (e, h.1)
placed_after l k v (suc i) [] e h = (e, tt)
placed_after l k v (suc i) (p ∷ ps) e h = (h.0, placed_after l k v i ps e h.1)

pub by_placed : (i : ℕ) (k : Key) (v : Val) (ps : List (Key × Val)) → AreInOrder ps → IsPlaceOf k i ps → by_key (ps ++ (k, v) ∷ []) ≡ pairs_of (placed i k v ps)
by_placed zero k v [] o h = refl
by_placed zero k v (p ∷ ps) o h = at (key_before k p.0) refl
  where
    at : (b : Bool) → key_before k p.0 ≡ b → by_key ((p ∷ ps) ++ (k, v) ∷ []) ≡ pairs_of (if b then (k, v) ∷ p ∷ ps else (k, v) ∷ ps)
    at true e = by_first k v (p ∷ ps) o (e, after_less k p.0 ps e o.0)
    at false e = by_same k p.0 v p.1 ps o h e
by_placed (suc i) k v [] o h = absurd h
by_placed (suc i) k v (p ∷ ps) o h =
    ap (with_pair p.0 p.1) (by_placed i k v ps o.1 h.1) ∙ with_first p.0 p.1 (placed i k v ps) (placed_after p.0 k v i ps h.0 o.0)

-- pairs in order are as they are
pub by_ordered : (ps : List (Key × Val)) → AreInOrder ps → by_key ps ≡ pairs_of ps
by_ordered [] h = refl
by_ordered (p ∷ ps) h = ap (with_pair p.0 p.1) (by_ordered ps h.1) ∙ with_first p.0 p.1 ps h.0

-- pairs that are sorted, with one more
pub sorted_order : (ps qs : List (Key × Val)) → pairs_of ps ≡ by_key qs → AreInOrder ps
sorted_order ps qs e = subst AreInOrder (sym (ap pair_list e) ∙ list-pairs ps) (by_key_order qs)

pub sorted_more : (ps qs : List (Key × Val)) (p : Key × Val) (now : Pairs) → pairs_of ps ≡ by_key qs → now ≡ by_key (ps ++ p ∷ [])
    → now ≡ by_key (qs ++ p ∷ [])
sorted_more ps qs p now e put = put ∙ ap (λ (x : List (Key × Val)). by_key (x ++ p ∷ [])) (sym (list-pairs ps) ∙ ap pair_list e) ∙ by_key-again qs (p ∷ [])

pub order_more : (k : Key) (v : Val) (p : Key × Val) (ps : List (Key × Val)) → key_before k p.0 ≡ true → AreInOrder (p ∷ ps) → AreInOrder ((k, v) ∷ p ∷ ps)
order_more k v p ps e h = ((e, after_less k p.0 ps e h.0), h)

-- ---- places

-- those before this place come before the key, and those from that one on do not
pub record AreBetween (k : Key) (ps : List (Key × Val)) (low high : ℕ) : Type 0 where
  pub ordered : low ≤ high
  pub within : high ≤ length ps
  pub below : AllByRecursion (λ (p : Key × Val). key_before p.0 k ≡ true) (take low ps)
  pub above : AllByRecursion (λ (p : Key × Val). key_before p.0 k ≡ false) (drop high ps)

drop_past : {X : Type 0} (xs : List X) → drop (length xs) xs ≡ []
drop_past [] = refl
drop_past (x ∷ xs) = drop_past xs

pub between_all : (k : Key) (ps : List (Key × Val)) → AreBetween k ps 0 (length ps)
between_all k ps = record {
  ordered = omega arith;
  within = omega arith;
  below = tt;
  above = subst (AllByRecursion (λ (p : Key × Val). key_before p.0 k ≡ false)) (sym (drop_past ps)) tt;
}

before_through : (k l m : Key) → key_before k l ≡ true → key_before l m ≡ true → key_before k m ≡ true
before_through k l m e d = key_follows k l m e d

all_before : (k : Key) (ps : List (Key × Val)) (i : ℕ) (d : Key × Val) → AreInOrder ps → i < length ps → key_before (get_or ps i d).0 k ≡ true
    → AllByRecursion (λ (p : Key × Val). key_before p.0 k ≡ true) (take (suc i) ps)
all_before k [] i d o lt e = absurd (omega arith)
all_before k (p ∷ ps) zero d o lt e = (e, tt)
all_before k (p ∷ ps) (suc i) d o lt e =
    (key_follows p.0 (get_or ps i d).0 k (one_after p.0 ps i d o.0 (omega arith)) e, all_before k ps i d o.1 (omega arith) e)
  where
    one_after : (l : Key) (qs : List (Key × Val)) (j : ℕ) (d : Key × Val) → AreAfter l qs → j < length qs → key_before l (get_or qs j d).0 ≡ true
    one_after l [] j d h lt = absurd (omega arith)
    one_after l (q ∷ qs) zero d h lt = h.0
    one_after l (q ∷ qs) (suc j) d h lt = one_after l qs j d h.1 (omega arith)

not_through : (l m k : Key) → key_before l m ≡ true → key_before l k ≡ false → key_before m k ≡ false
not_through l m k e d = at (key_before m k) refl
  where
    at : (b : Bool) → key_before m k ≡ b → b ≡ false
    at true f = absurd (let bad : true ≡ false = sym (key_follows l m k e f) ∙ d in cc)
    at false f = refl

none_before : (k : Key) (ps : List (Key × Val)) (i : ℕ) (d : Key × Val) → AreInOrder ps → i < length ps → key_before (get_or ps i d).0 k ≡ false
    → AllByRecursion (λ (p : Key × Val). key_before p.0 k ≡ false) (drop i ps)
none_before k [] i d o lt e = absurd (omega arith)
none_before k (p ∷ ps) zero d o lt e = (e, rest ps o.0)
  where
    rest : (qs : List (Key × Val)) → AreAfter p.0 qs → AllByRecursion (λ (q : Key × Val). key_before q.0 k ≡ false) qs
    rest [] h = tt
    rest (q ∷ qs) h = (not_through p.0 q.0 k h.0 e, rest qs h.1)
none_before k (p ∷ ps) (suc i) d o lt e = none_before k ps i d o.1 (omega arith) e

pub between_up : (k : Key) (ps : List (Key × Val)) (low high i : ℕ) (d : Key × Val) → AreInOrder ps → i < high → key_before (get_or ps i d).0 k ≡ true
    → AreBetween k ps low high
    → AreBetween k ps (i + 1) high
between_up k ps low high i d o lt e h =
    let more : i + 1 ≡ suc i = omega arith in
    record {
      ordered = omega arith;
      within = h.within;
      below = subst (λ (n : ℕ). AllByRecursion (λ (p : Key × Val). key_before p.0 k ≡ true) (take n ps)) (sym more) (all_before k ps i d o (omega
          (arith, h.within)) e);
      above = h.above;
    }

pub between_down : (k : Key) (ps : List (Key × Val)) (low high i : ℕ) (d : Key × Val) → AreInOrder ps → low ≤ i → i < high
    → key_before (get_or ps i d).0 k ≡ false → AreBetween k ps low high
    → AreBetween k ps low i
between_down k ps low high i d o le lt e h = record {
  ordered = le;
  within = omega (arith, h.within);
  below = h.below;
  above = none_before k ps i d o (omega (arith, h.within)) e;
}

pub between_none : (k : Key) (ps : List (Key × Val)) (low high : ℕ) → high ≤ low → AreBetween k ps low high → IsPlaceOf k low ps
between_none k ps low high le h =
    let same : high ≡ low = omega (arith, h.ordered) in
    at ps low (omega (arith, h.within)) h.below (subst (λ (n : ℕ). AllByRecursion (λ (p : Key × Val). key_before p.0 k ≡ false) (drop n ps)) same h.above)
  where
    at : (ps : List (Key × Val)) (i : ℕ) → i ≤ length ps → AllByRecursion (λ (p : Key × Val). key_before p.0 k ≡ true) (take i ps)
        → AllByRecursion (λ (p : Key × Val). key_before p.0 k ≡ false) (drop i ps) → IsPlaceOf k i ps
    at [] zero lt b a = tt
    at [] (suc i) lt b a = absurd (omega arith)
    at (p ∷ ps) zero lt b a = a.0
    at (p ∷ ps) (suc i) lt b a = (b.0, at ps i (omega arith) b.1 a)

-- ---- in a list of pairs

last_from : (xs : List Pair) (i : ℕ) → length xs ≤ suc i → AreInOrder (map pair_of (drop i xs))
last_from [] zero le = tt
last_from [] (suc i) le = tt
last_from (x ∷ []) zero le = (tt, tt)
last_from (x ∷ y ∷ ys) zero le = absurd (omega arith)
last_from (x ∷ xs) (suc i) le = last_from xs i (omega arith)

pub last_order : (xs : List Pair) → AreInOrder (map pair_of (drop (length xs - 1) xs))
last_order xs = last_from xs (length xs - 1) (omega arith)

pub order_down : (xs : List Pair) (i : ℕ) (a b : Pair) → 1 < i → i ≤ length xs
    → key_before (pair_of (get_or xs (i - 2) a)).0 (pair_of (get_or xs (i - 1) b)).0 ≡ true → AreInOrder (map pair_of (drop (i - 1) xs))
    → AreInOrder (map pair_of (drop (i - 1 - 1) xs))
order_down xs i a b more le e h =
    let here : i - 1 - 1 ≡ i - 2 = omega arith in
    let next : suc (i - 2) ≡ i - 1 = omega arith in
    let one : drop (i - 2) xs ≡ get_or xs (i - 2) a ∷ drop (i - 1) xs =
    drop-cons xs (i - 2) a (omega arith) ∙ ap (λ (n : ℕ). get_or xs (i - 2) a ∷ drop n xs) next in
    let two : drop (i - 1) xs ≡ get_or xs (i - 1) b ∷ drop (suc (i - 1)) xs = drop-cons xs (i - 1) b (omega arith) in
    let tail = map pair_of (drop (suc (i - 1)) xs) in
    let behind : AreInOrder (pair_of (get_or xs (i - 1) b) ∷ tail) = subst (λ (ys : List Pair). AreInOrder (map pair_of ys)) two h in
    subst (λ (ys : List Pair). AreInOrder (map pair_of ys))
    (sym (ap (λ (n : ℕ). drop n xs) here ∙ one ∙ ap (λ (ys : List Pair). get_or xs (i - 2) a ∷ ys) two))
    (order_more (pair_of (get_or xs (i - 2) a)).0 (pair_of (get_or xs (i - 2) a)).1 (pair_of (get_or xs (i - 1) b)) tail e behind)

-- neighbours of pairs in order are so
pub order_at : (xs : List Pair) (i : ℕ) (a b : Pair) → suc i < length xs → AreInOrder (map pair_of xs)
    → key_before (pair_of (get_or xs i a)).0 (pair_of (get_or xs (suc i) b)).0 ≡ true
order_at [] i a b lt h = absurd (omega arith)
order_at (x ∷ []) i a b lt h = absurd (omega arith)
order_at (x ∷ y ∷ ys) zero a b lt h = h.0.0
order_at (x ∷ y ∷ ys) (suc i) a b lt h = order_at (y ∷ ys) i a b (omega arith) h.1

map_at : {A B : Type 0} (f : A → B) (xs : List A) (i : ℕ) (d : A) → get_or (map f xs) i (f d) ≡ f (get_or xs i d)
map_at f [] i d = refl
map_at f (x ∷ xs) zero d = refl
map_at f (x ∷ xs) (suc i) d = map_at f xs i d

pub key_there : (xs : List Pair) (i : ℕ) (d : Pair) (k : Key) (b : Bool) → b ≡ key_before (pair_of (get_or xs i d)).0 k
    → key_before (get_or (map pair_of xs) i (pair_of d)).0 k ≡ b
key_there xs i d k b e = ap (λ (p : Key × Val). key_before p.0 k) (map_at pair_of xs i d) ∙ sym e

pub length_pairs : (xs : List Pair) → length (map pair_of xs) ≡ length xs
length_pairs [] = refl
length_pairs (x ∷ xs) = ap suc (length_pairs xs)

place_fits : (k : Key) (i : ℕ) (ps : List (Key × Val)) → IsPlaceOf k i ps → i ≤ length ps
place_fits k zero ps h = omega arith
place_fits k (suc i) [] h = absurd h
place_fits k (suc i) (p ∷ ps) h = omega (arith, place_fits k i ps h.1)

pub place_within : (k : Key) (i : ℕ) (xs : List Pair) → IsPlaceOf k i (map pair_of xs) → i ≤ length xs
place_within k i xs h = omega (arith, place_fits k i (map pair_of xs) h, length_pairs xs)

pub stands_here : (xs : List Pair) (i : ℕ) (d : Pair) (k : Key) (b : Bool) → i < length xs → b ≡ key_before k (pair_of (get_or xs i d)).0
    → not b ≡ stands_at k i (map pair_of xs)
stands_here [] i d k b lt e = absurd (omega arith)
stands_here (x ∷ xs) zero d k b lt e = ap not e
stands_here (x ∷ xs) (suc i) d k b lt e = stands_here xs i d k b (omega arith) e

pub stands_past : (xs : List Pair) (i : ℕ) (k : Key) → length xs ≤ i → false ≡ stands_at k i (map pair_of xs)
stands_past [] i k le = refl
stands_past (x ∷ xs) zero k le = absurd (omega arith)
stands_past (x ∷ xs) (suc i) k le = stands_past xs i k (omega arith)

pub stands_within : (xs : List Pair) (i : ℕ) (k : Key) → stands_at k i (map pair_of xs) ≡ true → i < length xs
stands_within [] i k e = absurd cc
stands_within (x ∷ xs) zero k e = omega arith
stands_within (x ∷ xs) (suc i) k e = omega (arith, stands_within xs i k e)

pub unnot : (a b : Bool) → not a ≡ b → a ≡ not b
unnot true true e = absurd cc
unnot true false e = refl
unnot false true e = refl
unnot false false e = absurd cc

-- behind the last, or before one with a greater key
put_new : (xs : List Pair) (i : ℕ) (p : Pair) (k : Key) (v : Val) → ◌≡◌ {A = Key × Val} (pair_of p) (k, v) → i ≤ length xs
    → stands_at k i (map pair_of xs) ≡ false
    → map pair_of (insert xs i p) ≡ placed i k v (map pair_of xs)
put_new [] zero p k v is le new = ap (λ (x : Key × Val). x ∷ []) is
put_new [] (suc i) p k v is le new = absurd (omega arith)
put_new (x ∷ xs) zero p k v is le new = rw (unnot (key_before k (pair_of x).0) false new) (ap (λ (y : Key × Val). y ∷ pair_of x ∷ map pair_of xs) is)
put_new (x ∷ xs) (suc i) p k v is le new = ap (λ (t : List (Key × Val)). pair_of x ∷ t) (put_new xs i p k v is (omega arith) new)

-- in the place of the one that is there
put_again : (xs : List Pair) (i : ℕ) (p : Pair) (k : Key) (v : Val) → ◌≡◌ {A = Key × Val} (pair_of p) (k, v) → stands_at k i (map pair_of xs) ≡ true
    → map pair_of (insert (remove xs i) i p) ≡ placed i k v (map pair_of xs)
put_again [] i p k v is old = absurd cc
put_again (x ∷ xs) zero p k v is old = rw (unnot (key_before k (pair_of x).0) true old) (ap (λ (y : Key × Val). y ∷ map pair_of xs) is)
put_again (x ∷ xs) (suc i) p k v is old = ap (λ (t : List (Key × Val)). pair_of x ∷ t) (put_again xs i p k v is old)

pub put_at_new : (xs now : List Pair) (i : ℕ) (p : Pair) (k : Key) (v : Val) → ◌≡◌ {A = Key × Val} (pair_of p) (k, v) → AreInOrder (map pair_of xs)
    → IsPlaceOf k i (map pair_of xs)
    → stands_at k i (map pair_of xs) ≡ false → now ≡ insert xs i p → pairs_of (map pair_of now) ≡ by_key (map pair_of xs ++ (k, v) ∷ [])
put_at_new xs now i p k v is o h new put =
    ap (λ (x : List Pair). pairs_of (map pair_of x)) put ∙ ap pairs_of (put_new xs i p k v is (place_within k i xs h) new)
    ∙ sym (by_placed i k v (map pair_of xs) o h)

pub put_at_old : (xs now : List Pair) (i : ℕ) (p : Pair) (k : Key) (v : Val) → ◌≡◌ {A = Key × Val} (pair_of p) (k, v) → AreInOrder (map pair_of xs)
    → IsPlaceOf k i (map pair_of xs)
    → stands_at k i (map pair_of xs) ≡ true → now ≡ insert (remove xs i) i p → pairs_of (map pair_of now) ≡ by_key (map pair_of xs ++ (k, v) ∷ [])
put_at_old xs now i p k v is o h old put =
    ap (λ (x : List Pair). pairs_of (map pair_of x)) put ∙ ap pairs_of (put_again xs i p k v is old) ∙ sym (by_placed i k v (map pair_of xs) o h)

pub on_ok_more : {T E : Type 0} {P Q : Type 0} (r : Result T E) → (P → Q) → OnOk r P → OnOk r Q
on_ok_more (Ok x) f h = f h
on_ok_more (Err e) f h = tt

-- ---- the pair of an entry

get_other : (n m : ℕ) (fs : Fields) → (n == m) ≡ false → get n (without m fs) ≡ get n fs
get_other n m no_fields e = refl
get_other n m (field k v fs) e = at (m == k) (n == k) refl refl (get_other n m fs e)
  where
    at : (a b : Bool) → (m == k) ≡ a → (n == k) ≡ b → get n (without m fs) ≡ get n fs
        → get n (if a then fs else field k v (without m fs)) ≡ (if b then Some v else get n fs)
    at true true d f ih = absurd (let bad : (n == m) ≡ true = grind (arith, nat_tests) in let worse : true ≡ false = sym bad ∙ e in cc)
    at true false d f ih = refl
    at false b d f ih = ap (λ x. if x then Some v else get n (without m fs)) f ∙ by b ih
      where
        by : (b : Bool) → get n (without m fs) ≡ get n fs → (if b then Some v else get n (without m fs)) ≡ (if b then Some v else get n fs)
        by true ih = refl
        by false ih = ih

pub second_there : (c mid : Content) → mid ≡ with_fields c (without 1 (fields c)) → get 2 (fields mid) ≡ get 2 (fields c)
second_there (content fs ks) mid e = ap (λ (x : Content). get 2 (fields x)) e ∙ get_other 2 1 fs refl

pub entry_given : (shape : Shape) (key kind : Kind) (c : Content) (k : Key) (v a : Val) → k ≡ key_in a
    → a ≡ or_else (get 1 (fields c)) (zero_of shape key)
    → v ≡ or_else (get 2 (fields c)) (zero_of shape kind) → ◌≡◌ {A = Key × Val} (k, v) (pair_in shape key kind c)
entry_given shape key kind c k v a p q s =
    ap (λ (x : Key). (x, v)) (p ∙ ap key_in q)
    ∙ ap (λ (x : Val). (key_in (or_else (get 1 (fields c)) (zero_of shape key)), x)) s

pub pair_put : (old : List (Key × Val)) (p q : Key × Val) (now : Pairs) → p ≡ q → now ≡ by_key (old ++ p ∷ []) → now ≡ by_key (old ++ q ∷ [])
pair_put old p q now e h = h ∙ ap (λ (x : Key × Val). by_key (old ++ x ∷ [])) e

-- ---- maps

shown_with : (shape : Shape) (kind : Kind) (k : Key) (v : Val) (ps : Pairs)
    → shown shape false kind (Some (keyed (with_pair k v ps))) ≡ Some (keyed (with_pair k v ps))
shown_with shape kind k v no_pairs = refl
shown_with shape kind k v (pair l w ps) = at (key_before k l) (key_before l k)
  where
    at : (a b : Bool) → shown shape false kind (Some (keyed (if a then pair k v (pair l w ps) else (if b then pair l w (with_pair k v ps) else pair l w ps))))
        ≡ Some (keyed (if a then pair k v (pair l w ps) else (if b then pair l w (with_pair k v ps) else pair l w ps)))
    at true b = refl
    at false true = refl
    at false false = refl

pub shown_more : (shape : Shape) (kind : Kind) (ps : List (Key × Val)) (p : Key × Val)
    → shown shape false kind (Some (keyed (by_key (ps ++ p ∷ [])))) ≡ Some (keyed (by_key (ps ++ p ∷ [])))
shown_more shape kind [] p = shown_with shape kind p.0 p.1 no_pairs
shown_more shape kind (q ∷ ps) p = shown_with shape kind q.0 q.1 (by_key (ps ++ p ∷ []))

pub ordered_held : (shape : Shape) (inner : InnerOnto) (f : FieldShape) (key : Kind) (old : Option Val) (rs : List Rec) (o : Option Val) → is_float f.kind ≡ false
    → f.cardinality ≡ Map key
    → value_onto shape inner f old rs ≡ Some o → AreInOrder (pairs_held o)
ordered_held shape inner f key old rs o float map_is e = at (each (entry_in (from_empty inner) key f.kind) rs) (sym these ∙ e)
  where
    these : value_onto shape inner f old rs
        ≡ option_map (λ cs. shown shape false f.kind (Some (keyed (by_key (pairs_held old ++ map (pair_in shape key f.kind) cs))))) (each (entry_in
        (from_empty inner) key f.kind) rs)
    these = rw (float, map_is) refl

    at : (x : Option (List Content)) → option_map (λ cs. shown shape false f.kind (Some (keyed (by_key (pairs_held old ++ map
        (pair_in shape key f.kind) cs))))) x ≡ Some o → AreInOrder (pairs_held o)
    at None e = absurd cc
    at (Some cs) e =
        let is : shown shape false f.kind (Some (keyed (by_key (pairs_held old ++ map (pair_in shape key f.kind) cs)))) ≡ o = cc in
        subst (λ (x : Option Val). AreInOrder (pairs_held x)) is
        (subst AreInOrder (sym (pairs-shown shape f.kind (by_key (pairs_held old ++ map (pair_in shape key f.kind) cs)))) (by_key_order (pairs_held old ++ map
        (pair_in shape key f.kind) cs)))

pub pair_found : (shape : Shape) (m d : ℕ) (key : Kind) (v : FieldView) (old : Option Val) (r : Rec) (b : List ℕ) (entry : Content)
    → is_float v.kind ≡ false → v.cardinality ≡ Map key → m ≡ suc d
    → bytes_of r ≡ Some b → onto_with shape d d (entry_fields key v.kind) empty b ≡ Some entry
    → value_onto shape (onto_at shape m) (field_like v) old (r ∷ []) ≡ Some (Some (keyed (by_key (pairs_held old ++ pair_in shape key v.kind entry ∷ []))))
pair_found shape m d key v old r b entry float map_is deep bytes e =
    ap (λ (x : ℕ). value_onto shape (onto_at shape x) (field_like v) old (r ∷ [])) deep ∙ these
    ∙ ap (option_map (λ cs. shown shape false v.kind (Some (keyed (by_key (pairs_held old ++ map (pair_in shape key v.kind) cs))))))
    (each_one (entry_in (from_empty (onto_at shape (suc d))) key v.kind) r
    ∙ ap (λ (x : Option (List ℕ)). option_map (λ y. y ∷ []) (option_and_then (λ p. onto_at shape (suc d) (entry_fields key v.kind) empty (p ∷ [])) x)) bytes
    ∙ ap (option_map (λ y. y ∷ [])) (one_onto shape d (entry_fields key v.kind) empty b ∙ e))
    ∙ ap (λ (x : Option Val). Some x) (shown_more shape v.kind (pairs_held old) (pair_in shape key v.kind entry))
  where
    these : value_onto shape (onto_at shape (suc d)) (field_like v) old (r ∷ [])
        ≡ option_map (λ cs. shown shape false v.kind (Some (keyed (by_key (pairs_held old ++ map (pair_in shape key v.kind) cs))))) (each (entry_in
        (from_empty (onto_at shape (suc d))) key v.kind) (r ∷ []))
    these = rw (float, map_is) refl

pub pair_reads : (key : Kind) (c : Cardinality) (k : Kind) → c ≡ Map key → (w : ℕ) → (w == 2) ≡ false → reads c k w ≡ false
pair_reads key c k map_is w e = rw map_is e

pub pair_inside : (shape : Shape) (key : Kind) (c : Cardinality) (k : Kind) → c ≡ Map key → payload_fields shape c k ≡ Some (entry_fields key k)
pair_inside shape key c k map_is = rw map_is refl
