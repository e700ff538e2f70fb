-- Values under names, as the pairs of a map.
use Rattle.std.proofs.Common.{◌≡◌, ℕ, ◌+◌, ◌<◌, true, Bool, List, [], ◌∷◌, ◌++◌, length, take, get_or, map, refl, sym, ap, ◌∙◌, subst}
use Rattle.std.specs.Str.{is_utf8}
use Rattle.std.proofs.lemmas.List.{take_more, map-append}
use Rattle.pbx_content.specs.declared.shape.Kind.TheVariants as kind
use Rattle.pbx_content.specs.Content.{Content, Key, Val, text_key, message, pairs_of, Pairs, no_pairs, pair}
use Rattle.pbx_content.specs.Sound.{IsSound, ArePairs, IsBefore}
use Rattle.pbx_content_codec.specs.declared.contents.Pair.{Pair}
use Rattle.pbx_content_codec.specs.View.{pair_of}
use Rattle.pbx_types.proofs.Told.{mapped_more}
use Rattle.pbx_types.specs.Texts.{IsBeforeAll, IsInOrder}
use Rattle.pbx_types.specs.declared.tree.Value.{Value}
use Rattle.pbx_desc_shapes.specs.TypesShape.{types_shape}
use Rattle.pbx_types.specs.Content.{value_content}
use Rattle.pbx_types.specs.Layers.{value_pair}

-- the pairs of a map of texts and messages of the type of Value
abbrev pub AreNamed : List (Key × Val) → Type 0
AreNamed ps = ArePairs types_shape kind.String (kind.Message 6) (pairs_of ps)

-- names are texts, and their values sound
abbrev pub AreGood : List (List ℕ × Value) → Type 0
AreGood [] = Unit {0}
AreGood (f ∷ fs) = (is_utf8 f.0 ≡ true) × IsSound types_shape 6 (value_content f.1) × AreGood fs

good_pushed : (fs : List (List ℕ × Value)) (f : List ℕ × Value) → AreGood fs → is_utf8 f.0 ≡ true → IsSound types_shape 6 (value_content f.1) → AreGood (fs ++ f ∷ [])
good_pushed [] f h u s = (u, s, tt)
good_pushed (g ∷ fs) f h u s = (h.0, h.1, good_pushed fs f h.2 u s)

pub good_more : (fs : List (List ℕ × Value)) (i : ℕ) (f : List ℕ × Value) → i < length fs → f ≡ get_or fs i f → AreGood (take i fs) → is_utf8 f.0 ≡ true → IsSound types_shape 6 (value_content f.1) → AreGood (take (i + 1) fs)
good_more fs i f lt is h u s =
    let next : take (i + 1) fs ≡ take i fs ++ f ∷ [] = take_more fs i f lt ∙ ap (λ (x : List ℕ × Value). take i fs ++ x ∷ []) (sym is) in
    rw next (good_pushed (take i fs) f h u s)

before_pairs : (k : List ℕ) (fs : List (List ℕ × Value)) → IsBeforeAll k fs → IsBefore (text_key k) (pairs_of (map value_pair fs))
before_pairs k [] b = tt
before_pairs k (f ∷ fs) b = b

pub named_from : (fs : List (List ℕ × Value)) → IsInOrder fs → AreGood fs → AreNamed (map value_pair fs)
named_from [] o h = tt
named_from (f ∷ fs) o h = (h.0, (6, refl, h.1), before_pairs f.0 fs o.0, named_from fs o.1 h.2)

before_from : (k : List ℕ) (fs : List (List ℕ × Value)) → IsBefore (text_key k) (pairs_of (map value_pair fs)) → IsBeforeAll k fs
before_from k [] b = tt
before_from k (f ∷ fs) b = b

pub order_from : (fs : List (List ℕ × Value)) → AreNamed (map value_pair fs) → IsInOrder fs
order_from [] h = tt
order_from (f ∷ fs) h = (before_from f.0 fs h.2, order_from fs h.3)

before_front : (k : Key) (ps qs : List (Key × Val)) → IsBefore k (pairs_of (ps ++ qs)) → IsBefore k (pairs_of ps)
before_front k [] qs b = tt
before_front k (p ∷ ps) qs b = b

pub named_front : (ps qs : List (Key × Val)) → AreNamed (ps ++ qs) → AreNamed ps
named_front [] qs h = tt
named_front (p ∷ ps) qs h = (h.0, h.1, before_front p.0 ps qs h.2, named_front ps qs h.3)

pub named_last : (ps : List (Key × Val)) (p : Key × Val) → AreNamed (ps ++ p ∷ []) → AreNamed (p ∷ [])
named_last [] p h = h
named_last (q ∷ ps) p h = named_last ps p h.3

pub pairs_more : {X : Type 0} (g : X → Key × Val) (xs : List X) (i : ℕ) (x : X) (ps : List Pair) (p : Pair) → i < length xs → x ≡ get_or xs i x → map pair_of ps ≡ map g (take i xs) → ◌≡◌ {A = Key × Val} (pair_of p) (g x)
    → map pair_of (ps ++ p ∷ []) ≡ map g (take (i + 1) xs)
pairs_more g xs i x ps p lt is before here =
    map-append pair_of ps (p ∷ []) ∙ ap (λ (qs : List (Key × Val)). qs ++ pair_of p ∷ []) before ∙ ap (λ (q : Key × Val). map g (take i xs) ++ q ∷ []) here ∙ sym (mapped_more g xs i x lt is)
