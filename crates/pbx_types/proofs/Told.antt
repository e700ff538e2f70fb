-- Trees that are made field by field, and lists of values.
use Rattle.std.proofs.Common.{◌≡◌, ℕ, ◌+◌, ◌<◌, true, List, [], ◌∷◌, ◌++◌, length, take, get_or, map, sym, ap, ◌∙◌}
use Rattle.std.specs.Prelude.{Result, Ok, Err, OnOk}
use Rattle.std.specs.Str.{IsUtf8, is_utf8}
use Rattle.std.proofs.lemmas.Str.{is_utf8-from_IsUtf8}
use Rattle.std.proofs.lemmas.List.{take_more, map-append}
use Rattle.pbx_content.specs.declared.shape.Kind.{Kind}
use Rattle.pbx_content_codec.specs.declared.contents.Held.{Held}
use Rattle.pbx_content.specs.Content.{Val, vals_of}
use Rattle.pbx_content.specs.Sound.{IsElement, AreElements}
use Rattle.pbx_content_codec.specs.View.{val_of}
use Rattle.pbx_desc_shapes.specs.TypesShape.{types_shape}

-- ---- one more of a list

pub mapped_more : {X Y : Type 0} (g : X → Y) (xs : List X) (i : ℕ) (x : X) → i < length xs → x ≡ get_or xs i x → map g (take (i + 1) xs) ≡ map g (take i xs) ++ g x ∷ []
mapped_more g xs i x lt is = ap (map g) (take_more xs i x lt ∙ ap (λ y. take i xs ++ y ∷ []) (sym is)) ∙ map-append g (take i xs) (x ∷ [])

pub values_more : {X : Type 0} (g : X → Val) (xs : List X) (i : ℕ) (x : X) (hs : List Held) (h : Held) → i < length xs → x ≡ get_or xs i x → map val_of hs ≡ map g (take i xs) → val_of h ≡ g x
    → map val_of (hs ++ h ∷ []) ≡ map g (take (i + 1) xs)
values_more g xs i x hs h lt is before here =
    map-append val_of hs (h ∷ []) ∙ ap (λ vs. vs ++ val_of h ∷ []) before ∙ ap (λ v. map g (take i xs) ++ v ∷ []) here ∙ sym (mapped_more g xs i x lt is)

are_pushed : (k : Kind) (vs : List Val) (v : Val) → AreElements types_shape k (vals_of vs) → IsElement types_shape k v → AreElements types_shape k (vals_of (vs ++ v ∷ []))
are_pushed k [] v before here = (here, tt)
are_pushed k (w ∷ vs) v before here = (before.0, are_pushed k vs v before.1 here)

pub are_more : {X : Type 0} (k : Kind) (g : X → Val) (xs : List X) (i : ℕ) (x : X) → i < length xs → x ≡ get_or xs i x → AreElements types_shape k (vals_of (map g (take i xs)))
    → IsElement types_shape k (g x) → AreElements types_shape k (vals_of (map g (take (i + 1) xs)))
are_more k g xs i x lt is before here = rw (mapped_more g xs i x lt is) (are_pushed k (map g (take i xs)) (g x) before here)

-- ---- texts, and answers

pub same_utf8 : (s t : List ℕ) → s ≡ t → IsUtf8 s → is_utf8 t ≡ true
same_utf8 s t e h = rw (← e) (is_utf8-from_IsUtf8 s h)

pub on_ok : {X E P Q : Type 0} (r : Result X E) → (P → Q) → OnOk r P → OnOk r Q
on_ok (Ok x) f h = f h
on_ok (Err e) f h = tt
