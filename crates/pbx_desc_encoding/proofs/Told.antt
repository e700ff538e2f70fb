-- Trees that are made field by field, and lists of values.
use Rattle.std.proofs.Common.{◌≡◌, ℕ, ◌+◌, ◌<◌, List, [], ◌∷◌, ◌++◌, length, take, get_or, map, true, sym, ap, ◌∙◌, rules}
use Rattle.std.specs.Prelude.{Bool, Result, Ok, Err, OnOk, IfOk}
use Rattle.std.specs.Str.{IsUtf8, is_utf8}
use Rattle.std.proofs.lemmas.Str.{is_utf8-from_IsUtf8}
use Rattle.std.proofs.lemmas.List.{take_more, map-append}
use Rattle.pbx_wire.specs.declared.text.Text.{Text}
use Rattle.pbx_content.specs.declared.shape.Kind.{Kind}
use Rattle.pbx_content.specs.declared.shape.Shape.{Shape}
use Rattle.pbx_content_codec.specs.declared.contents.Held.{Held}
use Rattle.pbx_content_codec.specs.declared.contents.Held as held
use Rattle.pbx_content_codec.specs.declared.contents.Contents.{Contents, the_lemmas}
use Rattle.pbx_content.specs.Content.{Content, truth, text, message, many, Val, vals_of}
use Rattle.pbx_content_codec.specs.View.{content_of, val_of}
use Rattle.pbx_desc_encoding.specs.Sound.{IsOf, AreOf}

pub val_of-Text : (t : Text) → val_of (held.Text t) ≡ text t
val_of-Text t = search (rules, the_lemmas)

pub val_of-Bool : (b : Bool) → val_of (held.Bool b) ≡ truth b
val_of-Bool b = search (rules, the_lemmas)

pub val_of-Message : (c : Contents) → val_of (held.Message c) ≡ message (content_of c)
val_of-Message c = search (rules, the_lemmas)

pub val_of-Many : (hs : List Held) → val_of (held.Many hs) ≡ many (vals_of (map val_of hs))
val_of-Many hs = search (rules, the_lemmas)

-- ---- one more of a list

pub mapped_more : {X : Type 0} (g : X → Val) (xs : List X) (i : ℕ) (x : X) → i < length xs → x ≡ get_or xs i x → map g (take (i + 1) xs) ≡ map g (take i xs) ++ g x ∷ []
mapped_more g xs i x lt is = ap (map g) (take_more xs i x lt ∙ ap (λ y. take i xs ++ y ∷ []) (sym is)) ∙ map-append g (take i xs) (x ∷ [])

pub values_more : {X : Type 0} (g : X → Val) (xs : List X) (i : ℕ) (x : X) (hs : List Held) (h : Held) → i < length xs → x ≡ get_or xs i x → map val_of hs ≡ map g (take i xs) → val_of h ≡ g x
    → map val_of (hs ++ h ∷ []) ≡ map g (take (i + 1) xs)
values_more g xs i x hs h lt is before here =
    map-append val_of hs (h ∷ []) ∙ ap (λ vs. vs ++ val_of h ∷ []) before ∙ ap (λ v. map g (take i xs) ++ v ∷ []) here ∙ sym (mapped_more g xs i x lt is)

pub are_pushed : (shape : Shape) (k : Kind) (vs : List Val) (v : Val) → AreOf shape k vs → IsOf shape k v → AreOf shape k (vs ++ v ∷ [])
are_pushed shape k [] v before here = (here, tt)
are_pushed shape k (w ∷ vs) v before here = (before.0, are_pushed shape k vs v before.1 here)

pub are_more : {X : Type 0} (shape : Shape) (k : Kind) (g : X → Val) (xs : List X) (i : ℕ) (x : X) → i < length xs → x ≡ get_or xs i x → AreOf shape k (map g (take i xs)) → IsOf shape k (g x)
    → AreOf shape k (map g (take (i + 1) xs))
are_more shape k g xs i x lt is before here = rw (mapped_more g xs i x lt is) (are_pushed shape k (map g (take i xs)) (g x) before here)

-- ---- texts

pub same_utf8 : (s t : List ℕ) → s ≡ t → IsUtf8 s → is_utf8 t ≡ true
same_utf8 s t e h = rw (← e) (is_utf8-from_IsUtf8 s h)

pub if_ok : {X E : Type 0} (P Q : X → Type 0) (r : Result X E) → ((x : X) → P x → Q x) → IfOk r P → IfOk r Q
if_ok P Q (Ok x) f h = f x h
if_ok P Q (Err e) f h = tt

pub on_both : {X E P Q S : Type 0} (r : Result X E) → (P → Q → S) → OnOk r P → OnOk r Q → OnOk r S
on_both (Ok x) f h k = f h k
on_both (Err e) f h k = tt

-- one message more
pub message_pushed : (hs : List Held) (c : Contents) (x : Content) → content_of c ≡ x → map val_of (hs ++ held.Message c ∷ []) ≡ map val_of hs ++ message x ∷ []
message_pushed hs c x e = map-append val_of hs (held.Message c ∷ []) ∙ ap (λ v. map val_of hs ++ v ∷ []) (val_of-Message c ∙ ap message e)

pub are_pushed_message : (shape : Shape) (k : Kind) (hs : List Held) (c : Contents) (x : Content) → content_of c ≡ x → AreOf shape k (map val_of hs) → IsOf shape k (message x)
    → AreOf shape k (map val_of (hs ++ held.Message c ∷ []))
are_pushed_message shape k hs c x e before here = rw (message_pushed hs c x e) (are_pushed shape k (map val_of hs) (message x) before here)
