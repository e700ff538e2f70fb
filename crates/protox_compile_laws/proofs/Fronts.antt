-- Fronts of lists of finished files.
use Rattle.std.proofs.Common.{◌≡◌, ◌⊎◌, inl, inr, ◌+◌, ◌≤◌, ◌∷◌, ◌++◌, ◌∙◌, [], ℕ, List, true, false, refl, sym, ap, subst, length, append_assoc, append-nil, arith}
use Rattle.std.specs.Str.{bytes_eq}
use Rattle.std.proofs.lemmas.List.{length-append}
use Rattle.std.proofs.lemmas.List.Folds.{list_any-append}
use Rattle.pbx_link_rules.proofs.Lists.{neither}
use Rattle.protox_compile_walk.specs.Walk.{Done, is_done}
use Rattle.protox_compile_walk.specs.Refusals.{Extends}
use Rattle.protox_compile_laws.proofs.First.{done_more, done_last}

-- one is a front of the other
abbrev pub AreFronts : List Done → List Done → Type 0
AreFronts a b = Extends a b ⊎ Extends b a

fronts_more : (x : Done) (a b : List Done) → AreFronts a b → AreFronts (x ∷ a) (x ∷ b)
fronts_more x a b (inl e) = inl (record { more = e.more; is = ap (λ (l : List Done). x ∷ l) e.is })
fronts_more x a b (inr e) = inr (record { more = e.more; is = ap (λ (l : List Done). x ∷ l) e.is })

-- two fronts of one list
pub are_fronts : (a b more others : List Done) → a ++ more ≡ b ++ others → AreFronts a b
are_fronts [] b more others e = inl (record { more = b; is = refl })
are_fronts (x ∷ a) [] more others e = inr (record { more = x ∷ a; is = refl })
are_fronts (x ∷ a) (y ∷ b) more others e =
    let whole : x ∷ (a ++ more) ≡ y ∷ (b ++ others) = e in
    let head : x ≡ y = cc in
    let tail : a ++ more ≡ b ++ others = cc in
    let P : Done → Type 0 = λ z. AreFronts (x ∷ a) (z ∷ b) in
    subst P head (fronts_more x a b (are_fronts a b more others tail))

pub two_fronts : {a b c : List Done} → Extends a c → Extends b c → AreFronts a b
two_fronts {a} {b} p q = are_fronts a b p.more q.more (sym p.is ∙ q.is)

nothing_more : (a more : List Done) → a ++ more ≡ a → more ≡ []
nothing_more [] more e = e
nothing_more (x ∷ a) more e = let whole : x ∷ (a ++ more) ≡ x ∷ a = e in let tail : a ++ more ≡ a = cc in nothing_more a more tail

none_of_two : (a b : List Done) → a ++ b ≡ [] → a ≡ []
none_of_two [] b e = refl
none_of_two (x ∷ a) b e = let whole : x ∷ (a ++ b) ≡ [] = e in absurd cc

-- each is a front of the other
pub same_fronts : {a b : List Done} → Extends a b → Extends b a → b ≡ a
same_fronts {a} {b} p q =
    let round : a ++ (p.more ++ q.more) ≡ a = sym (append_assoc a p.more q.more) ∙ sym (ap (λ (l : List Done). l ++ q.more) p.is) ∙ sym q.is in
    let none : p.more ≡ [] = none_of_two p.more q.more (nothing_more a (p.more ++ q.more) round) in
    p.is ∙ ap (λ (l : List Done). a ++ l) none ∙ append-nil a

-- a front without the last
proper : (m front : List Done) (x : Done) (more : List Done) (d : Done) → m ++ x ∷ more ≡ front ++ d ∷ [] → Extends m front
proper [] front x more d e = record { more = front; is = refl }
proper (y ∷ m) [] x more d e = absurd (no m whole)
  where
    whole : y ∷ (m ++ x ∷ more) ≡ d ∷ []
    whole = e

    no : (l : List Done) → y ∷ (l ++ x ∷ more) ≡ d ∷ [] → ⊥
    no [] h = absurd cc
    no (z ∷ l) h = absurd cc
proper (y ∷ m) (z ∷ front) x more d e =
    let whole : y ∷ (m ++ x ∷ more) ≡ z ∷ (front ++ d ∷ []) = e in
    let head : z ≡ y = cc in
    let tail : m ++ x ∷ more ≡ front ++ d ∷ [] = cc in
    let rest : Extends m front = proper m front x more d tail in
    record { more = rest.more; is = ap (λ (l : List Done). z ∷ l) rest.is ∙ ap (λ (w : Done). w ∷ (m ++ rest.more)) head }

-- a front is the whole list, or a front of it without its last
pub whole_or_short : (m next front : List Done) (d : Done) → next ≡ front ++ d ∷ [] → Extends m next → (m ≡ next) ⊎ Extends m front
whole_or_short m next front d last e = at e.more e.is
  where
    at : (more : List Done) → next ≡ m ++ more → (m ≡ next) ⊎ Extends m front
    at [] h = inl (sym (h ∙ append-nil m))
    at (x ∷ more) h = inr (proper m front x more d (sym h ∙ last))

-- what is finished in a front is finished
pub done_front : {a b : List Done} → Extends a b → (name : List ℕ) → is_done a name ≡ true → is_done b name ≡ true
done_front {a} {b} p name h = ap (λ (l : List Done). is_done l name) p.is ∙ done_more a p.more name h

pub new_front : {a b : List Done} → Extends a b → (name : List ℕ) → is_done b name ≡ false → is_done a name ≡ false
new_front {a} {b} p name h =
    let whole : is_done (a ++ p.more) name ≡ false = sym (ap (λ (l : List Done). is_done l name) p.is) ∙ h in
    (neither (is_done a name) (is_done p.more name) (sym (list_any-append (λ (d : Done). bytes_eq d.name name) a p.more) ∙ whole)).0

-- a front in which the last name is not finished
pub short_front : (m next : List Done) (d : Done) → is_done m d.name ≡ false → Extends m (next ++ d ∷ []) → Extends m next
short_front m next d new e = at e.more (sym e.is)
  where
    at : (more : List Done) → m ++ more ≡ next ++ d ∷ [] → Extends m next
    at [] h =
        let same : m ≡ next ++ d ∷ [] = sym (append-nil m) ∙ h in
        let there : is_done m d.name ≡ true = ap (λ (l : List Done). is_done l d.name) same ∙ done_last next d in
        let wrong : true ≡ false = sym there ∙ new in absurd cc
    at (x ∷ more) h = proper m next x more d h

pub length_front : {a b : List Done} → Extends a b → length a ≤ length b
length_front {a} {b} p =
    let e : length b ≡ length a + length p.more = ap (λ (l : List Done). length l) p.is ∙ length-append a p.more in omega arith
