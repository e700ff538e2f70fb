-- Of `;` one after another the first and the last stay, as tokens are added one by one.
use Rattle.std.proofs.Common.{◌≡◌, suc, ◌-◌, ◌<◌, ◌≤◌, Bool, true, false, cond, List, [], ◌∷◌, ◌++◌, length, get_or, refl, sym, ap, subst, ◌∙◌, append_assoc, arith}
use Rattle.std.specs.Prelude.{◌&&◌, ◌↔◌, Option, Some, None, IsSome}
use Rattle.std.specs.Option.{option_to_list}
use Rattle.std.proofs.lemmas.Bool.{false≢true}
use Rattle.std.proofs.lemmas.List.{map-append}
use Rattle.pbx_parse_token.specs.Tokens.{Token}
use Rattle.pbx_parse_token.specs.declared.token.Token as code
use Rattle.pbx_parse_token.specs.Pieces.{is_semicolon, begins_semicolon, significant_after, significant}
use Rattle.pbx_parse_token.specs.Scan.{ends_after}
use Rattle.pbx_parse_token.specs.View.{word_of, token_of, tokens_of}
use Rattle.pbx_parse_token.proofs.Classes.{by_test, both}

cond_same : {A : Type 0} (c : Bool) (x y v w : A) → (c ≡ true → x ≡ v) → y ≡ w → cond c x y ≡ cond c v w
cond_same true x y v w e f = e refl
cond_same false x y v w e f = f

never : (a : Bool) → (a && false) ≡ false
never true = refl
never false = refl

swap : (a b : Bool) → (a && b) ≡ false → (b && a) ≡ false
swap true true e = e
swap true false e = refl
swap false true e = refl
swap false false e = refl

-- the last token stays
last : (before : Bool) (t : Token) → significant_after before (t ∷ []) ≡ t ∷ []
unfolding significant_after
last before t = rw (never (before && is_semicolon t.word)) refl

-- two lists of which the same stays, behind one token
behind : (before : Bool) (t : Token) (xs ys : List Token) → begins_semicolon xs ≡ begins_semicolon ys → significant_after (is_semicolon t.word) xs ≡ significant_after (is_semicolon t.word) ys
    → significant_after before (t ∷ xs) ≡ significant_after before (t ∷ ys)
unfolding significant_after
behind before t xs ys begin same =
    ap (λ (v : Bool). cond (before && is_semicolon t.word && v) (significant_after true xs) (t ∷ significant_after (is_semicolon t.word) xs)) begin
    ∙ cond_same (before && is_semicolon t.word && begins_semicolon ys) (significant_after true xs) (t ∷ significant_after (is_semicolon t.word) xs) (significant_after true ys) (t ∷ significant_after (is_semicolon t.word) ys)
    (λ h. let is = (both before (is_semicolon t.word) (both (before && is_semicolon t.word) (begins_semicolon ys) h).0).1 in
    subst (λ v. significant_after v xs ≡ significant_after v ys) is same) (ap (λ (r : List Token). t ∷ r) same)

-- a `;` behind two is the same as in place of the second
pub over : (before : Bool) (front : List Token) (u t : Token) (rest : List Token) → ends_after before (front ++ u ∷ []) ≡ true → is_semicolon t.word ≡ true
    → significant_after before (front ++ t ∷ rest) ≡ significant_after before ((front ++ u ∷ []) ++ t ∷ rest)
unfolding significant_after ends_after
over before [] u t rest e is = let h = both before (is_semicolon u.word) e in rw (h.0, h.1, is) refl
over before (f ∷ []) u t rest e is =
    let h = both (is_semicolon f.word) (is_semicolon u.word) e in
    behind before f (t ∷ rest) (u ∷ t ∷ rest) (is ∙ sym h.1) (over (is_semicolon f.word) [] u t rest e is)
over before (f ∷ g ∷ front) u t rest e is = behind before f (g ∷ (front ++ t ∷ rest)) (g ∷ ((front ++ u ∷ []) ++ t ∷ rest)) refl (over (is_semicolon f.word) (g ∷ front) u t rest e is)

pub ends_last : (before : Bool) (front : List Token) (u : Token) → ends_after before (front ++ u ∷ []) ≡ true → is_semicolon u.word ≡ true
unfolding ends_after
ends_last before [] u e = (both before (is_semicolon u.word) e).1
ends_last before (f ∷ []) u e = (both (is_semicolon f.word) (is_semicolon u.word) e).1
ends_last before (f ∷ g ∷ front) u e = ends_last (is_semicolon f.word) (g ∷ front) u e

no_longer : (before : Bool) (ts : List Token) → length (significant_after before ts) ≤ length ts
unfolding significant_after
no_longer before [] = omega arith
no_longer before (t ∷ ts) =
    by_test (before && is_semicolon t.word && begins_semicolon ts) (significant_after true ts) (t ∷ significant_after (is_semicolon t.word) ts) (significant_after before (t ∷ ts)) refl
    (λ p q. omega (arith, ap length q, no_longer true ts))
    (λ p q. omega (arith, ap length q, no_longer (is_semicolon t.word) ts))

-- where all of a list stays, its first token does
first_stays : (before : Bool) (t : Token) (ts : List Token) → significant_after before (t ∷ ts) ≡ t ∷ ts → ((before && is_semicolon t.word && begins_semicolon ts) ≡ false) × (significant_after (is_semicolon t.word) ts ≡ ts)
unfolding significant_after
first_stays before t ts e =
    by_test (before && is_semicolon t.word && begins_semicolon ts) (significant_after true ts) (t ∷ significant_after (is_semicolon t.word) ts) (t ∷ ts) e
    (λ p q. absurd (omega (arith, ap length q, no_longer true ts)))
    (λ p q. (p, cc))

stays_behind : (before : Bool) (t : Token) (ts : List Token) → (before && is_semicolon t.word && begins_semicolon ts) ≡ false → significant_after (is_semicolon t.word) ts ≡ ts → significant_after before (t ∷ ts) ≡ t ∷ ts
unfolding significant_after
stays_behind before t ts not same = rw not (ap (λ (r : List Token). t ∷ r) same)

-- one more token stays
pub stays_more : (before : Bool) (ts : List Token) (t : Token) → significant_after before ts ≡ ts → (ends_after before ts && is_semicolon t.word) ≡ false → significant_after before (ts ++ t ∷ []) ≡ ts ++ t ∷ []
unfolding ends_after
stays_more before [] t e not = last before t
stays_more before (s ∷ []) t e not = stays_behind before s (t ∷ []) not (last (is_semicolon s.word) t)
stays_more before (s ∷ v ∷ ts) t e not =
    let f = first_stays before s (v ∷ ts) e in
    stays_behind before s (v ∷ (ts ++ t ∷ [])) f.0 (stays_more (is_semicolon s.word) (v ∷ ts) t f.1 not)

-- a `;` in place of a `;` stays
pub stays_over : (before : Bool) (front : List Token) (u t : Token) → significant_after before (front ++ u ∷ []) ≡ front ++ u ∷ [] → is_semicolon u.word ≡ is_semicolon t.word → significant_after before (front ++ t ∷ []) ≡ front ++ t ∷ []
stays_over before [] u t e same = last before t
stays_over before (s ∷ []) u t e same =
    let f = first_stays before s (u ∷ []) e in
    stays_behind before s (t ∷ []) (ap (λ (v : Bool). before && is_semicolon s.word && v) (sym same) ∙ f.0) (last (is_semicolon s.word) t)
stays_over before (s ∷ v ∷ front) u t e same =
    let f = first_stays before s (v ∷ (front ++ u ∷ [])) e in
    stays_behind before s (v ∷ (front ++ t ∷ [])) f.0 (stays_over (is_semicolon s.word) (v ∷ front) u t f.1 same)

-- ---- the last two, as the code finds them

pub ends_few : (ts : List code.Token) → length ts < 2 → ends_after false (tokens_of ts) ≡ false
unfolding ends_after
ends_few [] few = refl
ends_few (t ∷ []) few = refl
ends_few (t ∷ u ∷ us) few = absurd (omega arith)

ends_at : (before : Bool) (ts : List code.Token) (d : code.Token) → 2 ≤ length ts
    → ends_after before (tokens_of ts) ≡ (is_semicolon (word_of (get_or ts (length ts - 2) d).word) && is_semicolon (word_of (get_or ts (length ts - 1) d).word))
unfolding ends_after
ends_at before [] d two = absurd (omega arith)
ends_at before (t ∷ []) d two = absurd (omega arith)
ends_at before (t ∷ u ∷ []) d two = refl
ends_at before (t ∷ u ∷ v ∷ vs) d two =
    let first : length (t ∷ u ∷ v ∷ vs) - 2 ≡ suc (length (u ∷ v ∷ vs) - 2) = omega arith in
    let second : length (t ∷ u ∷ v ∷ vs) - 1 ≡ suc (length (u ∷ v ∷ vs) - 1) = omega arith in
    rw (first, second) (ends_at (is_semicolon (word_of t.word)) (u ∷ v ∷ vs) d (omega arith))

pub ends_both : (ts : List code.Token) (d : code.Token) (y : Bool) → 2 ≤ length ts → true ≡ is_semicolon (word_of (get_or ts (length ts - 2) d).word) → y ≡ is_semicolon (word_of (get_or ts (length ts - 1) d).word) → y ≡ ends_after false (tokens_of ts)
ends_both ts d y two first second = second ∙ ap (λ (b : Bool). b && is_semicolon (word_of (get_or ts (length ts - 1) d).word)) first ∙ sym (ends_at false ts d two)

pub ends_not : (ts : List code.Token) (d : code.Token) → 2 ≤ length ts → false ≡ is_semicolon (word_of (get_or ts (length ts - 2) d).word) → false ≡ ends_after false (tokens_of ts)
ends_not ts d two first = ap (λ (b : Bool). b && is_semicolon (word_of (get_or ts (length ts - 1) d).word)) first ∙ sym (ends_at false ts d two)

-- ---- a token is added

-- to those that were kept, of which the last may go
pub record Added (old more : List code.Token) (t : code.Token) : Type 0 where
  pub same : (rest : List Token) → significant (tokens_of more ++ rest) ≡ significant (tokens_of old ++ token_of t ∷ rest)
  pub stay : significant (tokens_of old) ≡ tokens_of old → significant (tokens_of more) ≡ tokens_of more

pushed : (old more : List code.Token) (t : code.Token) → more ≡ old ++ t ∷ [] → tokens_of more ≡ tokens_of old ++ token_of t ∷ []
pushed old more t e = ap tokens_of e ∙ map-append token_of old (t ∷ [])

pub added : (old more : List code.Token) (t : code.Token) → (is_semicolon (word_of t.word) && ends_after false (tokens_of old)) ≡ false → more ≡ old ++ t ∷ [] → Added old more t
added old more t not e =
    let is = pushed old more t e in
    let swapped : (ends_after false (tokens_of old) && is_semicolon (word_of t.word)) ≡ false = swap (is_semicolon (word_of t.word)) (ends_after false (tokens_of old)) not in
    record {
      same = λ rest. ap significant (ap (λ (s : List Token). s ++ rest) is ∙ append_assoc (tokens_of old) (token_of t ∷ []) rest);
      stay = λ h. ap significant is ∙ stays_more false (tokens_of old) (token_of t) h swapped ∙ sym is;
    }

some_last : (old front : List code.Token) (o : Option code.Token) → old ≡ front ++ option_to_list o → IsSome o ↔ (0 < length old) → ends_after false (tokens_of old) ≡ true → (u : code.Token) × (old ≡ front ++ u ∷ [])
unfolding ends_after
some_last [] front o e some two = absurd cc
some_last (t ∷ ts) front None e some two = absurd (false≢true (some.1 (omega arith)))
some_last (t ∷ ts) front (Some u) e some two = (u, e)

pub added_over : (old front more : List code.Token) (t : code.Token) (o : Option code.Token) → (is_semicolon (word_of t.word) && ends_after false (tokens_of old)) ≡ true
    → old ≡ front ++ option_to_list o → IsSome o ↔ (0 < length old) → more ≡ front ++ t ∷ [] → Added old more t
added_over old front more t o third e some f =
    let h = both (is_semicolon (word_of t.word)) (ends_after false (tokens_of old)) third in
    let u = some_last old front o e some h.1 in
    let was : tokens_of old ≡ tokens_of front ++ token_of u.0 ∷ [] = pushed front old u.0 u.1 in
    let is : tokens_of more ≡ tokens_of front ++ token_of t ∷ [] = pushed front more t f in
    let two : ends_after false (tokens_of front ++ token_of u.0 ∷ []) ≡ true = ap (ends_after false) (sym was) ∙ h.1 in
    record {
      same = λ rest. ap significant (ap (λ (s : List Token). s ++ rest) is ∙ append_assoc (tokens_of front) (token_of t ∷ []) rest)
          ∙ over false (tokens_of front) (token_of u.0) (token_of t) rest two h.0 ∙ ap (λ (s : List Token). significant (s ++ token_of t ∷ rest)) (sym was);
      stay = λ k. ap significant is ∙ stays_over false (tokens_of front) (token_of u.0) (token_of t) (ap significant (sym was) ∙ k ∙ was) (ends_last false (tokens_of front) (token_of u.0) two ∙ sym h.0) ∙ sym is;
    }
