-- What two equal lists of tokens begin with, and the lists of trees that they spell.
use Rattle.std.proofs.Common.{◌≡◌, ℕ, List, [], ◌∷◌, Bool, true, false, not, ◌&&◌, ◌==◌, Option, Some, None, refl, sym, ap, ◌∙◌}
use Rattle.std.specs.List.{list_all}
use Rattle.std.specs.Str.{bytes_eq}
use Rattle.std.proofs.lemmas.Bool.{false≢true}
use Rattle.std.proofs.lemmas.Bool.Decides.{Decides-eqb}
use Rattle.std.proofs.lemmas.List.Folds.{list_all-map}
use Rattle.std.proofs.lemmas.Slice.Eq.{bytes_eq-Decides}
use Rattle.pbx_parse_token.specs.declared.token.Span.{Span}
use Rattle.pbx_parse_token.specs.Tokens.{Word, Token, ident, int, str, mark}
use Rattle.pbx_parse_tree.specs.Tree.{Name, Literal, Count, Number, Separated, all_of}
use Rattle.pbx_parse_tree.specs.Grammar.{marked, worded, named, quoted, counted, mark_then, list_then, next_then, separated_then, count_then, number_then}
use Rattle.pbx_parse_tree.proofs.Holds.{both, joined, to_not, always}

-- the parts of two lists that are equal
pub heads : {t u : Token} {ts us : List Token} → t ∷ ts ≡ u ∷ us → (t ≡ u) × (ts ≡ us)
heads e = (cc, cc)

-- ---- tests of the first token

abbrev pub first_is : (Word → Bool) → List Token → Bool
first_is p [] = false
first_is p (t ∷ ts) = p t.word

abbrev pub is_mark : ℕ → Word → Bool
is_mark b (ident t) = false
is_mark b (int n) = false
is_mark b (str t) = false
is_mark b (mark c) = c == b

abbrev pub is_word : (List ℕ → Bool) → Word → Bool
is_word p (ident t) = p t
is_word p (int n) = false
is_word p (str t) = false
is_word p (mark c) = false

abbrev pub is_string : Word → Bool
is_string (ident t) = false
is_string (int n) = false
is_string (str t) = true
is_string (mark c) = false

-- an integer, or the sign before it
abbrev pub begins_number : Word → Bool
begins_number (ident t) = false
begins_number (int n) = true
begins_number (str t) = false
begins_number (mark c) = c == 45

-- of the second token
abbrev pub next_is : (Word → Bool) → List Token → Bool
next_is p [] = false
next_is p (t ∷ ts) = first_is p ts

abbrev pub sees_mark : ℕ → List Token → Bool
sees_mark b ts = first_is (is_mark b) ts

-- a word of this sort
abbrev pub sees : (List ℕ → Bool) → List Token → Bool
sees p ts = first_is (is_word p) ts

abbrev pub sees_word : List ℕ → List Token → Bool
sees_word w ts = sees (λ t. bytes_eq t w) ts

mark_itself : (b : ℕ) → (b == b) ≡ true
mark_itself b = (Decides-eqb b b).1 refl

pub word_itself : (t : List ℕ) → bytes_eq t t ≡ true
word_itself t = (bytes_eq-Decides t t).1 refl

-- a test cannot have two answers
pub apart : {x y : List Token} (p : List Token → Bool) → p x ≡ true → p y ≡ false → x ≡ y → ⊥
apart p f g e = false≢true (sym g ∙ sym (ap p e) ∙ f)

-- ---- one token

pub word_same : {a b : List ℕ} {s t : Span} → worded a s ≡ worded b t → a ≡ b
word_same {a = a} {b = b} e =
    let w : ident a ≡ ident b = ap (λ (x : Token). x.word) e in
    cc

pub span_same : {t u : Token} → t ≡ u → t.span ≡ u.span
span_same e = ap (λ (x : Token). x.span) e

pub named_same : {m n : Name} → named m ≡ named n → m ≡ n
named_same {m = m} {n = n} e =
    let text : m.text ≡ n.text = word_same e in
    let span : m.span ≡ n.span = span_same e in
    λ i. record { text = text i; span = span i }

pub quoted_same : {m n : Literal} → quoted m ≡ quoted n → m ≡ n
quoted_same {m = m} {n = n} e =
    let w : str m.text ≡ str n.text = ap (λ (x : Token). x.word) e in
    let text : m.text ≡ n.text = cc in
    let span : m.span ≡ n.span = span_same e in
    λ i. record { text = text i; span = span i }

pub counted_same : {m n : Count} → counted m ≡ counted n → m ≡ n
counted_same {m = m} {n = n} e =
    let w : int m.value ≡ int n.value = ap (λ (x : Token). x.word) e in
    let value : m.value ≡ n.value = cc in
    let span : m.span ≡ n.span = span_same e in
    λ i. record { value = value i; span = span i }

-- ---- a mark that may be left out

pub mark_then_same : (b : ℕ) (o p : Option Span) {x y : List Token} → sees_mark b x ≡ false → sees_mark b y ≡ false → mark_then b o x ≡ mark_then b p y → (o ≡ p) × (x ≡ y)
mark_then_same b None None f g e = (refl, e)
mark_then_same b None (Some t) f g e = absurd (apart (sees_mark b) (mark_itself b) f (sym e))
mark_then_same b (Some s) None f g e = absurd (apart (sees_mark b) (mark_itself b) g e)
mark_then_same b (Some s) (Some t) f g e = let h = heads e in ((λ i. Some ((h.0 i).span)), h.1)

pub number_same : (m n : Number) {x y : List Token} → number_then m x ≡ number_then n y → (m ≡ n) × (x ≡ y)
number_same m n e =
    let h = mark_then_same 45 m.minus n.minus refl refl e in
    let k = heads h.1 in
    let w : int m.value ≡ int n.value = ap (λ (t : Token). t.word) k.0 in
    let value : m.value ≡ n.value = cc in
    ((λ i. record { minus = h.0 i; value = value i; span = (k.0 i).span }), k.1)

pub count_same : (m n : Count) {x y : List Token} → count_then m x ≡ count_then n y → (m ≡ n) × (x ≡ y)
count_same m n e = let h = heads e in (counted_same h.0, h.1)

-- ---- lists: the trees in them are spelled in one way where they fit and what follows is as it should be

abbrev pub SpellsOnce : {A : Type 0} → (A → List Token → List Token) → (A → Bool) → (List Token → Bool) → Type 0
SpellsOnce {A = A} one_then fits after = (a b : A) (x y : List Token) → fits a ≡ true → fits b ≡ true → after x ≡ true → after y ≡ true → one_then a x ≡ one_then b y → (a ≡ b) × (x ≡ y)

module _ {A : Type 0} (one_then : A → List Token → List Token) (fits : A → Bool) (after stop : List Token → Bool) (one_same : SpellsOnce one_then fits after) (goes : (a : A) (x : List Token) → fits a ≡ true → stop (one_then a x) ≡ false) (between : (a : A) (x : List Token) → fits a ≡ true → after (one_then a x) ≡ true) (ended : (x : List Token) → stop x ≡ true → after x ≡ true) where
  follows : (xs : List A) (s : List Token) → list_all fits xs ≡ true → stop s ≡ true → after (list_then one_then xs s) ≡ true
  unfolding list_then
  follows [] s f p = ended s p
  follows (x ∷ xs) s f p = between x (list_then one_then xs s) (both f).0

  pub list_same : (xs ys : List A) (s t : List Token) → list_all fits xs ≡ true → list_all fits ys ≡ true → stop s ≡ true → stop t ≡ true → list_then one_then xs s ≡ list_then one_then ys t → (xs ≡ ys) × (s ≡ t)
  unfolding list_then
  list_same [] [] s t f g p q e = (refl, e)
  list_same [] (y ∷ ys) s t f g p q e = absurd (apart stop p (goes y (list_then one_then ys t) (both g).0) e)
  list_same (x ∷ xs) [] s t f g p q e = absurd (apart stop q (goes x (list_then one_then xs s) (both f).0) (sym e))
  list_same (x ∷ xs) (y ∷ ys) s t f g p q e =
      let f' = both f in
      let g' = both g in
      let h = one_same x y (list_then one_then xs s) (list_then one_then ys t) f'.0 g'.0 (follows xs s f'.1 p) (follows ys t g'.1 q) e in
      let r = list_same xs ys s t f'.1 g'.1 p q h.1 in
      ((λ i. h.0 i ∷ r.0 i), r.1)

module _ {A : Type 0} (b : ℕ) (one_then : A → List Token → List Token) (fits : A → Bool) (after : List Token → Bool) (one_same : SpellsOnce one_then fits after) (comma : (s : Span) (x : List Token) → after (marked b s ∷ x) ≡ true) where
  abbrev next_fits : Span × A → Bool
  next_fits x = fits x.1

  abbrev ends : List Token → Bool
  ends x = not (sees_mark b x) && after x

  next_same : SpellsOnce (next_then b one_then) next_fits after
  next_same m n x y f g p q e =
      let h = heads e in
      let k = one_same m.1 n.1 x y f g p q h.1 in
      ((λ i. ((h.0 i).span, k.0 i)), k.1)

  next_goes : (a : Span × A) (x : List Token) → next_fits a ≡ true → ends (next_then b one_then a x) ≡ false
  next_goes a x f = ap (λ c. not c && after (next_then b one_then a x)) (mark_itself b)

  next_follows : (xs : List (Span × A)) (s : List Token) → after s ≡ true → after (list_then (next_then b one_then) xs s) ≡ true
  unfolding list_then
  next_follows [] s p = p
  next_follows (x ∷ xs) s p = comma x.0 (one_then x.1 (list_then (next_then b one_then) xs s))

  pub separated_same : (l m : Separated A) (s t : List Token) → list_all fits (all_of l) ≡ true → list_all fits (all_of m) ≡ true → sees_mark b s ≡ false → sees_mark b t ≡ false → after s ≡ true → after t ≡ true → separated_then b one_then l s ≡ separated_then b one_then m t → (l ≡ m) × (s ≡ t)
  separated_same l m s t f g p q u v e =
      let f' = both f in
      let g' = both g in
      let h = one_same l.first m.first (list_then (next_then b one_then) l.more s) (list_then (next_then b one_then) m.more t) f'.0 g'.0 (next_follows l.more s u) (next_follows m.more t v) e in
      let k = list_same (next_then b one_then) next_fits after ends next_same next_goes (λ a x f. comma a.0 (one_then a.1 x)) (λ x p. (both p).1) l.more m.more s t (sym (list_all-map fits (λ x. x.1) l.more) ∙ f'.1) (sym (list_all-map fits (λ x. x.1) m.more) ∙ g'.1) (joined (to_not p) u) (joined (to_not q) v) h.1 in
      ((λ i. record { first = h.0 i; more = k.0 i }), k.1)

-- of any
abbrev pub any : {A : Type 0} → A → Bool
any x = true

pub all_separated_same : {A : Type 0} (b : ℕ) (one_then : A → List Token → List Token) (after : List Token → Bool) → SpellsOnce one_then any after → ((s : Span) (x : List Token) → after (marked b s ∷ x) ≡ true) → (l m : Separated A) (s t : List Token) → sees_mark b s ≡ false → sees_mark b t ≡ false → after s ≡ true → after t ≡ true → separated_then b one_then l s ≡ separated_then b one_then m t → (l ≡ m) × (s ≡ t)
all_separated_same b one_then after one_same comma l m s t p q u v e = separated_same b one_then any after one_same comma l m s t (always (all_of l)) (always (all_of m)) p q u v e

-- the end of a block
abbrev pub closes : List Token → Bool
closes x = sees_mark 125 x

pub block_same : {A : Type 0} (one_then : A → List Token → List Token) (fits : A → Bool) → SpellsOnce one_then fits any → ((a : A) (x : List Token) → fits a ≡ true → closes (one_then a x) ≡ false) → (xs ys : List A) (s t : Span) (x y : List Token) → list_all fits xs ≡ true → list_all fits ys ≡ true → list_then one_then xs (marked 125 s ∷ x) ≡ list_then one_then ys (marked 125 t ∷ y) → (xs ≡ ys) × (s ≡ t) × (x ≡ y)
block_same one_then fits once goes xs ys s t x y f g e =
    let h = list_same one_then fits any closes once goes (λ a z p. refl) (λ z p. refl) xs ys (marked 125 s ∷ x) (marked 125 t ∷ y) f g refl refl e in
    let k = heads h.1 in
    (h.0, span_same k.0, k.1)
