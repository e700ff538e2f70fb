-- One more of a list that is read.
use Rattle.std.proofs.Common.{◌≡◌, ℕ, ◌&&◌, not, List, [], ◌∷◌, ◌++◌, true, false, Bool, refl, sym, ap, ◌∙◌}
use Rattle.std.proofs.lemmas.Bool.{false≢true, eq-eqb}
use Rattle.std.specs.List.{list_all}
use Rattle.pbx_parse_token.specs.declared.token.Span.{Span}
use Rattle.pbx_parse_token.specs.Tokens.{Token}
use Rattle.pbx_parse_tree.specs.Grammar.{marked, list_then, next_then}
use Rattle.pbx_parse_reader.specs.View.{sees_mark}

pub both : (a b : Bool) → (a && b) ≡ true → (a ≡ true) × (b ≡ true)
both true b e = (refl, e)
both false b e = absurd (false≢true e)

pub and_true : {a b : Bool} → a ≡ true → b ≡ true → (a && b) ≡ true
and_true {a} {b} p q = ap (λ (x : Bool). x && b) p ∙ q

module _ {A : Type 0} (spelled : A → List Token → List Token) (fits : A → Bool) (stop : List Token → Bool) where
  pub none_then : (rest : List Token) → rest ≡ list_then spelled [] rest
  unfolding list_then
  none_then rest = refl

  pub one_more : (front : List A) (x : A) (rest : List Token) → list_then spelled (front ++ x ∷ []) rest ≡ list_then spelled front (spelled x rest)
  unfolding list_then
  one_more [] x rest = refl
  one_more (y ∷ front) x rest = ap (spelled y) (one_more front x rest)

  pub one_more_fits : (front : List A) (x : A) → list_all fits front ≡ true → fits x ≡ true → list_all fits (front ++ x ∷ []) ≡ true
  one_more_fits [] x f g = and_true g refl
  one_more_fits (y ∷ front) x f g = let h = both (fits y) (list_all fits front) f in and_true h.0 (one_more_fits front x h.1 g)

  -- what tokens begin with where the list has not ended
  pub record Begins (xs : List A) (rest ts : List Token) : Type 0 where
    pub first : A
    pub others : List A
    pub is : xs ≡ first ∷ others
    pub fit : fits first ≡ true
    pub others_fit : list_all fits others ≡ true
    pub parts : ts ≡ spelled first (list_then spelled others rest)

  pub begins : (xs : List A) (rest ts : List Token) → list_all fits xs ≡ true → stop rest ≡ true → stop ts ≡ false → ts ≡ list_then spelled xs rest → Begins xs rest ts
  unfolding list_then
  begins [] rest ts fit stops going e = absurd (false≢true (sym going ∙ ap stop e ∙ stops))
  begins (x ∷ xs) rest ts fit stops going e = let h = both (fits x) (list_all fits xs) fit in record { first = x; others = xs; is = refl; fit = h.0; others_fit = h.1; parts = e }

  pub ended : ((x : A) (after : List Token) → stop (spelled x after) ≡ false) → (xs : List A) (rest ts : List Token) → stop ts ≡ true → ts ≡ list_then spelled xs rest → (xs ≡ []) × (ts ≡ rest)
  unfolding list_then
  ended goes [] rest ts stops e = (refl, e)
  ended goes (x ∷ xs) rest ts stops e = absurd (false≢true (sym (goes x (list_then spelled xs rest)) ∙ sym (ap stop e) ∙ stops))

-- what follows one of several that have marks between them
module _ {A : Type 0} (mark : ℕ) (spelled : A → List Token → List Token) (follows : List Token → Bool) where
  pub followed : ((s : Span) (ts : List Token) → follows (marked mark s ∷ ts) ≡ true) → (xs : List (Span × A)) (rest : List Token) → follows rest ≡ true → follows (list_then (next_then mark spelled) xs rest) ≡ true
  unfolding list_then
  followed each [] rest f = f
  followed each (x ∷ xs) rest f = each x.0 _

  pub goes_on : (x : Span × A) (after : List Token) → not (sees_mark mark (next_then mark spelled x after)) ≡ false
  goes_on x after = ap not (eq-eqb mark mark refl)
