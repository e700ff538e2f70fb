-- One more of a block that is read.
use Rattle.std.proofs.Common.{◌≡◌, List, [], ◌∷◌, Bool, true, false, refl, sym, ap, ◌∙◌}
use Rattle.std.proofs.lemmas.Bool.{false≢true}
use Rattle.pbx_parse_token.specs.Tokens.{Token}
use Rattle.pbx_parse_tree.specs.Grammar.{list_then}
use Rattle.pbx_parse_reader.specs.Blocks.{Before, all_behind}
use Rattle.pbx_parse_reader.proofs.Lists.{both, and_true}

module _ {A : Type 0} (behind : Before → A → Bool) (after : Before → A → Before) where
  pub none_behind : (b : Before) → all_behind behind after b [] ≡ true
  unfolding all_behind
  none_behind b = refl

  pub one_behind : (b : Before) (x : A) (xs : List A) → behind b x ≡ true → all_behind behind after (after b x) xs ≡ true → all_behind behind after b (x ∷ xs) ≡ true
  unfolding all_behind
  one_behind b x xs f g = and_true f g

  -- what tokens begin with where the block has not ended
  pub record Begins (spelled : A → List Token → List Token) (b : Before) (xs : List A) (rest ts : List Token) : Type 0 where
    pub first : A
    pub others : List A
    pub is : xs ≡ first ∷ others
    pub fit : behind b first ≡ true
    pub others_fit : all_behind behind after (after b first) others ≡ true
    pub parts : ts ≡ spelled first (list_then spelled others rest)

  pub begins : (spelled : A → List Token → List Token) (stop : List Token → Bool) (b : Before) (xs : List A) (rest ts : List Token) → all_behind behind after b xs ≡ true → stop rest ≡ true → stop ts ≡ false → ts ≡ list_then spelled xs rest
      → Begins spelled b xs rest ts
  unfolding all_behind list_then
  begins spelled stop b [] rest ts fit stops going e = absurd (false≢true (sym going ∙ ap stop e ∙ stops))
  begins spelled stop b (x ∷ xs) rest ts fit stops going e =
      let h = both (behind b x) (all_behind behind after (after b x) xs) fit in
      record { first = x; others = xs; is = refl; fit = h.0; others_fit = h.1; parts = e }
