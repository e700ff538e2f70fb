-- The order of texts.
use Rattle.std.proofs.Common.{◌≡◌, ℕ, true, false, List, sym, ◌∙◌}
use Rattle.pbx_content.specs.Content.{text_key, key_before, bytes_before}
use Rattle.pbx_content.proofs.OntoPairs.{Compared, first, same, later, key_compared, key_follows}

pub follows : (a b c : List ℕ) → bytes_before a b ≡ true → bytes_before b c ≡ true → bytes_before a c ≡ true
follows a b c e d = key_follows (text_key a) (text_key b) (text_key c) e d

pub not_both : (a b : List ℕ) → bytes_before a b ≡ true → bytes_before b a ≡ false
not_both a b e = at (key_compared (text_key a) (text_key b))
  where
    at : Compared key_before (text_key a) (text_key b) → bytes_before b a ≡ false
    at (first p q) = q
    at (same s p q) = q
    at (later p q) = absurd (let bad : false ≡ true = sym q ∙ e in cc)

pub equal : (a b : List ℕ) → bytes_before a b ≡ false → bytes_before b a ≡ false → a ≡ b
equal a b e d = at (key_compared (text_key a) (text_key b))
  where
    at : Compared key_before (text_key a) (text_key b) → a ≡ b
    at (first p q) = absurd (let bad : false ≡ true = sym e ∙ p in cc)
    at (same s p q) = cc
    at (later p q) = absurd (let bad : false ≡ true = sym d ∙ p in cc)
