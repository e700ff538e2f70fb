-- The text that a string stands for.
use Rattle.std.proofs.Common.{◌≡◌, ℕ, List, Bool, true, false, if◌then◌else◌, refl, sym, ap, ◌∙◌}
use Rattle.std.specs.Str.{IsUtf8, is_utf8}
use Rattle.std.proofs.lemmas.Str.{IsUtf8-from_is_utf8, is_utf8-from_IsUtf8}
use Rattle.pbx_parse_token.specs.Escapes.{unescaped}
use Rattle.pbx_parse_tree.specs.Tree.{Literal}
use Rattle.pbx_parse_translation.specs.Texts.{string_text}

module _ (l : Literal) (bytes : List ℕ) (are : bytes ≡ unescaped l.text) where
  pub text_read : (text : List ℕ) → text ≡ bytes → IsUtf8 bytes → text ≡ string_text l
  unfolding string_text
  text_read text same is =
      let good : is_utf8 (unescaped l.text) ≡ true = ap is_utf8 (sym are) ∙ is_utf8-from_IsUtf8 bytes is in
      same ∙ are ∙ sym (ap (λ (b : Bool). if b then unescaped l.text else l.text) good)

  pub text_kept : (IsUtf8 bytes → ⊥) → l.text ≡ string_text l
  unfolding string_text
  text_kept not = at (is_utf8 (unescaped l.text)) refl
    where
      at : (b : Bool) → is_utf8 (unescaped l.text) ≡ b → l.text ≡ (if is_utf8 (unescaped l.text) then unescaped l.text else l.text)
      at true e = absurd (not (IsUtf8-from_is_utf8 bytes (ap is_utf8 are ∙ e)))
      at false e = sym (ap (λ (b : Bool). if b then unescaped l.text else l.text) e)
