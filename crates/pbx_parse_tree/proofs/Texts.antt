-- Whether a string stands for a text, as a test.
use Rattle.std.proofs.Common.{◌≡◌, ◌↔◌, ℕ, List, Bool, true, false, IsTrue, refl, sym, ◌∙◌}
use Rattle.std.specs.Str.{IsUtf8, is_utf8}
use Rattle.std.proofs.lemmas.Bool.{false≢true}
use Rattle.std.proofs.lemmas.Str.{is_utf8-from_IsUtf8, IsUtf8-from_is_utf8}
use Rattle.pbx_parse_token.specs.Escapes.{unescaped, StandsForText}

text_decided : (b : Bool) (bytes : List ℕ) → (IsTrue b ↔ IsUtf8 bytes) → (u : Bool) → is_utf8 bytes ≡ u → b ≡ u
text_decided true bytes h u e = sym (is_utf8-from_IsUtf8 bytes (h.0 refl)) ∙ e
text_decided false bytes h true e = absurd (false≢true (h.1 (IsUtf8-from_is_utf8 bytes e)))
text_decided false bytes h false e = refl

-- the answer, where it is right
pub told : (b : Bool) (text : List ℕ) → (IsTrue b ↔ StandsForText text) → b ≡ is_utf8 (unescaped text)
told b text h = text_decided b (unescaped text) h (is_utf8 (unescaped text)) refl
