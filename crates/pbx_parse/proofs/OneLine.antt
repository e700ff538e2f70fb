-- Texts of one line.
use Rattle.std.proofs.Common.{◌≡◌, ◌∙◌, ℕ, List, [], ◌∷◌, ◌++◌, Bool, false, ap, refl, append-nil}
use Rattle.std.specs.Char.{is_control}
use Rattle.std.specs.Str.{NonePass}
use Rattle.std.proofs.lemmas.Str.{encodes-append}
use lib.Utf8.{encode, encodes}
use Rattle.pbx_parse.specs.Errors.{IsOneLine}

pub none_pass_more : (p : ℕ → Bool) (cs : List ℕ) (c : ℕ) → NonePass p cs → p c ≡ false → NonePass p (cs ++ c ∷ [])
none_pass_more p [] c h e = (e, tt)
none_pass_more p (d ∷ cs) c h e = (h.0, none_pass_more p cs c h.1 e)

pub one_line_more : (text : List ℕ) (c : ℕ) → IsOneLine text → is_control c ≡ false → IsOneLine (text ++ encode c)
one_line_more text c h e = (h.0 ++ c ∷ [], encodes-append h.0 (c ∷ []) ∙ ap (λ x. x ++ encodes (c ∷ [])) h.1 ∙ ap (λ x. text ++ x) (append-nil (encode c)), none_pass_more is_control h.0 c h.2 e)

pub one_line_none : IsOneLine []
one_line_none = ([], refl, tt)
