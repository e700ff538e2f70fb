use Rattle.std.proofs.Common.{◌≡◌, ap, sym, ◌∙◌}
use Rattle.std.specs.Prelude.{ℕ, List, Option, unwrap_or}
use Rattle.std.proofs.lemmas.Str.{is_utf8-from_IsUtf8}
use Rattle.pbx_message_dynamic.proofs.defaults.default_is_text.Goals as goal

pub returns-in-Some : goal.returns-in-Some
returns-in-Some c t e =
    let same : c.as_str-utf8.result.now ≡ t =
    c.as_str-utf8.ensures ∙ ap (λ (o : Option (List ℕ)). unwrap_or o t) (sym c.in-Some.is ∙ e) in
    rw (← same) (is_utf8-from_IsUtf8 c.as_str-utf8.result.now c.as_str-utf8.utf8)
