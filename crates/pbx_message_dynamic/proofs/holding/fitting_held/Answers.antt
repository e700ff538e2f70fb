use Rattle.std.proofs.Common.{sym, ap, ◌∙◌}
use Rattle.std.specs.Prelude.{IsTrue}
use Rattle.std.specs.Str.{is_utf8}
use Rattle.std.proofs.lemmas.Str.{is_utf8-from_IsUtf8}
use Rattle.pbx_message_dynamic.specs.Values.{variant_in}
use Rattle.pbx_message_dynamic.specs.declared.value.Value.{out-Value}
use Rattle.pbx_message_dynamic.proofs.Items.{text_held}
use Rattle.pbx_message_dynamic.proofs.holding.fitting_held.Goals as goal

pub returns-in-String : goal.returns-in-String
returns-in-String c =
    let u : IsTrue (is_utf8 c.in-String.text) = is_utf8-from_IsUtf8 c.in-String.text (rw c.as_str-utf8.ensures at c.as_str-utf8.utf8) in
    rw c.in-String.is (text_held c.args.value_type.now.holder.pool c.args.value_type.now.kind c.in-String.text
    (sym (ap (λ v. variant_in (out-Value v)) c.in-String.is) ∙ c.requires.variant) u)
