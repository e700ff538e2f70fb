use Rattle.std.proofs.Common.{◌≡◌, sym, ap, ◌∙◌}
use Rattle.std.specs.Prelude.{IsTrue}
use Rattle.std.specs.Str.{is_utf8}
use Rattle.std.proofs.lemmas.Str.{is_utf8-from_IsUtf8}
use Rattle.pbx_message_dynamic.specs.Values.{variant_of, variant_in_key, texts}
use Rattle.pbx_message_dynamic.proofs.KindVariants.{same_variant, key_string}
use Rattle.pbx_message_dynamic.proofs.holding.key_held.Goals as goal

pub returns-in-String : goal.returns-in-String
returns-in-String c =
    let v : variant_in_key c.args.key ≡ variant_of c.args.kind =
    same_variant (variant_in_key c.args.key) (variant_of c.args.kind) (sym c.key_variant.ensures ∙ c.if-key_variant-kind_variant.false ∙ c.kind_variant.ensures) in
    let u : IsTrue (is_utf8 c.in-String.text) = is_utf8-from_IsUtf8 c.in-String.text (rw c.as_str-utf8.ensures at c.as_str-utf8.utf8) in
    let k : variant_of c.args.kind ≡ texts = sym v ∙ ap variant_in_key c.in-String.is in
    (sym c.in-String.is, record { variant = v; fits = rw c.in-String.is (key_string c.args.kind c.in-String.text k u) })
