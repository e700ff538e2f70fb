use Rattle.std.proofs.Common.{◌≡◌, ◌∙◌}
use Rattle.std.proofs.lemmas.Result.{IfOk-weaker}
use Rattle.pbx_parse_token.specs.Escapes.{unescaped}
use Rattle.pbx_parse_tree.specs.View.{literal_of}
use Rattle.pbx_parse_translation.specs.Texts.{string_text}
use Rattle.pbx_parse_translation.proofs.Strings.{text_read, text_kept}
use Rattle.pbx_parse_translation.proofs.texts.string_text.Goals as goal

pub returns-in-Ok : goal.returns-in-Ok
returns-in-Ok c =
    let l = literal_of c.args.literal.now in
    let are : c.as_slice.result.now ≡ unescaped l.text = c.as_slice.ensures.value ∙ c.in_ok-bytes.ensures in
    let read = text_read l c.as_slice.result.now are c.in-Ok.text.now c.in-Ok.ensures.cases.0 c.in-Ok.ensures.cases.1 in
    IfOk-weaker c.from_str.result (λ t. t ≡ c.in-Ok.text.now) (λ t. t ≡ string_text l) (λ t p. p ∙ read) c.from_str.ensures

pub returns : goal.returns
returns c =
    let l = literal_of c.args.literal.now in
    let are : c.as_slice.result.now ≡ unescaped l.text = c.as_slice.ensures.value ∙ c.in_ok-bytes.ensures in
    let kept = text_kept l c.as_slice.result.now are c.in-Err.ensures.cases.0 in
    IfOk-weaker c.from_str-in-Err.result (λ t. t ≡ l.text) (λ t. t ≡ string_text l) (λ t p. p ∙ kept) c.from_str-in-Err.ensures
