use Rattle.std.proofs.Common.{◌≡◌, Some, sym, ap, subst, ◌∙◌}
use Rattle.pbx_content.specs.Content.{get, fields}
use Rattle.pbx_content.specs.Meaning.{meaning_of}
use Rattle.pbx_content_codec.specs.View.{content_of}
use Rattle.pbx_json_meaning.specs.Forms.{text_at}
use Rattle.pbx_json_meaning.specs.Urls.{type_of_url}
use Rattle.pbx_json_writing.specs.Refusals.{IsPayloadRefused}
use Rattle.pbx_json_writing.proofs.OfAny.{payload_refused}
use Rattle.pbx_json_writing.proofs.any.payload_of.Goals as goal

pub returns-in-Err-clause-refused : goal.returns-in-Err-clause-refused
returns-in-Err-clause-refused c =
    let named : type_of_url c.args.schema.now (text_at (get 1 (fields (content_of c.args.contents.now)))) ≡ Some c.in-Some.type_at =
    ap (type_of_url c.args.schema.now) (sym c.type_url.ensures) ∙ sym c.in_ok-type_at.ensures.place ∙ c.in-Some.is in
    λ options.
    payload_refused c.args.schema.now options c.args.kind (content_of c.args.contents.now) c.requires.form c.in-Some.type_at named c.in-Err.refusal
    (subst (λ b. IsPayloadRefused (meaning_of c.args.schema.now c.in-Some.type_at b) c.in-Err.refusal) c.payload_bytes.ensures c.in-Err.ensures.refused)
