use Rattle.std.proofs.Common.{◌≡◌, sym, subst, ◌∙◌, to_z, of_z, rules}
use Rattle.std.specs.Int.{w32, w64, w128}
use Rattle.std.specs.Int.RustNames.{FitsSigned}
use Rattle.pbx_content.specs.Content.{get, fields}
use Rattle.pbx_content_codec.specs.View.{content_of}
use Rattle.pbx_json_meaning.specs.Forms.{number_in}
use Rattle.pbx_json_writing.proofs.OfForms.{seconds_out, nanos_out}
use Rattle.pbx_json_writing.proofs.forms.time_of.Goals as goal

pub returns-in_default-clause-out : goal.returns-in_default-clause-out
returns-in_default-clause-out c =
    let same : to_z w128 (of_z w128 c.number_at.result) ≡ c.number_at.result = search rules in
    seconds_out (number_in (get 1 (fields (content_of c.args.contents.now)))) (number_in (get 2 (fields (content_of c.args.contents.now))))
    (λ fits. c.in_default.ensures (subst (FitsSigned w64) (sym (same ∙ c.number_at.ensures)) fits))

pub returns-in_default-try_from-clause-out : goal.returns-in_default-try_from-clause-out
returns-in_default-try_from-clause-out c =
    let same : to_z w128 (of_z w128 c.number_at-2.result) ≡ c.number_at-2.result = search rules in
    nanos_out (number_in (get 1 (fields (content_of c.args.contents.now)))) (number_in (get 2 (fields (content_of c.args.contents.now))))
    (λ fits. c.in_default-try_from.ensures (subst (FitsSigned w32) (sym (same ∙ c.number_at-2.ensures)) fits))
