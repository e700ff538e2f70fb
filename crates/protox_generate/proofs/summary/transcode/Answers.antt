use Rattle.std.proofs.Common.{◌∷◌, ◌∙◌, [], List, ℕ, IfOk, refl, subst}
use Rattle.serde_json.specs.View.{view}
use Rattle.pbx_json_meaning.specs.declared.options.SerializeOptions.{SerializeOptions}
use Rattle.protox_transcode.specs.Top.{ForFiles, IsTranscoded}
use Rattle.protox_generate.specs.Sources.{file_name, type_name}
use Rattle.protox_generate.specs.Files.{sources}
use Rattle.protox_generate.proofs.summary.transcode.Goals as goal

pub returns-clause-ok : goal.returns-clause-ok
returns-clause-ok c =
    let P : SerializeOptions → List (List ℕ) → List ℕ → Type 0 =
    λ o paths name. IfOk c.transcode_files.result.result (λ done. ForFiles (sources c.args.files).files (sources c.args.files).resolves paths (λ fs.
    IsTranscoded name (view c.args.tree) o fs done.set done.wire (view done.tree))) in
    let o : SerializeOptions = c.new-options.result in
    let named : P o (file_name c.args.number ∷ []) (type_name c.args.number) =
    subst (P o (file_name c.args.number ∷ [])) (c.as_str.ensures.value ∙ c.in-Ok-Ok.ensures')
    (subst (λ paths. P o paths c.as_str.result.now) c.in-Ok-Ok.ensures (c.transcode_files.ensures.ok refl)) in
    subst (λ o. P o (file_name c.args.number ∷ []) (type_name c.args.number)) c.new-options.ensures named
