use Rattle.std.proofs.Common.{◌≡◌, ◌∙◌, sym, Some}
use Rattle.serde_json.specs.View.{view}
use Rattle.pbx_link_meaning.specs.Descriptors.{message_of_name}
use Rattle.protox_transcode.specs.Input.{data_of}
use Rattle.protox_transcode.proofs.Transcoding.{ok_then, err_then, clear_there, named, not_named}
use Rattle.protox_transcode.proofs.transcode.transcode_named.Goals as goal

pub returns-in-Some-clause-ok : goal.returns-in-Some-clause-ok
returns-in-Some-clause-ok c clear =
    let d = c.in-Some.desc in
    let found : message_of_name c.args.pool.now c.args.type_name.now ≡ Some d = sym c.get_message_by_name.ensures ∙ c.in-Some.is in
    let types = c.kinds_have_types.ensures.place in
    let pooled = c.files-pooled.ensures.pooled in
    ok_then c.transcode_as.result
    (λ done h. named types c.args.pool.now c.args.type_name.now (data_of c.args.tree) d pooled found c.args.options.now done.0 (view done.1) h)
    (c.transcode_as.ensures.ok (clear_there types c.args.pool.now c.args.type_name.now (data_of c.args.tree) d pooled found clear))

pub returns-in-Some-clause-err : goal.returns-in-Some-clause-err
returns-in-Some-clause-err c clear =
    let d = c.in-Some.desc in
    let found : message_of_name c.args.pool.now c.args.type_name.now ≡ Some d = sym c.get_message_by_name.ensures ∙ c.in-Some.is in
    let types = c.kinds_have_types.ensures.place in
    let pooled = c.files-pooled.ensures.pooled in
    err_then c.transcode_as.result
    (λ error h. not_named types c.args.pool.now c.args.type_name.now (data_of c.args.tree) d pooled found error h)
    (c.transcode_as.ensures.err (clear_there types c.args.pool.now c.args.type_name.now (data_of c.args.tree) d pooled found clear))
