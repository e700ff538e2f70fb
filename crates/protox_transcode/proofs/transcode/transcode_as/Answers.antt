use Rattle.std.proofs.Common.{◌≡◌, ◌∙◌, sym, true, false}
use Rattle.serde_json.specs.View.{view}
use Rattle.pbx_link_meaning.specs.Shapes.{shape_of, place_of}
use Rattle.pbx_json_meaning.specs.Fits.{fits}
use Rattle.protox_transcode.specs.Input.{data_of}
use Rattle.protox_transcode.proofs.Transcoding.{ok_then, err_then, transcoded_as, not_told_as, too_deep_as}
use Rattle.protox_transcode.proofs.transcode.transcode_as.Goals as goal

pub returns-in-Ok-true-clause-ok : goal.returns-in-Ok-true-clause-ok
returns-in-Ok-true-clause-ok c clear =
    let m = c.in-Ok.message in
    let fit : fits (shape_of m.of.pool) (place_of m.of) m.content ≡ true = sym c.in-Ok-true.ensures ∙ c.in-Ok-true.field-0-test in
    ok_then c.write_both.result
    (λ done h. transcoded_as c.args.desc m.of (data_of c.args.tree) m.content c.in-Ok.ensures.of clear c.message_of.ensures.texts c.in-Ok.ensures.read
    c.args.options.now done.0 (view done.1) c.encoding_decodes.ensures.whole c.canonical_stands.ensures.written c.descriptor-sound.ensures.sound fit h)
    c.write_both.ensures.ok

pub returns-in-Ok-true-clause-err : goal.returns-in-Ok-true-clause-err
returns-in-Ok-true-clause-err c clear =
    let m = c.in-Ok.message in
    let fit : fits (shape_of m.of.pool) (place_of m.of) m.content ≡ true = sym c.in-Ok-true.ensures ∙ c.in-Ok-true.field-0-test in
    err_then c.write_both.result
    (λ error h. not_told_as c.args.desc m.of (data_of c.args.tree) m.content c.in-Ok.ensures.of clear c.message_of.ensures.texts c.in-Ok.ensures.read
    c.args.options.now error c.clear_by_any_name.ensures c.fitting_is_written.ensures fit h)
    c.write_both.ensures.stop

pub returns-in-Ok-false-clause-err : goal.returns-in-Ok-false-clause-err
returns-in-Ok-false-clause-err c clear =
    let m = c.in-Ok.message in
    let fit : fits (shape_of m.of.pool) (place_of m.of) m.content ≡ false = sym c.in-Ok-false.ensures ∙ c.in-Ok-false.field-0-test in
    too_deep_as c.args.desc m.of (data_of c.args.tree) m.content c.in-Ok.ensures.of clear c.message_of.ensures.texts c.in-Ok.ensures.read c.args.options.now fit
