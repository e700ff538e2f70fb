use Rattle.std.proofs.Common.{◌≡◌, ◌∙◌, IfOk, string_bytes, option_map}
use Rattle.serde_json.specs.View.{view}
use Rattle.protox_compile.specs.Repeats.{repeats}
use Rattle.protox_words.specs.Told.{args_told}
use Rattle.protox_run.specs.Told.{writes_told, line_told}
use Rattle.protox_run.proofs.Judged.{ok_of, ok_both, ok_then, gives}
use Rattle.protox_run.proofs.files.transcode_tree.Goals as goal

pub returns-in-Ok-clause-ok : goal.returns-in-Ok-clause-ok
returns-in-Ok-clause-ok g c tells =
    let a = args_told c.args.args.now in
    let done = ok_of _ c.transcode_files-resolver.result.result c.in-Ok.done c.in-Ok.is (c.transcode_files-resolver.ensures.ok tells) in
    ok_both c.write_transcoded.result
    (λ ready writes text. gives a c.args.name.now (g.R.FileResolver.library c.args.resolver) (view c.args.tree) c.options_of-options.result c.in-Ok.done.set c.in-Ok.done.wire (view c.in-Ok.done.tree)
    (writes_told ready) (line_told (option_map string_bytes ready.line)) c.options_of-options.ensures c.canonical_is_plain.ensures done writes text)
    c.write_transcoded.ensures.writes c.write_transcoded.ensures.text

pub returns-in-Ok-clause-repeated : goal.returns-in-Ok-clause-repeated
returns-in-Ok-clause-repeated g c tells =
    let done = ok_of _ c.transcode_files-resolver.result.result c.in-Ok.done c.in-Ok.is (c.transcode_files-resolver.ensures.repeated tells) in
    ok_then c.write_transcoded.result (λ ready same. same ∙ done) c.write_transcoded.ensures.repeated
