use Rattle.std.proofs.Common.{◌≡◌, ◌∙◌, sym, Some}
use Rattle.serde_json.specs.Data.{null}
use Rattle.pbx_link_meaning.specs.Descriptors.{message_of_name}
use Rattle.protox_transcode.proofs.Transcoding.{clear_there}
use Rattle.protox_lines.proofs.converter.Converter.new.Goals as goal

pub invariant_of-result : goal.invariant_of-result
invariant_of-result c =
    let d = c.in-Some.message in
    let found : message_of_name c.args.pool.now c.args.type_name.now ≡ Some d = sym c.get_message_by_name.ensures ∙ c.in-Some.is in (
      (clear_there c.kinds_have_types.ensures.place c.args.pool.now c.args.type_name.now null d c.files-pooled.ensures.pooled found c.in-Ok.ensures.ok).clear,
      c.in-Ok-schema.ensures.is,
      c.place-place.ensures.place (c.as_ref.ensures ∙ c.in-Ok-schema.ensures.is),
    )
