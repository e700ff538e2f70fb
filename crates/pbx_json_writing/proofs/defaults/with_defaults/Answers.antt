use Rattle.std.proofs.Common.{Some, ap, ◌∙◌}
use Rattle.serde_json.specs.View.{members_view}
use Rattle.pbx_content_codec.specs.View.{content_of}
use Rattle.pbx_json_meaning.specs.Canonical.{writing}
use Rattle.pbx_json_writing.proofs.OfDefaults.{message_made}
use Rattle.pbx_json_writing.proofs.Views.{object_view}
use Rattle.pbx_json_writing.proofs.defaults.with_defaults.Goals as goal

pub returns-in-Ok-clause-written : goal.returns-in-Ok-clause-written
returns-in-Ok-clause-written c =
    message_made c.args.schema.now (writing c.args.schema.now c.args.options.now) c.args.kind (content_of c.args.contents.now) (members_view c.args.map.entries)
    (members_view c.add_defaults.new.map.entries) c.requires.plain c.requires.whole c.requires.fields c.in-Ok.ensures.written
    ∙ ap Some (object_view c.add_defaults.new.map)
