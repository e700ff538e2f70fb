use Rattle.std.proofs.Common.{sym, ◌∙◌}
use Rattle.serde_json.specs.View.{members_view}
use Rattle.pbx_content.specs.Content.{fields}
use Rattle.pbx_content_codec.specs.View.{content_of}
use Rattle.pbx_json_meaning.specs.Canonical.{writing}
use Rattle.pbx_json_writing.proofs.OfDefaults.{default_refused}
use Rattle.pbx_json_writing.proofs.defaults.add_default.Goals as goal

pub returns-clause-refused : goal.returns-clause-refused
returns-clause-refused c =
    default_refused (writing c.args.schema.now c.args.options.now) (fields (content_of c.args.contents.now)) c.args.field.now c.key_of_field.result.now (members_view c.args.map.now.entries)
    c.default_tree-written.result c.add_member.result (sym c.is_written_default.ensures ∙ c.if-not-is_written_default.false) c.key_of_field.ensures
    c.default_tree-written.ensures.refused c.add_member.ensures.refused
