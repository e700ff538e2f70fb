use Rattle.std.proofs.Common.{Some, refl, sym, ap, ◌∙◌}
use Rattle.serde_json.specs.View.{members_view}
use Rattle.pbx_content.specs.Content.{fields}
use Rattle.pbx_content.specs.Encoding.{type_of}
use Rattle.pbx_content.specs.Shape.{declared_of}
use Rattle.pbx_content_codec.specs.View.{content_of}
use Rattle.pbx_json_meaning.specs.Canonical.{writing}
use Rattle.pbx_json_writing.proofs.OfDefaults.{skipped, default_stops_in, defaults_more}
use Rattle.pbx_json_writing.proofs.defaults.add_defaults.Goals as goal

pub returns-then-options-clause-written : goal.returns-then-options-clause-written
returns-then-options-clause-written c =
    rw (skipped c.args.schema.now (writing c.args.schema.now c.args.options.now) (fields (content_of c.args.contents.now)) (declared_of c.args.schema.now (type_of c.args.kind))
    c.if-options.true) refl

pub returns-in-Err-clause-refused : goal.returns-in-Err-clause-refused
returns-in-Err-clause-refused c =
    default_stops_in c.args.schema.now (writing c.args.schema.now c.args.options.now) c.args.kind (content_of c.args.contents.now) (members_view c.args.map.now.entries)
    (members_view c.loop-field.map.entries) c.declared_of-field-items.result.now
    (sym (c.declared_of-field-items.ensures ∙ ap (declared_of c.args.schema.now) c.message_type.ensures)) c.requires.fields c.requires.plain
    c.loop-field.field-index c.field-item.result c.in-Err.refusal c.loop-field-test.true c.field-item.is c.loop-field.invariant c.in-Err.ensures.refused

pub loop-field-preserved : goal.loop-field-preserved
loop-field-preserved c =
    defaults_more c.args.schema.now (writing c.args.schema.now c.args.options.now) (fields (content_of c.args.contents.now)) c.declared_of-field-items.result.now c.loop-field.field-index
    c.field-item.result (Some (members_view c.args.map.now.entries)) (members_view c.loop-field.map.entries) (members_view c.add_default.new.map.entries)
    c.loop-field-test.true c.field-item.is c.loop-field.invariant c.in_default.ensures.written
