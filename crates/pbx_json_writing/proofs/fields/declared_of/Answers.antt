use Rattle.std.proofs.Common.{None, Some, sym, ◌∙◌}
use Rattle.pbx_json_writing.proofs.OfScalars.{fields_of}
use Rattle.pbx_json_writing.proofs.fields.declared_of.Goals as goal

pub returns-in-Some : goal.returns-in-Some
returns-in-Some c = c.as_slice.ensures ∙ sym (fields_of c.args.schema.now.messages c.args.type_at (Some c.in-Some.found.now) c.in-Some.ensures)

pub returns-in-None : goal.returns-in-None
returns-in-None c = sym (fields_of c.args.schema.now.messages c.args.type_at None c.in-None.ensures)
