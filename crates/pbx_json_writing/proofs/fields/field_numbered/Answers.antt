use Rattle.std.proofs.Common.{◌∙◌}
use Rattle.pbx_content.specs.Shape.{declared_of}
use Rattle.pbx_json_writing.proofs.OfFields.{field_of-by_number}
use Rattle.pbx_json_writing.proofs.fields.field_numbered.Goals as goal

pub returns-clause-found : goal.returns-clause-found
returns-clause-found c = c.field_of.ensures ∙ field_of-by_number c.args.number (declared_of c.args.schema.now c.args.type_at)
