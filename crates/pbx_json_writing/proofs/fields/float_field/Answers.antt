use Rattle.std.proofs.Common.{sym, ◌∙◌}
use Rattle.pbx_content.specs.Shape.{declared_of}
use Rattle.pbx_json_writing.proofs.OfKept.{plain_none, plain_found}
use Rattle.pbx_json_writing.proofs.fields.float_field.Goals as goal

pub returns-in-None-clause-absent : goal.returns-in-None-clause-absent
returns-in-None-clause-absent c =
    plain_none c.args.number (declared_of c.args.schema.now c.args.type_at) ((c.in-None.ensures.proper.types c.args.type_at).distinct) c.in-None.ensures.found

pub returns-else-is_float-clause-absent : goal.returns-else-is_float-clause-absent
returns-else-is_float-clause-absent c =
    plain_found c.args.number (declared_of c.args.schema.now c.args.type_at) c.in-Some.field.now ((c.in-Some.ensures.proper.types c.args.type_at).distinct)
    c.in-Some.ensures.found (sym c.is_float.ensures ∙ c.if-is_float.false)
