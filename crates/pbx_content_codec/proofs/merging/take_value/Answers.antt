use Rattle.pbx_content_codec.specs.Fields.{fields_at, field_like}
use Rattle.pbx_content_codec.specs.View.{content_of}
use Rattle.pbx_content_codec.proofs.Rivals.{cleared_content}
use Rattle.pbx_content_codec.proofs.merging.take_value.Goals as goal

pub returns-clause-rest : goal.returns-clause-rest
returns-clause-rest c =
    cleared_content (fields_at c.args.schema.now c.args.owner) (field_like c.args.view) c.take-old.new.self _
    (content_of c.args.into.now) c.args.view.number c.take-old.ensures.rest c.clear_rivals.ensures
