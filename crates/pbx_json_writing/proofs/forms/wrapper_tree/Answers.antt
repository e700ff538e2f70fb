use Rattle.pbx_content.specs.Content.{get, fields}
use Rattle.pbx_content_codec.specs.View.{val_of, content_of}
use Rattle.pbx_json_meaning.specs.Canonical.{writing}
use Rattle.pbx_json_writing.proofs.OfForms.{held_told, held_refused}
use Rattle.pbx_json_writing.proofs.forms.wrapper_tree.Goals as goal

pub returns-in-Some-clause-written : goal.returns-in-Some-clause-written
returns-in-Some-clause-written c =
    held_told c.args.schema.now (writing c.args.schema.now c.args.options.now) c.args.kind (get 1 (fields (content_of c.args.contents.now))) (val_of c.in-Some.held.now)
    c.scalar_tree.result c.in-Some.ensures c.scalar_tree.ensures.alone c.scalar_tree.ensures.written

pub returns-in-Some-clause-refused : goal.returns-in-Some-clause-refused
returns-in-Some-clause-refused c =
    held_refused c.args.schema.now (writing c.args.schema.now c.args.options.now) c.args.kind (get 1 (fields (content_of c.args.contents.now))) (val_of c.in-Some.held.now)
    c.scalar_tree.result c.in-Some.ensures c.scalar_tree.ensures.alone c.scalar_tree.ensures.refused
