use Rattle.std.proofs.Common.{subst}
use Rattle.pbx_content.specs.Content.{message}
use Rattle.pbx_content.specs.Encoding.{type_of}
use Rattle.pbx_content.specs.Shape.{declared_of}
use Rattle.pbx_content_codec.specs.View.{content_of}
use Rattle.pbx_content_codec.specs.declared.contents.Contents.{out-Contents}
use Rattle.pbx_json_meaning.specs.declared.kind.JsonKind.TheVariants as fault
use Rattle.pbx_json_writing.specs.Refusals.{IsKeptFloat}
use Rattle.pbx_content.specs.Content.{kept}
use Rattle.pbx_json_writing.proofs.OfKept.{keeps}
use Rattle.pbx_json_writing.proofs.OfValues.{value_float}
use Rattle.pbx_json_writing.proofs.Refusing.{refused_here}
use Rattle.pbx_json_writing.proofs.Views.{kept_of_contents}
use Rattle.pbx_json_writing.proofs.forms.number_of_value.Goals as goal

pub returns-in-Some-clause-refused : goal.returns-in-Some-clause-refused
returns-in-Some-clause-refused c =
    λ options.
    refused_here c.args.schema.now options (message (content_of c.args.contents.now)) c.args.kind fault.Float c.here.result c.here.ensures
    (value_float c.args.schema.now options c.args.kind (content_of c.args.contents.now) c.requires
    (keeps (declared_of c.args.schema.now (type_of c.args.kind)) (kept (content_of c.args.contents.now)) c.in-Some.field-0.now
    (kept_of_contents c.args.contents.now (λ rs. IsKeptFloat (declared_of c.args.schema.now (type_of c.args.kind)) rs c.in-Some.field-0.now)
    (subst (λ t. IsKeptFloat (declared_of c.args.schema.now t) (out-Contents c.args.contents.now).kept c.in-Some.field-0.now) c.message_type.ensures
    c.in-Some.ensures.found))))
