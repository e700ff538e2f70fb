use Rattle.std.proofs.Common.{[], ◌∷◌, sym, subst}
use Rattle.pbx_content.specs.Content.{message}
use Rattle.pbx_content.specs.Encoding.{type_of}
use Rattle.pbx_content.specs.Shape.{declared_of}
use Rattle.pbx_content_codec.specs.declared.contents.Contents.{out-Contents}
use Rattle.pbx_json_meaning.specs.declared.place.Step.TheVariants.{Key}
use Rattle.pbx_json_meaning.specs.Canonical.{writing}
use Rattle.pbx_json_writing.specs.Refusals.{IsKeptFloat}
use Rattle.pbx_json_writing.proofs.Views.{kept_of_contents}
use Rattle.pbx_content_codec.specs.View.{content_of}
use Rattle.pbx_json_meaning.specs.declared.kind.JsonKind.TheVariants as fault
use Rattle.pbx_json_writing.proofs.OfKept.{float_stops}
use Rattle.pbx_json_writing.proofs.Refusing.{Stops, refused_key}
use Rattle.pbx_json_writing.proofs.fields.keeps_no_float.Goals as goal

pub returns-in-Some-clause-refused : goal.returns-in-Some-clause-refused
returns-in-Some-clause-refused c =
    refused_key c.args.schema.now (writing c.args.schema.now c.args.options.now) (message (content_of c.args.contents.now)) c.args.kind c.key_of_field.result.now fault.Float
    c.at_key.result c.at_key.ensures
    (subst (λ key. Stops c.args.schema.now (writing c.args.schema.now c.args.options.now) (message (content_of c.args.contents.now)) c.args.kind fault.Float (Key key ∷ []))
    (sym c.key_of_field.ensures)
    (float_stops c.args.schema.now (writing c.args.schema.now c.args.options.now) c.args.kind (content_of c.args.contents.now) c.in-Some.field.now c.requires
    (kept_of_contents c.args.contents.now (λ rs. IsKeptFloat (declared_of c.args.schema.now (type_of c.args.kind)) rs c.in-Some.field.now)
    (subst (λ t. IsKeptFloat (declared_of c.args.schema.now t) (out-Contents c.args.contents.now).kept c.in-Some.field.now) c.message_type.ensures
    c.in-Some.ensures.found))))
