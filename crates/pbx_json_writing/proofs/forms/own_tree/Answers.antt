use Rattle.std.proofs.Common.{refl, sym, ap, ◌∙◌}
use Rattle.pbx_content.specs.Content.{fields, message}
use Rattle.pbx_content_codec.specs.View.{content_of}
use Rattle.pbx_wkt_types.specs.declared.form.Form.TheVariants as forms
use Rattle.pbx_json_meaning.specs.Forms.{kind_at, timestamp_tree, duration_tree, mask_tree}
use Rattle.pbx_json_meaning.specs.declared.kind.JsonKind.TheVariants as fault
use Rattle.pbx_json_meaning.specs.Canonical.{writing}
use Rattle.pbx_json_writing.proofs.OfForms.{text_told, text_refused, wrapper_told, wrapper_refused, own_stops}
use Rattle.pbx_json_writing.proofs.Refusing.{refused_here}
use Rattle.pbx_json_writing.proofs.forms.own_tree.Goals as goal

pub returns-in-Timestamp-clause-written : goal.returns-in-Timestamp-clause-written
returns-in-Timestamp-clause-written c =
    text_told c.args.schema.now (writing c.args.schema.now c.args.options.now) forms.Timestamp c.args.kind (content_of c.args.contents.now)
    (timestamp_tree (fields (content_of c.args.contents.now)))
    c.timestamp_tree.result (sym c.requires.form ∙ c.in-Timestamp.is) refl refl c.timestamp_tree.ensures.written

pub returns-in-Timestamp-clause-refused : goal.returns-in-Timestamp-clause-refused
returns-in-Timestamp-clause-refused c =
    text_refused c.args.schema.now (writing c.args.schema.now c.args.options.now) forms.Timestamp c.args.kind (content_of c.args.contents.now)
    (timestamp_tree (fields (content_of c.args.contents.now)))
    c.timestamp_tree.result (sym c.requires.form ∙ c.in-Timestamp.is) refl refl refl c.timestamp_tree.ensures.refused

pub returns-in-Duration-clause-written : goal.returns-in-Duration-clause-written
returns-in-Duration-clause-written c =
    text_told c.args.schema.now (writing c.args.schema.now c.args.options.now) forms.Duration c.args.kind (content_of c.args.contents.now)
    (duration_tree (fields (content_of c.args.contents.now)))
    c.duration_tree.result (sym c.requires.form ∙ c.in-Duration.is) refl refl c.duration_tree.ensures.written

pub returns-in-Duration-clause-refused : goal.returns-in-Duration-clause-refused
returns-in-Duration-clause-refused c =
    text_refused c.args.schema.now (writing c.args.schema.now c.args.options.now) forms.Duration c.args.kind (content_of c.args.contents.now)
    (duration_tree (fields (content_of c.args.contents.now)))
    c.duration_tree.result (sym c.requires.form ∙ c.in-Duration.is) refl refl refl c.duration_tree.ensures.refused

pub returns-in-FieldMask-clause-written : goal.returns-in-FieldMask-clause-written
returns-in-FieldMask-clause-written c =
    text_told c.args.schema.now (writing c.args.schema.now c.args.options.now) forms.FieldMask c.args.kind (content_of c.args.contents.now)
    (mask_tree (fields (content_of c.args.contents.now)))
    c.mask_tree.result (sym c.requires.form ∙ c.in-FieldMask.is) refl refl c.mask_tree.ensures.written

pub returns-in-FieldMask-clause-refused : goal.returns-in-FieldMask-clause-refused
returns-in-FieldMask-clause-refused c =
    text_refused c.args.schema.now (writing c.args.schema.now c.args.options.now) forms.FieldMask c.args.kind (content_of c.args.contents.now)
    (mask_tree (fields (content_of c.args.contents.now)))
    c.mask_tree.result (sym c.requires.form ∙ c.in-FieldMask.is) refl refl refl c.mask_tree.ensures.refused

pub returns-in-Wrapper-clause-written : goal.returns-in-Wrapper-clause-written
returns-in-Wrapper-clause-written c =
    wrapper_told c.args.schema.now (writing c.args.schema.now c.args.options.now) c.args.kind (content_of c.args.contents.now) c.kind_at-held.result c.wrapper_tree.result
    (sym c.requires.form ∙ c.in-Wrapper.is) (c.kind_at-held.ensures ∙ ap (λ t. kind_at c.args.schema.now t 1) c.message_type.ensures)
    c.wrapper_tree.ensures.written

pub returns-in-Wrapper-clause-refused : goal.returns-in-Wrapper-clause-refused
returns-in-Wrapper-clause-refused c =
    wrapper_refused c.args.schema.now (writing c.args.schema.now c.args.options.now) c.args.kind (content_of c.args.contents.now) c.kind_at-held.result c.wrapper_tree.result
    (sym c.requires.form ∙ c.in-Wrapper.is) (c.kind_at-held.ensures ∙ ap (λ t. kind_at c.args.schema.now t 1) c.message_type.ensures)
    c.wrapper_tree.ensures.refused

pub returns-in-FloatWrapper-clause-refused : goal.returns-in-FloatWrapper-clause-refused
returns-in-FloatWrapper-clause-refused c =
    refused_here c.args.schema.now (writing c.args.schema.now c.args.options.now) (message (content_of c.args.contents.now)) c.args.kind fault.Float c.here.result c.here.ensures
    (own_stops c.args.schema.now (writing c.args.schema.now c.args.options.now) forms.FloatWrapper c.args.kind (content_of c.args.contents.now) fault.Float
    (sym c.requires.form ∙ c.in-FloatWrapper.is) refl refl refl)

pub returns-in-Misshapen-clause-refused : goal.returns-in-Misshapen-clause-refused
returns-in-Misshapen-clause-refused c =
    refused_here c.args.schema.now (writing c.args.schema.now c.args.options.now) (message (content_of c.args.contents.now)) c.args.kind fault.Shape
    c.here-in-Misshapen.result c.here-in-Misshapen.ensures
    (own_stops c.args.schema.now (writing c.args.schema.now c.args.options.now) forms.Misshapen c.args.kind (content_of c.args.contents.now) fault.Shape
    (sym c.requires.form ∙ c.in-Misshapen.is) refl refl refl)
