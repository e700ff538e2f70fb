use Rattle.std.proofs.Common.{◌∙◌, ap, Option}
use Rattle.std.specs.Prelude.{find}
use Rattle.std.specs.Option.{option_or}
use Rattle.pbx_content.specs.declared.shape.FieldShape.{FieldShape}
use Rattle.pbx_json_meaning.specs.Names.{json_name_is, name_is, extension_is}
use Rattle.pbx_json_schema.specs.Index.{IsIndexOf, item_at}
use Rattle.pbx_json_schema.proofs.Adding.{or_twice}
use Rattle.pbx_json_schema.proofs.field_names.FieldNames.new.Goals as goal

pub returns : goal.returns
unfolding IsIndexOf
returns c =
    let fs = c.args.fields.now in (
      λ key.
          c.in_ok-add_all-3.ensures key ∙ ap (λ (o : Option FieldShape). option_or o (find (extension_is key) fs))
          (c.in_ok-add_all-2.ensures key ∙ ap (λ (o : Option FieldShape). option_or o (find (name_is key) fs))
          (c.in_ok-add_all.ensures key ∙ ap (λ o. option_or (item_at fs o) (find (json_name_is key) fs)) (c.new-by_key.ensures key)))
          ∙ or_twice (find (json_name_is key) fs) (find (name_is key) fs) (find (extension_is key) fs),
      λ name. c.in_ok-add_all-4.ensures name ∙ ap (λ o. option_or (item_at fs o) (find (name_is name) fs)) (c.new-by_name.ensures name),
    )
