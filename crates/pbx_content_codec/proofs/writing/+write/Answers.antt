use Rattle.std.proofs.Common.{Some, None, Bor, option_map, refl, sym, ap, ◌∙◌, append-nil}
use Rattle.pbx_content.specs.declared.shape.FieldShape.{FieldShape}
use Rattle.pbx_content.specs.Shape.{fields_of}
use Rattle.pbx_content_codec.proofs.TreeFields.{val_of-Pairs}
use Rattle.pbx_content_codec.proofs.WrittenTexts.{field_written, none_behind, all_behind}
use Rattle.pbx_content_codec.proofs.writing.+write.Goals as goal
use Rattle.pbx_content_codec.proofs.writing.+write.Goals.{put_fields-in-Some+in_ok-put_value, put_fields-in_default}
use Rattle.pbx_content_codec.proofs.writing.+write.Goals.{content_text-else-not-is_empty-via-then-not-is_empty+else-not-keeps_order, content_text-else-not-is_empty-via-else-not-is_empty}

pub content_text-returns : goal.content_text-returns
content_text-returns t c =
    let order = c.in_ok-put_fields.ensures.order in
    rw (c.in_ok-put_recs.ensures.text, c.in_ok-put_fields.ensures.text, c.in_ok-text.ensures)
    (
    elim c.else-not-is_empty.branch [
      | content_text-else-not-is_empty-via-then-not-is_empty+else-not-keeps_order w ↦
          sym (all_behind c.args.schema.now c.args.type_at c.args.contents.now order (sym w.keeps_order.ensures ∙ w.if-not-keeps_order.false))
      | content_text-else-not-is_empty-via-else-not-is_empty w ↦
          sym (none_behind c.args.schema.now c.args.type_at c.args.contents.now order (w.if-not-is_empty.ensures.0 refl))
    ]
    )

pub put_fields-loop-field-preserved : goal.put_fields-loop-field-preserved
put_fields-loop-field-preserved t c =
    let now : Bor FieldShape → FieldShape = λ f. f.now in
    let written =
    field_written c.args.schema.now (fields_of c.args.schema.now c.args.type_at) c.as_slice-field-items.result.now c.loop-field.field-index c.field-item.result
    c.loop-field.out c.match-field_of.out _
    in
    elim c.match-field_of.branch [
      | put_fields-in-Some+in_ok-put_value w ↦
          written (Some w.in-Some.found.now) c.loop-field-test.true c.field-item.is c.loop-field.invariant
          (sym (ap (option_map now) w.in-Some.is) ∙ c.field_of.ensures) (w.out-is ∙ w.in_ok-put_value.ensures)
      | put_fields-in_default w ↦
          written None c.loop-field-test.true c.field-item.is c.loop-field.invariant
          (sym (ap (option_map now) w.in_default.is) ∙ c.field_of.ensures) (w.out-is ∙ sym (append-nil c.loop-field.out))
    ]

pub put_value-returns-in-Pairs : goal.put_value-returns-in-Pairs
put_value-returns-in-Pairs t c = rw (c.in-Pairs.is, val_of-Pairs c.in-Pairs.pairs) c.put_pairs.ensures
