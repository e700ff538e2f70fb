use Rattle.std.proofs.Common.{List, ℕ, ap, ◌∙◌, ◌++◌, ◌∷◌, []}
use Rattle.pbx_link_shapes.proofs.TypeNumbers.{field_added, extension_left}
use Rattle.pbx_link_shapes.proofs.type_names.named_numbers.Goals as goal
use Rattle.pbx_link_shapes.proofs.type_names.named_numbers.Goals.{then-not-field+in_ok-copy+in_ok-push, else-not-field}

pub loop-field-preserved : goal.loop-field-preserved
loop-field-preserved c =
    elim c.if-not-field.branch [
      | then-not-field+in_ok-copy+in_ok-push w ↦ rw w.items-is (field_added c.args.fields.now c.loop-field.field-index c.field-item.result c.loop-field.items.items
          w.push.new.self.items c.loop-field-test.true c.field-item.is c.loop-field.invariant w.if-not-field.true
          (w.in_ok-push.ensures.items ∙ ap (λ (text : List ℕ). c.loop-field.items.items ++ (text, c.field-item.result.number) ∷ []) w.in_ok-copy.ensures))
      | else-not-field w ↦ rw w.items-is (extension_left c.args.fields.now c.loop-field.field-index c.field-item.result c.loop-field.items.items
          c.loop-field-test.true c.field-item.is c.loop-field.invariant w.if-not-field.false)
    ]
