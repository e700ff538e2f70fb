use Rattle.std.proofs.Common.{◌≤◌, List, length, sym, ap, ◌∙◌, subst, arith}
use Rattle.pbx_content.specs.declared.shape.FieldShape.{FieldShape}
use Rattle.pbx_content.specs.declared.shape.MessageShape.{MessageShape}
use Rattle.pbx_content.specs.declared.shape.Shape.{Shape}
use Rattle.pbx_content.specs.Shape.{declared_at, by_number, field_of}
use Rattle.pbx_content.specs.Sound.{AreProper}
use Rattle.pbx_content.specs.Index.{IsIndexOf}
use Rattle.pbx_content.proofs.SchemaTypes.{declared_here, declared_past, index_here, past_types}
use Rattle.pbx_content.proofs.shape.Schema.field_of.Goals.{then-type_at-messages-via-then-type_at-messages, then-type_at-messages-via-else-type_at-messages+then-type_at-len}
use Rattle.pbx_content.proofs.shape.Schema.field_of.Goals as goal

pub returns-then-type_at-messages : goal.returns-then-type_at-messages
returns-then-type_at-messages c =
    let past : length c.self.inside.shape.messages ≤ c.args.type_at = (elim c.then-type_at-messages.branch [
      | then-type_at-messages-via-then-type_at-messages w ↦ omega (arith, w.if-type_at-messages.true, ap length c.as_slice-messages.ensures)
      | then-type_at-messages-via-else-type_at-messages+then-type_at-len w ↦
          past_types (λ entries. entries.items) c.self.inside.shape.messages c.self.inside.index.items c.args.type_at c.self.invariant.1
          (omega (arith, w.if-type_at-len.true, w.len.ensures))
    ]) in
    sym (ap (λ (s : Shape). field_of c.args.number (by_number (declared_at s.messages c.args.type_at))) (sym c.self.view_is)
    ∙ ap (λ (fs : List FieldShape). field_of c.args.number (by_number fs)) (declared_past c.self.inside.shape.messages c.args.type_at past))

pub field_in-requires-clause-proper : goal.field_in-requires-clause-proper
field_in-requires-clause-proper c =
    let here = declared_here c.as_slice-messages.result.now c.args.type_at c.index-messages-type_at.result c.if-type_at-messages.false in
    subst AreProper (ap (λ (ms : List MessageShape). declared_at ms c.args.type_at) (sym c.as_slice-messages.ensures) ∙ here ∙ sym c.as_slice.ensures)
    (c.self.invariant.0.types c.args.type_at)

pub field_in-requires-clause-index : goal.field_in-requires-clause-index
field_in-requires-clause-index c =
    let own =
    index_here (λ entries. entries.items) c.as_slice-messages.result.now c.self.inside.shape.messages c.self.inside.index.items c.args.type_at
    c.index-messages-type_at.result c.index.result.now c.as_slice-messages.ensures c.self.invariant.1 c.if-type_at-messages.false c.index.ensures in
    subst (IsIndexOf c.as_slice.result.now) (sym c.as_slice-2.ensures.value)
    (subst (λ (fs : List FieldShape). IsIndexOf fs c.index.result.now.items) (sym c.as_slice.ensures) own)

pub returns : goal.returns
returns c =
    let here = declared_here c.as_slice-messages.result.now c.args.type_at c.index-messages-type_at.result c.if-type_at-messages.false in
    c.field_in.ensures
    ∙ ap (λ (fs : List FieldShape). field_of c.args.number (by_number fs))
    (c.as_slice.ensures ∙ sym here ∙ ap (λ (ms : List MessageShape). declared_at ms c.args.type_at) c.as_slice-messages.ensures)
    ∙ ap (λ (s : Shape). field_of c.args.number (by_number (declared_at s.messages c.args.type_at))) c.self.view_is
