use Rattle.std.proofs.Common.{List, [], ◌∷◌, map, sym, ap, ◌∙◌, subst}
use Rattle.std.proofs.lemmas.List.{take_all, map-append}
use Rattle.std.specs.List.{AllByRecursion}
use Rattle.pbx_content.specs.declared.shape.FieldShape.{FieldShape}
use Rattle.pbx_content.specs.declared.shape.MessageShape.{MessageShape}
use Rattle.pbx_content.specs.Sound.{AreProper}
use Rattle.pbx_content.specs.Index.{IsIndexOf, AreIndexed}
use Rattle.pbx_content.proofs.SchemaTypes.{HasProperFields, proper_at, declared_here, proper_more, indexed_more}
use Rattle.pbx_content.proofs.index.types_index.Goals as goal

pub returns-in-None : goal.returns-in-None
returns-in-None c = λ proper.
    let not_proper = rw c.in-None.is at c.in_ok-entries.ensures in
    let here = declared_here c.args.messages.now c.loop-message.message-index c.message-item.result c.loop-message-test.true in
    let same = here ∙ ap (λ (m : MessageShape). m.fields) (sym c.message-item.is) ∙ sym c.as_slice.ensures in
    not_proper (subst AreProper same (proper c.loop-message.message-index))

pub loop-message-preserved : goal.loop-message-preserved
loop-message-preserved c =
    let found = rw c.in-Some.is at c.in_ok-entries.ensures in
    let same = c.as_slice.ensures ∙ ap (λ (m : MessageShape). m.fields) c.message-item.is in
    let pushed = ap (map (λ entries. entries.items)) c.in_ok-push-in-Some.ensures.items
    ∙ map-append (λ entries. entries.items) c.loop-message.index.items (c.in-Some.entries ∷ []) in
    record {
      proper =
          proper_more c.args.messages.now c.loop-message.message-index c.message-item.result c.loop-message-test.true c.loop-message.invariant.proper
          (subst AreProper same found.0);
      indexed =
          subst (AreIndexed _) (sym pushed)
          (indexed_more c.args.messages.now _ c.loop-message.message-index c.message-item.result c.in-Some.entries.items c.loop-message-test.true
          c.loop-message.invariant.indexed
          (subst (λ (fs : List FieldShape). IsIndexOf fs c.in-Some.entries.items) same found.1));
    }

pub returns : goal.returns
returns c =
    let all = take_all c.loop-message.message-index c.args.messages.now c.loop-message-test.false in
    let index = map (λ entries. entries.items) c.loop-message.index.items in (
      proper_at c.args.messages.now (subst (AllByRecursion HasProperFields) all c.loop-message.invariant.proper),
      subst (λ (ms : List MessageShape). AreIndexed ms index) all c.loop-message.invariant.indexed,
    )
