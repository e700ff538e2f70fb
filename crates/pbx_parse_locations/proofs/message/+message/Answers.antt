use Rattle.std.proofs.Common.{◌≡◌, ◌+◌, [], ◌++◌, drop, sym, ap, ◌∙◌, append-nil, add-zero, arith}
use Rattle.pbx_parse_tree.specs.View.{add, item_of, body_of}
use Rattle.pbx_parse_locations.specs.Locations.{nested_from, message_locations}
use Rattle.pbx_parse_locations.proofs.Items.{message_nested, plain_nested, nested_goes_on, nested_is_over, smaller}
use Rattle.pbx_parse_locations.proofs.message.+message.Goals as goal
use Rattle.pbx_parse_locations.proofs.message.+message.Goals.{add_nested-in-Message+in_ok-path-in-Message+in_ok-add_message-in-Message+in_ok-index-in-Message, add_nested-in-Entry+in_ok-index-in-Entry, add_nested-in-None}

pub add_nested-add_message-requires : goal.add_nested-add_message-requires
add_nested-add_message-requires t c =
    let less = smaller c.args.items.now c.each.item-index c.item-item.result c.in-Message.block c.each-test.true c.item-item.is c.in-Message.ensures in
    (omega (arith, less, c.decreases), tt)

pub add_nested-each-preserved : goal.add_nested-each-preserved
add_nested-each-preserved t c =
    let path = c.args.path.now in
    let xs = c.args.items.now in
    let n = c.each.item-index in
    let x = c.item-item.result in
    let i = c.each.index in
    let rest = body_of (drop (n + 1) xs) in
    elim c.match-nested_message.branch [
      | add_nested-in-Message+in_ok-path-in-Message+in_ok-add_message-in-Message+in_ok-index-in-Message w ↦
          let b = w.in-Message.block in
          let same = ap (λ p. message_locations p b.keyword b.name (body_of b.items.now) b.close) w.in_ok-path-in-Message.ensures in
          rw (w.out-is, w.index-is, w.in_ok-index-in-Message.ensures)
          (nested_goes_on path xs n x i (i + 1) _ _ _ _ c.each-test.true c.item-item.is (message_nested path i rest (item_of x) b w.in-Message.ensures)
          (w.in_ok-add_message-in-Message.ensures ∙ ap (λ l. c.each.out ++ l) same) c.each.invariant)
      | add_nested-in-Entry+in_ok-index-in-Entry w ↦
          rw (w.out-is, w.index-is, w.in_ok-index-in-Entry.ensures)
          (nested_goes_on path xs n x i (i + 1) _ _ [] _ c.each-test.true c.item-item.is (plain_nested path i 1 rest (item_of x) w.in-Entry.ensures) (sym (append-nil c.each.out)) c.each.invariant)
      | add_nested-in-None w ↦
          let none : nested_from path i (add (item_of x) rest) ≡ [] ++ nested_from path i rest = plain_nested path i 0 rest (item_of x) w.in-None.ensures ∙ ap (λ k. nested_from path k rest) (add-zero i) in
          rw (w.out-is, w.index-is)
          (nested_goes_on path xs n x i i _ _ [] _ c.each-test.true c.item-item.is none (sym (append-nil c.each.out)) c.each.invariant)
    ]

pub add_nested-returns : goal.add_nested-returns
add_nested-returns t c = nested_is_over c.args.path.now c.args.items.now c.each.item-index c.each.index c.each.out _ c.each-test.false c.each.invariant
