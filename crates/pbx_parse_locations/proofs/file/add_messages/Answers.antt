use Rattle.std.proofs.Common.{◌≡◌, [], refl, sym, ap, ◌∙◌, MatchOption, Option, Some, None}
use Rattle.pbx_parse_tree.specs.View.{body_of, top_of}
use Rattle.pbx_parse_locations.specs.Locations.{element, message_locations, message_at, top_messages}
use Rattle.pbx_parse_locations.proofs.Added.{one_more, skips}
use Rattle.pbx_parse_locations.proofs.file.add_messages.Goals as goal
use Rattle.pbx_parse_locations.proofs.file.add_messages.Goals.{in-Some+in_ok-path+in_ok-add_message+in_ok-index, in_default}

none_is : {A : Type 0} (x : Option A) (P : Type 0) (Q : A → Type 0) → MatchOption x P Q → ((y : A) → x ≡ Some y → ⊥) → P
none_is None P Q h other = h
none_is (Some y) P Q h other = absurd (other y refl)

pub each-preserved : goal.each-preserved
each-preserved c =
    let xs = c.args.tops.now in
    let x = c.top-item.result in
    let i = c.each.index in
    elim c.match-top_message.branch [
      | in-Some+in_ok-path+in_ok-add_message+in_ok-index w ↦
          let b = w.in-Some.block in
          let m = w.in-Some.ensures in
          let path = w.in_ok-path.ensures ∙ ap (λ p. element p 4 i) c.new-file.ensures in
          let here = ap (λ p. message_locations p b.keyword b.name (body_of b.items.now) b.close) path in
          let keyword = ap (λ k. message_locations (element [] 4 i) k m.head.name.span (body_of b.items.now) b.close) m.keyword in
          let name = ap (λ n. message_locations (element [] 4 i) b.keyword n (body_of b.items.now) b.close) m.name in
          rw (w.out-is, w.index-is)
          (one_more message_at top_messages top_of xs c.each.top-index x _ _ _ _ _ _ _ _ c.each-test.true c.top-item.is m.is c.each.invariant w.in_ok-add_message.ensures (here ∙ sym (keyword ∙ name)) w.in_ok-index.ensures)
      | in_default w ↦
          let none = none_is c.top_message.result _ _ c.top_message.ensures w.in_default.not-Some in
          rw (w.out-is, w.index-is) (skips message_at top_messages top_of xs c.each.top-index x _ _ _ _ c.each-test.true c.top-item.is none c.each.invariant)
    ]
