use Rattle.std.proofs.Common.{rules, ◌∙◌, ap, not, ◌&&◌, List, ℕ, ℤ, Bor}
use Rattle.pbx_link_names.specs.Numbers.{is_there, is_noted}
use Rattle.pbx_link_names.proofs.Sets.{undone, elsewhere}
use Rattle.pbx_link_names.proofs.numbered_names.NumberedNames.add_new.Goals as goal

pub returns-clause-undone : goal.returns-clause-undone
returns-clause-undone c = λ q z.
    let f : List ℕ → ℤ → _ = λ p y. is_there p y c.args.self.now in
    let g : List ℕ → ℤ → _ = λ p y. is_there p y c.add.new.self in
    ap (λ (items : List (Bor (List ℕ × ℤ))). is_there q z c.add.new.self && not (is_noted q z items)) c.in_ok-push.ensures.items
    ∙ undone f g c.args.added.now.items c.args.item q z
    (search rules)
    (elsewhere c.add.result f g c.args.item.now q z (search rules) c.add.ensures.err)
