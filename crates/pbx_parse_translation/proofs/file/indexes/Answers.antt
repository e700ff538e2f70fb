use Rattle.std.proofs.Common.{◌≡◌, ◌++◌, ◌∷◌, [], to_z, of_z, w32, rules, sym, ap, ◌∙◌}
use Rattle.pbx_parse_translation.proofs.Steps.{index_taken, index_passed, indexes_end}
use Rattle.pbx_parse_translation.proofs.file.indexes.Goals as goal
use Rattle.pbx_parse_translation.proofs.file.indexes.Goals.{then-has_modifier+in_ok-index+in_ok-add, else-has_modifier}

pub loop-i-preserved : goal.loop-i-preserved
loop-i-preserved c =
    let xs = c.args.imports.now in
    let x = c.index-imports-i.result in
    elim c.if-has_modifier.branch [
      | then-has_modifier+in_ok-index+in_ok-add w ↦
          let k = w.in_ok-index.field-0 in
          let same : to_z w32 (of_z w32 k) ≡ k = search rules in
          rw w.indexes-is
          (index_taken c.args.modifier xs c.loop-i.i x k c.loop-i.indexes w.add.new.self _ c.loop-i-test.true c.index-imports-i.is c.loop-i.invariant (sym c.has_modifier.ensures ∙ w.if-has_modifier.true) w.in_ok-index.ensures (w.in_ok-add.ensures.ok ∙ ap (λ z. c.loop-i.indexes ++ z ∷ []) same))
      | else-has_modifier w ↦
          index_passed c.args.modifier xs c.loop-i.i x c.loop-i.indexes c.if-has_modifier.indexes _ c.loop-i-test.true c.index-imports-i.is c.loop-i.invariant (sym c.has_modifier.ensures ∙ w.if-has_modifier.false) w.indexes-is
    ]

pub returns : goal.returns
returns c = indexes_end c.args.modifier c.args.imports.now c.loop-i.i c.loop-i.indexes _ c.loop-i-test.false c.loop-i.invariant
