use Rattle.std.proofs.Common.{◌≡◌, ◌∙◌, false, sym, ap, arith}
use Rattle.pbx_parse_translation.specs.Synthetic.{is_among, name_with}
use Rattle.pbx_parse_translation.proofs.Free.{fewest_are, fewest_last}
use Rattle.pbx_parse_translation.proofs.synthetic.fewest_x.Goals as goal

pub returns-then-not-has : goal.returns-then-not-has
returns-then-not-has c = λ names h taken.
    let field = c.args.field.now in
    let free : is_among names (name_with c.tries.x_count field) ≡ false = ap (is_among names) (sym (c.as_str.ensures.value ∙ c.in_ok-name_with.ensures)) ∙ sym (c.has.ensures names h) ∙ c.if-not-has.true in
    fewest_are names field c.tries.x_count (c.tries.invariant names h taken) free

pub returns : goal.returns
returns c = λ names h taken. h.0 ∙ fewest_last names c.args.field.now c.tries.x_count (c.tries.invariant names h taken) (omega (arith, h.0))
