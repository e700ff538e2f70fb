use Rattle.std.proofs.Common.{◌<◌, length, ◌∙◌, rules}
use Rattle.protox_io.specs.Shown.{shown}
use Rattle.protox_io.proofs.Counts.{pieces_refused}
use Rattle.protox_io.proofs.shown.write_all_shown.Goals as goal

pub returns-in-Err-clause-told : goal.returns-in-Err-clause-told
returns-in-Err-clause-told g c tells =
    let h : c.loop-text.text-index < length c.args.texts.now = search rules in
    pieces_refused (λ p. shown p.now) c.args.texts.now c.loop-text.text-index _ _ _ _ h (c.loop-text.invariant.told tells) (c.in-Err.ensures.told (c.loop-text.invariant.keeps_tells ∙ tells))
