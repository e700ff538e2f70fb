use Rattle.std.proofs.Common.{◌∙◌}
use Rattle.protox_io.proofs.Showing.{line_refused, line_ends}
use Rattle.protox_io.proofs.shown.write_line.Goals as goal

pub returns-in-Ok-clause-told : goal.returns-in-Ok-clause-told
returns-in-Ok-clause-told g c tells =
    line_ends (λ t. t.now) c.args.texts.now _ _ _ c.write_all.result (c.in-Ok.ensures.told tells) (c.write_all.ensures.told (c.write_all_shown.ensures.keeps_tells ∙ tells))

pub returns-in-Err-clause-told : goal.returns-in-Err-clause-told
returns-in-Err-clause-told g c tells = line_refused (λ t. t.now) c.args.texts.now _ _ (c.in-Err.ensures.told tells)
