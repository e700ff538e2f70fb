use Rattle.std.proofs.Common.{◌∙◌, sym, ap}
use Rattle.std.proofs.lemmas.Bool.{false≢true}
use Rattle.pbx_parse_translation.specs.Settings.{options_with}
use Rattle.pbx_parse_translation.proofs.Placed.{options_all, options_some}
use Rattle.pbx_parse_translation.proofs.settings.options.Goals as goal

pub returns-then-is_empty : goal.returns-then-is_empty
returns-then-is_empty c =
    sym (ap options_with (c.is_empty.ensures.0 c.if-is_empty.true))
    ∙ options_all c.args.place c.args.settings.now c.each.setting-index c.each.recs c.each-test.false c.each.invariant

pub returns-else-is_empty : goal.returns-else-is_empty
returns-else-is_empty c =
    options_some c.each.recs (λ e. false≢true (sym c.if-is_empty.false ∙ c.is_empty.ensures.1 e))
    ∙ options_all c.args.place c.args.settings.now c.each.setting-index c.each.recs c.each-test.false c.each.invariant
