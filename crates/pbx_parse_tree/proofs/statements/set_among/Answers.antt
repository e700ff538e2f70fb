use Rattle.std.proofs.Common.{◌∙◌, refl, sym, ap, option_map}
use Rattle.pbx_parse_tree.specs.View.{setting_of}
use Rattle.pbx_parse_tree.proofs.Gathered.{some_more, none_more}
use Rattle.pbx_parse_tree.proofs.statements.set_among.Goals as goal
use Rattle.pbx_parse_tree.proofs.statements.set_among.Goals.{in-Some+in_ok-push, in_default}

pub each-preserved : goal.each-preserved
each-preserved g c =
    let f = g.T.HasSetting.set in
    let xs = c.args.items.now in
    elim c.match-setting.branch [
      | in-Some+in_ok-push w ↦ some_more f xs c.each.item-index c.item-item.result c.each-test.true c.item-item.is setting_of c.each.all.items c.match-setting.all.items w.in-Some.setting c.each.invariant (rw w.all-is w.in_ok-push.ensures.items) (sym (ap (option_map setting_of) w.in-Some.is) ∙ c.setting.ensures)
      | in_default w ↦ none_more f xs c.each.item-index c.item-item.result c.each-test.true c.item-item.is setting_of c.each.all.items c.match-setting.all.items c.each.invariant (rw w.all-is refl) w.in_default.ensures
    ]
