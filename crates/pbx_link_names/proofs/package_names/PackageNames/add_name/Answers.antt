use Rattle.std.proofs.lemmas.Result.{on_ok_weaker}
use Rattle.pbx_link_names.proofs.Added.{added_already, name_added}
use Rattle.pbx_link_names.proofs.package_names.PackageNames.add_name.Goals as goal

pub returns-in-Some : goal.returns-in-Some
returns-in-Some c =
    on_ok_weaker c.add.result (λ added s. name_added c.args.self.now c.add.new.self c.args.name.now c.in-Some.missing c.in-Some.ensures added c.add.ensures.sound s) c.add.ensures.added

pub returns-in-None : goal.returns-in-None
returns-in-None c = λ s. (added_already c.args.self.now c.args.name.now c.in-None.ensures, s)
