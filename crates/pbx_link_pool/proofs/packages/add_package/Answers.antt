use Rattle.std.proofs.Common.{sym, subst}
use Rattle.std.specs.Prelude.{Option}
use Rattle.std.proofs.lemmas.Result.{on_ok_weaker}
use Rattle.pbx_link_names.specs.declared.package_names.Missing.{Missing}
use Rattle.pbx_link_pool.specs.Packages.{IsMissingOf, IsAlikeBut}
use Rattle.pbx_link_pool.proofs.Packaged.{already, package_added}
use Rattle.pbx_link_pool.proofs.packages.add_package.Goals as goal

pub returns-in-Some-clause-added : goal.returns-in-Some-clause-added
returns-in-Some-clause-added c =
    on_ok_weaker c.add.result
    (λ added p s m. package_added c.args.packages.now c.add.new.self p c.in-Some.missing added c.add.ensures.sound s (subst (λ (o : Option Missing). IsMissingOf c.args.packages.now p o) c.in-Some.is m))
    c.add.ensures.added

pub returns-in-Some-clause-alike : goal.returns-in-Some-clause-alike
returns-in-Some-clause-alike c = subst (λ (o : Option Missing). IsAlikeBut o c.args.packages.now c.add.new.self) (sym c.in-Some.is) (c.add.ensures.alike, c.add.ensures.sound)

pub returns-in-None-clause-added : goal.returns-in-None-clause-added
returns-in-None-clause-added c = λ p s m. already c.args.packages.now p s (subst (λ (o : Option Missing). IsMissingOf c.args.packages.now p o) c.in-None.is m)
