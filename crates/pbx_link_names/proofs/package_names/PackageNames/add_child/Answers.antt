use Rattle.std.proofs.Common.{refl, rules}
use Rattle.pbx_link_names.specs.Packages.{child_of}
use Rattle.pbx_link_names.proofs.Values.{on_any_err}
use Rattle.pbx_link_names.proofs.package_names.PackageNames.add_child.Goals as goal

pub returns-in_err-put-clause-unchanged : goal.returns-in_err-put-clause-unchanged
unfolding child_of
returns-in_err-put-clause-unchanged c = on_any_err c.from_residual.result (refl, λ n p. c.in_err-put.ensures.unchanged n p)

pub returns-clause-added : goal.returns-clause-added
unfolding child_of
returns-clause-added c = (refl, search rules, λ n p. c.in_ok-put.ensures.put n p)
