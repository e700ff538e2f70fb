use Rattle.std.proofs.Common.{◌∙◌, ap}
use Rattle.pbx_link_names.specs.Packages.{node_in, child_of}
use Rattle.pbx_link_names.proofs.package_names.PackageNames.child.Goals as goal

pub returns-in-Some : goal.returns-in-Some
unfolding child_of
returns-in-Some c = c.copied.ensures ∙ c.get-in-Some.ensures.value ∙ ap (node_in c.args.node) c.in-Some.ensures.value

pub returns-in-None : goal.returns-in-None
unfolding child_of
returns-in-None c = ap (node_in c.args.node) c.in-None.ensures.value
