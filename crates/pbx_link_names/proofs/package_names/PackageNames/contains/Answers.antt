use Rattle.pbx_link_names.proofs.Added.{told}
use Rattle.pbx_link_names.proofs.package_names.PackageNames.contains.Goals as goal

pub returns : goal.returns
returns c = told c.args.self.now c.args.name.now c.missing.result c.is_none.result c.is_none.ensures c.missing.ensures
