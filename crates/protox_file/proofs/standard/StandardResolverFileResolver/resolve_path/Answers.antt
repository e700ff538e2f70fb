use Rattle.pbx_wkt_files.specs.Files.{wkt_files}
use Rattle.protox_file.proofs.Folders.{standard_named}
use Rattle.protox_file.proofs.standard.StandardResolverFileResolver.resolve_path.Goals as goal

pub returns-clause-told : goal.returns-clause-told
returns-clause-told g c =
    let told = rw c.as_slice.ensures at (c.resolve_in.ensures.told (g.D.Disk.volume c.self.inside.disk)) in
    rw (← c.self.view_is) (λ tells.
    standard_named wkt_files (g.D.Disk.volume c.self.inside.disk) c.self.inside.folders c.args.path.now c.resolve_in.result told)
