use Rattle.std.proofs.Common.{◌∙◌, sym}
use Rattle.pbx_wkt_files.specs.Files.{wkt_files}
use Rattle.protox_file.proofs.Folders.{standard_here, standard_next, standard_cause}
use Rattle.protox_file.proofs.standard.StandardResolverFileResolver.open_file.Goals as goal

pub returns-then-not-is_not_found-clause-told : goal.returns-then-not-is_not_found-clause-told
returns-then-not-is_not_found-clause-told g c =
    rw (← c.self.view_is) (standard_here wkt_files (g.D.Disk.volume c.self.inside.disk) c.self.inside.folders c.args.name.now c.open_in-answer.result
    (sym c.is_not_found.ensures ∙ c.if-not-is_not_found.true) (rw c.as_slice.ensures at c.open_in-answer.ensures.told))

pub returns-then-not-is_not_found-clause-cause : goal.returns-then-not-is_not_found-clause-cause
returns-then-not-is_not_found-clause-cause g c =
    rw (← c.self.view_is) (standard_cause wkt_files (g.D.Disk.volume c.self.inside.disk) c.self.inside.folders c.args.name.now c.open_in-answer.result _
    (rw c.as_slice.ensures at c.open_in-answer.ensures.cause))

pub returns-clause-told : goal.returns-clause-told
returns-clause-told g c =
    rw (← c.self.view_is) (standard_next wkt_files (g.D.Disk.volume c.self.inside.disk) c.self.inside.folders c.args.name.now c.open_in-answer.result
    c.open_built_in.result (sym c.is_not_found.ensures ∙ c.if-not-is_not_found.false)
    (rw c.as_slice.ensures at c.open_in-answer.ensures.told) c.open_built_in.ensures.told)
