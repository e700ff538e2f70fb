use Rattle.std.proofs.Common.{map}
use Rattle.protox_io.specs.Disk.{Volume}
use Rattle.protox_file_sources.specs.Library.{below}
use Rattle.protox_file.proofs.Members.{ResolveNot}
use Rattle.protox_file.proofs.standard.resolve_in.Given as goal

abbrev pub invariant-loop-folder : goal.invariant-loop-folder
invariant-loop-folder l = (disk : Volume) → ResolveNot (map (below disk) l.folders) l.folder-index l.path
