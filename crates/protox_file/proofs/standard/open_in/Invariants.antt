use Rattle.std.proofs.Common.{◌≡◌, IsTrue, map}
use Rattle.protox_io.specs.Count.{Later}
use Rattle.protox_file_sources.specs.Library.{below}
use Rattle.protox_file.proofs.Members.{ArePassed}
use Rattle.protox_file.proofs.standard.open_in.Given as goal

abbrev pub invariant-loop-folder : goal.invariant-loop-folder
invariant-loop-folder g l = record {
  keeps : g.D.Disk.volume l.disk ≡ g.D.Disk.volume l.fn.disk;
  later : Later (g.D.Disk.count l.fn.disk) (g.D.Disk.count l.disk);
  passed : IsTrue (g.D.Disk.volume l.fn.disk).tells → ArePassed (map (below (g.D.Disk.volume l.fn.disk)) l.folders) l.folder-index l.name;
}
