-- The folders of a disk, as a resolver and as a disk.
use Rattle.std.proofs.Common.{◌≡◌, ◌∷◌, ◌∙◌, [], IsTrue, ℕ, List, ap, sym, subst}
use Rattle.pbx_wkt_files.specs.Files.{wkt_files}
use Rattle.protox_io.specs.Count.{Count}
use Rattle.protox_io.specs.Disk.{Volume}
use Rattle.protox_file_sources.specs.Library.{Library}
use Rattle.protox_file.specs.Standard.{Folders, standard}

-- what is said of the resolver is said of the disk
pub of_folders : {D : Type 0} (volume : D → Volume) (r : Folders D) (disk : D) (names : List (List ℕ)) (Q : Library → Type 0)
    → r ≡ record { folders = names; disk = disk }
    → (IsTrue (standard wkt_files (volume r.disk) r.folders).tells → Q (standard wkt_files (volume r.disk) r.folders))
    → IsTrue (volume disk).tells → Q (standard wkt_files (volume disk) names)
of_folders {D = D} volume r disk names Q is h t =
    let P : Folders D → Type 0 = λ x. (IsTrue (standard wkt_files (volume x.disk) x.folders).tells → Q (standard wkt_files (volume x.disk) x.folders)) in
    (subst P is h) t

-- the same of what holds of counts
pub of_counts : {D : Type 0} (volume : D → Volume) (count : D → Count) (r s : Folders D) (disk later : D) (names : List (List ℕ)) (Q : Library → Count → Count → Type 0)
    → r ≡ record { folders = names; disk = disk } → later ≡ s.disk
    → Q (standard wkt_files (volume r.disk) r.folders) (count r.disk) (count s.disk) → Q (standard wkt_files (volume disk) names) (count disk) (count later)
of_counts {D = D} volume count r s disk later names Q is k h =
    let P : Folders D → Type 0 = λ x. Q (standard wkt_files (volume x.disk) x.folders) (count x.disk) (count s.disk) in
    let O : D → Type 0 = λ d. Q (standard wkt_files (volume disk) names) (count disk) (count d) in
    subst O (sym k) (subst P is h)

-- what is kept of the resolver is kept of the disk
pub disk_kept : {D : Type 0} (volume : D → Volume) (names : List (List ℕ)) (r s : Folders D) (disk later : D) → r ≡ record { folders = names; disk = disk } → later ≡ s.disk
    → standard wkt_files (volume s.disk) s.folders ≡ standard wkt_files (volume r.disk) r.folders → volume later ≡ volume disk
disk_kept volume names r s disk later e k h =
    let disks : volume s.disk ∷ [] ≡ volume r.disk ∷ [] = ap (λ (l : Library). l.disks) h in
    let same : volume s.disk ≡ volume r.disk = cc in
    ap volume k ∙ same ∙ ap (λ x. volume x.disk) e
