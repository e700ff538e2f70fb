-- What calls leave as it was.
use Rattle.std.proofs.Common.{◌≡◌, ◌∙◌, List, ℕ, Result, Err, IfErr, refl, ap, sym, subst}
use Rattle.pbx_wkt_files.specs.Files.{wkt_files}
use Rattle.protox_io.specs.Count.{Count, Later}
use Rattle.protox_io.specs.Disk.{Volume}
use Rattle.protox_io.proofs.Counts.{later_same, later_again}
use Rattle.protox_file_sources.specs.Library.{Library}
use Rattle.protox_file.specs.Standard.{Folders, standard}
use Rattle.protox_compile.specs.State.{KeepsFiles, KeepsSettings, State}
use Rattle.protox_compile.proofs.Standard.{disk_kept, of_counts}

pub files_join : {S T : Type 0} (tells : S → T) (count : S → Count) (a b c : S) → KeepsFiles tells count a b → KeepsFiles tells count b c → KeepsFiles tells count a c
files_join tells count a b c h k = record { keeps = k.keeps ∙ h.keeps; later = later_again _ _ _ h.later k.later }

-- of what is handed back under another name
pub files_as : {S T : Type 0} (tells : S → T) (count : S → Count) (old x y : S) → y ≡ x → KeepsFiles tells count old x → KeepsFiles tells count old y
files_as {S = S} tells count old x y e h = let P : S → Type 0 = λ z. KeepsFiles tells count old z in subst P (sym e) h

pub settings_same : {R : Type 0} (library : R → Library) (count : R → Count) (s : State R) → KeepsSettings library count s s
settings_same library count s = record { settings = refl; files = record { keeps = refl; later = later_same _ } }

pub settings_join : {R : Type 0} (library : R → Library) (count : R → Count) (a b c : State R) → KeepsSettings library count a b → KeepsSettings library count b c → KeepsSettings library count a c
settings_join {R = R} library count a b c h k = record {
  settings = k.settings ∙ ap (λ (s : State R). record s { resolver = c.resolver; done = c.done }) h.settings;
  files = files_join library count a.resolver b.resolver c.resolver h.files k.files;
}

-- what is kept of the folders of a disk is kept of the disk
pub disk_keeps : {D : Type 0} (volume : D → Volume) (count : D → Count) (names : List (List ℕ)) (r s : Folders D) (disk later : D)
    → r ≡ record { folders = names; disk = disk } → later ≡ s.disk
    → KeepsFiles (λ (x : Folders D). standard wkt_files (volume x.disk) x.folders) (λ (x : Folders D). count x.disk) r s → KeepsFiles volume count disk later
disk_keeps volume count names r s disk later is e h = record {
  keeps = disk_kept volume names r s disk later is e h.keeps;
  later = of_counts volume count r s disk later names (λ l a b. Later a b) is e h.later;
}

-- what holds of the error holds of the result that hands it on
pub err_is : {T E : Type 0} (P : E → Type 0) (r : Result T E) (y x : E) → r ≡ Err y → y ≡ x → P x → IfErr r P
err_is {T = T} {E = E} P r y x e k h = let Q : Result T E → Type 0 = λ z. IfErr z P in subst Q (sym e) (subst P (sym k) h)
