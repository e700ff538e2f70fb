use Rattle.std.proofs.Common.{◌∙◌, sym, refl, rules}
use Rattle.protox_io.proofs.Counts.{later_same, later_again}
use Rattle.protox_file.proofs.Folders.{folder_here, folder_next, folder_cause}
use Rattle.protox_file.proofs.standard.open_in.Goals as goal

pub loop-folder-init : goal.loop-folder-init
loop-folder-init g c = record { keeps = refl; later = later_same _; passed = λ _. refl }

pub returns-then-not-is_not_found-clause-told : goal.returns-then-not-is_not_found-clause-told
returns-then-not-is_not_found-clause-told g c =
    folder_here _ _ _ _ _ _ _ c.loop-folder.invariant.keeps (search rules) c.folder-item.is c.loop-folder.invariant.passed
    (rw c.as_str.ensures at c.open_below-answer.ensures.told) (sym c.is_not_found.ensures ∙ c.if-not-is_not_found.true)

pub returns-then-not-is_not_found-clause-cause : goal.returns-then-not-is_not_found-clause-cause
returns-then-not-is_not_found-clause-cause g c =
    folder_cause _ _ _ _ c.folder-item.result _ _ c.loop-folder.invariant.keeps (search rules) c.folder-item.is _ _ _ c.loop-folder.invariant.later
    (rw c.as_str.ensures at c.open_below-answer.ensures.cause)

pub loop-folder-preserved : goal.loop-folder-preserved
loop-folder-preserved g c = record {
  keeps = c.open_below-answer.ensures.keeps ∙ c.loop-folder.invariant.keeps;
  later = later_again _ _ _ c.loop-folder.invariant.later c.open_below-answer.ensures.later;
  passed = folder_next _ _ _ _ _ _ _ c.loop-folder.invariant.keeps (search rules) c.folder-item.is c.loop-folder.invariant.passed
      (rw c.as_str.ensures at c.open_below-answer.ensures.told) (sym c.is_not_found.ensures ∙ c.if-not-is_not_found.false);
}
