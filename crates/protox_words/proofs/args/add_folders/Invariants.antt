use Rattle.std.proofs.Common.{◌≡◌, ◌++◌, take}
use Rattle.protox_words.proofs.args.add_folders.Given as goal

abbrev pub invariant-loop-folder : goal.invariant-loop-folder
invariant-loop-folder l = l.folders ≡ l.fn.folders ++ take l.folder-index l.includes
