use Rattle.std.proofs.Common.{◌≡◌, drop, fold}
use Rattle.protox_words.specs.Words.{step, Reading, nothing}
use Rattle.protox_words.specs.Told.{args_told, scan_of}
use Rattle.protox_words.proofs.words.read_into.Given as goal

abbrev pub invariant-loop-word : goal.invariant-loop-word
invariant-loop-word l = args_told l.fn.args ≡ nothing → fold step (Reading nothing) l.fn.words ≡ fold step (scan_of l.place l.args) (drop l.word-index l.words)
