use Rattle.std.proofs.Common.{◌≡◌, map, take}
use Rattle.protox_compile_walk.specs.Walk.{Open}
use Rattle.protox_compile_walk.proofs.stack.names_of_all.Given as goal

abbrev pub invariant-loop-frame : goal.invariant-loop-frame
invariant-loop-frame l = l.names ≡ map (λ (f : Open). f.name) (take l.frame-index l.frames)
