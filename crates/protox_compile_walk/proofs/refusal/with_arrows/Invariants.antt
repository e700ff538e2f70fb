use Rattle.std.proofs.Common.{◌≡◌, ◌++◌, take, string_bytes}
use Rattle.std.specs.List.{concat}
use Rattle.protox_compile_walk.specs.Walk.{arrows_before}
use Rattle.protox_compile_walk.proofs.refusal.with_arrows.Given as goal

abbrev pub invariant-loop-name : goal.invariant-loop-name
invariant-loop-name l = string_bytes l.text ≡ string_bytes l.fn.front ++ concat (arrows_before (take l.name-index l.names))
