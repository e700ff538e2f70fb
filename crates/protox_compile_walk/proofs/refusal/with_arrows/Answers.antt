use Rattle.std.proofs.Common.{◌≡◌, ◌++◌, rules, string_bytes}
use Rattle.std.specs.Prelude.{codes}
use Rattle.protox_compile_walk.proofs.Arrows.{arrows_push}
use Rattle.protox_compile_walk.proofs.refusal.with_arrows.Goals as goal

pub loop-name-preserved : goal.loop-name-preserved
loop-name-preserved c =
    let first : string_bytes c.push_str.new.self ≡ string_bytes c.loop-name.text ++ codes " -> " = search rules in
    let second : string_bytes c.push_str-in-loop-name.new.self ≡ string_bytes c.push_str.new.self ++ c.name-item.result = search rules in
    arrows_push c.args.names.now c.loop-name.name-index c.name-item.result (string_bytes c.args.front) _ _ _ (search rules) c.name-item.is c.loop-name.invariant first second
