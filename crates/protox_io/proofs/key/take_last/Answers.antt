use Rattle.std.proofs.Common.{◌++◌, ◌∷◌, [], drop, rules, sym, ap, ◌∙◌}
use Rattle.protox_io.specs.Paths.{bare}
use Rattle.protox_io.proofs.Walk.{bare_last, bare_slash, path_slash, single}
use Rattle.protox_io.proofs.key.take_last.Goals as goal

pub returns-then-start-path-clause-bare : goal.returns-then-start-path-clause-bare
returns-then-start-path-clause-bare c =
    let front = c.split_at.ensures.front in
    let back = c.split_at.ensures.back in
    bare_last c.args.path.now c.part_start-start.result c.part_start-start.ensures (search rules)
    ∙ ap (λ l. bare l ++ single (drop c.part_start-start.result c.args.path.now)) (sym front)
    ∙ ap (λ l. bare c.split_at.result.0.now ++ single l) (sym back)
    ∙ ap (λ l. bare c.split_at.result.0.now ++ l) (sym c.named.ensures.named)

pub returns-else-is_empty-clause-bare : goal.returns-else-is_empty-clause-bare
returns-else-is_empty-clause-bare c =
    let whole = path_slash c.args.path.now c.part_start-start.result c.part_start-start.ensures (search rules) c.requires in
    bare_slash c.args.path.now c.split_at-2.result.0.now (whole ∙ ap (λ l. l ++ 47 ∷ []) (sym c.split_at-2.ensures.front)) (search rules)
