use Rattle.std.proofs.Common.{◌∙◌, List, ℕ, Bor, Some, cond, ap, sym, arith}
use Rattle.std.specs.Str.{bytes_eq}
use Rattle.pbx_link_names.specs.Names.{under, without}
use Rattle.pbx_link_names.proofs.Values.{noted, put_back, popped}
use Rattle.pbx_link_names.proofs.name_map.NameMap.add_new.Goals as goal

pub returns-in-Ok-None-clause-undone : goal.returns-in-Ok-None-clause-undone
returns-in-Ok-None-clause-undone g c = λ q.
    let before = c.args.self.now in
    let after = c.put.new.self in
    ap (λ (names : List (Bor (List ℕ))). without q names (under q after)) c.in_ok-push.ensures.items
    ∙ noted (λ p. under p before) (λ p. under p after) c.args.added.now.items c.args.name q c.args.value
    (sym c.in-Ok-None.field-0-is ∙ c.in-Ok-None.ensures.old ∙ ap (λ n. under n before) c.as_str.ensures)
    (c.in-Ok-None.ensures.put q ∙ ap (λ n. cond (bytes_eq n q) (Some c.args.value) (under q before)) c.as_str.ensures)

pub returns-in-Ok-Some-clause-undone : goal.returns-in-Ok-Some-clause-undone
returns-in-Ok-Some-clause-undone g c = λ q.
    let before = c.args.self.now in
    let between = c.put.new.self in
    let after = c.put_back.new.self in
    ap (λ (names : List (Bor (List ℕ))). without q names (under q after))
    (popped c.args.added.now.items c.pop.new.self.items c.args.name c.pop.result (sym c.in_ok-push.ensures.items ∙ c.pop.ensures.items) (c.pop.ensures.variant.1 (omega (arith, c.in_ok-push.ensures.len))))
    ∙ ap (without q c.args.added.now.items)
    (put_back (λ p. under p before) (λ p. under p between) (λ p. under p after) c.args.name.now q c.args.value c.in-Ok-Some.old
    (sym c.in-Ok-Some.field-0-is ∙ c.in-Ok-Some.ensures.old ∙ ap (λ n. under n before) c.as_str.ensures)
    (c.in-Ok-Some.ensures.put q ∙ ap (λ n. cond (bytes_eq n q) (Some c.args.value) (under q before)) c.as_str.ensures)
    (c.put_back.ensures q ∙ ap (λ n. cond (bytes_eq n q) (Some c.in-Ok-Some.old) (under q between)) c.as_str-in-Ok-Some.ensures))
