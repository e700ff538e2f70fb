use Rattle.std.proofs.Common.{◌∙◌, Some, None, sym, arith}
use Rattle.std.proofs.lemmas.Str.Pattern.{strip_prefix_char}
use Rattle.pbx_link_scope.proofs.Found.{filled, root, unnamed, exact, looked_up}
use Rattle.pbx_link_scope.proofs.binding.bound.Goals as goal

pub returns-then-is_empty : goal.returns-then-is_empty
returns-then-is_empty g c = unnamed (g.V.Visible.files c.args.seen.now) c.args.scope.now c.args.name.now (root c.args.name.now c.if-is_empty.ensures)

pub returns-in-Some : goal.returns-in-Some
returns-in-Some g c =
    c.type_named.ensures
    ∙ exact (g.V.Visible.files c.args.seen.now) c.args.scope.now c.args.name.now c.in-Some.exact.now (strip_prefix_char 46 c.args.name.now (Some c.in-Some.exact) c.in-Some.ensures.cases (omega arith))

pub returns-in-None : goal.returns-in-None
returns-in-None g c =
    rw (sym (looked_up (g.V.Visible.files c.args.seen.now) c.args.scope.now c.args.name.now (filled c.args.name.now c.if-is_empty.ensures)
    (strip_prefix_char 46 c.args.name.now None c.in-None.ensures.cases (omega arith)))) c.type_from.ensures
