use Rattle.std.proofs.Common.{◌∙◌, ap, sym}
use Rattle.pbx_link_definitions.specs.Names.{qualified, outward}
use Rattle.pbx_link_scope.specs.Scope.{type_named, is_scope_name, type_in_first as type_in_first_of}
use Rattle.pbx_link_scope.proofs.Outward.{outer_shorter}
use Rattle.pbx_link_scope.proofs.Found.{filled, root, decided_on, decided_here, decided_root, undecided}
use Rattle.pbx_link_scope.proofs.binding.type_in_first.Goals as goal

pub returns-then-is_scope_name : goal.returns-then-is_scope_name
returns-then-is_scope_name g c =
    let files = g.V.Visible.files c.args.seen.now in
    c.type_named.ensures ∙ ap (type_named files) (c.as_str-then-is_scope_name.ensures ∙ c.in_ok-full.ensures)
    ∙ decided_here files c.args.name.now c.loop-current.current.now (filled c.loop-current.current.now c.loop-current-test.ensures)
    (c.if-is_scope_name.ensures ∙ ap (is_scope_name files) (c.as_str.ensures ∙ c.in_ok-owner.ensures ∙ ap (qualified c.loop-current.current.now) c.requires)) ∙ c.loop-current.invariant.1

pub loop-current-smaller : goal.loop-current-smaller
loop-current-smaller g c = rw c.outer-current.ensures (outer_shorter c.loop-current.current.now (filled c.loop-current.current.now c.loop-current-test.ensures))

pub loop-current-preserved : goal.loop-current-preserved
loop-current-preserved g c =
    let files = g.V.Visible.files c.args.seen.now in (
      c.outer-current.utf8,
      ap (λ s. type_in_first_of files c.args.name.now (outward s)) c.outer-current.ensures
          ∙ decided_on files c.args.name.now c.loop-current.current.now (filled c.loop-current.current.now c.loop-current-test.ensures)
          (c.if-is_scope_name.ensures ∙ ap (is_scope_name files) (c.as_str.ensures ∙ c.in_ok-owner.ensures ∙ ap (qualified c.loop-current.current.now) c.requires)) ∙ c.loop-current.invariant.1,
    )

pub returns-then-is_scope_name-2 : goal.returns-then-is_scope_name-2
returns-then-is_scope_name-2 g c =
    let files = g.V.Visible.files c.args.seen.now in
    c.type_named-then-is_scope_name-2.ensures ∙ decided_root files c.args.name.now (c.if-is_scope_name-2.ensures ∙ ap (is_scope_name files) c.requires)
    ∙ ap (λ s. type_in_first_of files c.args.name.now (outward s)) (sym (root c.loop-current.current.now c.loop-current-test.ensures)) ∙ c.loop-current.invariant.1

pub returns : goal.returns
returns g c =
    let files = g.V.Visible.files c.args.seen.now in
    undecided files c.args.name.now (c.if-is_scope_name-2.ensures ∙ ap (is_scope_name files) c.requires)
    ∙ ap (λ s. type_in_first_of files c.args.name.now (outward s)) (sym (root c.loop-current.current.now c.loop-current-test.ensures)) ∙ c.loop-current.invariant.1
