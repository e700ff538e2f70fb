use Rattle.std.proofs.Common.{◌∙◌, ap, sym}
use Rattle.pbx_link_definitions.specs.Names.{outward}
use Rattle.pbx_link_scope.specs.Scope.{type_named, first_type as first_type_of}
use Rattle.pbx_link_scope.proofs.Outward.{outer_shorter}
use Rattle.pbx_link_scope.proofs.Found.{filled, root, first_on, first_here, first_root}
use Rattle.pbx_link_scope.proofs.binding.first_type.Goals as goal

pub returns-in-Some : goal.returns-in-Some
returns-in-Some g c =
    let files = g.V.Visible.files c.args.seen.now in
    first_here files c.args.name.now c.loop-current.current.now c.in-Some.found (filled c.loop-current.current.now c.loop-current-test.ensures)
    (c.in-Some.ensures ∙ ap (type_named files) (c.as_str.ensures ∙ c.in_ok-full.ensures)) ∙ c.loop-current.invariant.1

pub loop-current-smaller : goal.loop-current-smaller
loop-current-smaller g c = rw c.outer-current.ensures (outer_shorter c.loop-current.current.now (filled c.loop-current.current.now c.loop-current-test.ensures))

pub loop-current-preserved : goal.loop-current-preserved
loop-current-preserved g c =
    let files = g.V.Visible.files c.args.seen.now in (
      c.outer-current.utf8,
      ap (λ s. first_type_of files c.args.name.now (outward s)) c.outer-current.ensures
          ∙ first_on files c.args.name.now c.loop-current.current.now (filled c.loop-current.current.now c.loop-current-test.ensures)
          (c.in_default.ensures ∙ ap (type_named files) (c.as_str.ensures ∙ c.in_ok-full.ensures)) ∙ c.loop-current.invariant.1,
    )

pub returns : goal.returns
returns g c =
    let files = g.V.Visible.files c.args.seen.now in
    c.type_named-2.ensures ∙ first_root files c.args.name.now
    ∙ ap (λ s. first_type_of files c.args.name.now (outward s)) (sym (root c.loop-current.current.now c.loop-current-test.ensures)) ∙ c.loop-current.invariant.1
