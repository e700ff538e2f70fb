use Rattle.std.proofs.Common.{◌∙◌, Some, None, ap, sym, arith, rules}
use Rattle.std.specs.Prelude.{not}
use Rattle.std.proofs.lemmas.Str.Pattern.{split_parts}
use Rattle.pbx_link_definitions.specs.Names.{first_part as first_of}
use Rattle.pbx_link_names.specs.Packages.{child_of}
use Rattle.pbx_link_names.proofs.Starts.{cut_first, whole_first}
use Rattle.pbx_link_names.proofs.Added.{behind_first, behind_more, is_missing, is_whole, no_node, some_node}
use Rattle.pbx_link_names.proofs.package_names.PackageNames.missing.Goals as goal

pub loop-part-init : goal.loop-part-init
loop-part-init c = (c.utf8.name, behind_first c.args.self.now c.args.name.now)

pub returns-in_default-child : goal.returns-in_default-child
returns-in_default-child c =
    let cut = split_parts 46 c.loop-part.parts.now (Some (c.in-Some.part, c.in-Some.behind)) c.in-Some.ensures.cases (omega arith) in
    is_missing c.args.self.now c.args.name.now (record { node = c.loop-part.node; parts = c.loop-part.parts }) c.loop-part.invariant.1
    (c.in_default-child.ensures ∙ ap (child_of c.args.self.now c.loop-part.node) (cut_first c.in-Some.part.now c.in-Some.behind.now cut.1 ∙ ap first_of (sym cut.0)))

pub loop-part-preserved : goal.loop-part-preserved
loop-part-preserved c =
    let cut = split_parts 46 c.loop-part.parts.now (Some (c.in-Some.part, c.in-Some.behind)) c.in-Some.ensures.cases (omega arith) in (
      search rules,
      behind_more c.args.self.now c.args.name.now c.loop-part.node c.in-Some-child.child c.loop-part.parts.now c.in-Some.part.now c.in-Some.behind.now c.loop-part.invariant.1 cut.0 cut.1 c.in-Some-child.ensures,
    )

pub returns-then-is_none : goal.returns-then-is_none
returns-then-is_none c =
    let whole = split_parts 46 c.loop-part.parts.now None c.in_default.ensures.cases (omega arith) in
    is_missing c.args.self.now c.args.name.now (record { node = c.loop-part.node; parts = c.loop-part.parts }) c.loop-part.invariant.1
    (no_node c.child-2.result (c.is_none.ensures ∙ ap not c.if-is_none.true) ∙ c.child-2.ensures ∙ ap (child_of c.args.self.now c.loop-part.node) (whole_first c.loop-part.parts.now whole))

pub returns : goal.returns
returns c =
    let whole = split_parts 46 c.loop-part.parts.now None c.in_default.ensures.cases (omega arith) in
    let some = some_node c.child-2.result (c.is_none.ensures ∙ ap not c.if-is_none.false) in
    is_whole c.args.self.now c.args.name.now c.loop-part.node some.0 c.loop-part.parts.now c.loop-part.invariant.1 whole (some.1 ∙ c.child-2.ensures)
