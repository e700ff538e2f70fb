use Rattle.std.proofs.Common.{◌≢◌, ◌<◌, ℕ, length, get_or, Some, None, arith, rules}
use Rattle.std.proofs.lemmas.Str.Pattern.{split_parts}
use Rattle.pbx_link_names.specs.declared.package_names.Missing.{Missing}
use Rattle.pbx_link_names.proofs.Added.{adding_first, adding_part, adding_end, adding_refused}
use Rattle.pbx_link_names.proofs.package_names.PackageNames.add_parts.Goals as goal

pub loop-part-init : goal.loop-part-init
loop-part-init c = (c.utf8.parts, adding_first (record { node = c.args.node; parts = record { ref_ptr = (0, 0); now = c.args.parts.now } }) c.args.self.now)

pub loop-part-preserved : goal.loop-part-preserved
loop-part-preserved c =
    let cut = split_parts 46 c.loop-part.rest.now (Some (c.in-Some.part, c.in-Some.behind)) c.in-Some.ensures.cases (omega arith) in (
      search rules,
      adding_part (record { node = c.args.node; parts = record { ref_ptr = (0, 0); now = c.args.parts.now } }) c.args.self.now c.loop-part.self c.add_child.new.self c.loop-part.below c.in_ok-below.below
          c.loop-part.rest.now c.in-Some.part.now c.in-Some.behind.now c.loop-part.invariant.1 cut.0 cut.1 c.in_ok-below.ensures.added,
    )

pub returns-clause-added : goal.returns-clause-added
returns-clause-added c =
    (adding_end (record { node = c.args.node; parts = record { ref_ptr = (0, 0); now = c.args.parts.now } }) c.args.self.now c.loop-part.self c.add_child-2.new.self c.loop-part.below c.in_ok-add_child.field-0
    c.loop-part.rest.now c.loop-part.invariant.1 (split_parts 46 c.loop-part.rest.now None c.in_default.ensures.cases (omega arith)) c.in_ok-add_child.ensures.added).0

pub returns-clause-sound : goal.returns-clause-sound
returns-clause-sound c =
    (adding_end (record { node = c.args.node; parts = record { ref_ptr = (0, 0); now = c.args.parts.now } }) c.args.self.now c.loop-part.self c.add_child-2.new.self c.loop-part.below c.in_ok-add_child.field-0
    c.loop-part.rest.now c.loop-part.invariant.1 (split_parts 46 c.loop-part.rest.now None c.in_default.ensures.cases (omega arith)) c.in_ok-add_child.ensures.added).1

pub returns-clause-alike : goal.returns-clause-alike
returns-clause-alike c =
    (adding_end (record { node = c.args.node; parts = record { ref_ptr = (0, 0); now = c.args.parts.now } }) c.args.self.now c.loop-part.self c.add_child-2.new.self c.loop-part.below c.in_ok-add_child.field-0
    c.loop-part.rest.now c.loop-part.invariant.1 (split_parts 46 c.loop-part.rest.now None c.in_default.ensures.cases (omega arith)) c.in_ok-add_child.ensures.added).2
