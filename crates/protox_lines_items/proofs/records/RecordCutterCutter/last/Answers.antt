use Rattle.std.proofs.Common.{rules, ◌≡◌, ◌<◌, ◌⊎◌, inl, inr, length}
use Rattle.protox_lines_items.proofs.RecordCuts.{ends_with_nothing, ends_cut_off}
use Rattle.protox_lines_items.proofs.records.RecordCutterCutter.last.Goals as goal
use Rattle.protox_lines_items.proofs.records.RecordCutterCutter.last.Goals.{else-self-eq0-via-then-self-eq0+else-is_empty, else-self-eq0-via-else-self-eq0}

pub returns-then-is_empty : goal.returns-then-is_empty
returns-then-is_empty c read items s h =
    let left : c.args.self.now.left ≡ 0 = search rules in
    let none : length c.args.self.now.prefix ≡ 0 = search rules in
    ends_with_nothing c.args.self.now read items s h left none

pub returns-else-self-eq0 : goal.returns-else-self-eq0
returns-else-self-eq0 c read items s h =
    let some : (0 < c.args.self.now.left) ⊎ (0 < length c.args.self.now.prefix) = elim c.else-self-eq0.branch [
      | else-self-eq0-via-then-self-eq0+else-is_empty w ↦ inr (search rules)
      | else-self-eq0-via-else-self-eq0 w ↦ inl (search rules)
    ] in
    ends_cut_off c.args.self.now read items s h some
