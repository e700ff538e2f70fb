use Rattle.std.proofs.Common.{◌≡◌, ℕ, ◌≤◌, get_or}
use Rattle.pbx_link_rules_record.proofs.Overlaps.{NoneShare, EndBefore}
use Rattle.pbx_link_rules_record.proofs.spans.shared.Given as goal

abbrev pub invariant-loop-span : goal.invariant-loop-span
invariant-loop-span l = record {
  near : (a : ℕ) × (a ≤ l.span-index) × (l.furthest ≡ get_or l.spans a l.furthest);
  ends : EndBefore l.spans l.span-index l.furthest.«end»;
  none : NoneShare l.spans l.span-index;
}
