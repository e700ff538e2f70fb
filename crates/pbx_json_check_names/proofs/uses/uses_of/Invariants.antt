use Rattle.std.proofs.Common.{◌≡◌, ℕ, List, None, take}
use Rattle.std.specs.BTreeMap.{get_by_text}
use Rattle.pbx_json_check_names.specs.Uses.{used_by}
use Rattle.pbx_json_check_names.proofs.uses.uses_of.Given as goal

abbrev pub invariant-loop-field : goal.invariant-loop-field
invariant-loop-field l = (q : List ℕ) → get_by_text l.uses q ≡ used_by q (take l.field-index l.fields) None
