use Rattle.std.proofs.Common.{◌≡◌, ℕ, List, take}
use Rattle.std.specs.BTreeMap.{get_by_text}
use Rattle.pbx_json_check_names.specs.Uses.{named_by}
use Rattle.pbx_json_check_names.proofs.uses.add_names.Given as goal

abbrev pub invariant-loop-field : goal.invariant-loop-field
invariant-loop-field l = (q : List ℕ) → get_by_text l.uses q ≡ named_by q (take l.field-index l.fields) (get_by_text l.fn.uses q)
