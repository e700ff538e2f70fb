use Rattle.std.proofs.Common.{◌≡◌, ℕ, List, take}
use Rattle.std.specs.Prelude.{find}
use Rattle.std.specs.Option.{option_or}
use Rattle.pbx_json_schema.specs.Index.{item_under, is_named}
use Rattle.pbx_json_schema.proofs.field_names.add_all.Given as goal

abbrev pub invariant-loop-place : goal.invariant-loop-place
invariant-loop-place l = (q : List ℕ) → item_under l.fields l.places q ≡ option_or (item_under l.fields l.initial.places q) (find (is_named l.sort q) (take l.place l.fields))
