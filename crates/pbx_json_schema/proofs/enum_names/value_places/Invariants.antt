use Rattle.std.proofs.Common.{◌≡◌, ℕ, List, take}
use Rattle.pbx_json_meaning.specs.Scalars.{value_named}
use Rattle.pbx_json_schema.specs.Index.{item_under}
use Rattle.pbx_json_schema.proofs.enum_names.value_places.Given as goal

abbrev pub invariant-loop-place : goal.invariant-loop-place
invariant-loop-place l = (q : List ℕ) → item_under l.values l.places q ≡ value_named q (take l.place l.values)
