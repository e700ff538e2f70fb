use Rattle.std.proofs.Common.{◌≡◌, ℕ, List, take}
use Rattle.std.specs.List.{position}
use Rattle.std.specs.Str.{bytes_eq}
use Rattle.pbx_json_schema.specs.Places.{place_under}
use Rattle.pbx_json_schema.proofs.type_names.type_places.Given as goal

abbrev pub invariant-loop-place : goal.invariant-loop-place
invariant-loop-place l = (q : List ℕ) → place_under q l.places ≡ position (λ m. bytes_eq m.full_name q) (take l.place l.messages)
