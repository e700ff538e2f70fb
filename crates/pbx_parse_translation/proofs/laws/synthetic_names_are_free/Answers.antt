use Rattle.std.specs.List.{flat_map}
use Rattle.pbx_parse_translation.specs.Messages.{body_items, scope_names, optional_names_in}
use Rattle.pbx_parse_translation.proofs.Own.{are_free, are_apart, fewer_taken}
use Rattle.pbx_parse_translation.proofs.laws.synthetic_names_are_free.Goals as goal

pub returns : goal.returns
returns c = record {
  free = λ v b. are_free (scope_names (body_items b)) (flat_map (optional_names_in v) (body_items b));
  apart = λ v b. are_apart (scope_names (body_items b)) (flat_map (optional_names_in v) (body_items b));
  fewest = fewer_taken;
}
