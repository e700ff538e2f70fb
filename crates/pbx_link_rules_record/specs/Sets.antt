-- Sets of numbers and of names that were seen.
use Rattle.std.specs.Prelude.{ℤ, List, Bool, true, Option, Some, None}
use Rattle.std.specs.List.{list_any}
use Rattle.pbx_link_definitions.specs.Says.{are_equal}
use Rattle.pbx_link_rules_record.specs.declared.number_set.Step.{Step}
use Rattle.pbx_link_rules_record.specs.Spans.{has_step}

-- one of the steps has the number
abbrev pub have_number : List Step → ℤ → Bool
have_number ts z = list_any (has_step z) ts

-- there is a number, and it is one of these
abbrev pub has_key : List ℤ → Option ℤ → Bool
has_key ks number = list_any (λ k. are_equal number (Some k)) ks

-- there is no number, or one of the steps has it
abbrev pub lacks_or_has : List Step → Option ℤ → Bool
lacks_or_has ts None = true
lacks_or_has ts (Some z) = have_number ts z
