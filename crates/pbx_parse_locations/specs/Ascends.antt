-- The order of the locations in a `SourceCodeInfo`.
use Rattle.std.specs.Prelude.{List, map}
use Rattle.std.specs.List.Sorted.{IsStrictlySortedBy}
use Rattle.std.specs.Ordering.{int_cmp}
use Rattle.std.specs.Cmp.Lexicographic.{slice_cmp}
use Rattle.pbx_desc_records.specs.declared.source.Location.{Location}

-- They ascend by path, each path once: the first number in which two paths differ decides, and a path is less than those that begin with it.
abbrev pub Ascends : List Location → Type 0
Ascends ls = IsStrictlySortedBy (slice_cmp int_cmp) (map (λ l. l.path) ls)
