-- The order of places in a tree: a place stands before those that lie below it, and otherwise the first step that differs decides, a key by its
-- bytes and an element by its index.
use Rattle.std.specs.Prelude.{◌≡◌, ◌⊎◌, List}
use Rattle.std.specs.declared.cmp.Ordering.{Ordering}
use Rattle.std.specs.declared.cmp.Ordering.TheVariants.{Less, Greater}
use Rattle.std.specs.Ordering.{nat_cmp}
use Rattle.std.specs.Cmp.Lexicographic.{slice_cmp}
use Rattle.pbx_json_meaning.specs.declared.place.Step.{Step}
use Rattle.pbx_json_meaning.specs.declared.place.Step.TheVariants.{Key, Index}

-- keys by their bytes, elements by their indices
abbrev pub step_cmp : Step → Step → Ordering
step_cmp (Key k) (Key l) = slice_cmp nat_cmp k l
step_cmp (Index i) (Index j) = nat_cmp i j
step_cmp (Key k) (Index j) = Less
step_cmp (Index i) (Key l) = Greater

-- step by step, and a place before those below it
abbrev pub place_cmp : List Step → List Step → Ordering
place_cmp p q = slice_cmp step_cmp p q

-- p is q or stands before it
abbrev pub IsUpTo : List Step → List Step → Type 0
IsUpTo p q = (place_cmp p q ≡ Less) ⊎ (p ≡ q)
