-- The private index of a schema: of each type the fields' numbers with their places in declared order, by ascending number.
use Rattle.std.specs.Prelude.{ℕ, ◌+◌, List, [], ◌∷◌, Bool, true, ◌&&◌, nat_lt, IsTrue}
use Rattle.std.specs.List.{list_all}
use Rattle.std.specs.List.Sorted.{IsPermutation}
use Rattle.pbx_wire.specs.Text.{is_record_number}
use Rattle.pbx_content.specs.declared.shape.FieldShape.{FieldShape}
use Rattle.pbx_content.specs.declared.shape.MessageShape.{MessageShape}
use Rattle.pbx_content.specs.Sound.{has_good_keys}

-- the number and the place of each field, of which the first has the place `at`
abbrev pub numbered : ℕ → List FieldShape → List (ℕ × ℕ)
numbered at [] = []
numbered at (f ∷ fs) = (f.number, at) ∷ numbered (at + 1) fs

-- the numbers ascend, and n is below the first
abbrev pub ascend : ℕ → List (ℕ × ℕ) → Bool
ascend n [] = true
ascend n (e ∷ es) = nat_lt n e.0 && ascend e.0 es

-- each number and key kind is one that may be
abbrev pub are_good : List FieldShape → Bool
are_good fs = list_all (λ f. is_record_number f.number && has_good_keys f.cardinality) fs

-- the entries of the fields, by ascending number
pub record IsIndexOf (fs : List FieldShape) (entries : List (ℕ × ℕ)) : Type 0 where
  pub ascending : IsTrue (ascend 0 entries)
  pub moved : IsPermutation (numbered 0 fs) entries

-- each type has the index of its fields
abbrev pub AreIndexed : List MessageShape → List (List (ℕ × ℕ)) → Type 0
AreIndexed [] [] = Unit {0}
AreIndexed [] (es ∷ ess) = ⊥
AreIndexed (m ∷ ms) [] = ⊥
AreIndexed (m ∷ ms) (es ∷ ess) = IsIndexOf m.fields es × AreIndexed ms ess
