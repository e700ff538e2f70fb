-- Where the parts of each file begin among those of all files.
use Rattle.std.specs.Prelude.{◌≡◌, ℕ, ◌+◌, List, [], ◌∷◌, map, length}
use Rattle.pbx_desc_records.specs.declared.file.FileDescriptorProto.{FileDescriptorProto}
use Rattle.pbx_link_shapes.specs.declared.starts.Starts.{Starts}

-- sums of the numbers before each, from a first on
unfoldable pub starts_from : ℕ → List ℕ → List ℕ
starts_from start [] = []
starts_from start (n ∷ ns) = start ∷ starts_from (start + n) ns

-- the sum
unfoldable pub total : List ℕ → ℕ
total [] = 0
total (n ∷ ns) = n + total ns

-- how many parts each file has
abbrev pub counts : {X : Type 0} → (FileDescriptorProto → List X) → List FileDescriptorProto → List ℕ
counts tell files = map (λ f. length (tell f)) files

-- these are the sums before each number, and the sum of all
pub record AreStarts (ns : List ℕ) (s : Starts) : Type 0 where
  pub starts : s.starts ≡ starts_from 0 ns
  pub count : s.count ≡ total ns
