-- What the parts of reading a pool answer.
use Rattle.std.specs.Prelude.{◌≡◌, ◌⊎◌, ℕ, List, []}
use Rattle.std.specs.List.{concat}
use Rattle.pbx_link.specs.Bytes.{IsSetRefused}
use Rattle.pbx_link_definitions.specs.declared.error.DescriptorError.{DescriptorError}
use Rattle.pbx_link_definitions.specs.declared.error.DescriptorError.TheVariants.{Rule, Decode, NoMemory as OutOfMemory}
use Rattle.protox_sets.specs.Sets.{NotASet, Unlinked, set_line, unread_line}
use Rattle.protox_sets.specs.declared.stop.Stop.{Stop}
use Rattle.protox_sets.specs.declared.stop.Stop.TheVariants.{Usage, Refused, Broken, NoMemory}

-- a refusal with this line, or want of memory for it
abbrev pub IsRefusedAs : List ℕ → Stop → Type 0
IsRefusedAs line stop = (stop ≡ NoMemory) ⊎ (stop ≡ Refused line)

-- the set at the path cannot be read, or want of memory for the line
abbrev pub IsBrokenAs : List ℕ → Stop → Type 0
IsBrokenAs path stop = (stop ≡ NoMemory) ⊎ (stop ≡ Broken (unread_line path))

-- the line tells the error of a set
abbrev pub IsSetLine : List ℕ → DescriptorError → List ℕ → Type 0
IsSetLine path (Rule file place rule) line = line ≡ concat (set_line path (Unlinked (Rule file place rule)))
IsSetLine path (Decode fault) line = line ≡ concat (set_line path NotASet)
IsSetLine path OutOfMemory line = ⊥

-- no pool is read from these bytes
abbrev pub IsPoolStop : List ℕ → List ℕ → Stop → Type 0
IsPoolStop path bytes Usage = ⊥
IsPoolStop path bytes (Refused line) = (e : DescriptorError) × IsSetRefused [] bytes e × IsSetLine path e line
IsPoolStop path bytes (Broken line) = ⊥
IsPoolStop path bytes NoMemory = Unit {0}
