-- From the bytes of a set to what is said of the disk.
use Rattle.std.proofs.Common.{◌≡◌, [], ℕ, List, Result, Ok, Err, IfErr}
use Rattle.pbx_link.specs.Bytes.{IsSetRefused}
use Rattle.pbx_link_definitions.specs.declared.error.DescriptorError.{DescriptorError}
use Rattle.pbx_link_definitions.specs.declared.error.DescriptorError.TheVariants.{Rule, Decode, NoMemory as OutOfMemory}
use Rattle.protox_io.specs.Disk.{Volume, Stored}
use Rattle.protox_sets.specs.Sets.{held_at, NotASet, Unlinked}
use Rattle.protox_sets.specs.Stops.{IsSetStop}
use Rattle.protox_sets.specs.Parts.{IsPoolStop, IsSetLine}
use Rattle.protox_sets.specs.declared.stop.Stop.{Stop}
use Rattle.protox_sets.specs.declared.stop.Stop.TheVariants.{Usage, Refused, Broken, NoMemory}

pub pool_stop : (disk : Volume) (path bytes : List ℕ) (stop : Stop) → held_at disk path ≡ Stored bytes → IsPoolStop path bytes stop → IsSetStop disk path stop
pool_stop disk path bytes Usage held h = h
pool_stop disk path bytes (Broken line) held h = absurd h
pool_stop disk path bytes NoMemory held h = tt
pool_stop disk path bytes (Refused line) held (e, why, told) = by e why told
  where
    by : (e : DescriptorError) → IsSetRefused [] bytes e → IsSetLine path e line → IsSetStop disk path (Refused line)
    by (Rule file place rule) why told = (Unlinked (Rule file place rule), (((bytes, held, why)), tt), told)
    by (Decode fault) why told = (NotASet, (Decode fault, (bytes, held, why), tt), told)
    by OutOfMemory why told = absurd told

pub pool_stops : {T : Type 0} (disk : Volume) (path bytes : List ℕ) (r : Result T Stop) → held_at disk path ≡ Stored bytes → IfErr r (IsPoolStop path bytes)
    → IfErr r (IsSetStop disk path)
pool_stops disk path bytes (Ok x) held h = tt
pool_stops disk path bytes (Err stop) held h = pool_stop disk path bytes stop held h
