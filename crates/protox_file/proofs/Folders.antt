-- A folder that speaks for its disk's folders, and the built-in files behind them.
use Rattle.std.proofs.Common.{◌≡◌, ◌∙◌, ℕ, ◌<◌, ◌+◌, List, [], ◌∷◌, Bool, true, false, IsTrue, Option, Some, None}
use Rattle.std.proofs.Common.{IfOk, IfErr, Result, length, get_or, map, refl, sym, subst}
use Rattle.std.specs.Option.{option_or}
use Rattle.std.proofs.lemmas.List.{length-map}
use Rattle.pbx_desc_records.specs.declared.file.FileDescriptorProto.{FileDescriptorProto as Record}
use Rattle.protox_io.specs.Count.{Count, Rose, Later}
use Rattle.protox_io.specs.Disk.{Volume}
use Rattle.protox_io.proofs.Counts.{rose_later}
use Rattle.protox_file_error.specs.declared.error.ErrorKind.{ErrorKind}
use Rattle.protox_file_sources.specs.Causes.{HasCause, IsTold}
use Rattle.protox_file_sources.specs.Library.{Library, below, pooled, never}
use Rattle.protox_file_sources.specs.Told.{Entry, Told, Absent, Recorded, Source, TooLarge, NotText}
use Rattle.protox_file.specs.Chained.{or_told, first_told, first_resolved, chained, is_missing}
use Rattle.protox_file.specs.Standard.{standard}
use Rattle.protox_file.proofs.Joined.{told_joined, resolved_joined}
use Rattle.protox_file.proofs.Members.{ArePassed, told_here, told_after, told_first, told_none, mapped_at, may_fail_at, may_fail_first, result_cause}

module _ (now start : Volume) (folders : List (List ℕ)) (i : ℕ) (folder name : List ℕ) (result : Result Entry ErrorKind)
    (keeps : now ≡ start) (fits : i < length folders) (is : folder ≡ get_or folders i folder) where
  mine : (IsTrue now.tells → IsTold name ((below now folder).files name) result) → IsTrue start.tells
      → IsTold name ((get_or (map (below start) folders) i (chained [])).files name) result
  mine told tells = rw (mapped_at (below start) folders i folder (chained []) fits is, ← keeps) (told (rw keeps tells))

  pub folder_here : (IsTrue start.tells → ArePassed (map (below start) folders) i name)
      → (IsTrue now.tells → IsTold name ((below now folder).files name) result)
      → is_missing result ≡ false → IsTrue start.tells → IsTold name (first_told (map (below start) folders) name) result
  folder_here passed told m tells = rw (passed tells) (told_here (map (below start) folders) i name result (rw length-map fits) m (mine told tells))

  pub folder_next : (IsTrue start.tells → ArePassed (map (below start) folders) i name)
      → (IsTrue now.tells → IsTold name ((below now folder).files name) result)
      → is_missing result ≡ true → IsTrue start.tells → ArePassed (map (below start) folders) (i + 1) name
  folder_next passed told m tells = passed tells ∙ told_after (map (below start) folders) i name result (rw length-map fits) m (mine told tells)

  pub folder_cause : (a b c : Count) → Later a b → IfErr result (HasCause (below now folder).may_fail name (Rose b c))
      → IfErr result (HasCause (chained (map (below start) folders)).may_fail name (Rose a c))
  folder_cause a b c h k =
      result_cause (below now folder).may_fail (chained (map (below start) folders)).may_fail name result (rose_later a b c h)
      (λ kind f. may_fail_at (below start) folders i folder fits is name kind f) k

or_nothing : (a : Told) → or_told a Absent ≡ a
or_nothing Absent = refl
or_nothing (Recorded entry) = refl
or_nothing (Source source path) = refl
or_nothing TooLarge = refl
or_nothing NotText = refl

or_none : (a : Option (List ℕ)) → option_or a None ≡ a
or_none None = refl
or_none (Some name) = refl

-- where the folders find no file, the second speaks
second : (a b : Told) (name : List ℕ) (result next : Result Entry ErrorKind) → is_missing result ≡ true → IsTold name a result
    → IsTold name b next → IsTold name (or_told a b) next
second a b name result next m t k = rw (told_none a name result m t) k

module _ (built_in : List Record) (disk : Volume) (folders : List (List ℕ)) (name : List ℕ) (result : Result Entry ErrorKind) where
  abbrev folders_of : List Library
  folders_of = map (below disk) folders

  pub standard_here : is_missing result ≡ false → (IsTrue disk.tells → IsTold name (first_told folders_of name) result)
      → IsTrue disk.tells → IsTold name ((standard built_in disk folders).files name) result
  standard_here m t tells =
      rw (told_joined folders_of (pooled built_in ∷ []) name)
      (told_first (first_told folders_of name) (first_told (pooled built_in ∷ []) name) name result m (t tells))

  pub standard_next : (next : Result Entry ErrorKind) → is_missing result ≡ true → (IsTrue disk.tells → IsTold name (first_told folders_of name) result)
      → IsTold name ((pooled built_in).files name) next → IsTrue disk.tells → IsTold name ((standard built_in disk folders).files name) next
  standard_next next m t k tells =
      rw (told_joined folders_of (pooled built_in ∷ []) name, or_nothing ((pooled built_in).files name))
      (second (first_told folders_of name) ((pooled built_in).files name) name result next m (t tells) k)

  pub standard_cause : (rose : Type 0) → IfErr result (HasCause (chained folders_of).may_fail name rose)
      → IfErr result (HasCause (standard built_in disk folders).may_fail name rose)
  standard_cause rose k =
      result_cause (chained folders_of).may_fail (standard built_in disk folders).may_fail name result (λ r. r)
      (may_fail_first folders_of (pooled built_in ∷ []) name) k

-- the built-in files have no fault
pub no_fault : (may_fail : List ℕ → ErrorKind → Bool) (P Q : Type 0) (name : List ℕ) (result : Result Entry ErrorKind) → (P → Q)
    → IfErr result (HasCause never name P) → IfErr result (HasCause may_fail name Q)
no_fault may_fail P Q name result k h = result_cause never may_fail name result k (λ kind f. Prim.cc) h

-- the built-in files resolve no path
standard_resolves : (built_in : List Record) (disk : Volume) (folders : List (List ℕ)) (path : List ℕ)
    → (standard built_in disk folders).resolves path ≡ first_resolved (map (below disk) folders) path
standard_resolves built_in disk folders path =
    resolved_joined (map (below disk) folders) (pooled built_in ∷ []) path ∙ or_none (first_resolved (map (below disk) folders) path)

pub standard_named : {E : Type 0} (built_in : List Record) (disk : Volume) (folders : List (List ℕ)) (path : List ℕ)
    (result : Result (Option (List ℕ)) E)
    → IfOk result (λ name. name ≡ first_resolved (map (below disk) folders) path)
    → IfOk result (λ name. name ≡ (standard built_in disk folders).resolves path)
standard_named built_in disk folders path result h =
    let P : Option (List ℕ) → Type 0 = λ resolved. IfOk result (λ name. name ≡ resolved) in
    subst P (sym (standard_resolves built_in disk folders path)) h
