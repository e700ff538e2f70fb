-- What bytes tell that are read from a path.
use Rattle.std.proofs.Common.{◌≡◌, ◌≤◌, ℕ, nat_lt, List, Bool, true, false, Option, Some, None, Result, Ok, Err, IfOk, IfSome, length, inl, inr, refl, sym, ap, ◌∙◌, subst, arith}
use Rattle.std.specs.Bool.{if◌then◌else◌}
use Rattle.std.specs.Str.{IsUtf8, is_utf8}
use Rattle.std.proofs.lemmas.Bool.Decides.{nat_tests}
use Rattle.std.proofs.lemmas.Str.{is_utf8-from_IsUtf8, IsUtf8-from_is_utf8}
use Rattle.protox_io.specs.Disk.{Stored}
use Rattle.protox_file_error.specs.declared.error.ErrorKind.{ErrorKind}
use Rattle.protox_file_error.specs.declared.error.ErrorKind.TheVariants.{FileInvalidUtf8}
use Rattle.protox_file_sources.specs.Causes.{IsTold, IsToldRefusal}
use Rattle.protox_file_error.specs.Errors.{UnlessMemory}
use Rattle.protox_io.specs.FileNames.{name_of}
use Rattle.protox_file_sources.specs.Told.{Entry, Told, Source, TooLarge, NotText, largest_source, told_bytes, told_held}
use Rattle.protox_io.proofs.Again.{name_again}

small : (bytes : List ℕ) → length bytes ≤ 2147483647 → nat_lt largest_source (length bytes) ≡ false
small bytes few = grind (arith, nat_tests)

held : (bytes : List ℕ) (path : Option (List ℕ)) (text : Bool) → length bytes ≤ 2147483647 → is_utf8 bytes ≡ text → told_held (Stored bytes) path ≡ (if text then Source bytes path else NotText)
held bytes path text few is =
    ap (λ b. if b then TooLarge else told_bytes bytes path) (small bytes few) ∙ ap (λ b. if b then Source bytes path else NotText) is

apart : (b : Bool) → ¬ (b ≡ true) → b ≡ false
apart true n = absurd (n refl)
apart false n = refl

pub told_text : (name bytes source : List ℕ) (path : Option (List ℕ)) (answer : Result Entry ErrorKind) → length bytes ≤ 2147483647 → source ≡ bytes → IsUtf8 bytes → IsTold name (Source source path) answer → IsTold name (told_held (Stored bytes) path) answer
told_text name bytes source path answer few is text told =
    let P : List ℕ → Type 0 = λ s. IsTold name (Source s path) answer in
    let Q : Told → Type 0 = λ t. IsTold name t answer in
    subst Q (sym (held bytes path true few (is_utf8-from_IsUtf8 bytes text))) (subst P is told)

refused : (name : List ℕ) (kind : ErrorKind) → UnlessMemory (FileInvalidUtf8 name) kind → IsToldRefusal name NotText kind
refused name kind (inl e) = let P : ErrorKind → Type 0 = λ k. IsToldRefusal name NotText k in subst P (sym e) refl
refused name kind (inr e) = let P : ErrorKind → Type 0 = λ k. IsToldRefusal name NotText k in subst P (sym e) tt

pub told_no_text : (name bytes : List ℕ) (path : Option (List ℕ)) (kind : ErrorKind) → length bytes ≤ 2147483647 → ¬ (IsUtf8 bytes) → UnlessMemory (FileInvalidUtf8 name) kind → IsToldRefusal name (told_held (Stored bytes) path) kind
told_no_text name bytes path kind few broken h =
    let Q : Told → Type 0 = λ t. IsToldRefusal name t kind in
    subst Q (sym (held bytes path false few (apart (is_utf8 bytes) (λ e. broken (IsUtf8-from_is_utf8 bytes e))))) (refused name kind h)

-- the name of some path names itself
pub named_again : {E : Type 0} (path : List ℕ) (answer : Result (Option (List ℕ)) E) → IfOk answer (λ name. name ≡ name_of path) → IfOk answer (λ name. IfSome name (λ n. name_of n ≡ Some n))
named_again path (Err e) h = tt
named_again path (Ok None) h = tt
named_again path (Ok (Some n)) h = name_again path n (sym h)
