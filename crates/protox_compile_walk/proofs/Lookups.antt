-- What opening a name looks up.
use Rattle.std.proofs.Common.{◌≡◌, inl, inr, ℕ, List, Bool, true, false, refl, sym, subst}
use Rattle.std.specs.Prelude.{Option, Some}
use Rattle.std.specs.Str.{bytes_eq}
use Rattle.pbx_parse.specs.declared.error.ParseError.TheVariants as parse
use Rattle.protox_io.specs.FileNames.{path_equal}
use Rattle.protox_file_sources.specs.Told.{Entry, Told, NoFile, IsFile, TextFault, Unread, IsFound}
use Rattle.protox_file_sources.specs.Causes.{IsToldRefusal, HasCause}
use Rattle.protox_file_error.specs.declared.error.ErrorKind.{ErrorKind}
use Rattle.protox_file_error.specs.declared.error.ErrorKind.TheVariants.{Parse, OpenFile, FileTooLarge, FileInvalidUtf8, FileNotFound, FileShadowed, Custom, NameMismatch, NoMemory}
use Rattle.protox_compile_walk.specs.Walk.{Open, declared_name}
use Rattle.protox_compile_walk.specs.Refusals.{OrNoMemory, IsOpenOf, StopsOpening}
use Rattle.protox_compile_walk.specs.Resume.{ByLookup}

module _ (name : List ℕ) (told : Told) where
  -- a file was found
  pub opens_by : (entry : Entry) (f : Open) → IsFound name told (IsFile entry) → bytes_eq (declared_name entry) name ≡ true → f ≡ record { name = name; entry = entry; next = 0 } → ByLookup name told (λ lookup. IsOpenOf lookup name f)
  opens_by entry f found declared is =
      let P : Open → Type 0 = λ x. IsOpenOf (IsFile entry) name x in
      (IsFile entry, found, subst P (sym is) (record { lookup_is = refl; declared = declared; name_is = refl; next_is = refl }))

  module _ (asked : Option (List ℕ)) where
    pub stops_memory : ByLookup name told (λ lookup. StopsOpening lookup name asked NoMemory)
    stops_memory = (Unread, tt, tt)

    stops_or : (error other : ErrorKind) → OrNoMemory error other → ByLookup name told (λ lookup. StopsOpening lookup name asked other) → ByLookup name told (λ lookup. StopsOpening lookup name asked error)
    stops_or error other (inl memory) h = let P : ErrorKind → Type 0 = λ e. ByLookup name told (λ lookup. StopsOpening lookup name asked e) in subst P (sym memory) stops_memory
    stops_or error other (inr same) h = let P : ErrorKind → Type 0 = λ e. ByLookup name told (λ lookup. StopsOpening lookup name asked e) in subst P (sym same) h

    -- it declares another name
    pub stops_mismatch : (entry : Entry) (error : ErrorKind) → IsFound name told (IsFile entry) → bytes_eq (declared_name entry) name ≡ false → OrNoMemory error (NameMismatch name (declared_name entry))
        → ByLookup name told (λ lookup. StopsOpening lookup name asked error)
    stops_mismatch entry error found other h =
        stops_or error (NameMismatch name (declared_name entry)) h (IsFile entry, found, (refl, record { entry = entry; lookup_is = refl; other = other; declared_is = refl }))

    -- it has another path
    pub stops_shadowed : (entry : Entry) (path shadow : List ℕ) (error : ErrorKind) → IsFound name told (IsFile entry) → bytes_eq (declared_name entry) name ≡ true → asked ≡ Some path → entry.path ≡ Some shadow → path_equal shadow path ≡ false → OrNoMemory error (FileShadowed name path shadow)
        → ByLookup name told (λ lookup. StopsOpening lookup name asked error)
    stops_shadowed entry path shadow error found declared asked_is path_is other h =
        stops_or error (FileShadowed name path shadow) h (IsFile entry, found, (refl, record { entry = entry; lookup_is = refl; declared = declared; asked_is = asked_is; path_is = path_is; other = other }))

    -- no file was found
    pub stops_refused : (may_fail : List ℕ → ErrorKind → Bool) (rose : Type 0) (error : ErrorKind) → IsToldRefusal name told error → HasCause may_fail name rose error → ByLookup name told (λ lookup. StopsOpening lookup name asked error)
    stops_refused may_fail rose (Parse (parse.Syntax file line column expected found)) t h = (TextFault 1, t, (cc, refl))
    stops_refused may_fail rose (Parse parse.NoMemory) t h = absurd (cc)
    stops_refused may_fail rose (OpenFile n path fault) t h = (Unread, tt, h.0)
    stops_refused may_fail rose (FileTooLarge n) t h = (TextFault 4, t, (h, refl))
    stops_refused may_fail rose (FileInvalidUtf8 n) t h = (TextFault 5, t, (h, refl))
    stops_refused may_fail rose (FileNotFound n) t h = (NoFile, t, (h, refl))
    stops_refused may_fail rose (Custom text is_io) t h = (Unread, tt, tt)
    stops_refused may_fail rose NoMemory t h = (Unread, tt, tt)
    stops_refused may_fail rose _ t h = absurd h
