-- Finished files, and what their names look up to.
use Rattle.std.proofs.Common.{◌≡◌, ◌∷◌, ◌++◌, ◌∙◌, [], ℕ, List, Bool, true, false, refl, sym, ap, subst, map, append_assoc}
use Rattle.std.proofs.Common.{append-nil}
use Rattle.std.specs.Prelude.{◌||◌, if◌then◌else◌, Some}
use Rattle.std.specs.Str.{bytes_eq}
use Rattle.std.proofs.lemmas.List.{map-append}
use Rattle.pbx_desc_records.specs.declared.file.FileDescriptorProto.{FileDescriptorProto}
use Rattle.pbx_link_definitions.specs.Names.{among}
use Rattle.pbx_link_rules.specs.Pool.{IsLinked, ArePooled}
use Rattle.protox_io.specs.FileNames.{escapes}
use Rattle.protox_file_sources.specs.Told.{Entry, Lookup, IsFile}
use Rattle.protox_compile_walk.specs.Walk.{Done, records, imports_of, declared_name, is_done}
use Rattle.protox_compile_walk.specs.Opening.{mark, path_in}

-- ---- files without their marks

abbrev pub plain_one : Done → Done
plain_one d = record d { opened = false }

abbrev pub plain : List Done → List Done
plain done = map plain_one done

pub records_plain : (done : List Done) → records (plain done) ≡ records done
records_plain [] = refl
records_plain (d ∷ ds) = ap (λ fs. d.file ∷ fs) (records_plain ds)

pub is_done_plain : (done : List Done) (name : List ℕ) → is_done (plain done) name ≡ is_done done name
is_done_plain [] name = refl
is_done_plain (d ∷ ds) name = ap (λ b. bytes_eq d.name name || b) (is_done_plain ds name)

pub path_plain : (name : List ℕ) (done : List Done) → path_in name (plain done) ≡ path_in name done
path_plain name [] = refl
path_plain name (d ∷ ds) = ap (λ p. if bytes_eq d.name name then d.path else p) (path_plain name ds)

pub plain_marked : (name : List ℕ) (done : List Done) → plain (mark name done) ≡ plain done
plain_marked name [] = refl
plain_marked name (d ∷ ds) = at (bytes_eq d.name name) (plain_marked name ds)
  where
    at : (b : Bool) → plain (mark name ds) ≡ plain ds → plain (if b then record d { opened = true } ∷ ds else d ∷ mark name ds) ≡ plain (d ∷ ds)
    at true h = refl
    at false h = ap (λ xs. plain_one d ∷ xs) h

-- ---- what a finished file's name looks up to

-- none stands among those before it, none escapes, and each is finished
abbrev pub AreTaken : List Done → List (List ℕ) → List (List ℕ) → Type 0
AreTaken before seen [] = Unit {0}
AreTaken before seen (m ∷ ms) = (among seen m ≡ false) × (escapes m ≡ false) × (is_done before m ≡ true) × AreTaken before (seen ++ m ∷ []) ms

-- a new file behind others is what its name looks up to, linked among them; they have its imports
pub record Settles (lookups : List ℕ → Lookup) (before : List Done) (d : Done) : Type 0 where
  pub entry : Entry
  pub lookup_is : lookups d.name ≡ IsFile entry
  pub declared : bytes_eq (declared_name entry) d.name ≡ true
  pub path_is : d.path ≡ entry.path
  pub imported : d.opened ≡ false
  pub linked : IsLinked (records before) entry.file d.file
  pub taken : AreTaken before [] (imports_of entry)
  pub new : is_done before d.name ≡ false
  pub named : d.file.name ≡ Some d.name

abbrev pub AllSettle : (List ℕ → Lookup) → List Done → List Done → Type 0
AllSettle lookups before [] = Unit {0}
AllSettle lookups before (d ∷ ds) = Settles lookups before d × AllSettle lookups (before ++ d ∷ []) ds

taken_alike : (some others : List Done) → ((n : List ℕ) → is_done some n ≡ is_done others n) → (seen ms : List (List ℕ)) → AreTaken some seen ms
    → AreTaken others seen ms
taken_alike some others same seen [] h = tt
taken_alike some others same seen (m ∷ ms) h = (h.0, h.1, sym (same m) ∙ h.2, taken_alike some others same (seen ++ m ∷ []) ms h.3)

settles_plain : (lookups : List ℕ → Lookup) (before : List Done) (d : Done) → Settles lookups before d → Settles lookups (plain before) (plain_one d)
settles_plain lookups before d s = record {
  entry = s.entry;
  lookup_is = s.lookup_is;
  declared = s.declared;
  path_is = s.path_is;
  imported = refl;
  linked = subst (λ (fs : List FileDescriptorProto). IsLinked fs s.entry.file d.file) (sym (records_plain before)) s.linked;
  taken = taken_alike before (plain before) (λ n. sym (is_done_plain before n)) [] (imports_of s.entry) s.taken;
  new = is_done_plain before d.name ∙ s.new;
  named = s.named;
}

pub all_plain : (lookups : List ℕ → Lookup) (before ds : List Done) → AllSettle lookups before ds → AllSettle lookups (plain before) (plain ds)
all_plain lookups before [] h = tt
all_plain lookups before (d ∷ ds) h = (
  settles_plain lookups before d h.0,
  subst (λ (b : List Done). AllSettle lookups b (plain ds)) (map-append plain_one before (d ∷ [])) (all_plain lookups (before ++ d ∷ []) ds h.1),
)

pub all_joined : (lookups : List ℕ → Lookup) (before xs ys : List Done) → AllSettle lookups before xs → AllSettle lookups (before ++ xs) ys
    → AllSettle lookups before (xs ++ ys)
all_joined lookups before [] ys h g = subst (λ (b : List Done). AllSettle lookups b ys) (append-nil before) g
all_joined lookups before (x ∷ xs) ys h g = (
  h.0,
  all_joined lookups (before ++ x ∷ []) xs ys h.1 (subst (λ (b : List Done). AllSettle lookups b ys) (sym (append_assoc before (x ∷ []) xs)) g),
)

-- one of them, behind those before it
pub one_settles : (lookups : List ℕ → Lookup) (before b a : List Done) (d : Done) → AllSettle lookups before (b ++ d ∷ a)
    → Settles lookups (before ++ b) d
one_settles lookups before [] a d h = subst (λ (l : List Done). Settles lookups l d) (sym (append-nil before)) h.0
one_settles lookups before (x ∷ b) a d h =
    subst (λ (l : List Done). Settles lookups l d) (append_assoc before (x ∷ []) b) (one_settles lookups (before ++ x ∷ []) b a d h.1)

pub all_pooled : (lookups : List ℕ → Lookup) (before ds : List Done) → AllSettle lookups before ds → ArePooled (records before) (records ds)
unfolding ArePooled
all_pooled lookups before [] h = tt
all_pooled lookups before (d ∷ ds) h = (
  (h.0.entry.file, h.0.linked),
  subst (λ (fs : List FileDescriptorProto). ArePooled fs (records ds)) (map-append (λ (x : Done). x.file) before (d ∷ []))
      (all_pooled lookups (before ++ d ∷ []) ds h.1),
)
