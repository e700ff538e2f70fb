-- The visit of a root.
use Rattle.std.proofs.Common.{◌≡◌, ◌+◌, ◌-◌, ◌≤◌, ◌∷◌, ◌++◌, ◌∙◌, [], ℕ, List, Bool, true, false, refl, sym, subst, length, arith}
use Rattle.std.specs.Prelude.{nat_lt, if◌then◌else◌, Option, Some, None}
use Rattle.std.proofs.lemmas.Bool.{lt-ltb, le-ltb}
use Rattle.pbx_link_rules.specs.Breaches.{keeps_rules}
use Rattle.pbx_parse.specs.declared.error.ParseError.TheVariants as parse
use Rattle.protox_file_sources.specs.Told.{Entry, Told, Lookup, NoFile, ByLookups}
use Rattle.protox_file_error.specs.declared.error.ErrorKind.{ErrorKind}
use Rattle.protox_file_error.specs.declared.error.ErrorKind.TheVariants.{Parse, OpenFile, FileTooLarge, FileInvalidUtf8, FileNotFound, FileShadowed, Custom, NameMismatch, FileLimit, NoMemory}
use Rattle.protox_compile_walk.specs.Places.{place_of_import}
use Rattle.protox_compile_walk.specs.Walk.{Done, Fault, Open, Visited, Finished, Missing, Faulted, Unlinked, records, imports_of, done_as, visit_imports, finish, unless_shadowed, visits}
use Rattle.protox_compile_walk.specs.Resume.{resume, go_on, ByLookup, Follows}
use Rattle.protox_compile_walk.specs.Refusals.{Walk, with_lookup, without, Extends, Ends, StopsOpening, IsOpenOf, IsUnshadowed}
use Rattle.protox_compile_walk.proofs.Extends.{visit_extends}
use Rattle.protox_compile_walk.proofs.Resume.{visits_step}
use Rattle.protox_compile_walk.proofs.Right.{nothing, right_nothing, right_found, found_there, absent_there, more_there, closed_found}
use Rattle.protox_compile_walk.proofs.Steps.{was_read}

-- the visit of a root
abbrev pub root_walk : ℕ → Option (List ℕ) → List ℕ → List Done → Walk
root_walk limit asked n done lookups = visits lookups limit [] asked n done

unshadowed : (n : List ℕ) (asked path : Option (List ℕ)) (done : List Done) (v : List Done × Visited) → IsUnshadowed asked path → unless_shadowed n asked path done v ≡ v
unshadowed n None path done v h = refl
unshadowed n (Some asked) None done v h = refl
unshadowed n (Some asked) (Some path) done v h = rw h refl

module _ (limit : ℕ) (asked : Option (List ℕ)) (n : List ℕ) (done : List Done) where
  pub root_limit : (files : List ℕ → Told) → limit ≤ length done → ByLookups files (λ lookups. Ends n (FileLimit limit) (root_walk limit asked n done) lookups done)
  root_limit files h = (nothing, right_nothing files, rw (visits_step, lt-ltb limit (length done + 0 + 1) (omega arith)) refl)

  pub root_extends : (lookups : List ℕ → Lookup) → Extends done (visits lookups limit [] asked n done).0
  root_extends lookups = visit_extends lookups limit (limit - 0) [] asked n done

  module _ (room : length done + 1 ≤ limit) where
    inside : nat_lt limit (length done + 0 + 1) ≡ false
    inside = le-ltb _ _ (omega arith)

    ended : (v : List Done × Option Fault) (entry : Entry) → go_on (finish n entry v) (λ d. (d, Finished)) ≡ finish n entry v
    ended (d, None) entry = by_case (keeps_rules (records d) entry.file)
      where
        by_case : (b : Bool) → go_on (if b then (d ++ done_as d n entry ∷ [], Finished) else (d, Faulted (Unlinked entry.file))) (λ x. (x, Finished)) ≡ (if b then (d ++ done_as d n entry ∷ [], Finished) else (d, Faulted (Unlinked entry.file)))
        by_case true = refl
        by_case false = refl
    ended (d, Some fault) entry = refl

    opens : (lookups : List ℕ → Lookup) (f : Open) → IsOpenOf (lookups n) n f → IsUnshadowed asked f.entry.path → visits lookups limit [] asked n done ≡ resume lookups limit (f ∷ []) done
    unfolding resume
    opens lookups f o u =
        let e : f ≡ record { name = n; entry = f.entry; next = 0 } = rw (← o.name_is, ← o.next_is) refl in
        rw (visits_step, inside, o.lookup_is, o.declared, unshadowed n asked f.entry.path done _ u, e) (sym (ended (visit_imports (λ d m. visits lookups limit (n ∷ []) None m d) (n ∷ []) n (place_of_import f.entry) [] (imports_of f.entry) done) f.entry))

    pub root_follows : (files : List ℕ → Told) (f : Open) → f.name ≡ n → ByLookup n (files n) (λ lookup. IsOpenOf lookup n f) → IsUnshadowed asked f.entry.path → Follows files (root_walk limit asked n done) limit (f ∷ []) done
    root_follows files f named told u =
        let o : IsOpenOf told.0 n f = told.2 in
        record {
          known = with_lookup n told.0 nothing;
          right = right_found files nothing n told.0 told.1 (right_nothing files);
          closed = closed_found nothing f [] done n told.0 named (λ name closed. refl);
          is = λ lookups more. opens lookups f (record { lookup_is = more_there nothing lookups n told.0 (was_read told.0 f.entry o.lookup_is) more ∙ o.lookup_is; declared = o.declared; name_is = o.name_is; next_is = o.next_is }) u;
        }

    missing : (lookups : List ℕ → Lookup) → lookups n ≡ NoFile → visits lookups limit [] asked n done ≡ (done, Missing)
    missing lookups e = rw (visits_step, inside, e) refl

    stops : (lookups : List ℕ → Lookup) (error : ErrorKind) → StopsOpening (lookups n) n asked error → Ends n error (root_walk limit asked n done) lookups done
    stops lookups (Parse (parse.Syntax file line column expected found)) s = rw (visits_step, inside, s.1, s.0) refl
    stops lookups (Parse parse.NoMemory) s = s
    stops lookups (OpenFile file path fault) s = record { front = root_extends lookups; end = Missing; exact = rw s (missing (without n lookups) (absent_there n lookups)); lacking = s }
    stops lookups (FileTooLarge file) s = rw (visits_step, inside, s.1, s.0) refl
    stops lookups (FileInvalidUtf8 file) s = rw (visits_step, inside, s.1, s.0) refl
    stops lookups (FileNotFound file) s = (s.0, rw (visits_step, inside, s.1) refl)
    stops lookups (FileShadowed y path shadow) s = rw (visits_step, inside, s.1.lookup_is, s.1.declared, s.1.asked_is, s.1.path_is, s.1.other, s.0) refl
    stops lookups (Custom text is_io) s = root_extends lookups
    stops lookups (NameMismatch x declared) s = rw (visits_step, inside, s.1.lookup_is, s.1.other, s.0, s.1.declared_is) refl
    stops lookups NoMemory s = root_extends lookups
    stops lookups _ s = absurd s

    pub root_stops : (files : List ℕ → Told) (error : ErrorKind) → ByLookup n (files n) (λ lookup. StopsOpening lookup n asked error) → ByLookups files (λ lookups. Ends n error (root_walk limit asked n done) lookups done)
    root_stops files error told =
        let P : Lookup → Type 0 = λ l. StopsOpening l n asked error in
        (with_lookup n told.0 nothing, right_found files nothing n told.0 told.1 (right_nothing files), stops (with_lookup n told.0 nothing) error (subst P (sym (found_there n told.0 nothing)) told.2))
