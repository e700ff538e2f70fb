-- How a step of the stack goes on or ends a walk.
use Rattle.std.proofs.Common.{◌≡◌, ◌+◌, ◌<◌, ◌≤◌, ◌∙◌, inl, inr, ◌∷◌, ◌++◌, [], ℕ, List, Bool, true, false, refl, sym, subst, length, take, reverse, arith, add-one}
use Rattle.std.specs.Prelude.{nat_lt, None}
use Rattle.pbx_link_definitions.specs.declared.error.DescriptorError.{DescriptorError}
use Rattle.pbx_link.specs.Pool.{IsRefused}
use Rattle.pbx_link_rules.specs.Breaches.{keeps_rules}
use Rattle.pbx_link_definitions.specs.Names.{among}
use Rattle.pbx_parse.specs.declared.error.ParseError.TheVariants as parse
use Rattle.protox_io.specs.FileNames.{escapes}
use Rattle.protox_file_sources.specs.Told.{Told, Lookup, NoFile, IsFile, Unread}
use Rattle.protox_file_error.specs.declared.error.ErrorKind.{ErrorKind}
use Rattle.protox_file_error.specs.declared.error.ErrorKind.TheVariants.{Parse, Check, OpenFile, FileTooLarge, FileInvalidUtf8, FileNotFound, ImportNotFound, CircularImport, FileShadowed, DuplicateImport, Custom, NameMismatch, FileLimit, NoMemory, ImportEscapes}
use Rattle.std.proofs.lemmas.List.{length-map}
use Rattle.protox_compile_walk.specs.Places.{place_of_import}
use Rattle.protox_compile_walk.specs.Walk.{Done, Open, Faulted, NoImport, records, imports_of, done_as, is_done, chain_text}
use Rattle.protox_compile_walk.specs.Resume.{names_of, resume, past, import_of, IsVisit, IsMore, ByLookup, Follows, EndsWalks, LeadsTo}
use Rattle.protox_compile_walk.specs.Refusals.{Walk, with_lookup, without, Extends, Ends, OrNoMemory, IsToldBy, StopsOpening, IsOpenOf, is_absent}
use Rattle.protox_compile_walk.proofs.Extends.{resume_extends}
use Rattle.protox_compile_walk.proofs.Measure.{finishes, stops_unlinked}
use Rattle.protox_compile_walk.proofs.Resume.{resume_duplicate, resume_escapes, resume_circular, resume_skip, resume_limit, resume_missing, resume_text, resume_mismatch, resume_visit}
use Rattle.protox_compile_walk.proofs.Right.{right_found, found_there, absent_there, more_same, more_found, more_before, more_there, closed_both, closed_found, closed_finished}

pub ends_or : (root : List ℕ) (e told : ErrorKind) (walk : Walk) (lookups : List ℕ → Lookup) (done : List Done) → OrNoMemory e told → Extends done (walk lookups).0 → Ends root told walk lookups done → Ends root e walk lookups done
ends_or root e told walk lookups done (inl memory) x h = rw memory x
ends_or root e told walk lookups done (inr same) x h = rw same h

-- a look-up that came to a file was made
pub was_read : (lookup : Lookup) (entry : _) → lookup ≡ IsFile entry → ¬ (lookup ≡ Unread)
was_read lookup entry e u = let both : IsFile entry ≡ Unread = sym e ∙ u in cc

module _ (files : List ℕ → Told) (limit : ℕ) where
  -- what is finished so far begins what the walk finishes
  pub front : (fs : List Open) (done : List Done) (walk : Walk) (lookups : List ℕ → Lookup) → walk lookups ≡ resume lookups limit fs done → Extends done (walk lookups).0
  front fs done walk lookups e = rw e (resume_extends lookups limit fs done)

  pub by_known : (fs : List Open) (done : List Done) (walk : Walk) (follows : Follows files walk limit fs done) → walk follows.known ≡ resume follows.known limit fs done
  by_known fs done walk follows = follows.is follows.known (more_same follows.known)

  pub ends_memory : (fs : List Open) (done : List Done) → EndsWalks files limit fs done NoMemory done
  ends_memory fs done root walk follows = (follows.known, follows.right, front fs done walk follows.known (by_known fs done walk follows))

  -- a file is finished
  pub finish_leads : (f : Open) (fs : List Open) (done now : List Done) → nat_lt f.next (length (imports_of f.entry)) ≡ false → keeps_rules (records done) f.entry.file ≡ true → now ≡ done ++ done_as done f.name f.entry ∷ [] → LeadsTo files limit (f ∷ fs) done fs now
  finish_leads f fs done now last links is walk follows = record {
    known = follows.known;
    right = follows.right;
    closed = λ name closed. follows.closed name (closed_finished f fs done now is name closed);
    is = λ lookups more. follows.is lookups more ∙ finishes lookups limit f fs done now last links is;
  }

  -- a file is not linked
  pub finish_ends : (f : Open) (fs : List Open) (done : List Done) (error : DescriptorError) → nat_lt f.next (length (imports_of f.entry)) ≡ false → keeps_rules (records done) f.entry.file ≡ false → IsRefused (records done) f.entry.file error → EndsWalks files limit (f ∷ fs) done (Check error) done
  finish_ends f fs done error last links refused root walk follows = (
    follows.known,
    follows.right,
    record { file = f.entry.file; walk_is = by_known (f ∷ fs) done walk follows ∙ stops_unlinked follows.known limit f fs done last links; refused = refused },
  )

  module _ (f : Open) (fs : List Open) (done : List Done) (m : List ℕ) (fits : f.next < length (imports_of f.entry)) (is : m ≡ import_of f) where
    pub ends_duplicate : (e : ErrorKind) → among (take f.next (imports_of f.entry)) m ≡ true → OrNoMemory e (DuplicateImport f.name f.next (place_of_import f.entry f.next) m) → EndsWalks files limit (f ∷ fs) done e done
    ends_duplicate e d o root walk follows =
        let now = by_known (f ∷ fs) done walk follows in
        (follows.known, follows.right, ends_or root e _ walk follows.known done o (front (f ∷ fs) done walk follows.known now) (now ∙ resume_duplicate follows.known limit f fs done m fits (sym is) d))

    pub ends_escapes : (e : ErrorKind) → among (take f.next (imports_of f.entry)) m ≡ false → escapes m ≡ true → OrNoMemory e (ImportEscapes f.name f.next (place_of_import f.entry f.next) m) → EndsWalks files limit (f ∷ fs) done e done
    ends_escapes e d x o root walk follows =
        let now = by_known (f ∷ fs) done walk follows in
        (follows.known, follows.right, ends_or root e _ walk follows.known done o (front (f ∷ fs) done walk follows.known now) (now ∙ resume_escapes follows.known limit f fs done m fits (sym is) d x))

    pub ends_circular : (e : ErrorKind) → among (take f.next (imports_of f.entry)) m ≡ false → escapes m ≡ false → among (names_of (f ∷ fs)) m ≡ true → OrNoMemory e (CircularImport m (chain_text (reverse (m ∷ names_of (f ∷ fs))))) → EndsWalks files limit (f ∷ fs) done e done
    ends_circular e d x k o root walk follows =
        let now = by_known (f ∷ fs) done walk follows in
        (follows.known, follows.right, ends_or root e _ walk follows.known done o (front (f ∷ fs) done walk follows.known now) (now ∙ resume_circular follows.known limit f fs done m fits (sym is) d x k))

    pub skip_leads : among (take f.next (imports_of f.entry)) m ≡ false → escapes m ≡ false → among (names_of (f ∷ fs)) m ≡ false → is_done done m ≡ true → LeadsTo files limit (f ∷ fs) done (past f ∷ fs) done
    skip_leads d x k h walk follows = record {
      known = follows.known;
      right = follows.right;
      closed = follows.closed;
      is = λ lookups more. follows.is lookups more ∙ rw add-one (resume_skip lookups limit f fs done m fits (sym is) d x k h);
    }

    module _ (visit : IsVisit f fs done m) where
      pub ends_limit : limit ≤ length done + length fs + 1 → EndsWalks files limit (f ∷ fs) done (FileLimit limit) done
      ends_limit h root walk follows =
          (follows.known, follows.right, by_known (f ∷ fs) done walk follows ∙ resume_limit follows.known limit f fs done m fits (sym is) visit.unseen visit.inside visit.closed visit.new (rw length-map (omega arith)))

      -- the import was not looked up before
      unread : (walk : Walk) (follows : Follows files walk limit (f ∷ fs) done) → follows.known m ≡ Unread
      unread walk follows = follows.closed m (closed_both (f ∷ fs) done m visit.closed visit.new)

      module _ (room : length done + length fs + 2 ≤ limit) where
        inside : length done + length (names_of (f ∷ fs)) + 1 ≤ limit
        inside = rw length-map (omega arith)

        pub visit_leads : (child : Open) → child.name ≡ m → ByLookup m (files m) (λ lookup. IsOpenOf lookup m child) → LeadsTo files limit (f ∷ fs) done (child ∷ past f ∷ fs) done
        visit_leads child named told walk follows =
            let o : IsOpenOf told.0 m child = told.2 in
            let e : child ≡ record { name = m; entry = child.entry; next = 0 } = rw (← o.name_is, ← o.next_is) refl in
            record {
              known = with_lookup m told.0 follows.known;
              right = right_found files follows.known m told.0 told.1 follows.right;
              closed = closed_found follows.known child (past f ∷ fs) done m told.0 named follows.closed;
              is = λ lookups more.
                  follows.is lookups (more_before follows.known lookups m told.0 (unread walk follows) more)
                  ∙ rw (e, add-one) (resume_visit lookups limit f fs done m fits (sym is) visit.unseen visit.inside visit.closed visit.new inside child.entry
                  (more_there follows.known lookups m told.0 (was_read told.0 child.entry o.lookup_is) more ∙ o.lookup_is) o.declared);
            }

        module _ (walk : Walk) (follows : Follows files walk limit (f ∷ fs) done) (lookups : List ℕ → Lookup) (more : IsMore follows.known lookups) where
          at_once : walk lookups ≡ resume lookups limit (f ∷ fs) done
          at_once = follows.is lookups more

          begun : Extends done (walk lookups).0
          begun = front (f ∷ fs) done walk lookups at_once

          -- the walk where the import has no file
          failed : walk (without m lookups) ≡ (done, Faulted (NoImport f.name f.next (place_of_import f.entry f.next) m))
          failed =
              follows.is (without m lookups) (more_found follows.known lookups m NoFile (unread walk follows) more)
              ∙ resume_missing (without m lookups) limit f fs done m fits (sym is) visit.unseen visit.inside visit.closed visit.new inside (absent_there m lookups)

          stops : (root : List ℕ) (error : ErrorKind) → is_absent error ≡ false → StopsOpening (lookups m) m None error → Ends root error walk lookups done
          stops root (Parse (parse.Syntax file line column expected found)) a s = rw s.0 (at_once ∙ resume_text lookups limit f fs done m fits (sym is) visit.unseen visit.inside visit.closed visit.new inside 1 s.1)
          stops root (Parse parse.NoMemory) a s = s
          stops root (OpenFile file path fault) a s = record { front = begun; end = Faulted (NoImport f.name f.next (place_of_import f.entry f.next) m); exact = rw s failed; lacking = sym s }
          stops root (FileTooLarge file) a s = rw s.0 (at_once ∙ resume_text lookups limit f fs done m fits (sym is) visit.unseen visit.inside visit.closed visit.new inside 4 s.1)
          stops root (FileInvalidUtf8 file) a s = rw s.0 (at_once ∙ resume_text lookups limit f fs done m fits (sym is) visit.unseen visit.inside visit.closed visit.new inside 5 s.1)
          stops root (FileNotFound file) a s = absurd (cc)
          stops root (FileShadowed y path shadow) a s = absurd (cc (s.1.asked_is))
          stops root (Custom text is_io) a s = begun
          stops root (NameMismatch asked declared) a s = rw (s.0, s.1.declared_is) (at_once ∙ resume_mismatch lookups limit f fs done m fits (sym is) visit.unseen visit.inside visit.closed visit.new inside s.1.entry s.1.lookup_is s.1.other)
          stops root NoMemory a s = begun
          stops root _ a s = absurd s

          absent_told : (error : ErrorKind) → is_absent error ≡ true → StopsOpening (lookups m) m None error → lookups m ≡ NoFile
          absent_told (FileNotFound file) a s = s.1
          absent_told _ a s = absurd (cc)

          ends_there : (root : List ℕ) (error answer : ErrorKind) → IsToldBy (ImportNotFound f.name f.next (place_of_import f.entry f.next) m) error answer → StopsOpening (lookups m) m None error → Ends root answer walk lookups done
          ends_there root error answer k s = by_case (is_absent error) refl
            where
              by_case : (b : Bool) → is_absent error ≡ b → Ends root answer walk lookups done
              by_case true e =
                  ends_or root answer _ walk lookups done (k.absent e) begun
                  (at_once ∙ resume_missing lookups limit f fs done m fits (sym is) visit.unseen visit.inside visit.closed visit.new inside (absent_told error e s))
              by_case false e = rw (k.other e) (stops root error e s)

        pub ends_import : (error answer : ErrorKind) → IsToldBy (ImportNotFound f.name f.next (place_of_import f.entry f.next) m) error answer → ByLookup m (files m) (λ lookup. StopsOpening lookup m None error) → EndsWalks files limit (f ∷ fs) done answer done
        ends_import error answer k told root walk follows =
            let lookups : List ℕ → Lookup = with_lookup m told.0 follows.known in
            let P : Lookup → Type 0 = λ l. StopsOpening l m None error in (
              lookups,
              right_found files follows.known m told.0 told.1 follows.right,
              ends_there walk follows lookups (more_found follows.known follows.known m told.0 (unread walk follows) (more_same follows.known)) root error answer k (subst P (sym (found_there m told.0 follows.known)) told.2),
            )
