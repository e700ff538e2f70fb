-- What is left of a walk whose open files stand on a stack.
use Rattle.std.proofs.Common.{◌≡◌, ◌+◌, ◌-◌, ◌<◌, ◌≤◌, ◌∷◌, ◌++◌, [], ℕ, zero, suc, List, Bool, true, false, refl, length, take, drop, get_or, reverse, arith, drop-cons, length-take}
use Rattle.std.proofs.Math.Seq.{take-suc}
use Rattle.std.specs.Prelude.{nat_lt, if◌then◌else◌, Option, Some, None}
use Rattle.std.specs.Str.{bytes_eq}
use Rattle.std.proofs.lemmas.Bool.{lt-ltb, le-ltb}
use Rattle.pbx_link_rules.specs.Breaches.{keeps_rules}
use Rattle.pbx_link_definitions.specs.Names.{among}
use Rattle.protox_io.specs.FileNames.{escapes}
use Rattle.protox_file_sources.specs.Told.{Entry, Lookup, NoFile, IsFile, TextFault}
use Rattle.protox_compile_walk.specs.Places.{place_of_import}
use Rattle.protox_compile_walk.specs.Resume.{names_of, imports_left, go_on, resume}
use Rattle.protox_compile_walk.specs.Walk.{Done, Fault, Limit, Text, Mismatch, Duplicate, Escapes, Circular, NoImport, Unlinked, Visited, Finished, Faulted, Open, records, imports_of, declared_name, done_as, is_done, chain_text, after_visit, visit_imports, finish, visit_lookup, visit, visits}

visit_room : (lookups : List ℕ → Lookup) (limit room : ℕ) (chain : List (List ℕ)) (asked : Option (List ℕ)) (n : List ℕ) (done : List Done) → room ≡ limit - length chain
    → visit lookups limit room chain asked n done ≡ (if nat_lt limit (length done + length chain + 1) then (done, Faulted (Limit limit)) else visit_lookup n asked (lookups n) done (λ entry. finish n entry (visit_imports (λ d m. visits lookups limit (n ∷ chain) None m d) (n ∷ chain) n (place_of_import entry) [] (imports_of entry) done)))
unfolding visit
visit_room lookups limit zero chain asked n done e = rw (lt-ltb limit (length done + length chain + 1) (omega arith)) refl
visit_room lookups limit (suc room) chain asked n done e = let k : room ≡ limit - length (n ∷ chain) = omega arith in rw (← k) refl

-- a visit, one step at a time, with no room in sight
pub visits_step : (lookups : List ℕ → Lookup) (limit : ℕ) (chain : List (List ℕ)) (asked : Option (List ℕ)) (n : List ℕ) (done : List Done)
    → visits lookups limit chain asked n done ≡ (if nat_lt limit (length done + length chain + 1) then (done, Faulted (Limit limit)) else visit_lookup n asked (lookups n) done (λ entry. finish n entry (visit_imports (λ d m. visits lookups limit (n ∷ chain) None m d) (n ∷ chain) n (place_of_import entry) [] (imports_of entry) done)))
visits_step lookups limit chain asked n done = visit_room lookups limit (limit - length chain) chain asked n done refl

-- a file with no import left is linked and finished
pub resume_finish : (lookups : List ℕ → Lookup) (limit : ℕ) (f : Open) (fs : List Open) (done : List Done) → drop f.next (imports_of f.entry) ≡ [] → keeps_rules (records done) f.entry.file ≡ true
    → resume lookups limit (f ∷ fs) done ≡ resume lookups limit fs (done ++ done_as done f.name f.entry ∷ [])
unfolding resume
resume_finish lookups limit f fs done e l = rw (e, l) refl

-- or it is not linked
pub resume_unlinked : (lookups : List ℕ → Lookup) (limit : ℕ) (f : Open) (fs : List Open) (done : List Done) → drop f.next (imports_of f.entry) ≡ [] → keeps_rules (records done) f.entry.file ≡ false
    → resume lookups limit (f ∷ fs) done ≡ (done, Faulted (Unlinked f.entry.file))
unfolding resume
resume_unlinked lookups limit f fs done e l = rw (e, l) refl

-- what follows the visit of an import is what follows it on the stack
through : (n : List ℕ) (entry : Entry) (i : ℕ) (place : Option (ℕ × ℕ)) (m : List ℕ) (inner : Entry) (ended : List Done × Option Fault) (later : List Done → List Done × Option Fault) (rest : List Done → List Done × Visited)
    → go_on (finish n entry (after_visit n i place m (finish m inner ended) later)) rest ≡ go_on (finish m inner ended) (λ d. go_on (finish n entry (later d)) rest)
through n entry i place m inner (done, None) later rest = by_case (keeps_rules (records done) inner.file)
  where
    by_case : (b : Bool) → go_on (finish n entry (after_visit n i place m (if b then (done ++ done_as done m inner ∷ [], Finished) else (done, Faulted (Unlinked inner.file))) later)) rest
        ≡ go_on (if b then (done ++ done_as done m inner ∷ [], Finished) else (done, Faulted (Unlinked inner.file))) (λ d. go_on (finish n entry (later d)) rest)
    by_case true = refl
    by_case false = refl
through n entry i place m inner (done, Some fault) later rest = refl

module _ (lookups : List ℕ → Lookup) (limit : ℕ) (f : Open) (fs : List Open) (done : List Done) (m : List ℕ) (fits : f.next < length (imports_of f.entry)) (is : get_or (imports_of f.entry) f.next [] ≡ m) where
  left : drop f.next (imports_of f.entry) ≡ m ∷ drop (suc f.next) (imports_of f.entry)
  left = rw (← is) (drop-cons (imports_of f.entry) f.next [] fits)

  seen_next : take (suc f.next) (imports_of f.entry) ≡ take f.next (imports_of f.entry) ++ m ∷ []
  seen_next = rw (← is) (take-suc (imports_of f.entry) f.next [] fits)

  seen_length : length (take f.next (imports_of f.entry)) ≡ f.next
  seen_length = rw length-take (omega arith)

  pub resume_duplicate : among (take f.next (imports_of f.entry)) m ≡ true → resume lookups limit (f ∷ fs) done ≡ (done, Faulted (Duplicate f.name f.next (place_of_import f.entry f.next) m))
  unfolding resume
  resume_duplicate d = rw (left, d, seen_length) refl

  pub resume_escapes : among (take f.next (imports_of f.entry)) m ≡ false → escapes m ≡ true → resume lookups limit (f ∷ fs) done ≡ (done, Faulted (Escapes f.name f.next (place_of_import f.entry f.next) m))
  unfolding resume
  resume_escapes d x = rw (left, d, x, seen_length) refl

  pub resume_circular : among (take f.next (imports_of f.entry)) m ≡ false → escapes m ≡ false → among (names_of (f ∷ fs)) m ≡ true → resume lookups limit (f ∷ fs) done ≡ (done, Faulted (Circular m (chain_text (reverse (m ∷ names_of (f ∷ fs))))))
  unfolding resume
  resume_circular d x c = rw (left, d, x, c) refl

  pub resume_skip : among (take f.next (imports_of f.entry)) m ≡ false → escapes m ≡ false → among (names_of (f ∷ fs)) m ≡ false → is_done done m ≡ true → resume lookups limit (f ∷ fs) done ≡ resume lookups limit (record f { next = suc f.next } ∷ fs) done
  unfolding resume
  resume_skip d x c k = rw (left, d, x, c, k, seen_next) refl

  -- an import that is to be visited
  resume_open : among (take f.next (imports_of f.entry)) m ≡ false → escapes m ≡ false → among (names_of (f ∷ fs)) m ≡ false → is_done done m ≡ false
      → resume lookups limit (f ∷ fs) done ≡ go_on (finish f.name f.entry (after_visit f.name f.next (place_of_import f.entry f.next) m (visits lookups limit (f.name ∷ names_of fs) None m done) (imports_left lookups limit (names_of fs) (record f { next = suc f.next })))) (resume lookups limit fs)
  unfolding resume
  resume_open d x c k = rw (left, d, x, c, k, seen_length, ← seen_next) refl

  pub resume_limit : among (take f.next (imports_of f.entry)) m ≡ false → escapes m ≡ false → among (names_of (f ∷ fs)) m ≡ false → is_done done m ≡ false
      → limit < length done + length (names_of (f ∷ fs)) + 1 → resume lookups limit (f ∷ fs) done ≡ (done, Faulted (Limit limit))
  resume_limit d x c k h = rw (resume_open d x c k, visits_step, lt-ltb limit (length done + length (names_of (f ∷ fs)) + 1) h) refl

  module _ (d : among (take f.next (imports_of f.entry)) m ≡ false) (x : escapes m ≡ false) (c : among (names_of (f ∷ fs)) m ≡ false) (k : is_done done m ≡ false) (room : length done + length (names_of (f ∷ fs)) + 1 ≤ limit) where
    inside : nat_lt limit (length done + length (names_of (f ∷ fs)) + 1) ≡ false
    inside = le-ltb _ _ room

    pub resume_missing : lookups m ≡ NoFile → resume lookups limit (f ∷ fs) done ≡ (done, Faulted (NoImport f.name f.next (place_of_import f.entry f.next) m))
    resume_missing e = rw (resume_open d x c k, visits_step, inside, e) refl

    pub resume_text : (kind : ℕ) → lookups m ≡ TextFault kind → resume lookups limit (f ∷ fs) done ≡ (done, Faulted (Text m kind))
    resume_text kind e = rw (resume_open d x c k, visits_step, inside, e) refl

    pub resume_mismatch : (entry : Entry) → lookups m ≡ IsFile entry → bytes_eq (declared_name entry) m ≡ false → resume lookups limit (f ∷ fs) done ≡ (done, Faulted (Mismatch m (declared_name entry)))
    resume_mismatch entry e b = rw (resume_open d x c k, visits_step, inside, e, b) refl

    pub resume_visit : (entry : Entry) → lookups m ≡ IsFile entry → bytes_eq (declared_name entry) m ≡ true
        → resume lookups limit (f ∷ fs) done ≡ resume lookups limit (record { name = m; entry = entry; next = 0 } ∷ record f { next = suc f.next } ∷ fs) done
    unfolding resume
    resume_visit entry e b = rw (resume_open d x c k, visits_step, inside, e, b) (through f.name f.entry f.next (place_of_import f.entry f.next) m entry (visit_imports (λ d' m'. visits lookups limit (m ∷ names_of (f ∷ fs)) None m' d') (m ∷ names_of (f ∷ fs)) m (place_of_import entry) [] (imports_of entry) done) (imports_left lookups limit (names_of fs) (record f { next = suc f.next })) (resume lookups limit fs))
