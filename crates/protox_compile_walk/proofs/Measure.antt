-- The work that a stack has left.
use Rattle.std.proofs.Common.{◌≡◌, ◌+◌, ◌-◌, ◌*◌, ◌<◌, ◌≤◌, ◌^◌, ◌∷◌, ◌++◌, [], ℕ, List, true, false, length, arith, refl}
use Rattle.std.specs.Prelude.{nat_lt}
use Rattle.std.proofs.lemmas.List.{drop_all}
use Rattle.std.proofs.lemmas.Bool.{ltb-false}
use Rattle.pbx_link_rules.specs.Breaches.{keeps_rules}
use Rattle.protox_file_sources.specs.Told.{Lookup}
use Rattle.protox_compile_walk.specs.Walk.{Open, Done, Visited, Finished, Faulted, Unlinked, records, imports_of, done_as}
use Rattle.protox_compile_walk.specs.Resume.{past, resume}
use Rattle.protox_compile_walk.specs.Refusals.{Extends}
use Rattle.protox_compile_walk.proofs.Resume.{resume_finish, resume_unlinked}
use Rattle.protox_compile_walk.proofs.Extends.{resume_extends}

abbrev pub left_of : Open → ℕ
left_of f = (length (imports_of f.entry) - f.next) + 1

abbrev pub work : List Open → ℕ
work [] = 0
work (f ∷ fs) = left_of f + work fs

pub visit_smaller : (limit d : ℕ) (f child : Open) (fs stack : List Open) → stack ≡ past f ∷ fs → d + length fs + 2 ≤ limit → f.next < length (imports_of f.entry) → child.next ≡ 0 → length (imports_of child.entry) < 2 ^ 64
    → (limit - (d + length stack)) * 2 ^ 64 + work (child ∷ stack) < (limit - (d + length fs)) * 2 ^ 64 + work (f ∷ fs)
visit_smaller limit d f child fs stack e room more first bound = rw e (omega arith)

-- a file with no import left is linked and finished
pub finishes : (lookups : List ℕ → Lookup) (limit : ℕ) (f : Open) (fs : List Open) (done now : List Done) → nat_lt f.next (length (imports_of f.entry)) ≡ false → keeps_rules (records done) f.entry.file ≡ true → now ≡ done ++ done_as done f.name f.entry ∷ []
    → resume lookups limit (f ∷ fs) done ≡ resume lookups limit fs now
finishes lookups limit f fs done now h l e = rw e (resume_finish lookups limit f fs done (drop_all f.next (imports_of f.entry) (ltb-false _ _ h)) l)

-- or it is not linked
pub stops_unlinked : (lookups : List ℕ → Lookup) (limit : ℕ) (f : Open) (fs : List Open) (done : List Done) → nat_lt f.next (length (imports_of f.entry)) ≡ false → keeps_rules (records done) f.entry.file ≡ false
    → resume lookups limit (f ∷ fs) done ≡ (done, Faulted (Unlinked f.entry.file))
stops_unlinked lookups limit f fs done h l = resume_unlinked lookups limit f fs done (drop_all f.next (imports_of f.entry) (ltb-false _ _ h)) l

pub all_finished : (lookups : List ℕ → Lookup) (limit : ℕ) (done : List Done) → resume lookups limit [] done ≡ (done, Finished)
unfolding resume
all_finished lookups limit done = refl

-- whatever the walk has finished so far begins what it will finish
pub so_far : (lookups : List ℕ → Lookup) (limit : ℕ) (fs : List Open) (done now : List Done) (walk : List Done × Visited) → walk ≡ resume lookups limit fs done → now ≡ done → Extends now walk.0
so_far lookups limit fs done now walk e same = rw (e, same) (resume_extends lookups limit fs done)
