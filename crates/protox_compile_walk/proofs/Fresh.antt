-- The open files are not finished, and no two have one name.
use Rattle.std.proofs.Common.{◌≡◌, ◌∷◌, ◌++◌, ◌∙◌, [], ℕ, List, Bool, true, false, refl, sym, ap, subst, OnErr}
use Rattle.std.specs.Prelude.{◌||◌, Result, Ok, Err}
use Rattle.std.specs.Str.{bytes_eq}
use Rattle.std.proofs.lemmas.Cmp.{nat_list_eq_equiv}
use Rattle.std.proofs.lemmas.List.Folds.{list_any-append}
use Rattle.pbx_link_definitions.specs.Names.{among}
use Rattle.protox_compile_walk.specs.Walk.{Done, Open, is_done, done_as}
use Rattle.protox_compile_walk.specs.Resume.{names_of, past, IsVisit}
use Rattle.protox_compile_walk.proofs.Right.{same_bytes}

-- the stack ends in the root, and no file on it is finished or open twice
abbrev pub Fresh : List ℕ → List Open → List Done → Type 0
Fresh root [] done = Unit {0}
Fresh root (f ∷ []) done = (is_done done f.name ≡ false) × (f.name ≡ root)
Fresh root (f ∷ g ∷ fs) done = (is_done done f.name ≡ false) × (among (names_of (g ∷ fs)) f.name ≡ false) × Fresh root (g ∷ fs) done

pub or_left : (a b : Bool) → (a || b) ≡ false → a ≡ false
or_left true b h = h
or_left false b h = refl

pub or_right : (a b : Bool) → (a || b) ≡ false → b ≡ false
or_right true b h = absurd cc
or_right false b h = h

-- a finished file of another name
pub is_done_push : (done : List Done) (d : Done) (name : List ℕ) → is_done done name ≡ false → bytes_eq d.name name ≡ false → is_done (done ++ d ∷ []) name ≡ false
is_done_push done d name h e = rw (list_any-append, h, e) refl

pub apart : (x y : List ℕ) → bytes_eq x y ≡ false → bytes_eq y x ≡ false
apart x y h = nat_list_eq_equiv.symm y x ∙ h

pub fresh_root : (root : List ℕ) (f : Open) (fs : List Open) (done : List Done) → Fresh root (f ∷ fs) done → is_done done root ≡ false
fresh_root root f [] done h = rw (← h.1) h.0
fresh_root root f (g ∷ fs) done h = fresh_root root g fs done h.2

-- the innermost open file is not finished
pub fresh_top : (root : List ℕ) (f : Open) (fs : List Open) (done : List Done) → Fresh root (f ∷ fs) done → is_done done f.name ≡ false
fresh_top root f [] done h = h.0
fresh_top root f (g ∷ fs) done h = h.0

pub fresh_push : (root : List ℕ) (fs : List Open) (done : List Done) (d : Done) → Fresh root fs done → among (names_of fs) d.name ≡ false → Fresh root fs (done ++ d ∷ [])
fresh_push root [] done d h e = tt
fresh_push root (f ∷ []) done d h e = (is_done_push done d f.name h.0 (apart f.name d.name (or_left (bytes_eq f.name d.name) false e)), h.1)
fresh_push root (f ∷ g ∷ fs) done d h e = (
  is_done_push done d f.name h.0 (apart f.name d.name (or_left (bytes_eq f.name d.name) (among (names_of (g ∷ fs)) d.name) e)),
  h.1,
  fresh_push root (g ∷ fs) done d h.2 (or_right (bytes_eq f.name d.name) (among (names_of (g ∷ fs)) d.name) e),
)

pub fresh_finish : (root : List ℕ) (f g : Open) (fs stack : List Open) (done now : List Done) → stack ≡ g ∷ fs → now ≡ done ++ done_as done f.name f.entry ∷ [] → Fresh root (f ∷ stack) done → Fresh root (g ∷ fs) now
fresh_finish root f g fs stack done now e n h =
    let P : List Open → Type 0 = λ s. Fresh root (f ∷ s) done in
    let k : Fresh root (f ∷ g ∷ fs) done = subst P e h in
    rw n (fresh_push root (g ∷ fs) done (done_as done f.name f.entry) k.2 k.1)

fresh_open : (root : List ℕ) (child f : Open) (fs : List Open) (done : List Done) → IsVisit f fs done child.name → Fresh root (f ∷ fs) done → Fresh root (child ∷ past f ∷ fs) done
fresh_open root child f [] done v h = (v.new, v.closed, h)
fresh_open root child f (g ∷ fs) done v h = (v.new, v.closed, h)

pub fresh_visit : (root name : List ℕ) (child f : Open) (fs stack : List Open) (done : List Done) → stack ≡ past f ∷ fs → child.name ≡ name → IsVisit f fs done name → Fresh root (f ∷ fs) done → Fresh root (child ∷ stack) done
fresh_visit root name child f fs stack done e n v h =
    let P : List ℕ → Type 0 = λ x. IsVisit f fs done x in
    rw e (fresh_open root child f fs done (subst P (sym n) v) h)

pub fresh_past : (root : List ℕ) (f : Open) (fs : List Open) (done : List Done) → Fresh root (f ∷ fs) done → Fresh root (past f ∷ fs) done
fresh_past root f [] done h = h
fresh_past root f (g ∷ fs) done h = h

or_true : (a : Bool) → (a || true) ≡ true
or_true true = refl
or_true false = refl

-- the last open file is the root
pub root_done : (root : List ℕ) (f : Open) (fs : List Open) (done now : List Done) → fs ≡ [] → now ≡ done ++ done_as done f.name f.entry ∷ []
    → Fresh root (f ∷ fs) done → is_done now root ≡ true
root_done root f fs done now e n h =
    let P : List Open → Type 0 = λ s. Fresh root (f ∷ s) done in
    let k : Fresh root (f ∷ []) done = subst P e h in
    let same : bytes_eq f.name root ≡ true = ap (bytes_eq f.name) (sym k.1) ∙ same_bytes f.name in
    ap (λ d. is_done d root) n ∙ list_any-append (λ (d : Done). bytes_eq d.name root) done (done_as done f.name f.entry ∷ [])
    ∙ ap (λ b. is_done done root || (b || false)) same ∙ or_true (is_done done root)

pub on_err : {T E P : Type 0} (r : Result T E) → P → OnErr r P
on_err (Ok x) p = tt
on_err (Err e) p = p
