-- Look-ups that are right, and look-ups that begin with others.
use Rattle.std.proofs.Common.{◌≡◌, ◌⊎◌, inl, inr, ◌∷◌, ◌++◌, ◌∙◌, [], ℕ, List, Bool, true, false, refl, sym, ap, subst}
use Rattle.std.specs.Prelude.{◌||◌, if◌then◌else◌}
use Rattle.std.specs.Str.{bytes_eq}
use Rattle.std.proofs.lemmas.List.Folds.{list_any-append}
use Rattle.std.proofs.lemmas.Slice.Eq.{bytes_eq-Decides}
use Rattle.pbx_link_definitions.specs.Names.{among}
use Rattle.protox_file_sources.specs.Told.{Told, Lookup, NoFile, Unread, IsLookup, AreLookups}
use Rattle.protox_compile_walk.specs.Walk.{Done, Open, is_done, done_as}
use Rattle.protox_compile_walk.specs.Refusals.{with_lookup, without}
use Rattle.protox_compile_walk.specs.Resume.{names_of, was_opened, IsMore}

pub same_bytes : (name : List ℕ) → bytes_eq name name ≡ true
same_bytes name = (bytes_eq-Decides name name).1 refl

pub bytes_are : (a b : List ℕ) → bytes_eq a b ≡ true → a ≡ b
bytes_are a b h = (bytes_eq-Decides a b).0 h

-- ---- look-ups with one more

-- nothing was looked up
abbrev pub nothing : List ℕ → Lookup
nothing name = Unread

pub right_nothing : (files : List ℕ → Told) → AreLookups files nothing
right_nothing files name = tt

pub found_there : (n : List ℕ) (lookup : Lookup) (lookups : List ℕ → Lookup) → with_lookup n lookup lookups n ≡ lookup
found_there n lookup lookups = rw same_bytes refl

pub absent_there : (n : List ℕ) (lookups : List ℕ → Lookup) → without n lookups n ≡ NoFile
absent_there n lookups = found_there n NoFile lookups

pub right_found : (files : List ℕ → Told) (lookups : List ℕ → Lookup) (n : List ℕ) (lookup : Lookup) → IsLookup n (files n) lookup → AreLookups files lookups → AreLookups files (with_lookup n lookup lookups)
right_found files lookups n lookup r h name = by_case (bytes_eq name n) refl
  where
    by_case : (b : Bool) → bytes_eq name n ≡ b → IsLookup name (files name) (if b then lookup else lookups name)
    by_case false e = h name
    by_case true e = let P : List ℕ → Type 0 = λ x. IsLookup x (files x) lookup in subst P (sym (bytes_are name n e)) r

-- ---- look-ups that begin with others

pub more_same : (lookups : List ℕ → Lookup) → IsMore lookups lookups
more_same lookups name = inr refl

pub more_join : (a b c : List ℕ → Lookup) → IsMore a b → IsMore b c → IsMore a c
more_join a b c f g name = elim (f name) [ inl u ↦ inl u | inr e ↦ elim (g name) [ inl u ↦ inl (sym e ∙ u) | inr s ↦ inr (s ∙ e) ] ]

-- the look-up of a name that was not looked up
pub more_found : (known lookups : List ℕ → Lookup) (n : List ℕ) (lookup : Lookup) → known n ≡ Unread → IsMore known lookups → IsMore known (with_lookup n lookup lookups)
more_found known lookups n lookup u h name = by_case (bytes_eq name n) refl
  where
    by_case : (b : Bool) → bytes_eq name n ≡ b → (known name ≡ Unread) ⊎ ((if b then lookup else lookups name) ≡ known name)
    by_case false e = h name
    by_case true e = inl (ap known (bytes_are name n e) ∙ u)

pub more_before : (known lookups : List ℕ → Lookup) (n : List ℕ) (lookup : Lookup) → known n ≡ Unread → IsMore (with_lookup n lookup known) lookups → IsMore known lookups
more_before known lookups n lookup u h = more_join known (with_lookup n lookup known) lookups (more_found known known n lookup u (more_same known)) h

pub more_there : (known lookups : List ℕ → Lookup) (n : List ℕ) (lookup : Lookup) → ¬ (lookup ≡ Unread) → IsMore (with_lookup n lookup known) lookups → lookups n ≡ lookup
more_there known lookups n lookup read h = elim (h n) [ inl u ↦ absurd (read (sym (found_there n lookup known) ∙ u)) | inr s ↦ s ∙ found_there n lookup known ]

-- the same, where both lack the name's file
pub more_without : (known lookups : List ℕ → Lookup) (n : List ℕ) → IsMore known lookups → IsMore (without n known) (without n lookups)
more_without known lookups n h name = by_case (bytes_eq name n)
  where
    by_case : (b : Bool) → ((if b then NoFile else known name) ≡ Unread) ⊎ ((if b then NoFile else lookups name) ≡ (if b then NoFile else known name))
    by_case true = inr refl
    by_case false = h name

-- ---- names that were not opened

or_both : (a b : Bool) → a ≡ false → b ≡ false → (a || b) ≡ false
or_both true b p q = absurd cc
or_both false b p q = q

pub closed_both : (fs : List Open) (done : List Done) (n : List ℕ) → among (names_of fs) n ≡ false → is_done done n ≡ false → was_opened fs done n ≡ false
closed_both fs done n p q = or_both (among (names_of fs) n) (is_done done n) p q

rest_closed : (a b c : Bool) → ((c || a) || b) ≡ false → (a || b) ≡ false
rest_closed a b true h = absurd cc
rest_closed a b false h = h

first_closed : (a b c : Bool) → c ≡ true → ((c || a) || b) ≡ false → ⊥
first_closed a b true e h = cc
first_closed a b false e h = cc

-- the names that have no look-up, where one more file is open
pub closed_found : (known : List ℕ → Lookup) (child : Open) (fs : List Open) (done : List Done) (m : List ℕ) (lookup : Lookup) → child.name ≡ m → ((name : List ℕ) → was_opened fs done name ≡ false → known name ≡ Unread)
    → (name : List ℕ) → was_opened (child ∷ fs) done name ≡ false → with_lookup m lookup known name ≡ Unread
closed_found known child fs done m lookup is h name c = by_case (bytes_eq name m) refl
  where
    by_case : (b : Bool) → bytes_eq name m ≡ b → (if b then lookup else known name) ≡ Unread
    by_case false e = h name (rest_closed (among (names_of fs) name) (is_done done name) (bytes_eq child.name name) c)
    by_case true e =
        let same : bytes_eq child.name name ≡ true = ap (bytes_eq child.name) (bytes_are name m e ∙ sym is) ∙ same_bytes child.name in
        absurd (first_closed (among (names_of fs) name) (is_done done name) (bytes_eq child.name name) same c)

moved : (a b c : Bool) → (a || (b || (c || false))) ≡ false → ((c || a) || b) ≡ false
moved true b c h = absurd cc
moved false true c h = absurd cc
moved false false true h = absurd cc
moved false false false h = refl

-- a file of the stack is finished
pub closed_finished : (f : Open) (fs : List Open) (done now : List Done) → now ≡ done ++ done_as done f.name f.entry ∷ [] → (name : List ℕ) → was_opened fs now name ≡ false → was_opened (f ∷ fs) done name ≡ false
closed_finished f fs done now e name closed =
    let there : is_done now name ≡ (is_done done name || (bytes_eq f.name name || false)) = ap (λ d. is_done d name) e ∙ list_any-append (λ (d : Done). bytes_eq d.name name) done (done_as done f.name f.entry ∷ []) in
    moved (among (names_of fs) name) (is_done done name) (bytes_eq f.name name) (rw there at closed)
