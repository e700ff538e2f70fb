-- The components of a name are those that it was made of.
use Rattle.std.proofs.Common.{◌≡◌, ◌≢◌, ◌<◌, ℕ, zero, suc, ◌==◌, ◌&&◌, List, [], ◌∷◌, ◌++◌, Bool, true, false, not, cond, length, map, get_or, refl, sym, ap, ◌∙◌, arith, Some, None}
use Rattle.std.specs.List.{filter, list_all, join_with_byte, slice_split, onto_first}
use Rattle.std.proofs.lemmas.Bool.Decides.{nat_tests}
use Rattle.protox_io.specs.Paths.{Root, Current, Parent, Named, parts, is_rooted, is_dot, is_first_dot, component, components}
use Rattle.protox_io.specs.FileNames.{is_ordinary, name_bytes, joined_names, name_of}
use Rattle.protox_io.specs.Left.{body}
use Rattle.protox_io.proofs.Bodies.{other, is_parent}
use Rattle.protox_io.proofs.Split.{is_slash, is_part, parts_none, parts_split, rooted_none, rooted_split}

-- without a slash
abbrev pub Whole : List ℕ → Type 0
Whole q = (i : ℕ) → i < length q → get_or q i 0 ≢ 47

abbrev pub AllWhole : List (List ℕ) → Type 0
AllWhole [] = Unit {0}
AllWhole (q ∷ qs) = Whole q × AllWhole qs

whole_cons : (x : ℕ) (q : List ℕ) → x ≢ 47 → Whole q → Whole (x ∷ q)
whole_cons x q n h zero below = n
whole_cons x q n h (suc i) below = h i (omega arith)

whole_onto : (x : ℕ) (qs : List (List ℕ)) → x ≢ 47 → AllWhole qs → AllWhole (onto_first x qs)
whole_onto x [] n h = (whole_cons x [] n (λ i below. absurd (let no : ⊥ = omega arith in no)), tt)
whole_onto x (q ∷ qs) n h = (whole_cons x q n h.0, h.1)

other_byte : (b : ℕ) → is_slash b ≡ false → b ≢ 47
other_byte b e = grind (arith, nat_tests)

pub split_whole : (s : List ℕ) → AllWhole (slice_split is_slash s)
split_whole [] = ((λ i below. absurd (let no : ⊥ = omega arith in no)), tt)
split_whole (b ∷ s) =
    let cases : (v : Bool) → is_slash b ≡ v → AllWhole (cond v ([] ∷ slice_split is_slash s) (onto_first b (slice_split is_slash s))) = λ v.
    elim v as (λ v. is_slash b ≡ v → AllWhole (cond v ([] ∷ slice_split is_slash s) (onto_first b (slice_split is_slash s)))) [
      | true ↦ λ e. ((λ i below. absurd (let no : ⊥ = omega arith in no)), split_whole s)
      | false ↦ λ e. whole_onto b (slice_split is_slash s) (other_byte b e) (split_whole s)
    ] in
    cases (is_slash b) refl

-- an ordinary part
pub record IsGood (q : List ℕ) : Type 0 where
  pub whole : Whole q
  pub some : (length q == 0) ≡ false
  pub no_dot : is_dot q ≡ false
  pub no_parent : is_parent q ≡ false

abbrev pub AllGood : List (List ℕ) → Type 0
AllGood [] = Unit {0}
AllGood (q ∷ qs) = IsGood q × AllGood qs

abbrev pub kept : List (List ℕ) → List (List ℕ)
kept ps = filter other (filter is_part ps)

all_ordinary : (q : List ℕ) (qs : List (List ℕ)) (v : Bool) → list_all is_ordinary (cond v Parent (Named q) ∷ map component qs) ≡ true → (v ≡ false) × (list_all is_ordinary (map component qs) ≡ true)
all_ordinary q qs true e = absurd (let no : ⊥ = cc in no)
all_ordinary q qs false e = (refl, e)

good : (ps : List (List ℕ)) → AllWhole ps → list_all is_ordinary (map component (kept ps)) ≡ true → AllGood (kept ps)
good [] h e = tt
good (p ∷ ps) h e =
    let at_dot : (v : Bool) → is_dot p ≡ v → (length p == 0) ≡ false → list_all is_ordinary (map component (cond (not v) (p ∷ kept ps) (kept ps))) ≡ true → AllGood (cond (not v) (p ∷ kept ps) (kept ps)) = λ v.
    elim v as (λ v. is_dot p ≡ v → (length p == 0) ≡ false → list_all is_ordinary (map component (cond (not v) (p ∷ kept ps) (kept ps))) ≡ true → AllGood (cond (not v) (p ∷ kept ps) (kept ps))) [
      | true ↦ λ d s o. good ps h.1 o
      | false ↦ λ d s o.
          let both = all_ordinary p (kept ps) (is_parent p) o in
          (record { whole = h.0; some = s; no_dot = d; no_parent = both.0 }, good ps h.1 both.1)
    ] in
    let at_length : (v : Bool) → (length p == 0) ≡ v → list_all is_ordinary (map component (filter other (cond (not v) (p ∷ filter is_part ps) (filter is_part ps)))) ≡ true → AllGood (filter other (cond (not v) (p ∷ filter is_part ps) (filter is_part ps))) = λ v.
    elim v as (λ v. (length p == 0) ≡ v → list_all is_ordinary (map component (filter other (cond (not v) (p ∷ filter is_part ps) (filter is_part ps)))) ≡ true → AllGood (filter other (cond (not v) (p ∷ filter is_part ps) (filter is_part ps)))) [
      | true ↦ λ s o. good ps h.1 o
      | false ↦ λ s o. at_dot (is_dot p) refl s o
    ] in
    at_length (length p == 0) refl e

-- ordinary parts, joined and split again
parts_joined : (q : List ℕ) (qs : List (List ℕ)) → AllGood (q ∷ qs) → parts (join_with_byte 47 (q ∷ qs)) ≡ q ∷ qs
parts_joined q [] h = parts_none q h.0.whole ∙ ap (λ b. cond b [] (q ∷ []) ++ []) h.0.some
parts_joined q (r ∷ qs) h =
    parts_split q (join_with_byte 47 (r ∷ qs)) h.0.whole
    ∙ ap (λ b. cond b [] (q ∷ []) ++ parts (join_with_byte 47 (r ∷ qs))) h.0.some
    ∙ ap (λ l. q ∷ l) (parts_joined r qs h.1)

unrooted : (q : List ℕ) (qs : List (List ℕ)) → AllGood (q ∷ qs) → is_rooted (join_with_byte 47 (q ∷ qs)) ≡ false
unrooted q [] h = rooted_none q h.0.whole ∙ ap (λ b. b && not (length q == 0)) h.0.some
unrooted q (r ∷ qs) h =
    rooted_split q (join_with_byte 47 (r ∷ qs)) h.0.whole
    ∙ ap (λ b. b && not (length (q ++ 47 ∷ join_with_byte 47 (r ∷ qs)) == 0)) h.0.some

all_other : (qs : List (List ℕ)) → AllGood qs → filter other qs ≡ qs
all_other [] h = refl
all_other (q ∷ qs) h = ap (λ b. cond (not b) (q ∷ filter other qs) (filter other qs)) h.0.no_dot ∙ ap (λ l. q ∷ l) (all_other qs h.1)

names : (qs : List (List ℕ)) → AllGood qs → map name_bytes (map component qs) ≡ qs
names [] h = refl
names (q ∷ qs) h =
    ap (λ b. name_bytes (cond b Parent (Named q)) ∷ map name_bytes (map component qs)) h.0.no_parent
    ∙ ap (λ l. q ∷ l) (names qs h.1)

pub components_joined : (q : List ℕ) (qs : List (List ℕ)) → AllGood (q ∷ qs) → components (join_with_byte 47 (q ∷ qs)) ≡ map component (q ∷ qs)
components_joined q qs h =
    let name = join_with_byte 47 (q ∷ qs) in
    let first : is_first_dot (parts name) ≡ false = ap is_first_dot (parts_joined q qs h) ∙ h.0.no_dot in
    ap (λ b. cond b (Root ∷ []) (cond (is_first_dot (parts name)) (Current ∷ []) []) ++ body name) (unrooted q qs h)
    ∙ ap (λ b. cond b (Current ∷ []) [] ++ body name) first
    ∙ ap (λ l. map component (filter other l)) (parts_joined q qs h)
    ∙ ap (map component) (all_other (q ∷ qs) h)

pub some_injects : (a b : List ℕ) → Some a ≡ Some b → a ≡ b
some_injects a b e = cc

-- the parts of a path whose components are these alone
of_parts : (qs : List (List ℕ)) (name : List ℕ) → (list_all is_ordinary (map component qs) ≡ true → AllGood qs) → joined_names (map component qs) ≡ Some name → components name ≡ map component qs
of_parts [] name g e = absurd (let no : ⊥ = cc in no)
of_parts (q ∷ qs) name g e =
    let cases : (v : Bool) → list_all is_ordinary (map component (q ∷ qs)) ≡ v → cond v (Some (join_with_byte 47 (map name_bytes (map component (q ∷ qs))))) None ≡ Some name → components name ≡ map component (q ∷ qs) = λ v.
    elim v as (λ v. list_all is_ordinary (map component (q ∷ qs)) ≡ v → cond v (Some (join_with_byte 47 (map name_bytes (map component (q ∷ qs))))) None ≡ Some name → components name ≡ map component (q ∷ qs)) [
      | true ↦ λ o s.
          let all = g o in
          let is : join_with_byte 47 (q ∷ qs) ≡ name = sym (ap (join_with_byte 47) (names (q ∷ qs) all)) ∙ some_injects _ _ s in
          ap components (sym is) ∙ components_joined q qs all
      | false ↦ λ o s. absurd (let no : ⊥ = cc in no)
    ] in
    cases (list_all is_ordinary (map component (q ∷ qs))) refl e

-- no root and no dot stands before what gives a name
start_none : (path name : List ℕ) → name_of path ≡ Some name → components path ≡ body path
start_none path name e =
    let cases : (r d : Bool) → joined_names (cond r (Root ∷ []) (cond d (Current ∷ []) []) ++ body path) ≡ Some name → cond r (Root ∷ []) (cond d (Current ∷ []) []) ++ body path ≡ body path = λ r d.
    elim r as (λ r. joined_names (cond r (Root ∷ []) (cond d (Current ∷ []) []) ++ body path) ≡ Some name → cond r (Root ∷ []) (cond d (Current ∷ []) []) ++ body path ≡ body path) [
      | true ↦ λ s. absurd (let no : ⊥ = cc in no)
      | false ↦ elim d as (λ d. joined_names (cond d (Current ∷ []) [] ++ body path) ≡ Some name → cond d (Current ∷ []) [] ++ body path ≡ body path) [
        | true ↦ λ s. absurd (let no : ⊥ = cc in no)
        | false ↦ λ s. refl
      ]
    ] in
    cases (is_rooted path) (is_first_dot (parts path)) e

-- the file name of a name is that name
pub name_again : (path name : List ℕ) → name_of path ≡ Some name → name_of name ≡ Some name
name_again path name e =
    let only = start_none path name e in
    let bodies : joined_names (body path) ≡ Some name = ap joined_names (sym only) ∙ e in
    let same : components name ≡ body path = of_parts (kept (slice_split is_slash path)) name (good (slice_split is_slash path) (split_whole path)) bodies in
    ap joined_names same ∙ bodies
