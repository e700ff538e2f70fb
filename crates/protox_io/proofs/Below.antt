-- A path that a folder resolves stands below the folder.
use Rattle.std.proofs.Common.{◌≡◌, ℕ, ◌==◌, List, [], ◌∷◌, ◌++◌, Bool, true, false, not, cond, length, map, refl, sym, ap, ◌∙◌, Some, None, Option, subst}
use Rattle.std.specs.Prelude.{option_and_then}
use Rattle.std.specs.List.{filter, list_all, join_with_byte, slice_split}
use Rattle.protox_io.specs.Paths.{Component, Root, Current, Parent, Named, is_current, is_rooted, is_first_dot, is_dot, parts, start, component, component_eq, components, bare}
use Rattle.protox_io.proofs.Keys.{component_decides}
use Rattle.protox_io.specs.Laws.{ResolvedStandBelow}
use Rattle.protox_io.specs.FileNames.{is_ordinary, name_bytes, joined_names, behind_folder, stripped}
use Rattle.protox_io.specs.Left.{body}
use Rattle.protox_io.proofs.Bodies.{other, is_parent}
use Rattle.protox_io.proofs.Split.{is_slash, is_part}
use Rattle.protox_io.proofs.Again.{Whole, AllWhole, IsGood, AllGood, kept, split_whole, components_joined, some_injects}

-- what an ordinary component is made of is an ordinary part
abbrev pub Fine : Component → Type 0
Fine (Named q) = IsGood q
Fine Root = Unit {0}
Fine Current = Unit {0}
Fine Parent = Unit {0}

abbrev pub AllFine : List Component → Type 0
AllFine [] = Unit {0}
AllFine (c ∷ cs) = Fine c × AllFine cs

fine_component : (p : List ℕ) → Whole p → (length p == 0) ≡ false → is_dot p ≡ false → Fine (component p)
fine_component p w s d = at (is_parent p) refl
  where
    at : (v : Bool) → is_parent p ≡ v → Fine (cond v Parent (Named p))
    at true e = tt
    at false e = record { whole = w; some = s; no_dot = d; no_parent = e }

fine_body : (ps : List (List ℕ)) → AllWhole ps → AllFine (map component (kept ps))
fine_body [] h = tt
fine_body (p ∷ ps) h = at_length (fine_body ps h.1) (length p == 0) refl
  where
    at_dot : AllFine (map component (kept ps)) → (v : Bool) → is_dot p ≡ v → (length p == 0) ≡ false → AllFine (map component (cond (not v) (p ∷ kept ps) (kept ps)))
    at_dot rest true d s = rest
    at_dot rest false d s = (fine_component p h.0 s d, rest)

    at_length : AllFine (map component (kept ps)) → (v : Bool) → (length p == 0) ≡ v → AllFine (map component (filter other (cond (not v) (p ∷ filter is_part ps) (filter is_part ps))))
    at_length rest true s = rest
    at_length rest false s = at_dot rest (is_dot p) refl s

fine_both : (cs ds : List Component) → AllFine cs → AllFine ds → AllFine (cs ++ ds)
fine_both [] ds h k = k
fine_both (c ∷ cs) ds h k = (h.0, fine_both cs ds h.1 k)

fine_filter : (keep : Component → Bool) (cs : List Component) → AllFine cs → AllFine (filter keep cs)
fine_filter keep [] h = tt
fine_filter keep (c ∷ cs) h = at (fine_filter keep cs h.1) (keep c)
  where
    at : AllFine (filter keep cs) → (v : Bool) → AllFine (cond v (c ∷ filter keep cs) (filter keep cs))
    at rest true = (h.0, rest)
    at rest false = rest

fine_start : (path : List ℕ) → AllFine (start path)
fine_start path = at (is_rooted path) (is_first_dot (parts path))
  where
    at : (r d : Bool) → AllFine (cond r (Root ∷ []) (cond d (Current ∷ []) []))
    at true d = (tt, tt)
    at false true = (tt, tt)
    at false false = tt

fine_bare : (path : List ℕ) → AllFine (bare path)
fine_bare path =
    fine_filter (λ c. not (is_current c)) (components path)
    (fine_both (start path) (body path) (fine_start path) (fine_body (slice_split is_slash path) (split_whole path)))

same_component : (a b : Component) → component_eq a b ≡ true → a ≡ b
same_component a b e = (component_decides a b).0 e

-- what stands behind a folder is the rest
behind : (ps fs cs : List Component) → behind_folder ps fs ≡ Some cs → AllFine ps → (ps ≡ fs ++ cs) × AllFine cs
behind ps [] cs e h =
    let same : ps ≡ cs = cc in
    (same, subst AllFine same h)
behind [] (f ∷ fs) cs e h = absurd (let no : ⊥ = cc in no)
behind (p ∷ ps) (f ∷ fs) cs e h = at (λ k. behind ps fs cs k h.1) (component_eq p f) refl e
  where
    at : (behind_folder ps fs ≡ Some cs → (ps ≡ fs ++ cs) × AllFine cs) → (v : Bool) → component_eq p f ≡ v → cond v (behind_folder ps fs) None ≡ Some cs
        → (p ∷ ps ≡ f ∷ (fs ++ cs)) × AllFine cs
    at more true q e =
        let rest = more e in
        (ap (λ c. c ∷ ps) (same_component p f q) ∙ ap (λ l. f ∷ l) rest.0, rest.1)
    at more false q e = absurd (let no : ⊥ = cc in no)

-- ordinary components are those of their parts
of_names : (cs : List Component) → AllFine cs → list_all is_ordinary cs ≡ true → (map component (map name_bytes cs) ≡ cs) × AllGood (map name_bytes cs)
of_names [] h o = (refl, tt)
of_names (Root ∷ cs) h o = absurd (let no : ⊥ = cc in no)
of_names (Current ∷ cs) h o = absurd (let no : ⊥ = cc in no)
of_names (Parent ∷ cs) h o = absurd (let no : ⊥ = cc in no)
of_names (Named q ∷ cs) h o =
    let rest = of_names cs h.1 o in
    (ap (λ b. cond b Parent (Named q) ∷ map component (map name_bytes cs)) h.0.no_parent ∙ ap (λ l. Named q ∷ l) rest.0, (h.0, rest.1))

-- the components of a name are those that it was made of
named : (cs : List Component) (name : List ℕ) → AllFine cs → joined_names cs ≡ Some name → components name ≡ cs
named [] name h e = absurd (let no : ⊥ = cc in no)
named (c ∷ cs) name h e = at (list_all is_ordinary (c ∷ cs)) refl e
  where
    at : (v : Bool) → list_all is_ordinary (c ∷ cs) ≡ v → cond v (Some (join_with_byte 47 (map name_bytes (c ∷ cs)))) None ≡ Some name → components name ≡ c ∷ cs
    at true o e =
        let all = of_names (c ∷ cs) h o in
        ap components (sym (some_injects _ _ e)) ∙ components_joined (name_bytes c) (map name_bytes cs) all.1 ∙ all.0
    at false o e = absurd (let no : ⊥ = cc in no)

pub resolved_below : ResolvedStandBelow
resolved_below folder path name e = at (stripped path folder) refl e
  where
    at : (s : Option (List Component)) → stripped path folder ≡ s → option_and_then joined_names s ≡ Some name → bare path ≡ bare folder ++ components name
    at None is e = absurd (let no : ⊥ = cc in no)
    at (Some cs) is e =
        let below = behind (bare path) (bare folder) cs is (fine_bare path) in
        below.0 ∙ ap (λ l. bare folder ++ l) (sym (named cs name below.1 e))
