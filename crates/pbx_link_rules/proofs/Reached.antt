-- What public imports reach in files that stand behind those that they import.
use Rattle.std.proofs.Common.{◌≡◌, ◌∙◌, ◌⊎◌, ℕ, zero, suc, ℤ, pos, negsuc, ◌||◌, ◌&&◌, cond, List, []}
use Rattle.std.proofs.Common.{◌∷◌, ◌++◌, Bool, true, false, Option, Some, None, refl, ap, sym, subst, inl, inr, arith}
use Rattle.std.specs.Prelude.{Contains, reverse, slice_get}
use Rattle.std.specs.List.{list_any, list_all, filter_map}
use Rattle.std.proofs.lemmas.Bool.{false≢true}
use Rattle.std.proofs.lemmas.List.{append_assoc, append-nil, reverse-append}
use Rattle.std.proofs.lemmas.List.Elements.{Contains-append_cases}
use Rattle.std.proofs.lemmas.List.Folds.{list_any-append}
use Rattle.std.proofs.lemmas.Slice.Eq.{bytes_eq-Decides}
use Rattle.pbx_desc_records.specs.declared.file.FileDescriptorProto.{FileDescriptorProto}
use Rattle.pbx_link_definitions.specs.Names.{text_or_empty, is_named}
use Rattle.pbx_link_scope.specs.Scope.{item_at, public_imports, is_file_of, reached}
use Rattle.pbx_link_scope.specs.Pooled.{has_file}
use Rattle.pbx_link_rules.proofs.Lists.{or_cases, or_left, or_right, here, there}
use Rattle.pbx_link_rules.specs.PoolLaws.{AreBehind, Reaches, ReachedIsReaches}
use Rattle.pbx_link_rules.specs.PoolLaws.Reaches.{direct, further}

-- ---- lists

one_of : {X : Type 0} (x y : X) (xs : List X) → Contains (x ∷ xs) y → (x ≡ y) ⊎ Contains xs y
one_of x y xs (zero, lt, e) = inl e
one_of x y xs (suc i, lt, e) = inr (i, omega (arith, lt), e)

none_of : {X : Type 0} {P : Type 0} (x : X) → Contains [] x → P
none_of x h = absurd (omega (arith, h.1))

both : (a b : Bool) → (a && b) ≡ true → (a ≡ true) × (b ≡ true)
both true b h = (refl, h)
both false b h = absurd (false≢true h)

-- ---- names

joined : (ms ns : List (List ℕ)) (g : FileDescriptorProto) → is_file_of (ms ++ ns) g ≡ (is_file_of ms g || is_file_of ns g)
joined ms ns g = list_any-append (is_named g.name) ms ns

of_first : (ms ns : List (List ℕ)) (g : FileDescriptorProto) → is_file_of ms g ≡ true → is_file_of (ms ++ ns) g ≡ true
of_first ms ns g e = joined ms ns g ∙ or_left (is_file_of ms g) (is_file_of ns g) e

of_second : (ms ns : List (List ℕ)) (g : FileDescriptorProto) → is_file_of ns g ≡ true → is_file_of (ms ++ ns) g ≡ true
of_second ms ns g e = joined ms ns g ∙ or_right (is_file_of ms g) (is_file_of ns g) e

module _ (files : List FileDescriptorProto) where
  wider_left : (ms ns : List (List ℕ)) (g : FileDescriptorProto) → Reaches files ms g → Reaches files (ms ++ ns) g
  wider_left ms ns g (direct _ _ c e) = direct (ms ++ ns) g c (of_first ms ns g e)
  wider_left ms ns g (further _ via _ c e r) = further (ms ++ ns) via g c (of_first ms ns via e) r

  wider_right : (ms ns : List (List ℕ)) (g : FileDescriptorProto) → Reaches files ns g → Reaches files (ms ++ ns) g
  wider_right ms ns g (direct _ _ c e) = direct (ms ++ ns) g c (of_second ms ns g e)
  wider_right ms ns g (further _ via _ c e r) = further (ms ++ ns) via g c (of_second ms ns via e) r

  split : (ms ns : List (List ℕ)) (g : FileDescriptorProto) → Reaches files (ms ++ ns) g → Reaches files ms g ⊎ Reaches files ns g
  split ms ns g (direct _ _ c e) = at (or_cases (is_file_of ms g) (is_file_of ns g) (sym (joined ms ns g) ∙ e))
    where
      at : (is_file_of ms g ≡ true) ⊎ (is_file_of ns g ≡ true) → Reaches files ms g ⊎ Reaches files ns g
      at (inl p) = inl (direct ms g c p)
      at (inr p) = inr (direct ns g c p)
  split ms ns g (further _ via _ c e r) = at (or_cases (is_file_of ms via) (is_file_of ns via) (sym (joined ms ns via) ∙ e))
    where
      at : (is_file_of ms via ≡ true) ⊎ (is_file_of ns via ≡ true) → Reaches files ms g ⊎ Reaches files ns g
      at (inl p) = inl (further ms via g c p r)
      at (inr p) = inr (further ns via g c p r)

  -- ---- what is found is reached

  sound : (fs : List FileDescriptorProto) → ((x : FileDescriptorProto) → Contains fs x → Contains files x) → (names : List (List ℕ)) (g : FileDescriptorProto)
      → Contains (reached names fs) g → Reaches files names g
  sound [] within names g h = none_of g h
  sound (f ∷ fs) within names g h =
      at (is_file_of names f) refl h (λ others c. sound fs (λ x k. within x (there f x fs k)) others g c)
    where
      of_imports : is_file_of names f ≡ true → Reaches files (public_imports f) g ⊎ Reaches files names g → Reaches files names g
      of_imports e (inl r) = further names f g (within f (here f fs)) e r
      of_imports e (inr r) = r

      of_found : is_file_of names f ≡ true → (f ≡ g) ⊎ Contains (reached (public_imports f ++ names) fs) g
          → (Contains (reached (public_imports f ++ names) fs) g → Reaches files (public_imports f ++ names) g) → Reaches files names g
      of_found e (inl same) ih = subst (λ (x : FileDescriptorProto). Reaches files names x) same (direct names f (within f (here f fs)) e)
      of_found e (inr c) ih = of_imports e (split (public_imports f) names g (ih c))

      at : (b : Bool) → is_file_of names f ≡ b → Contains (cond b (f ∷ reached (public_imports f ++ names) fs) (reached names fs)) g
          → ((others : List (List ℕ)) → Contains (reached others fs) g → Reaches files others g) → Reaches files names g
      at true e c ih = of_found e (one_of f g (reached (public_imports f ++ names) fs) c) (ih (public_imports f ++ names))
      at false e c ih = ih names c

-- ---- a file that no file before it imports

item_passes : (test : List ℕ → Bool) (xs : List (List ℕ)) (i : ℕ) (x : List ℕ) → slice_get xs i ≡ Some x → test x ≡ true → list_any test xs ≡ true
item_passes test [] i x e p = absurd (cc)
item_passes test (y ∷ ys) zero x e p = let same : y ≡ x = cc in or_left (test y) (list_any test ys) (ap test same ∙ p)
item_passes test (y ∷ ys) (suc i) x e p = or_right (test y) (list_any test ys) (item_passes test ys i x e p)

imported : (test : List ℕ → Bool) (xs : List (List ℕ)) (zs : List ℤ) → list_any test xs ≡ false → list_any test (filter_map (item_at xs) zs) ≡ false
imported test xs [] none = refl
imported test xs (z ∷ zs) none = at z (imported test xs zs none)
  where
    refuses : (i : ℕ) (x : List ℕ) → slice_get xs i ≡ Some x → (b : Bool) → test x ≡ b → b ≡ false
    refuses i x e true p = absurd (false≢true (sym none ∙ item_passes test xs i x e p))
    refuses i x e false p = refl

    pick : (i : ℕ) (o : Option (List ℕ)) → slice_get xs i ≡ o → list_any test (filter_map (item_at xs) zs) ≡ false
        → list_any test (filter_map (item_at xs) (pos i ∷ zs)) ≡ false
    pick i None e ih = rw e ih
    pick i (Some x) e ih = rw (e, refuses i x e (test x) refl) ih

    at : (y : ℤ) → list_any test (filter_map (item_at xs) zs) ≡ false → list_any test (filter_map (item_at xs) (y ∷ zs)) ≡ false
    at (pos i) ih = pick i (slice_get xs i) refl ih
    at (negsuc i) ih = ih

-- no dependency that is there has a name that none there has
unnamed : (before : List FileDescriptorProto) (o : Option (List ℕ)) (names : List (List ℕ)) → has_file before (text_or_empty o) ≡ false
    → list_all (has_file before) names ≡ true → list_any (is_named o) names ≡ false
unnamed before o [] new h = refl
unnamed before o (n ∷ ns) new h =
    let g = both (has_file before n) (list_all (has_file before) ns) h in
    rw (other o new (is_named o n) refl g.0) (unnamed before o ns new g.1)
  where
    other : (p : Option (List ℕ)) → has_file before (text_or_empty p) ≡ false → (b : Bool) → is_named p n ≡ b → has_file before n ≡ true → is_named p n ≡ false
    other None none b e k = refl
    other (Some m) none true e k = absurd (false≢true (sym none ∙ ap (has_file before) ((bytes_eq-Decides m n).0 e) ∙ k))
    other (Some m) none false e k = e

-- every file imports only files that are there
abbrev Closed : List FileDescriptorProto → Type 0
Closed files = (x : FileDescriptorProto) → Contains files x → list_all (has_file files) x.dependency ≡ true

more_files : (before : List FileDescriptorProto) (h : FileDescriptorProto) (names : List (List ℕ)) → list_all (has_file before) names ≡ true
    → list_all (has_file (before ++ h ∷ [])) names ≡ true
more_files before h [] e = refl
more_files before h (n ∷ ns) e =
    let g = both (has_file before n) (list_all (has_file before) ns) e in
    rw (list_any-append (λ (f : FileDescriptorProto). is_named f.name n) before (h ∷ []), or_left (has_file before n) (has_file (h ∷ []) n) g.0)
    (more_files before h ns g.1)

module _ (before : List FileDescriptorProto) (h : FileDescriptorProto) (closed : Closed before) (new : has_file before (text_or_empty h.name) ≡ false)
    (imports : list_all (has_file before) h.dependency ≡ true) where
  abbrev all : List FileDescriptorProto
  all = before ++ h ∷ []

  closed_more : Closed all
  closed_more x c = at (Contains-append_cases before (h ∷ []) x c)
    where
      at : Contains before x ⊎ Contains (h ∷ []) x → list_all (has_file all) x.dependency ≡ true
      at (inl k) = more_files before h x.dependency (closed x k)
      at (inr k) = of_last (one_of h x [] k)
        where
          of_last : (h ≡ x) ⊎ Contains [] x → list_all (has_file all) x.dependency ≡ true
          of_last (inl e) = subst (λ (y : FileDescriptorProto). list_all (has_file all) y.dependency ≡ true) e (more_files before h h.dependency imports)
          of_last (inr k) = none_of x k

  -- the last file is imported by none
  not_imported : (x : FileDescriptorProto) → list_all (has_file before) x.dependency ≡ true → is_file_of (public_imports x) h ≡ false
  not_imported x e = imported (is_named h.name) x.dependency x.public_dependency (unnamed before h.name x.dependency new e)

  or_last : (x : FileDescriptorProto) → Contains all x → Contains before x ⊎ (h ≡ x)
  or_last x c = at (Contains-append_cases before (h ∷ []) x c)
    where
      from_one : (h ≡ x) ⊎ Contains [] x → Contains before x ⊎ (h ≡ x)
      from_one (inl e) = inr e
      from_one (inr k) = none_of x k

      at : Contains before x ⊎ Contains (h ∷ []) x → Contains before x ⊎ (h ≡ x)
      at (inl k) = inl k
      at (inr k) = from_one (one_of h x [] k)

  -- what is reached otherwise than from the last file is before it
  without_last : (names : List (List ℕ)) (g : FileDescriptorProto) → is_file_of names h ≡ false → Reaches all names g → Reaches before names g
  without_last names g none (direct _ _ c e) = at (or_last g c)
    where
      at : Contains before g ⊎ (h ≡ g) → Reaches before names g
      at (inl k) = direct names g k e
      at (inr same) = absurd (false≢true (sym none ∙ ap (is_file_of names) same ∙ e))
  without_last names g none (further _ via _ c e r) = at (or_last via c) (λ k. without_last (public_imports via) g k r)
    where
      at : Contains before via ⊎ (h ≡ via) → (is_file_of (public_imports via) h ≡ false → Reaches before (public_imports via) g) → Reaches before names g
      at (inl k) ih = further names via g k e (ih (not_imported via (closed via k)))
      at (inr same) ih = absurd (false≢true (sym none ∙ ap (is_file_of names) same ∙ e))

  from_last : (names : List (List ℕ)) (g : FileDescriptorProto) → Reaches all names g → (h ≡ g) ⊎ Reaches before (public_imports h ++ names) g
  from_last names g (direct _ _ c e) = at (or_last g c)
    where
      at : Contains before g ⊎ (h ≡ g) → (h ≡ g) ⊎ Reaches before (public_imports h ++ names) g
      at (inl k) = inr (wider_right before (public_imports h) names g (direct names g k e))
      at (inr same) = inl same
  from_last names g (further _ via _ c e r) = at (or_last via c)
    where
      at : Contains before via ⊎ (h ≡ via) → (h ≡ g) ⊎ Reaches before (public_imports h ++ names) g
      at (inl k) =
          inr (wider_right before (public_imports h) names g
          (further names via g k e (without_last (public_imports via) g (not_imported via (closed via k)) r)))
      at (inr same) =
          let own : Reaches all (public_imports h) g = subst (λ (x : FileDescriptorProto). Reaches all (public_imports x) g) (sym same) r in
          inr (wider_left before (public_imports h) names g (without_last (public_imports h) g (not_imported h imports) own))

  -- all that is reached is found
  abbrev Complete : List FileDescriptorProto → Type 0
  Complete files = (names : List (List ℕ)) (g : FileDescriptorProto) → Reaches files names g → Contains (reached names (reverse files)) g

  complete_more : Complete before → Complete all
  complete_more complete names g r =
      subst (λ (fs : List FileDescriptorProto). Contains (reached names fs) g) (sym (reverse-append before (h ∷ []))) (at (is_file_of names h) refl)
    where
      of_last : (h ≡ g) ⊎ Reaches before (public_imports h ++ names) g → Contains (h ∷ reached (public_imports h ++ names) (reverse before)) g
      of_last (inl same) =
          subst (λ (x : FileDescriptorProto). Contains (h ∷ reached (public_imports h ++ names) (reverse before)) x) same
          (here h (reached (public_imports h ++ names) (reverse before)))
      of_last (inr k) =
          there h g (reached (public_imports h ++ names) (reverse before)) (complete (public_imports h ++ names) g k)

      at : (b : Bool) → is_file_of names h ≡ b
          → Contains (cond (is_file_of names h) (h ∷ reached (public_imports h ++ names) (reverse before)) (reached names (reverse before))) g
      at true e =
          subst (λ (b : Bool). Contains (cond b (h ∷ reached (public_imports h ++ names) (reverse before)) (reached names (reverse before))) g) (sym e)
          (of_last (from_last names g r))
      at false e =
          subst (λ (b : Bool). Contains (cond b (h ∷ reached (public_imports h ++ names) (reverse before)) (reached names (reverse before))) g) (sym e)
          (complete names g (without_last names g e r))

abbrev AllFound : List FileDescriptorProto → Type 0
AllFound files = (names : List (List ℕ)) (g : FileDescriptorProto) → Reaches files names g → Contains (reached names (reverse files)) g

found_in : (before gs : List FileDescriptorProto) → Closed before → AllFound before → AreBehind before gs → AllFound (before ++ gs)
unfolding AreBehind
found_in before [] closed found h = subst AllFound (sym (append-nil before)) found
found_in before (g ∷ gs) closed found h =
    subst AllFound (append_assoc before (g ∷ []) gs)
    (found_in (before ++ g ∷ []) gs (closed_more before g closed h.0 h.1) (complete_more before g closed h.0 h.1 found) h.2)

nothing_reached : (names : List (List ℕ)) (g : FileDescriptorProto) → Reaches [] names g → Contains [] g
nothing_reached names g (direct _ _ c e) = c
nothing_reached names g (further _ via _ c e r) = none_of via c

reversed_within : (files : List FileDescriptorProto) (x : FileDescriptorProto) → Contains (reverse files) x → Contains files x
reversed_within [] x c = c
reversed_within (f ∷ fs) x c =
    at (Contains-append_cases (reverse fs) (f ∷ []) x (subst (λ (l : List FileDescriptorProto). Contains l x) (reverse-append (f ∷ []) fs) c))
    (λ k. reversed_within fs x k)
  where
    from_one : (f ≡ x) ⊎ Contains [] x → Contains (f ∷ fs) x
    from_one (inl e) = subst (λ (y : FileDescriptorProto). Contains (f ∷ fs) y) e (here f fs)
    from_one (inr k) = none_of x k

    at : Contains (reverse fs) x ⊎ Contains (f ∷ []) x → (Contains (reverse fs) x → Contains fs x) → Contains (f ∷ fs) x
    at (inl k) ih = there f x fs (ih k)
    at (inr k) ih = from_one (one_of f x [] k)

pub reached_is_reaches : ReachedIsReaches
reached_is_reaches files names g behind = (
  λ c. sound files (reverse files) (reversed_within files) names g c,
  λ r. found_in [] files (λ x k. none_of x k) nothing_reached behind names g r,
)
