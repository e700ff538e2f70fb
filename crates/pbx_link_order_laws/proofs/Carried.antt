-- What public imports reach from names is the same in two lists of files that are the same where both have a name.
use Rattle.std.proofs.Common.{◌≡◌, ◌∙◌, ℕ, zero, suc, ℤ, pos, negsuc, ◌||◌, cond, List, [], ◌∷◌, ◌++◌, Bool, true, false, Option, Some, None, refl, ap, sym}
use Rattle.std.proofs.Common.{subst, arith}
use Rattle.std.specs.Prelude.{Contains, reverse, slice_get}
use Rattle.std.specs.List.{list_any, list_all, filter_map}
use Rattle.std.proofs.lemmas.List.Folds.{list_any-append}
use Rattle.pbx_desc_records.specs.declared.file.FileDescriptorProto.{FileDescriptorProto}
use Rattle.pbx_link_definitions.specs.Names.{is_named}
use Rattle.pbx_link_scope.specs.Pooled.{has_file}
use Rattle.pbx_link_scope.specs.Scope.{item_at, public_imports, is_file_of, reached}
use Rattle.pbx_link_rules.specs.PoolLaws.{AreBehind, Reaches}
use Rattle.pbx_link_rules.specs.PoolLaws.Reaches.{direct, further}
use Rattle.pbx_link_rules.proofs.Reached.{reached_is_reaches}
use Rattle.pbx_link_order_laws.proofs.Searched.{both_so, passing, all_at}

abbrev File : Type 0
File = FileDescriptorProto

-- ---- public imports are imports

item_passes : (test : List ℕ → Bool) (xs : List (List ℕ)) (i : ℕ) (x : List ℕ) → slice_get xs i ≡ Some x → list_all test xs ≡ true → test x ≡ true
item_passes test [] i x e h = absurd (cc)
item_passes test (y ∷ ys) zero x e h = let same : y ≡ x = cc in ap test (sym same) ∙ (both_so (test y) (list_all test ys) h).0
item_passes test (y ∷ ys) (suc i) x e h = item_passes test ys i x e (both_so (test y) (list_all test ys) h).1

all_picked : (test : List ℕ → Bool) (xs : List (List ℕ)) (zs : List ℤ) → list_all test xs ≡ true → list_all test (filter_map (item_at xs) zs) ≡ true
all_picked test xs [] h = refl
all_picked test xs (z ∷ zs) h = at z (all_picked test xs zs h)
  where
    pick : (i : ℕ) (o : Option (List ℕ)) → slice_get xs i ≡ o → list_all test (filter_map (item_at xs) zs) ≡ true
        → list_all test (filter_map (item_at xs) (pos i ∷ zs)) ≡ true
    pick i None e ih = rw e ih
    pick i (Some x) e ih = rw (e, item_passes test xs i x e h) ih

    at : (y : ℤ) → list_all test (filter_map (item_at xs) zs) ≡ true → list_all test (filter_map (item_at xs) (y ∷ zs)) ≡ true
    at (pos i) ih = pick i (slice_get xs i) refl ih
    at (negsuc i) ih = ih

-- ---- from one list of files to another

module _ (files others : List File)
    (one : (x y : File) (n : List ℕ) → Contains files x → Contains others y → is_named x.name n ≡ true → is_named y.name n ≡ true → x ≡ y)
    (closed : (x : File) → Contains others x → list_all (has_file others) x.dependency ≡ true) where
  -- a file that has one of these names is among the others, where these have all the names
  there_too : (names : List (List ℕ)) (x : File) → list_all (has_file others) names ≡ true → Contains files x → is_file_of names x ≡ true → Contains others x
  there_too names x all c e =
      let p = passing (is_named x.name) names e in
      let q = passing (λ (y : File). is_named y.name p.0) others (all_at (has_file others) names p.0 all p.1) in
      subst (Contains others) (sym (one x q.0 p.0 c q.1 p.2 q.2)) q.1

  carried : (names : List (List ℕ)) (x : File) → list_all (has_file others) names ≡ true → Reaches files names x → Reaches others names x
  carried names x all (direct _ _ c e) = direct names x (there_too names x all c e) e
  carried names x all (further _ via _ c e r) =
      let d = there_too names via all c e in
      further names via x d e (carried (public_imports via) x (all_picked (has_file others) via.dependency via.public_dependency (closed via d)) r)

  pub reached_too : AreBehind [] files → AreBehind [] others → (names : List (List ℕ)) (x : File) → list_all (has_file others) names ≡ true
      → Contains (reached names (reverse files)) x → Contains (reached names (reverse others)) x
  reached_too behind behind' names x all c =
      (reached_is_reaches others names x behind').1 (carried names x all ((reached_is_reaches files names x behind).0 c))

-- a file that is reached has a name
pub reached_name : (names : List (List ℕ)) (fs : List File) (x : File) → Contains (reached names fs) x → (n : List ℕ) × (is_named x.name n ≡ true)
reached_name names [] x c = absurd (omega (arith, c.1))
reached_name names (f ∷ fs) x c = at (is_file_of names f) refl c (λ others k. reached_name others fs x k)
  where
    at : (b : Bool) → is_file_of names f ≡ b → Contains (cond b (f ∷ reached (public_imports f ++ names) fs) (reached names fs)) x
        → ((others : List (List ℕ)) → Contains (reached others fs) x → (n : List ℕ) × (is_named x.name n ≡ true)) → (n : List ℕ) × (is_named x.name n ≡ true)
    at true e (zero, lt, same) ih =
        let p = passing (is_named f.name) names e in
        (p.0, ap (λ (g : File). is_named g.name p.0) (sym same) ∙ p.2)
    at true e (suc i, lt, same) ih = ih (public_imports f ++ names) (i, omega (arith, lt), same)
    at false e k ih = ih names k

pub reached_within : (names : List (List ℕ)) (fs : List File) (x : File) → Contains (reached names fs) x → Contains fs x
reached_within names [] x c = c
reached_within names (f ∷ fs) x c = at (is_file_of names f) c (λ others k. reached_within others fs x k)
  where
    more : Contains fs x → Contains (f ∷ fs) x
    more (i, lt, same) = (suc i, omega (arith, lt), same)

    at : (b : Bool) → Contains (cond b (f ∷ reached (public_imports f ++ names) fs) (reached names fs)) x
        → ((others : List (List ℕ)) → Contains (reached others fs) x → Contains fs x) → Contains (f ∷ fs) x
    at true (zero, lt, same) ih = (zero, omega arith, same)
    at true (suc i, lt, same) ih = more (ih (public_imports f ++ names) (i, omega (arith, lt), same))
    at false k ih = more (ih names k)

-- ---- files in two parts

-- the names that are looked for behind these files
abbrev pub names_behind : List (List ℕ) → List File → List (List ℕ)
names_behind names [] = names
names_behind names (f ∷ fs) = cond (is_file_of names f) (names_behind (public_imports f ++ names) fs) (names_behind names fs)

pub reached_joined : (names : List (List ℕ)) (xs ys : List File) → reached names (xs ++ ys) ≡ reached names xs ++ reached (names_behind names xs) ys
reached_joined names [] ys = refl
reached_joined names (x ∷ xs) ys = at (is_file_of names x) (reached_joined (public_imports x ++ names) xs ys) (reached_joined names xs ys)
  where
    at : (b : Bool)
        → reached (public_imports x ++ names) (xs ++ ys) ≡ reached (public_imports x ++ names) xs ++ reached (names_behind (public_imports x ++ names) xs) ys
        → reached names (xs ++ ys) ≡ reached names xs ++ reached (names_behind names xs) ys
        → cond b (x ∷ reached (public_imports x ++ names) (xs ++ ys)) (reached names (xs ++ ys))
        ≡ cond b (x ∷ reached (public_imports x ++ names) xs) (reached names xs)
        ++ reached (cond b (names_behind (public_imports x ++ names) xs) (names_behind names xs)) ys
    at true e f = ap (λ (l : List File). x ∷ l) e
    at false e f = f

turned : (a b c : Bool) → ((a || b) || c) ≡ (b || (a || c))
turned true true c = refl
turned true false c = refl
turned false true c = refl
turned false false c = refl

or_false : (b : Bool) → b ≡ (b || false)
or_false true = refl
or_false false = refl

-- they are those from before, and the public imports of what was reached
pub names_behind_are : (names : List (List ℕ)) (xs : List File) (h : File)
    → is_file_of (names_behind names xs) h ≡ (is_file_of names h || list_any (λ (g : File). is_file_of (public_imports g) h) (reached names xs))
names_behind_are names [] h = or_false (is_file_of names h)
names_behind_are names (x ∷ xs) h = at (is_file_of names x) (names_behind_are (public_imports x ++ names) xs h) (names_behind_are names xs h)
  where
    imported : File → Bool
    imported g = is_file_of (public_imports g) h

    at : (b : Bool)
        → is_file_of (names_behind (public_imports x ++ names) xs) h
        ≡ (is_file_of (public_imports x ++ names) h || list_any imported (reached (public_imports x ++ names) xs))
        → is_file_of (names_behind names xs) h ≡ (is_file_of names h || list_any imported (reached names xs))
        → is_file_of (cond b (names_behind (public_imports x ++ names) xs) (names_behind names xs)) h
        ≡ (is_file_of names h || list_any imported (cond b (x ∷ reached (public_imports x ++ names) xs) (reached names xs)))
    at true e f =
        e ∙ ap (λ (c : Bool). c || list_any imported (reached (public_imports x ++ names) xs)) (list_any-append (is_named h.name) (public_imports x) names)
        ∙ turned (is_file_of (public_imports x) h) (is_file_of names h) (list_any imported (reached (public_imports x ++ names) xs))
    at false e f = f

-- what is reached goes by which files are looked for
pub reached_alike : (ns ms : List (List ℕ)) → ((h : File) → is_file_of ns h ≡ is_file_of ms h) → (xs : List File) → reached ns xs ≡ reached ms xs
reached_alike ns ms same [] = refl
reached_alike ns ms same (x ∷ xs) =
    ap (λ (b : Bool). cond b (x ∷ reached (public_imports x ++ ns) xs) (reached ns xs)) (same x)
    ∙ ap (λ (l : List File). cond (is_file_of ms x) (x ∷ l) (reached ns xs))
    (reached_alike (public_imports x ++ ns) (public_imports x ++ ms) (λ h. list_any-append (is_named h.name) (public_imports x) ns
    ∙ ap (λ (b : Bool). is_file_of (public_imports x) h || b) (same h) ∙ sym (list_any-append (is_named h.name) (public_imports x) ms)) xs)
    ∙ ap (λ (l : List File). cond (is_file_of ms x) (x ∷ reached (public_imports x ++ ms) xs) l) (reached_alike ns ms same xs)
