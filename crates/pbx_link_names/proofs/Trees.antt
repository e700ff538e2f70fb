-- Nodes of names, and a node more or less.
use Rattle.std.proofs.Common.{◌≡◌, ◌∙◌, ℕ, ◌+◌, ◌<◌, ◌≤◌, ◌&&◌, ◌||◌, List, [], ◌∷◌, ◌++◌, Bool, true, false, Option, Some, None, if◌then◌else◌, refl, ap, sym, subst, arith}
use Rattle.std.specs.Prelude.{◌==◌, reverse, is_some}
use Rattle.std.specs.Bool.{Decides}
use Rattle.std.specs.Str.{bytes_eq}
use Rattle.std.specs.Cmp.Lexicographic.{bytes_decides}
use Rattle.std.proofs.lemmas.Bool.Decides.{nat_tests}
use Rattle.std.proofs.lemmas.List.{reverse-append, reverse-reverse}
use Rattle.std.proofs.lemmas.Slice.Eq.{slice_eq-Decides}
use Rattle.pbx_link_names.specs.Packages.{Children, below, node_of, is_edge, AreTree}
use Rattle.pbx_link_names.proofs.Starts.{same, starts, starts_more}

-- ---- one part below one node

pub edge_is : (e : ℕ) (p : List ℕ) (n : ℕ) (q : List ℕ) → is_edge e p n q ≡ true → (n ≡ e) × (p ≡ q)
edge_is e p n q h = by_tests (n == e) (bytes_eq p q) refl refl h
  where
    by_tests : (a b : Bool) → (n == e) ≡ a → bytes_eq p q ≡ b → (a && b) ≡ true → (n ≡ e) × (p ≡ q)
    by_tests true true w v f = (grind (arith, nat_tests, w), (bytes_decides p q).0 v)
    by_tests true false w v f = absurd (cc)
    by_tests false b w v f = absurd (cc)

pub edge_own : (e : ℕ) (p : List ℕ) → is_edge e p e p ≡ true
edge_own e p =
    let here : (e == e) ≡ true = grind (arith, nat_tests) in
    ap (λ (a : Bool). a && bytes_eq p p) here ∙ (bytes_decides p p).1 refl

pub edge_off : (e : ℕ) (p : List ℕ) (n : ℕ) (q : List ℕ) → n < e → is_edge e p n q ≡ false
edge_off e p n q lt = let other : (n == e) ≡ false = grind (arith, nat_tests, lt) in ap (λ (a : Bool). a && bytes_eq p q) other

pub edge_above : (e : ℕ) (p : List ℕ) (n : ℕ) (q : List ℕ) → e < n → is_edge e p n q ≡ false
edge_above e p n q lt = let other : (n == e) ≡ false = grind (arith, nat_tests, lt) in ap (λ (a : Bool). a && bytes_eq p q) other

-- ---- the nodes of a tree

module _ (C : Children) (k : ℕ) (t : AreTree C k) where
  pub bounded : (ps : List (List ℕ)) (n : ℕ) → node_of C ps ≡ Some n → n < k
  unfolding node_of
  bounded [] n e = let at : 0 ≡ n = cc in subst (λ (m : ℕ). m < k) at t.0
  bounded (p ∷ ps) n e = by_node (node_of C ps) e
    where
      by_node : (o : Option ℕ) → below C p o ≡ Some n → n < k
      by_node None h = absurd (cc)
      by_node (Some m) h = (t.1 m n p h).2

  pub unique : (ps qs : List (List ℕ)) (n : ℕ) → node_of C ps ≡ Some n → node_of C qs ≡ Some n → ps ≡ qs
  unfolding node_of
  unique [] [] n e f = refl
  unique [] (q ∷ qs) n e f = by_node (node_of C qs) f
    where
      by_node : (o : Option ℕ) → below C q o ≡ Some n → [] ≡ q ∷ qs
      by_node None h = absurd (cc)
      by_node (Some m) h = let at : 0 ≡ n = cc in absurd (omega (arith, at, (t.1 m n q h).1))
  unique (p ∷ ps) [] n e f = by_node (node_of C ps) e
    where
      by_node : (o : Option ℕ) → below C p o ≡ Some n → p ∷ ps ≡ []
      by_node None h = absurd (cc)
      by_node (Some m) h = let at : 0 ≡ n = cc in absurd (omega (arith, at, (t.1 m n p h).1))
  unique (p ∷ ps) (q ∷ qs) n e f = by_nodes (node_of C ps) (node_of C qs) refl refl e f (unique ps qs)
    where
      by_nodes : (a b : Option ℕ) → node_of C ps ≡ a → node_of C qs ≡ b → below C p a ≡ Some n → below C q b ≡ Some n
          → ((m : ℕ) → node_of C ps ≡ Some m → node_of C qs ≡ Some m → ps ≡ qs) → p ∷ ps ≡ q ∷ qs
      by_nodes None b u v h g ih = absurd (cc)
      by_nodes (Some a) None u v h g ih = absurd (cc)
      by_nodes (Some a) (Some b) u v h g ih =
          let is = t.2 a b n p q h g in
          ap (λ (x : List ℕ). x ∷ ps) is.1 ∙ ap (λ (xs : List (List ℕ)). q ∷ xs) (ih a u (v ∙ ap (λ (x : ℕ). Some x) (sym is.0)))

  -- no node that is still to come has any below it
  pub childless : (n : ℕ) (q : List ℕ) → k ≤ n → C n q ≡ None
  childless n q le = by_child (C n q) refl
    where
      by_child : (o : Option ℕ) → C n q ≡ o → o ≡ None
      by_child None e = refl
      by_child (Some c) e = absurd (omega (arith, le, (t.1 n c q e).0))

  -- what is alike below the nodes of a tree has the same nodes of names
  pub same_nodes : (D : Children) → ((n : ℕ) (p : List ℕ) → n < k → D n p ≡ C n p) → (ps : List (List ℕ)) → node_of D ps ≡ node_of C ps
  unfolding node_of
  same_nodes D alike [] = refl
  same_nodes D alike (p ∷ ps) = ap (below D p) (same_nodes D alike ps) ∙ by_node (node_of C ps) refl
    where
      by_node : (o : Option ℕ) → node_of C ps ≡ o → below D p o ≡ below C p o
      by_node None e = refl
      by_node (Some n) e = alike n p (bounded ps n e)

-- nothing is behind what is not there
pub none_behind : (C : Children) (ps qs : List (List ℕ)) → node_of C qs ≡ None → node_of C (ps ++ qs) ≡ None
unfolding node_of
none_behind C [] qs h = h
none_behind C (p ∷ ps) qs h = ap (below C p) (none_behind C ps qs h)

-- what a name begins with is there with it
pub all_before : (C : Children) (ps qs : List (List ℕ)) → is_some (node_of C (ps ++ qs)) ≡ true → is_some (node_of C qs) ≡ true
all_before C ps qs h = by_node (node_of C qs) refl
  where
    by_node : (o : Option ℕ) → node_of C qs ≡ o → is_some o ≡ true
    by_node None e = absurd (let none : is_some (node_of C (ps ++ qs)) ≡ false = ap (λ (o : Option ℕ). is_some o) (none_behind C ps qs e) in cc)
    by_node (Some n) e = refl

-- ---- one node more

module _ (C D : Children) (k e : ℕ) (p : List ℕ) (t : AreTree C k) (lt : e < k) (more : (n : ℕ) (q : List ℕ) → D n q ≡ (if is_edge e p n q then Some k else C n q)) where
  pub tree_more : AreTree D (k + 1)
  tree_more = (
    omega (arith, t.0),
    λ n c q h. one n c q (is_edge e p n q) refl (sym (more n q) ∙ h),
    λ n m c q r h g. two n m c q r (is_edge e p n q) (is_edge e p m r) refl refl (sym (more n q) ∙ h) (sym (more m r) ∙ g),
  )
    where
      one : (n c : ℕ) (q : List ℕ) (b : Bool) → is_edge e p n q ≡ b → (if b then Some k else C n q) ≡ Some c → (n < k + 1) × (0 < c) × (c < k + 1)
      one n c q true w h =
          let at = (edge_is e p n q w).0 in
          let is : k ≡ c = cc in
          (omega (arith, at, lt), omega (arith, is, t.0), omega (arith, is))
      one n c q false w h = let old = t.1 n c q h in (omega (arith, old.0), old.1, omega (arith, old.2))

      two : (n m c : ℕ) (q r : List ℕ) (a b : Bool) → is_edge e p n q ≡ a → is_edge e p m r ≡ b → (if a then Some k else C n q) ≡ Some c → (if b then Some k else C m r) ≡ Some c → (n ≡ m) × (q ≡ r)
      two n m c q r true true w v h g =
          let x = edge_is e p n q w in
          let y = edge_is e p m r v in
          (x.0 ∙ sym y.0, sym x.1 ∙ y.1)
      two n m c q r true false w v h g = let is : k ≡ c = cc in absurd (omega (arith, is, (t.1 m c r g).2))
      two n m c q r false true w v h g = let is : k ≡ c = cc in absurd (omega (arith, is, (t.1 n c q h).2))
      two n m c q r false false w v h g = t.2 n m c q r h g

  -- the new node is that of these parts
  abbrev at_new : Option ℕ → List ℕ → Bool
  at_new None q = false
  at_new (Some n) q = is_edge e p n q

  abbrev is_new : List (List ℕ) → Bool
  is_new [] = false
  is_new (q ∷ qs) = at_new (node_of C qs) q

  module _ (none : C e p ≡ None) where
    new_none : (qs : List (List ℕ)) → is_new qs ≡ true → node_of C qs ≡ None
    unfolding node_of
    new_none [] h = absurd (cc)
    new_none (q ∷ qs) h = by_node (node_of C qs) h
      where
        by_node : (o : Option ℕ) → at_new o q ≡ true → below C q o ≡ None
        by_node None g = refl
        by_node (Some n) g =
            let is = edge_is e p n q g in
            subst (λ (m : ℕ). C m q ≡ None) (sym is.0) (subst (λ (r : List ℕ). C e r ≡ None) is.1 none)

    nodes_more : (qs : List (List ℕ)) → node_of D qs ≡ (if is_new qs then Some k else node_of C qs)
    unfolding node_of
    nodes_more [] = refl
    nodes_more (q ∷ qs) = ap (below D q) (nodes_more qs) ∙ by_test (is_new qs) refl
      where
        by_node : (o : Option ℕ) → below D q o ≡ (if at_new o q then Some k else below C q o)
        by_node None = refl
        by_node (Some n) = more n q

        by_test : (b : Bool) → is_new qs ≡ b → below D q (if b then Some k else node_of C qs) ≡ (if at_new (node_of C qs) q then Some k else below C q (node_of C qs))
        by_test true w =
            more k q ∙ ap (λ (b : Bool). if b then Some k else C k q) (edge_above e p k q lt) ∙ childless C k t k q (omega arith)
            ∙ sym (ap (λ (o : Option ℕ). if at_new o q then Some k else below C q o) (new_none qs w))
        by_test false w = by_node (node_of C qs)

    some_more : (qs : List (List ℕ)) → is_some (node_of D qs) ≡ (is_new qs || is_some (node_of C qs))
    some_more qs = ap (λ (o : Option ℕ). is_some o) (nodes_more qs) ∙ by_test (is_new qs)
      where
        by_test : (b : Bool) → is_some (if b then Some k else node_of C qs) ≡ (b || is_some (node_of C qs))
        by_test true = refl
        by_test false = refl

    module _ (parts : List (List ℕ)) (at : node_of C parts ≡ Some e) where
      pub new_node : node_of D (p ∷ parts) ≡ Some k
      unfolding node_of
      new_node = nodes_more (p ∷ parts) ∙ ap (λ (o : Option ℕ). if at_new o p then Some k else below C p o) at ∙ ap (λ (b : Bool). if b then Some k else C e p) (edge_own e p)

      new_is : (qs : List (List ℕ)) → is_new qs ≡ true → qs ≡ p ∷ parts
      new_is [] h = absurd (cc)
      new_is (q ∷ qs) h = by_node (node_of C qs) refl h
        where
          by_node : (o : Option ℕ) → node_of C qs ≡ o → at_new o q ≡ true → q ∷ qs ≡ p ∷ parts
          by_node None w g = absurd (cc)
          by_node (Some n) w g =
              let is = edge_is e p n q g in
              ap (λ (x : List ℕ). x ∷ qs) (sym is.1) ∙ ap (λ (xs : List (List ℕ)). p ∷ xs) (unique C k t qs parts e (w ∙ ap (λ (m : ℕ). Some m) is.0) at)

      own_new : is_new (p ∷ parts) ≡ true
      own_new = ap (λ (o : Option ℕ). at_new o p) at ∙ edge_own e p

      new_same : (qs : List (List ℕ)) → is_new qs ≡ same (reverse (p ∷ parts)) (reverse qs)
      new_same qs = by_tests (is_new qs) (same (reverse (p ∷ parts)) (reverse qs)) refl refl
        where
          decides : Decides (same (reverse (p ∷ parts)) (reverse qs)) (reverse (p ∷ parts) ≡ reverse qs)
          decides = slice_eq-Decides bytes_decides (reverse (p ∷ parts)) (reverse qs) (same (reverse (p ∷ parts)) (reverse qs)) refl

          by_tests : (a b : Bool) → is_new qs ≡ a → same (reverse (p ∷ parts)) (reverse qs) ≡ b → a ≡ b
          by_tests true true w v = refl
          by_tests false false w v = refl
          by_tests true false w v = sym (decides.1 (sym (ap reverse (new_is qs w)))) ∙ v
          by_tests false true w v =
              let is : qs ≡ p ∷ parts = sym (reverse-reverse qs) ∙ ap reverse (sym (decides.0 v)) ∙ reverse-reverse (p ∷ parts) in
              sym w ∙ ap is_new is ∙ own_new

      -- all that was there is, and with the parts what they begin with
      pub starts_here : (old : Bool) (qs : List (List ℕ)) → is_some (node_of C qs) ≡ (starts (reverse parts) (reverse qs) || old)
          → is_some (node_of D qs) ≡ (starts (reverse (p ∷ parts)) (reverse qs) || old)
      starts_here old qs so_far =
          some_more qs ∙ ap (λ (b : Bool). is_new qs || b) so_far ∙ ap (λ (b : Bool). b || (starts (reverse parts) (reverse qs) || old)) (new_same qs)
          ∙ assoc (same (reverse (p ∷ parts)) (reverse qs)) (starts (reverse parts) (reverse qs)) old
          ∙ ap (λ (b : Bool). b || old) (sym begun)
        where
          assoc : (a b c : Bool) → (a || (b || c)) ≡ ((a || b) || c)
          assoc true b c = refl
          assoc false b c = refl

          begun : starts (reverse (p ∷ parts)) (reverse qs) ≡ (same (reverse (p ∷ parts)) (reverse qs) || starts (reverse parts) (reverse qs))
          begun =
              ap (λ (xs : List (List ℕ)). starts xs (reverse qs)) (reverse-append (p ∷ []) parts) ∙ starts_more (reverse parts) p (reverse qs)
              ∙ ap (λ (xs : List (List ℕ)). same xs (reverse qs) || starts (reverse parts) (reverse qs)) (sym (reverse-append (p ∷ []) parts))

-- ---- one node less

pub tree_less : (C D : Children) (k e : ℕ) (p : List ℕ) → AreTree C k → ((n : ℕ) (q : List ℕ) → D n q ≡ (if is_edge e p n q then None else C n q)) → AreTree D k
tree_less C D k e p t less = (
  t.0,
  λ n c q h. t.1 n c q (kept n c q (is_edge e p n q) (sym (less n q) ∙ h)),
  λ n m c q r h g. t.2 n m c q r (kept n c q (is_edge e p n q) (sym (less n q) ∙ h)) (kept m c r (is_edge e p m r) (sym (less m r) ∙ g)),
)
  where
    kept : (n c : ℕ) (q : List ℕ) (b : Bool) → (if b then None else C n q) ≡ Some c → C n q ≡ Some c
    kept n c q true h = absurd (cc)
    kept n c q false h = h
