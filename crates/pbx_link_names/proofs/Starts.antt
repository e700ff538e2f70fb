-- Names as their parts, and what they begin with.
use Rattle.std.proofs.Common.{◌≡◌, ◌≢◌, ◌∙◌, ℕ, suc, ◌<◌, ◌&&◌, ◌||◌, List, [], ◌∷◌, ◌++◌, map, length, get_or, Bool, true, false, if◌then◌else◌, refl, ap, sym, arith}
use Rattle.std.specs.Prelude.{◌==◌}
use Rattle.std.specs.Str.{bytes_eq}
use Rattle.std.specs.Cmp.Lexicographic.{pointwise}
use Rattle.std.proofs.lemmas.Bool.Decides.{nat_tests}
use Rattle.pbx_link_definitions.specs.Names.{among, prefixes, first_part, name_parts, with_front}

-- both are the same parts
abbrev pub same : List (List ℕ) → List (List ℕ) → Bool
same xs ys = pointwise bytes_eq xs ys

-- the parts begin with these
unfoldable pub starts : List (List ℕ) → List (List ℕ) → Bool
starts xs [] = true
starts [] (y ∷ ys) = false
starts (x ∷ xs) (y ∷ ys) = bytes_eq x y && starts xs ys

-- ---- one part more

or_true : (b : Bool) → (b || true) ≡ true
or_true true = refl
or_true false = refl

or_false : (b : Bool) → b ≡ (b || false)
or_false true = refl
or_false false = refl

and_false : (b : Bool) → (b && false) ≡ false
and_false true = refl
and_false false = refl

both_or : (a b c : Bool) → (a && (b || c)) ≡ ((a && b) || (a && c))
both_or true b c = refl
both_or false b c = refl

pub starts_more : (xs : List (List ℕ)) (p : List ℕ) (ys : List (List ℕ)) → starts (xs ++ p ∷ []) ys ≡ (same (xs ++ p ∷ []) ys || starts xs ys)
unfolding starts
starts_more xs p [] = sym (or_true (same (xs ++ p ∷ []) []))
starts_more [] p (y ∷ []) = or_false (bytes_eq p y && true)
starts_more [] p (y ∷ z ∷ ys) = or_false (bytes_eq p y && false)
starts_more (x ∷ xs) p (y ∷ ys) = ap (λ (b : Bool). bytes_eq x y && b) (starts_more xs p ys) ∙ both_or (bytes_eq x y) (same (xs ++ p ∷ []) ys) (starts xs ys)

-- ---- the parts of a name

some_parts : (name : List ℕ) (P : List (List ℕ) → Type 0) → ((x : List ℕ) (xs : List (List ℕ)) → P (x ∷ xs)) → P (name_parts name)
unfolding name_parts
some_parts [] P h = h [] []
some_parts (b ∷ bs) P h = by_test (b == 46)
  where
    front : (ps : List (List ℕ)) → P (with_front b ps)
    front [] = h (b ∷ []) []
    front (p ∷ ps) = h (b ∷ p) ps

    by_test : (c : Bool) → P (if c then [] ∷ name_parts bs else with_front b (name_parts bs))
    by_test true = h [] (name_parts bs)
    by_test false = front (name_parts bs)

pub one_part : (s : List ℕ) → ((i : ℕ) → i < length s → get_or s i 0 ≢ 46) → name_parts s ≡ s ∷ []
unfolding name_parts
one_part [] h = refl
one_part (b ∷ bs) h = by_test (b == 46) refl (one_part bs (λ i lt. h (suc i) (omega (arith, lt))))
  where
    by_test : (c : Bool) → b == 46 ≡ c → name_parts bs ≡ bs ∷ [] → (if c then [] ∷ name_parts bs else with_front b (name_parts bs)) ≡ (b ∷ bs) ∷ []
    by_test true w ih = absurd (h 0 (omega arith) (grind (arith, nat_tests, w)))
    by_test false w ih = ap (with_front b) ih

pub more_parts : (xs ys : List ℕ) → ((i : ℕ) → i < length xs → get_or xs i 0 ≢ 46) → name_parts (xs ++ 46 ∷ ys) ≡ xs ∷ name_parts ys
unfolding name_parts
more_parts [] ys h = refl
more_parts (b ∷ bs) ys h = by_test (b == 46) refl (more_parts bs ys (λ i lt. h (suc i) (omega (arith, lt))))
  where
    by_test : (c : Bool) → b == 46 ≡ c → name_parts (bs ++ 46 ∷ ys) ≡ bs ∷ name_parts ys
        → (if c then [] ∷ name_parts (bs ++ 46 ∷ ys) else with_front b (name_parts (bs ++ 46 ∷ ys))) ≡ (b ∷ bs) ∷ name_parts ys
    by_test true w ih = absurd (h 0 (omega arith) (grind (arith, nat_tests, w)))
    by_test false w ih = ap (with_front b) ih

pub whole_first : (s : List ℕ) → ((i : ℕ) → i < length s → get_or s i 0 ≢ 46) → s ≡ first_part s
unfolding first_part
whole_first [] h = refl
whole_first (b ∷ bs) h = by_test (b == 46) refl (whole_first bs (λ i lt. h (suc i) (omega (arith, lt))))
  where
    by_test : (c : Bool) → b == 46 ≡ c → bs ≡ first_part bs → b ∷ bs ≡ (if c then [] else b ∷ first_part bs)
    by_test true w ih = absurd (h 0 (omega arith) (grind (arith, nat_tests, w)))
    by_test false w ih = ap (λ (t : List ℕ). b ∷ t) ih

pub cut_first : (xs ys : List ℕ) → ((i : ℕ) → i < length xs → get_or xs i 0 ≢ 46) → xs ≡ first_part (xs ++ 46 ∷ ys)
unfolding first_part
cut_first [] ys h = refl
cut_first (b ∷ bs) ys h = by_test (b == 46) refl (cut_first bs ys (λ i lt. h (suc i) (omega (arith, lt))))
  where
    by_test : (c : Bool) → b == 46 ≡ c → bs ≡ first_part (bs ++ 46 ∷ ys) → b ∷ bs ≡ (if c then [] else b ∷ first_part (bs ++ 46 ∷ ys))
    by_test true w ih = absurd (h 0 (omega arith) (grind (arith, nat_tests, w)))
    by_test false w ih = ap (λ (t : List ℕ). b ∷ t) ih

-- the first of the parts is the first part
pub first_of_parts : (s : List ℕ) → (ps : List (List ℕ)) × (name_parts s ≡ first_part s ∷ ps)
unfolding name_parts first_part
first_of_parts [] = ([], refl)
first_of_parts (b ∷ bs) = by_test (b == 46) (first_of_parts bs)
  where
    by_test : (c : Bool) → (ps : List (List ℕ)) × (name_parts bs ≡ first_part bs ∷ ps)
        → (ps : List (List ℕ)) × ((if c then [] ∷ name_parts bs else with_front b (name_parts bs)) ≡ (if c then [] else b ∷ first_part bs) ∷ ps)
    by_test true ih = (name_parts bs, refl)
    by_test false ih = (ih.0, ap (with_front b) ih.1)

-- ---- what a name begins with

either_part : (a b c : Bool) → ((a && b) || (a && c)) ≡ (a && (b || c))
either_part true b c = refl
either_part false b c = refl

among_longer : (b c : ℕ) (cs : List ℕ) (ps : List (List ℕ)) → among (map (λ p. b ∷ p) ps) (c ∷ cs) ≡ (b == c && among ps cs)
among_longer b c cs [] = sym (and_false (b == c))
among_longer b c cs (p ∷ ps) =
    ap (λ (d : Bool). bytes_eq (b ∷ p) (c ∷ cs) || d) (among_longer b c cs ps) ∙ either_part (b == c) (bytes_eq p cs) (among ps cs)

none_empty : (b : ℕ) (ps : List (List ℕ)) → among (map (λ p. b ∷ p) ps) [] ≡ false
none_empty b [] = refl
none_empty b (p ∷ ps) = none_empty b ps

among_next : (b c : ℕ) (bs cs : List ℕ) → among (prefixes (b ∷ bs)) (c ∷ cs) ≡ (b == c && among (prefixes bs) cs)
unfolding prefixes
among_next b c bs cs = by_test (b == 46)
  where
    by_test : (d : Bool)
        → among (if d then [] ∷ map (λ p. b ∷ p) (prefixes bs) else map (λ p. b ∷ p) (prefixes bs)) (c ∷ cs) ≡ (b == c && among (prefixes bs) cs)
    by_test true = among_longer b c cs (prefixes bs)
    by_test false = among_longer b c cs (prefixes bs)

-- the names that a name begins with are those whose parts its parts begin with
pub starts_is : (name q : List ℕ) → among (prefixes name) q ≡ starts (name_parts name) (name_parts q)
unfolding prefixes name_parts starts
starts_is [] [] = refl
starts_is [] (c ∷ cs) = by_test (c == 46)
  where
    front : (ps : List (List ℕ)) → false ≡ starts ([] ∷ []) (with_front c ps)
    front [] = refl
    front (p ∷ ps) = refl

    by_test : (d : Bool) → false ≡ starts ([] ∷ []) (if d then [] ∷ name_parts cs else with_front c (name_parts cs))
    by_test true = some_parts cs (λ (ps : List (List ℕ)). false ≡ starts [] ps) (λ x xs. refl)
    by_test false = front (name_parts cs)
starts_is (b ∷ bs) [] = by_test (b == 46)
  where
    front : (ps : List (List ℕ)) → false ≡ starts (with_front b ps) ([] ∷ [])
    front [] = refl
    front (p ∷ ps) = refl

    by_test : (d : Bool) → among (if d then [] ∷ map (λ p. b ∷ p) (prefixes bs) else map (λ p. b ∷ p) (prefixes bs)) []
        ≡ starts (if d then [] ∷ name_parts bs else with_front b (name_parts bs)) ([] ∷ [])
    by_test true = refl
    by_test false = none_empty b (prefixes bs) ∙ front (name_parts bs)
starts_is (b ∷ bs) (c ∷ cs) = among_next b c bs cs ∙ ap (λ (d : Bool). b == c && d) (starts_is bs cs) ∙ by_tests (b == 46) (c == 46) refl refl
  where
    ps : List (List ℕ)
    ps = name_parts bs

    qs : List (List ℕ)
    qs = name_parts cs

    neither : (xs ys : List (List ℕ)) → 0 < length xs → 0 < length ys → (b == c && starts xs ys) ≡ starts (with_front b xs) (with_front c ys)
    neither [] ys h g = absurd (omega (arith, h))
    neither (x ∷ xs) [] h g = absurd (omega (arith, g))
    neither (x ∷ xs) (y ∷ ys) h g = assoc (b == c) (bytes_eq x y) (starts xs ys)
      where
        assoc : (p q r : Bool) → (p && (q && r)) ≡ ((p && q) && r)
        assoc true q r = refl
        assoc false q r = refl

    filled : (s : List ℕ) → 0 < length (name_parts s)
    filled s = some_parts s (λ (xs : List (List ℕ)). 0 < length xs) (λ x xs. omega arith)

    first_dot : (ys : List (List ℕ)) → false ≡ starts ([] ∷ ps) (with_front c ys)
    first_dot [] = refl
    first_dot (y ∷ ys) = refl

    second_dot : (xs : List (List ℕ)) → false ≡ starts (with_front b xs) ([] ∷ qs)
    second_dot [] = refl
    second_dot (x ∷ xs) = refl

    by_tests : (d e : Bool) → b == 46 ≡ d → c == 46 ≡ e → (b == c && starts ps qs)
        ≡ starts (if d then [] ∷ name_parts bs else with_front b (name_parts bs)) (if e then [] ∷ name_parts cs else with_front c (name_parts cs))
    by_tests true true w v = let is : (b == c) ≡ true = grind (arith, nat_tests, w, v) in ap (λ (a : Bool). a && starts ps qs) is
    by_tests true false w v = let is : (b == c) ≡ false = grind (arith, nat_tests, w, v) in ap (λ (a : Bool). a && starts ps qs) is ∙ first_dot qs
    by_tests false true w v = let is : (b == c) ≡ false = grind (arith, nat_tests, w, v) in ap (λ (a : Bool). a && starts ps qs) is ∙ second_dot ps
    by_tests false false w v = neither ps qs (filled bs) (filled cs)
