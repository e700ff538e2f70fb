-- Locations that are added one after the other.
use Rattle.std.proofs.Common.{◌≡◌, ℕ, ◌+◌, ◌<◌, ◌≤◌, List, [], ◌∷◌, ◌++◌, length, map, take, get_or, sym, ap, subst, ◌∙◌, append_assoc, append-nil, length-append, add-zero, arith}
use Rattle.std.proofs.lemmas.List.{map-append, take_more, take_all}
use Rattle.std.specs.List.{flat_map}
use Rattle.std.proofs.lemmas.Grind.{flat_map-append}
use Rattle.pbx_desc_records.specs.declared.source.Location.{Location}
use Rattle.pbx_parse_locations.specs.Locations.{numbered, Adds}

module _ {X : Type 0} (one : ℕ → X → List Location) where
  numbered-append : (i : ℕ) (xs ys : List X) → numbered one i (xs ++ ys) ≡ numbered one i xs ++ numbered one (i + length xs) ys
  numbered-append i [] ys = ap (λ n. numbered one n ys) (sym (add-zero i))
  numbered-append i (x ∷ xs) ys =
      let count : i + 1 + length xs ≡ i + length (x ∷ xs) = omega arith in
      ap (λ (l : List Location). one i x ++ l) (numbered-append (i + 1) xs ys)
      ∙ sym (append_assoc (one i x) (numbered one (i + 1) xs) (numbered one (i + 1 + length xs) ys))
      ∙ ap (λ n. (one i x ++ numbered one (i + 1) xs) ++ numbered one n ys) count

  adds_both : (xs ys : List X) (i j k : ℕ) (a b c : List Location) → Adds one xs i j a b → Adds one ys j k b c → Adds one (xs ++ ys) i k a c
  adds_both xs ys i j k a b c p q = record {
    all =
        q.all ∙ ap (λ (l : List Location). l ++ numbered one j ys) p.all
        ∙ append_assoc a (numbered one i xs) (numbered one j ys)
        ∙ ap (λ n. a ++ (numbered one i xs ++ numbered one n ys)) p.count
        ∙ ap (λ (l : List Location). a ++ l) (sym (numbered-append i xs ys));
    count = omega (arith, p.count, q.count, length-append xs ys);
  }

-- what a loop over a list has added
module _ {T Y X : Type 0} (one : ℕ → X → List Location) (f : Y → List X) (view : T → Y) (ts : List T) (n : ℕ) where
  abbrev so_far : List X
  so_far = flat_map f (map view (take n ts))

  abbrev so_far_and_next : List X
  so_far_and_next = flat_map f (map view (take (n + 1) ts))

  -- an element of which these are added
  pub goes_on : (t : T) (xs : List X) (i j k : ℕ) (a b c : List Location) → n < length ts → t ≡ get_or ts n t → f (view t) ≡ xs
      → Adds one so_far i j a b → Adds one xs j k b c → Adds one so_far_and_next i k a c
  goes_on t xs i j k a b c below is e p q =
      let split : so_far_and_next ≡ so_far ++ xs =
      ap (λ (us : List T). flat_map f (map view us)) (take_more ts n t below)
      ∙ ap (flat_map f) (map-append view (take n ts) (get_or ts n t ∷ []))
      ∙ flat_map-append f (map view (take n ts)) (view (get_or ts n t) ∷ [])
      ∙ ap (λ (ys : List X). so_far ++ ys) (append-nil (f (view (get_or ts n t))))
      ∙ ap (λ (u : T). so_far ++ f (view u)) (sym is)
      ∙ ap (λ (ys : List X). so_far ++ ys) e in
      subst (λ (ys : List X). Adds one ys i k a c) (sym split) (adds_both one so_far xs i j k a b c p q)

  -- an element of which one is added
  pub one_more : (t : T) (x : X) (i j k : ℕ) (a b c ls : List Location) → n < length ts → t ≡ get_or ts n t → f (view t) ≡ x ∷ []
      → Adds one so_far i j a b → c ≡ b ++ ls → ls ≡ one j x → k ≡ j + 1 → Adds one so_far_and_next i k a c
  one_more t x i j k a b c ls below is e p added is_one next =
      goes_on t (x ∷ []) i j k a b c below is e p
      (record { all = added ∙ ap (λ (l : List Location). b ++ l) (is_one ∙ sym (append-nil (one j x))); count = next })

  -- an element of which none is added
  pub skips : (t : T) (i j : ℕ) (a b : List Location) → n < length ts → t ≡ get_or ts n t → f (view t) ≡ []
      → Adds one so_far i j a b → Adds one so_far_and_next i j a b
  skips t i j a b below is e p =
      goes_on t [] i j j a b b below is e p (record { all = sym (append-nil b); count = sym (add-zero j) })

  -- the end of the list
  pub is_over : (i k : ℕ) (a b : List Location) → length ts ≤ n → Adds one so_far i k a b → Adds one (flat_map f (map view ts)) i k a b
  is_over i k a b past p = subst (λ (us : List T). Adds one (flat_map f (map view us)) i k a b) (take_all n ts past) p
