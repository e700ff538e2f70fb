-- Keys are in one order, and pairs by ascending key may be taken again.
use Rattle.std.proofs.Common.{◌≡◌, ℕ, Bool, true, false, nat_lt, List, [], ◌∷◌, ◌++◌, refl, sym, ap, ◌∙◌, arith, inl, inr}
use Rattle.std.specs.Prelude.{ℤ, pos, negsuc, int_lt}
use Rattle.std.proofs.lemmas.Bool.Decides.{nat_tests}
use Rattle.std.proofs.lemmas.Bool.{cases_lt}
use Rattle.pbx_content.specs.Content.{Key, truth_key, number_key, text_key, bytes_before, key_before, Val, Pairs, no_pairs, pair, with_pair, by_key}
use Rattle.pbx_content.specs.Onto.{pair_list}

-- ---- an order

-- how two stand to each other
pub data Compared {A : Type 0} (before : A → A → Bool) (a b : A) : Type 0 where
  first : before a b ≡ true → before b a ≡ false → Compared before a b
  same : a ≡ b → before a b ≡ false → before b a ≡ false → Compared before a b
  later : before b a ≡ true → before a b ≡ false → Compared before a b

nat_compared : (a b : ℕ) → Compared nat_lt a b
nat_compared a b = elim (cases_lt a b) [
  | inl lt ↦ first (grind (arith, nat_tests)) (grind (arith, nat_tests))
  | inr le ↦ elim (cases_lt b a) [
    | inl lt ↦ later (grind (arith, nat_tests)) (grind (arith, nat_tests))
    | inr ge ↦ (let e : a ≡ b = omega arith in same e (grind (arith, nat_tests)) (grind (arith, nat_tests)))
  ]
]

bytes_compared : (a b : List ℕ) → Compared bytes_before a b
bytes_compared [] [] = same refl refl refl
bytes_compared [] (b ∷ bs) = first refl refl
bytes_compared (a ∷ as') [] = later refl refl
bytes_compared (a ∷ as') (b ∷ bs) = at (nat_compared a b) (bytes_compared as' bs)
  where
    at : Compared nat_lt a b → Compared bytes_before as' bs → Compared bytes_before (a ∷ as') (b ∷ bs)
    at (first e d) c = first (rw e refl) (rw (d, e) refl)
    at (later e d) c = later (rw e refl) (rw (d, e) refl)
    at (same e d f) (first p q) = first (rw (d, f) p) (rw (f, d) q)
    at (same e d f) (later p q) = later (rw (f, d) p) (rw (d, f) q)
    at (same e d f) (same p q r) = same (rw (e, p) refl) (rw (d, f) q) (rw (f, d) r)

int_compared : (a b : ℤ) → Compared int_lt a b
int_compared (pos a) (pos b) = at (nat_compared a b)
  where
    at : Compared nat_lt a b → Compared int_lt (pos a) (pos b)
    at (first e d) = first e d
    at (later e d) = later e d
    at (same e d f) = same (ap pos e) d f
int_compared (pos a) (negsuc b) = later refl refl
int_compared (negsuc a) (pos b) = first refl refl
int_compared (negsuc a) (negsuc b) = at (nat_compared a b)
  where
    at : Compared nat_lt a b → Compared int_lt (negsuc a) (negsuc b)
    at (first e d) = later e d
    at (later e d) = first e d
    at (same e d f) = same (ap negsuc e) f d

nat_follows : (a b c : ℕ) → nat_lt a b ≡ true → nat_lt b c ≡ true → nat_lt a c ≡ true
nat_follows a b c e d = grind (arith, nat_tests)

int_follows : (a b c : ℤ) → int_lt a b ≡ true → int_lt b c ≡ true → int_lt a c ≡ true
int_follows (pos a) (pos b) (pos c) e d = nat_follows a b c e d
int_follows (pos a) (pos b) (negsuc c) e d = absurd cc
int_follows (pos a) (negsuc b) c e d = absurd cc
int_follows (negsuc a) (pos b) (pos c) e d = refl
int_follows (negsuc a) (pos b) (negsuc c) e d = absurd cc
int_follows (negsuc a) (negsuc b) (pos c) e d = refl
int_follows (negsuc a) (negsuc b) (negsuc c) e d = nat_follows c b a d e

pub key_compared : (k l : Key) → Compared key_before k l
key_compared (truth_key true) (truth_key true) = same refl refl refl
key_compared (truth_key true) (truth_key false) = later refl refl
key_compared (truth_key false) (truth_key true) = first refl refl
key_compared (truth_key false) (truth_key false) = same refl refl refl
key_compared (truth_key a) (number_key b) = first refl refl
key_compared (truth_key a) (text_key b) = first refl refl
key_compared (number_key a) (truth_key b) = later refl refl
key_compared (number_key a) (number_key b) = at (int_compared a b)
  where
    at : Compared int_lt a b → Compared key_before (number_key a) (number_key b)
    at (first e d) = first e d
    at (later e d) = later e d
    at (same e d f) = same (ap number_key e) d f
key_compared (number_key a) (text_key b) = first refl refl
key_compared (text_key a) (truth_key b) = later refl refl
key_compared (text_key a) (number_key b) = later refl refl
key_compared (text_key a) (text_key b) = at (bytes_compared a b)
  where
    at : Compared bytes_before a b → Compared key_before (text_key a) (text_key b)
    at (first e d) = first e d
    at (later e d) = later e d
    at (same e d f) = same (ap text_key e) d f

bytes_follow : (a b c : List ℕ) → bytes_before a b ≡ true → bytes_before b c ≡ true → bytes_before a c ≡ true
bytes_follow [] [] c e d = absurd cc
bytes_follow [] (b ∷ bs) [] e d = absurd cc
bytes_follow [] (b ∷ bs) (c ∷ cs) e d = refl
bytes_follow (a ∷ as') [] c e d = absurd cc
bytes_follow (a ∷ as') (b ∷ bs) [] e d = absurd cc
bytes_follow (a ∷ as') (b ∷ bs) (c ∷ cs) e d = at (nat_compared a b) (nat_compared b c) e d (bytes_follow as' bs cs)
  where
    at : Compared nat_lt a b → Compared nat_lt b c → bytes_before (a ∷ as') (b ∷ bs) ≡ true → bytes_before (b ∷ bs) (c ∷ cs) ≡ true
        → (bytes_before as' bs ≡ true → bytes_before bs cs ≡ true → bytes_before as' cs ≡ true)
        → bytes_before (a ∷ as') (c ∷ cs) ≡ true
    at (later p q) y e d ih = absurd (let bad : false ≡ true = sym (rw (q, p) refl) ∙ e in cc)
    at x (later p q) e d ih = absurd (let bad : false ≡ true = sym (rw (q, p) refl) ∙ d in cc)
    at (first p q) (first r s) e d ih = let lt : nat_lt a c ≡ true = grind (arith, nat_tests) in rw lt refl
    at (first p q) (same r s t) e d ih = let lt : nat_lt a c ≡ true = grind (arith, nat_tests) in rw lt refl
    at (same p q u) (first r s) e d ih = let lt : nat_lt a c ≡ true = grind (arith, nat_tests) in rw lt refl
    at (same p q u) (same r s t) e d ih =
        let here : bytes_before (a ∷ as') (c ∷ cs) ≡ bytes_before as' cs = rw (p, s, t) refl in
        here ∙ ih (sym (rw (q, u) refl) ∙ e) (sym (rw (s, t) refl) ∙ d)

pub key_follows : (k l m : Key) → key_before k l ≡ true → key_before l m ≡ true → key_before k m ≡ true
key_follows (truth_key false) (truth_key true) (truth_key c) e d = absurd cc
key_follows (truth_key false) (truth_key true) (number_key c) e d = refl
key_follows (truth_key false) (truth_key true) (text_key c) e d = refl
key_follows (truth_key false) (truth_key false) m e d = absurd cc
key_follows (truth_key true) (truth_key b) m e d = absurd cc
key_follows (truth_key a) (number_key b) (truth_key c) e d = absurd cc
key_follows (truth_key a) (number_key b) (number_key c) e d = refl
key_follows (truth_key a) (number_key b) (text_key c) e d = refl
key_follows (truth_key a) (text_key b) (truth_key c) e d = absurd cc
key_follows (truth_key a) (text_key b) (number_key c) e d = absurd cc
key_follows (truth_key a) (text_key b) (text_key c) e d = refl
key_follows (number_key a) (truth_key b) m e d = absurd cc
key_follows (number_key a) (number_key b) (truth_key c) e d = absurd cc
key_follows (number_key a) (number_key b) (number_key c) e d = int_follows a b c e d
key_follows (number_key a) (number_key b) (text_key c) e d = refl
key_follows (number_key a) (text_key b) (truth_key c) e d = absurd cc
key_follows (number_key a) (text_key b) (number_key c) e d = absurd cc
key_follows (number_key a) (text_key b) (text_key c) e d = refl
key_follows (text_key a) (truth_key b) m e d = absurd cc
key_follows (text_key a) (number_key b) m e d = absurd cc
key_follows (text_key a) (text_key b) (truth_key c) e d = absurd cc
key_follows (text_key a) (text_key b) (number_key c) e d = absurd cc
key_follows (text_key a) (text_key b) (text_key c) e d = bytes_follow a b c e d

-- ---- pairs behind others

-- of one key the first stays
absorbs : (k : Key) (v w : Val) (ps : Pairs) → key_before k k ≡ false → with_pair k v (with_pair k w ps) ≡ with_pair k w ps
absorbs k v w no_pairs e = rw e refl
absorbs k v w (pair m u qs) e = at (key_compared k m) (absorbs k v w qs e)
  where
    at : Compared key_before k m → with_pair k v (with_pair k w qs) ≡ with_pair k w qs
        → with_pair k v (with_pair k w (pair m u qs)) ≡ with_pair k w (pair m u qs)
    at (first p q) ih = rw (p, e) refl
    at (later p q) ih = simp (p, q) (ap (λ (x : Pairs). pair m u x) ih)
    at (same s p q) ih = simp (p, q) refl

-- of two keys the order does not matter
commutes : (k l : Key) (v w : Val) (ps : Pairs) → key_before l k ≡ true → key_before k l ≡ false
    → with_pair k v (with_pair l w ps) ≡ with_pair l w (with_pair k v ps)
commutes k l v w no_pairs e d = rw (d, e) refl
commutes k l v w (pair m u qs) e d = at (key_compared l m) (key_compared k m) (commutes k l v w qs e d)
  where
    at : Compared key_before l m → Compared key_before k m → with_pair k v (with_pair l w qs) ≡ with_pair l w (with_pair k v qs)
        → with_pair k v (with_pair l w (pair m u qs)) ≡ with_pair l w (with_pair k v (pair m u qs))
    at (first p q) (first r s) ih = simp (p, r, d, e) refl
    at (first p q) (later r s) ih = simp (p, s, r, d, e) refl
    at (first p q) (same t r s) ih = simp (p, r, s, d, e) refl
    at (later p q) (later r s) ih = simp (p, q, r, s) (ap (λ (x : Pairs). pair m u x) ih)
    at (later p q) (first r s) ih = absurd (let bad = key_follows m l k p e in cc)
    at (later p q) (same t r s) ih = absurd (let bad = key_follows m l k p e in cc)
    at (same t p q) (later r s) ih = simp (p, q, r, s) refl
    at (same t p q) (first r s) ih = absurd (let here : key_before m k ≡ true = ap (λ x. key_before x k) (sym t) ∙ e in cc)
    at (same t p q) (same u r s) ih = absurd (let here : key_before m k ≡ true = ap (λ x. key_before x k) (sym t) ∙ e in cc)

-- pairs with these in front, of each key the last
abbrev onto_pairs : List (Key × Val) → Pairs → Pairs
onto_pairs [] qs = qs
onto_pairs (p ∷ ps) qs = with_pair p.0 p.1 (onto_pairs ps qs)

onto_with : (k : Key) (v : Val) (ps qs : Pairs) → onto_pairs (pair_list (with_pair k v ps)) qs ≡ with_pair k v (onto_pairs (pair_list ps) qs)
onto_with k v no_pairs qs = refl
onto_with k v (pair l w ps) qs = at (key_compared k l) (onto_with k v ps qs)
  where
    at : Compared key_before k l → onto_pairs (pair_list (with_pair k v ps)) qs ≡ with_pair k v (onto_pairs (pair_list ps) qs)
        → onto_pairs (pair_list (with_pair k v (pair l w ps))) qs ≡ with_pair k v (with_pair l w (onto_pairs (pair_list ps) qs))
    at (first p q) ih = rw p refl
    at (later p q) ih = rw (q, p) (ap (with_pair l w) ih ∙ sym (commutes k l v w (onto_pairs (pair_list ps) qs) p q))
    at (same e p q) ih =
        let own : key_before l l ≡ false = ap (λ x. key_before x l) (sym e) ∙ p in
        rw (p, q, e) (sym (absorbs l v w (onto_pairs (pair_list ps) qs) own))

onto_again : (ps : List (Key × Val)) (qs : Pairs) → onto_pairs (pair_list (by_key ps)) qs ≡ onto_pairs ps qs
onto_again [] qs = refl
onto_again (p ∷ ps) qs = onto_with p.0 p.1 (by_key ps) qs ∙ ap (with_pair p.0 p.1) (onto_again ps qs)

by_key-append : (ps qs : List (Key × Val)) → by_key (ps ++ qs) ≡ onto_pairs ps (by_key qs)
by_key-append [] qs = refl
by_key-append (p ∷ ps) qs = ap (with_pair p.0 p.1) (by_key-append ps qs)

-- Pairs by ascending key, taken again with others behind them, are the pairs that they were made of with those.
pub by_key-again : (ps qs : List (Key × Val)) → by_key (pair_list (by_key ps) ++ qs) ≡ by_key (ps ++ qs)
by_key-again ps qs = by_key-append (pair_list (by_key ps)) qs ∙ onto_again ps (by_key qs) ∙ sym (by_key-append ps qs)
