-- The first `*/` ends a comment.
use Rattle.std.proofs.Common.{◌≡◌, ℕ, suc, ◌+◌, true, false, List, [], ◌∷◌, ◌++◌, length, drop, get_or, Some, refl, eq-eqb, sym, ap, ◌∙◌, arith}
use Rattle.std.specs.Prelude.{option_map, ◌==◌, ◌&&◌}
use Rattle.std.proofs.lemmas.Bool.{eqb-true, and_from, false≢true}
use Rattle.std.proofs.lemmas.List.{length-append}
use Rattle.pbx_parse_token.specs.Pieces.{HasNoEnd}
use Rattle.pbx_parse_token.specs.Scan.{block_end, begins_slash}
use Rattle.pbx_parse_token.proofs.Options.{done, some_is, map_some}
use Rattle.pbx_parse_token.proofs.Classes.{by_test, both}

pub slash_is : (bs : List ℕ) → begins_slash bs ≡ true → bs ≡ 47 ∷ drop 1 bs
slash_is [] e = absurd cc
slash_is (b ∷ bs) e = rw (eqb-true b 47 e) refl

-- a text and the `*` that ends it begin with a `/` if what follows does
slash_first : (t rest back : List ℕ) → t ++ (42 ∷ []) ≡ 47 ∷ back → begins_slash (t ++ (42 ∷ 47 ∷ rest)) ≡ true
slash_first [] rest back e = absurd (omega (arith, ap (λ (s : List ℕ). get_or s 0 0) e))
slash_first (b ∷ t) rest back e = eq-eqb b 47 (ap (λ (s : List ℕ). get_or s 0 0) e)

slash_next : (t rest : List ℕ) → begins_slash (t ++ (42 ∷ 47 ∷ rest)) ≡ true → t ++ (42 ∷ []) ≡ 47 ∷ drop 1 (t ++ (42 ∷ []))
slash_next [] rest e = absurd (false≢true e)
slash_next (b ∷ t) rest e = ap (λ (x : ℕ). x ∷ (t ++ (42 ∷ []))) (eqb-true b 47 e)

behind_first : (a : ℕ) (t rest : List ℕ) → ((a == 42) && begins_slash (t ++ (42 ∷ 47 ∷ rest))) ≡ false → HasNoEnd t → HasNoEnd (a ∷ t)
behind_first a t rest p none [] back h =
    let is : (a == 42) ≡ true = eq-eqb a 42 (ap (λ (s : List ℕ). get_or s 0 0) h) in
    let slash : begins_slash (t ++ (42 ∷ 47 ∷ rest)) ≡ true = slash_first t rest back (ap (drop 1) h) in
    absurd (false≢true (sym p ∙ and_from (a == 42) (begins_slash (t ++ (42 ∷ 47 ∷ rest))) is slash))
behind_first a t rest p none (f ∷ front) back h = none front back (ap (drop 1) h)

pub no_end : (t rest : List ℕ) → block_end (t ++ (42 ∷ 47 ∷ rest)) ≡ Some (length t) → HasNoEnd t
unfolding block_end
no_end [] rest e [] back h = absurd cc
no_end [] rest e (f ∷ front) back h = absurd (omega (arith, ap length h, length-append front (42 ∷ 47 ∷ back)))
no_end (a ∷ t) rest e front back h =
    let next = t ++ (42 ∷ 47 ∷ rest) in
    by_test ((a == 42) && begins_slash next) (Some 0) (option_map (λ k. 1 + k) (block_end next)) (Some (suc (length t))) e
    (λ p q. absurd (omega (arith, some_is 0 (suc (length t)) q)))
    (λ p q. let m = map_some (block_end next) (suc (length t)) q in
    let same : m.0 ≡ length t = omega (arith, m.2) in
    behind_first a t rest p (no_end t rest (m.1 ∙ ap done same)) front back h)

pub first_end : (t rest : List ℕ) → HasNoEnd t → block_end (t ++ (42 ∷ 47 ∷ rest)) ≡ Some (length t)
unfolding block_end
first_end [] rest none = refl
first_end (a ∷ t) rest none =
    let next = t ++ (42 ∷ 47 ∷ rest) in
    let ih : block_end next ≡ Some (length t) = first_end t rest (λ front back h. none (a ∷ front) back (ap (λ (r : List ℕ). a ∷ r) h)) in
    by_test ((a == 42) && begins_slash next) (Some 0) (option_map (λ k. 1 + k) (block_end next)) (block_end (a ∷ next)) refl
    (λ p q. let b = both (a == 42) (begins_slash next) p in
    let is : a ≡ 42 = eqb-true a 42 b.0 in
    absurd (none [] (drop 1 (t ++ (42 ∷ []))) (ap (λ (x : ℕ). x ∷ (t ++ (42 ∷ []))) is ∙ ap (λ (r : List ℕ). 42 ∷ r) (slash_next t rest b.1))))
    (λ p q. sym q ∙ ap (option_map (λ k. 1 + k)) ih ∙ ap done (let n : 1 + length t ≡ suc (length t) = omega arith in n))
