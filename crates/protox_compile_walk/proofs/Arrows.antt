-- Names with arrows before them.
use Rattle.std.proofs.Common.{◌≡◌, ◌+◌, ◌<◌, ◌∷◌, ◌++◌, ◌∙◌, [], ℕ, suc, List, sym, ap, length, take, get_or, append_assoc, add-one}
use Rattle.std.specs.Prelude.{codes}
use Rattle.std.specs.List.{concat}
use Rattle.std.proofs.lemmas.List.{append-nil}
use Rattle.std.proofs.Math.Seq.{take-suc}
use Rattle.protox_compile_walk.specs.Walk.{arrows_before}

concat_arrows : (names : List (List ℕ)) (name : List ℕ) → concat (arrows_before (names ++ name ∷ [])) ≡ (concat (arrows_before names) ++ codes " -> ") ++ name
concat_arrows [] name = ap (λ n. codes " -> " ++ n) (append-nil name)
concat_arrows (n ∷ names) name =
    let ih : concat (arrows_before (names ++ name ∷ [])) ≡ (concat (arrows_before names) ++ codes " -> ") ++ name = concat_arrows names name in
    rw ih (simp append_assoc)

pub arrows_push : (names : List (List ℕ)) (i : ℕ) (x front text text1 text2 : List ℕ) → i < length names → x ≡ get_or names i x → text ≡ front ++ concat (arrows_before (take i names)) → text1 ≡ text ++ codes " -> " → text2 ≡ text1 ++ x
    → text2 ≡ front ++ concat (arrows_before (take (i + 1) names))
arrows_push names i x front text text1 text2 fits is before first second =
    let taken : take (suc i) names ≡ take i names ++ x ∷ [] = take-suc names i x fits ∙ ap (λ y. take i names ++ y ∷ []) (sym is) in
    rw (second, first, before, add-one, taken, concat_arrows) (simp append_assoc)
