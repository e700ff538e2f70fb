-- Opening a path whose name is finished.
use Rattle.std.proofs.Common.{◌≡◌, ◌∙◌, inl, inr, ℕ, List, [], Bool, true, false, if◌then◌else◌, Option, Some, None, refl, ap, sym, subst}
use Rattle.protox_io.specs.FileNames.{path_equal}
use Rattle.protox_compile_walk.specs.Walk.{Done, Shadowed, visits}
use Rattle.protox_compile_walk.specs.Laws.{IsOpenedAgain, OpeningAgainMarks}
use Rattle.protox_compile_walk.specs.Opening.{Ended, Accepted, Refused, mark, path_in, opening, open_name, open_done, open_root}

done_again : (name : List ℕ) (asked known : Option (List ℕ)) (done : List Done) → IsOpenedAgain name done (open_done name asked known done)
done_again name None known done = inl refl
done_again name (Some asked) None done = inl refl
done_again name (Some asked) (Some path) done = at (path_equal path asked)
  where
    at : (b : Bool) → IsOpenedAgain name done (if b then (mark name done, Accepted) else (done, Refused (Shadowed name asked path)))
    at true = inl refl
    at false = inr (Shadowed name asked path, refl)

pub again : OpeningAgainMarks
again lookups resolves limit path name asked done root there =
    let found : opening lookups resolves limit path done ≡ open_done name asked (path_in name done) done =
    ap (λ r. open_name lookups limit r done) root ∙ ap (λ b. if b then open_done name asked (path_in name done) done else open_root name (visits lookups limit [] asked name done)) there in
    (let P : List Done × Ended → Type 0 = λ o. IsOpenedAgain name done o in subst P (sym found) (done_again name asked (path_in name done) done))
