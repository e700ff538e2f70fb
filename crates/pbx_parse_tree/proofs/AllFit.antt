-- Lists of settings in which each fits and no name is set twice.
use Rattle.std.proofs.Common.{◌≡◌, ℕ, List, [], ◌∷◌, ◌++◌, Bool, true, false, not, ◌&&◌, refl, sym, ap, ◌∙◌}
use Rattle.std.specs.Str.{bytes_eq}
use Rattle.std.proofs.lemmas.Bool.Decides.{same_from_decides}
use Rattle.std.proofs.lemmas.Slice.Eq.{bytes_eq-Decides}
use Rattle.pbx_parse_tree.specs.Tree.{Setting}
use Rattle.pbx_parse_tree.proofs.Holds.{both, joined}
use Rattle.pbx_parse_tree.specs.Conditions.{lacks, all_fit}

-- two names are one in either order
turned : (t u : List ℕ) → bytes_eq t u ≡ bytes_eq u t
turned t u =
    let d = bytes_eq-Decides u t in
    same_from_decides (bytes_eq t u) (bytes_eq u t) (bytes_eq-Decides t u) ((λ e. sym (d.0 e)), (λ e. d.1 (sym e)))

lacks_more : (t : List ℕ) (xs : List Setting) (y : Setting) (ys : List Setting) → lacks t (xs ++ y ∷ ys) ≡ true → (lacks t xs ≡ true) × (not (bytes_eq t y.name.text) ≡ true)
unfolding lacks
lacks_more t [] y ys e = (refl, (both e).0)
lacks_more t (x ∷ xs) y ys e =
    let p = both e in
    let q = lacks_more t xs y ys p.1 in
    (joined p.0 q.0, q.1)

lacks_one : (t : List ℕ) (xs : List Setting) (y : Setting) → lacks t xs ≡ true → not (bytes_eq t y.name.text) ≡ true → lacks t (xs ++ y ∷ []) ≡ true
unfolding lacks
lacks_one t [] y p q = joined q refl
lacks_one t (x ∷ xs) y p q = let h = both p in joined h.0 (lacks_one t xs y h.1 q)

-- one more fits after those that fit, if its name is not set yet
pub grows : (p : Setting → Bool) (xs : List Setting) (y : Setting) → all_fit p xs ≡ true → p y ≡ true → lacks y.name.text xs ≡ true → all_fit p (xs ++ y ∷ []) ≡ true
unfolding all_fit lacks
grows p [] y e f g = joined (joined f refl) refl
grows p (x ∷ xs) y e f g =
    let h = both e in
    let k = both h.0 in
    let l = both g in
    let m : not (bytes_eq x.name.text y.name.text) ≡ true = ap not (turned x.name.text y.name.text) ∙ l.0 in
    joined (joined k.0 (lacks_one x.name.text xs y k.1 m)) (grows p xs y h.1 f l.1)

-- where all fit, each does, and its name is not set earlier
pub each_fits : (p : Setting → Bool) (xs : List Setting) (y : Setting) (ys : List Setting) → all_fit p (xs ++ y ∷ ys) ≡ true → (p y ≡ true) × (lacks y.name.text xs ≡ true)
unfolding all_fit lacks
each_fits p [] y ys e = ((both (both e).0).0, refl)
each_fits p (x ∷ xs) y ys e =
    let h = both e in
    let k = both h.0 in
    let l = lacks_more x.name.text xs y ys k.1 in
    let m = each_fits p xs y ys h.1 in
    (m.0, joined (ap not (turned y.name.text x.name.text) ∙ l.1) m.1)

pub none_fit : (p : Setting → Bool) → all_fit p [] ≡ true
unfolding all_fit
none_fit p = refl
