-- Settings in brackets, one behind the other.
use Rattle.std.proofs.Common.{◌≡◌, List, [], ◌∷◌, ◌++◌, map, true, Bool, refl, sym, ap, ◌∙◌}
use Rattle.std.proofs.lemmas.List.{map-append}
use Rattle.pbx_parse_token.specs.declared.token.Span.{Span}
use Rattle.pbx_parse_tree.specs.Tree.{Setting}
use Rattle.pbx_parse_tree.specs.Conditions.{lacks, all_fit}
use Rattle.pbx_parse_tree.specs.Fits.{may_follow}
use Rattle.pbx_parse_tree.proofs.AllFit.{grows, each_fits}
use Rattle.pbx_parse_reader.proofs.Lists.{both, and_true}

-- the settings in brackets, without the commas
abbrev pub listed : Setting → List (Span × Setting) → List Setting
listed first more = first ∷ map (λ x. x.1) more

-- the first stands behind none
pub first_is_allowed : (allowed : Setting → Bool) (s : Setting) → may_follow allowed [] s ≡ true → allowed s ≡ true
first_is_allowed allowed s e = (both (lacks s.name.text []) (allowed s) e).1

pub first_may_stand : (allowed : Setting → Bool) (s : Setting) (ss : List Setting) → all_fit allowed (s ∷ ss) ≡ true → may_follow allowed [] s ≡ true
first_may_stand allowed s ss e = let h = each_fits allowed [] s ss e in and_true h.1 h.0

pub first_fits : (allowed : Setting → Bool) (s : Setting) → allowed s ≡ true → all_fit allowed (s ∷ []) ≡ true
unfolding all_fit lacks
first_fits allowed s e = and_true (and_true e refl) refl

pub one_more_listed : (first : Setting) (front : List (Span × Setting)) (x : Span × Setting) → listed first (front ++ x ∷ []) ≡ listed first front ++ x.1 ∷ []
one_more_listed first front x = ap (λ (ss : List Setting). first ∷ ss) (map-append (λ y. y.1) front (x ∷ []))

-- one that may follow fits behind those that fit
pub one_more_set : (allowed : Setting → Bool) (first : Setting) (front : List (Span × Setting)) (x : Span × Setting) (seen : List Setting) → seen ≡ listed first front → all_fit allowed (listed first front) ≡ true → may_follow allowed seen x.1 ≡ true
    → all_fit allowed (listed first (front ++ x ∷ [])) ≡ true
one_more_set allowed first front x seen s e f =
    let h = both (lacks x.1.name.text (listed first front)) (allowed x.1) (sym (ap (λ (ss : List Setting). may_follow allowed ss x.1) s) ∙ f) in
    ap (all_fit allowed) (one_more_listed first front x) ∙ grows allowed (listed first front) x.1 e h.1 h.0

-- where all fit, the next may follow those before it
pub next_may_follow : (allowed : Setting → Bool) (first : Setting) (front : List (Span × Setting)) (x : Span × Setting) (others xs : List (Span × Setting)) (seen : List Setting) → xs ≡ front ++ x ∷ others → all_fit allowed (listed first xs) ≡ true
    → seen ≡ listed first front → may_follow allowed seen x.1 ≡ true
next_may_follow allowed first front x others xs seen p e s =
    let parts : listed first xs ≡ listed first front ++ x.1 ∷ map (λ y. y.1) others = ap (listed first) p ∙ ap (λ (ss : List Setting). first ∷ ss) (map-append (λ y. y.1) front (x ∷ others)) in
    let h = each_fits allowed (listed first front) x.1 (map (λ y. y.1) others) (sym (ap (all_fit allowed) parts) ∙ e) in
    ap (λ (ss : List Setting). may_follow allowed ss x.1) s ∙ and_true h.1 h.0
