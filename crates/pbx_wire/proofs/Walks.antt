-- What a walk over records finds out.
use Rattle.std.proofs.Common.{◌≡◌, ℕ, ◌+◌, ◌<◌, Bool, true, false, List, [], ◌∷◌, ◌++◌, length, take, drop, get_or, map, refl, ◌∙◌, append-nil, add-one, drop-cons}
use Rattle.std.specs.List.{filter}
use Rattle.std.proofs.lemmas.List.{map-append}
use Rattle.std.proofs.lemmas.List.Elements.{filter_more}
use Rattle.pbx_wire.specs.declared.rec.Rec.{Rec}
use Rattle.pbx_wire.specs.Text.{all_true}
use Rattle.pbx_wire.proofs.Written.{all_true-append}

-- all of one more at the end
pub all_pushed : (p : Rec → Bool) (rs : List Rec) (r : Rec) → all_true (map p rs) ≡ true → p r ≡ true → all_true (map p (rs ++ r ∷ [])) ≡ true
all_pushed p rs r before here =
    let one : all_true (p r ∷ []) ≡ true = rw here refl in
    rw (map-append p rs (r ∷ [])) (all_true-append (map p rs) (p r ∷ []) before one)

-- the first of the rest passes, so it is the rest's rest that counts
pub all_rest : (p : Rec → Bool) (rs : List Rec) (i : ℕ) (r : Rec) → i < length rs → r ≡ get_or rs i r → p r ≡ true
    → all_true (map p (drop i rs)) ≡ all_true (map p (drop (i + 1) rs))
all_rest p rs i r h e here = rw (drop_one rs i r h e, here) refl
  where
    drop_one : (rs : List Rec) (i : ℕ) (r : Rec) → i < length rs → r ≡ get_or rs i r → drop i rs ≡ r ∷ drop (i + 1) rs
    drop_one rs i r h e = rw (drop-cons rs i r h, add-one, ← e) refl

-- a filter of one more
pub filter_in : (p : Rec → Bool) (rs : List Rec) (i : ℕ) (r : Rec) → i < length rs → r ≡ get_or rs i r → p r ≡ true
    → filter p (take (i + 1) rs) ≡ filter p (take i rs) ++ r ∷ []
filter_in p rs i r h e here = filter_more p rs i r h ∙ rw (← e, here) refl

pub filter_out : (p : Rec → Bool) (rs : List Rec) (i : ℕ) (r : Rec) → i < length rs → r ≡ get_or rs i r → p r ≡ false
    → filter p (take (i + 1) rs) ≡ filter p (take i rs)
filter_out p rs i r h e here = filter_more p rs i r h ∙ rw (← e, here) (append-nil _)
