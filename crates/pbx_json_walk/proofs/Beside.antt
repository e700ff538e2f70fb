-- The keys of the object of an `Any` but that of its type.
use Rattle.std.proofs.Common.{◌≡◌, ℕ, not, List, [], ◌∷◌, Bool, true, false, if◌then◌else◌, ap, sym, subst, refl}
use Rattle.std.specs.Ordering.{nat_cmp, is_lt}
use Rattle.std.specs.Cmp.Lexicographic.{slice_cmp}
use Rattle.std.specs.declared.cmp.Ordering.TheVariants.{Less}
use Rattle.serde_json.specs.Data.{Members, no_members, member}
use Rattle.pbx_content.specs.declared.shape.Shape.{Shape}
use Rattle.pbx_json_meaning.specs.Urls.{is_type_key, without_type}
use Rattle.pbx_json_meaning.specs.Stands.{Entry, beside_type as beside_entries}
use Rattle.pbx_json_walk.specs.Walk.{Part, beside_type, answers, parts, are_above, are_ascending}
use Rattle.pbx_json_walk.proofs.Walked.{AgreeParts}
use Rattle.pbx_json_walk.proofs.Keyed.{above_first, above_rest, above_less}

pub beside_agree : (es : List Entry) (ps : List Part) → AgreeParts es ps → AgreeParts (beside_entries es) (beside_type ps)
beside_agree [] [] h = tt
beside_agree [] (p ∷ ps) h = absurd h
beside_agree (e ∷ es) [] h = absurd h
beside_agree (e ∷ es) (p ∷ ps) h =
    subst (λ (k : List ℕ). AgreeParts (if not (is_type_key k) then e ∷ beside_entries es else beside_entries es) (beside_type (p ∷ ps))) (sym h.0) (at (is_type_key p.key) (beside_agree es ps h.2))
  where
    at : (b : Bool) → AgreeParts (beside_entries es) (beside_type ps)
        → AgreeParts (if not b then e ∷ beside_entries es else beside_entries es) (if not b then p ∷ beside_type ps else beside_type ps)
    at true ih = ih
    at false ih = (h.0, h.1, ih)

-- they are the keys of the members but that of the type
pub beside_parts : (shape : Shape) (allow : Bool) (ms : Members) → beside_type (parts shape allow ms) ≡ parts shape allow (without_type ms)
beside_parts shape allow no_members = refl
beside_parts shape allow (member k d ms) = at (is_type_key k) (beside_parts shape allow ms)
  where
    at : (b : Bool) → beside_type (parts shape allow ms) ≡ parts shape allow (without_type ms)
        → (if not b then record { key = k; answers = answers shape allow d } ∷ beside_type (parts shape allow ms) else beside_type (parts shape allow ms))
        ≡ parts shape allow (if b then without_type ms else member k d (without_type ms))
    at true ih = ih
    at false ih = ap (λ ps. record { key = k; answers = answers shape allow d } ∷ ps) ih

-- ---- ascending keys

above_without : (k : List ℕ) (ms : Members) → are_above k ms ≡ true → are_above k (without_type ms) ≡ true
above_without k no_members h = refl
above_without k (member l d ms) h =
    let lt = above_first k l d ms h in
    let rest = above_rest k l d ms h in
    at (is_type_key l) lt (above_without k ms (above_less k l ms lt rest)) (above_without l ms rest)
  where
    at : (b : Bool) → slice_cmp nat_cmp k l ≡ Less → are_above k (without_type ms) ≡ true → are_above l (without_type ms) ≡ true
        → are_above k (if b then without_type ms else member l d (without_type ms)) ≡ true
    at true lt past next = past
    at false lt past next = rw (ap is_lt lt, next) refl

ascends_above : (k : List ℕ) (ms : Members) → are_above k ms ≡ true → are_ascending ms ≡ true
ascends_above k no_members h = refl
ascends_above k (member l d ms) h = above_rest k l d ms h

-- where keys ascend, those but that of the type do
pub ascending_without : (ms : Members) → are_ascending ms ≡ true → are_ascending (without_type ms) ≡ true
ascending_without no_members h = refl
ascending_without (member k d ms) h = at (is_type_key k) (ascends_above k (without_type ms) (above_without k ms h)) (above_without k ms h)
  where
    at : (b : Bool) → are_ascending (without_type ms) ≡ true → are_above k (without_type ms) ≡ true
        → are_ascending (if b then without_type ms else member k d (without_type ms)) ≡ true
    at true past next = past
    at false past next = next
