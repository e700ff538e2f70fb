-- A value put at a new number.
use Rattle.std.proofs.Common.{◌≡◌, ℕ, Bool, true, false, if◌then◌else◌, nat_lt, ◌==◌, Some, None, refl, ap, ◌∙◌}
use Rattle.pbx_content.specs.Content.{Val, Fields, no_fields, field, get, added, without, with_value}
use Rattle.pbx_json_meaning.specs.Stands.{put}

-- where nothing stands yet, both ways to write a value agree
pub added-put : (n : ℕ) (v : Val) (fs : Fields) → get n fs ≡ None → added n v fs ≡ put n v fs
added-put n v no_fields h = refl
added-put n v (field m w fs) h = at (nat_lt n m) (n == m) h (added-put n v fs)
  where
    at : (a b : Bool) → (if b then Some w else get n fs) ≡ None → (get n fs ≡ None → added n v fs ≡ put n v fs)
        → (if a then field n v (field m w fs) else field m w (added n v fs)) ≡ (if a then field n v (field m w fs) else (if b then field n v fs else field m w (put n v fs)))
    at true b h ih = refl
    at false true h ih = absurd (cc)
    at false false h ih = ap (field m w) (ih h)

without-absent : (n : ℕ) (fs : Fields) → get n fs ≡ None → without n fs ≡ fs
without-absent n no_fields h = refl
without-absent n (field m w fs) h = at (n == m) h (without-absent n fs)
  where
    at : (b : Bool) → (if b then Some w else get n fs) ≡ None → (get n fs ≡ None → without n fs ≡ fs) → (if b then fs else field m w (without n fs)) ≡ field m w fs
    at true h ih = absurd (cc)
    at false h ih = ap (field m w) (ih h)

pub with_value-put : (n : ℕ) (v : Val) (fs : Fields) → get n fs ≡ None → with_value n v fs ≡ put n v fs
with_value-put n v fs h = ap (added n v) (without-absent n fs h) ∙ added-put n v fs h
