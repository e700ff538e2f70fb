-- Which values fields have after one is set or cleared.
use Rattle.std.proofs.Common.{◌≡◌, ◌∙◌, ℕ, Bool, true, false, ◌&&◌, if◌then◌else◌, List, [], ◌∷◌, Option, Some, None, refl, ap, arith}
use Rattle.std.proofs.lemmas.Bool.Decides.{nat_tests}
use Rattle.std.specs.Prelude.{◌==◌, is_some}
use Rattle.pbx_content.specs.declared.shape.FieldShape.{FieldShape}
use Rattle.pbx_content.specs.Content.{content, Fields, no_fields, field, Val, get, has, without, IsAscending}
use Rattle.pbx_content.specs.Shape.{is_other}
use Rattle.pbx_message_laws.specs.Fields.{cleared_others, is_number_of_other, value_kept}
use Rattle.pbx_message_laws.specs.Laws.{SoundAscends, SetIs, SetIsGot, ClearedIs, ClearedIsGone, HasIsGet, SettingKeeps}
use Rattle.pbx_message_laws.proofs.Changes.{ascending-without, get-without, get-with_option}

pub sound_ascends : SoundAscends
sound_ascends shape t (content fs ks) h = h.0

pub has_is_get : HasIsGet
has_is_get n no_fields = refl
has_is_get n (field m v fs) = at (n == m) (has_is_get n fs)
  where
    at : (b : Bool) → has n fs ≡ is_some (get n fs) → (if b then true else has n fs) ≡ is_some (if b then Some v else get n fs)
    at true ih = refl
    at false ih = ih

pub setting_keeps : SettingKeeps
setting_keeps (content gs ks) fs = (refl, refl)

pub cleared_is : ClearedIs
cleared_is (content fs ks) m n h = get-without n m fs h

-- ---- the other members of a oneof

pub ascending-cleared : (f : FieldShape) (gs : List FieldShape) (fs : Fields) → IsAscending fs → IsAscending (cleared_others f gs fs)
ascending-cleared f [] fs h = h
ascending-cleared f (g ∷ gs) fs h = at (is_other f g) (ascending-cleared f gs)
  where
    at : (b : Bool) → ((ks : Fields) → IsAscending ks → IsAscending (cleared_others f gs ks))
        → IsAscending (cleared_others f gs (if b then without g.number fs else fs))
    at true ih = ih (without g.number fs) (ascending-without g.number fs h)
    at false ih = ih fs h

pub get-cleared : (f : FieldShape) (gs : List FieldShape) (n : ℕ) (fs : Fields) → IsAscending fs
    → get n (cleared_others f gs fs) ≡ (if is_number_of_other f gs n then None else get n fs)
get-cleared f [] n fs h = refl
get-cleared f (g ∷ gs) n fs h = at (is_other f g) (get-cleared f gs n)
  where
    both : (a b : Bool) (o : Option Val) → (if a then None else (if b then None else o)) ≡ (if (if b then true else a) then None else o)
    both true true o = refl
    both true false o = refl
    both false true o = refl
    both false false o = refl

    at : (b : Bool)
        → ((ks : Fields) → IsAscending ks → get n (cleared_others f gs ks) ≡ (if is_number_of_other f gs n then None else get n ks))
        → get n (cleared_others f gs (if b then without g.number fs else fs))
        ≡ (if (if b && n == g.number then true else is_number_of_other f gs n) then None else get n fs)
    at true ih =
        ih (without g.number fs) (ascending-without g.number fs h)
        ∙ ap (λ (o : Option Val). if is_number_of_other f gs n then None else o) (get-without n g.number fs h)
        ∙ both (is_number_of_other f gs n) (n == g.number) (get n fs)
    at false ih = ih fs h

pub set_is : SetIs
set_is shape gs f v (content fs ks) n h =
    get-with_option n f.number (value_kept shape f v) (cleared_others f gs fs) (ascending-cleared f gs fs h)
    ∙ ap (λ (o : Option Val). if n == f.number then value_kept shape f v else o) (get-cleared f gs n fs h)

pub set_is_got : SetIsGot
set_is_got shape gs f v c h = let here : (f.number == f.number) ≡ true = grind (arith, nat_tests) in set_is shape gs f v c f.number h ∙ rw here refl

pub cleared_is_gone : ClearedIsGone
cleared_is_gone c n h = let here : (n == n) ≡ true = grind (arith, nat_tests) in cleared_is c n n h ∙ rw here refl
