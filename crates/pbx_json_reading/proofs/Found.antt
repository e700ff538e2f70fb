-- The content of values that were put in one after another.
use Rattle.std.proofs.Common.{◌≡◌, ◌∙◌, ℕ, List, [], ◌∷◌, ◌++◌, refl, sym, ap}
use Rattle.pbx_content_map.specs.Entries.{IsAscending, with_entry, with_entries}
use Rattle.pbx_content_map.proofs.Places.{with_one, ascending-with}
use Rattle.pbx_content_codec.specs.declared.contents.Held.{Held}
use Rattle.pbx_content_codec.specs.declared.contents.Held.TheViews.{roll-Contents}
use Rattle.pbx_content_codec.specs.View.{val_of}
use Rattle.pbx_content_codec.proofs.TreeFields.{rolled, put}
use Rattle.std.specs.BTreeSet.{BTreeSet}
use Rattle.std.proofs.Common.{Option}
use Rattle.pbx_json_walk.specs.Walk.{State, with_found, with_number, with_oneof}
use Rattle.pbx_json_reading.specs.States.{content_with}

ascends : (es ps : List (ℕ × Held)) → IsAscending es → IsAscending (with_entries es ps)
ascends es [] o = o
ascends es (p ∷ ps) o = ascends (with_entry p.0 p.1 es) ps (ascending-with p.0 p.1 es o)

-- with one more
pub found_more : (fs : List (ℕ × Held)) (n : ℕ) (h : Held) → content_with (fs ++ (n, h) ∷ []) ≡ with_found n (val_of h) (content_with fs)
found_more fs n h =
    let es = with_entries [] fs in
    let tree = roll-Contents (record { fields = es; kept = [] }) in
    let one : with_entries [] (fs ++ (n, h) ∷ []) ≡ with_entry n h es = with_one [] fs n h in
    sym (rolled (with_entries [] (fs ++ (n, h) ∷ [])) [])
    ∙ put tree n h (with_entries [] (fs ++ (n, h) ∷ [])) (ascends [] fs tt) one
    ∙ ap (with_found n (val_of h)) (rolled es [])

-- what is kept with one more value
pub state_more : (seen taken : BTreeSet ℕ) (fs gs : List (ℕ × Held)) (n : ℕ) (o : Option ℕ) (h : Held) (seen' taken' : BTreeSet ℕ)
    → seen' ≡ with_number n seen → taken' ≡ with_oneof o taken → gs ≡ fs ++ (n, h) ∷ []
    → ◌≡◌ {A = State} (record { seen = seen'; taken = taken'; found = content_with gs })
    (record { seen = with_number n seen; taken = with_oneof o taken; found = with_found n (val_of h) (content_with fs) })
state_more seen taken fs gs n o h seen' taken' e d f =
    let found : content_with gs ≡ with_found n (val_of h) (content_with fs) = ap content_with f ∙ found_more fs n h in
    rw (e, d, found) refl
