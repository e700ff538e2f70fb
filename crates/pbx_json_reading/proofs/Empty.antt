-- Lists and maps that are not empty.
use Rattle.std.proofs.Common.{◌≡◌, ◌↔◌, ℕ, List, [], ◌∷◌, ◌==◌, Bool, true, false, IsTrue, length, Err, refl, String, Global, arith}
use Rattle.std.proofs.lemmas.Bool.Decides.{nat_tests}
use Rattle.serde_json.specs.View.{items_view, members_view}
use Rattle.serde_json.specs.declared.value.Value.{Value}
use Rattle.pbx_json_walk.specs.Opened.{items_if_none, members_if_none}
use Rattle.pbx_json_meaning.specs.declared.kind.JsonKind.TheVariants.{Float}

pub some_items : (vs : List Value) → (length vs == 0) ≡ false → Err Float ≡ items_if_none (items_view vs)
some_items [] h = absurd (cc)
some_items (v ∷ vs) h = refl

pub some_members : (ms : List (String Global × Value)) → (length ms == 0) ≡ false → Err Float ≡ members_if_none (members_view ms)
some_members [] h = absurd (cc)
some_members (m ∷ ms) h = refl

-- what is not empty has a length
pub not_zero : (b : Bool) (n : ℕ) → (IsTrue b ↔ (n ≡ 0)) → b ≡ false → (n == 0) ≡ false
not_zero b n h e = at (n == 0) refl
  where
    at : (c : Bool) → (n == 0) ≡ c → c ≡ false
    at false f = refl
    at true f = let zero : n ≡ 0 = grind (arith, nat_tests) in let yes : b ≡ true = h.1 zero in absurd (cc)
