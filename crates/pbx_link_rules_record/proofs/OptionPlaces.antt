-- Places of options, from record to record.
use Rattle.std.proofs.Common.{◌≡◌, ℕ, List, [], Bool, false, Option, ap, sym, subst}
use Rattle.pbx_desc_records.specs.declared.options.Options.{Options}
use Rattle.pbx_link_definitions.specs.Definitions.{Place, parts}
use Rattle.pbx_link_definitions.specs.Places.{place_if, IsAmong}
use Rattle.pbx_link_rules_record.specs.OptionRules.{uninterpreted}

-- the same places, of equal lists at equal places
pub moved : {X : Type 0} (options : X → Option Options) (k n : ℕ) (scope : List ℕ) (pl place : Place) (ys xs : List X) (o : Option Place) → pl ≡ place → ys ≡ xs
    → IsAmong (uninterpreted options k (parts scope pl n ys)) o → IsAmong (uninterpreted options k (parts scope place n xs)) o
moved {X} options k n scope pl place ys xs o at is h =
    subst (λ (zs : List X). IsAmong (uninterpreted options k (parts scope place n zs)) o) is (subst (λ (q : Place). IsAmong (uninterpreted options k (parts scope q n ys)) o) at h)

-- no own options
pub own_none : (b : Bool) (place : Place) → false ≡ b → place_if b place ≡ []
own_none b place e = ap (λ (c : Bool). place_if c place) (sym e)
