use Rattle.std.proofs.Common.{◌≡◌, ◌∙◌, refl, ap, Bor}
use Rattle.pbx_parse_tree.specs.declared.conditions.Allowed.{Allowed}
use Rattle.pbx_parse_tree.specs.declared.conditions.Allowed.TheVariants as allowances
use Rattle.pbx_parse_tree.specs.declared.options.OptionPlace.{OptionPlace}
use Rattle.pbx_parse_tree.specs.declared.tree.Kind.{Kind}
use Rattle.pbx_parse_tree.specs.Fits.{allowed as allowed_of}
use Rattle.pbx_parse_tree.specs.View.{name_of}
use Rattle.pbx_parse_tree.proofs.conditions.wanted_by.Goals as goal

pub returns-in-Field : goal.returns-in-Field
returns-in-Field c = λ equals value.
    ap (λ (a : Allowed). allowed_of a (record { name = name_of c.args.name.now; equals = equals; value = value })) c.in-Field.is ∙ c.field_wanted.ensures equals value

pub returns-in-Option : goal.returns-in-Option
returns-in-Option c = λ equals value.
    ap (λ (a : Allowed). allowed_of a (record { name = name_of c.args.name.now; equals = equals; value = value })) c.in-Option.is ∙ c.option_wanted.ensures equals value

-- what is neither of a field nor of a place is of a map
of_map : (a : Allowed) → ((k : Bor Kind) → a ≡ allowances.Field k → ⊥) → ((p : OptionPlace) → a ≡ allowances.Option p → ⊥) → a ≡ allowances.Map
of_map (allowances.Field k) f o = absurd (f k refl)
of_map allowances.Map f o = refl
of_map (allowances.Option p) f o = absurd (o p refl)

pub returns : goal.returns
returns c = λ equals value.
    ap (λ (a : Allowed). allowed_of a (record { name = name_of c.args.name.now; equals = equals; value = value })) (of_map c.args.allowed c.in_default.not-Field c.in_default-allowed.not-Option) ∙ c.map_wanted.ensures equals value
