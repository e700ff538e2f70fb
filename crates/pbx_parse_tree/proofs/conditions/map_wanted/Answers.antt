use Rattle.std.proofs.Common.{◌∙◌, sym, ap, Bool, if◌then◌else◌}
use Rattle.pbx_parse_tree.specs.declared.options.OptionKind.TheVariants as kinds
use Rattle.pbx_parse_tree.specs.declared.options.OptionPlace.TheVariants as places
use Rattle.pbx_parse_tree.specs.Conditions.{is_of_kind, option_fits}
use Rattle.pbx_parse_tree.specs.View.{name_of}
use Rattle.pbx_parse_tree.proofs.conditions.map_wanted.Goals as goal

pub returns-else-eq : goal.returns-else-eq
returns-else-eq c = λ equals value.
    ap (λ (b : Bool). if b then is_of_kind kinds.Text value else option_fits places.Field (record { name = name_of c.args.name.now; equals = equals; value = value })) (sym c.eq.ensures ∙ c.if-eq.false) ∙ c.option_wanted.ensures equals value
