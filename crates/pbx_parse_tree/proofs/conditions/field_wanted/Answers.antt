use Rattle.std.proofs.Common.{◌∙◌, sym, ap, Bool, if◌then◌else◌}
use Rattle.pbx_parse_tree.specs.Conditions.{default_fits, map_setting_fits}
use Rattle.pbx_parse_tree.specs.View.{name_of, kind_of}
use Rattle.pbx_parse_tree.proofs.conditions.field_wanted.Goals as goal

pub returns : goal.returns
returns c = λ equals value.
    ap (λ (b : Bool). if b then default_fits (kind_of c.args.kind.now) value else map_setting_fits (record { name = name_of c.args.name.now; equals = equals; value = value })) (sym c.eq.ensures ∙ c.if-eq.false) ∙ c.map_wanted.ensures equals value
