use Rattle.std.proofs.Common.{◌≡◌, ◌++◌, ℕ, List, OnOk, subst, sym, ap, ◌∙◌}
use Rattle.pbx_parse_tree.specs.declared.tree.RangeNumber.{RangeNumber}
use Rattle.pbx_parse_tree.specs.declared.tree.Reserved.{Reserved}
use Rattle.pbx_parse_tree.specs.View.{range_number_of, literal_of, reserved_of}
use Rattle.pbx_parse_translation.specs.Texts.{string_text}
use Rattle.pbx_parse_translation.specs.Enums.{names_reserved}
use Rattle.pbx_parse_translation.proofs.Lists.{listed_seen}
use Rattle.pbx_parse_translation.proofs.messages.add_reserved_names.Goals as goal

pub returns-in-Names : goal.returns-in-Names
returns-in-Names c =
    subst (λ (ns : List (List ℕ)). OnOk c.add_each.result (c.add_each.new.records ≡ c.args.records.now ++ ns))
    (listed_seen string_text literal_of c.in-Names.names ∙ sym (ap (λ (r : Reserved RangeNumber). names_reserved (reserved_of range_number_of r)) c.in-Names.is))
    c.add_each.ensures
