use Rattle.std.proofs.Common.{◌∙◌, nat_cmp}
use Rattle.std.specs.Cmp.Lexicographic.{slice_cmp}
use Rattle.std.proofs.lemmas.Map.Text.{is_eq-slice_cmp}
use Rattle.pbx_link_rules_record.proofs.Seen.{name_there}
use Rattle.pbx_link_rules_record.proofs.enums.has_name.Goals as goal

pub returns : goal.returns
returns c = c.contains.ensures ∙ name_there (λ x y. slice_cmp nat_cmp x.now y.now) (λ k. k.now) (λ x y. is_eq-slice_cmp x.now y.now) c.args.name c.args.names.now.keys
