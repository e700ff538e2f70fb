use Rattle.std.proofs.Common.{◌∙◌, bytes_eq, nat_cmp}
use Rattle.std.specs.Cmp.Lexicographic.{slice_cmp}
use Rattle.std.proofs.lemmas.Map.Text.{is_eq-slice_cmp}
use Rattle.std.proofs.lemmas.Slice.Eq.{bytes_eq-Decides}
use Rattle.pbx_link_definitions.proofs.Seen.{contains_is}
use Rattle.pbx_link_rules_field.proofs.numbers.holds_name.Goals as goal

pub returns : goal.returns
returns c =
    c.contains.ensures
    ∙ contains_is (λ x y. slice_cmp nat_cmp x.now y.now) (λ k. k.now) bytes_eq (λ x y. is_eq-slice_cmp x.now y.now) bytes_eq-Decides c.args.name
    c.args.names.now.keys
