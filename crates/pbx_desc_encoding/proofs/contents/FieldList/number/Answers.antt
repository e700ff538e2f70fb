use Rattle.std.proofs.Common.{◌≡◌, ap, ◌∙◌, to_z, of_z, rules, subst}
use Rattle.std.specs.Int.{w32}
use Rattle.std.specs.Int.RustNames.{FitsSigned}
use Rattle.pbx_content.specs.declared.shape.Cardinality.TheVariants.{Singular}
use Rattle.pbx_content.specs.declared.shape.Kind.TheVariants as kind
use Rattle.pbx_content.specs.Content.{number}
use Rattle.pbx_desc_encoding.proofs.Built.{put_value, put_nothing}
use Rattle.pbx_desc_encoding.proofs.contents.FieldList.number.Goals as goal

pub returns-in_ok-add : goal.returns-in_ok-add
returns-in_ok-add c =
    let same : to_z w32 (of_z w32 c.in-Some.value) ≡ c.in-Some.value = search rules in
    rw (c.in_ok-add.ensures.ok, c.in-Some.is)
    (put_value Singular kind.Int32 c.args.number c.number_value.result (number c.in-Some.value) c.args.self.now.list (c.number_value.ensures.value ∙ ap number same) (subst (FitsSigned w32) same c.number_value.ensures.fits))

pub returns-in_default : goal.returns-in_default
returns-in_default c = rw c.in_default.is (put_nothing Singular kind.Int32 c.args.number c.args.self.now.list tt)
