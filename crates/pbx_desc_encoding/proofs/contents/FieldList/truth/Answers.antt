use Rattle.pbx_content.specs.declared.shape.Cardinality.TheVariants.{Singular}
use Rattle.pbx_content.specs.declared.shape.Kind.TheVariants as kind
use Rattle.pbx_content_codec.specs.declared.contents.Held as held
use Rattle.pbx_content.specs.Content.{truth}
use Rattle.pbx_desc_encoding.proofs.Built.{put_value, put_nothing}
use Rattle.pbx_desc_encoding.proofs.Told.{val_of-Bool}
use Rattle.pbx_desc_encoding.proofs.contents.FieldList.truth.Goals as goal

pub returns-in_ok-add : goal.returns-in_ok-add
returns-in_ok-add c =
    rw (c.in_ok-add.ensures.ok, c.in-Some.is)
    (put_value Singular kind.Bool c.args.number (held.Bool c.in-Some.value) (truth c.in-Some.value) c.args.self.now.list (val_of-Bool c.in-Some.value) tt)

pub returns-in_default : goal.returns-in_default
returns-in_default c = rw c.in_default.is (put_nothing Singular kind.Bool c.args.number c.args.self.now.list tt)
