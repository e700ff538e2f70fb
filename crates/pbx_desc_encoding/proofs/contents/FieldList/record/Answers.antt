use Rattle.pbx_content.specs.declared.shape.Cardinality.TheVariants.{Singular}
use Rattle.pbx_content.specs.declared.shape.Kind.TheVariants as kind
use Rattle.pbx_content_codec.specs.declared.contents.Held as held
use Rattle.std.proofs.Common.{ap, ◌∙◌}
use Rattle.pbx_content.specs.Content.{message}
use Rattle.pbx_desc_encoding.proofs.Built.{put_value, put_nothing}
use Rattle.pbx_desc_encoding.proofs.Told.{val_of-Message}
use Rattle.pbx_desc_encoding.proofs.contents.FieldList.record.Goals as goal

pub returns-in_ok-add : goal.returns-in_ok-add
returns-in_ok-add g c =
    let contents = c.in_ok-contents.contents in
    rw (c.in_ok-add.ensures.ok, c.in-Some.is)
    (put_value Singular (kind.Message _) c.args.number (held.Message contents) (message _) c.args.self.now.list (val_of-Message contents ∙ ap message c.in_ok-contents.ensures.content) c.in_ok-contents.ensures.sound)

pub returns-in_default : goal.returns-in_default
returns-in_default g c = rw c.in_default.is (put_nothing Singular (kind.Message _) c.args.number c.args.self.now.list tt)
