use Rattle.std.proofs.Common.{ap, ◌∙◌}
use Rattle.pbx_content.specs.declared.shape.Cardinality.TheVariants.{Singular}
use Rattle.pbx_content.specs.declared.shape.Kind.TheVariants as kind
use Rattle.pbx_content_codec.specs.declared.contents.Held as held
use Rattle.pbx_content.specs.Content.{text}
use Rattle.pbx_desc_encoding.proofs.Built.{put_value, put_nothing}
use Rattle.pbx_desc_encoding.proofs.Told.{val_of-Text, same_utf8}
use Rattle.pbx_desc_encoding.proofs.contents.FieldList.text.Goals as goal

pub returns-in_ok-add : goal.returns-in_ok-add
returns-in_ok-add c =
    rw (c.in_ok-add.ensures.ok, c.in-Some.is)
    (put_value Singular kind.String c.args.number (held.Text c.in_ok-copy.copy) (text c.in-Some.text) c.args.self.now.list (val_of-Text c.in_ok-copy.copy ∙ ap text (c.in_ok-copy.ensures ∙ c.as_str.ensures))
    (same_utf8 _ _ c.as_str.ensures c.as_str.utf8))

pub returns-in_default : goal.returns-in_default
returns-in_default c = rw c.in_default.is (put_nothing Singular kind.String c.args.number c.args.self.now.list tt)
