use Rattle.std.proofs.Common.{[], refl, ap, ◌∙◌}
use Rattle.pbx_content_codec.specs.declared.contents.Held as held
use Rattle.pbx_content.specs.declared.shape.Cardinality.TheVariants.{Singular}
use Rattle.pbx_content.specs.declared.shape.Kind.TheVariants as kind
use Rattle.pbx_content.specs.Content.{message}
use Rattle.pbx_desc_encoding.specs.Content.{options_content}
use Rattle.pbx_desc_encoding.proofs.Built.{put_value, put_nothing, start, made}
use Rattle.pbx_desc_encoding.proofs.Told.{val_of-Message}
use Rattle.pbx_desc_encoding.proofs.contents.FieldList.options.Goals as goal

pub returns-in_ok-add : goal.returns-in_ok-add
returns-in_ok-add c t type =
    let contents = c.in_ok-contents.contents in
    let options = c.in-Some.options in
    let holds = made t [] [] c.new.result.list options.recs contents type refl (start [] [] c.new.result.list c.new.ensures) c.in_ok-contents.ensures.content c.in_ok-contents.ensures.fit in
    rw (c.in_ok-add.ensures.ok, c.in-Some.is)
    (put_value Singular (kind.Message t) c.args.number (held.Message contents) (message (options_content options)) c.args.self.now.list (val_of-Message contents ∙ ap message holds.content) holds.sound)

pub returns-in_default : goal.returns-in_default
returns-in_default c t type = rw c.in_default.is (put_nothing Singular (kind.Message t) c.args.number c.args.self.now.list tt)
