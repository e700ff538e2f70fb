use Rattle.std.proofs.Common.{List, ap, ◌∙◌}
use Rattle.pbx_wire.specs.declared.rec.Rec.{Rec}
use Rattle.pbx_content.specs.Content.{content}
use Rattle.pbx_desc_encoding.specs.Building.{entries}
use Rattle.pbx_desc_encoding.proofs.Built.{list_made}
use Rattle.pbx_desc_encoding.proofs.contents.FieldList.with_unknown.Goals as goal

pub returns-clause-content : goal.returns-clause-content
returns-clause-content c = λ ascending.
    list_made c.args.self.list c.in_ok-fields.fields c.in_ok-kept.kept (rw c.into_vec.ensures at c.in_ok-fields.ensures) ascending
    ∙ ap (λ (ks : List Rec). content (entries c.args.self.list) ks) c.in_ok-kept.ensures.kept
