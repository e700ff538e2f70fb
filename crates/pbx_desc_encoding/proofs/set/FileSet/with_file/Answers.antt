use Rattle.std.proofs.Common.{◌++◌, ◌∷◌, [], subst}
use Rattle.pbx_desc_encoding.specs.Sets.{SetText, IsSetOf}
use Rattle.pbx_desc_encoding.proofs.Sets.{with_one}
use Rattle.pbx_desc_encoding.proofs.set.FileSet.with_file.Goals as goal

pub returns : goal.returns
returns c = λ files.
    let after : SetText = record { text = c.put_file.new.out.items; len = c.in_ok-next.field-0; deep = c.first_deep.result } in
    subst (λ (s : SetText). IsSetOf s files → IsSetOf after (files ++ c.args.file.now ∷ [])) c.self.view_is
    (
    λ is.
    with_one _ after c.args.file.now files c.in_ok-is_deep.is_deep is c.in_ok-put_file.ensures.text c.in_ok-put_file.ensures.sound c.in_ok-next.ensures
    c.in_ok-is_deep.ensures c.first_deep.ensures
    )
