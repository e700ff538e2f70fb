use Rattle.std.proofs.Common.{◌∙◌, ◌∷◌, [], sym, option_map}
use Rattle.pbx_content.proofs.OntoSplits.{there_map}
use Rattle.pbx_desc_decodable.proofs.Told.{one_told}
use Rattle.pbx_desc_decodable.proofs.set.is_decodable.Goals as goal

pub returns : goal.returns
returns c =
    c.is_some.ensures ∙ sym (there_map (λ v. v.items) c.in_ok-encode_decodable.field-0)
    ∙ one_told c.args.file.now (option_map (λ v. v.items) c.in_ok-encode_decodable.field-0)
    (c.in_ok-encode_decodable.ensures (c.args.file.now ∷ []) (c.in_ok-set.ensures [] c.in_ok-new.ensures))
