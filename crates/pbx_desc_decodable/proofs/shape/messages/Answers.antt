use Rattle.pbx_desc_decodable.proofs.Parts.{joined}
use Rattle.pbx_desc_decodable.proofs.shape.messages.Goals as goal

pub returns : goal.returns
returns c =
    let all =
    joined _ _ _ _ _ _ c.file_types.ensures c.member_types.ensures c.file_option_types.ensures c.option_types.ensures c.feature_types.ensures in
    cc (
      c.in_ok-add_messages.ensures,
      c.in_ok-add_messages-2.ensures,
      c.in_ok-add_messages-3.ensures,
      c.in_ok-add_messages-4.ensures,
      c.in_ok-add_messages-5.ensures,
    )
