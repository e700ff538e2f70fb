use Rattle.pbx_parse_token.proofs.piece.text_of.Goals as goal

pub unreachable-requires : goal.unreachable-requires
unreachable-requires c = c.in-Err.ensures.cases.0 c.requires
