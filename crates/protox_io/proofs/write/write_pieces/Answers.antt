use Rattle.std.proofs.Common.{◌<◌, length, ◌∙◌, rules}
use Rattle.protox_io.proofs.Counts.{pieces_refused}
use Rattle.protox_io.proofs.write.write_pieces.Goals as goal

pub returns-in-Err-clause-told : goal.returns-in-Err-clause-told
returns-in-Err-clause-told g c tells =
    let h : c.loop-piece.piece-index < length c.args.pieces.now = search rules in
    pieces_refused (λ p. p.now) c.args.pieces.now c.loop-piece.piece-index _ _ _ _ h (c.loop-piece.invariant.told tells) (c.in-Err.ensures.told (c.loop-piece.invariant.keeps_tells ∙ tells))
