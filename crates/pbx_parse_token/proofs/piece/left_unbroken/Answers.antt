use Rattle.std.proofs.Common.{get_or, sym}
use Rattle.pbx_parse_token.proofs.Faults.{split_from, cut_before, break_byte}
use Rattle.pbx_parse_token.proofs.piece.left_unbroken.Goals as goal

pub returns-then-breaks-clause-cut : goal.returns-then-breaks-clause-cut
returns-then-breaks-clause-cut c = cut_before c.args.text.now c.scan.rest.now c.in-len1-up.len_at_least (break_byte (get_or c.scan.rest.now 0 0) (sym c.if-breaks.ensures)) c.scan.invariant

pub scan-preserved : goal.scan-preserved
scan-preserved c = split_from c.args.text.now c.scan.rest.now 1 c.scan.invariant
