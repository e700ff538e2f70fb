use Rattle.std.proofs.Common.{◌∙◌, refl, sym, get_or, true, false, arith}
use Rattle.pbx_parse_token.proofs.Faults.{split_from, cut_before, backslash}
use Rattle.pbx_parse_token.proofs.Unescaping.{good_none, good_more, next_length, tail_of}
use Rattle.pbx_parse_token.proofs.escape.bad_escape.Goals as goal

pub returns-in-empty-clause-is : goal.returns-in-empty-clause-is
returns-in-empty-clause-is c = sym c.scan.invariant.so_far ∙ good_none c.scan.rest.now c.in-empty.len_below

pub returns-then-is_bad-clause-is : goal.returns-then-is_bad-clause-is
returns-then-is_bad-clause-is c = sym c.scan.invariant.so_far ∙ good_more c.scan.rest.now c.in-len1-up.len_at_least true _ c.if-is_bad.ensures refl

pub returns-then-is_bad-clause-cut : goal.returns-then-is_bad-clause-cut
returns-then-is_bad-clause-cut c =
    cut_before c.args.text.now c.scan.rest.now c.in-len1-up.len_at_least (backslash (get_or c.scan.rest.now 0 0) (tail_of c.scan.rest.now) (sym c.if-is_bad.ensures)) c.scan.invariant.left

pub scan-preserved : goal.scan-preserved
scan-preserved c = record {
  so_far = sym (good_more c.scan.rest.now c.in-len1-up.len_at_least false c.first_at.result c.if-is_bad.ensures c.first_at.ensures.is) ∙ c.scan.invariant.so_far;
  left = split_from c.args.text.now (tail_of c.scan.rest.now) c.first_at.result.size (split_from c.args.text.now c.scan.rest.now 1 c.scan.invariant.left);
  lengths = omega (arith, next_length c.first_at.result.size c.scan.rest.now, c.scan.invariant.lengths);
}
