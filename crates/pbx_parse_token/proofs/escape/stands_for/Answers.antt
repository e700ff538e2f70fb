use Rattle.std.proofs.lemmas.Bool.{false≢true}
use Rattle.pbx_parse_token.proofs.Unescaping.{same_none, not_shorter, same_more, not_other}
use Rattle.pbx_parse_token.proofs.escape.stands_for.Goals as goal

pub returns-in_default : goal.returns-in_default
returns-in_default c =
    let same = same_none c.scan.rest.now c.scan.wanted.now c.is_empty.result c.in_default.len_below c.is_empty.ensures in
    (λ h. c.scan.invariant.0 (same.0 h), λ h. same.1 (c.scan.invariant.1 h))

pub returns-in_default-wanted : goal.returns-in_default-wanted
returns-in_default-wanted c = (λ h. absurd (false≢true h), λ h. absurd (not_shorter c.scan.rest.now c.scan.wanted.now c.in-len1-up.len_at_least c.in_default-wanted.len_below (c.scan.invariant.1 h)))

pub returns-then-first-b : goal.returns-then-first-b
returns-then-first-b c = (λ h. absurd (false≢true h), λ h. absurd (not_other c.scan.rest.now c.scan.wanted.now c.in-len1-up.len_at_least c.in-len1-up-wanted.len_at_least c.first_at-first.result c.first_at-first.ensures.is c.if-first-b.true (c.scan.invariant.1 h)))

pub scan-preserved : goal.scan-preserved
scan-preserved c =
    let same = same_more c.scan.rest.now c.scan.wanted.now c.in-len1-up.len_at_least c.in-len1-up-wanted.len_at_least c.first_at-first.result c.first_at-first.ensures.is c.if-first-b.false in
    (λ h. c.scan.invariant.0 (same.0 h), λ h. same.1 (c.scan.invariant.1 h))
