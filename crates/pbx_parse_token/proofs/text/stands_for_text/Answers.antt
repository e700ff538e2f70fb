use Rattle.std.proofs.Common.{refl, sym, subst}
use Rattle.std.specs.Str.{IsUtf8}
use Rattle.std.proofs.lemmas.Bool.{false≢true}
use Rattle.std.proofs.lemmas.Str.{IsUtf8-nil}
use Rattle.pbx_parse_token.proofs.Unescaping.{unescaped_none, unescaped_more}
use Rattle.pbx_parse_token.proofs.text.stands_for_text.Goals as goal

pub returns-in_default : goal.returns-in_default
returns-in_default c = (λ h. c.scan.invariant.0 (subst IsUtf8 (sym (unescaped_none c.scan.rest.now c.in_default.len_below)) IsUtf8-nil), λ u. refl)

pub returns-in-None : goal.returns-in-None
returns-in-None c =
    let more = unescaped_more c.scan.rest.now c.in-len1-up.len_at_least c.first_at-first.result c.first_at-first.ensures.is in
    (λ h. absurd (false≢true h), λ u. absurd (c.in-None.ensures.is (subst IsUtf8 more (c.scan.invariant.1 u))))

pub scan-preserved : goal.scan-preserved
scan-preserved c =
    let more = unescaped_more c.scan.rest.now c.in-len1-up.len_at_least c.first_at-first.result c.first_at-first.ensures.is in
    let same = c.in-Some.ensures.is in
    (λ u. c.scan.invariant.0 (subst IsUtf8 (sym more) (same.1 u)), λ u. same.0 (subst IsUtf8 more (c.scan.invariant.1 u)))
