use Rattle.std.proofs.Common.{◌∙◌, sym, ap, refl, rules}
use Rattle.std.proofs.lemmas.List.{length-map}
use Rattle.protox_file.specs.Chained.{chained}
use Rattle.protox_io.proofs.Counts.{later_same, later_again}
use Rattle.protox_file.proofs.Members.{chain_told, chain_next, chain_cause}
use Rattle.protox_file.proofs.chain.ChainFileResolverFileResolver.open_file.Goals as goal

pub loop-index-init : goal.loop-index-init
loop-index-init g c = record { keeps = refl; later = later_same _; passed = λ _. refl }

pub returns-then-not-is_not_found-clause-told : goal.returns-then-not-is_not_found-clause-told
returns-then-not-is_not_found-clause-told g c =
    chain_told _ _ _ _ _ c.loop-index.invariant.keeps (rw length-map (search rules)) c.loop-index.invariant.passed
    c.open_at-answer.ensures.told (sym c.is_not_found.ensures ∙ c.if-not-is_not_found.true)

pub returns-then-not-is_not_found-clause-cause : goal.returns-then-not-is_not_found-clause-cause
returns-then-not-is_not_found-clause-cause g c =
    chain_cause _ _ _ _ _ _ _ c.loop-index.invariant.keeps c.loop-index.invariant.later c.open_at-answer.ensures.cause

pub returns-then-not-is_not_found-clause-keeps : goal.returns-then-not-is_not_found-clause-keeps
returns-then-not-is_not_found-clause-keeps g c = ap chained (c.open_at-answer.ensures.keeps ∙ c.loop-index.invariant.keeps)

pub returns-then-not-is_not_found-clause-later : goal.returns-then-not-is_not_found-clause-later
returns-then-not-is_not_found-clause-later g c = later_again _ _ _ c.loop-index.invariant.later c.open_at-answer.ensures.later

pub loop-index-preserved : goal.loop-index-preserved
loop-index-preserved g c = record {
  keeps = c.open_at-answer.ensures.keeps ∙ c.loop-index.invariant.keeps;
  later = later_again _ _ _ c.loop-index.invariant.later c.open_at-answer.ensures.later;
  passed = chain_next _ _ _ _ _ c.loop-index.invariant.keeps (rw length-map (search rules)) c.loop-index.invariant.passed
      c.open_at-answer.ensures.told (sym c.is_not_found.ensures ∙ c.if-not-is_not_found.false);
}
