use Rattle.std.proofs.Common.{◌∙◌, sym, rules}
use Rattle.protox_file.proofs.Members.{resolve_here, resolve_next}
use Rattle.protox_file.proofs.chain.ChainFileResolverFileResolver.resolve_path.Goals as goal

pub returns-in-Some-clause-told : goal.returns-in-Some-clause-told
returns-in-Some-clause-told g c =
    resolve_here c.args.self.now.members.items c.loop-member.member-index c.member-item.result (search rules)
    (rw (← c.deref-member-items.ensures.value) c.member-item.is) _ _ _ (λ tells. sym c.in-Some.is ∙ c.in_ok-name.ensures.told tells) c.loop-member.invariant

pub loop-member-preserved : goal.loop-member-preserved
loop-member-preserved g c =
    resolve_next c.args.self.now.members.items c.loop-member.member-index c.member-item.result (search rules)
    (rw (← c.deref-member-items.ensures.value) c.member-item.is) _ _ (λ tells. sym c.in_default.is ∙ c.in_ok-name.ensures.told tells) c.loop-member.invariant
