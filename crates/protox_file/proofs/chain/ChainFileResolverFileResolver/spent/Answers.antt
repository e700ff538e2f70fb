use Rattle.std.proofs.Common.{◌∙◌, sym, rules}
use Rattle.protox_file.proofs.Members.{spent_here, spent_next}
use Rattle.protox_file.proofs.chain.ChainFileResolverFileResolver.spent.Goals as goal

pub returns-then-member_is_spent : goal.returns-then-member_is_spent
returns-then-member_is_spent g c =
    spent_here c.args.self.now.members.items c.loop-member.member-index c.member-item.result (search rules)
    (rw (← c.deref-member-items.ensures.value) c.member-item.is) _ (sym c.member_is_spent.ensures ∙ c.if-member_is_spent.true) c.loop-member.invariant

pub loop-member-preserved : goal.loop-member-preserved
loop-member-preserved g c =
    spent_next c.args.self.now.members.items c.loop-member.member-index c.member-item.result (search rules)
    (rw (← c.deref-member-items.ensures.value) c.member-item.is) _ (sym c.member_is_spent.ensures ∙ c.if-member_is_spent.false) c.loop-member.invariant
