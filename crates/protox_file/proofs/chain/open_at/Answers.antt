use Rattle.std.proofs.Common.{◌<◌, length, rules}
use Rattle.std.proofs.Math.Seq.{map-set_same}
use Rattle.protox_file.proofs.Members.{later_set, member_cause}
use Rattle.protox_file.proofs.chain.open_at.Goals as goal

pub returns-clause-cause : goal.returns-clause-cause
returns-clause-cause g c =
    let fits : c.args.index < length c.args.members.now.items = search rules in
    member_cause (λ b. (goal.FileResolver-dyn g (b.vtable, b.value)).library b.value) (λ b. (goal.FileResolver-dyn g (b.vtable, b.value)).count b.value)
    c.args.members.now.items c.args.index c.index_mut.result.now _ fits c.index_mut.ensures.value _ _ c.open_member.ensures.cause

pub returns-clause-later : goal.returns-clause-later
returns-clause-later g c =
    let fits : c.args.index < length c.args.members.now.items = search rules in
    later_set _ _ _ c.index_mut.result.now _ fits c.index_mut.ensures.value c.open_member.ensures.later

pub returns-clause-keeps : goal.returns-clause-keeps
returns-clause-keeps g c = map-set_same _ _ _ _ c.index_mut.result.now (rw (← c.index_mut.ensures.value) c.open_member.ensures.keeps)
