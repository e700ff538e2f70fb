use Rattle.std.proofs.Common.{Some, ap}
use Rattle.pbx_json_writing.proofs.Views.{inserted}
use Rattle.pbx_json_writing.proofs.members.put.Goals as goal

pub returns-in-Ok-insert-clause-written : goal.returns-in-Ok-insert-clause-written
returns-in-Ok-insert-clause-written c =
    rw c.requires
    (ap Some (inserted c.args.map.now.entries c.insert.new.self.entries c.in-Ok.key c.args.tree c.args.key.now c.in-Ok-insert.ensures.entries c.in-Ok.ensures.ok))
