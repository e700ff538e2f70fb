use Rattle.std.proofs.Common.{string_bytes}
use Rattle.std.proofs.lemmas.Map.Text.{btree_map_updates_text}
use Rattle.protox_file_sources.proofs.memory.put_under.Goals as goal

pub returns-in-Ok-insert-clause-ok : goal.returns-in-Ok-insert-clause-ok
returns-in-Ok-insert-clause-ok g c =
    let sets = btree_map_updates_text (string_bytes c.in-Ok.key) c.args.values.now c.insert.new.self _ c.in-Ok-insert.ensures.updates in
    rw c.in-Ok.ensures.ok at sets
