use Rattle.std.proofs.Common.{sym, ◌∙◌}
use Rattle.pbx_message_dynamic.proofs.KeyPlaces.{stands, gap, gap_past}
use Rattle.pbx_message_dynamic.proofs.key_map.find.Goals.{else-at-entries-via-then-at-entries+else-not-is_before, else-at-entries-via-else-at-entries}
use Rattle.pbx_message_dynamic.proofs.key_map.find.Goals as goal

pub returns-then-not-is_before-clause-found : goal.returns-then-not-is_before-clause-found
returns-then-not-is_before-clause-found g c =
    stands c.args.key.now c.place_of-at.result c.args.entries.now c.index-entries-at.result c.place_of-at.ensures c.if-at-entries.true
    (sym c.is_before.ensures ∙ c.if-not-is_before.true)

pub returns-else-at-entries-clause-missing : goal.returns-else-at-entries-clause-missing
returns-else-at-entries-clause-missing g c =
    elim c.else-at-entries.branch [
      | else-at-entries-via-then-at-entries+else-not-is_before w ↦
          gap c.args.key.now c.place_of-at.result c.args.entries.now w.index-entries-at.result c.place_of-at.ensures
          (λ lt. sym w.is_before.ensures ∙ w.if-not-is_before.false)
      | else-at-entries-via-else-at-entries w ↦ gap_past c.args.key.now c.place_of-at.result c.args.entries.now c.place_of-at.ensures w.if-at-entries.false
    ]
