use Rattle.pbx_content_map.proofs.Places.{stands, gap, gap_past}
use Rattle.pbx_content_map.proofs.map.find.Goals.{else-at-entries-via-then-at-entries+else-entries-at, else-at-entries-via-else-at-entries}
use Rattle.pbx_content_map.proofs.map.find.Goals as goal

pub returns-then-entries-at-clause-found : goal.returns-then-entries-at-clause-found
returns-then-entries-at-clause-found g c =
    stands c.args.number c.place_of-at.result c.args.entries.now c.index-entries-at.result c.place_of-at.ensures c.if-at-entries.true c.if-entries-at.true

pub returns-else-at-entries-clause-missing : goal.returns-else-at-entries-clause-missing
returns-else-at-entries-clause-missing g c =
    elim c.else-at-entries.branch [
      | else-at-entries-via-then-at-entries+else-entries-at w ↦
          gap c.args.number c.place_of-at.result c.args.entries.now w.index-entries-at.result c.place_of-at.ensures (λ lt. w.if-entries-at.false)
      | else-at-entries-via-else-at-entries w ↦ gap_past c.args.number c.place_of-at.result c.args.entries.now c.place_of-at.ensures w.if-at-entries.false
    ]
