use Rattle.std.proofs.Common.{◌<◌, ◌∙◌, [], ℕ, length, get_or, rules}
use Rattle.protox_io.specs.Sink.{Appends, Begins}
use Rattle.protox_io.proofs.Counts.{pieces_refused}
use Rattle.protox_run.specs.Outcome.{note_line, notes_at}
use Rattle.protox_run.proofs.report.write_notes.Goals as goal

pub returns-in-Err-clause-told : goal.returns-in-Err-clause-told
returns-in-Err-clause-told g c tells =
    let h : c.loop-index.index-index < length c.as_slice-index-items.result.now = search rules in
    let told : Appends (g.E.Sink.output c.args.err.now).held (g.E.Sink.output c.write_note.new.err).held (λ added. Begins added (notes_at c.as_slice-files.result.now c.as_slice-index-items.result.now))
    = pieces_refused (λ (i : ℕ). note_line (get_or c.as_slice-files.result.now i [])) c.as_slice-index-items.result.now c.loop-index.index-index _ _ _ _ h
    (c.loop-index.invariant.told tells) (c.in-Err.ensures.told (c.loop-index.invariant.keeps_tells ∙ tells)) in
    rw (← c.as_slice-files.ensures, ← c.as_slice-index-items.ensures) told
