use Rattle.std.proofs.Common.{◌++◌, ◌∷◌, ◌∙◌, [], List, ℕ, take, drop, sym, subst, ap, append_assoc, append-nil}
use Rattle.std.proofs.Math.Seq.{take-length}
use Rattle.std.proofs.lemmas.List.{take-append-drop}
use Rattle.protox_lines_items.specs.Cutting.{with_item}
use Rattle.protox_lines_items.specs.Lines.{LineStands}
use Rattle.protox_lines_items.proofs.LineEnds.{grown, cannot_grow}
use Rattle.protox_lines_items.proofs.lines.LineCutter.take_piece.Goals as goal

pub returns-in-Ok-clause-stands : goal.returns-in-Ok-clause-stands
returns-in-Ok-clause-stands c read items s =
    let part = take c.in-Some.end c.args.bytes.now in
    let mid = grown c.args.self.now c.grow.new.self read part items s c.in-Some.ensures.1 (λ piece k. rw c.front.ensures at (c.in-Ok.ensures.ok piece k)) in
    let P : List ℕ → Type 0 = λ z. LineStands c.end.new.self z (with_item c.end.result c.end.new.self.line.items items) in
    subst P (append_assoc read part (10 ∷ []) ∙ ap (λ z. read ++ z) (sym c.in-Some.ensures.2)) (c.end.ensures.stands (read ++ part) items mid)

pub returns-in-Err-clause-fault : goal.returns-in-Err-clause-fault
returns-in-Err-clause-fault c read items s room =
    let part = take c.in-Some.end c.args.bytes.now in
    cannot_grow c.args.self.now read part (drop c.in-Some.end c.args.bytes.now) c.args.bytes.now items c.in-Err.fault s c.in-Some.ensures.1
    (sym (take-append-drop c.in-Some.end c.args.bytes.now)) room (λ piece k. rw c.front.ensures at (c.in-Err.ensures.err piece k))

pub returns-in-Ok-grow-clause-stands : goal.returns-in-Ok-grow-clause-stands
returns-in-Ok-grow-clause-stands c read items s =
    let P : List ℕ → Type 0 = λ z. LineStands c.grow-in-None.new.self (read ++ z) items in
    subst P (sym (take-length c.args.bytes.now))
    (grown c.args.self.now c.grow-in-None.new.self read c.args.bytes.now items s c.in-None.ensures (λ piece k. c.in-Ok-grow.ensures.ok piece k))

pub returns-in-Err-grow-clause-fault : goal.returns-in-Err-grow-clause-fault
returns-in-Err-grow-clause-fault c read items s room =
    cannot_grow c.args.self.now read c.args.bytes.now [] c.args.bytes.now items c.in-Err-grow.fault s c.in-None.ensures
    (sym (append-nil c.args.bytes.now)) room (λ piece k. c.in-Err-grow.ensures.err piece k)
