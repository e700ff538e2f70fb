use Rattle.std.proofs.Common.{◌≡◌, ◌≤◌, ◌++◌, ◌∙◌, List, ℕ, take, drop, length, sym, subst, ap, append_assoc, arith}
use Rattle.std.proofs.lemmas.List.{take-append-drop, length-drop}
use Rattle.protox_lines_items.specs.Items.{most}
use Rattle.protox_lines_items.specs.Cutting.{with_item, IsCutFault}
use Rattle.protox_lines_items.specs.Lines.{AreLines, LineStands}
use Rattle.std.proofs.Math.Seq.{take-add}
use Rattle.protox_lines_items.proofs.lines.LineCutterCutter.take.Goals as goal

pub returns-in-Err-clause-fault : goal.returns-in-Err-clause-fault
returns-in-Err-clause-fault c read items s room =
    let n = c.cutting.count in
    let bytes = c.args.bytes.now in
    let same : (read ++ take n bytes) ++ drop n bytes ≡ read ++ bytes = append_assoc read (take n bytes) (drop n bytes) ∙ ap (λ z. read ++ z) (take-append-drop n bytes) in
    let L : List ℕ → Type 0 = λ z. length z ≤ most in
    let P : List ℕ → Type 0 = λ z. IsCutFault AreLines z items c.in-Err.fault in
    subst P same ((rw c.behind.ensures at c.in-Err.ensures.fault) (read ++ take n bytes) items (c.cutting.invariant.stands read items s) (subst L (sym same) room))

pub returns-then-taken-clause-stands : goal.returns-then-taken-clause-stands
returns-then-taken-clause-stands c read items s room =
    let n = c.cutting.count in
    let bytes = c.args.bytes.now in
    let t = c.in-Ok.taken.count in
    let P : List ℕ → Type 0 = λ z. LineStands c.take_piece.new.self z (with_item c.in-Ok.taken.whole c.take_piece.new.self.line.items items) in
    subst P (append_assoc read (take n bytes) (take t (drop n bytes)) ∙ ap (λ z. read ++ z) (sym (take-add n t bytes)))
    ((rw c.behind.ensures at c.in-Ok.ensures.stands) (read ++ take n bytes) items (c.cutting.invariant.stands read items s))

pub cutting-preserved : goal.cutting-preserved
cutting-preserved c =
    let n = c.cutting.count in
    let bytes = c.args.bytes.now in
    let t = c.in-Ok.taken.count in
    record {
      within = omega (arith, c.cutting.invariant.within, rw c.behind.ensures at c.in-Ok.ensures.within, length-drop n bytes);
      stands = λ read items s.
          let P : List ℕ → Type 0 = λ z. LineStands c.take_piece.new.self z items in
          subst P (append_assoc read (take n bytes) (take t (drop n bytes)) ∙ ap (λ z. read ++ z) (sym (take-add n t bytes)))
          (rw c.if-taken.false at ((rw c.behind.ensures at c.in-Ok.ensures.stands) (read ++ take n bytes) items (c.cutting.invariant.stands read items s)));
    }
