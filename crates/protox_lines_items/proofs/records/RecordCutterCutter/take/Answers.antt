use Rattle.std.proofs.Common.{rules, ◌≡◌, ◌<◌, ◌++◌, Some, subst}
use Rattle.protox_lines_items.specs.Items.{AreItems}
use Rattle.protox_lines_items.specs.Cutting.{IsCutFault}
use Rattle.protox_lines_items.specs.Records.{TakesPrefix}
use Rattle.protox_lines_items.proofs.RecordCuts.{ends_open, take_open, take_begun, cut_fault}
use Rattle.protox_lines_items.proofs.records.RecordCutterCutter.take.Goals as goal

pub returns-then-self-gt0-clause-stands : goal.returns-then-self-gt0-clause-stands
returns-then-self-gt0-clause-stands c read items s h =
    let some : 0 < c.args.self.now.left = search rules in
    take_open c.args.self.now c.take_record.new.self read c.args.bytes.now items c.take_record.result s some c.take_record.ensures.taken

pub returns-in_err-begun-clause-fault : goal.returns-in_err-begun-clause-fault
returns-in_err-begun-clause-fault c read items s h =
    let none : c.args.self.now.left ≡ 0 = search rules in
    let ends = ends_open c.args.self.now read items s none in
    let fault : IsCutFault AreItems (read ++ c.args.bytes.now) items c.in_err-begun.field-0.0 =
    cut_fault c.args.self.now read c.args.bytes.now items c.in_err-begun.field-0.0 s none h (c.in_err-begun.ensures.fault ends) in
    search rules

pub returns-in-Some-clause-stands : goal.returns-in-Some-clause-stands
returns-in-Some-clause-stands c read items s h =
    let none : c.args.self.now.left ≡ 0 = search rules in
    let ends = ends_open c.args.self.now read items s none in
    let taken : TakesPrefix c.args.self.now c.take_prefix.new.self c.args.bytes.now (Some c.in-Some.begun) =
    subst (λ o. TakesPrefix c.args.self.now c.take_prefix.new.self c.args.bytes.now o) c.in-Some.is (c.in_ok-begun.ensures.taken ends) in
    take_begun c.args.self.now c.take_prefix.new.self c.take_record-in-Some.new.self read c.args.bytes.now items
    c.in-Some.begun c.take_record-in-Some.result s none taken c.take_record-in-Some.ensures.within c.take_record-in-Some.ensures.taken
