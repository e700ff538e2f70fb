use Rattle.std.proofs.Common.{ℕ, string_bytes, option_map}
use Rattle.protox_io.specs.Count.{Rose, RoseTimes}
use Rattle.protox_io.proofs.Counts.{rose_later}
use Rattle.protox_words.specs.Told.{args_told}
use Rattle.protox_run.specs.Told.{stop_told, writes_told, line_told}
use Rattle.protox_run.proofs.Causes.{caused_in, of_carry, rose_once}
use Rattle.protox_run.proofs.Endings.{carry_works, plan_works, causes_end}
use Rattle.protox_run.proofs.Judged.{ok_of, err_of}
use Rattle.protox_run.proofs.top.work.Goals as goal

pub returns-in-Ok-clause-told : goal.returns-in-Ok-clause-told
returns-in-Ok-clause-told g c disk input out =
    carry_works (args_told c.args.args.now) _ _ _ _ (writes_told c.in-Ok.ready) (line_told (option_map string_bytes c.in-Ok.ready.line)) _ _ _ _ _ c.carry-ended.result
    (ok_of _ c.plan-disk.result.result c.in-Ok.ready c.in-Ok.is (c.plan-disk.ensures.done disk input))
    c.plan-disk.ensures.keeps (rose_later _ _ _ c.plan-disk.ensures.later) (c.carry-ended.ensures.told (rw c.plan-disk.ensures.keeps disk) out)

pub returns-in-Ok-clause-cause : goal.returns-in-Ok-clause-cause
returns-in-Ok-clause-cause g c =
    let a = args_told c.args.args.now in
    let first = g.D.Disk.count c.args.disk in
    let middle = g.D.Disk.count c.plan-disk.result.disk in
    let last = g.D.Disk.count c.carry-ended.new.disk in
    let input : Type 0 = Rose (g.S.Source.count c.args.input.now) (g.S.Source.count c.plan-disk.new.input) in
    let out : Type 0 = Rose (g.K.Sink.count c.args.out.now) (g.K.Sink.count c.carry-ended.new.out) in
    causes_end a (λ times. RoseTimes times first last) input out c.carry-ended.result
    (λ stop h. of_carry a (Rose middle last) out (λ times. RoseTimes times first last) input out (stop_told stop)
    (λ risen. rose_once first last (rose_later first middle last c.plan-disk.ensures.later risen)) (λ z. z) h)
    c.carry-ended.ensures.cause

pub returns-in-Err-clause-told : goal.returns-in-Err-clause-told
returns-in-Err-clause-told g c disk input out =
    plan_works (args_told c.args.args.now) _ _ _ _ _ _ (stop_told c.in-Err.stop) c.plan-disk.ensures.keeps
    (err_of _ c.plan-disk.result.result c.in-Err.stop c.in-Err.is (c.plan-disk.ensures.stop disk input))

pub returns-in-Err-clause-cause : goal.returns-in-Err-clause-cause
returns-in-Err-clause-cause g c =
    let rose : ℕ → Type 0 = λ times. RoseTimes times (g.D.Disk.count c.args.disk) (g.D.Disk.count c.plan-disk.result.disk) in
    let input : Type 0 = Rose (g.S.Source.count c.args.input.now) (g.S.Source.count c.plan-disk.new.input) in
    caused_in (args_told c.args.args.now) rose input ⊥ rose input (Rose (g.K.Sink.count c.args.out.now) (g.K.Sink.count c.args.out.now)) (stop_told c.in-Err.stop)
    (λ times z. z) (λ z. z) (λ z. absurd z)
    (err_of _ c.plan-disk.result.result c.in-Err.stop c.in-Err.is c.plan-disk.ensures.cause)
