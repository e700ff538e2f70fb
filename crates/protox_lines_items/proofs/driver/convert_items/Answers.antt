use Rattle.std.proofs.Common.{◌≡◌, ◌≤◌, ◌+◌, ◌∙◌, ◌++◌, List, ℕ, IsTrue, length, take, drop, sym, subst, ap, rules, arith, Err}
use Rattle.protox_lines_items.specs.Items.{most}
use Rattle.protox_lines_items.specs.Writing.{Reading, Answers}
use Rattle.protox_lines_items.proofs.Whole.{told_of, untold_of, block_parts, left_over, unread_answer, finish_answer, block_answer, reading_more, past_answer, nothing_left, part_long, part_room}
use Rattle.protox_lines_items.proofs.driver.convert_items.Goals as goal
use Rattle.protox_lines_items.proofs.driver.convert_items.Given as given

unread : (g : given.Over) (c : goal.After-drop-cutter g) → Answers (IsTrue (g.S.Source.input c.args.input.now).tells) (IsTrue (g.K.Sink.output c.args.out.now).tells)
    g.C.Cutter.cuts (g.V.ConvertItem.converted c.args.converter.now) (g.V.ConvertItem.faulty c.args.converter.now) (g.K.Sink.output c.args.out.now).held
    (g.K.Sink.output c.told_behind-error.new.out).held (g.S.Source.input c.args.input.now).left (Err c.told_behind-error.result)
unread g c =
    let v = c.reading.invariant in
    unread_answer (IsTrue (g.S.Source.input c.args.input.now).tells) (IsTrue (g.K.Sink.output c.args.out.now).tells)
    g.C.Cutter.cuts (g.C.Cutter.stands c.reading.cutter) (g.V.ConvertItem.converted c.args.converter.now) (g.V.ConvertItem.faulty c.args.converter.now)
    (g.K.Sink.output c.args.out.now).held (g.K.Sink.output c.reading.out).held c.reading.written.gathered c.reading.written.count
    (g.S.Source.input c.args.input.now).left (g.S.Source.input c.reading.input).left c.reading.read (g.K.Sink.output c.told_behind-error.new.out).held
    c.told_behind-error.result v.going v.room (g.met.C.Cutter.begins c.reading.cutter) (λ t. c.told_behind-error.ensures.told (v.out_keeps ∙ t))

pub returns-in-Err-clause-told : goal.returns-in-Err-clause-told
returns-in-Err-clause-told g c =
    told_of (IsTrue (g.S.Source.input c.args.input.now).tells) (IsTrue (g.K.Sink.output c.args.out.now).tells)
    g.C.Cutter.cuts (g.V.ConvertItem.converted c.args.converter.now) (g.V.ConvertItem.faulty c.args.converter.now) (g.K.Sink.output c.args.out.now).held
    (g.K.Sink.output c.told_behind-error.new.out).held (g.S.Source.input c.args.input.now).left (Err c.told_behind-error.result) (unread g c)

pub returns-in-Err-clause-untold : goal.returns-in-Err-clause-untold
returns-in-Err-clause-untold g c =
    untold_of (IsTrue (g.S.Source.input c.args.input.now).tells) (IsTrue (g.K.Sink.output c.args.out.now).tells)
    g.C.Cutter.cuts (g.V.ConvertItem.converted c.args.converter.now) (g.V.ConvertItem.faulty c.args.converter.now) (g.K.Sink.output c.args.out.now).held
    (g.K.Sink.output c.told_behind-error.new.out).held (g.S.Source.input c.args.input.now).left (Err c.told_behind-error.result) (unread g c)

finished : (g : given.Over) (c : goal.After-drop-cutter-then-n-eq0 g) → Answers (IsTrue (g.S.Source.input c.args.input.now).tells) (IsTrue (g.K.Sink.output c.args.out.now).tells)
    g.C.Cutter.cuts (g.V.ConvertItem.converted c.args.converter.now) (g.V.ConvertItem.faulty c.args.converter.now) (g.K.Sink.output c.args.out.now).held
    (g.K.Sink.output c.finish.new.out).held (g.S.Source.input c.args.input.now).left c.finish.result
finished g c =
    let v = c.reading.invariant in
    finish_answer (IsTrue (g.S.Source.input c.args.input.now).tells) (IsTrue (g.K.Sink.output c.args.out.now).tells)
    g.C.Cutter.cuts (g.C.Cutter.stands c.reading.cutter) (g.V.ConvertItem.converted c.args.converter.now) (g.V.ConvertItem.converted c.reading.converter)
    (g.V.ConvertItem.faulty c.reading.converter) (g.V.ConvertItem.faulty c.args.converter.now)
    (g.K.Sink.output c.args.out.now).held (g.K.Sink.output c.reading.out).held c.reading.written.gathered c.reading.written.count
    (g.S.Source.input c.args.input.now).left (g.S.Source.input c.reading.input).left c.reading.read (g.K.Sink.output c.finish.new.out).held
    c.finish.result v.going v.room
    (λ s. nothing_left (g.S.Source.input c.reading.input).left c.in-Ok.n (length c.reading.block) (search rules) v.block (c.in-Ok.ensures.some (v.keeps_tells ∙ s)))
    v.same v.same_faults (λ t. c.finish.ensures.told (v.out_keeps ∙ t))

pub returns-then-n-eq0-clause-told : goal.returns-then-n-eq0-clause-told
returns-then-n-eq0-clause-told g c =
    told_of (IsTrue (g.S.Source.input c.args.input.now).tells) (IsTrue (g.K.Sink.output c.args.out.now).tells)
    g.C.Cutter.cuts (g.V.ConvertItem.converted c.args.converter.now) (g.V.ConvertItem.faulty c.args.converter.now) (g.K.Sink.output c.args.out.now).held
    (g.K.Sink.output c.finish.new.out).held (g.S.Source.input c.args.input.now).left c.finish.result (finished g c)

pub returns-then-n-eq0-clause-untold : goal.returns-then-n-eq0-clause-untold
returns-then-n-eq0-clause-untold g c =
    untold_of (IsTrue (g.S.Source.input c.args.input.now).tells) (IsTrue (g.K.Sink.output c.args.out.now).tells)
    g.C.Cutter.cuts (g.V.ConvertItem.converted c.args.converter.now) (g.V.ConvertItem.faulty c.args.converter.now) (g.K.Sink.output c.args.out.now).held
    (g.K.Sink.output c.finish.new.out).held (g.S.Source.input c.args.input.now).left c.finish.result (finished g c)

faulty : (g : given.Over) (c : goal.After-drop-cutter-in-Err-take_all g) → Answers (IsTrue (g.S.Source.input c.args.input.now).tells) (IsTrue (g.K.Sink.output c.args.out.now).tells)
    g.C.Cutter.cuts (g.V.ConvertItem.converted c.args.converter.now) (g.V.ConvertItem.faulty c.args.converter.now) (g.K.Sink.output c.args.out.now).held
    (g.K.Sink.output c.take_all.new.out).held (g.S.Source.input c.args.input.now).left (Err c.in-Err-take_all.error)
faulty g c =
    let v = c.reading.invariant in
    block_answer (IsTrue (g.S.Source.input c.args.input.now).tells) (IsTrue (g.K.Sink.output c.args.out.now).tells)
    g.C.Cutter.cuts (g.C.Cutter.stands c.reading.cutter) (g.V.ConvertItem.converted c.args.converter.now) (g.V.ConvertItem.converted c.reading.converter)
    (g.V.ConvertItem.faulty c.reading.converter) (g.V.ConvertItem.faulty c.args.converter.now)
    (g.K.Sink.output c.args.out.now).held (g.K.Sink.output c.reading.out).held c.reading.written.gathered c.reading.written.count
    (g.S.Source.input c.args.input.now).left (g.S.Source.input c.reading.input).left c.reading.read
    (take c.counted-count.result c.read.new.buf) (drop c.counted-count.result (take c.in-Ok.n c.read.new.buf) ++ (g.S.Source.input c.read.new.self).left)
    (g.K.Sink.output c.take_all.new.out).held c.in-Err-take_all.error v.going
    (part_room c.read.new.buf c.reading.read c.counted-count.result c.in-Ok.n c.counted-count.ensures.within c.in-Ok.ensures.within c.counted-count.ensures.room)
    (λ s. block_parts c.read.new.buf (g.S.Source.input c.read.new.self).left (g.S.Source.input c.reading.input).left c.counted-count.result c.in-Ok.n
    c.counted-count.ensures.within c.in-Ok.ensures.within (c.in-Ok.ensures.told (v.keeps_tells ∙ s)))
    v.same v.same_faults (λ t. rw c.front.ensures at (c.in-Err-take_all.ensures.ends (v.out_keeps ∙ t)))

pub returns-in-Err-take_all-clause-told : goal.returns-in-Err-take_all-clause-told
returns-in-Err-take_all-clause-told g c =
    told_of (IsTrue (g.S.Source.input c.args.input.now).tells) (IsTrue (g.K.Sink.output c.args.out.now).tells)
    g.C.Cutter.cuts (g.V.ConvertItem.converted c.args.converter.now) (g.V.ConvertItem.faulty c.args.converter.now) (g.K.Sink.output c.args.out.now).held
    (g.K.Sink.output c.take_all.new.out).held (g.S.Source.input c.args.input.now).left (Err c.in-Err-take_all.error) (faulty g c)

pub returns-in-Err-take_all-clause-untold : goal.returns-in-Err-take_all-clause-untold
returns-in-Err-take_all-clause-untold g c =
    untold_of (IsTrue (g.S.Source.input c.args.input.now).tells) (IsTrue (g.K.Sink.output c.args.out.now).tells)
    g.C.Cutter.cuts (g.V.ConvertItem.converted c.args.converter.now) (g.V.ConvertItem.faulty c.args.converter.now) (g.K.Sink.output c.args.out.now).held
    (g.K.Sink.output c.take_all.new.out).held (g.S.Source.input c.args.input.now).left (Err c.in-Err-take_all.error) (faulty g c)

past : (g : given.Over) (c : goal.After-drop-cutter-then-count-n g) → Answers (IsTrue (g.S.Source.input c.args.input.now).tells) (IsTrue (g.K.Sink.output c.args.out.now).tells)
    g.C.Cutter.cuts (g.V.ConvertItem.converted c.args.converter.now) (g.V.ConvertItem.faulty c.args.converter.now) (g.K.Sink.output c.args.out.now).held
    (g.K.Sink.output c.told_behind.new.out).held (g.S.Source.input c.args.input.now).left (Err c.told_behind.result)
past g c =
    let v = c.reading.invariant in
    let count = c.counted-count.result in
    let part = take count c.read.new.buf in
    let rest = drop count (take c.in-Ok.n c.read.new.buf) ++ (g.S.Source.input c.read.new.self).left in
    let going = reading_more (IsTrue (g.S.Source.input c.args.input.now).tells) (IsTrue (g.K.Sink.output c.args.out.now).tells)
    (g.C.Cutter.stands c.reading.cutter) (g.C.Cutter.stands c.take_all.new.cutter) (g.V.ConvertItem.converted c.args.converter.now) (g.V.ConvertItem.converted c.reading.converter)
    (g.K.Sink.output c.args.out.now).held (g.K.Sink.output c.reading.out).held c.reading.written.gathered c.reading.written.count
    (g.S.Source.input c.args.input.now).left (g.S.Source.input c.reading.input).left c.reading.read part rest
    (g.K.Sink.output c.take_all.new.out).held c.take_all.new.written.gathered c.take_all.new.written.count v.going
    (part_room c.read.new.buf c.reading.read count c.in-Ok.n c.counted-count.ensures.within c.in-Ok.ensures.within c.counted-count.ensures.room)
    (λ s. block_parts c.read.new.buf (g.S.Source.input c.read.new.self).left (g.S.Source.input c.reading.input).left count c.in-Ok.n
    c.counted-count.ensures.within c.in-Ok.ensures.within (c.in-Ok.ensures.told (v.keeps_tells ∙ s)))
    v.same (λ t. rw c.front.ensures at (c.in-Ok-take_all.ensures.goes (v.out_keeps ∙ t))) in
    past_answer (IsTrue (g.S.Source.input c.args.input.now).tells) (IsTrue (g.K.Sink.output c.args.out.now).tells)
    g.C.Cutter.cuts (g.C.Cutter.stands c.take_all.new.cutter) (g.V.ConvertItem.converted c.args.converter.now) (g.V.ConvertItem.faulty c.args.converter.now)
    (g.K.Sink.output c.args.out.now).held (g.K.Sink.output c.take_all.new.out).held c.take_all.new.written.gathered c.take_all.new.written.count
    (g.S.Source.input c.args.input.now).left rest (c.reading.read + length part) (g.K.Sink.output c.told_behind.new.out).held c.told_behind.result
    going
    (ap (λ m. c.reading.read + m) (part_long c.read.new.buf count c.in-Ok.n c.counted-count.ensures.within c.in-Ok.ensures.within) ∙ c.counted-count.ensures.all (search rules))
    (left_over c.read.new.buf (g.S.Source.input c.read.new.self).left count c.in-Ok.n (search rules) c.in-Ok.ensures.within)
    (g.met.C.Cutter.past c.take_all.new.cutter) (λ t. c.told_behind.ensures.told (c.take_all.ensures.keeps_tells ∙ v.out_keeps ∙ t))

pub returns-then-count-n-clause-told : goal.returns-then-count-n-clause-told
returns-then-count-n-clause-told g c =
    told_of (IsTrue (g.S.Source.input c.args.input.now).tells) (IsTrue (g.K.Sink.output c.args.out.now).tells)
    g.C.Cutter.cuts (g.V.ConvertItem.converted c.args.converter.now) (g.V.ConvertItem.faulty c.args.converter.now) (g.K.Sink.output c.args.out.now).held
    (g.K.Sink.output c.told_behind.new.out).held (g.S.Source.input c.args.input.now).left (Err c.told_behind.result) (past g c)

pub returns-then-count-n-clause-untold : goal.returns-then-count-n-clause-untold
returns-then-count-n-clause-untold g c =
    untold_of (IsTrue (g.S.Source.input c.args.input.now).tells) (IsTrue (g.K.Sink.output c.args.out.now).tells)
    g.C.Cutter.cuts (g.V.ConvertItem.converted c.args.converter.now) (g.V.ConvertItem.faulty c.args.converter.now) (g.K.Sink.output c.args.out.now).held
    (g.K.Sink.output c.told_behind.new.out).held (g.S.Source.input c.args.input.now).left (Err c.told_behind.result) (past g c)

pub reading-preserved : goal.reading-preserved
reading-preserved g c =
    let v = c.reading.invariant in
    let all : c.counted-count.result ≡ c.in-Ok.n = search rules in
    let part = take c.in-Ok.n c.read.new.buf in
    let long : length part ≡ c.in-Ok.n = part_long c.read.new.buf c.in-Ok.n c.in-Ok.n (omega arith) c.in-Ok.ensures.within in
    let P : ℕ → Type 0 = λ m. Reading (IsTrue (g.S.Source.input c.args.input.now).tells) (IsTrue (g.K.Sink.output c.args.out.now).tells)
    (g.C.Cutter.stands c.take_all.new.cutter) (g.V.ConvertItem.converted c.args.converter.now)
    (g.K.Sink.output c.args.out.now).held (g.K.Sink.output c.take_all.new.out).held c.take_all.new.written.gathered c.take_all.new.written.count
    (g.S.Source.input c.args.input.now).left (g.S.Source.input c.read.new.self).left (c.reading.read + m) in
    let room : c.reading.read + c.in-Ok.n ≤ most = subst (λ m. c.reading.read + m ≤ most) all c.counted-count.ensures.room in
    let own : c.front.result.now ≡ part = c.front.ensures ∙ ap (λ m. take m c.read.new.buf) all in
    record {
      going = subst P long (reading_more (IsTrue (g.S.Source.input c.args.input.now).tells) (IsTrue (g.K.Sink.output c.args.out.now).tells)
          (g.C.Cutter.stands c.reading.cutter) (g.C.Cutter.stands c.take_all.new.cutter) (g.V.ConvertItem.converted c.args.converter.now) (g.V.ConvertItem.converted c.reading.converter)
          (g.K.Sink.output c.args.out.now).held (g.K.Sink.output c.reading.out).held c.reading.written.gathered c.reading.written.count
          (g.S.Source.input c.args.input.now).left (g.S.Source.input c.reading.input).left c.reading.read part (g.S.Source.input c.read.new.self).left
          (g.K.Sink.output c.take_all.new.out).held c.take_all.new.written.gathered c.take_all.new.written.count v.going
          (subst (λ m. c.reading.read + m ≤ most) (sym long) room) (λ s. c.in-Ok.ensures.told (v.keeps_tells ∙ s))
          v.same (λ t. rw own at (c.in-Ok-take_all.ensures.goes (v.out_keeps ∙ t))));
      few = omega (arith, v.few, c.in-Ok-take_all.ensures.count, ap (λ (z : List ℕ). length z) own ∙ long);
      room = room;
      block = search rules;
      later = search rules;
      out_later = search rules;
      keeps_tells = c.read.ensures.keeps_tells ∙ v.keeps_tells;
      out_keeps = c.take_all.ensures.keeps_tells ∙ v.out_keeps;
      same = c.take_all.ensures.same ∙ v.same;
      same_faults = λ x e h. v.same_faults x e (c.take_all.ensures.same_faults x e h);
    }
