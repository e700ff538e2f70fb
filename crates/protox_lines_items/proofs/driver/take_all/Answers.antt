use Rattle.std.proofs.Common.{◌∙◌, ◌+◌, List, ℕ, IsTrue, length, sym, refl, rules, subst}
use Rattle.protox_lines_items.specs.Writing.{Taken}
use Rattle.protox_lines_items.proofs.Taking.{taken_none, taken_more, taken_all, taken_ends, goes_as, ends_as, none_left, few_more}
use Rattle.protox_lines_items.proofs.driver.take_all.Goals as goal

pub taking-init : goal.taking-init
taking-init g c = record {
  taken = taken_none (g.C.Cutter.stands c.args.cutter.now) (g.V.ConvertItem.converted c.args.converter.now) (g.K.Sink.output c.args.out.now).held
      c.args.written.now.gathered c.args.written.now.count c.args.bytes.now (IsTrue (g.K.Sink.output c.args.out.now).tells);
  few = search rules;
  room = search rules;
  later = search rules;
  keeps_tells = refl;
  same = refl;
  same_faults = λ x e h. h;
}

pub taking-preserved : goal.taking-preserved
taking-preserved g c =
    let v = c.taking.invariant in
    let P : List ℕ → Type 0 = λ z. Taken (IsTrue (g.K.Sink.output c.args.out.now).tells) (g.C.Cutter.stands c.args.cutter.now) (g.V.ConvertItem.converted c.args.converter.now)
    (g.K.Sink.output c.args.out.now).held c.args.written.now.gathered c.args.written.now.count (g.C.Cutter.stands c.take_item.new.cutter)
    (g.K.Sink.output c.take_item.new.out).held c.take_item.new.written.gathered c.take_item.new.written.count c.args.bytes.now z in
    record {
      taken = subst P (sym c.behind-rest.ensures) (taken_more (g.C.Cutter.stands c.args.cutter.now) (g.C.Cutter.stands c.taking.cutter) (g.C.Cutter.stands c.take_item.new.cutter)
          (g.V.ConvertItem.converted c.args.converter.now) (g.K.Sink.output c.args.out.now).held c.args.written.now.gathered c.args.written.now.count
          (g.K.Sink.output c.taking.out).held c.taking.written.gathered c.taking.written.count
          (g.K.Sink.output c.take_item.new.out).held c.take_item.new.written.gathered c.take_item.new.written.count
          c.args.bytes.now c.taking.rest.now c.in-Ok.count (IsTrue (g.K.Sink.output c.args.out.now).tells) v.taken
          (λ t. goes_as (g.C.Cutter.stands c.taking.cutter) (g.C.Cutter.stands c.take_item.new.cutter) (g.V.ConvertItem.converted c.args.converter.now)
          (g.V.ConvertItem.converted c.taking.converter) (g.K.Sink.output c.taking.out).held c.taking.written.gathered c.taking.written.count
          (g.K.Sink.output c.take_item.new.out).held c.take_item.new.written.gathered c.take_item.new.written.count c.taking.rest.now c.in-Ok.count v.same
          (c.in-Ok.ensures.goes (v.keeps_tells ∙ t))));
      few = few_more c.taking.rest.now c.behind-rest.result.now c.in-Ok.count c.taking.written.count c.take_item.new.written.count
          (c.args.written.now.count + length c.args.bytes.now) c.behind-rest.ensures (sym c.is_empty.ensures ∙ c.taking-test.true)
          c.in-Ok.ensures.some c.in-Ok.ensures.within c.in-Ok.ensures.count v.few;
      room = v.room;
      later = search rules;
      keeps_tells = c.take_item.ensures.keeps_tells ∙ v.keeps_tells;
      same = c.take_item.ensures.same ∙ v.same;
      same_faults = λ x e h. v.same_faults x e (c.take_item.ensures.same_faults x e h);
    }

pub returns-in-Err-clause-ends : goal.returns-in-Err-clause-ends
returns-in-Err-clause-ends g c =
    let v = c.taking.invariant in
    taken_ends g.C.Cutter.cuts (g.C.Cutter.stands c.args.cutter.now) (g.C.Cutter.stands c.taking.cutter) (g.V.ConvertItem.converted c.args.converter.now)
    (g.V.ConvertItem.faulty c.taking.converter) (g.V.ConvertItem.faulty c.args.converter.now) (g.K.Sink.output c.args.out.now).held
    c.args.written.now.gathered c.args.written.now.count (g.K.Sink.output c.taking.out).held c.taking.written.gathered c.taking.written.count
    c.args.bytes.now c.taking.rest.now (g.K.Sink.output c.take_item.new.out).held c.in-Err.error (IsTrue (g.K.Sink.output c.args.out.now).tells) v.same_faults v.taken
    (λ t. ends_as g.C.Cutter.cuts (g.C.Cutter.stands c.taking.cutter) (g.V.ConvertItem.converted c.args.converter.now) (g.V.ConvertItem.converted c.taking.converter)
    (g.V.ConvertItem.faulty c.taking.converter) (g.K.Sink.output c.taking.out).held c.taking.written.gathered c.taking.written.count c.taking.rest.now
    (g.K.Sink.output c.take_item.new.out).held c.in-Err.error v.same (c.in-Err.ensures.ends (v.keeps_tells ∙ t)))

pub returns-clause-goes : goal.returns-clause-goes
returns-clause-goes g c =
    taken_all (g.C.Cutter.stands c.args.cutter.now) (g.C.Cutter.stands c.taking.cutter) (g.V.ConvertItem.converted c.args.converter.now)
    (g.K.Sink.output c.args.out.now).held c.args.written.now.gathered c.args.written.now.count (g.K.Sink.output c.taking.out).held
    c.taking.written.gathered c.taking.written.count c.args.bytes.now c.taking.rest.now (IsTrue (g.K.Sink.output c.args.out.now).tells)
    (none_left c.taking.rest.now c.taking-test.ensures) c.taking.invariant.taken
