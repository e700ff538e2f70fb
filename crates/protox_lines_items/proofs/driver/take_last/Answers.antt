use Rattle.protox_lines_items.proofs.Endings.{last_all_go, last_all_end, cut_off_ends}
use Rattle.protox_lines_items.proofs.driver.take_last.Goals as goal

pub returns-in-Item-clause-goes : goal.returns-in-Item-clause-goes
returns-in-Item-clause-goes g c tells =
    last_all_go g.C.Cutter.cuts (g.C.Cutter.stands c.args.cutter.now) (g.V.ConvertItem.converted c.args.converter.now)
    (g.V.ConvertItem.faulty c.args.converter.now) (g.K.Sink.output c.args.out.now).held c.args.written.now.gathered c.args.written.now.count
    (g.C.Cutter.current c.args.cutter.now) (g.K.Sink.output c.convert_item.new.out).held c.convert_item.new.written.gathered c.convert_item.new.written.count
    c.convert_item.result (λ read items k short. rw c.in-Item.is at (c.last.ensures read items k short)) (rw c.item.ensures at (c.convert_item.ensures.told tells))

pub returns-in-Item-clause-ends : goal.returns-in-Item-clause-ends
returns-in-Item-clause-ends g c tells =
    last_all_end g.C.Cutter.cuts (g.C.Cutter.stands c.args.cutter.now) (g.V.ConvertItem.converted c.args.converter.now)
    (g.V.ConvertItem.faulty c.args.converter.now) (g.K.Sink.output c.args.out.now).held c.args.written.now.gathered c.args.written.now.count
    (g.C.Cutter.current c.args.cutter.now) (g.K.Sink.output c.convert_item.new.out).held c.convert_item.new.written.gathered c.convert_item.new.written.count
    c.convert_item.result (λ read items k short. rw c.in-Item.is at (c.last.ensures read items k short)) (rw c.item.ensures at (c.convert_item.ensures.told tells))

pub returns-in-CutOff-clause-ends : goal.returns-in-CutOff-clause-ends
returns-in-CutOff-clause-ends g c tells first read items p short =
    cut_off_ends g.C.Cutter.cuts (g.C.Cutter.stands c.args.cutter.now) (g.V.ConvertItem.converted c.args.converter.now) (g.V.ConvertItem.faulty c.args.converter.now)
    first (g.K.Sink.output c.args.out.now).held c.args.written.now.gathered c.args.written.now.count read items (g.K.Sink.output c.told_behind.new.out).held
    c.told_behind.result p (rw c.in-CutOff.is at (c.last.ensures read items p.is_cut short)) (c.told_behind.ensures.told tells)
