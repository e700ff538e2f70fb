use Rattle.std.proofs.Common.{◌++◌, ◌∷◌, [], take, drop}
use Rattle.protox_lines_items.proofs.Endings.{item_ends, item_goes, still_goes, cut_ends, there_behind, there_whole, read_within, taken_within}
use Rattle.protox_lines_items.proofs.driver.take_item.Goals as goal
use Rattle.protox_lines_items.proofs.driver.take_item.Goals.{then-taken+in-Ok-convert_item, else-taken}

pub returns-in-Err-convert_item-clause-ends : goal.returns-in-Err-convert_item-clause-ends
returns-in-Err-convert_item-clause-ends g c tells first read items p short more =
    let item = g.C.Cutter.current c.take.new.self in
    let bytes = c.args.bytes.now in
    let n = c.in-Ok.taken.count in
    let k = rw c.if-taken.true at (c.in-Ok.ensures.stands read items p.is_cut short) in
    item_ends g.C.Cutter.cuts (g.C.Cutter.stands c.args.cutter.now) (g.V.ConvertItem.converted c.args.converter.now) (g.V.ConvertItem.faulty c.args.converter.now)
    first (g.K.Sink.output c.args.out.now).held c.args.written.now.gathered c.args.written.now.count read items item ((read ++ bytes) ++ more)
    (g.K.Sink.output c.convert_item.new.out).held c.in-Err-convert_item.error p (c.in-Ok.ensures.short (rw c.if-taken.true))
    (there_whole g.C.Cutter.cuts (items ++ item ∷ []) read bytes more n
    (g.met.C.Cutter.begins c.take.new.self (read ++ take n bytes) (drop n bytes ++ more) (items ++ item ∷ []) k (taken_within read bytes n short)))
    (rw c.item.ensures at (c.in-Err-convert_item.ensures.told tells))

pub returns-after-taken-clause-goes : goal.returns-after-taken-clause-goes
returns-after-taken-clause-goes g c tells first read items p short =
    elim c.if-taken.branch [
      | then-taken+in-Ok-convert_item w ↦
          let item = g.C.Cutter.current c.take.new.self in
          let came = rw w.item.ensures at (w.in-Ok-convert_item.ensures.told tells) in (
            items ++ item ∷ [],
            rw (w.out-is, w.written-is) (item_goes (g.C.Cutter.stands c.args.cutter.now) (g.C.Cutter.stands c.take.new.self) (g.V.ConvertItem.converted c.args.converter.now)
                first (g.K.Sink.output c.args.out.now).held c.args.written.now.gathered c.args.written.now.count read items item
                (g.K.Sink.output w.convert_item.new.out).held w.convert_item.new.written.gathered (read ++ take c.in-Ok.taken.count c.args.bytes.now)
                w.convert_item.new.written.count p (c.in-Ok.ensures.short (rw w.if-taken.true))
                (rw w.if-taken.true at (c.in-Ok.ensures.stands read items p.is_cut short)) came.0 came.1 came.2 came.3),
          )
      | else-taken w ↦ (
        items,
        rw (w.out-is, w.written-is) (still_goes (g.C.Cutter.stands c.args.cutter.now) (g.C.Cutter.stands c.take.new.self)
            (g.V.ConvertItem.converted c.args.converter.now) first (g.K.Sink.output c.args.out.now).held c.args.written.now.gathered c.args.written.now.count read items
            (read ++ take c.in-Ok.taken.count c.args.bytes.now) p (rw w.if-taken.false at (c.in-Ok.ensures.stands read items p.is_cut short))),
      )
    ]

pub returns-in-Err-clause-ends : goal.returns-in-Err-clause-ends
returns-in-Err-clause-ends g c tells first read items p short =
    cut_ends g.C.Cutter.cuts (g.C.Cutter.stands c.args.cutter.now) (g.V.ConvertItem.converted c.args.converter.now) (g.V.ConvertItem.faulty c.args.converter.now)
    first (g.K.Sink.output c.args.out.now).held c.args.written.now.gathered c.args.written.now.count read items (read ++ c.args.bytes.now)
    (g.K.Sink.output c.told_behind.new.out).held c.in-Err.fault c.told_behind.result p
    (λ more. there_behind g.C.Cutter.cuts items read c.args.bytes.now more
    (g.met.C.Cutter.begins c.args.cutter.now read (c.args.bytes.now ++ more) items p.is_cut (read_within read c.args.bytes.now short)))
    (c.in-Err.ensures.fault read items p.is_cut short)
    (rw c.cut_error-error.ensures at (c.told_behind.ensures.told tells))
