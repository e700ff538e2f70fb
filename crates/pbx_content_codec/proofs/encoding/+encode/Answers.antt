use Rattle.pbx_content_codec.proofs.TreeFields.{content_of_lem, val_of-Pairs}
use Rattle.pbx_content_codec.proofs.encoding.+encode.Goals as goal

pub add_held-returns-in-Pairs : goal.add_held-returns-in-Pairs
add_held-returns-in-Pairs t c = rw (c.in-Pairs.is, val_of-Pairs c.in-Pairs.pairs) c.add_pairs.ensures

pub records_of-returns : goal.records_of-returns
records_of-returns t c =
    rw (content_of_lem c.args.contents.now)
    (rw (c.in_ok-own.ensures, c.keeps_order.ensures) at c.with_kept.ensures)
