use Rattle.pbx_content_codec.specs.View.{key_of}
use Rattle.pbx_content_codec.proofs.Keyed.{stands_here, stands_past}
use Rattle.pbx_content_codec.proofs.pairs.stands_at.Goals as goal

pub returns-then-place-pairs : goal.returns-then-place-pairs
returns-then-place-pairs c = stands_past c.args.pairs.now c.args.place (key_of c.args.key.now) c.if-place-pairs.true

pub returns : goal.returns
returns c = stands_here c.args.pairs.now c.args.place c.index-pairs-place.result
    (key_of c.args.key.now) c.is_before.result c.if-place-pairs.false c.is_before.ensures
