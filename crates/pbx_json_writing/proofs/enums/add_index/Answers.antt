use Rattle.std.proofs.Common.{subst}
use Rattle.pbx_json_writing.specs.Indexes.{IsIndexOf}
use Rattle.pbx_json_writing.proofs.OfEnums.{indexes_more, indexes_same}
use Rattle.pbx_json_writing.proofs.enums.add_index.Goals as goal

pub returns : goal.returns
returns c =
    indexes_more c.args.schema.now c.args.place c.in_ok-index.index c.args.indexes.now c.insert.new.self c.requires.known
    (subst (λ vs. IsIndexOf vs c.in_ok-index.index) c.requires.values c.in_ok-index.ensures) c.in_ok-insert.ensures.updates.0

pub returns-in_err-insert : goal.returns-in_err-insert
returns-in_err-insert c = indexes_same c.args.schema.now c.args.indexes.now c.insert.new.self c.requires.known c.in_err-insert.ensures.err
