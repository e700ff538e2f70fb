use Rattle.std.proofs.Common.{◌≡◌, [], rules}
use Rattle.pbx_link_record.proofs.Places.{source_is}
use Rattle.pbx_link_record.proofs.settling.has_no_unknown.Goals as goal

pub returns-then-is_empty : goal.returns-then-is_empty
returns-then-is_empty c are =
    let none : c.args.source.now.unknown ≡ [] = search rules in
    source_is c.args.source.now none (c.have_no_unknown.ensures are)
