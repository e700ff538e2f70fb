use Rattle.std.proofs.Common.{◌-◌, length, arith}
use Rattle.std.proofs.lemmas.Str.{IsCharBoundary-from_take}
use Rattle.pbx_parse.proofs.refusal.cut.Goals as goal

pub split_at-requires : goal.split_at-requires
split_at-requires c = IsCharBoundary-from_take c.args.source.now (length c.args.source.now - c.args.left) c.utf8.source (omega arith) c.requires.cut
