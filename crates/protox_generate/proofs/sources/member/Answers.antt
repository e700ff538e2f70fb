use Rattle.std.proofs.Common.{string_bytes}
use Rattle.protox_generate.specs.Sources.{member as member_of}
use Rattle.protox_generate.proofs.Texts.{ok_then, there}
use Rattle.protox_generate.proofs.sources.member.Goals as goal

pub returns-then-distance-number : goal.returns-then-distance-number
returns-then-distance-number c =
    ok_then c.format.result (λ s h. there c.args.distance c.args.number (member_of c.args.opening.now) (string_bytes s) c.if-distance-number.true h) c.format.ensures.ok
