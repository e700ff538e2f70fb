use Rattle.std.proofs.Common.{subst, sym}
use Rattle.pbx_parse_token.specs.View.{BeginIn}
use Rattle.pbx_parse.proofs.refusal.stop.Goals as goal

pub returns-in-Some : goal.returns-in-Some
returns-in-Some c = c.in-Some.ensures.starts c.args.source.now (subst (BeginIn c.args.source.now) (sym c.as_slice-in-Err.ensures.value) c.in_ok-tokens.ensures.starts)
