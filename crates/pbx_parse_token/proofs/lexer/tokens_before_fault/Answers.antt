use Rattle.std.proofs.Common.{subst}
use Rattle.pbx_parse_token.specs.View.{FailsNot}
use Rattle.pbx_parse_token.proofs.lexer.tokens_before_fault.Goals as goal

pub returns-in-Ok-clause-only : goal.returns-in-Ok-clause-only
returns-in-Ok-clause-only c = λ ts h. c.in-Ok.ensures.only ts h

pub returns-clause-only : goal.returns-clause-only
returns-clause-only c = λ ts h. absurd (subst FailsNot c.in-Err-Fault.field-0-is (c.in-Err-Fault.ensures.only ts h))
