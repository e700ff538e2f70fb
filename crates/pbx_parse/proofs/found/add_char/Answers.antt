use Rattle.std.proofs.Common.{subst, sym, string_bytes}
use Rattle.pbx_parse.specs.Errors.{IsOneLine}
use Rattle.pbx_parse.proofs.OneLine.{one_line_more}
use Rattle.pbx_parse.proofs.found.add_char.Goals as goal

pub returns : goal.returns
returns c = λ h. subst IsOneLine (sym c.in_ok-push.ensures.bytes) (one_line_more (string_bytes c.args.text.now) c.args.c h c.requires)
