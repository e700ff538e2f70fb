use Rattle.std.proofs.Common.{◌∙◌, sym}
use Rattle.pbx_parse_token.proofs.Semicolons.{ends_few, ends_both, ends_not}
use Rattle.pbx_parse_token.proofs.lexer.end_in_semicolons.Goals as goal

pub returns-in_default : goal.returns-in_default
returns-in_default c = sym (ends_few c.args.tokens.now c.in_default.len_below)

pub returns-then-is_semicolon : goal.returns-then-is_semicolon
returns-then-is_semicolon c = ends_both c.args.tokens.now _ c.is_semicolon-then-is_semicolon.result c.in-len2-up.len_at_least c.if-is_semicolon.ensures c.is_semicolon-then-is_semicolon.ensures

pub returns-else-is_semicolon : goal.returns-else-is_semicolon
returns-else-is_semicolon c = c.if-is_semicolon.false ∙ ends_not c.args.tokens.now _ c.in-len2-up.len_at_least c.if-is_semicolon.ensures
