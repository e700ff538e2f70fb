use Rattle.std.proofs.Common.{sym}
use Rattle.pbx_parse_token.proofs.Faults.{text_behind, in_string, in_quotes}
use Rattle.pbx_parse_token.proofs.Utf8.{quoted_text}
use Rattle.pbx_parse_token.proofs.piece.quoted.Goals as goal

pub text_of-requires : goal.text_of-requires
text_of-requires c = quoted_text c.args.bytes.now c.in-Some.n c.requires.quote (sym c.in-Some.ensures.is) c.requires.text

pub returns-in_default-quoted_len-clause-fault : goal.returns-in_default-quoted_len-clause-fault
returns-in_default-quoted_len-clause-fault c =
    let bytes = c.args.bytes.now in
    in_string bytes c.left_unbroken.result c.requires.quote c.requires.text c.left_unbroken.ensures.within (c.left_unbroken.ensures.cut (text_behind bytes c.requires.quote c.requires.text))

pub returns-in-Some-bad_escape-clause-fault : goal.returns-in-Some-bad_escape-clause-fault
returns-in-Some-bad_escape-clause-fault c =
    let bytes = c.args.bytes.now in
    let text = quoted_text bytes c.in-Some.n c.requires.quote (sym c.in-Some.ensures.is) c.requires.text in
    in_quotes bytes c.in-Some.n c.in-Some-bad_escape.left c.requires.quote c.requires.text c.in-Some.ensures.within c.in-Some-bad_escape.ensures.within (c.in-Some-bad_escape.ensures.cut text)
