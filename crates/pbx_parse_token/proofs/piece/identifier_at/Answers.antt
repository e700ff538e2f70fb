use Rattle.std.proofs.Common.{subst, sym, take}
use Rattle.std.specs.Str.{IsUtf8}
use Rattle.pbx_parse_token.proofs.Ascii.{identifier_utf8}
use Rattle.pbx_parse_token.proofs.piece.identifier_at.Goals as goal

pub text_of-requires : goal.text_of-requires
text_of-requires c =
    let bytes = c.args.bytes.now in
    subst (λ n. IsUtf8 (take n bytes)) (sym c.run_len-n.ensures.is) (identifier_utf8 bytes)
