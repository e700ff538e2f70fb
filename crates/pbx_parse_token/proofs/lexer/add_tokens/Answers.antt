use Rattle.std.proofs.Common.{◌∙◌, ℕ, List, Result, Ok, Err, ap, subst, sym}
use Rattle.std.specs.Prelude.{OnOk, IfErr, Some, option_map}
use Rattle.std.specs.Str.{IsUtf8}
use Rattle.pbx_parse_token.specs.declared.piece.LexError.{LexError}
use Rattle.pbx_parse_token.specs.declared.piece.LexError.TheVariants as errors
use Rattle.pbx_parse_token.specs.Tokens.{Token}
use Rattle.pbx_parse_token.specs.Pieces.{Lexes}
use Rattle.pbx_parse_token.specs.Scan.{pieces_at, Gives}
use Rattle.pbx_parse_token.specs.View.{BeginIn, ReadsAs, UnlessMemory, IsWithin, tokens_of}
use Rattle.pbx_parse_token.proofs.Options.{some_is}
use Rattle.pbx_parse_token.proofs.Laws.{tokens_in, all_takes, all_again}
use Rattle.pbx_parse_token.proofs.lexer.add_tokens.Goals as goal

is_found : (source : List ℕ) (ts : List Token) (r : Result Unit LexError) → Gives (λ _. ts) (option_map tokens_in (pieces_at source)) r → OnOk r (Lexes source ts)
is_found source ts (Ok x) h = all_takes source ts h
is_found source ts (Err e) h = tt

reads_as : (ts us : List Token) (r : Result Unit LexError) → Gives (λ _. us) (Some ts) r → ReadsAs (λ _. us) ts r
reads_as ts us (Ok x) h = sym (some_is ts us h)
reads_as ts us (Err errors.NoMemory) h = tt
reads_as ts us (Err (errors.Fault left begun fault)) h = absurd cc

pub returns-clause-found : goal.returns-clause-found
returns-clause-found c =
    let ts = tokens_of c.add_all.new.tokens.items in
    let gives = subst (λ (s : List ℕ). Gives (λ _. ts) (option_map tokens_in (pieces_at s)) c.add_all.result) c.as_bytes.ensures.value c.add_all.ensures.read in
    is_found c.args.source.now ts c.add_all.result gives

pub returns-clause-only : goal.returns-clause-only
returns-clause-only c = λ ts h.
    let us = tokens_of c.add_all.new.tokens.items in
    let read = ap (λ (s : List ℕ). option_map tokens_in (pieces_at s)) c.as_bytes.ensures.value ∙ all_again c.args.source.now ts h in
    reads_as ts us c.add_all.result (subst (λ o. Gives (λ _. us) o c.add_all.result) read c.add_all.ensures.read)

pub add_all-requires-clause-text : goal.add_all-requires-clause-text
add_all-requires-clause-text c = subst IsUtf8 (sym c.as_bytes.ensures.value) c.utf8.source

pub returns-clause-fault : goal.returns-clause-fault
returns-clause-fault c = subst (λ (s : List ℕ). IfErr c.add_all.result (λ e. IsWithin s e)) c.as_bytes.ensures.value c.add_all.ensures.fault

pub returns-clause-starts : goal.returns-clause-starts
returns-clause-starts c =
    subst (λ (s : List ℕ). UnlessMemory c.add_all.result (BeginIn s c.add_all.new.tokens.items)) c.as_bytes.ensures.value c.add_all.ensures.starts
