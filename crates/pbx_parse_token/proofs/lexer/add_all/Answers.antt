use Rattle.std.proofs.Common.{◌≡◌, ◌-◌, ◌<◌, ◌≤◌, ◌∙◌, List, ◌++◌, length, take, arith, refl, sym, ap, subst}
use Rattle.std.specs.Prelude.{option_map}
use Rattle.std.proofs.lemmas.Result.{err_from_is_err_and}
use Rattle.pbx_parse_token.specs.declared.token.Place.{Place}
use Rattle.pbx_parse_token.specs.declared.token.Token as code
use Rattle.pbx_parse_token.specs.Pieces.{tokens_from, origin, significant, significant_after}
use Rattle.pbx_parse_token.specs.Scan.{pieces_at}
use Rattle.pbx_parse_token.specs.View.{BeginIn, tokens_of, word_of}
use Rattle.pbx_parse_token.proofs.Starts.{begin_none, place_none, place_more}
use Rattle.std.proofs.lemmas.Bool.{eqb-true}
use Rattle.std.proofs.lemmas.List.{length-take}
use Rattle.pbx_parse_token.specs.Places.{place_after}
use Rattle.pbx_parse_token.proofs.Faults.{split_whole, split_next, cut_rest, within_more}
use Rattle.pbx_parse_token.proofs.Laws.{tokens_in}
use Rattle.pbx_parse_token.proofs.Steps.{goes_on, fails, is_done, not_zero}
use Rattle.pbx_parse_token.proofs.Utf8.{next_text}
use Rattle.pbx_parse_token.proofs.lexer.add_all.Goals as goal

pub pieces-init : goal.pieces-init
unfolding significant_after
pieces-init c = record {
  so_far = ap (λ (s : List code.Token). option_map (λ ps. significant (tokens_of s ++ tokens_from origin ps)) (pieces_at c.args.source.now)) c.requires.empty;
  stay = subst (λ (s : List code.Token). significant (tokens_of s) ≡ tokens_of s) (sym c.requires.empty) refl;
  starts = subst (BeginIn c.args.source.now) (sym c.requires.empty) (begin_none c.args.source.now);
  at = place_none c.args.source.now;
  left = split_whole c.args.source.now;
  line = omega arith;
  column = omega arith;
  text = c.requires.text;
}

pub returns-in_err-word-clause-fault : goal.returns-in_err-word-clause-fault
returns-in_err-word-clause-fault c =
    let p = err_from_is_err_and c.from_residual.result c.from_residual.ensures.1 in
    rw (p.1, p.2) (within_more c.args.source.now c.pieces.rest.now c.in_err-word.field-0.0 c.requires.text c.pieces.invariant.text c.pieces.invariant.left c.in_err-word.ensures.fault)

pub returns-in_err-word-clause-read : goal.returns-in_err-word-clause-read
returns-in_err-word-clause-read c =
    let p = err_from_is_err_and c.from_residual.result c.from_residual.ensures.1 in
    let from : Place = record { line = c.pieces.line; column = c.pieces.column } in
    let total = option_map tokens_in (pieces_at c.args.source.now) in
    rw (p.1, p.2) (fails c.in_err-word.field-0.0 (tokens_of c.pieces.tokens.items) from c.pieces.rest.now total (not_zero (length c.pieces.rest.now) c.pieces-test.ensures) c.in_err-word.ensures.read c.pieces.invariant.so_far)

pub returns-clause-read : goal.returns-clause-read
returns-clause-read c =
    let from : Place = record { line = c.pieces.line; column = c.pieces.column } in
    let total = option_map tokens_in (pieces_at c.args.source.now) in
    is_done (tokens_of c.pieces.tokens.items) from c.pieces.rest.now total (eqb-true (length c.pieces.rest.now) 0 (sym c.pieces-test.ensures)) c.pieces.invariant.stay c.pieces.invariant.so_far

pub pieces-preserved : goal.pieces-preserved
pieces-preserved c =
    let from : Place = record { line = c.pieces.line; column = c.pieces.column } in
    let rest = c.pieces.rest.now in
    let next = c.in_ok-word.next.now in
    let w = option_map word_of c.in_ok-word.word in
    let total = option_map tokens_in (pieces_at c.args.source.now) in
    let some : 0 < length rest = not_zero (length rest) c.pieces-test.ensures in
    let at : c.after-to.result ≡ place_after (take (length rest - length next) rest) from = c.after-to.ensures.is in
    let text : length (take (length rest - length next) rest) ≤ length rest - length next = omega (arith, length-take (length rest - length next) rest) in
    record {
      so_far = goes_on (tokens_of c.pieces.tokens.items) (tokens_of c.add.new.tokens.items) from c.after-to.result rest next w total some c.in_ok-word.ensures.read at c.in_ok-add.ensures.same c.pieces.invariant.so_far;
      stay = c.in_ok-add.ensures.stays c.pieces.invariant.stay;
      starts = c.in_ok-add.ensures.starts c.args.source.now (record { within = omega arith; cut = cut_rest c.args.source.now rest c.requires.text c.pieces.invariant.text c.pieces.invariant.left; place = c.pieces.invariant.at }) c.pieces.invariant.starts;
      at = place_more c.args.source.now rest (length next) from c.pieces.invariant.left (omega (arith, c.in_ok-word.ensures.shorter)) c.pieces.invariant.at ∙ sym at;
      left = split_next c.args.source.now rest next w c.in_ok-word.ensures.read c.pieces.invariant.left;
      line = omega (arith, c.after-to.ensures.line, c.in_ok-word.ensures.shorter, c.pieces.invariant.line);
      column = omega (arith, c.after-to.ensures.column, c.in_ok-word.ensures.shorter, c.pieces.invariant.column);
      text = next_text rest next w c.in_ok-word.ensures.read c.pieces.invariant.text;
    }
