use Rattle.std.proofs.Common.{◌≡◌, ◌∙◌, ◌+◌, ◌∷◌, ◌++◌, List, [], ℕ, length, take, set, sym, ap, subst, append_assoc, arith}
use Rattle.std.specs.Str.{IsUtf8, continuation_len}
use Rattle.std.proofs.lemmas.List.{length-take, length-append, take_more_set}
use Rattle.std.proofs.Math.ListN.{length-set}
use Rattle.std.proofs.lemmas.Str.{IsUtf8-append}
use Rattle.pbx_parse_token.specs.Escapes.{unescaped}
use Rattle.pbx_parse_token.proofs.Unescaping.{unescaped_none, unescaped_more, next_length, slice_from, tail_of}
use Rattle.pbx_parse_token.proofs.Characters.{cut_after, too_short}
use Rattle.pbx_parse_token.proofs.text.after_char.Goals as goal

pub returns-in_default-clause-is : goal.returns-in_default-clause-is
returns-in_default-clause-is c = λ u.
    let front = take (c.each.at + 1) c.each.bytes in
    let none = ap length (unescaped_none c.each.rest.now c.in_default.len_below) in
    let whole = ap length c.each.invariant.so_far in
    too_short c.args.first (unescaped c.args.text.now) (omega (arith, none, whole, c.each-test.true, c.continuation_len-more.ensures.is, length-append front (unescaped c.each.rest.now), length-take (c.each.at + 1) c.each.bytes)) u

pub each-preserved : goal.each-preserved
each-preserved c =
    let next = c.first_at-next.result in
    let left = unescaped (slice_from next.size (tail_of c.each.rest.now)) in
    let more = unescaped_more c.each.rest.now c.in-len1-up.len_at_least next c.first_at-next.ensures.is in
    let front = take (c.each.at + 1) c.each.bytes in
    let grown : take (c.each.at + 1 + 1) (set c.each.bytes (c.each.at + 1) next.value) ≡ front ++ next.value ∷ [] = take_more_set c.each.bytes (c.each.at + 1) next.value (omega (arith, c.continuation_len-more.ensures.few, c.each.invariant.array)) in
    record {
      so_far = ap (λ (t : List ℕ). t ++ left) grown ∙ append_assoc front (next.value ∷ []) left ∙ ap (λ (t : List ℕ). front ++ t) (sym more) ∙ c.each.invariant.so_far;
      few = omega arith;
      array = length-set c.each.bytes (c.each.at + 1) next.value ∙ c.each.invariant.array;
      lengths = omega (arith, next_length next.size c.each.rest.now, c.each.invariant.lengths);
    }

pub returns-in-Ok-clause-is : goal.returns-in-Ok-clause-is
returns-in-Ok-clause-is c =
    let front = take (c.each.at + 1) c.each.bytes in
    let back = unescaped c.each.rest.now in
    let n : length front ≡ 1 + continuation_len c.args.first = omega (arith, length-take (c.each.at + 1) c.each.bytes, c.continuation_len-more.ensures.is, c.continuation_len-more.ensures.few, c.each.invariant.few, c.each.invariant.array) in (
      λ u. (cut_after front back c.args.first (unescaped c.args.text.now) c.each.invariant.so_far n u).1,
      λ u. subst IsUtf8 c.each.invariant.so_far (IsUtf8-append front back c.in-Ok.ensures.cases.1 u),
    )

pub returns-in-Err-clause-is : goal.returns-in-Err-clause-is
returns-in-Err-clause-is c = λ u.
    let front = take (c.each.at + 1) c.each.bytes in
    let back = unescaped c.each.rest.now in
    let n : length front ≡ 1 + continuation_len c.args.first = omega (arith, length-take (c.each.at + 1) c.each.bytes, c.continuation_len-more.ensures.is, c.continuation_len-more.ensures.few, c.each.invariant.few, c.each.invariant.array) in
    c.in-Err.ensures.cases.0 (cut_after front back c.args.first (unescaped c.args.text.now) c.each.invariant.so_far n u).0
