use Rattle.std.proofs.Common.{◌∙◌, sym, ap, [], ◌∷◌, List, ℕ, ◌++◌, append_assoc}
use Rattle.std.proofs.lemmas.List.{append-nil}
use Rattle.pbx_parse_token.specs.Escapes.{unescaped}
use Rattle.pbx_parse_token.proofs.Unescaping.{unescaped_none, unescaped_more, slice_from, tail_of}
use Rattle.pbx_parse_token.proofs.escape.unescape.Goals as goal

pub returns-in-empty : goal.returns-in-empty
returns-in-empty c = sym (append-nil c.scan.bytes.items) ∙ ap (λ (t : List ℕ). c.scan.bytes.items ++ t) (sym (unescaped_none c.scan.rest.now c.in-empty.len_below)) ∙ c.scan.invariant

pub scan-preserved : goal.scan-preserved
scan-preserved c =
    let first = c.first_at-first.result in
    let next = slice_from first.size (tail_of c.scan.rest.now) in
    let more = unescaped_more c.scan.rest.now c.in-len1-up.len_at_least first c.first_at-first.ensures.is in
    ap (λ (t : List ℕ). t ++ unescaped next) c.in_ok-push-in-len1-up.ensures.items ∙ append_assoc c.scan.bytes.items (first.value ∷ []) (unescaped next) ∙ ap (λ (t : List ℕ). c.scan.bytes.items ++ t) (sym more) ∙ c.scan.invariant
