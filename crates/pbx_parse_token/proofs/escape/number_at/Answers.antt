use Rattle.std.proofs.Common.{◌≡◌, ◌∙◌, ap, take, Bor, List, ℕ}
use Rattle.pbx_parse_token.proofs.Integers.{digits_number, number_good, number_bad, front_is}
use Rattle.pbx_parse_token.proofs.escape.number_at.Goals as goal

pub returns-in-Some-clause-is : goal.returns-in-Some-clause-is
returns-in-Some-clause-is c =
    let front : c.unwrap_or.result.now ≡ take c.args.most c.args.bytes.now = ap (λ (x : Bor (List ℕ)). x.now) c.unwrap_or.ensures ∙ front_is c.args.bytes c.args.most c.get.result c.get.ensures.lookup.0 in
    number_good c.run_len-n.result c.in-Some.value c.if-n-gt0.true c.if-value-le255.true
    ∙ digits_number c.args.base c.args.most c.args.bytes.now c.unwrap_or.result.now _ c.run_len-n.result front c.run_len-n.ensures.is c.in-Some.ensures

pub returns-in_default-clause-is : goal.returns-in_default-clause-is
returns-in_default-clause-is c =
    let front : c.unwrap_or.result.now ≡ take c.args.most c.args.bytes.now = ap (λ (x : Bor (List ℕ)). x.now) c.unwrap_or.ensures ∙ front_is c.args.bytes c.args.most c.get.result c.get.ensures.lookup.0 in
    number_bad c.run_len-n.result c.in-Some.value c.if-value-le255.false
    ∙ digits_number c.args.base c.args.most c.args.bytes.now c.unwrap_or.result.now _ c.run_len-n.result front c.run_len-n.ensures.is c.in-Some.ensures

pub returns-in_default-3-clause-is : goal.returns-in_default-3-clause-is
returns-in_default-3-clause-is c =
    let front : c.unwrap_or.result.now ≡ take c.args.most c.args.bytes.now = ap (λ (x : Bor (List ℕ)). x.now) c.unwrap_or.ensures ∙ front_is c.args.bytes c.args.most c.get.result c.get.ensures.lookup.0 in
    digits_number c.args.base c.args.most c.args.bytes.now c.unwrap_or.result.now _ c.run_len-n.result front c.run_len-n.ensures.is c.in_default.ensures
