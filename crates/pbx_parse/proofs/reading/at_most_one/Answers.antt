use Rattle.std.proofs.Common.{◌≡◌, ◌∙◌, ap, sym}
use Rattle.pbx_parse.specs.Reads.{record_of}
use Rattle.pbx_parse.proofs.reading.at_most_one.Goals as goal

pub returns : goal.returns
returns c = λ name source f g p q.
    let tokens : p.0 ≡ q.0 = c.at_most_one.ensures source p.0 q.0 p.1 q.1 in
    let tree : p.2 ≡ q.2 = c.at_most_one-2.ensures q.0 p.2 q.2 p.4 q.4 (sym tokens ∙ p.3) q.3 in
    p.5 ∙ ap (λ ts. record_of name ts p.2) tokens ∙ ap (record_of name q.0) tree ∙ sym q.5
