use Rattle.std.proofs.Common.{◌∙◌, ◌<◌, ap, sym, subst, false, ◌++◌, ◌∷◌, [], List, length, Vec, Global}
use Rattle.std.specs.Prelude.{Option, IsSome, ◌↔◌, ◌&&◌, option_map}
use Rattle.pbx_parse_token.specs.declared.token.Word as code_word
use Rattle.pbx_parse_token.specs.declared.token.Token as code
use Rattle.pbx_parse_token.specs.Pieces.{is_semicolon}
use Rattle.pbx_parse_token.specs.Scan.{ends_after, Keeps}
use Rattle.pbx_parse_token.specs.View.{tokens_of, word_of}
use Rattle.pbx_parse_token.proofs.Starts.{begin_more, begin_over}
use Rattle.pbx_parse_token.proofs.Semicolons.{Added, added, added_over}
use Rattle.pbx_parse_token.proofs.lexer.add.Goals as goal
use Rattle.pbx_parse_token.proofs.lexer.add.Goals.{then-is_third_semicolon, else-is_third_semicolon}

token : (c : goal.In_ok-push) → code.Token
token c = record { word = c.in-Some.word; span = record { line = c.args.from.line; from = c.args.from.column; to = c.args.to.column }; left = c.args.left }

is_added : (c : goal.In_ok-push) → Added c.args.tokens.now.items c.push.new.self.items (token c)
unfolding token
is_added c =
    let old = c.args.tokens.now.items in
    let test = is_semicolon (word_of c.in-Some.word) in
    let items = c.as_slice.ensures.value in
    let pushed = λ (v : Vec code.Token Global). v.items ++ token c ∷ [] in
    elim c.if-is_third_semicolon.branch [
      | then-is_third_semicolon w ↦ added_over old w.pop.new.self.items c.push.new.self.items (token c) w.pop.result (ap (λ (s : List code.Token). test && ends_after false (tokens_of s)) (sym items) ∙ sym w.if-is_third_semicolon.ensures)
          w.pop.ensures.items (subst (λ n. IsSome w.pop.result ↔ (0 < n)) (sym c.as_slice.ensures.len ∙ ap length items) w.pop.ensures.variant) (c.in_ok-push.ensures.items ∙ ap pushed w.tokens-is)
      | else-is_third_semicolon w ↦ added old c.push.new.self.items (token c) (ap (λ (s : List code.Token). test && ends_after false (tokens_of s)) (sym items) ∙ sym w.if-is_third_semicolon.ensures)
          (c.in_ok-push.ensures.items ∙ ap pushed w.tokens-is)
    ]

pub returns-clause-same : goal.returns-clause-same
unfolding token
returns-clause-same c = subst (λ (o : Option code_word.Word). Keeps (tokens_of c.args.tokens.now.items) (option_map word_of o) c.args.from c.args.to (tokens_of c.push.new.self.items)) (sym c.in-Some.is) (is_added c).same

pub returns-clause-stays : goal.returns-clause-stays
returns-clause-stays c = (is_added c).stay

pub returns-clause-starts : goal.returns-clause-starts
unfolding token
returns-clause-starts c = λ source start begin.
    let pushed = λ (v : Vec code.Token Global). v.items ++ token c ∷ [] in
    elim c.if-is_third_semicolon.branch [
      | then-is_third_semicolon w ↦ begin_over source c.args.tokens.now.items w.pop.new.self.items c.push.new.self.items (token c) _ w.pop.ensures.rest (c.in_ok-push.ensures.items ∙ ap pushed w.tokens-is) start begin
      | else-is_third_semicolon w ↦ begin_more source c.args.tokens.now.items c.push.new.self.items (token c) (c.in_ok-push.ensures.items ∙ ap pushed w.tokens-is) start begin
    ]
