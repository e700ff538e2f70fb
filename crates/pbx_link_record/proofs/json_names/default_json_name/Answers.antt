use Rattle.std.proofs.Common.{◌≡◌, ◌∙◌, ◌++◌, ◌∷◌, ℕ, List, [], arith, append-nil, Bool, false, if◌then◌else◌, length, ap, sym, append_assoc, string_bytes}
use Rattle.std.specs.Char.{to_ascii_uppercase, encode_utf8}
use Rattle.std.specs.Str.Iter.{chars_rest}
use Rattle.std.proofs.lemmas.Result.{IfOk-weaker}
use Rattle.pbx_link_record.specs.Linked.{camel_from, default_json_name}
use Rattle.pbx_link_record.proofs.Camel.{camel_done, camel_under, camel_other}
use Rattle.pbx_link_record.proofs.json_names.default_json_name.Goals as goal
use Rattle.pbx_link_record.proofs.json_names.default_json_name.Goals.{then-behind, else-behind}

pub loop-c-preserved-then-c-eq95 : goal.loop-c-preserved-then-c-eq95
loop-c-preserved-then-c-eq95 c =
    c.loop-c.invariant
    ∙ ap (λ r. string_bytes c.loop-c.camel ++ camel_from c.loop-c.behind r) c.in-Some.ensures.steps.0
    ∙ ap (λ r. string_bytes c.loop-c.camel ++ r) (camel_under c.loop-c.behind c.in-Some.c (chars_rest c.next.new.self) c.if-c-eq95.true)

pub loop-c-preserved : goal.loop-c-preserved
loop-c-preserved c =
    let pushed : (if c.loop-c.behind then to_ascii_uppercase c.in-Some.c else c.in-Some.c) ≡ c.if-behind.push =
    elim c.if-behind.branch [
      | then-behind w ↦ rw w.if-behind.true (cc)
      | else-behind w ↦ rw w.if-behind.false (cc)
    ] in
    c.loop-c.invariant
    ∙ ap (λ r. string_bytes c.loop-c.camel ++ camel_from c.loop-c.behind r) c.in-Some.ensures.steps.0
    ∙ ap (λ r. string_bytes c.loop-c.camel ++ r) (camel_other c.loop-c.behind c.in-Some.c (chars_rest c.next.new.self) c.if-c-eq95.false)
    ∙ ap (λ x. string_bytes c.loop-c.camel ++ (encode_utf8 x ++ camel_from false (chars_rest c.next.new.self))) pushed
    ∙ sym (append_assoc (string_bytes c.loop-c.camel) (encode_utf8 c.if-behind.push) (camel_from false (chars_rest c.next.new.self)))
    ∙ ap (λ xs. xs ++ camel_from false (chars_rest c.next.new.self)) (sym c.in_ok-push.ensures.bytes)

none_left : (camel name rest : List ℕ) (b : Bool) → camel_from false name ≡ camel ++ camel_from b rest → length rest ≡ 0 → camel ≡ camel_from false name
none_left camel name [] b h e = sym (h ∙ ap (λ xs. camel ++ xs) (camel_done b) ∙ append-nil camel)
none_left camel name (x ∷ xs) b h e = absurd (omega arith)

pub returns : goal.returns
returns c =
    let all : c.as_str.result.now ≡ default_json_name c.args.name.now =
    c.as_str.ensures.value ∙ none_left (string_bytes c.loop-c.camel) c.args.name.now (chars_rest c.loop-c.c-iterator) c.loop-c.behind c.loop-c.invariant c.in-None.ensures.steps.0.0 in
    IfOk-weaker c.from_str.result (λ t. t ≡ c.as_str.result.now) (λ t. t ≡ default_json_name c.args.name.now) (λ t p. p ∙ all) c.from_str.ensures
