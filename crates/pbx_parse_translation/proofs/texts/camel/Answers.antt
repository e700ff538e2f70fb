use Rattle.std.proofs.Common.{◌≡◌, ◌∙◌, ◌++◌, ◌∷◌, ℕ, List, [], arith, append-nil, Bool, true, false, if◌then◌else◌, length, ap, sym, append_assoc, string_bytes}
use Rattle.std.specs.Char.{to_ascii_uppercase, encode_utf8}
use Rattle.std.specs.Str.Iter.{chars_rest}
use Rattle.pbx_parse_translation.specs.Texts.{camel_from}
use Rattle.pbx_parse_translation.proofs.Camel.{camel_done, camel_under, camel_other}
use Rattle.pbx_parse_translation.proofs.texts.camel.Goals as goal
use Rattle.pbx_parse_translation.proofs.texts.camel.Goals.{then-up, else-up}

pub loop-c-preserved-then-c-eq95 : goal.loop-c-preserved-then-c-eq95
loop-c-preserved-then-c-eq95 c =
    c.loop-c.invariant
    ∙ ap (λ r. string_bytes c.loop-c.camel ++ camel_from c.loop-c.up r) c.in-Some.ensures.steps.0
    ∙ ap (λ r. string_bytes c.loop-c.camel ++ r) (camel_under c.loop-c.up c.in-Some.c (chars_rest c.next.new.self) c.if-c-eq95.true)

pub loop-c-preserved : goal.loop-c-preserved
loop-c-preserved c =
    let pushed : (if c.loop-c.up then to_ascii_uppercase c.in-Some.c else c.in-Some.c) ≡ c.if-up.push =
    elim c.if-up.branch [
      | then-up w ↦ rw w.if-up.true (cc)
      | else-up w ↦ rw w.if-up.false (cc)
    ] in
    c.loop-c.invariant
    ∙ ap (λ r. string_bytes c.loop-c.camel ++ camel_from c.loop-c.up r) c.in-Some.ensures.steps.0
    ∙ ap (λ r. string_bytes c.loop-c.camel ++ r) (camel_other c.loop-c.up c.in-Some.c (chars_rest c.next.new.self) c.if-c-eq95.false)
    ∙ ap (λ x. string_bytes c.loop-c.camel ++ (encode_utf8 x ++ camel_from false (chars_rest c.next.new.self))) pushed
    ∙ sym (append_assoc (string_bytes c.loop-c.camel) (encode_utf8 c.if-up.push) (camel_from false (chars_rest c.next.new.self)))
    ∙ ap (λ xs. xs ++ camel_from false (chars_rest c.next.new.self)) (sym c.in_ok-push.ensures.bytes)

none_left : (camel name rest : List ℕ) (b : Bool) → camel_from true name ≡ camel ++ camel_from b rest → length rest ≡ 0 → camel ≡ camel_from true name
none_left camel name [] b h e = sym (h ∙ ap (λ xs. camel ++ xs) (camel_done b) ∙ append-nil camel)
none_left camel name (x ∷ xs) b h e = absurd (omega arith)

pub returns : goal.returns
returns c = none_left (string_bytes c.loop-c.camel) c.args.name.now (chars_rest c.loop-c.c-iterator) c.loop-c.up c.loop-c.invariant c.in-None.ensures.steps.0.0
