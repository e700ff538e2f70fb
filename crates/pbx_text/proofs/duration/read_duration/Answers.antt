use Rattle.std.proofs.Common.{◌≡◌, ◌-◌, List, ℕ, length, take, drop, rules, sym, ◌∙◌, arith}
use Rattle.std.proofs.lemmas.List.{take_all, length-drop}
use Rattle.pbx_text.proofs.Durations.{minus_err, minus_ok, plain_err, plain_ok}
use Rattle.pbx_text.proofs.duration.read_duration.Goals as goal

pub returns-in-Ok : goal.returns-in-Ok
returns-in-Ok c =
    let bytes : List ℕ = c.as_bytes.result.now in
    let whole : take (length bytes - 1) (drop 1 bytes) ≡ drop 1 bytes = take_all _ _ (omega (arith, length-drop 1 bytes)) in
    let read = sym c.in-Ok.is ∙ c.read_length.ensures.value in
    rw (← c.as_bytes.ensures.value, c.negated.ensures) (
    minus_ok bytes (c.in-Ok.seconds, c.in-Ok.nanos) c.in-45.len_at_least (search rules) (rw whole at read)
    )

pub returns-in-Err : goal.returns-in-Err
returns-in-Err c =
    let bytes : List ℕ = c.as_bytes.result.now in
    let whole : take (length bytes - 1) (drop 1 bytes) ≡ drop 1 bytes = take_all _ _ (omega (arith, length-drop 1 bytes)) in
    let read = sym c.in-Err.is ∙ c.read_length.ensures.value in
    rw (← c.as_bytes.ensures.value) (minus_err bytes c.in-Err.fault c.in-45.len_at_least (search rules) (rw whole at read))

pub returns-in-Ok-read_length : goal.returns-in-Ok-read_length
returns-in-Ok-read_length c = search (rules, plain_ok c.args.text.now (c.in-Ok-read_length.seconds, c.in-Ok-read_length.nanos))

pub returns-in-Err-read_length : goal.returns-in-Err-read_length
returns-in-Err-read_length c = search (rules, plain_err c.args.text.now c.in-Err-read_length.fault)
