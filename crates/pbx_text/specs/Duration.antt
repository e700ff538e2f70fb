-- Durations (ProtoJSON Format: `Duration`, seconds with a suffix `s`; google/protobuf/duration.proto: at most 315,576,000,000 seconds either
-- way, and nanoseconds of the sign of the seconds).
use Rattle.std.specs.Prelude.{ℕ, ◌&&◌, ◌||◌, ◌==◌, nat_le, ℤ, pos, neg_ℤ, int_le, unsigned_abs, List, [], ◌∷◌, ◌++◌, codes, Bool, if◌then◌else◌, Option, Some, None, option_map, option_and_then, Result, Ok, Err, decimal}
use Rattle.std.specs.Str.{bytes_eq}
use Rattle.pbx_text.specs.Decimal.{and_then, or_form, or_range, natural_of}
use Rattle.pbx_text.specs.Clock.{front_digits, after_digits, fraction_of, fraction_text}
use Rattle.pbx_text.specs.declared.fault.TextFault.{TextFault}
use Rattle.pbx_text.specs.declared.fault.TextFault.TheVariants.{Range}

-- the nanoseconds of an optional fraction, behind which `s` ends the text
abbrev pub nanos_before_s : ℕ × List ℕ → Option ℕ
nanos_before_s f = if bytes_eq f.1 (codes "s") then Some f.0 else None

-- the seconds with the nanoseconds, where there are some
abbrev pub with_nanos : Option ℕ → ℕ → Option (ℕ × ℕ)
with_nanos nanos seconds = option_map (λ n. (seconds, n)) nanos

-- seconds and nanoseconds of digits, an optional `.` and digits, and `s`
abbrev pub length_of : List ℕ → Option (ℕ × ℕ)
length_of text = option_and_then (with_nanos (option_and_then nanos_before_s (fraction_of (after_digits text)))) (natural_of (front_digits text))

-- the same behind a `-`
abbrev pub negated : ℕ × ℕ → ℤ × ℤ
negated t = (neg_ℤ (pos t.0), neg_ℤ (pos t.1))

-- the seconds and nanoseconds that a text of the grammar says; None: the text is outside the grammar
unfoldable pub duration_of : List ℕ → Option (ℤ × ℤ)
duration_of [] = None
duration_of (c ∷ cs) = if c == 45 then option_map negated (length_of cs) else option_map (λ t. (pos t.0, pos t.1)) (length_of (c ∷ cs))

-- at most 315,576,000,000 whole seconds either way
abbrev pub is_duration_second : ℤ → Bool
is_duration_second seconds = nat_le (unsigned_abs seconds) 315576000000

-- what reading answers: `Form` outside the grammar, `Range` where the whole seconds are too many
abbrev pub duration_read : List ℕ → Result (ℤ × ℤ) TextFault
duration_read text = and_then (or_form (duration_of text)) (λ t. if is_duration_second t.0 then Ok t else Err Range)

-- neither is below 0 where the other is above
abbrev pub signs_agree : ℤ → ℤ → Bool
signs_agree seconds nanos = (int_le (pos 0) seconds && int_le (pos 0) nanos) || (int_le seconds (pos 0) && int_le nanos (pos 0))

-- `-` where one of them is below 0
abbrev pub sign_text : ℤ → ℤ → List ℕ
sign_text seconds nanos = if int_le (pos 0) seconds && int_le (pos 0) nanos then [] else 45 ∷ []

-- the text that is written; None: too many seconds, more than 999,999,999 nanoseconds either way, or signs that differ
unfoldable pub duration_text : ℤ → ℤ → Option (List ℕ)
duration_text seconds nanos =
    if is_duration_second seconds && nat_le (unsigned_abs nanos) 999999999 && signs_agree seconds nanos
    then Some (sign_text seconds nanos ++ decimal (unsigned_abs seconds) ++ fraction_text (unsigned_abs nanos) ++ codes "s") else None

-- what writing answers
abbrev pub duration_written : ℤ → ℤ → Result (List ℕ) TextFault
duration_written seconds nanos = or_range (duration_text seconds nanos)
