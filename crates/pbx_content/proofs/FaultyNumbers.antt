-- A payload of numbers is read whole exactly where none of them is too long and the bytes do not end inside one.
use Rattle.std.proofs.Common.{◌≡◌, ◌≢◌, ℕ, zero, suc, ◌-◌, ◌%◌, ◌<◌, ◌≤◌, Bool, true, false, nat_lt, List, [], ◌∷◌, ◌++◌, length, take, drop, Option, Some}
use Rattle.std.proofs.Common.{None, Result, Ok, Err, ◌⊎◌, inl, inr}
use Rattle.std.proofs.Common.{if◌then◌else◌, option_map, refl, sym, ap, ◌∙◌, arith, append_assoc, append-nil, length-append, length-drop}
use Rattle.std.specs.Prelude.{◌==◌}
use Rattle.std.specs.Option.{is_some}
use Rattle.std.specs.Int.{Width, w32, w64}
use Rattle.pbx_wire.specs.Fixed.{fixed}
use Rattle.std.proofs.lemmas.Bool.{le-ltb, ltb-true, ltb-false, ne_eqb, eqb-false}
use Rattle.pbx_wire.specs.declared.error.DecodeError.{DecodeError}
use Rattle.pbx_wire.specs.declared.error.DecodeError.TheVariants as errors
use Rattle.pbx_wire.specs.Reading.{varint_at}
use Rattle.pbx_wire.specs.Spelling.{IsVarint}
use Rattle.pbx_wire.specs.Faults.{GoesOn, IsLongVarint, EndsInVarint}
use Rattle.pbx_wire.proofs.Laws.{varint_takes, spelled_so, chain_has}
use Rattle.pbx_wire.proofs.Again.{varint_again}
use Rattle.pbx_wire.proofs.Failing.{varint_fails}
use Rattle.pbx_content.specs.Records.{varints_in, fixed_in}
use Rattle.pbx_content.specs.Shape.{Form, as_varint, as_four, as_eight, as_payload, is_payload}
use Rattle.pbx_content.specs.Meaning.{numbers_in}
use Rattle.pbx_content.specs.Faults.{VarintsThen, HasLongNumber, EndsInNumber}
use Rattle.pbx_content.proofs.OntoSplits.{there_map, not_there}

-- ---- one number

ends_at : (more : ℕ) (bytes : List ℕ) → GoesOn bytes → length bytes ≤ more → varint_at 0 more bytes ≡ Err (errors.Underflow 0)
unfolding varint_at
ends_at more [] on short = refl
ends_at zero (b ∷ bs) on short = absurd (omega arith)
ends_at (suc more) (b ∷ bs) (h, on) short = rw (le-ltb b 128 h, ends_at more bs on (omega arith)) refl

long_at : (more : ℕ) (front : List ℕ) (tenth : ℕ) (rest : List ℕ) → GoesOn front → length front ≡ more → 1 < tenth
    → varint_at 0 more (front ++ tenth ∷ rest) ≡ Err (errors.Varint 0)
unfolding varint_at
long_at zero [] tenth rest on nine large = rw (le-ltb tenth 2 large) refl
long_at (suc more) [] tenth rest on nine large = absurd (omega arith)
long_at zero (b ∷ front) tenth rest on nine large = absurd (omega arith)
long_at (suc more) (b ∷ front) tenth rest (h, on) nine large = rw (le-ltb b 128 h, long_at more front tenth rest on (omega arith) large) refl

-- what was read, and what stands behind it
record IsRead (bytes : List ℕ) (v : ℕ) (rest : List ℕ) : Type 0 where
  text : List ℕ
  is : IsVarint text v
  parts : bytes ≡ text ++ rest

one_read : (bytes : List ℕ) (v : ℕ) (rest : List ℕ) → varint_at 0 9 bytes ≡ Ok (v, rest) → IsRead bytes v rest
one_read bytes v rest h =
    let t = varint_takes 0 9 bytes v rest h in
    record { text = t.text; is = spelled_so t.text v v t.holds refl; parts = t.parts }

read_shorter : (bytes : List ℕ) (v : ℕ) (rest : List ℕ) → IsRead bytes v rest → length rest < length bytes
read_shorter bytes v rest r = omega (arith, ap length r.parts, length-append r.text rest, chain_has r.text r.is.chain)

-- the same with more behind it
read_more : (bytes : List ℕ) (v : ℕ) (rest after : List ℕ) → IsRead bytes v rest → varint_at 0 9 (bytes ++ after) ≡ Ok (v, rest ++ after)
read_more bytes v rest after r =
    ap (λ (t : List ℕ). varint_at 0 9 (t ++ after)) r.parts ∙ ap (varint_at 0 9) (append_assoc r.text rest after) ∙ varint_again 0 r.text (rest ++ after) v r.is

-- ---- varints one after another

no_varints : (turns : ℕ) → varints_in turns [] ≡ Some []
unfolding varints_in
no_varints zero = refl
no_varints (suc turns) = refl

varints_step : (turns b v : ℕ) (bs rest : List ℕ) → varint_at 0 9 (b ∷ bs) ≡ Ok (v, rest)
    → varints_in (suc turns) (b ∷ bs) ≡ option_map (λ vs. v ∷ vs) (varints_in turns rest)
unfolding varints_in
varints_step turns b v bs rest h = rw h refl

varints_stop : (turns b : ℕ) (bs : List ℕ) (e : DecodeError) → varint_at 0 9 (b ∷ bs) ≡ Err e → varints_in turns (b ∷ bs) ≡ None
unfolding varints_in
varints_stop zero b bs e h = refl
varints_stop (suc turns) b bs e h = rw h refl

no_turns : (b : ℕ) (bs : List ℕ) → varints_in 0 (b ∷ bs) ≡ None
unfolding varints_in
no_turns b bs = refl

-- enough turns are enough
enough : (turns more : ℕ) (bytes : List ℕ) → length bytes ≤ turns → length bytes ≤ more → varints_in turns bytes ≡ varints_in more bytes
enough turns more [] h k = no_varints turns ∙ sym (no_varints more)
enough zero more (b ∷ bs) h k = absurd (omega arith)
enough (suc turns) zero (b ∷ bs) h k = absurd (omega arith)
enough (suc turns) (suc more) (b ∷ bs) h k = at (varint_at 0 9 (b ∷ bs)) refl (enough turns more)
  where
    at : (r : Result (ℕ × List ℕ) DecodeError) → varint_at 0 9 (b ∷ bs) ≡ r
        → ((bytes : List ℕ) → length bytes ≤ turns → length bytes ≤ more → varints_in turns bytes ≡ varints_in more bytes)
        → varints_in (suc turns) (b ∷ bs) ≡ varints_in (suc more) (b ∷ bs)
    at (Err e) d ih = varints_stop (suc turns) b bs e d ∙ sym (varints_stop (suc more) b bs e d)
    at (Ok (v, rest)) d ih =
        let less = read_shorter (b ∷ bs) v rest (one_read (b ∷ bs) v rest d) in
        varints_step turns b v bs rest d ∙ ap (λ (o : Option (List ℕ)). option_map (λ vs. v ∷ vs) o) (ih rest (omega (arith, less)) (omega (arith, less)))
        ∙ sym (varints_step more b v bs rest d)

-- one more in front
front_more : (text before : List ℕ) (v : ℕ) (numbers : List ℕ) → IsVarint text v → varints_in (length before) before ≡ Some numbers
    → varints_in (length (text ++ before)) (text ++ before) ≡ Some (v ∷ numbers)
front_more [] before v numbers h e = absurd h.chain
front_more (b ∷ text) before v numbers h e =
    let read = varint_again 0 (b ∷ text) before v h in
    varints_step (length (text ++ before)) b v (text ++ before) before read
    ∙ ap (λ (o : Option (List ℕ)). option_map (λ vs. v ∷ vs) o)
    (enough (length (text ++ before)) (length before) before (omega (arith, length-append text before)) (omega arith) ∙ e)

abbrev pub EndsThere : List ℕ → Type 0
EndsThere rest = (rest ≢ []) × EndsInVarint rest

then_more : (P : List ℕ → Type 0) (bytes : List ℕ) (v : ℕ) (rest : List ℕ) → IsRead bytes v rest → VarintsThen rest P → VarintsThen bytes P
then_more P bytes v rest r (before, numbers, last, all, holds, parts) = (
  r.text ++ before,
  v ∷ numbers,
  last,
  front_more r.text before v numbers r.is all,
  holds,
  r.parts ∙ ap (λ (t : List ℕ). r.text ++ t) parts
      ∙ sym (append_assoc r.text before last),
)

none_inside : {A B : Type 0} (g : A → B) (o : Option A) → option_map g o ≡ None → o ≡ None
none_inside g None e = refl
none_inside g (Some x) e = absurd cc

some_inside : {A B : Type 0} (g : A → B) (o : Option A) (y : B) → option_map g o ≡ Some y → (x : A) × (o ≡ Some x)
some_inside g None y e = absurd cc
some_inside g (Some x) y e = (x, refl)

varints_fail : (turns : ℕ) (bytes : List ℕ) → length bytes ≤ turns → varints_in turns bytes ≡ None
    → VarintsThen bytes IsLongVarint ⊎ VarintsThen bytes EndsThere
varints_fail turns [] h e = let is = no_varints turns in absurd cc
varints_fail zero (b ∷ bs) h e = absurd (omega arith)
varints_fail (suc turns) (b ∷ bs) h e = at (varint_at 0 9 (b ∷ bs)) refl (varints_fail turns)
  where
    at : (r : Result (ℕ × List ℕ) DecodeError) → varint_at 0 9 (b ∷ bs) ≡ r
        → ((bytes : List ℕ) → length bytes ≤ turns → varints_in turns bytes ≡ None → VarintsThen bytes IsLongVarint ⊎ VarintsThen bytes EndsThere)
        → VarintsThen (b ∷ bs) IsLongVarint ⊎ VarintsThen (b ∷ bs) EndsThere
    at (Err d) read ih = elim (varint_fails 0 9 (b ∷ bs) d read) [
      | inl (told, on, short) ↦ inr ([], [], b ∷ bs, no_varints 0, (λ none. absurd cc, (on, omega arith)), refl)
      | inr (told, l) ↦ inl ([], [], b ∷ bs, no_varints 0, (l.front, l.tenth, l.rest, l.goes_on, l.nine, l.large, l.parts), refl)
    ]
    at (Ok (v, rest)) read ih =
        let one = one_read (b ∷ bs) v rest read in
        let less = read_shorter (b ∷ bs) v rest one in
        let left : varints_in turns rest ≡ None = none_inside (λ vs. v ∷ vs) (varints_in turns rest) (sym (varints_step turns b v bs rest read) ∙ e) in
        elim (ih rest (omega (arith, less)) left) [
          | inl f ↦ inl (then_more IsLongVarint (b ∷ bs) v rest one f)
          | inr f ↦ inr (then_more EndsThere (b ∷ bs) v rest one f)
        ]

none_after : (many turns : ℕ) (before numbers rest : List ℕ) (e : DecodeError) → varints_in many before ≡ Some numbers → rest ≢ [] → varint_at 0 9 rest ≡ Err e
    → varints_in turns (before ++ rest) ≡ None
none_after many turns [] numbers [] e all some h = absurd (some refl)
none_after many turns [] numbers (c ∷ rest) e all some h = varints_stop turns c rest e h
none_after zero turns (b ∷ bs) numbers rest e all some h = let none = no_turns b bs in absurd cc
none_after (suc many) zero (b ∷ bs) numbers rest e all some h = no_turns b (bs ++ rest)
none_after (suc many) (suc turns) (b ∷ bs) numbers rest e all some h =
    at (varint_at 0 9 (b ∷ bs)) refl (λ left numbers inside. none_after many turns left numbers rest e inside some h)
  where
    at : (r : Result (ℕ × List ℕ) DecodeError) → varint_at 0 9 (b ∷ bs) ≡ r
        → ((left numbers : List ℕ) → varints_in many left ≡ Some numbers → varints_in turns (left ++ rest) ≡ None)
        → varints_in (suc turns) ((b ∷ bs) ++ rest) ≡ None
    at (Err d) read ih = let none = varints_stop (suc many) b bs d read in absurd cc
    at (Ok (v, left)) read ih =
        let inside = some_inside (λ vs. v ∷ vs) (varints_in many left) numbers (sym (varints_step many b v bs left read) ∙ all) in
        varints_step turns b v (bs ++ rest) (left ++ rest) (read_more (b ∷ bs) v left rest (one_read (b ∷ bs) v left read))
        ∙ ap (λ (o : Option (List ℕ)). option_map (λ vs. v ∷ vs) o) (ih left inside.0 inside.1)

-- one more behind
some_mapped : (w : ℕ) (o : Option (List ℕ)) (y : List ℕ) → option_map (λ vs. w ∷ vs) o ≡ Some y → (x : List ℕ) × (o ≡ Some x) × (w ∷ x ≡ y)
some_mapped w None y e = absurd cc
some_mapped w (Some x) y e = let is : w ∷ x ≡ y = cc in (x, refl, is)

after_turns : (turns : ℕ) (before text numbers : List ℕ) (v : ℕ) → length before ≤ turns → varints_in (length before) before ≡ Some numbers → IsVarint text v
    → varints_in (length (before ++ text)) (before ++ text) ≡ Some (numbers ++ v ∷ [])
after_turns turns [] text numbers v h all is =
    let none : [] ≡ numbers = let empty = no_varints 0 in cc in
    let one : varints_in (length text) text ≡ Some (v ∷ []) =
    ap (λ (t : List ℕ). varints_in (length t) t) (sym (append-nil text)) ∙ front_more text [] v [] is (no_varints 0) in
    rw (← none) one
after_turns zero (b ∷ bs) text numbers v h all is = absurd (omega arith)
after_turns (suc turns) (b ∷ bs) text numbers v h all is =
    at (varint_at 0 9 (b ∷ bs)) refl (λ left ns short inside. after_turns turns left text ns v short inside is)
  where
    at : (r : Result (ℕ × List ℕ) DecodeError) → varint_at 0 9 (b ∷ bs) ≡ r
        → ((left ns : List ℕ) → length left ≤ turns → varints_in (length left) left ≡ Some ns → varints_in (length (left ++ text)) (left ++ text)
        ≡ Some (ns ++ v ∷ []))
        → varints_in (length ((b ∷ bs) ++ text)) ((b ∷ bs) ++ text) ≡ Some (numbers ++ v ∷ [])
    at (Err d) read ih = let none = varints_stop (length (b ∷ bs)) b bs d read in absurd cc
    at (Ok (w, left)) read ih =
        let one = one_read (b ∷ bs) w left read in
        let less = read_shorter (b ∷ bs) w left one in
        let inside = some_mapped w (varints_in (length bs) left) numbers (sym (varints_step (length bs) b w bs left read) ∙ all) in
        let fewer : varints_in (length left) left ≡ Some inside.0 = enough (length left) (length bs) left (omega arith) (omega (arith, less)) ∙ inside.1 in
        let later = ih left inside.0 (omega (arith, less)) fewer in
        varints_step (length (bs ++ text)) b w (bs ++ text) (left ++ text) (read_more (b ∷ bs) w left text one)
        ∙ ap (λ (o : Option (List ℕ)). option_map (λ vs. w ∷ vs) o)
        (enough (length (bs ++ text)) (length (left ++ text)) (left ++ text) (omega (arith, less, length-append bs text, length-append left text)) (omega arith)
        ∙ later)
        ∙ ap (λ (ns : List ℕ). Some (ns ++ v ∷ [])) inside.2

pub numbers_after : (before text numbers : List ℕ) (v : ℕ) → varints_in (length before) before ≡ Some numbers → IsVarint text v
    → varints_in (length (before ++ text)) (before ++ text) ≡ Some (numbers ++ v ∷ [])
numbers_after before text numbers v all h = after_turns (length before) before text numbers v (omega arith) all h

long_some : (bytes : List ℕ) → IsLongVarint bytes → bytes ≢ []
long_some bytes (front, tenth, rest, on, nine, large, parts) none = absurd (omega (arith, ap length parts, ap length none, length-append front (tenth ∷ rest)))

-- ---- numbers of so many bytes

record Divides (len : ℕ) : Type 0 where
  positive : 0 < len
  low : (n : ℕ) → n < len → n % len ≡ n
  high : (n : ℕ) → len ≤ n → (n - len) % len ≡ n % len

by_four : Divides 4
by_four = record { positive = omega arith; low = λ n h. omega arith; high = λ n h. omega arith }

by_eight : Divides 8
by_eight = record { positive = omega arith; low = λ n h. omega arith; high = λ n h. omega arith }

fixed_there : (w : Width) (len turns : ℕ) (bytes : List ℕ) → Divides len → length bytes ≤ turns
    → is_some (fixed_in w len turns bytes) ≡ (length bytes % len == 0)
unfolding fixed_in
fixed_there w len zero [] d h = rw (d.low 0 d.positive) refl
fixed_there w len (suc turns) [] d h = rw (d.low 0 d.positive) refl
fixed_there w len zero (b ∷ bs) d h = absurd (omega arith)
fixed_there w len (suc turns) (b ∷ bs) d h = at (nat_lt (length (b ∷ bs)) len) refl (λ short. fixed_there w len turns (drop len (b ∷ bs)) d short)
  where
    at : (t : Bool) → nat_lt (length (b ∷ bs)) len ≡ t
        → (length (drop len (b ∷ bs)) ≤ turns → is_some (fixed_in w len turns (drop len (b ∷ bs))) ≡ (length (drop len (b ∷ bs)) % len == 0))
        → is_some (if t then None else option_map (λ vs. fixed w (take len (b ∷ bs)) ∷ vs) (fixed_in w len turns (drop len (b ∷ bs))))
        ≡ (length (b ∷ bs) % len == 0)
    at true e ih =
        let less : length (b ∷ bs) < len = ltb-true (length (b ∷ bs)) len e in
        sym (ne_eqb (length (b ∷ bs) % len) 0 (λ z. absurd (omega (arith, d.low (length (b ∷ bs)) less, z))))
    at false e ih =
        let le : len ≤ length (b ∷ bs) = ltb-false (length (b ∷ bs)) len e in
        let long = length-drop len (b ∷ bs) in
        there_map (λ vs. fixed w (take len (b ∷ bs)) ∷ vs) (fixed_in w len turns (drop len (b ∷ bs)))
        ∙ ih (omega (arith, long, d.positive))
        ∙ ap (λ n. n % len == 0) long ∙ ap (λ n. n == 0) (d.high (length (b ∷ bs)) le)

fixed_fails : (w : Width) (len : ℕ) (bytes : List ℕ) → Divides len → fixed_in w len (length bytes) bytes ≡ None → length bytes % len ≢ 0
fixed_fails w len bytes d e z =
    let there = fixed_there w len (length bytes) bytes d (omega arith) in
    let no : false ≡ (length bytes % len == 0) = ap is_some (sym e) ∙ there in
    eqb-false (length bytes % len) 0 (sym no) z

fixed_none : (w : Width) (len : ℕ) (bytes : List ℕ) → Divides len → length bytes % len ≢ 0 → fixed_in w len (length bytes) bytes ≡ None
fixed_none w len bytes d h =
    not_there (fixed_in w len (length bytes) bytes) (fixed_there w len (length bytes) bytes d (omega arith) ∙ ne_eqb (length bytes % len) 0 h)

-- ---- a payload of numbers

pub numbers_fail : (form : Form) (bytes : List ℕ) → is_payload form ≡ false → numbers_in form bytes ≡ None → HasLongNumber form bytes ⊎ EndsInNumber form bytes
numbers_fail as_varint bytes p e = elim (varints_fail (length bytes) bytes (omega arith) e) [
  | inl f ↦ inl (refl, f)
  | inr f ↦ inr f
]
numbers_fail as_four bytes p e = inr (fixed_fails w32 4 bytes by_four e)
numbers_fail as_eight bytes p e = inr (fixed_fails w64 8 bytes by_eight e)
numbers_fail as_payload bytes p e = absurd cc

pub long_none : (form : Form) (bytes : List ℕ) → HasLongNumber form bytes → numbers_in form bytes ≡ None
long_none as_varint bytes (is, (before, numbers, rest, all, long, parts)) =
    rw parts (none_after (length before) (length (before ++ rest)) before numbers rest (errors.Varint 0) all (long_some rest long) (again rest long))
  where
    again : (rest : List ℕ) → IsLongVarint rest → varint_at 0 9 rest ≡ Err (errors.Varint 0)
    again rest (front, tenth, more, on, nine, large, is) = rw is (long_at 9 front tenth more on nine large)
long_none as_four bytes (is, f) = absurd cc
long_none as_eight bytes (is, f) = absurd cc
long_none as_payload bytes (is, f) = absurd cc

pub end_none : (form : Form) (bytes : List ℕ) → EndsInNumber form bytes → numbers_in form bytes ≡ None
end_none as_varint bytes (before, numbers, rest, all, (some, (on, short)), parts) =
    rw parts (none_after (length before) (length (before ++ rest)) before numbers rest (errors.Underflow 0) all some (ends_at 9 rest on (omega arith)))
end_none as_four bytes h = fixed_none w32 4 bytes by_four h
end_none as_eight bytes h = fixed_none w64 8 bytes by_eight h
end_none as_payload bytes h = absurd h
