-- Where reading fails, the bytes break the rule that it names.
use Rattle.std.proofs.Common.{◌≡◌, ◌≢◌, ℕ, zero, suc, ◌+◌, ◌-◌, ◌*◌, ◌/◌, ◌%◌, ◌^◌, ◌<◌, ◌≤◌, nat_lt, List, [], ◌∷◌, ◌++◌, length, take, drop, Option, Some}
use Rattle.std.proofs.Common.{None, Result, Ok, Err, ◌⊎◌, inl, inr, if◌then◌else◌, refl, sym, ap, ◌∙◌, arith, append_assoc, length-append, subst}
use Rattle.std.proofs.Math.Nat.{add-zero, zero-add, add_assoc}
use borrow.Author.Tests.{ltb-true, ltb-false}
use Rattle.std.specs.Prelude.{◌==◌, IfErr}
use Rattle.std.specs.Int.{w32, w64}
use Rattle.pbx_wire.specs.Fixed.{fixed}
use Rattle.std.proofs.lemmas.Bool.{eqb-true, eqb-false}
use Rattle.std.proofs.lemmas.List.{nil_from_length}
use Rattle.pbx_wire.specs.declared.error.DecodeError.{DecodeError}
use Rattle.pbx_wire.specs.declared.error.DecodeError.TheVariants as errors
use Rattle.pbx_wire.specs.declared.rec.Rec.{Rec, out-Rec}
use Rattle.pbx_wire.specs.declared.rec.Rec.TheVariants as rec
use Rattle.pbx_wire.specs.Reading.{◌>>=◌, Gives, Bodies, varint_at, key_at, bytes_at, number_at, varint_rec_at, fixed64_rec_at, bytes_rec_at, fixed32_rec_at}
use Rattle.pbx_wire.specs.Reading.{value_at, group_item_at, end_item_at, plain_item_at, keyed_at, last_item_at, next_item_at, item_at, then_more, items_at}
use Rattle.pbx_wire.specs.Reading.{body_at, all_at}
use Rattle.pbx_wire.specs.Spelling.{IsVarint, IsKey, Body, SpellsLayer, SpellsAll, SpellsBelow}
use Rattle.pbx_wire.specs.Faults.{shifted, GoesOn, IsLongVarint, EndsInValue, FaultBody, HasLongVarint, HasBadKey, HasBadType, EndsInRecord, HasOtherEnd}
use Rattle.pbx_wire.specs.Faults.{IsTooDeep, Breaks, FaultsLayer, FaultsBelow, IsFault}
use Rattle.pbx_wire.proofs.Steps.{chosen}
use Rattle.pbx_wire.proofs.Laws.{TakesBody, varint_takes, spelled_so, of_kind, key_takes, key_of, body_takes, item_takes, layer_has}

-- ---- steps that fail

abbrev pub failed : {A : Type 0} → DecodeError → Result A DecodeError
failed e = Err e

pub err_is : {A : Type 0} (d e : DecodeError) → failed {A = A} d ≡ failed {A = A} e → d ≡ e
err_is d e h = cc

pub bind_err : {A B : Type 0} (r : Result A DecodeError) (f : A → Result B DecodeError) (e : DecodeError) → (r >>= f) ≡ Err e
    → (r ≡ Err e) ⊎ ((x : A) × (r ≡ Ok x) × (f x ≡ Err e))
bind_err (Ok x) f e h = inr (x, refl, h)
bind_err {A} {B} (Err d) f e h = inl (ap (failed {A = A}) (err_is {A = B} d e h))

pub shifted_zero : (e : DecodeError) → shifted 0 e ≡ e
shifted_zero (errors.Varint at) = ap errors.Varint (zero-add at)
shifted_zero (errors.Key at) = ap errors.Key (zero-add at)
shifted_zero (errors.WireType at) = ap errors.WireType (zero-add at)
shifted_zero (errors.Underflow at) = ap errors.Underflow (zero-add at)
shifted_zero (errors.Utf8 at) = ap errors.Utf8 (zero-add at)
shifted_zero (errors.EndGroup at) = ap errors.EndGroup (zero-add at)
shifted_zero (errors.TooDeep at) = ap errors.TooDeep (zero-add at)
shifted_zero errors.NoMemory = refl

pub shifted_more : (a b : ℕ) (e : DecodeError) → shifted a (shifted b e) ≡ shifted (a + b) e
shifted_more a b (errors.Varint at) = ap errors.Varint (sym (add_assoc a b at))
shifted_more a b (errors.Key at) = ap errors.Key (sym (add_assoc a b at))
shifted_more a b (errors.WireType at) = ap errors.WireType (sym (add_assoc a b at))
shifted_more a b (errors.Underflow at) = ap errors.Underflow (sym (add_assoc a b at))
shifted_more a b (errors.Utf8 at) = ap errors.Utf8 (sym (add_assoc a b at))
shifted_more a b (errors.EndGroup at) = ap errors.EndGroup (sym (add_assoc a b at))
shifted_more a b (errors.TooDeep at) = ap errors.TooDeep (sym (add_assoc a b at))
shifted_more a b errors.NoMemory = refl

-- a fault behind so many bytes, told from the front of all
pub shifted_by : (total front : ℕ) (bytes rest : List ℕ) (e : DecodeError) → length bytes ≡ front + length rest → length bytes ≤ total
    → shifted (total - length rest) e ≡ shifted (total - length bytes) (shifted front e)
shifted_by total front bytes rest e h within =
    let at : total - length rest ≡ (total - length bytes) + front = omega arith in
    rw at (sym (shifted_more (total - length bytes) front e))

-- ---- numbers

-- a number after whose first byte so many may follow goes on for longer
pub record IsLongIn (more : ℕ) (bytes : List ℕ) : Type 0 where
  pub front : List ℕ
  pub tenth : ℕ
  pub rest : List ℕ
  pub goes_on : GoesOn front
  pub nine : length front ≡ more
  pub large : 1 < tenth
  pub parts : bytes ≡ front ++ tenth ∷ rest

-- why no number is read
abbrev pub VarintFault : ℕ → ℕ → List ℕ → DecodeError → Type 0
VarintFault at more bytes e = ((e ≡ errors.Underflow at) × GoesOn bytes × (length bytes ≤ more)) ⊎ ((e ≡ errors.Varint at) × IsLongIn more bytes)

longer_fault : (at more b : ℕ) (bytes : List ℕ) (e : DecodeError) → 128 ≤ b → VarintFault at more bytes e → VarintFault at (suc more) (b ∷ bytes) e
longer_fault at more b bytes e h (inl (told, on, short)) = inl (told, (h, on), omega arith)
longer_fault at more b bytes e h (inr (told, l)) = inr (
  told,
  record {
    front = b ∷ l.front;
    tenth = l.tenth;
    rest = l.rest;
    goes_on = (h, l.goes_on);
    nine = omega (arith, l.nine);
    large = l.large;
    parts = ap (λ s. b ∷ s) l.parts;
  },
)

pub varint_fails : (at more : ℕ) (bytes : List ℕ) (e : DecodeError) → varint_at at more bytes ≡ Err e → VarintFault at more bytes e
unfolding varint_at
varint_fails at more [] e h = inl (sym (err_is _ e h), tt, omega arith)
varint_fails at zero (b ∷ bs) e h =
    elim (chosen (nat_lt b 2) (Ok (b, bs)) (Err (errors.Varint at)) (Err e) h) [
      | inl k ↦ absurd cc
      | inr k ↦ inr (sym (err_is _ e k.1), record { front = []; tenth = b; rest = bs; goes_on = tt; nine = refl; large = ltb-false b 2 k.0; parts = refl })
    ]
varint_fails at (suc more) (b ∷ bs) e h =
    elim (chosen (nat_lt b 128) (Ok (b, bs)) (varint_at at more bs >>= λ high. Ok (high.0 * 128 + b % 128, high.1)) (Err e) h) [
      | inl k ↦ absurd cc
      | inr k ↦ elim (bind_err (varint_at at more bs) (λ high. Ok (high.0 * 128 + b % 128, high.1)) e k.1) [
        | inl f ↦ longer_fault at more b bs e (ltb-false b 128 k.0) (varint_fails at more bs e f)
        | inr r ↦ absurd cc
      ]
    ]

long_varint : (bytes : List ℕ) → IsLongIn 9 bytes → IsLongVarint bytes
long_varint bytes l = (l.front, l.tenth, l.rest, l.goes_on, l.nine, l.large, l.parts)

-- why no key is read
abbrev pub KeyFault : ℕ → List ℕ → DecodeError → Type 0
KeyFault at bytes e = VarintFault at 9 bytes e ⊎ ((e ≡ errors.Key at) × HasBadKey bytes)

pub key_fails : (at : ℕ) (bytes : List ℕ) (e : DecodeError) → key_at at bytes ≡ Err e → KeyFault at bytes e
unfolding key_at
key_fails at bytes e h =
    let test = λ (k : ℕ × List ℕ). if nat_lt k.0 (2 ^ 32) then (if nat_lt k.0 8 then Err (errors.Key at) else Ok k) else Err (errors.Key at) in
    elim (bind_err (varint_at at 9 bytes) test e h) [
      | inl f ↦ inl (varint_fails at 9 bytes e f)
      | inr r ↦
          let t = varint_takes at 9 bytes r.0.0 r.0.1 r.1 in
          let is : IsVarint t.text r.0.0 = spelled_so t.text r.0.0 r.0.0 t.holds refl in
          elim (chosen (nat_lt r.0.0 (2 ^ 32)) (if nat_lt r.0.0 8 then Err (errors.Key at) else Ok r.0) (Err (errors.Key at)) (Err e) r.2) [
            | inr k ↦ inr (sym (err_is _ e k.1), (t.text, r.0.0, r.0.1, is, inr (ltb-false r.0.0 (2 ^ 32) k.0), t.parts))
            | inl k ↦ elim (chosen (nat_lt r.0.0 8) (Err (errors.Key at)) (Ok r.0) (Err e) k.1) [
              | inl l ↦ inr (sym (err_is _ e l.1), (t.text, r.0.0, r.0.1, is, inl (ltb-true r.0.0 8 l.0), t.parts))
              | inr l ↦ absurd cc
            ]
          ]
    ]

-- ---- values

pub bytes_fail : (at len : ℕ) (bytes : List ℕ) (e : DecodeError) → bytes_at at len bytes ≡ Err e → (e ≡ errors.Underflow at) × (length bytes < len)
bytes_fail at len bytes e h =
    elim (chosen (nat_lt (length bytes) len) (Err (errors.Underflow at)) (Ok (take len bytes, drop len bytes)) (Err e) h) [
      | inl k ↦ (sym (err_is _ e k.1), ltb-true (length bytes) len k.0)
      | inr k ↦ absurd cc
    ]

-- why no value is read
abbrev pub ValueFault : ℕ → ℕ → List ℕ → DecodeError → Type 0
ValueFault at wire_type bytes e =
    ((e ≡ errors.Varint at) × ((wire_type ≡ 0) ⊎ (wire_type ≡ 2)) × IsLongVarint bytes)
    ⊎ (((e ≡ errors.Underflow at) × EndsInValue wire_type bytes) ⊎ ((e ≡ errors.WireType at) × ((wire_type ≡ 6) ⊎ (wire_type ≡ 7))))

number_fault : (at wire_type : ℕ) (bytes : List ℕ) (e : DecodeError) → (wire_type ≡ 0) ⊎ (wire_type ≡ 2) → VarintFault at 9 bytes e → ValueFault at wire_type bytes e
number_fault at wire_type bytes e k (inl (told, on, short)) = inr (inl (told, inl (k, (on, omega arith))))
number_fault at wire_type bytes e k (inr (told, l)) = inl (told, k, long_varint bytes l)

varint_rec_fails : (at n wire_type : ℕ) (bytes : List ℕ) (e : DecodeError) → wire_type ≡ 0 → varint_rec_at at n bytes ≡ Err e → ValueFault at wire_type bytes e
varint_rec_fails at n wire_type bytes e k h =
    elim (bind_err (varint_at at 9 bytes) (λ v. Ok (rec.Varint n v.0, v.1)) e h) [
      | inl f ↦ number_fault at wire_type bytes e (inl k) (varint_fails at 9 bytes e f)
      | inr r ↦ absurd cc
    ]

fixed64_rec_fails : (at n wire_type : ℕ) (bytes : List ℕ) (e : DecodeError) → wire_type ≡ 1 → fixed64_rec_at at n bytes ≡ Err e → ValueFault at wire_type bytes e
fixed64_rec_fails at n wire_type bytes e k h =
    elim (bind_err (number_at w64 8 at bytes) (λ v. Ok (rec.Fixed64 n v.0, v.1)) e h) [
      | inl f ↦ elim (bind_err (bytes_at at 8 bytes) (λ v. Ok (fixed w64 v.0, v.1)) e f) [
        | inl g ↦ let b = bytes_fail at 8 bytes e g in inr (inl (b.0, inr (inl (k, b.1))))
        | inr r ↦ absurd cc
      ]
      | inr r ↦ absurd cc
    ]

fixed32_rec_fails : (at n wire_type : ℕ) (bytes : List ℕ) (e : DecodeError) → wire_type ≡ 5 → fixed32_rec_at at n bytes ≡ Err e → ValueFault at wire_type bytes e
fixed32_rec_fails at n wire_type bytes e k h =
    elim (bind_err (number_at w32 4 at bytes) (λ v. Ok (rec.Fixed32 n v.0, v.1)) e h) [
      | inl f ↦ elim (bind_err (bytes_at at 4 bytes) (λ v. Ok (fixed w32 v.0, v.1)) e f) [
        | inl g ↦ let b = bytes_fail at 4 bytes e g in inr (inl (b.0, inr (inr (inr (k, b.1)))))
        | inr r ↦ absurd cc
      ]
      | inr r ↦ absurd cc
    ]

bytes_rec_fails : (at n wire_type : ℕ) (bytes : List ℕ) (e : DecodeError) → wire_type ≡ 2 → bytes_rec_at at n bytes ≡ Err e → ValueFault at wire_type bytes e
bytes_rec_fails at n wire_type bytes e k h =
    elim (bind_err (varint_at at 9 bytes) (λ len. bytes_at at len.0 len.1 >>= λ b. Ok (rec.Bytes n b.0, b.1)) e h) [
      | inl f ↦ number_fault at wire_type bytes e (inr k) (varint_fails at 9 bytes e f)
      | inr r ↦
          let t = varint_takes at 9 bytes r.0.0 r.0.1 r.1 in
          elim (bind_err (bytes_at at r.0.0 r.0.1) (λ b. Ok (rec.Bytes n b.0, b.1)) e r.2) [
            | inl g ↦
                let b = bytes_fail at r.0.0 r.0.1 e g in
                inr (inl (b.0, inr (inr (inl (k, (t.text, r.0.0, r.0.1, spelled_so t.text r.0.0 r.0.0 t.holds refl, b.1, t.parts))))))
            | inr q ↦ absurd cc
          ]
    ]

other_type : (wire_type : ℕ) → wire_type < 8 → wire_type ≢ 0 → wire_type ≢ 1 → wire_type ≢ 2 → wire_type ≢ 3 → wire_type ≢ 4 → wire_type ≢ 5 → (wire_type ≡ 6) ⊎ (wire_type ≡ 7)
other_type wire_type h a b c d e f = grind arith

pub value_fails : (at n wire_type : ℕ) (bytes : List ℕ) (e : DecodeError) → wire_type < 8 → wire_type ≢ 3 → wire_type ≢ 4 → value_at at n wire_type bytes ≡ Err e
    → ValueFault at wire_type bytes e
unfolding value_at
value_fails at n wire_type bytes e small three four h =
    let last = if wire_type == 5 then fixed32_rec_at at n bytes else Err (errors.WireType at) in
    let third = if wire_type == 2 then bytes_rec_at at n bytes else last in
    let second = if wire_type == 1 then fixed64_rec_at at n bytes else third in
    elim (chosen (wire_type == 0) (varint_rec_at at n bytes) second (Err e) h) [
      | inl h ↦ varint_rec_fails at n wire_type bytes e (eqb-true wire_type 0 h.0) h.1
      | inr zero_not ↦ elim (chosen (wire_type == 1) (fixed64_rec_at at n bytes) third (Err e) zero_not.1) [
        | inl h ↦ fixed64_rec_fails at n wire_type bytes e (eqb-true wire_type 1 h.0) h.1
        | inr one_not ↦ elim (chosen (wire_type == 2) (bytes_rec_at at n bytes) last (Err e) one_not.1) [
          | inl h ↦ bytes_rec_fails at n wire_type bytes e (eqb-true wire_type 2 h.0) h.1
          | inr two_not ↦ elim (chosen (wire_type == 5) (fixed32_rec_at at n bytes) (Err (errors.WireType at)) (Err e) two_not.1) [
            | inl h ↦ fixed32_rec_fails at n wire_type bytes e (eqb-true wire_type 5 h.0) h.1
            | inr five_not ↦
                inr (inr (
                  sym (err_is _ e five_not.1),
                  other_type wire_type small (eqb-false wire_type 0 zero_not.0) (eqb-false wire_type 1 one_not.0)
                      (eqb-false wire_type 2 two_not.0) three four (eqb-false wire_type 5 five_not.0),
                ))
          ]
        ]
      ]
    ]

-- ---- the record at the front

-- what stands in for `Breaks` while the offset is told from the front of all
pub record Broken (spells : Body) (faults : FaultBody) (levels group at : ℕ) (bytes : List ℕ) (e : DecodeError) : Type 0 where
  pub own : DecodeError
  pub breaks : Breaks spells faults levels group bytes own
  pub told : e ≡ shifted at own

pub broken_varint : (spells : Body) (faults : FaultBody) (levels group at : ℕ) (bytes : List ℕ) (e : DecodeError) → e ≡ errors.Varint at → HasLongVarint bytes
    → Broken spells faults levels group at bytes e
broken_varint spells faults levels group at bytes e told h =
    record { own = errors.Varint 0; breaks = inl (refl, h); told = told ∙ ap errors.Varint (sym (add-zero at)) }

pub broken_key : (spells : Body) (faults : FaultBody) (levels group at : ℕ) (bytes : List ℕ) (e : DecodeError) → e ≡ errors.Key at → HasBadKey bytes
    → Broken spells faults levels group at bytes e
broken_key spells faults levels group at bytes e told h = record { own = errors.Key 0; breaks = inl (refl, h); told = told ∙ ap errors.Key (sym (add-zero at)) }

pub broken_type : (spells : Body) (faults : FaultBody) (levels group at : ℕ) (bytes : List ℕ) (e : DecodeError) → e ≡ errors.WireType at → HasBadType bytes
    → Broken spells faults levels group at bytes e
broken_type spells faults levels group at bytes e told h =
    record { own = errors.WireType 0; breaks = inl (refl, h); told = told ∙ ap errors.WireType (sym (add-zero at)) }

pub broken_end : (spells : Body) (faults : FaultBody) (levels group at : ℕ) (bytes : List ℕ) (e : DecodeError) → e ≡ errors.Underflow at
    → EndsInRecord spells bytes → Broken spells faults levels group at bytes e
broken_end spells faults levels group at bytes e told h =
    record { own = errors.Underflow 0; breaks = inl (refl, h); told = told ∙ ap errors.Underflow (sym (add-zero at)) }

pub broken_other_end : (spells : Body) (faults : FaultBody) (levels group at : ℕ) (bytes : List ℕ) (e : DecodeError) → e ≡ errors.EndGroup at
    → HasOtherEnd group bytes → Broken spells faults levels group at bytes e
broken_other_end spells faults levels group at bytes e told h =
    record { own = errors.EndGroup 0; breaks = inl (refl, h); told = told ∙ ap errors.EndGroup (sym (add-zero at)) }

pub broken_deep : (spells : Body) (faults : FaultBody) (levels group at : ℕ) (bytes : List ℕ) (e : DecodeError) → e ≡ errors.TooDeep at
    → IsTooDeep levels bytes → Broken spells faults levels group at bytes e
broken_deep spells faults levels group at bytes e told h =
    record { own = errors.TooDeep 0; breaks = inl (refl, h); told = told ∙ ap errors.TooDeep (sym (add-zero at)) }

-- ---- the body of a group

-- why no body is read: a record of it breaks a rule, no level is left for it, or its end is missing
abbrev pub BodyFault : Body → FaultBody → ℕ → ℕ → ℕ → ℕ → List ℕ → DecodeError → Type 0
BodyFault spells faults levels total group from bytes e =
    ((inner : DecodeError) × faults group bytes inner × (e ≡ shifted (total - length bytes) inner))
    ⊎ (((e ≡ errors.TooDeep from) × (levels ≡ 0)) ⊎ ((rs : List Rec) × spells bytes rs × (group ≢ 0) × (e ≡ errors.Underflow from)))

pub record FailsBody (body : Bodies) (spells : Body) (faults : FaultBody) (levels total : ℕ) : Type 0 where
  pub takes : TakesBody body spells
  pub fails : (group from : ℕ) (bytes : List ℕ) (e : DecodeError) → length bytes ≤ total → body group from bytes ≡ Err e
      → BodyFault spells faults levels total group from bytes e

behind_key : (total : ℕ) (key rest : List ℕ) (e : DecodeError) → length (key ++ rest) ≤ total
    → shifted (total - length rest) e ≡ shifted (total - length (key ++ rest)) (shifted (length key) e)
behind_key total key rest e within = shifted_by total (length key) (key ++ rest) rest e (length-append key rest) within

group_fault : (spells : Body) (faults : FaultBody) (levels total group n : ℕ) (key rest : List ℕ) (e : DecodeError) → length (key ++ rest) ≤ total
    → IsKey key n 3
    → BodyFault spells faults levels total n (total - length (key ++ rest)) rest e
    → Broken spells faults levels group (total - length (key ++ rest)) (key ++ rest) e
group_fault spells faults levels total group n key rest e within k (inl (inner, f, told)) = record {
  own = shifted (length key) inner;
  breaks = inr (key, n, rest, inner, k, f, refl, refl);
  told = told ∙ behind_key total key rest inner within;
}
group_fault spells faults levels total group n key rest e within k (inr (inl (told, none))) =
    broken_deep spells faults levels group (total - length (key ++ rest)) (key ++ rest) e told (none, (n, rest, (key, k, refl)))
group_fault spells faults levels total group n key rest e within k (inr (inr (rs, s, open_, told))) =
    broken_end spells faults levels group (total - length (key ++ rest)) (key ++ rest) e told (inr (inr (n, rest, rs, (key, k, refl), s)))

group_fails : (body : Bodies) (spells : Body) (faults : FaultBody) (levels total : ℕ) → FailsBody body spells faults levels total
    → (group n : ℕ) (key rest : List ℕ) (e : DecodeError)
    → length (key ++ rest) ≤ total → IsKey key n 3 → group_item_at body (total - length (key ++ rest)) n rest ≡ Err e
    → Broken spells faults levels group (total - length (key ++ rest)) (key ++ rest) e
group_fails body spells faults levels total fails group n key rest e within k h =
    let at = total - length (key ++ rest) in
    let some = λ (r : Rec). Some r in
    elim (bind_err (body n at rest) (λ inside. Ok (some (rec.Group n inside.0), inside.1)) e h) [
      | inl f ↦ group_fault spells faults levels total group n key rest e within k (fails.fails n at rest e (omega (arith, length-append key rest)) f)
      | inr r ↦ absurd cc
    ]

end_fails : (spells : Body) (faults : FaultBody) (levels group at n : ℕ) (key rest : List ℕ) (e : DecodeError) → IsKey key n 4
    → end_item_at group at n rest ≡ Err e → Broken spells faults levels group at (key ++ rest) e
end_fails spells faults levels group at n key rest e k h =
    elim (chosen (n == group) (Ok (None, rest)) (Err (errors.EndGroup at)) (Err e) h) [
      | inl t ↦ absurd cc
      | inr t ↦ broken_other_end spells faults levels group at (key ++ rest) e (sym (err_is _ e t.1)) (n, rest, (key, k, refl), eqb-false n group t.0)
    ]

value_fault : (spells : Body) (faults : FaultBody) (levels group at n wire_type : ℕ) (key rest : List ℕ) (e : DecodeError) → IsKey key n wire_type
    → ValueFault at wire_type rest e → Broken spells faults levels group at (key ++ rest) e
value_fault spells faults levels group at n wire_type key rest e k (inl (told, of, long)) =
    broken_varint spells faults levels group at (key ++ rest) e told (inr (n, wire_type, rest, (key, k, refl), of, long))
value_fault spells faults levels group at n wire_type key rest e k (inr (inl (told, ends))) =
    broken_end spells faults levels group at (key ++ rest) e told (inr (inl (n, wire_type, rest, (key, k, refl), ends)))
value_fault spells faults levels group at n wire_type key rest e k (inr (inr (told, of))) =
    broken_type spells faults levels group at (key ++ rest) e told (n, wire_type, rest, (key, k, refl), of)

keyed_fails : (body : Bodies) (spells : Body) (faults : FaultBody) (levels total : ℕ) → FailsBody body spells faults levels total
    → (group n wire_type : ℕ) (key rest : List ℕ) (e : DecodeError)
    → length (key ++ rest) ≤ total → wire_type < 8 → IsKey key n wire_type → keyed_at body group (total - length (key ++ rest)) n wire_type rest ≡ Err e
    → Broken spells faults levels group (total - length (key ++ rest)) (key ++ rest) e
unfolding keyed_at
keyed_fails body spells faults levels total fails group n wire_type key rest e within small k h =
    let at = total - length (key ++ rest) in
    let ending = end_item_at group at n rest in
    let plain = plain_item_at at n wire_type rest in
    let some = λ (r : Rec). Some r in
    elim (chosen (wire_type == 3) (group_item_at body at n rest) (if wire_type == 4 then ending else plain) (Err e) h) [
      | inl t ↦ group_fails body spells faults levels total fails group n key rest e within (of_kind key n wire_type 3 k t.0) t.1
      | inr three ↦ elim (chosen (wire_type == 4) ending plain (Err e) three.1) [
        | inl t ↦ end_fails spells faults levels group at n key rest e (of_kind key n wire_type 4 k t.0) t.1
        | inr four ↦ elim (bind_err (value_at at n wire_type rest) (λ r. Ok (some r.0, r.1)) e four.1) [
          | inl f ↦ value_fault spells faults levels group at n wire_type key rest e k
              (value_fails at n wire_type rest e small (eqb-false wire_type 3 three.0) (eqb-false wire_type 4 four.0) f)
          | inr r ↦ absurd cc
        ]
      ]
    ]

key_fault : (spells : Body) (faults : FaultBody) (levels group at : ℕ) (bytes : List ℕ) (e : DecodeError) → bytes ≢ [] → KeyFault at bytes e
    → Broken spells faults levels group at bytes e
key_fault spells faults levels group at bytes e some (inl (inl (told, on, short))) =
    broken_end spells faults levels group at bytes e told (inl (some, (on, omega arith)))
key_fault spells faults levels group at bytes e some (inl (inr (told, l))) =
    broken_varint spells faults levels group at bytes e told (inl (long_varint bytes l))
key_fault spells faults levels group at bytes e some (inr (told, bad)) = broken_key spells faults levels group at bytes e told bad

next_fails : (body : Bodies) (spells : Body) (faults : FaultBody) (levels total : ℕ) → FailsBody body spells faults levels total
    → (group : ℕ) (bytes : List ℕ) (e : DecodeError)
    → length bytes ≤ total → bytes ≢ [] → next_item_at body group (total - length bytes) bytes ≡ Err e
    → Broken spells faults levels group (total - length bytes) bytes e
next_fails body spells faults levels total fails group bytes e within some h =
    let at = total - length bytes in
    elim (bind_err (key_at at bytes) (λ key. keyed_at body group at (key.0 / 8) (key.0 % 8) key.1) e h) [
      | inl f ↦ key_fault spells faults levels group at bytes e some (key_fails at bytes e f)
      | inr r ↦
          let t = key_takes at bytes r.0.0 r.0.1 r.1 in
          let small : r.0.0 % 8 < 8 = omega arith in
          let after = λ (b : List ℕ). length b ≤ total → keyed_at body group (total - length b) (r.0.0 / 8) (r.0.0 % 8) r.0.1 ≡ Err e → Broken spells faults
          levels group (total - length b) b e in
          subst after (sym t.parts) (λ within f. keyed_fails body spells faults levels total fails group (r.0.0 / 8) (r.0.0 % 8) t.text r.0.1 e within small
          (key_of t.text r.0.0 _ _ t.holds refl refl) f) within r.2
    ]

-- why no item is read: nothing is left in a group, or the record at the front breaks a rule
abbrev pub ItemFault : Body → FaultBody → ℕ → ℕ → ℕ → ℕ → List ℕ → DecodeError → Type 0
ItemFault spells faults levels total group from bytes e =
    ((bytes ≡ []) × (group ≢ 0) × (e ≡ errors.Underflow from)) ⊎ Broken spells faults levels group (total - length bytes) bytes e

pub item_fails : (body : Bodies) (spells : Body) (faults : FaultBody) (levels total : ℕ) → FailsBody body spells faults levels total
    → (group from : ℕ) (bytes : List ℕ) (e : DecodeError)
    → length bytes ≤ total → item_at body total group from bytes ≡ Err e → ItemFault spells faults levels total group from bytes e
unfolding item_at
item_fails body spells faults levels total fails group from bytes e within h =
    elim (chosen (length bytes == 0) (last_item_at group from bytes) (next_item_at body group (total - length bytes) bytes) (Err e) h) [
      | inl t ↦ elim (chosen (group == 0) (Ok (None, bytes)) (Err (errors.Underflow from)) (Err e) t.1) [
        | inl g ↦ absurd cc
        | inr g ↦ inl (nil_from_length bytes (eqb-true _ 0 t.0), eqb-false group 0 g.0, sym (err_is _ e g.1))
      ]
      | inr t ↦ inr (next_fails body spells faults levels total fails group bytes e within (λ n. eqb-false (length bytes) 0 t.0 (ap length n)) t.1)
    ]

-- why no records are read: one breaks a rule, or nothing is left in a group
abbrev pub ItemsFault : Body → FaultBody → ℕ → ℕ → ℕ → ℕ → List ℕ → DecodeError → Type 0
ItemsFault spells faults levels total group from bytes e =
    ((inner : DecodeError) × FaultsLayer spells faults levels group bytes inner × (e ≡ shifted (total - length bytes) inner))
    ⊎ ((rs : List Rec) × SpellsAll spells bytes rs × (group ≢ 0) × (e ≡ errors.Underflow from))

first_fault : (spells : Body) (faults : FaultBody) (levels total group from : ℕ) (bytes : List ℕ) (e : DecodeError)
    → ItemFault spells faults levels total group from bytes e → ItemsFault spells faults levels total group from bytes e
first_fault spells faults levels total group from bytes e (inl (none, open_, told)) = inr ([], none, open_, told)
first_fault spells faults levels total group from bytes e (inr b) = inl (b.own, ([], [], bytes, b.own, refl, b.breaks, refl, sym (shifted_zero b.own)), b.told)

later_fault : (spells : Body) (faults : FaultBody) (levels total group from : ℕ) (r : Rec) (text after : List ℕ) (e : DecodeError)
    → length (text ++ after) ≤ total → SpellsLayer spells text (out-Rec r)
    → ItemsFault spells faults levels total group from after e → ItemsFault spells faults levels total group from (text ++ after) e
later_fault spells faults levels total group from r text after e within s (inl (inner, (before, rs, rest, own, all, breaks, parts, is), told)) =
    inl (
      shifted (length text) inner,
      (
        text ++ before,
        r ∷ rs,
        rest,
        own,
        (text, before, s, all, refl),
        breaks,
        ap (λ t. text ++ t) parts ∙ sym (append_assoc text before rest),
        rw (is, length-append text before) (shifted_more (length text) (length before) own),
      ),
      told ∙ behind_key total text after inner within,
    )
later_fault spells faults levels total group from r text after e within s (inr (rs, all, open_, told)) = inr (r ∷ rs, (text, after, s, all, refl), open_, told)

-- an item was read, and of all that follow one is not
after_item : (body : Bodies) (spells : Body) (faults : FaultBody) (levels total : ℕ) → FailsBody body spells faults levels total
    → (group from turns : ℕ) (o : Option Rec) (bytes after : List ℕ) (e : DecodeError)
    → (length after < length bytes → items_at (item_at body total group from) turns after ≡ Err e → ItemsFault spells faults levels total group from after e)
    → length bytes ≤ total → item_at body total group from bytes ≡ Ok (o, after) → then_more (items_at (item_at body total group from) turns) o after ≡ Err e
    → ItemsFault spells faults levels total group from bytes e
after_item body spells faults levels total fails group from turns None bytes after e later within read h = absurd cc
after_item body spells faults levels total fails group from turns (Some r) bytes after e later within read h =
    let t = item_takes body spells fails.takes total group from bytes (Some r) after read in
    let has = layer_has spells t.text (out-Rec r) t.holds in
    let whole = ap length t.parts in
    let parts = length-append t.text after in
    elim (bind_err (items_at (item_at body total group from) turns after) (λ rs. Ok (r ∷ rs.0, rs.1)) e h) [
      | inl f ↦ rw t.parts (later_fault spells faults levels total group from r t.text after e (omega (arith, whole)) t.holds
          (later (omega (arith, has, whole, parts)) f))
      | inr q ↦ absurd cc
    ]

items_fail : (body : Bodies) (spells : Body) (faults : FaultBody) (levels total : ℕ) → FailsBody body spells faults levels total
    → (group from turns : ℕ) (bytes : List ℕ) (e : DecodeError)
    → length bytes < turns → length bytes ≤ total → items_at (item_at body total group from) turns bytes ≡ Err e
    → ItemsFault spells faults levels total group from bytes e
unfolding items_at
items_fail body spells faults levels total fails group from zero bytes e enough within h = absurd (omega arith)
items_fail body spells faults levels total fails group from (suc turns) bytes e enough within h =
    elim (bind_err (item_at body total group from bytes) (λ i. then_more (items_at (item_at body total group from) turns) i.0 i.1) e h) [
      | inl f ↦ first_fault spells faults levels total group from bytes e (item_fails body spells faults levels total fails group from bytes e within f)
      | inr r ↦
          after_item body spells faults levels total fails group from turns r.0.0 bytes r.0.1 e
          (λ shorter f. items_fail body spells faults levels total fails group from turns r.0.1 e (omega arith) (omega arith) f) within r.1 r.2
    ]

pub body_fails : (total levels : ℕ) → FailsBody (body_at total levels) (SpellsBelow levels) (FaultsBelow levels) levels total
unfolding body_at SpellsBelow FaultsBelow
body_fails total zero = record { takes = body_takes total zero; fails = λ group from bytes e within h. inr (inl (sym (err_is _ e h), refl)) }
body_fails total (suc levels) = record {
  takes = body_takes total (suc levels);
  fails = λ group from bytes e within h.
      elim (items_fail (body_at total levels) (SpellsBelow levels) (FaultsBelow levels) levels total (body_fails total levels) group from (suc (length bytes))
      bytes e (omega arith) within h) [
        | inl f ↦ inl f
        | inr f ↦ inr (inr f)
      ];
}

top_fault : (levels : ℕ) (bytes : List ℕ) (e : DecodeError)
    → BodyFault (SpellsBelow (suc levels)) (FaultsBelow (suc levels)) (suc levels) (length bytes) 0 0 bytes e → IsFault levels bytes e
top_fault levels bytes e (inl (inner, f, told)) =
    let front : length bytes - length bytes ≡ 0 = omega arith in
    let same : e ≡ inner = told ∙ rw front (shifted_zero inner) in
    rw same f
top_fault levels bytes e (inr (inl (told, none))) = absurd (omega (arith, none))
top_fault levels bytes e (inr (inr (rs, s, open_, told))) = absurd (open_ refl)

-- where reading all fails, the bytes break the rule that it names
pub all_fails : (levels : ℕ) (bytes : List ℕ) (e : DecodeError) → all_at levels bytes ≡ Err e → IsFault levels bytes e
all_fails levels bytes e h =
    elim (bind_err (body_at (length bytes) (suc levels) 0 0 bytes) (λ x. Ok x.0) e h) [
      | inl f ↦ top_fault levels bytes e ((body_fails (length bytes) (suc levels)).fails 0 0 bytes e (omega arith) f)
      | inr r ↦ absurd cc
    ]

-- what a call that gives the reading says of the fault
pub fault_of : (levels : ℕ) (bytes : List ℕ) (result : Result (List Rec) DecodeError) → Gives (λ recs. recs) result (all_at levels bytes)
    → IfErr result (λ e. (e ≡ errors.NoMemory) ⊎ IsFault levels bytes e)
fault_of levels bytes (Ok rs) h = tt
fault_of levels bytes (Err (errors.Varint at)) h = inr (all_fails levels bytes _ h)
fault_of levels bytes (Err (errors.Key at)) h = inr (all_fails levels bytes _ h)
fault_of levels bytes (Err (errors.WireType at)) h = inr (all_fails levels bytes _ h)
fault_of levels bytes (Err (errors.Underflow at)) h = inr (all_fails levels bytes _ h)
fault_of levels bytes (Err (errors.Utf8 at)) h = inr (all_fails levels bytes _ h)
fault_of levels bytes (Err (errors.EndGroup at)) h = inr (all_fails levels bytes _ h)
fault_of levels bytes (Err (errors.TooDeep at)) h = inr (all_fails levels bytes _ h)
fault_of levels bytes (Err errors.NoMemory) h = inl refl
