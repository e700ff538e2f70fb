-- A record whose payload is too long for a length of 64 bits is not read: the varint of its length breaks a rule.
use Rattle.std.proofs.Common.{◌≡◌, ◌⊎◌, ℕ, zero, suc, ◌+◌, ◌*◌, ◌/◌, ◌%◌, ◌^◌, ◌<◌, ◌≤◌, true, nat_lt, List, [], ◌∷◌, ◌++◌, length, Some, inl, inr, refl, sym, ap, ◌∙◌, subst, arith}
use Rattle.std.proofs.Common.{append_assoc, rules}
use Rattle.std.proofs.Math.Nat.{pow-suc, one-le-pow}
use Rattle.std.proofs.lemmas.Bool.{lt-ltb, le-ltb, ltb-true, cases_lt}
use Rattle.std.specs.List.{AllByRecursion}
use Rattle.pbx_wire.specs.declared.error.DecodeError.TheVariants as errors
use Rattle.pbx_wire.specs.declared.rec.Rec.{Rec, Varint, Fixed64, Bytes, Group', Fixed32, the_lemmas as rec_lemmas}
use Rattle.pbx_wire.specs.declared.rec.Rec.TheVariants as rec
use Rattle.pbx_wire.specs.declared.rec.Rec.TheVariants.{outs-Bytes}
use Rattle.pbx_wire.specs.Varint.{varint, varint_within}
use Rattle.pbx_wire.specs.Spelling.{IsKey, SpellsBelow}
use Rattle.pbx_wire.specs.Faults.{GoesOn, IsLongVarint, HasLongVarint, FaultsBelow, IsFault}
use Rattle.pbx_wire.specs.Text.{text_of, is_record_number, is_numbered, are_numbered, is_fit, are_fit, depth_of}
use Rattle.pbx_wire.proofs.Varints.{within_suc}
use Rattle.pbx_wire.proofs.Written.{both, varint_spelled, written_spelled}
use Rattle.pbx_wire.proofs.Texts.{text_of-append, bytes_text}
use Rattle.pbx_wire.proofs.Breaking.{are_spelled, not_both}
use Rattle.pbx_content.specs.Records.{records_in}
use Rattle.pbx_json_payload_laws.proofs.Shrinks.{IsPayloadBelow, ArePayloadsBelow}

-- ---- a number of more than 64 bits

-- The last byte of its varint is above 1.
record IsLong (k : ℕ) (bytes : List ℕ) : Type 0 where
  front : List ℕ
  last : ℕ
  goes_on : GoesOn front
  counted : length front ≡ k
  high : 1 < last
  is : bytes ≡ front ++ (last ∷ [])

within_long : (k n : ℕ) → 2 * 128 ^ k ≤ n → IsLong k (varint_within (suc k) n)
unfolding varint_within
within_long zero n h = elim (cases_lt n 128) [
  | inl lt ↦ rw (within_suc zero n, lt-ltb n 128 lt) (record { front = []; last = n; goes_on = tt; counted = refl; high = omega arith; is = refl })
  | inr ge ↦
      rw (within_suc zero n, le-ltb n 128 ge)
      (record { front = []; last = n % 128 + 128; goes_on = tt; counted = refl; high = omega arith; is = refl })
]
within_long (suc k) n h =
    let one : 1 ≤ 128 ^ k = one-le-pow k 128 (omega arith) in
    let ge : 128 ≤ n = omega (arith, h, one, pow-suc 128 k) in
    let rest = within_long k (n / 128) (omega (arith, h, pow-suc 128 k)) in
    rw (within_suc (suc k) n, le-ltb n 128 ge)
    (record {
      front = (n % 128 + 128) ∷ rest.front;
      last = rest.last;
      goes_on = (omega arith, rest.goes_on);
      counted = omega (arith, rest.counted);
      high = rest.high;
      is = ap (λ bs. (n % 128 + 128) ∷ bs) rest.is;
    })

long_varint : (n : ℕ) (rest : List ℕ) → 2 ^ 64 ≤ n → IsLongVarint (varint n ++ rest)
long_varint n rest h =
    let is = within_long 9 n (omega (arith, h)) in
    (is.front, is.last, rest, is.goes_on, is.counted, is.high, ap (λ bs. bs ++ rest) is.is ∙ append_assoc is.front (is.last ∷ []) rest)

-- ---- a record whose payload is too long

key_spelled : (n : ℕ) → is_record_number n ≡ true → IsKey (varint (n * 8 + 2)) n 2
key_spelled n h =
    let parts = both (nat_lt 0 n) (nat_lt n 536870912) h in
    let positive : 0 < n = ltb-true 0 n parts.0 in
    let small : n < 536870912 = ltb-true n 536870912 parts.1 in
    record { varint = varint_spelled (n * 8 + 2) (omega arith); fits = omega arith; positive = positive }

long_breaks : (n : ℕ) (b : List ℕ) (rs : List Rec) → is_record_number n ≡ true → 2 ^ 64 ≤ length b → HasLongVarint (text_of (rec.Bytes n b ∷ rs))
long_breaks n b rs h long =
    let rest = varint (length b) ++ (b ++ text_of rs) in
    let is : text_of (rec.Bytes n b ∷ rs) ≡ varint (n * 8 + 2) ++ rest =
    ap (λ t. t ++ text_of rs) (bytes_text n b) ∙ append_assoc (varint (n * 8 + 2) ++ varint (length b)) b (text_of rs)
    ∙ append_assoc (varint (n * 8 + 2)) (varint (length b)) (b ++ text_of rs) in
    inr (n, 2, rest, (varint (n * 8 + 2), key_spelled n h, is), inr refl, long_varint (length b) (b ++ text_of rs) long)

-- ---- records that are fit but for the lengths of payloads

-- its payload is too long
abbrev pub IsTooLong : Rec → Type 0
IsTooLong r = (n : ℕ) × (b : List ℕ) × (r ≡ rec.Bytes n b) × (2 ^ 64 ≤ length b)

abbrev pub IsFitOrLong : Rec → Type 0
IsFitOrLong r = (is_fit r ≡ true) ⊎ IsTooLong r

-- records that are fit, and one behind them whose payload is too long
record Splits (rs : List Rec) : Type 0 where
  front : List Rec
  number : ℕ
  payload : List ℕ
  rest : List Rec
  parts : rs ≡ front ++ (rec.Bytes number payload ∷ rest)
  fit : are_fit front ≡ true
  long : 2 ^ 64 ≤ length payload

fit_or_splits : (rs : List Rec) → AllByRecursion IsFitOrLong rs → (are_fit rs ≡ true) ⊎ Splits rs
fit_or_splits [] h = inl refl
fit_or_splits (r ∷ rs) h = at h.0 (fit_or_splits rs h.1)
  where
    at : IsFitOrLong r → (are_fit rs ≡ true) ⊎ Splits rs → (are_fit (r ∷ rs) ≡ true) ⊎ Splits (r ∷ rs)
    at (inr l) s = inr (record { front = []; number = l.0; payload = l.1; rest = rs; parts = ap (λ (x : Rec). x ∷ rs) l.2; fit = refl; long = l.3 })
    at (inl f) (inl fs) = inl (rw (f, fs) refl)
    at (inl f) (inr s) = inr (record {
      front = r ∷ s.front;
      number = s.number;
      payload = s.payload;
      rest = s.rest;
      parts = ap (λ xs. r ∷ xs) s.parts;
      fit = rw (f, s.fit) refl;
      long = s.long;
    })

numbered_parts : (xs ys : List Rec) → are_numbered (xs ++ ys) ≡ true → (are_numbered xs ≡ true) × (are_numbered ys ≡ true)
numbered_parts [] ys h = (refl, h)
numbered_parts (x ∷ xs) ys h =
    let parts = both (is_numbered x) (are_numbered (xs ++ ys)) h in
    let rest = numbered_parts xs ys parts.1 in
    (rw (parts.0, rest.0) refl, rest.1)

depth_front : (xs ys : List Rec) → depth_of xs ≤ depth_of (xs ++ ys)
depth_front [] ys = omega arith
depth_front (x ∷ xs) ys = let rest = depth_front xs ys in omega (arith, rest)

bytes_numbered : (n : ℕ) (b : List ℕ) → is_numbered (rec.Bytes n b) ≡ is_record_number n
bytes_numbered n b = search (rules, rec_lemmas)

split_breaks : (levels : ℕ) (rs : List Rec) → are_numbered rs ≡ true → depth_of rs ≤ levels → Splits rs
    → (at : ℕ) × IsFault levels (text_of rs) (errors.Varint at)
unfolding SpellsBelow FaultsBelow
split_breaks levels rs h d s =
    let tail = rec.Bytes s.number s.payload ∷ s.rest in
    let numbered = numbered_parts s.front tail (subst (λ xs. are_numbered xs ≡ true) s.parts h) in
    let own = both (is_numbered (rec.Bytes s.number s.payload)) (are_numbered s.rest) numbered.1 in
    let deep : depth_of (s.front ++ tail) ≤ levels = subst (λ xs. depth_of xs ≤ levels) s.parts d in
    let before = written_spelled levels s.front numbered.0 s.fit (omega (arith, deep, depth_front s.front tail)) in
    let breaks = long_breaks s.number s.payload s.rest (sym (bytes_numbered s.number s.payload) ∙ own.0) s.long in
    let parts : text_of rs ≡ text_of s.front ++ text_of tail = ap text_of s.parts ∙ text_of-append s.front tail in
    (length (text_of s.front) + 0, (text_of s.front, s.front, text_of tail, errors.Varint 0, before, inl (refl, breaks), parts, refl))

-- Records that are read are fit, if they are but for the lengths of payloads.
pub fit_if_read : (levels : ℕ) (rs ss : List Rec) → are_numbered rs ≡ true → AllByRecursion IsFitOrLong rs → depth_of rs ≤ levels
    → records_in levels (text_of rs) ≡ Some ss → are_fit rs ≡ true
fit_if_read levels rs ss h f d e =
    elim (fit_or_splits rs f) [
      | inl fit ↦ fit
      | inr s ↦
          let fault = split_breaks levels rs h d s in
          absurd (not_both levels (text_of rs) ss (errors.Varint fault.0) ((are_spelled levels (text_of rs) ss).0 e) fault.1)
    ]

-- ---- payloads of records that are fit

bytes_fit : (n : ℕ) (b : List ℕ) → is_fit (rec.Bytes n b) ≡ nat_lt (length b) (2 ^ 64)
bytes_fit n b = search (rules, rec_lemmas)

-- The payload of a record that is fit has a length of 64 bits.
pub payload_fits : (r : Rec) → is_fit r ≡ true → IsPayloadBelow (2 ^ 64) r
payload_fits (Bytes n b) h c e =
    let is : b ≡ c = cc in
    let lt : length b < 2 ^ 64 = ltb-true (length b) (2 ^ 64) (sym (bytes_fit n b) ∙ h) in
    omega (arith, lt, ap length is)
payload_fits (Varint n v) h c e = absurd cc
payload_fits (Fixed64 n v) h c e = absurd cc
payload_fits (Group' n shape row) h c e = absurd cc
payload_fits (Fixed32 n v) h c e = absurd cc

pub payloads_fit : (rs : List Rec) → are_fit rs ≡ true → ArePayloadsBelow (2 ^ 64) rs
payloads_fit [] h = tt
payloads_fit (r ∷ rs) h = let parts = both (is_fit r) (are_fit rs) h in (payload_fits r parts.0, payloads_fit rs parts.1)

fit_below : (r : Rec) → IsFitOrLong r → IsPayloadBelow (2 ^ 64) r → is_fit r ≡ true
fit_below r (inl f) p = f
fit_below r (inr l) p = absurd (let short = p l.1 (rw l.2 refl) in omega (arith, short, l.3))

-- And records that are fit but for the lengths of payloads are fit if these have 64 bits.
pub fits_below : (rs : List Rec) → AllByRecursion IsFitOrLong rs → ArePayloadsBelow (2 ^ 64) rs → are_fit rs ≡ true
fits_below [] h p = refl
fits_below (r ∷ rs) h p = rw (fit_below r h.0 p.0, fits_below rs h.1 p.1) refl
