-- The laws of a cutter of records, and what they stand on: any bytes are whole records and a rest that ends them in one of five ways.
-- States: the laws that `Cutter` has of `RecordCutter`, whose terms stand here since an impl cites them.
use Rattle.std.proofs.Common.{◌≡◌, ◌≢◌, ◌⊎◌, inl, inr, ℕ, zero, suc, ◌+◌, ◌-◌, ◌≤◌, ◌<◌, List, [], ◌∷◌, ◌++◌, length, take, drop, map}
use Rattle.std.proofs.Common.{Result, Ok, Err, refl, sym, ap, ◌∙◌, arith, subst, append_assoc, append-nil, length-append}
use Rattle.std.proofs.Math.Seq.{take-append-add}
use Rattle.std.proofs.lemmas.Bool.{cases_lt, eq-eqb, ne_eqb}
use Rattle.std.proofs.lemmas.Grind.{flat_map-append}
use Rattle.std.proofs.lemmas.List.{map-append, take-append-drop, length-take}
use Rattle.pbx_wire.specs.declared.error.DecodeError.{DecodeError}
use Rattle.pbx_wire.specs.Reading.{varint_at}
use Rattle.pbx_wire.specs.Spelling.{IsVarint}
use Rattle.pbx_wire.specs.Faults.{EndsInVarint, IsLongVarint}
use Rattle.pbx_wire.proofs.Laws.{varint_takes, spelled_so, chain_has}
use Rattle.pbx_wire.proofs.Failing.{varint_fails}
use Rattle.protox_lines_items.specs.Items.{longest, most, stream, End, Ended, Malformed, Oversized, CutOff, More}
use Rattle.protox_lines_items.specs.Items.{AreRecords, records_text, HasLength, IsOpen, EndsAs, AreItems}
use Rattle.protox_lines_items.specs.Cutting.{BeginsWith}
use Rattle.protox_lines_items.specs.Records.{RecordState, open_bytes, IsUnfinished, RecordStands}

-- ---- the length at the front of bytes

-- what reading a length gives
abbrev pub Reading : Type 0
Reading = Result (ℕ × List ℕ) DecodeError

-- a length at the front of bytes, and those behind it
abbrev pub length_at : List ℕ → Reading
length_at bytes = varint_at 0 9 bytes

pub has_length : (bytes behind : List ℕ) (n : ℕ) → length_at bytes ≡ Ok (n, behind) → HasLength bytes n behind
has_length bytes behind n e =
    let t = varint_takes 0 9 bytes n behind e in
    record { spelled = t.text; is_length = spelled_so t.text n n t.holds refl; is = t.parts }

-- why no length is read
pub has_none : (bytes : List ℕ) (e : DecodeError) → length_at bytes ≡ Err e → EndsInVarint bytes ⊎ IsLongVarint bytes
has_none bytes e h = elim (varint_fails 0 9 bytes e h) [
  | inl (told, on, short) ↦ inl (on, omega arith)
  | inr (told, l) ↦ inr (l.front, l.tenth, l.rest, l.goes_on, l.nine, l.large, l.parts)
]

-- each way that bytes may begin
pub data Front (bytes : List ℕ) : Type 0 where
  Spelled : (n : ℕ) (behind : List ℕ) → HasLength bytes n behind → Front bytes
  Ends : EndsInVarint bytes → Front bytes
  Long : IsLongVarint bytes → Front bytes

pub front_of : (bytes : List ℕ) → Front bytes
front_of bytes = at (length_at bytes) refl
  where
    none : EndsInVarint bytes ⊎ IsLongVarint bytes → Front bytes
    none (inl h) = Ends h
    none (inr h) = Long h

    at : (r : Reading) → length_at bytes ≡ r → Front bytes
    at (Ok x) e = Spelled x.0 x.1 (has_length bytes x.1 x.0 e)
    at (Err f) e = none (has_none bytes f e)

-- a record, its spelled length before its bytes
abbrev pub Framed : Type 0
Framed = List ℕ × List ℕ

-- the bytes of each
abbrev pub payloads : List Framed → List (List ℕ)
payloads rs = map (λ (r : Framed). r.1) rs

-- ---- records behind records

pub are_records-append : (rs ts : List Framed) → AreRecords rs → AreRecords ts → AreRecords (rs ++ ts)
are_records-append [] ts a b = b
are_records-append (r ∷ rs) ts (is, short, a) b = (is, short, are_records-append rs ts a b)

pub records_text-append : (rs ts : List Framed) → records_text (rs ++ ts) ≡ records_text rs ++ records_text ts
records_text-append rs ts = flat_map-append (λ (r : Framed). r.0 ++ r.1) rs ts

-- ---- any bytes are records and a rest

-- a length stands at the front that is above the most bytes of a record
abbrev pub IsOversized : List ℕ → Type 0
IsOversized rest = (n : ℕ) × (behind : List ℕ) × HasLength rest n behind × (longest < n)

-- no whole record stands at the front, and the bytes end here or a length is at fault
abbrev pub IsRest : List ℕ → Type 0
IsRest rest = IsOpen rest ⊎ (IsLongVarint rest ⊎ IsOversized rest)

-- whole records, and such a rest behind them
pub record Splits (bytes : List ℕ) : Type 0 where
  pub records : List Framed
  pub rest : List ℕ
  pub are : AreRecords records
  pub is : bytes ≡ records_text records ++ rest
  pub rests : IsRest rest

-- a spelled length stands at the front, and as many bytes behind it
pub record HasRecord (bytes : List ℕ) : Type 0 where
  pub spelled : List ℕ
  pub item : List ℕ
  pub behind : List ℕ
  pub is_length : IsVarint spelled (length item)
  pub short : length item ≤ longest
  pub is : bytes ≡ spelled ++ item ++ behind
  pub fewer : length behind < length bytes

whole_record : (bytes behind : List ℕ) (n : ℕ) → HasLength bytes n behind → n ≤ longest → n ≤ length behind → HasRecord bytes
whole_record bytes behind n h short enough =
    let len : length (take n behind) ≡ n = omega (arith, length-take n behind) in
    let parts : bytes ≡ h.spelled ++ take n behind ++ drop n behind =
    h.is ∙ ap (λ t. h.spelled ++ t) (sym (take-append-drop n behind)) ∙ sym (append_assoc h.spelled (take n behind) (drop n behind)) in
    record {
      spelled = h.spelled;
      item = take n behind;
      behind = drop n behind;
      is_length = rw len h.is_length;
      short = rw len short;
      is = parts;
      fewer = omega (
        arith,
        chain_has h.spelled h.is_length.chain,
        ap length parts,
        length-append (h.spelled ++ take n behind) (drop n behind),
        length-append h.spelled (take n behind),
      );
    }

next_record : (bytes : List ℕ) → HasRecord bytes ⊎ IsRest bytes
next_record bytes = at (front_of bytes)
  where
    enough : (n : ℕ) (behind : List ℕ) → HasLength bytes n behind → n ≤ longest → (length behind < n) ⊎ (n ≤ length behind) → HasRecord bytes ⊎ IsRest bytes
    enough n behind h short (inl e) = inr (inl (inr (n, behind, h, short, e)))
    enough n behind h short (inr e) = inl (whole_record bytes behind n h short e)

    short_or : (n : ℕ) (behind : List ℕ) → HasLength bytes n behind → (longest < n) ⊎ (n ≤ longest) → HasRecord bytes ⊎ IsRest bytes
    short_or n behind h (inl e) = inr (inr (inr (n, behind, h, e)))
    short_or n behind h (inr e) = enough n behind h e (cases_lt (length behind) n)

    at : Front bytes → HasRecord bytes ⊎ IsRest bytes
    at (Spelled n behind h) = short_or n behind h (cases_lt longest n)
    at (Ends h) = inr (inl (inl h))
    at (Long h) = inr (inr (inl h))

split_behind : (bytes : List ℕ) (r : HasRecord bytes) → Splits r.behind → Splits bytes
split_behind bytes r s = record {
  records = (r.spelled, r.item) ∷ s.records;
  rest = s.rest;
  are = (r.is_length, r.short, s.are);
  is = r.is ∙ ap (λ t. r.spelled ++ r.item ++ t) s.is ∙ sym (append_assoc (r.spelled ++ r.item) (records_text s.records) s.rest);
  rests = s.rests;
}

split_within : (turns : ℕ) (bytes : List ℕ) → length bytes < turns → Splits bytes
split_within zero bytes h = absurd (omega arith)
split_within (suc turns) bytes h = elim (next_record bytes) [
  | inl r ↦ let fewer = r.fewer in split_behind bytes r (split_within turns r.behind (omega arith))
  | inr rests ↦ record { records = []; rest = bytes; are = tt; is = refl; rests = rests }
]

pub split : (bytes : List ℕ) → Splits bytes
split bytes = split_within (suc (length bytes)) bytes (omega arith)

-- ---- bytes have a stream

no_bytes : (bytes : List ℕ) → (bytes ≡ []) ⊎ (bytes ≢ [])
no_bytes [] = inl refl
no_bytes (b ∷ bs) = inr (λ e. cc)

-- how such a rest ends the stream of bytes
pub ends_as : (bytes rest : List ℕ) → IsRest rest → (e : End) × EndsAs bytes rest e
ends_as bytes rest (inr (inl h)) = (Malformed, h)
ends_as bytes rest (inr (inr h)) = (Oversized, h)
ends_as bytes rest (inl h) = within (cases_lt most (length bytes)) (no_bytes rest)
  where
    within : (most < length bytes) ⊎ (length bytes ≤ most) → (rest ≡ []) ⊎ (rest ≢ []) → (e : End) × EndsAs bytes rest e
    within (inl m) z = (More, (m, h))
    within (inr m) (inl z) = (Ended, (m, z))
    within (inr m) (inr z) = (CutOff, (m, z, h))

-- the first bytes, of which there are at most the most, and those of the others that count
pub most_of : (read more : List ℕ) → length read ≤ most → take most (read ++ more) ≡ read ++ take (most - length read) more
most_of read more h =
    let m : most ≡ length read + (most - length read) = omega arith in
    ap (λ n. take n (read ++ more)) m ∙ take-append-add read more (most - length read)

-- whole records are the first of the stream, whatever follows
pub records_begin : (records : List Framed) (rest read more : List ℕ) (items : List (List ℕ)) → AreRecords records → read ≡ records_text records ++ rest
    → items ≡ payloads records → length read ≤ most → BeginsWith AreItems (read ++ more) items
records_begin records rest read more items are is items_are h =
    let s = split (rest ++ take (most - length read) more) in
    let e = ends_as (read ++ more) s.rest s.rests in (
      stream (payloads (records ++ s.records)) e.0,
      record {
        records = records ++ s.records;
        rest = s.rest;
        are = are_records-append records s.records are s.are;
        is = most_of read more h ∙ ap (λ t. t ++ take (most - length read) more) is ∙ append_assoc (records_text records) rest (take (most - length read) more)
            ∙ ap (λ t. records_text records ++ t) s.is ∙ sym (append_assoc (records_text records) (records_text s.records) s.rest)
            ∙ ap (λ t. t ++ s.rest) (sym (records_text-append records s.records));
        items = refl;
        ends = e.1;
      },
      (payloads s.records, map-append (λ (r : Framed). r.1) records s.records ∙ ap (λ t. t ++ payloads s.records) (sym items_are)),
    )

-- where records end in the first bytes, that is the stream
pub records_end : (records : List Framed) (rest read more : List ℕ) (items : List (List ℕ)) (end : End) → AreRecords records
    → read ≡ records_text records ++ rest → items ≡ payloads records → length read ≤ most → EndsAs (read ++ more) (rest ++ take (most - length read) more) end
    → AreItems (read ++ more) (stream items end)
records_end records rest read more items end are is items_are h ends = record {
  records = records;
  rest = rest ++ take (most - length read) more;
  are = are;
  is = most_of read more h ∙ ap (λ t. t ++ take (most - length read) more) is ∙ append_assoc (records_text records) rest (take (most - length read) more);
  items = items_are;
  ends = ends;
}

-- ---- what is open

pub open_prefix : (c : RecordState) → c.left ≡ 0 → open_bytes c ≡ c.prefix
open_prefix c e = rw (eq-eqb c.left 0 e) refl

pub open_record : (c : RecordState) → 0 < c.left → open_bytes c ≡ c.prefix ++ c.item
open_record c h = rw (ne_eqb c.left 0 (omega arith)) refl

pub is_open : (c : RecordState) → IsUnfinished c → IsOpen (open_bytes c)
is_open c (inl (e, h)) = subst IsOpen (sym (open_prefix c e)) (inl h)
is_open c (inr (some, b)) =
    subst IsOpen (sym (open_record c some))
    (inr (length c.item + c.left, c.item, record { spelled = c.prefix; is_length = b.is_length; is = refl }, b.short, omega arith))

-- ---- the laws of a cutter

pub stands_begin : (c : RecordState) (read more : List ℕ) (items : List (List ℕ)) → RecordStands c read items → length read ≤ most
    → BeginsWith AreItems (read ++ more) items
stands_begin c read more items s h = records_begin s.records (open_bytes c) read more items s.are s.is s.items_are h

longer : (read more : List ℕ) → more ≢ [] → length read < length (read ++ more)
longer read [] some = absurd (some refl)
longer read (b ∷ more) some = omega (arith, length-append read (b ∷ more))

none_taken : (read more : List ℕ) → length read ≡ most → take (most - length read) more ≡ []
none_taken read more e =
    let none : most - length read ≡ 0 = omega arith in
    rw none refl

pub stands_past : (c : RecordState) (read more : List ℕ) (items : List (List ℕ)) → RecordStands c read items → length read ≡ most → more ≢ []
    → AreItems (read ++ more) (stream items More)
stands_past c read more items s e some =
    let long = longer read more some in
    let opened : IsOpen (open_bytes c ++ take (most - length read) more) = rw (none_taken read more e, append-nil) (is_open c s.unfinished) in
    records_end s.records (open_bytes c) read more items More s.are s.is s.items_are (omega arith) (omega arith, opened)
