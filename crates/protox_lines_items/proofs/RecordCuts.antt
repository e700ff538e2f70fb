-- Bytes that come piece by piece, cut into records.
use Rattle.std.proofs.Common.{◌≡◌, ◌≢◌, ◌⊎◌, inl, inr, ℕ, ◌+◌, ◌-◌, ◌≤◌, ◌<◌, List, [], ◌∷◌, ◌++◌, length, take, drop, refl, sym, ap, ◌∙◌, arith, subst}
use Rattle.std.proofs.Common.{append_assoc, append-nil, length-append, Some, None, Result, Ok, Err, IfOk}
use Rattle.std.specs.Prelude.{Bool, true, false}
use Rattle.std.proofs.lemmas.List.{map-append, nil_from_length, take_all, take-append-drop, take-take, length-take}
use Rattle.std.proofs.Math.Seq.{take-add}
use Rattle.pbx_wire.specs.Spelling.{IsVarint, IsChain}
use Rattle.pbx_wire.specs.Faults.{GoesOn, EndsInVarint, IsLongVarint}
use Rattle.pbx_wire.proofs.Laws.{chain_has}
use Rattle.protox_lines_items.specs.Items.{longest, most, stream, End, Ended, Malformed, Oversized, CutOff, AreRecords, records_text, EndsAs, AreItems}
use Rattle.protox_lines_items.specs.Cutting.{with_item, IsCutFault}
use Rattle.protox_lines_items.specs.Records.{RecordState, open_bytes, IsBegun, IsUnfinished, RecordStands, IsPrefixFault, TakesPrefix, TakesRecord}
use Rattle.protox_lines_items.specs.declared.cutter.CutFault.{CutFault}
use Rattle.protox_lines_items.specs.declared.cutter.CutFault.TheVariants as faults
use Rattle.protox_lines_items.specs.declared.cutter.Taken.{Taken}
use Rattle.protox_lines_items.proofs.Lengths.{goes_on-append, chain-append, ten_are_long}
use Rattle.protox_lines_items.specs.RecordLaws.{Framed, payloads, IsOversized, are_records-append, records_text-append, records_end}
use Rattle.protox_lines_items.specs.RecordLaws.{open_prefix, open_record, is_open}

-- ---- where no more bytes follow

ends_all : (c : RecordState) (read : List ℕ) (items : List (List ℕ)) (end : End) → RecordStands c read items → length read ≤ most
    → EndsAs read (open_bytes c) end → AreItems read (stream items end)
ends_all c read items end s h ends =
    record { records = s.records; rest = open_bytes c; are = s.are; is = take_all most read h ∙ s.is; items = s.items_are; ends = ends }

pub ends_with_nothing : (c : RecordState) (read : List ℕ) (items : List (List ℕ)) → RecordStands c read items → length read ≤ most → c.left ≡ 0
    → length c.prefix ≡ 0 → AreItems read (stream items Ended)
ends_with_nothing c read items s h e none = ends_all c read items Ended s h (h, open_prefix c e ∙ nil_from_length c.prefix none)

has_bytes : (c : RecordState) → IsUnfinished c → (0 < c.left) ⊎ (0 < length c.prefix) → open_bytes c ≢ []
has_bytes c u some e = by_state u
  where
    by_state : IsUnfinished c → ⊥
    by_state (inl (z, h)) = absurd (some_prefix some (ap length (sym (open_prefix c z) ∙ e)))
      where
        some_prefix : (0 < c.left) ⊎ (0 < length c.prefix) → length c.prefix ≡ 0 → ⊥
        some_prefix (inl l) none = omega arith
        some_prefix (inr l) none = omega arith
    by_state (inr (l, b)) = omega (arith, chain_has c.prefix b.is_length.chain, ap length (sym (open_record c l) ∙ e), length-append c.prefix c.item)

pub ends_cut_off : (c : RecordState) (read : List ℕ) (items : List (List ℕ)) → RecordStands c read items → length read ≤ most
    → (0 < c.left) ⊎ (0 < length c.prefix) → AreItems read (stream items CutOff)
ends_cut_off c read items s h some = ends_all c read items CutOff s h (h, has_bytes c s.unfinished some, is_open c s.unfinished)

-- ---- bytes that are taken

-- the length takes all of them and goes on
pub stands_prefix : (old new : RecordState) (read bytes : List ℕ) (items : List (List ℕ)) → RecordStands old read items → old.left ≡ 0
    → TakesPrefix old new bytes None → RecordStands new (read ++ bytes) items
stands_prefix old new read bytes items s z (taken, h, left) =
    let same : new.left ≡ 0 = left ∙ z in
    record {
      records = s.records;
      are = s.are;
      is = ap (λ t. t ++ bytes) s.is ∙ append_assoc (records_text s.records) (open_bytes old) bytes
          ∙ ap (λ t. records_text s.records ++ t) (ap (λ t. t ++ bytes) (open_prefix old z) ∙ sym taken ∙ sym (open_prefix new same));
      items_are = s.items_are;
      unfinished = inl (same, h);
    }

-- records are whole, and behind them one is begun
pub record Begun (c : RecordState) (read : List ℕ) (items : List (List ℕ)) : Type 0 where
  pub records : List Framed
  pub are : AreRecords records
  pub is : read ≡ records_text records ++ (c.prefix ++ c.item)
  pub items_are : items ≡ payloads records
  pub begun : IsBegun c

pub begun_open : (c : RecordState) (read : List ℕ) (items : List (List ℕ)) → RecordStands c read items → 0 < c.left → Begun c read items
begun_open c read items s h = record {
  records = s.records;
  are = s.are;
  is = s.is ∙ ap (λ t. records_text s.records ++ t) (open_record c h);
  items_are = s.items_are;
  begun = by_state s.unfinished;
}
  where
    by_state : IsUnfinished c → IsBegun c
    by_state (inl (z, k)) = absurd (omega arith)
    by_state (inr (l, b)) = b

-- the length takes so many, and is whole
pub begun_prefix : (old new : RecordState) (read bytes : List ℕ) (items : List (List ℕ)) (n : ℕ) → RecordStands old read items → old.left ≡ 0
    → TakesPrefix old new bytes (Some n) → Begun new (read ++ take n bytes) items
begun_prefix old new read bytes items n s z (taken, none, b) = record {
  records = s.records;
  are = s.are;
  is = ap (λ t. t ++ take n bytes) s.is ∙ append_assoc (records_text s.records) (open_bytes old) (take n bytes)
      ∙ ap (λ t. records_text s.records ++ t)
      (ap (λ t. t ++ take n bytes) (open_prefix old z) ∙ sym taken ∙ sym (ap (λ t. new.prefix ++ t) none ∙ append-nil new.prefix));
  items_are = s.items_are;
  begun = b;
}

-- the record takes these, and is whole with them or not
pub stands_record : (old new : RecordState) (read part : List ℕ) (items : List (List ℕ)) (whole : Bool) → Begun old read items → TakesRecord old new part whole
    → RecordStands new (read ++ part) (with_item whole new.item items)
stands_record old new read part items true g (taken, enough, z, none) =
    let last : List Framed = (old.prefix, new.item) ∷ [] in
    let full : length old.item + old.left ≡ length new.item = omega (arith, ap length taken, length-append old.item part) in
    let rest : open_bytes new ≡ [] = open_prefix new z ∙ none in
    let one : records_text last ≡ old.prefix ++ new.item = append-nil (old.prefix ++ new.item) in
    record {
      records = g.records ++ last;
      are = are_records-append g.records last g.are
          (subst (λ n. IsVarint old.prefix n) full g.begun.is_length, subst (λ n. n ≤ longest) full g.begun.short, tt);
      is = ap (λ t. t ++ part) g.is ∙ append_assoc (records_text g.records) (old.prefix ++ old.item) part
          ∙ ap (λ t. records_text g.records ++ t) (append_assoc old.prefix old.item part ∙ ap (λ t. old.prefix ++ t) (sym taken) ∙ sym one)
          ∙ sym (records_text-append g.records last)
          ∙ sym (ap (λ t. records_text (g.records ++ last) ++ t) rest ∙ append-nil (records_text (g.records ++ last)));
      items_are = ap (λ t. t ++ new.item ∷ []) g.items_are ∙ sym (map-append (λ (r : Framed). r.1) g.records last);
      unfinished = inl (z, rw none (tt, omega arith));
    }
stands_record old new read part items false g (taken, fewer, some, same) =
    let full : length old.item + old.left ≡ length new.item + new.left = omega (arith, ap length taken, length-append old.item part) in
    let spelled : IsVarint new.prefix (length old.item + old.left) = rw same g.begun.is_length in
    record {
      records = g.records;
      are = g.are;
      is = ap (λ t. t ++ part) g.is ∙ append_assoc (records_text g.records) (old.prefix ++ old.item) part
          ∙ ap (λ t. records_text g.records ++ t)
          (append_assoc old.prefix old.item part ∙ ap (λ t. old.prefix ++ t) (sym taken) ∙ ap (λ t. t ++ new.item) (sym same) ∙ sym (open_record new some));
      items_are = g.items_are;
      unfinished = inr (
        some,
        record {
          is_length = subst (λ n. IsVarint new.prefix n) full spelled;
          short = subst (λ n. n ≤ longest) full g.begun.short;
        },
      );
    }

-- ---- bytes that are no length

pub long-append : (x y : List ℕ) → IsLongVarint x → IsLongVarint (x ++ y)
long-append x y (front, tenth, rest, on, nine, large, parts) =
    (front, tenth, rest ++ y, on, nine, large, ap (λ t. t ++ y) parts ∙ append_assoc front (tenth ∷ rest) y)

pub oversized-append : (x y : List ℕ) → IsOversized x → IsOversized (x ++ y)
oversized-append x y (n, behind, h, high) =
    (n, behind ++ y, record { spelled = h.spelled; is_length = h.is_length; is = ap (λ t. t ++ y) h.is ∙ append_assoc h.spelled behind y }, high)

pub fault-append : (x y : List ℕ) (e : CutFault) → IsPrefixFault x e → IsPrefixFault (x ++ y) e
fault-append x y faults.TooLong h = h
fault-append x y faults.Malformed h = long-append x y h
fault-append x y faults.Oversized h = oversized-append x y h
fault-append x y faults.NoMemory h = tt

pub cut_fault : (c : RecordState) (read bytes : List ℕ) (items : List (List ℕ)) (e : CutFault) → RecordStands c read items → c.left ≡ 0
    → length (read ++ bytes) ≤ most → IsPrefixFault (c.prefix ++ bytes) e → IsCutFault AreItems (read ++ bytes) items e
cut_fault c read bytes items e s z h fault = by_fault e fault
  where
    parts : read ++ bytes ≡ records_text s.records ++ (c.prefix ++ bytes)
    parts = ap (λ t. t ++ bytes) s.is ∙ append_assoc (records_text s.records) (open_bytes c) bytes
        ∙ ap (λ t. records_text s.records ++ (t ++ bytes)) (open_prefix c z)

    by_fault : (f : CutFault) → IsPrefixFault (c.prefix ++ bytes) f → IsCutFault AreItems (read ++ bytes) items f
    by_fault faults.TooLong k = absurd k
    by_fault faults.Malformed k = λ more. records_end s.records (c.prefix ++ bytes) (read ++ bytes) more items Malformed s.are parts s.items_are h
        (long-append (c.prefix ++ bytes) (take (most - length (read ++ bytes)) more) k)
    by_fault faults.Oversized k = λ more. records_end s.records (c.prefix ++ bytes) (read ++ bytes) more items Oversized s.are parts s.items_are h
        (oversized-append (c.prefix ++ bytes) (take (most - length (read ++ bytes)) more) k)
    by_fault faults.NoMemory k = tt

-- ---- a length that takes bytes

-- its last byte is among these
pub chain_kept : (prefix bytes kept : List ℕ) (m n : ℕ) → EndsInVarint prefix → kept ≡ prefix ++ take n bytes → n ≤ length (take m bytes)
    → IsChain (take n (take m bytes)) → IsChain kept
chain_kept prefix bytes kept m n (on, short) is h chain =
    let within : n ≤ m = omega (arith, length-take m bytes) in
    rw is (chain-append prefix (take n bytes) on (subst IsChain (take-take n m bytes within) chain))

pub fault_kept : (prefix bytes kept : List ℕ) (n : ℕ) (e : CutFault) → kept ≡ prefix ++ take n bytes → IsPrefixFault kept e → IsPrefixFault (prefix ++ bytes) e
fault_kept prefix bytes kept n e is fault =
    let parts : kept ++ drop n bytes ≡ prefix ++ bytes =
    ap (λ t. t ++ drop n bytes) is ∙ append_assoc prefix (take n bytes) (drop n bytes) ∙ ap (λ t. prefix ++ t) (take-append-drop n bytes) in
    subst (λ t. IsPrefixFault t e) parts (fault-append kept (drop n bytes) e fault)

-- it goes on behind all of them
pub ends_kept : (prefix bytes kept : List ℕ) (m : ℕ) → EndsInVarint prefix → kept ≡ prefix ++ bytes → GoesOn (take m bytes) → length bytes ≤ m
    → length bytes < 10 - length prefix → EndsInVarint kept
ends_kept prefix bytes kept m (on, short) is more all few =
    let whole : GoesOn bytes = subst GoesOn (take_all m bytes all) more in
    (rw is (goes_on-append prefix bytes on whole), omega (arith, ap length is, length-append prefix bytes))

-- ten bytes go on
pub long_kept : (prefix bytes : List ℕ) (m : ℕ) → EndsInVarint prefix → GoesOn (take m bytes) → m ≡ 10 - length prefix → m ≤ length bytes
    → IsLongVarint (prefix ++ bytes)
long_kept prefix bytes m (on, short) more room enough =
    let ten : length (prefix ++ take m bytes) ≡ 10 = omega (arith, length-append prefix (take m bytes), length-take m bytes) in
    let long = ten_are_long (prefix ++ take m bytes) (goes_on-append prefix (take m bytes) on more) ten in
    fault_kept prefix bytes (prefix ++ take m bytes) m faults.Malformed refl long

-- ---- a record that is begun

pub begun_is : (prefix item : List ℕ) (n : ℕ) → IsVarint prefix n → item ≡ [] → n ≤ longest → IsBegun (record { prefix = prefix; left = n; item = item })
begun_is prefix item n is none short =
    let len : length item + n ≡ n = omega (arith, ap length none) in
    record { is_length = rw len is; short = rw len short }

-- ---- what a call took

pub ends_open : (c : RecordState) (read : List ℕ) (items : List (List ℕ)) → RecordStands c read items → c.left ≡ 0 → EndsInVarint c.prefix
ends_open c read items s z = by_state s.unfinished
  where
    by_state : IsUnfinished c → EndsInVarint c.prefix
    by_state (inl (e, h)) = h
    by_state (inr (l, b)) = absurd (omega arith)

-- the bytes of a record that is open
pub take_open : (old new : RecordState) (read bytes : List ℕ) (items : List (List ℕ)) (r : Result Taken CutFault) → RecordStands old read items → 0 < old.left
    → IfOk r (λ t. TakesRecord old new (take (t.count - 0) (drop 0 bytes)) t.whole)
    → IfOk r (λ t. RecordStands new (read ++ take t.count bytes) (with_item t.whole new.item items))
take_open old new read bytes items (Err e) s some h = tt
take_open old new read bytes items (Ok t) s some h =
    let same : t.count - 0 ≡ t.count = omega arith in
    let taken = subst (λ n. TakesRecord old new (take n bytes) t.whole) same h in
    stands_record old new read (take t.count bytes) items t.whole (begun_open old read items s some) taken

takes_both : (n k : ℕ) (bytes : List ℕ) → n ≤ k → take n bytes ++ take (k - n) (drop n bytes) ≡ take k bytes
takes_both n k bytes h =
    let all : n + (k - n) ≡ k = omega arith in
    sym (take-add n (k - n) bytes) ∙ ap (λ m. take m bytes) all

-- the bytes of a length, and those of its record
pub take_begun : (old mid new : RecordState) (read bytes : List ℕ) (items : List (List ℕ)) (n : ℕ) (r : Result Taken CutFault) → RecordStands old read items
    → old.left ≡ 0 → TakesPrefix old mid bytes (Some n) → IfOk r (λ t. (n ≤ t.count) × (t.count ≤ length bytes))
    → IfOk r (λ t. TakesRecord mid new (take (t.count - n) (drop n bytes)) t.whole)
    → IfOk r (λ t. RecordStands new (read ++ take t.count bytes) (with_item t.whole new.item items))
take_begun old mid new read bytes items n (Err e) s z p count h = tt
take_begun old mid new read bytes items n (Ok t) s z p count h =
    let part = take (t.count - n) (drop n bytes) in
    let all : (read ++ take n bytes) ++ part ≡ read ++ take t.count bytes =
    append_assoc read (take n bytes) part ∙ ap (λ l. read ++ l) (takes_both n t.count bytes count.0) in
    subst (λ l. RecordStands new l (with_item t.whole new.item items)) all
    (stands_record mid new (read ++ take n bytes) part items t.whole (begun_prefix old mid read bytes items n s z p) h)
