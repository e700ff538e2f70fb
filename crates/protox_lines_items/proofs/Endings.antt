-- What a conversion ends with, from what its parts answer.
use Rattle.std.proofs.Common.{◌≡◌, ◌≤◌, ◌<◌, ◌+◌, ◌++◌, ◌∷◌, ◌∙◌, [], inl, inr, ℕ, List, true, IsTrue, Option, Some, None, is_some, Result, Ok, Err, OnOk, IfErr, refl, sym, ap, subst, length, take, drop, arith, append_assoc, append-nil, ◌&&◌}
use Rattle.std.specs.List.{list_all}
use Rattle.std.proofs.lemmas.Bool.{le-ltb, lt-ltb}
use Rattle.std.proofs.lemmas.List.{length-append, length-take, take-append-drop}
use Rattle.std.proofs.lemmas.List.Folds.{list_all-append}
use Rattle.protox_io.specs.Sink.{Appends, Begins}
use Rattle.protox_lines_items.specs.Items.{Stream, stream, longest, most, Ended, Malformed, Oversized, CutOff, More, End}
use Rattle.protox_lines_items.specs.Told.{Convert, Faulty, Job, IsNotConverted, of_short, IsOfShort, job, before_all, begun, Stops, FirstFaulty, is_stopped}
use Rattle.protox_lines_items.specs.Cutting.{Cuts, Stands, BeginsWith, HasLong, IsCutFault, ConvertsBy}
use Rattle.protox_lines_items.specs.Writing.{IsSinkFault, Tells, item_error, cut_error, ItemFails, ItemComes, Progress, ForProgress, EndsBy, Goes, IsEnded}
use Rattle.protox_lines_items.specs.declared.error.ItemFault.{ItemFault}
use Rattle.protox_lines_items.specs.declared.error.ItemFault.TheVariants as faults
use Rattle.protox_lines_items.specs.declared.cutter.CutFault.{CutFault}
use Rattle.protox_lines_items.specs.declared.cutter.CutFault.TheVariants as cut_faults
use Rattle.protox_lines_items.specs.declared.error.LineError.{LineError}
use Rattle.protox_lines_items.specs.declared.error.LineError.TheVariants as errors

-- the first bytes of some are the first of more
pub begins_more : (said whole more : List ℕ) → Begins said whole → Begins said (whole ++ more)
begins_more said whole more b = record { rest = b.rest ++ more; is = ap (λ z. z ++ more) b.is ∙ append_assoc said b.rest more }

-- the error of an item that is not converted
pub told_item : (convert : Convert) (faulty : Faulty) (item held gathered : List ℕ) (count : ℕ) (now : List ℕ) (f : ItemFault) (told : LineError)
    → IsNotConverted convert faulty item f → Tells held gathered now (item_error (count + 1) f) told
    → ItemFails convert faulty item held gathered count now told
told_item convert faulty item held gathered count now f told why (inl h) = inr (f, why, h.0, h.1)
told_item convert faulty item held gathered count now f told why (inr h) =
    inl (h.0, record { added = h.1.added; is = h.1.is; so = begins_more h.1.added gathered (before_all (convert item) []) h.1.so })

-- ---- items that are converted

-- what all of these come to, and then what behind them does
pub begun_behind : (c : Convert) (xs ys : List (List ℕ)) → list_all (λ x. is_some (c x)) xs ≡ true → begun c (xs ++ ys) ≡ begun c xs ++ begun c ys
begun_behind c [] ys h = refl
begun_behind c (x ∷ xs) ys h = at (c x) h (begun_behind c xs ys)
  where
    at : (o : Option (List ℕ)) → (is_some o && list_all (λ x. is_some (c x)) xs) ≡ true
        → (list_all (λ x. is_some (c x)) xs ≡ true → begun c (xs ++ ys) ≡ begun c xs ++ begun c ys)
        → before_all o (begun c (xs ++ ys)) ≡ before_all o (begun c xs) ++ begun c ys
    at None k more = cc
    at (Some b) k more = ap (λ z. b ++ z) (more k) ∙ sym (append_assoc b (begun c xs) (begun c ys))

-- an item that is not too long is converted as such
pub short_is : (c : Convert) (item : List ℕ) → length item ≤ longest → of_short c item ≡ c item
short_is c item h = rw (le-ltb longest (length item) h)

-- one that is too long is not
pub long_is : (c : Convert) (item : List ℕ) → longest < length item → of_short c item ≡ None
long_is c item h = rw (lt-ltb longest (length item) h)

-- ---- a conversion that ends before the end

-- where the sink refuses
sink_stops : (j : Job) (e : LineError) → IsSinkFault (Unit {0}) e → Stops j e × IsTrue (is_stopped e)
sink_stops j errors.WriteFault h = (tt, refl)
sink_stops j errors.NoMemory h = (tt, refl)
sink_stops j (errors.NotJson n) h = absurd h
sink_stops j (errors.Json n e) h = absurd h
sink_stops j (errors.TooDeep n) h = absurd h
sink_stops j (errors.LineTooLong n) h = absurd h
sink_stops j (errors.BadLength n) h = absurd h
sink_stops j (errors.RecordTooLong n) h = absurd h
sink_stops j (errors.CutOff n) h = absurd h
sink_stops j (errors.Decode n e) h = absurd h
sink_stops j errors.TooMuch h = absurd h
sink_stops j errors.ReadFault h = absurd h

-- stopped from outside, with the first bytes of what is gathered written behind those that were
pub stops_early : (cuts : Cuts) (cut : Stands) (c : Convert) (faulty : Faulty) (first held gathered : List ℕ) (count : ℕ) (read : List ℕ) (items : List (List ℕ))
    → (total now tail added : List ℕ) (e : LineError) (s : Stream) → Progress cut c first held gathered count read items → cuts total s
    → begun (of_short c) s.items ≡ begun (of_short c) items ++ tail → Begins added (gathered ++ tail) → now ≡ held ++ added
    → Stops (job c faulty s) e × IsTrue (is_stopped e) → Appends first now (ConvertsBy cuts c faulty total (Err e))
stops_early cuts cut c faulty first held gathered count read items total now tail added e s p k whole b is why = record {
  added = p.printed ++ added;
  is = is ∙ ap (λ z. z ++ added) p.holds ∙ append_assoc first p.printed added;
  so = (
    s,
    k,
    (
      why.0,
      record {
        rest = b.rest;
        is = whole ∙ ap (λ z. z ++ tail) p.said ∙ append_assoc p.printed gathered tail ∙ ap (λ z. p.printed ++ z) b.is ∙ sym (append_assoc p.printed added b.rest);
      },
      inl why.1,
    ),
  );
}

-- all that was gathered is written, and nothing behind it comes of the stream
pub stops_whole : (cuts : Cuts) (cut : Stands) (c : Convert) (faulty : Faulty) (first held gathered : List ℕ) (count : ℕ) (read : List ℕ) (items : List (List ℕ))
    → (total now : List ℕ) (e : LineError) (s : Stream) → Progress cut c first held gathered count read items → cuts total s
    → begun (of_short c) s.items ≡ begun (of_short c) items → now ≡ held ++ gathered
    → Stops (job c faulty s) e → Appends first now (ConvertsBy cuts c faulty total (Err e))
stops_whole cuts cut c faulty first held gathered count read items total now e s p k whole is why =
    let said : p.printed ++ gathered ≡ begun (of_short c) s.items = sym p.said ∙ sym whole in
    record {
      added = p.printed ++ gathered;
      is = is ∙ ap (λ z. z ++ gathered) p.holds ∙ append_assoc first p.printed gathered;
      so = (s, k, (why, record { rest = []; is = sym said ∙ sym (append-nil (p.printed ++ gathered)) }, inr said));
    }

-- the sink refused what was gathered, where the stream begins with the items
pub stopped_there : (cuts : Cuts) (cut : Stands) (c : Convert) (faulty : Faulty) (first held gathered : List ℕ) (count : ℕ) (read : List ℕ) (items : List (List ℕ))
    → (total now : List ℕ) (e : LineError) → Progress cut c first held gathered count read items → BeginsWith cuts total items
    → IsSinkFault (Unit {0}) e × Appends held now (λ said. Begins said gathered) → Appends first now (ConvertsBy cuts c faulty total (Err e))
stopped_there cuts cut c faulty first held gathered count read items total now e p (s, k, (behind, is)) h =
    stops_early cuts cut c faulty first held gathered count read items total now (begun (of_short c) behind) h.1.added e s p k
    (ap (begun (of_short c)) is ∙ begun_behind (of_short c) items behind p.all)
    (begins_more h.1.added gathered (begun (of_short c) behind) h.1.so) h.1.is (sink_stops (job c faulty s) e h.0)

-- ---- the item that ends a conversion

-- the items of a stream that begins so, with this one next
next_item : (items behind : List (List ℕ)) (item : List ℕ) (s : Stream) → s.items ≡ (items ++ item ∷ []) ++ behind → s.items ≡ items ++ item ∷ behind
next_item items behind item s h = h ∙ append_assoc items (item ∷ []) behind

-- what comes of an item, and then of more
item_tail : (o : Option (List ℕ)) (more : List ℕ) → (rest : List ℕ) × (before_all o more ≡ before_all o [] ++ rest)
item_tail None more = ([], refl)
item_tail (Some b) more = (more, ap (λ z. z ++ more) (sym (append-nil b)))

-- the item that was not converted is the first faulty one
faulty_stops : (c : Convert) (faulty : Faulty) (items : List (List ℕ)) (item : List ℕ) (behind : List (List ℕ)) (count : ℕ) (s : Stream) (f : ItemFault)
    → list_all (λ x. is_some (of_short c x)) items ≡ true → count ≡ length items → length item ≤ longest → s.items ≡ items ++ item ∷ behind
    → c item ≡ None → faulty item f → IsOfShort faulty item f → FirstFaulty (job c faulty s) (count + 1) f
faulty_stops c faulty items item behind count s f all number short is none why of = record {
  before = items;
  item = item;
  after = behind;
  is = is;
  good = all;
  bad = short_is c item short ∙ none;
  why = of;
  number = ap (λ n. n + 1) number;
}

-- an item that is not converted ends the conversion
pub item_ends : (cuts : Cuts) (cut : Stands) (c : Convert) (faulty : Faulty) (first held gathered : List ℕ) (count : ℕ) (read : List ℕ) (items : List (List ℕ))
    → (item total now : List ℕ) (e : LineError) → Progress cut c first held gathered count read items → length item ≤ longest
    → BeginsWith cuts total (items ++ item ∷ []) → ItemFails c faulty item held gathered count now e
    → Appends first now (ConvertsBy cuts c faulty total (Err e))
item_ends cuts cut c faulty first held gathered count read items item total now e p short (s, k, (behind, is)) (inl (sf, app)) =
    let own = next_item items behind item s is in
    let tail = before_all (of_short c item) (begun (of_short c) behind) in
    let whole : begun (of_short c) s.items ≡ begun (of_short c) items ++ tail = ap (begun (of_short c)) own ∙ begun_behind (of_short c) items (item ∷ behind) p.all in
    let split = item_tail (c item) (begun (of_short c) behind) in
    let same : tail ≡ before_all (c item) [] ++ split.0 = ap (λ o. before_all o (begun (of_short c) behind)) (short_is c item short) ∙ split.1 in
    let more : gathered ++ tail ≡ app.added ++ (app.so.rest ++ split.0) =
    ap (λ z. gathered ++ z) same ∙ sym (append_assoc gathered (before_all (c item) []) split.0)
    ∙ ap (λ z. z ++ split.0) app.so.is ∙ append_assoc app.added app.so.rest split.0 in
    stops_early cuts cut c faulty first held gathered count read items total now tail app.added e s p k whole (record { rest = app.so.rest ++ split.0; is = more }) app.is
    (sink_stops (job c faulty s) e sf)
item_ends cuts cut c faulty first held gathered count read items item total now e p short (s, k, (behind, is)) (inr (f, why, e_is, now_is)) =
    let P : LineError → Type 0 = λ e. Appends first now (ConvertsBy cuts c faulty total (Err e)) in
    subst P (sym e_is) (by f why)
  where
    own : s.items ≡ items ++ item ∷ behind
    own = next_item items behind item s is

    early : Appends first now (ConvertsBy cuts c faulty total (Err errors.NoMemory))
    early =
        stops_early cuts cut c faulty first held gathered count read items total now (before_all (of_short c item) (begun (of_short c) behind)) gathered errors.NoMemory s p k
        (ap (begun (of_short c)) own ∙ begun_behind (of_short c) items (item ∷ behind) p.all)
        (record { rest = before_all (of_short c item) (begun (of_short c) behind); is = refl }) now_is (tt, refl)

    whole : c item ≡ None → begun (of_short c) s.items ≡ begun (of_short c) items
    whole none =
        ap (begun (of_short c)) own ∙ begun_behind (of_short c) items (item ∷ behind) p.all
        ∙ ap (λ o. begun (of_short c) items ++ before_all o (begun (of_short c) behind)) (short_is c item short ∙ none) ∙ append-nil (begun (of_short c) items)

    by : (f : ItemFault) → IsNotConverted c faulty item f → Appends first now (ConvertsBy cuts c faulty total (Err (item_error (count + 1) f)))
    by faults.NoMemory w = early
    by faults.TooLong w = absurd w
    by faults.NotJson w =
        stops_whole cuts cut c faulty first held gathered count read items total now (errors.NotJson (count + 1)) s p k (whole w.0) now_is
        (faulty_stops c faulty items item behind count s faults.NotJson p.all p.number short own w.0 w.1 (short, w.1))
    by (faults.Json e) w =
        stops_whole cuts cut c faulty first held gathered count read items total now (errors.Json (count + 1) e) s p k (whole w.0) now_is
        (faulty_stops c faulty items item behind count s (faults.Json e) p.all p.number short own w.0 w.1 (short, w.1))
    by faults.TooDeep w =
        stops_whole cuts cut c faulty first held gathered count read items total now (errors.TooDeep (count + 1)) s p k (whole w.0) now_is
        (faulty_stops c faulty items item behind count s faults.TooDeep p.all p.number short own w.0 w.1 (short, w.1))
    by (faults.Decode e) w =
        stops_whole cuts cut c faulty first held gathered count read items total now (errors.Decode (count + 1) e) s p k (whole w.0) now_is
        (faulty_stops c faulty items item behind count s (faults.Decode e) p.all p.number short own w.0 w.1 (short, w.1))

-- an item that is converted is one more
pub item_goes : (cut later : Stands) (c : Convert) (first held gathered : List ℕ) (count : ℕ) (read : List ℕ) (items : List (List ℕ))
    → (item now left next : List ℕ) (number : ℕ) → Progress cut c first held gathered count read items → length item ≤ longest
    → later next (items ++ item ∷ []) → (bytes : List ℕ) → c item ≡ Some bytes
    → Appends held now (λ said. said ++ left ≡ gathered ++ bytes) → number ≡ count + 1 → Progress later c first now left number next (items ++ item ∷ [])
item_goes cut later c first held gathered count read items item now left next number p short k bytes is app more = record {
  is_cut = k;
  all = list_all-append (λ x. is_some (of_short c x)) items (item ∷ []) ∙ rw (p.all, short_is c item short, is);
  printed = p.printed ++ app.added;
  holds = app.is ∙ ap (λ z. z ++ app.added) p.holds ∙ append_assoc first p.printed app.added;
  said = begun_behind (of_short c) items (item ∷ []) p.all ∙ ap (λ o. begun (of_short c) items ++ before_all o []) (short_is c item short ∙ is)
      ∙ ap (λ z. begun (of_short c) items ++ z) (append-nil bytes) ∙ ap (λ z. z ++ bytes) p.said ∙ append_assoc p.printed gathered bytes
      ∙ ap (λ z. p.printed ++ z) (sym app.so) ∙ sym (append_assoc p.printed app.added left);
  number = more ∙ ap (λ n. n + 1) p.number ∙ sym (length-append items (item ∷ []));
}

-- where none is whole, the items are the same
pub still_goes : (cut later : Stands) (c : Convert) (first held gathered : List ℕ) (count : ℕ) (read : List ℕ) (items : List (List ℕ))
    → (next : List ℕ) → Progress cut c first held gathered count read items → later next items → Progress later c first held gathered count next items
still_goes cut later c first held gathered count read items next p k =
    record { is_cut = k; all = p.all; printed = p.printed; holds = p.holds; said = p.said; number = p.number }

-- ---- a fault of cutting

-- whatever follows, the item behind those that are whole ends the conversion
pub cut_ends : (cuts : Cuts) (cut : Stands) (c : Convert) (faulty : Faulty) (first held gathered : List ℕ) (count : ℕ) (read : List ℕ) (items : List (List ℕ))
    → (bytes now : List ℕ) (f : CutFault) (told : LineError) → Progress cut c first held gathered count read items
    → ((more : List ℕ) → BeginsWith cuts (bytes ++ more) items) → IsCutFault cuts bytes items f
    → Tells held gathered now (cut_error (count + 1) f) told → EndsBy cuts c faulty bytes told first now
cut_ends cuts cut c faulty first held gathered count read items bytes now f told p there why (inr h) more =
    stopped_there cuts cut c faulty first held gathered count read items (bytes ++ more) now told p (there more) h
cut_ends cuts cut c faulty first held gathered count read items bytes now f told p there why (inl (e_is, now_is)) more =
    let P : LineError → Type 0 = λ e. Appends first now (ConvertsBy cuts c faulty (bytes ++ more) (Err e)) in
    subst P (sym e_is) (by f why)
  where
    same : (end : End) → begun (of_short c) (stream items end).items ≡ begun (of_short c) items
    same end = refl

    by : (f : CutFault) → IsCutFault cuts bytes items f → Appends first now (ConvertsBy cuts c faulty (bytes ++ more) (Err (cut_error (count + 1) f)))
    by cut_faults.NoMemory w = stopped_there cuts cut c faulty first held gathered count read items (bytes ++ more) now errors.NoMemory p (there more) (tt, record { added = gathered; is = now_is; so = record { rest = []; is = sym (append-nil gathered) } })
    by cut_faults.Malformed w =
        stops_whole cuts cut c faulty first held gathered count read items (bytes ++ more) now (errors.BadLength (count + 1)) (stream items Malformed) p (w more) refl now_is
        (record { all = p.all; end_is = refl }, ap (λ n. n + 1) p.number)
    by cut_faults.Oversized w =
        stops_whole cuts cut c faulty first held gathered count read items (bytes ++ more) now (errors.RecordTooLong (count + 1)) (stream items Oversized) p (w more) refl now_is
        (record { all = p.all; end_is = refl }, ap (λ n. n + 1) p.number)
    by cut_faults.TooLong w = long_ends (w more)
      where
        long_ends : HasLong cuts (bytes ++ more) items → Appends first now (ConvertsBy cuts c faulty (bytes ++ more) (Err (errors.LineTooLong (count + 1))))
        long_ends (s, k, (long, behind, is, over)) =
            stops_whole cuts cut c faulty first held gathered count read items (bytes ++ more) now (errors.LineTooLong (count + 1)) s p k
            (ap (begun (of_short c)) is ∙ begun_behind (of_short c) items (long ∷ behind) p.all
            ∙ ap (λ o. begun (of_short c) items ++ before_all o (begun (of_short c) behind)) (long_is c long over) ∙ append-nil (begun (of_short c) items)) now_is
            (record { before = items; item = long; after = behind; is = is; good = p.all; bad = long_is c long over; why = over; number = ap (λ n. n + 1) p.number })

-- ---- bytes that were taken, and those that follow

-- the bytes that were taken of some, and the others
pub same_bytes : (read bytes more : List ℕ) (n : ℕ) → (read ++ take n bytes) ++ (drop n bytes ++ more) ≡ (read ++ bytes) ++ more
same_bytes read bytes more n =
    append_assoc read (take n bytes) (drop n bytes ++ more) ∙ ap (λ z. read ++ z) (sym (append_assoc (take n bytes) (drop n bytes) more))
    ∙ ap (λ z. read ++ (z ++ more)) (take-append-drop n bytes) ∙ sym (append_assoc read bytes more)

take_most : (n : ℕ) (xs : List ℕ) → length (take n xs) ≤ length xs
take_most n xs = omega (arith, length-take n xs)

-- those of which some were read before are no more than all
pub read_within : (read bytes : List ℕ) → length (read ++ bytes) ≤ most → length read ≤ most
read_within read bytes h = omega (arith, subst (λ n. n ≤ most) (length-append read bytes) h)

pub taken_within : (read bytes : List ℕ) (n : ℕ) → length (read ++ bytes) ≤ most → length (read ++ take n bytes) ≤ most
taken_within read bytes n h =
    subst (λ m. m ≤ most) (sym (length-append read (take n bytes)))
    (omega (arith, take_most n bytes, subst (λ m. m ≤ most) (length-append read bytes) h))

-- the stream of all bytes begins with the items of some
pub there_behind : (cuts : Cuts) (items : List (List ℕ)) (read bytes more : List ℕ) → BeginsWith cuts (read ++ (bytes ++ more)) items
    → BeginsWith cuts ((read ++ bytes) ++ more) items
there_behind cuts items read bytes more h =
    let P : List ℕ → Type 0 = λ z. BeginsWith cuts z items in
    subst P (sym (append_assoc read bytes more)) h

pub there_whole : (cuts : Cuts) (items : List (List ℕ)) (read bytes more : List ℕ) (n : ℕ) → BeginsWith cuts ((read ++ take n bytes) ++ (drop n bytes ++ more)) items
    → BeginsWith cuts ((read ++ bytes) ++ more) items
there_whole cuts items read bytes more n h =
    let P : List ℕ → Type 0 = λ z. BeginsWith cuts z items in
    subst P (same_bytes read bytes more n) h

-- ---- the end of the bytes

pub sink_any : (rose : Type 0) (e : LineError) → IsSinkFault rose e → IsSinkFault (Unit {0}) e
sink_any rose errors.WriteFault h = tt
sink_any rose errors.NoMemory h = tt
sink_any rose (errors.NotJson n) h = absurd h
sink_any rose (errors.Json n e) h = absurd h
sink_any rose (errors.TooDeep n) h = absurd h
sink_any rose (errors.LineTooLong n) h = absurd h
sink_any rose (errors.BadLength n) h = absurd h
sink_any rose (errors.RecordTooLong n) h = absurd h
sink_any rose (errors.CutOff n) h = absurd h
sink_any rose (errors.Decode n e) h = absurd h
sink_any rose errors.TooMuch h = absurd h
sink_any rose errors.ReadFault h = absurd h

-- a stream begins with its own items
own_items : (cuts : Cuts) (read : List ℕ) (items : List (List ℕ)) (end : End) → cuts read (stream items end) → BeginsWith cuts read items
own_items cuts read items end k = (stream items end, k, ([], sym (append-nil items)))

-- no item stands behind those that are whole
pub nothing_goes : (cuts : Cuts) (cut : Stands) (c : Convert) (first held gathered : List ℕ) (count : ℕ) (read : List ℕ) (items : List (List ℕ))
    → Progress cut c first held gathered count read items → cuts read (stream items Ended) → Goes (IsEnded cuts) c held gathered count first read
nothing_goes cuts cut c first held gathered count read items p k = (items, still_goes cut (IsEnded cuts) c first held gathered count read items read p k)

-- one does, and is converted
pub last_goes : (cuts : Cuts) (cut : Stands) (c : Convert) (first held gathered : List ℕ) (count : ℕ) (read : List ℕ) (items : List (List ℕ))
    → (item now left : List ℕ) (number : ℕ) → Progress cut c first held gathered count read items
    → (length item ≤ longest) × cuts read (stream (items ++ item ∷ []) Ended) → (bytes : List ℕ) → c item ≡ Some bytes
    → Appends held now (λ said. said ++ left ≡ gathered ++ bytes) → number ≡ count + 1 → Goes (IsEnded cuts) c now left number first read
last_goes cuts cut c first held gathered count read items item now left number p k bytes is app more =
    (items ++ item ∷ [], item_goes cut (IsEnded cuts) c first held gathered count read items item now left read number p k.0 k.1 bytes is app more)

-- one does, and is not
pub last_ends : (cuts : Cuts) (cut : Stands) (c : Convert) (faulty : Faulty) (first held gathered : List ℕ) (count : ℕ) (read : List ℕ) (items : List (List ℕ))
    → (item now : List ℕ) (e : LineError) → Progress cut c first held gathered count read items
    → (length item ≤ longest) × cuts read (stream (items ++ item ∷ []) Ended) → ItemFails c faulty item held gathered count now e
    → Appends first now (ConvertsBy cuts c faulty read (Err e))
last_ends cuts cut c faulty first held gathered count read items item now e p k fails =
    item_ends cuts cut c faulty first held gathered count read items item read now e p k.0 (own_items cuts read (items ++ item ∷ []) Ended k.1) fails

-- this error is told behind all items, with this end
pub end_told : (cuts : Cuts) (cut : Stands) (c : Convert) (faulty : Faulty) (first held gathered : List ℕ) (count : ℕ) (read : List ℕ) (items : List (List ℕ))
    → (total now : List ℕ) (e told : LineError) (end : End) → Progress cut c first held gathered count read items → cuts total (stream items end)
    → Stops (job c faulty (stream items end)) e → Tells held gathered now e told → Appends first now (ConvertsBy cuts c faulty total (Err told))
end_told cuts cut c faulty first held gathered count read items total now e told end p k why (inl (e_is, now_is)) =
    let P : LineError → Type 0 = λ e. Appends first now (ConvertsBy cuts c faulty total (Err e)) in
    subst P (sym e_is) (stops_whole cuts cut c faulty first held gathered count read items total now e (stream items end) p k refl now_is why)
end_told cuts cut c faulty first held gathered count read items total now e told end p k why (inr h) =
    stopped_there cuts cut c faulty first held gathered count read items total now told p (own_items cuts total items end k) h

-- the last record is cut off
pub cut_off_ends : (cuts : Cuts) (cut : Stands) (c : Convert) (faulty : Faulty) (first held gathered : List ℕ) (count : ℕ) (read : List ℕ) (items : List (List ℕ))
    → (now : List ℕ) (told : LineError) → Progress cut c first held gathered count read items → cuts read (stream items CutOff)
    → Tells held gathered now (errors.CutOff (count + 1)) told → Appends first now (ConvertsBy cuts c faulty read (Err told))
cut_off_ends cuts cut c faulty first held gathered count read items now told p k =
    end_told cuts cut c faulty first held gathered count read items read now (errors.CutOff (count + 1)) told CutOff p k
    (record { all = p.all; end_is = refl }, ap (λ n. n + 1) p.number)

-- more bytes follow than count
pub past_ends : (cuts : Cuts) (cut : Stands) (c : Convert) (faulty : Faulty) (first held gathered : List ℕ) (count : ℕ) (read : List ℕ) (items : List (List ℕ))
    → (total now : List ℕ) (told : LineError) → Progress cut c first held gathered count read items → cuts total (stream items More)
    → Tells held gathered now errors.TooMuch told → Appends first now (ConvertsBy cuts c faulty total (Err told))
past_ends cuts cut c faulty first held gathered count read items total now told p k =
    end_told cuts cut c faulty first held gathered count read items total now errors.TooMuch told More p k (record { all = p.all; end_is = refl })

-- the source failed
pub unread_ends : (cuts : Cuts) (cut : Stands) (c : Convert) (faulty : Faulty) (first held gathered : List ℕ) (count : ℕ) (read : List ℕ) (items : List (List ℕ))
    → (total now : List ℕ) (told : LineError) → Progress cut c first held gathered count read items → BeginsWith cuts total items
    → Tells held gathered now errors.ReadFault told → Appends first now (ConvertsBy cuts c faulty total (Err told))
unread_ends cuts cut c faulty first held gathered count read items total now told p there (inr h) =
    stopped_there cuts cut c faulty first held gathered count read items total now told p there h
unread_ends cuts cut c faulty first held gathered count read items total now told p (s, k, (behind, is)) (inl (e_is, now_is)) =
    let P : LineError → Type 0 = λ e. Appends first now (ConvertsBy cuts c faulty total (Err e)) in
    subst P (sym e_is) (stops_early cuts cut c faulty first held gathered count read items total now (begun (of_short c) behind) gathered errors.ReadFault s p k
    (ap (begun (of_short c)) is ∙ begun_behind (of_short c) items behind p.all) (record { rest = begun (of_short c) behind; is = refl }) now_is (tt, refl))

-- all is written
pub all_written : (cuts : Cuts) (c : Convert) (faulty : Faulty) (first held gathered : List ℕ) (count : ℕ) (read now left : List ℕ)
    → Goes (IsEnded cuts) c held gathered count first read → Appends held now (λ said. said ++ left ≡ gathered ++ []) → left ≡ []
    → Appends first now (ConvertsBy cuts c faulty read (Ok count))
all_written cuts c faulty first held gathered count read now left (items, p) app none =
    let own : app.added ≡ gathered = sym (append-nil app.added) ∙ ap (λ z. app.added ++ z) (sym none) ∙ app.so ∙ append-nil gathered in
    record {
      added = p.printed ++ app.added;
      is = app.is ∙ ap (λ z. z ++ app.added) p.holds ∙ append_assoc first p.printed app.added;
      so = (stream items Ended, p.is_cut, (record { all = p.all; end_is = refl }, p.number, ap (λ z. p.printed ++ z) own ∙ sym p.said));
    }

-- the sink refused at the end
pub unwritten_ends : (cuts : Cuts) (c : Convert) (faulty : Faulty) (first held gathered : List ℕ) (count : ℕ) (read now : List ℕ) (e : LineError)
    → Goes (IsEnded cuts) c held gathered count first read → IsSinkFault (Unit {0}) e → Appends held now (λ said. Begins said (gathered ++ []))
    → Appends first now (ConvertsBy cuts c faulty read (Err e))
unwritten_ends cuts c faulty first held gathered count read now e (items, p) sf app =
    stopped_there cuts (IsEnded cuts) c faulty first held gathered count read items read now e p (own_items cuts read items Ended p.is_cut)
    (sf, record { added = app.added; is = app.is; so = let P : List ℕ → Type 0 = λ z. Begins app.added z in subst P (append-nil gathered) app.so })

-- where the item behind those that are whole is converted
pub last_all_go : (cuts : Cuts) (cut : Stands) (c : Convert) (faulty : Faulty) (held gathered : List ℕ) (count : ℕ) (item now left : List ℕ) (number : ℕ)
    → (r : Result (Unit {0}) LineError)
    → ((read : List ℕ) (items : List (List ℕ)) → cut read items → length read ≤ most → (length item ≤ longest) × cuts read (stream (items ++ item ∷ []) Ended))
    → ItemComes c faulty item held gathered count now left number r
    → OnOk r (ForProgress cut c held gathered count (λ first read items. length read ≤ most → Goes (IsEnded cuts) c now left number first read))
last_all_go cuts cut c faulty held gathered count item now left number (Ok x) k came = λ first read items p short.
    last_goes cuts cut c first held gathered count read items item now left number p (k read items p.is_cut short) came.0 came.1 came.2 came.3
last_all_go cuts cut c faulty held gathered count item now left number (Err e) k came = tt

-- and where it is not
pub last_all_end : (cuts : Cuts) (cut : Stands) (c : Convert) (faulty : Faulty) (held gathered : List ℕ) (count : ℕ) (item now left : List ℕ) (number : ℕ)
    → (r : Result (Unit {0}) LineError)
    → ((read : List ℕ) (items : List (List ℕ)) → cut read items → length read ≤ most → (length item ≤ longest) × cuts read (stream (items ++ item ∷ []) Ended))
    → ItemComes c faulty item held gathered count now left number r
    → IfErr r (λ e. ForProgress cut c held gathered count (λ first read items. length read ≤ most → Appends first now (ConvertsBy cuts c faulty read (Err e))))
last_all_end cuts cut c faulty held gathered count item now left number (Ok x) k came = tt
last_all_end cuts cut c faulty held gathered count item now left number (Err e) k came = λ first read items p short.
    last_ends cuts cut c faulty first held gathered count read items item now e p (k read items p.is_cut short) came
