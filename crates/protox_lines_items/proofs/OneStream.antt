-- Bytes have one stream of records.
use Rattle.std.proofs.Common.{◌≡◌, ◌≢◌, inl, inr, ℕ, ◌≤◌, List, [], ◌∷◌, ◌++◌, length, take, drop, Ok, Err, refl, sym, ap, ◌∙◌, arith, subst}
use Rattle.std.proofs.Common.{append_assoc, length-append}
use Rattle.std.specs.Prelude.{false, if◌then◌else◌, ◌==◌, nat_lt}
use Rattle.std.proofs.lemmas.Bool.{lt-ltb, le-ltb, ne_eqb}
use Rattle.std.proofs.lemmas.List.{append_cancel_right, nil_from_length}
use Rattle.std.proofs.Math.Seq.{take-append_seam, drop-append_seam}
use Rattle.pbx_wire.specs.declared.error.DecodeError.TheVariants as errors
use Rattle.pbx_wire.specs.Spelling.{IsVarint}
use Rattle.pbx_wire.proofs.Steps.{parts_are}
use Rattle.pbx_wire.proofs.Laws.{chain_has}
use Rattle.protox_lines_items.specs.Items.{longest, most, stream, End, Ended, Malformed, Oversized, CutOff, More}
use Rattle.protox_lines_items.specs.Items.{AreRecords, records_text, HasLength, IsOpen, EndsAs}
use Rattle.protox_lines_items.specs.Laws.{StreamsAreOne}
use Rattle.protox_lines_items.specs.RecordLaws.{Framed, payloads, Reading, length_at}
use Rattle.protox_lines_items.proofs.Lengths.{length_again, ends_again, long_again}

-- ---- one length at the front

pub one_length : (bytes a b : List ℕ) (n m : ℕ) → HasLength bytes n a → HasLength bytes m b → (n ≡ m) × (a ≡ b)
one_length bytes a b n m h k = parts_are n m a b (sym (length_again bytes a n h) ∙ length_again bytes b m k)

-- lists of one length at the front
fronts_same : (s t x y : List ℕ) → length s ≡ length t → s ++ x ≡ t ++ y → (s ≡ t) × (x ≡ y)
fronts_same s t x y len e = (
  sym (take-append_seam s x) ∙ ap (λ l. take (length s) l) e ∙ ap (λ n. take n (t ++ y)) len ∙ take-append_seam t y,
  sym (drop-append_seam s x) ∙ ap (λ l. drop (length s) l) e ∙ ap (λ n. drop n (t ++ y)) len ∙ drop-append_seam t y,
)

one_record : (a b s t x y : List ℕ) → IsVarint a (length s) → IsVarint b (length t) → a ++ s ++ x ≡ b ++ t ++ y → (a ≡ b) × (s ≡ t) × (x ≡ y)
one_record a b s t x y h k e =
    let whole : a ++ (s ++ x) ≡ b ++ (t ++ y) = sym (append_assoc a s x) ∙ e ∙ append_assoc b t y in
    let first : HasLength (a ++ (s ++ x)) (length s) (s ++ x) = record { spelled = a; is_length = h; is = refl } in
    let second : HasLength (a ++ (s ++ x)) (length t) (t ++ y) = record { spelled = b; is_length = k; is = whole } in
    let same = one_length (a ++ (s ++ x)) (s ++ x) (t ++ y) (length s) (length t) first second in
    let fronts : a ≡ b = append_cancel_right a b (s ++ x) (whole ∙ ap (λ l. b ++ l) (sym same.1)) in
    let parts = fronts_same s t x y same.0 same.1 in
    (fronts, parts.0, parts.1)

-- ---- how the bytes end behind the last record

-- no record stands at the front of such a rest
no_record : (bytes rest : List ℕ) (e : End) → EndsAs bytes rest e → (a s x : List ℕ) → IsVarint a (length s) → length s ≤ longest → rest ≡ a ++ s ++ x → ⊥
no_record bytes rest e ends a s x is short parts = by_end e ends
  where
    has : HasLength rest (length s) (s ++ x)
    has = record { spelled = a; is_length = is; is = parts ∙ append_assoc a s x }

    read : length_at rest ≡ Ok (length s, s ++ x)
    read = length_again rest (s ++ x) (length s) has

    opened : IsOpen rest → ⊥
    opened (inl h) = absurd (let clash = sym read ∙ ends_again rest h in cc)
    opened (inr (n, behind, h, low, few)) =
        let same = one_length rest behind (s ++ x) n (length s) h has in
        omega (arith, same.0, ap length same.1, length-append s x)

    by_end : (f : End) → EndsAs bytes rest f → ⊥
    by_end Ended (m, none) = absurd (omega (arith, chain_has a is.chain, ap length (sym none ∙ parts), length-append (a ++ s) x, length-append a s))
    by_end CutOff (m, some, h) = opened h
    by_end More (m, h) = opened h
    by_end Malformed h = absurd (let clash = sym read ∙ long_again rest h in cc)
    by_end Oversized (n, behind, h, high) = let same = one_length rest behind (s ++ x) n (length s) h has in omega (arith, same.0)

-- how a rest ends the stream, by what stands at its front
open_end : List ℕ → List ℕ → End
open_end bytes rest = if nat_lt most (length bytes) then More else (if length rest == 0 then Ended else CutOff)

end_by : Reading → List ℕ → List ℕ → End
end_by (Ok x) bytes rest = if nat_lt longest x.0 then Oversized else open_end bytes rest
end_by (Err (errors.Varint at)) bytes rest = Malformed
end_by (Err e) bytes rest = open_end bytes rest

end_of : List ℕ → List ℕ → End
end_of bytes rest = end_by (length_at rest) bytes rest

open_is : (bytes rest : List ℕ) → IsOpen rest → end_of bytes rest ≡ open_end bytes rest
unfolding end_of end_by
open_is bytes rest (inl h) = rw (ends_again rest h) refl
open_is bytes rest (inr (n, behind, h, low, few)) = rw (length_again rest behind n h, le-ltb longest n low) refl

some_bytes : (rest : List ℕ) → rest ≢ [] → (length rest == 0) ≡ false
some_bytes rest h = ne_eqb (length rest) 0 (λ e. h (nil_from_length rest e))

end_is : (bytes rest : List ℕ) (e : End) → EndsAs bytes rest e → e ≡ end_of bytes rest
unfolding end_of end_by open_end
end_is bytes rest Ended (m, none) =
    let opened : IsOpen rest = subst IsOpen (sym none) (inl (tt, omega arith)) in
    sym (open_is bytes rest opened ∙ rw (le-ltb most (length bytes) m, none) refl)
end_is bytes rest CutOff (m, some, h) = sym (open_is bytes rest h ∙ rw (le-ltb most (length bytes) m, some_bytes rest some) refl)
end_is bytes rest More (m, h) = sym (open_is bytes rest h ∙ rw (lt-ltb most (length bytes) m) refl)
end_is bytes rest Malformed h = rw (long_again rest h) refl
end_is bytes rest Oversized (n, behind, h, high) = rw (length_again rest behind n h, lt-ltb longest n high) refl

-- ---- one stream

framed : List ℕ → List ℕ → Framed
framed a s = (a, s)

pairs_same : (r t : Framed) → r.0 ≡ t.0 → r.1 ≡ t.1 → r ≡ t
unfolding framed
pairs_same r t e f = ap (λ a. framed a r.1) e ∙ ap (λ s. framed t.0 s) f

same_records : (bytes x y : List ℕ) (e f : End) → EndsAs bytes x e → EndsAs bytes y f → (rs ts : List Framed) → AreRecords rs → AreRecords ts
    → records_text rs ++ x ≡ records_text ts ++ y → (rs ≡ ts) × (x ≡ y)
same_records bytes x y e f h k [] [] a b is = (refl, is)
same_records bytes x y e f h k [] (t ∷ ts) a (len, short, b) is =
    absurd (no_record bytes x e h t.0 t.1 (records_text ts ++ y) len short (is ∙ append_assoc (t.0 ++ t.1) (records_text ts) y))
same_records bytes x y e f h k (r ∷ rs) [] (len, short, a) b is =
    absurd (no_record bytes y f k r.0 r.1 (records_text rs ++ x) len short (sym is ∙ append_assoc (r.0 ++ r.1) (records_text rs) x))
same_records bytes x y e f h k (r ∷ rs) (t ∷ ts) (len, short, a) (len2, short2, b) is =
    let one = one_record r.0 t.0 r.1 t.1 (records_text rs ++ x) (records_text ts ++ y) len len2
    (sym (append_assoc (r.0 ++ r.1) (records_text rs) x) ∙ is ∙ append_assoc (t.0 ++ t.1) (records_text ts) y) in
    let more = same_records bytes x y e f h k rs ts a b one.2 in
    (ap (λ l. r ∷ l) more.0 ∙ ap (λ q. q ∷ ts) (pairs_same r t one.0 one.1), more.1)

pub one_stream : StreamsAreOne
one_stream bytes s z a b =
    let same = same_records bytes a.rest b.rest s.end z.end a.ends b.ends a.records b.records a.are b.are (sym a.is ∙ b.is) in
    let items : s.items ≡ z.items = a.items ∙ ap payloads same.0 ∙ sym b.items in
    let ends : s.end ≡ z.end = end_is bytes a.rest s.end a.ends ∙ ap (end_of bytes) same.1 ∙ sym (end_is bytes b.rest z.end b.ends) in
    ap (λ l. stream l s.end) items ∙ ap (λ e. stream z.items e) ends
