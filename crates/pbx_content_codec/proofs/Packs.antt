-- Packed numbers, one after another.
use Rattle.std.proofs.Common.{◌≡◌, ℕ, zero, suc, ◌<◌, ◌≤◌, nat_lt, Bool, true, false, if◌then◌else◌, List, [], ◌∷◌, ◌++◌, length, map, take, drop, Option, Some, None, Ok, Err, option_map, refl, sym, ap, ◌∙◌, subst, arith, append-nil, append_assoc, length-append}
use Rattle.std.specs.Prelude.{◌⊎◌, ◌≢◌}
use Rattle.std.specs.Int.{Width, w32, w64}
use Rattle.pbx_wire.specs.Fixed.{fixed}
use Rattle.std.proofs.Common.{inl, inr}
use Rattle.std.proofs.lemmas.List.{map-append}
use Rattle.pbx_wire.specs.Reading.{varint_at}
use Rattle.pbx_wire.specs.declared.error.DecodeError.{DecodeError}
use Rattle.pbx_wire.specs.declared.error.DecodeError.TheVariants as errors
use Rattle.pbx_wire.proofs.Laws.{varint_takes, chain_has}
use Rattle.pbx_content.specs.declared.shape.Kind.{Kind}
use Rattle.pbx_content.specs.Content.{Val}
use Rattle.pbx_content.specs.Records.{varints_in, fixed_in}
use Rattle.pbx_content.specs.Shape.{Form, as_varint, as_four, as_eight, form_of, is_payload}
use Rattle.pbx_content.specs.Meaning.{numeric, packed, numbers_in}
use Rattle.pbx_content.specs.Faults.{HasLongNumber, EndsInNumber}
use Rattle.pbx_content.proofs.FaultyAlone.{numbers_go_on, numbers_stop}
use Rattle.pbx_content.proofs.FaultyNumbers.{numbers_fail}
use Rattle.pbx_content_codec.specs.Breaks.{front_number, PackedFails}

-- ---- varints

-- the bytes before the rest are read, and their values stand behind those of the start
pub record HaveRead (k : Kind) (start : List Val) (whole : List ℕ) (now : List Val) (rest : List ℕ) : Type 0 where
  pub before : List ℕ
  pub numbers : List ℕ
  pub read : varints_in (length before) before ≡ Some numbers
  pub parts : whole ≡ before ++ rest
  pub values : now ≡ start ++ map (numeric k) numbers

pub read_none : (k : Kind) (start : List Val) (whole : List ℕ) → HaveRead k start whole start whole
unfolding varints_in
read_none k start whole = record { before = []; numbers = []; read = refl; parts = refl; values = sym (append-nil start) }

pub read_all : (k : Kind) (start : List Val) (whole : List ℕ) (now : List Val) (rest : List ℕ) → form_of k ≡ as_varint → rest ≡ []
    → HaveRead k start whole now rest
    → option_map (λ vs. start ++ vs) (packed k whole) ≡ Some now
read_all k start whole now rest form none h =
    let all : whole ≡ h.before = h.parts ∙ ap (λ (x : List ℕ). h.before ++ x) none ∙ append-nil h.before in
    rw (form, all, h.read) (ap (λ (x : List Val). Some x) (sym h.values))

pub varint_shorter : (at : ℕ) (bytes : List ℕ) (v : ℕ) (rest : List ℕ) → varint_at at 9 bytes ≡ Ok (v, rest) → length rest < length bytes
varint_shorter at bytes v rest e =
    let t = varint_takes at 9 bytes v rest e in
    omega (arith, chain_has t.text t.holds.chain, ap length t.parts, length-append t.text rest)

pub read_more : (k : Kind) (start : List Val) (whole : List ℕ) (now : List Val) (rest : List ℕ) (at v : ℕ) (after : List ℕ)
    → varint_at at 9 rest ≡ Ok (v, after) → HaveRead k start whole now rest
    → HaveRead k start whole (now ++ numeric k v ∷ []) after
read_more k start whole now rest at v after e h =
    let t = numbers_go_on at h.before rest after h.numbers v h.read e in
    record {
      before = h.before ++ t.0;
      numbers = h.numbers ++ v ∷ [];
      read = t.2;
      parts = h.parts ∙ ap (λ (x : List ℕ). h.before ++ x) t.1 ∙ sym (append_assoc h.before t.0 after);
      values =
          ap (λ (x : List Val). x ++ numeric k v ∷ []) h.values ∙ append_assoc start (map (numeric k) h.numbers) (numeric k v ∷ [])
          ∙ ap (λ (x : List Val). start ++ x) (sym (map-append (numeric k) h.numbers (v ∷ [])));
    }

stops_at : (k : Kind) (start : List Val) (whole : List ℕ) (now : List Val) (rest : List ℕ) (at : ℕ) (e : DecodeError) → form_of k ≡ as_varint → rest ≢ []
    → varint_at at 9 rest ≡ Err e
    → HaveRead k start whole now rest → PackedFails k at whole e
stops_at k start whole now rest at e form some fails h =
    by (numbers_stop at h.before rest h.numbers e h.read some fails)
  where
    by : (((e ≡ errors.Varint at) × HasLongNumber as_varint (h.before ++ rest)) ⊎ ((e ≡ errors.Underflow at) × EndsInNumber as_varint (h.before ++ rest)))
        → PackedFails k at whole e
    by (inl p) = inl (p.0, subst (λ (f : Form). HasLongNumber f whole) (sym form) (subst (HasLongNumber as_varint) (sym h.parts) p.1))
    by (inr p) = inr (p.0, subst (λ (f : Form). EndsInNumber f whole) (sym form) (subst (EndsInNumber as_varint) (sym h.parts) p.1))

pub read_stops : (e : DecodeError) (k : Kind) (start : List Val) (whole : List ℕ) (now : List Val) (rest : List ℕ) (at : ℕ) → form_of k ≡ as_varint → rest ≢ []
    → HaveRead k start whole now rest → varint_at at 9 rest ≡ Err e → (e ≡ errors.NoMemory) ⊎ PackedFails k at whole e
read_stops e k start whole now rest at form some h f = inr (stops_at k start whole now rest at e form some f h)

-- ---- numbers of so many bytes each

-- some number of turns, enough for what is left, reads on as from the start
pub record Packs (k : Kind) (w : Width) (len : ℕ) (start : List Val) (whole : List ℕ) (now : List Val) (rest : List ℕ) : Type 0 where
  pub turns : ℕ
  pub enough : length rest ≤ turns
  pub reads : option_map (λ vs. start ++ vs) (packed k whole) ≡ option_map (λ ns. now ++ map (numeric k) ns) (fixed_in w len turns rest)

mapped_twice : (k : Kind) (start : List Val) (o : Option (List ℕ))
    → option_map (λ vs. start ++ vs) (option_map (map (numeric k)) o) ≡ option_map (λ ns. start ++ map (numeric k) ns) o
mapped_twice k start None = refl
mapped_twice k start (Some ns) = refl

pub fours_begin : (k : Kind) (start : List Val) (whole : List ℕ) → form_of k ≡ as_four → Packs k w32 4 start whole start whole
fours_begin k start whole form = record {
  turns = length whole;
  enough = omega arith;
  reads = rw form (mapped_twice k start (fixed_in w32 4 (length whole) whole));
}

pub eights_begin : (k : Kind) (start : List Val) (whole : List ℕ) → form_of k ≡ as_eight → Packs k w64 8 start whole start whole
eights_begin k start whole form = record {
  turns = length whole;
  enough = omega arith;
  reads = rw form (mapped_twice k start (fixed_in w64 8 (length whole) whole));
}

nothing_more : (w : Width) (len turns : ℕ) → fixed_in w len turns [] ≡ Some []
unfolding fixed_in
nothing_more w len zero = refl
nothing_more w len (suc turns) = refl

pub packs_end : (k : Kind) (w : Width) (len : ℕ) (start : List Val) (whole : List ℕ) (now : List Val) (rest : List ℕ) → rest ≡ []
    → Packs k w len start whole now rest
    → option_map (λ vs. start ++ vs) (packed k whole) ≡ Some now
packs_end k w len start whole now rest none p =
    p.reads ∙ ap (λ (x : List ℕ). option_map (λ ns. now ++ map (numeric k) ns) (fixed_in w len p.turns x)) none
    ∙ rw (nothing_more w len p.turns, append-nil) refl

reads_one : (w : Width) (len turns : ℕ) (b : ℕ) (bs : List ℕ) → nat_lt (length (b ∷ bs)) len ≡ false
    → fixed_in w len (suc turns) (b ∷ bs) ≡ option_map (λ vs. fixed w (take len (b ∷ bs)) ∷ vs) (fixed_in w len turns (drop len (b ∷ bs)))
unfolding fixed_in
reads_one w len turns b bs e = rw e refl

reads_no : (w : Width) (len turns : ℕ) (b : ℕ) (bs : List ℕ) → nat_lt (length (b ∷ bs)) len ≡ true → fixed_in w len turns (b ∷ bs) ≡ None
unfolding fixed_in
reads_no w len zero b bs e = refl
reads_no w len (suc turns) b bs e = rw e refl

pub packs_more : (k : Kind) (w : Width) (len : ℕ) (start : List Val) (whole : List ℕ) (now : List Val) (b : ℕ) (bs : List ℕ) → 0 < len
    → nat_lt (length (b ∷ bs)) len ≡ false
    → Packs k w len start whole now (b ∷ bs) → Packs k w len start whole (now ++ numeric k (fixed w (take len (b ∷ bs))) ∷ []) (drop len (b ∷ bs))
packs_more k w zero start whole now b bs lt e p = absurd (omega arith)
packs_more k w (suc len) start whole now b bs lt e p = at p.turns p.enough p.reads
  where
    v : ℕ
    v = fixed w (take (suc len) (b ∷ bs))

    joined : (o : Option (List ℕ))
        → option_map (λ ns. now ++ map (numeric k) ns) (option_map (λ vs. v ∷ vs) o) ≡ option_map (λ ns. (now ++ numeric k v ∷ []) ++ map (numeric k) ns) o
    joined None = refl
    joined (Some ns) = ap (λ (t : List Val). Some t) (sym (append_assoc now (numeric k v ∷ []) (map (numeric k) ns)))

    drops : (n : ℕ) (xs : List ℕ) → length (drop n xs) ≤ length xs
    drops zero xs = omega arith
    drops (suc n) [] = omega arith
    drops (suc n) (x ∷ xs) = omega (arith, drops n xs)

    at : (turns : ℕ) → length (b ∷ bs) ≤ turns → option_map (λ vs. start ++ vs) (packed k whole) ≡ option_map (λ ns. now ++ map (numeric k) ns) (fixed_in w
        (suc len) turns (b ∷ bs))
        → Packs k w (suc len) start whole (now ++ numeric k v ∷ []) (drop (suc len) (b ∷ bs))
    at zero le r = absurd (omega arith)
    at (suc turns) le r = record {
      turns = turns;
      enough = omega (arith, drops len bs);
      reads = r ∙ rw (reads_one w (suc len) turns b bs e) (joined (fixed_in w (suc len) turns (drop (suc len) (b ∷ bs))));
    }

no_map : {A B : Type 0} (g : A → B) (o : Option A) → option_map g o ≡ None → o ≡ None
no_map g None e = refl
no_map g (Some x) e = absurd cc

ends_by : (k : Kind) (form : Form) (at : ℕ) (whole : List ℕ) → form_of k ≡ form → is_payload form ≡ false → (form ≡ as_varint → ⊥)
    → numbers_in form whole ≡ None
    → PackedFails k at whole (errors.Underflow at)
ends_by k form at whole is plain other none = by (numbers_fail form whole plain none)
  where
    by : HasLongNumber form whole ⊎ EndsInNumber form whole → PackedFails k at whole (errors.Underflow at)
    by (inl p) = absurd (other p.0)
    by (inr p) = inr (refl, subst (λ (f : Form). EndsInNumber f whole) (sym is) p)

pub packs_fail : (k : Kind) (w : Width) (len : ℕ) (form : Form) (at : ℕ) (start : List Val) (whole : List ℕ) (now : List Val) (b : ℕ) (bs : List ℕ)
    → form_of k ≡ form → is_payload form ≡ false
    → (form ≡ as_varint → ⊥) → nat_lt (length (b ∷ bs)) len ≡ true → Packs k w len start whole now (b ∷ bs) → PackedFails k at whole (errors.Underflow at)
packs_fail k w len form at start whole now b bs is plain other e p =
    let none = no_map (λ vs. start ++ vs) (packed k whole) (p.reads ∙ rw (reads_no w len p.turns b bs e) refl) in
    ends_by k form at whole is plain other (ap (λ (f : Form). numbers_in f whole) (sym is) ∙ no_map (map (numeric k)) (numbers_in (form_of k) whole) none)

-- ---- the number at the front

pub front_there : (w : Width) (len : ℕ) (bytes : List ℕ) (v : ℕ) (after : List ℕ) → Some (v, after) ≡ front_number w len bytes
    → (nat_lt (length bytes) len ≡ false) × ((v ≡ fixed w (take len bytes)) × (after ≡ drop len bytes))
front_there w len bytes v after e = at (nat_lt (length bytes) len) refl e
  where
    at : (b : Bool) → nat_lt (length bytes) len ≡ b → ◌≡◌ {A = Option (ℕ × List ℕ)} (Some (v, after)) (if b then None else Some (
      fixed w
          (take len bytes),
      drop len bytes,
    ))
        → (nat_lt (length bytes) len ≡ false) × ((v ≡ fixed w (take len bytes)) × (after ≡ drop len bytes))
    at true d e = absurd cc
    at false d e = let same : ◌≡◌ {A = ℕ × List ℕ} (v, after) (fixed w (take len bytes), drop len bytes) = cc in (
      d,
      (
        ap (λ x. x.0) same,
        ap
            (λ x. x.1) same,
      ),
    )

pub front_missing : (w : Width) (len : ℕ) (bytes : List ℕ) → None ≡ front_number w len bytes → nat_lt (length bytes) len ≡ true
front_missing w len bytes e = at (nat_lt (length bytes) len) refl e
  where
    at : (b : Bool) → nat_lt (length bytes) len ≡ b → ◌≡◌ {A = Option (ℕ × List ℕ)} None (if b then None else Some (
      fixed w
          (take len bytes),
      drop len bytes,
    ))
        → nat_lt (length bytes) len ≡ true
    at true d e = d
    at false d e = absurd cc

drop_less : (n : ℕ) (xs : List ℕ) → 0 < n → 0 < length xs → length (drop n xs) < length xs
drop_less zero xs h k = absurd (omega arith)
drop_less (suc n) [] h k = absurd (omega arith)
drop_less (suc n) (x ∷ xs) h k = omega (arith, most n xs)
  where
    most : (n : ℕ) (xs : List ℕ) → length (drop n xs) ≤ length xs
    most zero xs = omega arith
    most (suc n) [] = omega arith
    most (suc n) (x ∷ xs) = omega (arith, most n xs)

pub front_shorter : (w : Width) (len : ℕ) (bytes : List ℕ) (v : ℕ) (after : List ℕ) → 0 < len → 0 < length bytes → Some (v, after) ≡ front_number w len bytes
    → length after < length bytes
front_shorter w len bytes v after h k e = let t = front_there w len bytes v after e in rw t.1.1 (drop_less len bytes h k)

pub packs_next : (k : Kind) (w : Width) (len : ℕ) (start : List Val) (whole : List ℕ) (now : List Val) (rest : List ℕ) (v : ℕ) (after : List ℕ) → 0 < len
    → 0 < length rest
    → Some (v, after) ≡ front_number w len rest → Packs k w len start whole now rest → Packs k w len start whole (now ++ numeric k v ∷ []) after
packs_next k w len start whole now [] v after h some e p = absurd (omega arith)
packs_next k w len start whole now (b ∷ bs) v after h some e p =
    let t = front_there w len (b ∷ bs) v after e in
    rw (t.1.0, t.1.1) (packs_more k w len start whole now b bs h t.0 p)

pub packs_stop : (k : Kind) (w : Width) (len : ℕ) (form : Form) (at : ℕ) (start : List Val) (whole : List ℕ) (now : List Val) (rest : List ℕ)
    → form_of k ≡ form → is_payload form ≡ false
    → (form ≡ as_varint → ⊥) → 0 < length rest → nat_lt (length rest) len ≡ true → Packs k w len start whole now rest
    → PackedFails k at whole (errors.Underflow at)
packs_stop k w len form at start whole now [] is plain other some e p = absurd (omega arith)
packs_stop k w len form at start whole now (b ∷ bs) is plain other some e p = packs_fail k w len form at start whole now b bs is plain other e p

pub nil_of : (xs : List ℕ) → length xs ≡ 0 → xs ≡ []
nil_of [] e = refl
nil_of (x ∷ xs) e = absurd (omega arith)
