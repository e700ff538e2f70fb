-- Records by ascending number, which are written part by part.
use Rattle.std.proofs.Common.{◌≡◌, ℕ, suc, ◌<◌, ◌≤◌, Bool, true, false, not, ◌&&◌, cond, if◌then◌else◌, nat_lt, List, [], ◌∷◌, ◌++◌, Option, Some, None, subst, refl, sym, ap, ◌∙◌, arith, append_assoc, append-nil}
use Rattle.std.specs.Prelude.{◌==◌}
use Rattle.std.specs.List.{filter}
use Rattle.std.proofs.lemmas.Bool.Decides.{nat_tests}
use Rattle.pbx_wire.specs.Text.{text_of, is_record_number, is_numbered, numbered_step}
use Rattle.pbx_wire.proofs.Texts.{text_of-append}
use Rattle.pbx_wire.specs.declared.rec.Rec.{Rec, Varint, Fixed64, Bytes, Group', Fixed32, fold_out-Rec}
use Rattle.pbx_wire.specs.declared.rec.Rec.TheVariants as rec
use Rattle.pbx_wire.specs.declared.rec.Rec as declared
use Rattle.pbx_content.specs.declared.shape.Shape.{Shape}
use Rattle.pbx_content.specs.declared.shape.FieldShape.{FieldShape}
use Rattle.pbx_content.specs.declared.shape.Kind.{Kind}
use Rattle.pbx_content.specs.Content.{Fields, no_fields, field, Val, number, truth, text, octets, message, many, keyed, Vals, no_vals, val, Pairs, no_pairs, pair}
use Rattle.pbx_content.specs.Encoding.{with_kept, fields_recs, field_recs, vals_recs, pairs_recs, val_rec, number_rec, keys_of, is_packed, packed_text}
use Rattle.pbx_content.specs.Records.{number_of, insert, sorted}
use Rattle.pbx_content.specs.Shape.{field_of, Form, as_varint, as_four, as_eight, as_payload, form_of}
use Rattle.pbx_content.proofs.Sorted.{IsLow, IsSorted}
use Rattle.pbx_content.proofs.WrittenOrder.{AreAbove, AreListed}
use Rattle.pbx_desc_encoding.specs.Building.{followed_by}
use Rattle.pbx_desc_encoding.specs.Content.{fields_from}
use Rattle.pbx_wire.specs.Number.{has_one_of, is_writable_beside}
use Rattle.pbx_desc_encoding.proofs.Fields.{numbers}
use Rattle.pbx_wire.proofs.Written.{both}

-- ---- bounds

lower : (m n : ℕ) (ss : List Rec) → m ≤ n → IsLow n ss → IsLow m ss
lower m n [] le h = tt
lower m n (s ∷ ss) le h = (omega (arith, h.0), lower m n ss le h.1)

low_insert : (n : ℕ) (r : Rec) (ss : List Rec) → n ≤ number_of r → IsLow n ss → IsLow n (insert r ss)
low_insert n r [] le h = (le, tt)
low_insert n r (s ∷ ss) le h = at (nat_lt (number_of s) (number_of r)) (low_insert n r ss le h.1)
  where
    at : (b : Bool) → IsLow n (insert r ss) → IsLow n (if b then s ∷ insert r ss else r ∷ s ∷ ss)
    at true ih = (h.0, ih)
    at false ih = (le, h)

low_append : (n : ℕ) (xs ys : List Rec) → IsLow n xs → IsLow n ys → IsLow n (xs ++ ys)
low_append n [] ys h k = k
low_append n (x ∷ xs) ys h k = (h.0, low_append n xs ys h.1 k)

low_parts : (n : ℕ) (xs ys : List Rec) → IsLow n (xs ++ ys) → IsLow n xs × IsLow n ys
low_parts n [] ys h = (tt, h)
low_parts n (x ∷ xs) ys h = let rest = low_parts n xs ys h.1 in ((h.0, rest.0), rest.1)

low_sorted : (n : ℕ) (rs : List Rec) → IsLow n rs → IsLow n (sorted rs)
low_sorted n [] h = tt
low_sorted n (r ∷ rs) h = low_insert n r (sorted rs) h.0 (low_sorted n rs h.1)

-- each of the first is below none of the others
abbrev pub AreBefore : List Rec → List Rec → Type 0
AreBefore [] ys = Unit {0}
AreBefore (x ∷ xs) ys = IsLow (number_of x) ys × AreBefore xs ys

before_none : (xs : List Rec) → AreBefore xs []
before_none [] = tt
before_none (x ∷ xs) = (tt, before_none xs)

before_both : (xs ys zs : List Rec) → AreBefore xs ys → AreBefore xs zs → AreBefore xs (ys ++ zs)
before_both [] ys zs h k = tt
before_both (x ∷ xs) ys zs h k = (low_append (number_of x) ys zs h.0 k.0, before_both xs ys zs h.1 k.1)

before_parts : (xs ys zs : List Rec) → AreBefore (xs ++ ys) zs → AreBefore xs zs × AreBefore ys zs
before_parts [] ys zs h = (tt, h)
before_parts (x ∷ xs) ys zs h = let rest = before_parts xs ys zs h.1 in ((h.0, rest.0), rest.1)

sorted_parts : (xs ys : List Rec) → IsSorted (xs ++ ys) → IsSorted xs × AreBefore xs ys × IsSorted ys
sorted_parts [] ys h = (tt, tt, h)
sorted_parts (x ∷ xs) ys h =
    let low = low_parts (number_of x) xs ys h.0 in
    let rest = sorted_parts xs ys h.1 in
    ((low.0, rest.0), (low.1, rest.1), rest.2)

-- ---- sorted ones in front

first_low : (r : Rec) (ss : List Rec) → IsLow (number_of r) ss → insert r ss ≡ r ∷ ss
first_low r [] h = refl
first_low r (s ∷ ss) h = let stop : nat_lt (number_of s) (number_of r) ≡ false = grind (arith, nat_tests, h.0) in rw stop refl

sorted-front : (xs ys : List Rec) → IsSorted xs → AreBefore xs ys → sorted (xs ++ ys) ≡ xs ++ sorted ys
sorted-front [] ys h k = refl
sorted-front (x ∷ xs) ys h k = ap (insert x) (sorted-front xs ys h.1 k.1) ∙ first_low x (xs ++ sorted ys) (low_append (number_of x) xs (sorted ys) h.0 (low_sorted (number_of x) ys k.0))

with_kept-front : (b : Bool) (xs ys kept : List Rec) → IsSorted xs → AreBefore xs ys → AreBefore xs kept → with_kept b (xs ++ ys) kept ≡ xs ++ with_kept b ys kept
with_kept-front true xs ys kept h k l = ap (λ rs. rs ++ kept) (sorted-front xs ys h k) ∙ append_assoc xs (sorted ys) kept
with_kept-front false xs ys kept h k l = ap sorted (append_assoc xs ys kept) ∙ sorted-front xs (ys ++ kept) h (before_both xs ys kept k l)

-- ---- what is left to be written

-- with the records that are left, among the kept ones, the text is whole
pub record Remains (b : Bool) (whole : List ℕ) (rest kept : List Rec) (text : List ℕ) : Type 0 where
  pub whole_is : whole ≡ text ++ text_of (with_kept b rest kept)
  pub ascend : IsSorted rest
  pub apart : AreBefore rest kept

pub remains_next : (b : Bool) (whole : List ℕ) (xs ys kept : List Rec) (old new : List ℕ) → Remains b whole (xs ++ ys) kept old → new ≡ old ++ text_of xs → Remains b whole ys kept new
remains_next b whole xs ys kept old new r e =
    let parts = sorted_parts xs ys r.ascend in
    let apart = before_parts xs ys kept r.apart in
    record {
      whole_is = r.whole_is
          ∙ ap (λ (rs : List Rec). old ++ text_of rs) (with_kept-front b xs ys kept parts.0 parts.1 apart.0)
          ∙ ap (λ (t : List ℕ). old ++ t) (text_of-append xs (with_kept b ys kept))
          ∙ sym (append_assoc old (text_of xs) (text_of (with_kept b ys kept)))
          ∙ ap (λ (t : List ℕ). t ++ text_of (with_kept b ys kept)) (sym e);
      ascend = parts.2;
      apart = apart.1;
    }

-- records in front are written as they stand
pub front_alone : (b : Bool) (xs ys : List Rec) → IsSorted (xs ++ ys) → with_kept b xs [] ≡ xs
front_alone b xs ys h = ap (λ (rs : List Rec). with_kept b rs []) (sym (append-nil xs)) ∙ with_kept-front b xs [] [] (sorted_parts xs ys h).0 (before_none xs) (before_none xs) ∙ at b
  where
    at : (b : Bool) → xs ++ with_kept b [] [] ≡ xs
    at true = append-nil xs
    at false = append-nil xs

-- ---- the records of a field

-- all have the number
abbrev HaveNumber : ℕ → List Rec → Type 0
HaveNumber n [] = Unit {0}
HaveNumber n (r ∷ rs) = (number_of r ≡ n) × HaveNumber n rs

number_number : (n : ℕ) (form : Form) (v : ℕ) → number_of (number_rec n form v) ≡ n
number_number n as_varint v = refl
number_number n as_four v = refl
number_number n as_eight v = refl
number_number n as_payload v = refl

val_number : (shape : Shape) (n : ℕ) (k : Kind) (v : Val) → number_of (val_rec shape n k v) ≡ n
val_number shape n k (number z) = number_number n (form_of k) _
val_number shape n k (truth b) = number_number n (form_of k) _
val_number shape n k (text s) = refl
val_number shape n k (octets b) = refl
val_number shape n k (message c) = refl
val_number shape n k (many ws) = refl
val_number shape n k (keyed ps) = refl

vals_number : (shape : Shape) (n : ℕ) (k : Kind) (vs : Vals) → HaveNumber n (vals_recs shape n k vs)
vals_number shape n k no_vals = tt
vals_number shape n k (val v vs) = (val_number shape n k v, vals_number shape n k vs)

pairs_number : (shape : Shape) (n : ℕ) (key k : Kind) (ps : Pairs) → HaveNumber n (pairs_recs shape n key k ps)
pairs_number shape n key k no_pairs = tt
pairs_number shape n key k (pair l v ps) = (refl, pairs_number shape n key k ps)

field_recs_number : (shape : Shape) (f : FieldShape) (v : Val) → HaveNumber f.number (field_recs shape (Some f) v)
field_recs_number shape f (number z) = (number_number f.number (form_of f.kind) _, tt)
field_recs_number shape f (truth b) = (number_number f.number (form_of f.kind) _, tt)
field_recs_number shape f (text s) = (refl, tt)
field_recs_number shape f (octets b) = (refl, tt)
field_recs_number shape f (message c) = (refl, tt)
field_recs_number shape f (many vs) = at (is_packed f) (vals_number shape f.number f.kind vs)
  where
    at : (b : Bool) → HaveNumber f.number (vals_recs shape f.number f.kind vs)
        → HaveNumber f.number (if b then rec.Bytes f.number (packed_text f.kind vs) ∷ [] else vals_recs shape f.number f.kind vs)
    at true h = (refl, tt)
    at false h = h
field_recs_number shape f (keyed ps) = pairs_number shape f.number (keys_of f.cardinality) f.kind ps

low_at : (m n : ℕ) (rs : List Rec) → m ≤ n → HaveNumber n rs → IsLow m rs
low_at m n [] le h = tt
low_at m n (r ∷ rs) le h = (omega (arith, h.0), low_at m n rs le h.1)

sorted_at : (n : ℕ) (rs ss : List Rec) → HaveNumber n rs → IsLow n ss → IsSorted ss → IsSorted (rs ++ ss)
sorted_at n [] ss h low k = k
sorted_at n (r ∷ rs) ss h low k = (low_append (number_of r) rs ss (low_at (number_of r) n rs (omega (arith, h.0)) h.1) (lower (number_of r) n ss (omega (arith, h.0)) low), sorted_at n rs ss h.1 low k)

before_at : (n : ℕ) (rs kept : List Rec) → HaveNumber n rs → IsLow n kept → AreBefore rs kept
before_at n [] kept h low = tt
before_at n (r ∷ rs) kept h low = (lower (number_of r) n kept (omega (arith, h.0)) low, before_at n rs kept h.1 low)

before_append : (xs ys kept : List Rec) → AreBefore xs kept → AreBefore ys kept → AreBefore (xs ++ ys) kept
before_append [] ys kept h k = k
before_append (x ∷ xs) ys kept h k = (h.0, before_append xs ys kept h.1 k)

-- ---- the records of all fields

record AreInPlace (n : ℕ) (rs kept : List Rec) : Type 0 where
  low : IsLow (suc n) rs
  ascend : IsSorted rs
  apart : AreBefore rs kept

-- no kept record is below a field
abbrev AreBeneath : List FieldShape → List Rec → Type 0
AreBeneath [] kept = Unit {0}
AreBeneath (g ∷ gs) kept = IsLow g.number kept × AreBeneath gs kept

in_place : (shape : Shape) (n : ℕ) (all gs : List FieldShape) (vs : List (Option Val)) (kept : List Rec) → AreAbove n gs → AreListed all gs → AreBeneath gs kept → AreInPlace n (fields_recs shape all (fields_from gs vs)) kept
in_place shape n all [] vs kept above found below = record { low = tt; ascend = tt; apart = tt }
in_place shape n all (g ∷ gs) [] kept above found below = record { low = tt; ascend = tt; apart = tt }
in_place shape n all (g ∷ gs) (None ∷ vs) kept above found below =
    let rest = in_place shape g.number all gs vs kept above.2 found.1 below.1 in
    record { low = lower (suc n) (suc g.number) (fields_recs shape all (fields_from gs vs)) (omega (arith, above.0)) rest.low; ascend = rest.ascend; apart = rest.apart }
in_place shape n all (g ∷ gs) (Some v ∷ vs) kept above found below =
    let rest = in_place shape g.number all gs vs kept above.2 found.1 below.1 in
    let here = field_recs_number shape g v in
    let rs = fields_recs shape all (fields_from gs vs) in
    let low = lower g.number (suc g.number) rs (omega arith) rest.low in
    subst (λ (o : Option FieldShape). AreInPlace n (field_recs shape o v ++ rs) kept) (sym found.0)
    (record {
      low = low_append (suc n) (field_recs shape (Some g) v) rs (low_at (suc n) g.number (field_recs shape (Some g) v) (omega (arith, above.0)) here) (lower (suc n) (suc g.number) rs (omega (arith, above.0)) rest.low);
      ascend = sorted_at g.number (field_recs shape (Some g) v) rs here low rest.ascend;
      apart = before_append (field_recs shape (Some g) v) rs kept (before_at g.number (field_recs shape (Some g) v) kept here below.0) rest.apart;
    })

-- ---- kept records of other numbers

-- the fields have each number from here on
abbrev pub is_run : ℕ → List FieldShape → Bool
is_run n [] = true
is_run n (g ∷ gs) = g.number == suc n && is_run (suc n) gs

abbrev AreUnder : List FieldShape → Rec → Type 0
AreUnder [] r = Unit {0}
AreUnder (g ∷ gs) r = (g.number ≤ number_of r) × AreUnder gs r

under : (n : ℕ) (gs : List FieldShape) (r : Rec) → is_run n gs ≡ true → n < number_of r → has_one_of (numbers gs) r ≡ false → AreUnder gs r
under n [] r run lt none = tt
under n (g ∷ gs) r run lt none = at (number_of r == g.number) refl none (λ next h. under (suc n) gs r (both (g.number == suc n) (is_run (suc n) gs) run).1 next h)
  where
    here : g.number == suc n ≡ true
    here = (both (g.number == suc n) (is_run (suc n) gs) run).0

    at : (b : Bool) → (number_of r == g.number) ≡ b → (if b then true else has_one_of (numbers gs) r) ≡ false → (suc n < number_of r → has_one_of (numbers gs) r ≡ false → AreUnder gs r) → AreUnder (g ∷ gs) r
    at true e h ih = absurd cc
    at false e h ih = (grind (arith, nat_tests, here, lt), ih (grind (arith, nat_tests, here, e, lt)) h)

beneath_none : (gs : List FieldShape) → AreBeneath gs []
beneath_none [] = tt
beneath_none (g ∷ gs) = (tt, beneath_none gs)

beneath_more : (gs : List FieldShape) (r : Rec) (rs : List Rec) → AreUnder gs r → AreBeneath gs rs → AreBeneath gs (r ∷ rs)
beneath_more [] r rs h k = tt
beneath_more (g ∷ gs) r rs h k = ((h.0, k.0), beneath_more gs r rs h.1 k.1)

positive : (n : ℕ) → is_record_number n ≡ true → 0 < n
positive n h = grind (arith, nat_tests)

numbered_positive : (r : Rec) → is_numbered r ≡ true → 0 < number_of r
unfolding declared.out-Rec denote.Hole.Carrier.out
numbered_positive (Varint n v) h = positive n (sym (fold_out-Rec Bool numbered_step (Varint n v)) ∙ h)
numbered_positive (Fixed64 n v) h = positive n (sym (fold_out-Rec Bool numbered_step (Fixed64 n v)) ∙ h)
numbered_positive (Bytes n b) h = positive n (sym (fold_out-Rec Bool numbered_step (Bytes n b)) ∙ h)
numbered_positive (Group' n s row) h = positive n (both (is_record_number n) _ (sym (fold_out-Rec Bool numbered_step (Group' n s row)) ∙ h)).0
numbered_positive (Fixed32 n v) h = positive n (sym (fold_out-Rec Bool numbered_step (Fixed32 n v)) ∙ h)

beneath_kept : (gs : List FieldShape) (rs : List Rec) → is_run 0 gs ≡ true → AreBeneath gs (filter (is_writable_beside (numbers gs)) rs)
beneath_kept gs [] run = beneath_none gs
beneath_kept gs (r ∷ rs) run = at (is_numbered r) (has_one_of (numbers gs) r) refl refl (beneath_kept gs rs run)
  where
    at : (a b : Bool) → is_numbered r ≡ a → has_one_of (numbers gs) r ≡ b → AreBeneath gs (filter (is_writable_beside (numbers gs)) rs)
        → AreBeneath gs (cond (a && not b) (r ∷ filter (is_writable_beside (numbers gs)) rs) (filter (is_writable_beside (numbers gs)) rs))
    at true false e f ih = beneath_more gs r (filter (is_writable_beside (numbers gs)) rs) (under 0 gs r run (numbered_positive r e) f) ih
    at true true e f ih = ih
    at false true e f ih = ih
    at false false e f ih = ih

pub fields_remain : (shape : Shape) (gs : List FieldShape) (vs : List (Option Val)) (unknown : List Rec) → AreAbove 0 gs → AreListed gs gs → is_run 0 gs ≡ true
    → IsSorted (fields_recs shape gs (fields_from gs vs)) × AreBefore (fields_recs shape gs (fields_from gs vs)) (filter (is_writable_beside (numbers gs)) unknown)
fields_remain shape gs vs unknown above found run =
    let placed = in_place shape 0 gs gs vs (filter (is_writable_beside (numbers gs)) unknown) above found (beneath_kept gs unknown run) in
    (placed.ascend, placed.apart)

pub fields_alone : (shape : Shape) (gs : List FieldShape) (vs : List (Option Val)) → AreAbove 0 gs → AreListed gs gs
    → IsSorted (fields_recs shape gs (fields_from gs vs)) × AreBefore (fields_recs shape gs (fields_from gs vs)) []
fields_alone shape gs vs above found =
    let placed = in_place shape 0 gs gs vs [] above found (beneath_none gs) in
    (placed.ascend, placed.apart)

pub fields_recs-followed : (shape : Shape) (all : List FieldShape) (fs gs : Fields) → fields_recs shape all (followed_by fs gs) ≡ fields_recs shape all fs ++ fields_recs shape all gs
fields_recs-followed shape all no_fields gs = refl
fields_recs-followed shape all (field n v fs) gs =
    ap (λ rs. field_recs shape (field_of n all) v ++ rs) (fields_recs-followed shape all fs gs)
    ∙ sym (append_assoc (field_recs shape (field_of n all) v) (fields_recs shape all fs) (fields_recs shape all gs))
