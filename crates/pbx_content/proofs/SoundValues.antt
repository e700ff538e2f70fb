-- What one record, and all records of a field, give is a value that the field may have.
use Rattle.std.proofs.Common.{◌≡◌, inl, inr, ℕ, zero, suc, ◌+◌, ◌*◌, ◌%◌, ◌/◌, ◌^◌, ◌<◌, ◌≤◌, max, Bool, true, false, not, ◌&&◌, if◌then◌else◌, nat_lt, List, [], ◌∷◌, ◌++◌, length, map, take, drop, Option, Some, None, Result, Ok, Err, option_map, refl, sym, ap, ◌∙◌, subst, arith}
use Rattle.std.specs.Prelude.{ℤ, pos, negsuc, ◌==◌, option_and_then, IsTrue, codes}
use Rattle.std.specs.List.{AllByRecursion, list_all}
use mir.Val.{hbits}
use Rattle.std.specs.Int.{Width, w32, w64}
use Rattle.pbx_wire.specs.Fixed.{fixed}
use Rattle.pbx_wire.proofs.Fixed.{fits_4, fits_8}
use Rattle.std.specs.Int.RustNames.{FitsSigned}
use Rattle.std.specs.Str.{is_utf8, chars}
use lib.Utf8.{encode}
use Rattle.std.proofs.lemmas.Bool.{ltb-true}
use Rattle.std.proofs.lemmas.Bool.Decides.{nat_tests}
use borrow.Author.Gap.{read_sfits}
use Rattle.pbx_wire.specs.declared.error.DecodeError.{DecodeError}
use Rattle.pbx_wire.specs.declared.rec.Rec.{Rec, Varint, Fixed64, Bytes, Group', Fixed32, out-Rec, map-Rec, fold_out-Rec}
use Rattle.pbx_wire.specs.declared.rec.Rec.TheVariants.{outs-Varint, outs-Fixed64, outs-Fixed32}
use Rattle.pbx_wire.specs.Reading.{varint_at, ok_of}
use Rattle.pbx_wire.specs.Text.{is_fit, fit_step}
use Rattle.pbx_wire.proofs.Laws.{varint_takes}
use Rattle.pbx_content.specs.declared.shape.Kind.{Kind}
use Rattle.pbx_content.specs.declared.shape.Kind.TheVariants as kind
use Rattle.pbx_content.specs.declared.shape.Cardinality.{Cardinality}
use Rattle.pbx_content.specs.declared.shape.Cardinality.TheVariants.{Singular, Repeated, Map}
use Rattle.pbx_content.specs.declared.shape.Shape.{Shape}
use Rattle.pbx_content.specs.declared.shape.FieldShape.{FieldShape}
use Rattle.pbx_content.specs.Content.{Key, truth_key, number_key, text_key, key_before, Content, content, empty, fields, kept, get, has, Fields, no_fields, field, Val, number, truth, text, octets, message, many, keyed, Vals, no_vals, val, Pairs, no_pairs, pair, vals_of, with_pair, by_key, IsAscending}
use Rattle.pbx_content.specs.Records.{bytes_of, varint_of, fixed32_of, fixed64_of, each, flat, last_of, varints_in, fixed_in}
use Rattle.pbx_content.specs.Shape.{declared_of, fields_of, field_of, is_other, entry_field, entry_fields, Form, as_varint, as_four, as_eight, as_payload, form_of, is_float, is_packable, is_key_kind}
use Rattle.pbx_content.specs.Meaning.{Inner, no_inner, unzigzag, numeric, number_in, numbers_in, as_text, alone, one, or_packed, spread, zero_of, is_default, shown, or_else, key_in, pair_in, entry_in}
use Rattle.pbx_content.specs.Onto.{list_of, pair_list, elements, pairs_held, message_held, InnerOnto, from_empty, latest, joined_onto, singular_onto, onto_by_cardinality, value_onto}
use Rattle.pbx_content.specs.Sound.{has_good_keys, IsProper, IsNumber, IsKeyOf, IsBefore, IsShown, AreKept, has_one_member, IsSound, AreSound, IsSoundAt, AreElements, ArePairs, IsElement, depth, fields_depth, val_depth, vals_depth, pairs_depth}
use Rattle.pbx_content.proofs.OntoFields.{AreAbove, all-by_number, fields_ascend}
use Rattle.pbx_content.proofs.OntoLaw.{plain_onto}
use Rattle.pbx_content.proofs.OntoSplits.{is_plain, no_plain}
use Rattle.pbx_content.proofs.OntoPairs.{Compared, first, same, later, key_compared}
use Rattle.pbx_content.proofs.SoundLists.{all-append, all-flat, all-map, all-last, all-each}
use Rattle.pbx_content.proofs.SoundRecords.{IsGood, AreGood}

-- ---- numbers

-- the numbers of a form on the wire are below this
abbrev limit : Form → ℕ
limit as_four = 2 ^ 32
limit _ = 2 ^ 64

fit_is : (r : Rec) → is_fit r ≡ fit_step (map-Rec Rec Bool is_fit (out-Rec r))
fit_is r = fold_out-Rec Bool fit_step r

varint_fits : (r : Rec) (v : ℕ) → is_fit r ≡ true → varint_of r ≡ Some v → v < 2 ^ 64
varint_fits (Varint n w) v h e =
    let fits : nat_lt w (2 ^ 64) ≡ true = sym (fit_is (Varint n w) ∙ rw (outs-Varint n w) refl) ∙ h in
    let is : w ≡ v = cc in
    rw (← is) (ltb-true w (2 ^ 64) fits)
varint_fits (Fixed64 n w) v h e = absurd cc
varint_fits (Bytes n b) v h e = absurd cc
varint_fits (Group' n shape row) v h e = absurd cc
varint_fits (Fixed32 n w) v h e = absurd cc

fixed64_fits : (r : Rec) (v : ℕ) → is_fit r ≡ true → fixed64_of r ≡ Some v → v < 2 ^ 64
fixed64_fits (Fixed64 n w) v h e =
    let fits : nat_lt w (2 ^ 64) ≡ true = sym (fit_is (Fixed64 n w) ∙ rw (outs-Fixed64 n w) refl) ∙ h in
    let is : w ≡ v = cc in
    rw (← is) (ltb-true w (2 ^ 64) fits)
fixed64_fits (Varint n w) v h e = absurd cc
fixed64_fits (Bytes n b) v h e = absurd cc
fixed64_fits (Group' n shape row) v h e = absurd cc
fixed64_fits (Fixed32 n w) v h e = absurd cc

fixed32_fits : (r : Rec) (v : ℕ) → is_fit r ≡ true → fixed32_of r ≡ Some v → v < 2 ^ 32
fixed32_fits (Fixed32 n w) v h e =
    let fits : nat_lt w (2 ^ 32) ≡ true = sym (fit_is (Fixed32 n w) ∙ rw (outs-Fixed32 n w) refl) ∙ h in
    let is : w ≡ v = cc in
    rw (← is) (ltb-true w (2 ^ 32) fits)
fixed32_fits (Varint n w) v h e = absurd cc
fixed32_fits (Bytes n b) v h e = absurd cc
fixed32_fits (Group' n shape row) v h e = absurd cc
fixed32_fits (Fixed64 n w) v h e = absurd cc

number_fits : (fm : Form) (r : Rec) (v : ℕ) → is_fit r ≡ true → number_in fm r ≡ Some v → v < limit fm
number_fits as_varint r v h e = varint_fits r v h e
number_fits as_four r v h e = fixed32_fits r v h e
number_fits as_eight r v h e = fixed64_fits r v h e
number_fits as_payload r v h e = absurd cc

varints_fit : (turns : ℕ) (b vs : List ℕ) → varints_in turns b ≡ Some vs → AllByRecursion (λ v. v < 2 ^ 64) vs
unfolding varints_in
varints_fit turns [] vs e = let nothing : List ℕ = [] in let is : nothing ≡ vs = cc in subst (AllByRecursion (λ v. v < 2 ^ 64)) is tt
varints_fit zero (b ∷ bs) vs e = absurd cc
varints_fit (suc turns) (b ∷ bs) vs e = at (varint_at 0 9 (b ∷ bs)) refl e (varints_fit turns)
  where
    at : (x : Result (ℕ × List ℕ) DecodeError) → varint_at 0 9 (b ∷ bs) ≡ x
        → option_and_then (λ (v : ℕ × List ℕ). option_map (λ ws. v.0 ∷ ws) (varints_in turns v.1)) (ok_of x) ≡ Some vs
        → ((c ws : List ℕ) → varints_in turns c ≡ Some ws → AllByRecursion (λ v. v < 2 ^ 64) ws) → AllByRecursion (λ v. v < 2 ^ 64) vs
    at (Err f) d e ih = absurd cc
    at (Ok v) d e ih = more (varints_in turns v.1) refl e
      where
        more : (y : Option (List ℕ)) → varints_in turns v.1 ≡ y → option_map (λ ws. v.0 ∷ ws) y ≡ Some vs → AllByRecursion (λ v. v < 2 ^ 64) vs
        more None q e = absurd cc
        more (Some ws) q e =
            let is : (v.0 ∷ ws) ≡ vs = cc in
            let t = varint_takes 0 9 (b ∷ bs) v.0 v.1 d in
            let fits : v.0 < 2 ^ 64 = omega (arith, t.holds.fits) in
            subst (AllByRecursion (λ v. v < 2 ^ 64)) is (fits, ih v.1 ws q)

fixed_fit : (w : Width) (len n : ℕ) → ((bs : List ℕ) → fixed w bs < n) → (turns : ℕ) (b vs : List ℕ)
    → fixed_in w len turns b ≡ Some vs → AllByRecursion (λ v. v < n) vs
unfolding fixed_in
fixed_fit w len n fits turns [] vs e = let nothing : List ℕ = [] in let is : nothing ≡ vs = cc in subst (AllByRecursion (λ v. v < n)) is tt
fixed_fit w len n fits zero (b ∷ bs) vs e = absurd cc
fixed_fit w len n fits (suc turns) (b ∷ bs) vs e =
    at (nat_lt (length (b ∷ bs)) len) (fixed_in w len turns (drop len (b ∷ bs))) refl e (fixed_fit w len n fits turns (drop len (b ∷ bs)))
  where
    at : (c : Bool) (y : Option (List ℕ)) → fixed_in w len turns (drop len (b ∷ bs)) ≡ y
        → (if c then None else option_map (λ ws. fixed w (take len (b ∷ bs)) ∷ ws) y) ≡ Some vs
        → ((ws : List ℕ) → fixed_in w len turns (drop len (b ∷ bs)) ≡ Some ws → AllByRecursion (λ v. v < n) ws)
        → AllByRecursion (λ v. v < n) vs
    at true y q e ih = absurd cc
    at false None q e ih = absurd cc
    at false (Some ws) q e ih =
        let is : (fixed w (take len (b ∷ bs)) ∷ ws) ≡ vs = cc in
        subst (AllByRecursion (λ v. v < n)) is (fits (take len (b ∷ bs)), ih ws q)

numbers_fit : (fm : Form) (b vs : List ℕ) → numbers_in fm b ≡ Some vs → AllByRecursion (λ v. v < limit fm) vs
numbers_fit as_varint b vs e = varints_fit (length b) b vs e
numbers_fit as_four b vs e = fixed_fit w32 4 (2 ^ 32) fits_4 (length b) b vs e
numbers_fit as_eight b vs e = fixed_fit w64 8 (2 ^ 64) fits_8 (length b) b vs e
numbers_fit as_payload b vs e = absurd cc

unzigzag_fits : (w : Width) (v : ℕ) → v < 2 * 2 ^ hbits w → FitsSigned w (unzigzag v)
unzigzag_fits w v lt = at (v % 2 == 0)
  where
    at : (b : Bool) → FitsSigned w (if b then pos (v / 2) else negsuc (v / 2))
    at true = record { sfits = omega arith }
    at false = record { sfits = omega arith }

-- a number on the wire is one of the kind
numeric_sound : (shape : Shape) (k : Kind) (v : ℕ) → is_packable k ≡ true → is_float k ≡ false → v < limit (form_of k) → IsElement shape k (numeric k v)
numeric_sound shape kind.Double v p f lt = absurd cc
numeric_sound shape kind.Float v p f lt = absurd cc
numeric_sound shape kind.Int32 v p f lt = read_sfits w32 (v % 2 ^ 32)
numeric_sound shape kind.Int64 v p f lt = read_sfits w64 v
numeric_sound shape kind.Uint32 v p f lt = omega arith
numeric_sound shape kind.Uint64 v p f lt = lt
numeric_sound shape kind.Sint32 v p f lt = unzigzag_fits w32 (v % 2 ^ 32) (omega arith)
numeric_sound shape kind.Sint64 v p f lt = unzigzag_fits w64 v (omega (arith, lt))
numeric_sound shape kind.Fixed32 v p f lt = lt
numeric_sound shape kind.Fixed64 v p f lt = lt
numeric_sound shape kind.Sfixed32 v p f lt = read_sfits w32 v
numeric_sound shape kind.Sfixed64 v p f lt = read_sfits w64 v
numeric_sound shape kind.Bool v p f lt = refl
numeric_sound shape kind.String v p f lt = absurd cc
numeric_sound shape kind.Bytes v p f lt = absurd cc
numeric_sound shape (kind.Message t) v p f lt = absurd cc
numeric_sound shape (kind.Enum e) v p f lt = read_sfits w32 (v % 2 ^ 32)

numeric_flat : (k : Kind) (v : ℕ) → val_depth (numeric k v) ≡ 0
numeric_flat kind.Int32 v = refl
numeric_flat kind.Int64 v = refl
numeric_flat kind.Uint32 v = refl
numeric_flat kind.Sint32 v = refl
numeric_flat kind.Sint64 v = refl
numeric_flat kind.Sfixed32 v = refl
numeric_flat kind.Sfixed64 v = refl
numeric_flat kind.Bool v = refl
numeric_flat (kind.Enum e) v = refl
numeric_flat k v = refl

-- ---- payloads

-- a content with these fields, as `IsSound` says it of a type's
abbrev pub IsSoundIn : Shape → List FieldShape → Content → Type 0
IsSoundIn shape gs c = IsAscending (fields c) × AreSound shape gs (fields c) × IsTrue (has_one_member gs (fields c)) × AreKept gs (kept c)

pub sound_in : (shape : Shape) (t : ℕ) (c : Content) → IsSound shape t c → IsSoundIn shape (fields_of shape t) c
sound_in shape t (content fs ks) h = h

pub sound_of : (shape : Shape) (t : ℕ) (c : Content) → IsSoundIn shape (fields_of shape t) c → IsSound shape t c
sound_of shape t (content fs ks) h = h

-- fields that ascend, with keys of good kinds
pub record IsType (gs : List FieldShape) : Type 0 where
  pub ascends : AreAbove 0 gs
  pub keyed : IsTrue (list_all (λ (f : FieldShape). has_good_keys f.cardinality) gs)

-- what payloads mean behind a content that may be one is so, and nests no more than m
pub record Keeps (shape : Shape) (m : ℕ) (inner : InnerOnto) : Type 0 where
  pub keeps : (gs : List FieldShape) (c d : Content) (bs : List (List ℕ)) → IsType gs → IsSoundIn shape gs c → depth c ≤ m
      → inner gs c bs ≡ Some d
      → IsSoundIn shape gs d × (depth d ≤ m) × (0 < m)

pub nothing_sound : (shape : Shape) (gs : List FieldShape) → IsSoundIn shape gs empty
nothing_sound shape gs = (tt, tt, outer gs, record { unread = refl; numbered = refl; fit = refl })
  where
    no_both : (a : Bool) → not (a && false && false) ≡ true
    no_both true = refl
    no_both false = refl

    inside : (f : FieldShape) (hs : List FieldShape) → list_all (λ g. not (is_other f g && has f.number no_fields && has g.number no_fields)) hs ≡ true
    inside f [] = refl
    inside f (h ∷ hs) = rw (no_both (is_other f h), inside f hs) refl

    outer : (hs : List FieldShape) → list_all (λ f. list_all (λ g. not (is_other f g && has f.number no_fields && has g.number no_fields)) gs) hs ≡ true
    outer [] = refl
    outer (h ∷ hs) = rw (inside h gs, outer hs) refl

-- ---- one value

-- a value of the kind that nests at most so many levels
abbrev pub IsValue : Shape → ℕ → Kind → Val → Type 0
IsValue shape n k v = IsElement shape k v × (val_depth v ≤ n)

text_sound : (shape : Shape) (n : ℕ) (b : List ℕ) (v : Val) → as_text b ≡ Some v → IsValue shape n kind.String v
text_sound shape n b v e = at (is_utf8 b) refl e
  where
    at : (c : Bool) → is_utf8 b ≡ c → (if c then Some (text b) else None) ≡ Some v → IsValue shape n kind.String v
    at true d e = let is : text b ≡ v = cc in subst (IsValue shape n kind.String) is ((refl, d), omega arith)
    at false d e = absurd cc

pub mapped_is : {A B : Type 0} (g : A → B) (o : Option A) (y : B) → option_map g o ≡ Some y → (x : A) × (o ≡ Some x) × (g x ≡ y)
mapped_is g None y e = absurd cc
mapped_is g (Some x) y e = (x, refl, cc)

pub bound_is : {A B : Type 0} (g : A → Option B) (o : Option A) (y : B) → option_and_then g o ≡ Some y → (x : A) × (o ≡ Some x) × (g x ≡ Some y)
bound_is g None y e = absurd cc
bound_is g (Some x) y e = (x, refl, e)

number_sound : (shape : Shape) (n m : ℕ) (k : Kind) (r : Rec) (v : Val) → is_packable k ≡ true → is_float k ≡ false → IsGood m r
    → option_map (numeric k) (number_in (form_of k) r) ≡ Some v → IsValue shape n k v
number_sound shape n m k r v p f good e =
    let x = mapped_is (numeric k) (number_in (form_of k) r) v e in
    subst (IsValue shape n k) x.2 (numeric_sound shape k x.0 p f (number_fits (form_of k) r x.0 good.fit x.1), omega (arith, numeric_flat k x.0))

pub types : (shape : Shape) → IsProper shape → (t : ℕ) → IsType (fields_of shape t)
types shape proper t =
    record {
      ascends = fields_ascend shape proper t;
      keyed = all-by_number (λ (f : FieldShape). has_good_keys f.cardinality) (declared_of shape t) (proper.types t).keyed;
    }

alone_sound : (shape : Shape) (m n : ℕ) (inner : InnerOnto) → IsProper shape → Keeps shape m inner → (k : Kind) (r : Rec) (v : Val) → IsGood n r
    → alone shape (from_empty inner) k r ≡ Some v → IsValue shape (suc m) k v
alone_sound shape m n inner proper ks kind.Double r v g e = absurd cc
alone_sound shape m n inner proper ks kind.Float r v g e = absurd cc
alone_sound shape m n inner proper ks kind.String r v g e = let b = bound_is as_text (bytes_of r) v e in text_sound shape (suc m) b.0 v b.2
alone_sound shape m n inner proper ks kind.Bytes r v g e =
    let b = mapped_is octets (bytes_of r) v e in
    subst (IsValue shape (suc m) kind.Bytes) b.2 (refl, omega arith)
alone_sound shape m n inner proper ks (kind.Message t) r v g e =
    let b = bound_is (λ b. option_map message (inner (fields_of shape t) empty (b ∷ []))) (bytes_of r) v e in
    let c = mapped_is message (inner (fields_of shape t) empty (b.0 ∷ [])) v b.2 in
    let is =
    ks.keeps (fields_of shape t) empty c.0 (b.0 ∷ []) (types shape proper t) (nothing_sound shape (fields_of shape t))
    (omega arith) c.1 in
    subst (IsValue shape (suc m) (kind.Message t)) c.2 ((t, refl, sound_of shape t c.0 is.0), omega (arith, is.1))
alone_sound shape m n inner proper ks kind.Int32 r v g e = number_sound shape (suc m) n kind.Int32 r v refl refl g e
alone_sound shape m n inner proper ks kind.Int64 r v g e = number_sound shape (suc m) n kind.Int64 r v refl refl g e
alone_sound shape m n inner proper ks kind.Uint32 r v g e = number_sound shape (suc m) n kind.Uint32 r v refl refl g e
alone_sound shape m n inner proper ks kind.Uint64 r v g e = number_sound shape (suc m) n kind.Uint64 r v refl refl g e
alone_sound shape m n inner proper ks kind.Sint32 r v g e = number_sound shape (suc m) n kind.Sint32 r v refl refl g e
alone_sound shape m n inner proper ks kind.Sint64 r v g e = number_sound shape (suc m) n kind.Sint64 r v refl refl g e
alone_sound shape m n inner proper ks kind.Fixed32 r v g e = number_sound shape (suc m) n kind.Fixed32 r v refl refl g e
alone_sound shape m n inner proper ks kind.Fixed64 r v g e = number_sound shape (suc m) n kind.Fixed64 r v refl refl g e
alone_sound shape m n inner proper ks kind.Sfixed32 r v g e = number_sound shape (suc m) n kind.Sfixed32 r v refl refl g e
alone_sound shape m n inner proper ks kind.Sfixed64 r v g e = number_sound shape (suc m) n kind.Sfixed64 r v refl refl g e
alone_sound shape m n inner proper ks kind.Bool r v g e = number_sound shape (suc m) n kind.Bool r v refl refl g e
alone_sound shape m n inner proper ks (kind.Enum x) r v g e = number_sound shape (suc m) n (kind.Enum x) r v refl refl g e

-- the elements of a record
spread_sound : (shape : Shape) (m n : ℕ) (inner : InnerOnto) → IsProper shape → Keeps shape m inner → (k : Kind) → is_float k ≡ false
    → (r : Rec) (vs : List Val) → IsGood n r → spread shape (from_empty inner) k r ≡ Some vs
    → AllByRecursion (IsValue shape (suc m) k) vs
spread_sound shape m n inner proper ks k plain r vs g e = at (is_packable k) refl (bytes_of r) refl e
  where
    alone_one : one (alone shape (from_empty inner) k r) ≡ Some vs → AllByRecursion (IsValue shape (suc m) k) vs
    alone_one e =
        let v = mapped_is (λ w. w ∷ []) (alone shape (from_empty inner) k r) vs e in
        subst (AllByRecursion (IsValue shape (suc m) k)) v.2 (alone_sound shape m n inner proper ks k r v.0 g v.1, tt)

    at : (b : Bool) → is_packable k ≡ b → (o : Option (List ℕ)) → bytes_of r ≡ o
        → (if b then or_packed k (one (alone shape (from_empty inner) k r)) o else one (alone shape (from_empty inner) k r)) ≡ Some vs
        → AllByRecursion (IsValue shape (suc m) k) vs
    at false p o d e = alone_one e
    at true p None d e = alone_one e
    at true p (Some b) d e =
        let ns = mapped_is (map (numeric k)) (numbers_in (form_of k) b) vs e in
        subst (AllByRecursion (IsValue shape (suc m) k)) ns.2
        (all-map (IsValue shape (suc m) k) (λ v. v < limit (form_of k)) (numeric k)
        (λ v lt. (numeric_sound shape k v p plain lt, omega (arith, numeric_flat k v))) ns.0 (numbers_fit (form_of k) b ns.0 ns.1))

-- ---- lists

elements_all : (shape : Shape) (n : ℕ) (k : Kind) (vs : Vals) → AreElements shape k vs → vals_depth vs ≤ n → AllByRecursion (IsValue shape n k) (list_of vs)
elements_all shape n k no_vals h d = tt
elements_all shape n k (val v vs) h d = ((h.0, omega (arith, d)), elements_all shape n k vs h.1 (omega (arith, d)))

all_elements : (shape : Shape) (n : ℕ) (k : Kind) (vs : List Val) → AllByRecursion (IsValue shape n k) vs
    → AreElements shape k (vals_of vs) × (vals_depth (vals_of vs) ≤ n)
all_elements shape n k [] h = (tt, omega arith)
all_elements shape n k (v ∷ vs) h =
    let rest = all_elements shape n k vs h.1 in
    ((h.0.0, rest.0), omega (arith, h.0.1, rest.1))

-- a value that the field may have, and that nests at most so many levels
abbrev pub IsFor : Shape → ℕ → FieldShape → Val → Type 0
IsFor shape n f v = IsSoundAt shape (Some f) v × (val_depth v ≤ n)

-- if there is one
abbrev pub MayBe : Shape → ℕ → FieldShape → Option Val → Type 0
MayBe shape n f o = (v : Val) → o ≡ Some v → IsFor shape n f v

pub no_value : (shape : Shape) (n : ℕ) (f : FieldShape) → MayBe shape n f None
no_value shape n f v e = absurd cc

had_elements : (shape : Shape) (n : ℕ) (f : FieldShape) (old : Option Val) → MayBe shape n f old → AllByRecursion (IsValue shape n f.kind) (elements old)
had_elements shape n f None h = tt
had_elements shape n f (Some (number z)) h = tt
had_elements shape n f (Some (truth b)) h = tt
had_elements shape n f (Some (text s)) h = tt
had_elements shape n f (Some (octets b)) h = tt
had_elements shape n f (Some (message c)) h = tt
had_elements shape n f (Some (many vs)) h = let is = h (many vs) refl in elements_all shape n f.kind vs is.0.2 is.1
had_elements shape n f (Some (keyed ps)) h = tt

-- what is shown without presence is no default
shown_is : (shape : Shape) (k : Kind) (w v : Val) → shown shape false k (Some w) ≡ Some v → (w ≡ v) × (is_default shape k w ≡ false)
shown_is shape k w v e = at (is_default shape k w) e
  where
    at : (b : Bool) → (if b then None else Some w) ≡ Some v → (w ≡ v) × (b ≡ false)
    at true e = absurd cc
    at false e = (cc, refl)

list_sound : (shape : Shape) (m n : ℕ) (inner : InnerOnto) → IsProper shape → Keeps shape m inner → (f : FieldShape) → is_float f.kind ≡ false
    → f.cardinality ≡ Repeated → (old o : Option Val) (rs : List Rec) → MayBe shape (suc m) f old
    → AreGood n rs → onto_by_cardinality shape inner f Repeated old rs ≡ Some o → MayBe shape (suc m) f o
list_sound shape m n inner proper ks f plain c old o rs had g e v is =
    let vss =
    mapped_is (λ vs. shown shape false f.kind (Some (many (vals_of (elements old ++ flat vs))))) (each (spread shape (from_empty inner) f.kind) rs) o e in
    let new = all-flat (IsValue shape (suc m) f.kind) vss.0
    (all-each (IsGood n) (AllByRecursion (IsValue shape (suc m) f.kind)) (spread shape (from_empty inner) f.kind)
    (λ r vs good d. spread_sound shape m n inner proper ks f.kind plain r vs good d) rs vss.0 g vss.1) in
    let every =
    all_elements shape (suc m) f.kind (elements old ++ flat vss.0)
    (all-append (IsValue shape (suc m) f.kind) (elements old) (flat vss.0) (had_elements shape (suc m) f old had) new) in
    let made = shown_is shape f.kind (many (vals_of (elements old ++ flat vss.0))) v (vss.2 ∙ is) in
    subst (IsFor shape (suc m) f) made.0 ((c, made.1, every.0), every.1)

-- ---- fields of at most one value

from_element : (shape : Shape) (f : FieldShape) (v : Val) → f.cardinality ≡ Singular → IsShown shape f v → IsElement shape f.kind v
    → IsSoundAt shape (Some f) v
from_element shape f (number z) c s h = (c, s, h)
from_element shape f (truth b) c s h = (c, s, h)
from_element shape f (text t) c s h = (c, s, h.0, h.1)
from_element shape f (octets b) c s h = (c, s, h)
from_element shape f (message d) c s h = (c, h)
from_element shape f (many vs) c s h = absurd h
from_element shape f (keyed ps) c s h = absurd h

pub single_element : (shape : Shape) (f : FieldShape) (v : Val) → f.cardinality ≡ Singular → IsSoundAt shape (Some f) v → IsElement shape f.kind v
single_element shape f (number z) c h = h.2
single_element shape f (truth b) c h = h.2
single_element shape f (text t) c h = (h.2, h.3)
single_element shape f (octets b) c h = h.2
single_element shape f (message d) c h = h.1
single_element shape f (many vs) c h = absurd (let bad : Repeated ≡ Singular = sym h.0 ∙ c in cc)
single_element shape f (keyed ps) c h = absurd (let bad : Map h.1.0 ≡ Singular = sym h.1.1 ∙ c in cc)

shown_for : (shape : Shape) (f : FieldShape) (w v : Val) → shown shape f.presence f.kind (Some w) ≡ Some v → (w ≡ v) × IsShown shape f v
shown_for shape f w v = at f.presence refl (is_default shape f.kind w) refl
  where
    at : (b : Bool) → f.presence ≡ b → (d : Bool) → is_default shape f.kind w ≡ d → (if b then Some w else (if d then None else Some w)) ≡ Some v
        → (w ≡ v) × IsShown shape f v
    at true p d q e = (cc, inl p)
    at false p true q e = absurd cc
    at false p false q e = let is : w ≡ v = cc in (is, inr (ap (is_default shape f.kind) (sym is) ∙ q))

latest_sound : (shape : Shape) (n : ℕ) (f : FieldShape) (old : Option Val) (vs : List Val) → f.cardinality ≡ Singular → MayBe shape n f old
    → AllByRecursion (IsValue shape n f.kind) vs
    → MayBe shape n f (latest shape f old (last_of vs))
latest_sound shape n f old vs c had h = at (last_of vs) refl
  where
    at : (l : Option Val) → last_of vs ≡ l → MayBe shape n f (latest shape f old l)
    at None d = had
    at (Some w) d = λ v e.
        let is = shown_for shape f w v e in
        let good : IsValue shape n f.kind v = subst (IsValue shape n f.kind) is.0 (all-last (IsValue shape n f.kind) vs w h d) in
        (from_element shape f v c is.1 good.0, good.1)

-- what the message that stands there holds, if it stands there
held_sound : (shape : Shape) (m t : ℕ) (f : FieldShape) (old : Option Val) → f.kind ≡ kind.Message t → MayBe shape (suc m) f old
    → IsSoundIn shape (fields_of shape t) (message_held old) × (depth (message_held old) ≤ m)
held_sound shape m t f None k h = (nothing_sound shape (fields_of shape t), omega arith)
held_sound shape m t f (Some (number z)) k h = (nothing_sound shape (fields_of shape t), omega arith)
held_sound shape m t f (Some (truth b)) k h = (nothing_sound shape (fields_of shape t), omega arith)
held_sound shape m t f (Some (text s)) k h = (nothing_sound shape (fields_of shape t), omega arith)
held_sound shape m t f (Some (octets b)) k h = (nothing_sound shape (fields_of shape t), omega arith)
held_sound shape m t f (Some (message c)) k h =
    let had = h (message c) refl in
    let same : had.0.1.0 ≡ t = (let e : kind.Message had.0.1.0 ≡ kind.Message t = sym had.0.1.1 ∙ k in cc) in
    (sound_in shape t c (subst (λ u. IsSound shape u c) same had.0.1.2), omega (arith, had.1))
held_sound shape m t f (Some (many vs)) k h = (nothing_sound shape (fields_of shape t), omega arith)
held_sound shape m t f (Some (keyed ps)) k h = (nothing_sound shape (fields_of shape t), omega arith)

joined_sound : (shape : Shape) (m t : ℕ) (inner : InnerOnto) → IsProper shape → Keeps shape m inner → (f : FieldShape) → f.cardinality ≡ Singular
    → f.kind ≡ kind.Message t → (old o : Option Val) (bs : List (List ℕ)) → MayBe shape (suc m) f old
    → joined_onto inner (fields_of shape t) old bs ≡ Some o → MayBe shape (suc m) f o
joined_sound shape m t inner proper ks f c k old o [] had e = let is : old ≡ o = cc in subst (MayBe shape (suc m) f) is had
joined_sound shape m t inner proper ks f c k old o (b ∷ bs) had e = λ v is.
    let d = mapped_is (λ c. Some (message c)) (inner (fields_of shape t) (message_held old) (b ∷ bs)) o e in
    let before = held_sound shape m t f old k had in
    let after = ks.keeps (fields_of shape t) (message_held old) d.0 (b ∷ bs) (types shape proper t) before.0 before.1 d.1 in
    let made : message d.0 ≡ v = (let q : Some (message d.0) ≡ Some v = d.2 ∙ is in cc) in
    subst (IsFor shape (suc m) f) made ((c, (t, k, sound_of shape t d.0 after.0)), omega (arith, after.1))

plain_alone : (shape : Shape) (inner : Inner) (k : Kind) (r : Rec) → is_plain k ≡ true → alone shape no_inner k r ≡ alone shape inner k r
plain_alone shape inner (kind.Message t) r e = absurd cc
plain_alone shape inner k r e = refl

singular_sound : (shape : Shape) (m n : ℕ) (inner : InnerOnto) → IsProper shape → Keeps shape m inner → (f : FieldShape) → f.cardinality ≡ Singular
    → (old o : Option Val) (rs : List Rec) → MayBe shape (suc m) f old → AreGood n rs
    → singular_onto shape inner f f.kind old rs ≡ Some o → MayBe shape (suc m) f o
singular_sound shape m n inner proper ks f c old o rs had g = at (is_plain f.kind) refl
  where
    at : (b : Bool) → is_plain f.kind ≡ b → singular_onto shape inner f f.kind old rs ≡ Some o → MayBe shape (suc m) f o
    at true p e =
        let vs =
        mapped_is (λ vs. latest shape f old (last_of vs)) (each (alone shape no_inner f.kind) rs) o (sym (plain_onto shape inner f f.kind old rs p) ∙ e) in
        let good = all-each (IsGood n) (IsValue shape (suc m) f.kind) (alone shape no_inner f.kind)
        (λ r v good d. alone_sound shape m n inner proper ks f.kind r v good (sym (plain_alone shape (from_empty inner) f.kind r p) ∙ d)) rs vs.0 g vs.1 in
        subst (MayBe shape (suc m) f) vs.2 (latest_sound shape (suc m) f old vs.0 c had good)
    at false p e =
        let t = no_plain f.kind p in
        let bs = bound_is (joined_onto inner (fields_of shape t.0) old) (each bytes_of rs) o (rw t.1 at e) in
        joined_sound shape m t.0 inner proper ks f c t.1 old o bs.0 had bs.2

-- ---- keys

key_number : (k : Kind) (z : ℤ) → is_key_kind k ≡ true → IsNumber k z → IsKeyOf k (number_key z)
key_number kind.Bool z e h = absurd h
key_number kind.String z e h = absurd h
key_number (kind.Enum x) z e h = absurd cc
key_number k z e h = h

key_sound : (shape : Shape) (k : Kind) (v : Val) → is_key_kind k ≡ true → IsElement shape k v → IsKeyOf k (key_in v)
key_sound shape k (number z) e h = key_number k z e h
key_sound shape k (truth b) e h = subst (λ k. IsKeyOf k (truth_key b)) (sym h) tt
key_sound shape k (text s) e h = subst (λ k. IsKeyOf k (text_key s)) (sym h.0) h.1
key_sound shape k (octets b) e h = absurd (let bad : false ≡ true = sym (ap is_key_kind h) ∙ e in cc)
key_sound shape k (message c) e h = absurd (let bad : false ≡ true = sym (ap is_key_kind h.1) ∙ e in cc)
key_sound shape k (many vs) e h = absurd h
key_sound shape k (keyed ps) e h = absurd h

no_float_key : (k : Kind) → is_key_kind k ≡ true → is_float k ≡ false
no_float_key kind.Double e = absurd cc
no_float_key kind.Float e = absurd cc
no_float_key k e = refl

zero_sound : (shape : Shape) → IsProper shape → (k : Kind) → is_float k ≡ false → IsElement shape k (zero_of shape k)
unfolding is_utf8 chars encode
zero_sound shape proper kind.Double f = absurd cc
zero_sound shape proper kind.Float f = absurd cc
zero_sound shape proper kind.Bool f = refl
zero_sound shape proper kind.String f = (refl, refl)
zero_sound shape proper kind.Bytes f = refl
zero_sound shape proper (kind.Message t) f = (t, refl, sound_of shape t empty (nothing_sound shape (fields_of shape t)))
zero_sound shape proper (kind.Enum e) f = proper.enums e
zero_sound shape proper kind.Uint32 f = omega arith
zero_sound shape proper kind.Uint64 f = omega arith
zero_sound shape proper kind.Fixed32 f = omega arith
zero_sound shape proper kind.Fixed64 f = omega arith
zero_sound shape proper k f = record { sfits = omega arith }

zero_depth : (shape : Shape) (k : Kind) → val_depth (zero_of shape k) ≤ 1
zero_depth shape kind.Bool = omega arith
zero_depth shape kind.String = omega arith
zero_depth shape kind.Bytes = omega arith
zero_depth shape (kind.Message t) = omega arith
zero_depth shape (kind.Enum e) = omega arith
zero_depth shape k = omega arith

-- ---- pairs

before_with : (l k : Key) (v : Val) (ps : Pairs) → key_before l k ≡ true → IsBefore l ps → IsBefore l (with_pair k v ps)
before_with l k v no_pairs e h = e
before_with l k v (pair m u qs) e h = at (key_before k m) (key_before m k)
  where
    at : (a b : Bool) → IsBefore l (if a then pair k v (pair m u qs) else (if b then pair m u (with_pair k v qs) else pair m u qs))
    at true b = e
    at false true = h
    at false false = h

-- a key and a value of these kinds, as a pair that nests at most so many levels
abbrev IsPairIn : Shape → ℕ → Kind → Kind → Key × Val → Type 0
IsPairIn shape n key k p = IsKeyOf key p.0 × IsElement shape k p.1 × (val_depth p.1 + 1 ≤ n)

pairs_with : (shape : Shape) (n : ℕ) (key k : Kind) (l : Key) (v : Val) (ps : Pairs) → IsKeyOf key l → IsElement shape k v → val_depth v + 1 ≤ n
    → ArePairs shape key k ps → pairs_depth ps ≤ n
    → ArePairs shape key k (with_pair l v ps) × (pairs_depth (with_pair l v ps) ≤ n)
pairs_with shape n key k l v no_pairs a b c h d = ((a, b, tt, tt), omega arith)
pairs_with shape n key k l v (pair m u qs) a b c h d = at (key_compared l m) (pairs_with shape n key k l v qs a b c h.3 (omega (arith, d)))
  where
    at : Compared key_before l m → ArePairs shape key k (with_pair l v qs) × (pairs_depth (with_pair l v qs) ≤ n)
        → ArePairs shape key k (with_pair l v (pair m u qs)) × (pairs_depth (with_pair l v (pair m u qs)) ≤ n)
    at (first p q) ih = rw p ((a, b, p, h), omega (arith, d))
    at (later p q) ih = rw (q, p) ((h.0, h.1, before_with m l v qs p h.2, ih.0), omega (arith, d, ih.1))
    at (same e p q) ih = rw (p, q) (h, d)

pairs_sound : (shape : Shape) (n : ℕ) (key k : Kind) (ps : List (Key × Val)) → AllByRecursion (IsPairIn shape n key k) ps
    → ArePairs shape key k (by_key ps) × (pairs_depth (by_key ps) ≤ n)
pairs_sound shape n key k [] h = (tt, omega arith)
pairs_sound shape n key k (p ∷ ps) h =
    let rest = pairs_sound shape n key k ps h.1 in
    pairs_with shape n key k p.0 p.1 (by_key ps) h.0.0 h.0.1 h.0.2 rest.0 rest.1

pairs_all : (shape : Shape) (n : ℕ) (key k : Kind) (ps : Pairs) → ArePairs shape key k ps → pairs_depth ps ≤ n
    → AllByRecursion (IsPairIn shape n key k) (pair_list ps)
pairs_all shape n key k no_pairs h d = tt
pairs_all shape n key k (pair l v ps) h d = ((h.0, h.1, omega (arith, d)), pairs_all shape n key k ps h.3 (omega (arith, d)))

had_pairs : (shape : Shape) (n : ℕ) (key : Kind) (f : FieldShape) (old : Option Val) → f.cardinality ≡ Map key → MayBe shape n f old
    → AllByRecursion (IsPairIn shape n key f.kind) (pairs_held old)
had_pairs shape n key f None c h = tt
had_pairs shape n key f (Some (number z)) c h = tt
had_pairs shape n key f (Some (truth b)) c h = tt
had_pairs shape n key f (Some (text s)) c h = tt
had_pairs shape n key f (Some (octets b)) c h = tt
had_pairs shape n key f (Some (message d)) c h = tt
had_pairs shape n key f (Some (many vs)) c h = tt
had_pairs shape n key f (Some (keyed ps)) c h =
    let had = h (keyed ps) refl in
    let same : had.0.1.0 ≡ key = (let e : Map had.0.1.0 ≡ Map key = sym had.0.1.1 ∙ c in cc) in
    pairs_all shape n key f.kind ps (subst (λ x. ArePairs shape x f.kind ps) same had.0.1.2) had.1

pub get_sound : (shape : Shape) (gs : List FieldShape) (n : ℕ) (fs : Fields) (v : Val) → AreSound shape gs fs → get n fs ≡ Some v
    → IsSoundAt shape (field_of n gs) v × (val_depth v ≤ fields_depth fs)
get_sound shape gs n no_fields v h e = absurd cc
get_sound shape gs n (field m w fs) v h e = at (n == m) refl e (get_sound shape gs n fs v h.1)
  where
    at : (b : Bool) → (n == m) ≡ b → (if b then Some w else get n fs) ≡ Some v
        → (get n fs ≡ Some v → IsSoundAt shape (field_of n gs) v × (val_depth v ≤ fields_depth fs))
        → IsSoundAt shape (field_of n gs) v × (val_depth v ≤ max (val_depth w) (fields_depth fs))
    at true d e ih =
        let here : m ≡ n = grind (arith, nat_tests) in
        let is : w ≡ v = cc in (
          subst (λ k. IsSoundAt shape (field_of k gs) v) here (subst (IsSoundAt shape (field_of m gs)) is h.0),
          subst (λ x. val_depth x ≤ max (val_depth w) (fields_depth fs)) is (omega arith),
        )
    at false d e ih = let rest = ih e in (rest.0, omega (arith, rest.1))

entry_type : (key value : Kind) → IsType (entry_fields key value)
entry_type key value = record { ascends = (omega arith, (omega arith, tt)); keyed = refl }

pair_sound : (shape : Shape) (m : ℕ) (key value : Kind) (c : Content) → IsProper shape → is_key_kind key ≡ true → is_float value ≡ false
    → IsSoundIn shape (entry_fields key value) c → depth c ≤ m → 0 < m
    → IsPairIn shape (suc m) key value (pair_in shape key value c)
pair_sound shape m key value (content fs ks) proper k plain h d lt =
    let v = of_value (get 2 fs) refl in
    (of_key (get 1 fs) refl, v.0, v.1)
  where
    of_key : (o : Option Val) → get 1 fs ≡ o → IsKeyOf key (key_in (or_else o (zero_of shape key)))
    of_key None e = key_sound shape key (zero_of shape key) k (zero_sound shape proper key (no_float_key key k))
    of_key (Some v) e =
        let is = get_sound shape (entry_fields key value) 1 fs v h.1 e in
        key_sound shape key v k (single_element shape (entry_field 1 (codes "key") key) v refl is.0)

    of_value : (o : Option Val) → get 2 fs ≡ o
        → IsElement shape value (or_else o (zero_of shape value)) × (val_depth (or_else o (zero_of shape value)) + 1 ≤ suc m)
    of_value None e = (zero_sound shape proper value plain, omega (arith, zero_depth shape value))
    of_value (Some v) e =
        let is = get_sound shape (entry_fields key value) 2 fs v h.1 e in
        (single_element shape (entry_field 2 (codes "value") value) v refl is.0, omega (arith, is.1, d))

-- an entry of a map of these kinds
abbrev IsEntry : Shape → ℕ → Kind → Kind → Content → Type 0
IsEntry shape m key k c = IsSoundIn shape (entry_fields key k) c × (depth c ≤ m) × (0 < m)

map_sound : (shape : Shape) (m n : ℕ) (inner : InnerOnto) → IsProper shape → Keeps shape m inner → (key : Kind) → is_key_kind key ≡ true → (f : FieldShape)
    → is_float f.kind ≡ false → f.cardinality ≡ Map key → (old o : Option Val) (rs : List Rec)
    → MayBe shape (suc m) f old → AreGood n rs → onto_by_cardinality shape inner f (Map key) old rs ≡ Some o → MayBe shape (suc m) f o
map_sound shape m n inner proper ks key good f plain c old o rs had g e v is =
    let cs =
    mapped_is (λ cs. shown shape false f.kind (Some (keyed (by_key (pairs_held old ++ map (pair_in shape key f.kind) cs)))))
    (each (entry_in (from_empty inner) key f.kind) rs) o e in
    let entries = all-each (IsGood n) (IsEntry shape m key f.kind) (entry_in (from_empty inner) key f.kind) entry rs cs.0 g cs.1 in
    let new =
    all-map (IsPairIn shape (suc m) key f.kind) (IsEntry shape m key f.kind) (pair_in shape key f.kind)
    (λ c h. pair_sound shape m key f.kind c proper good plain h.0 h.1 h.2) cs.0 entries in
    let every = pairs_sound shape (suc m) key f.kind (pairs_held old ++ map (pair_in shape key f.kind) cs.0)
    (all-append (IsPairIn shape (suc m) key f.kind) (pairs_held old) (map (pair_in shape key f.kind) cs.0) (had_pairs shape (suc m) key f old c had) new) in
    let made = shown_is shape f.kind (keyed (by_key (pairs_held old ++ map (pair_in shape key f.kind) cs.0))) v (cs.2 ∙ is) in
    subst (IsFor shape (suc m) f) made.0 ((made.1, (key, c, every.0)), every.1)
  where
    entry : (r : Rec) (c : Content) → IsGood n r → entry_in (from_empty inner) key f.kind r ≡ Some c → IsEntry shape m key f.kind c
    entry r c g e =
        let b = bound_is (λ b. inner (entry_fields key f.kind) empty (b ∷ [])) (bytes_of r) c e in
        ks.keeps (entry_fields key f.kind) empty c (b.0 ∷ []) (entry_type key f.kind) (nothing_sound shape (entry_fields key f.kind))
        (omega arith) b.2

-- What records of a field give behind a value that it may have, it may have.
pub value_sound : (shape : Shape) (m n : ℕ) (inner : InnerOnto) → IsProper shape → Keeps shape m inner → (f : FieldShape) → has_good_keys f.cardinality ≡ true
    → (old o : Option Val) (rs : List Rec) → MayBe shape (suc m) f old → AreGood n rs
    → value_onto shape inner f old rs ≡ Some o → MayBe shape (suc m) f o
value_sound shape m n inner proper ks f good old o rs had g e = at (is_float f.kind) refl e
  where
    by : is_float f.kind ≡ false → (c : Cardinality) → f.cardinality ≡ c → onto_by_cardinality shape inner f c old rs ≡ Some o → MayBe shape (suc m) f o
    by plain Singular c e = singular_sound shape m n inner proper ks f c old o rs had g e
    by plain Repeated c e = list_sound shape m n inner proper ks f plain c old o rs had g e
    by plain (Map key) c e = map_sound shape m n inner proper ks key (sym (ap has_good_keys c) ∙ good) f plain c old o rs had g e

    at : (b : Bool) → is_float f.kind ≡ b → (if b then Some None else onto_by_cardinality shape inner f f.cardinality old rs) ≡ Some o
        → MayBe shape (suc m) f o
    at true p e = let nothing : Option Val = None in let is : nothing ≡ o = cc in subst (MayBe shape (suc m) f) is (no_value shape (suc m) f)
    at false p e = by p f.cardinality refl e
