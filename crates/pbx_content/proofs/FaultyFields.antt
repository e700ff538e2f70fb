-- Records mean nothing exactly where one of them means nothing alone, as one of its field.
use Rattle.std.proofs.Common.{◌≡◌, ℕ, ◌<◌, Bool, true, false, ◌&&◌, if◌then◌else◌, List, [], ◌∷◌, ◌++◌, Some, None}
use Rattle.std.proofs.Common.{refl, sym, ap, ◌∙◌, arith}
use Rattle.std.proofs.Common.{append_assoc, append-nil}
use Rattle.std.specs.Prelude.{◌==◌}
use Rattle.std.specs.Option.{is_some}
use Rattle.std.specs.List.{filter}
use Rattle.std.proofs.lemmas.Bool.{eqb-true, eq-eqb, ne_eqb}
use Rattle.pbx_wire.specs.declared.rec.Rec.{Rec}
use Rattle.pbx_wire.specs.Spelling.{SpellsBelow, Spells}
use Rattle.pbx_wire.specs.Faults.{SpellsOne}
use Rattle.pbx_content.specs.declared.shape.Kind.{Kind}
use Rattle.pbx_content.specs.declared.shape.Kind.TheVariants as kind
use Rattle.pbx_content.specs.declared.shape.Cardinality.{Cardinality}
use Rattle.pbx_content.specs.declared.shape.Cardinality.TheVariants.{Singular, Repeated, Map}
use Rattle.pbx_content.specs.declared.shape.Shape.{Shape}
use Rattle.pbx_content.specs.declared.shape.FieldShape.{FieldShape}
use Rattle.pbx_content.specs.Content.{content}
use Rattle.pbx_content.specs.Records.{number_of, those_of}
use Rattle.pbx_content.specs.Shape.{field_of, is_float, is_kept}
use Rattle.pbx_content.specs.Meaning.{Inner, singular, by_cardinality, value, value_among, with_field, values, meaning}
use Rattle.pbx_content.proofs.OntoSplits.{there_map, not_there, Splits, among_there, there_both, inner_at, inner_splits, meaning_is, meaning_splits}
use Rattle.pbx_content.proofs.OntoFields.{AreAbove}

-- ---- no records

nothing_singular : (shape : Shape) (inner : Inner) (p : Bool) (k : Kind) → is_some (singular shape inner p k []) ≡ true
nothing_singular shape inner p (kind.Message t) = refl
nothing_singular shape inner p k = refl

nothing_cardinality : (shape : Shape) (inner : Inner) (f : FieldShape) (c : Cardinality) → is_some (by_cardinality shape inner f c []) ≡ true
nothing_cardinality shape inner f Singular = nothing_singular shape inner f.presence f.kind
nothing_cardinality shape inner f Repeated = refl
nothing_cardinality shape inner f (Map key) = refl

pub nothing_value : (shape : Shape) (inner : Inner) (f : FieldShape) → is_some (value shape inner f []) ≡ true
nothing_value shape inner f = at (is_float f.kind)
  where
    at : (b : Bool) → is_some (if b then Some None else by_cardinality shape inner f f.cardinality []) ≡ true
    at true = refl
    at false = nothing_cardinality shape inner f f.cardinality

nothing_values : (shape : Shape) (inner : Inner) → Splits inner → (gs hs : List FieldShape) → is_some (values shape inner gs hs []) ≡ true
nothing_values shape inner s gs [] = refl
nothing_values shape inner s gs (h ∷ hs) =
    there_both (with_field h.number) (value_among shape inner gs h []) (values shape inner gs hs [])
    ∙ ap (λ b. b && is_some (values shape inner gs hs [])) (among_there shape inner s gs h [] ∙ nothing_value shape inner h)
    ∙ nothing_values shape inner s gs hs

nothing_means : (shape : Shape) (levels : ℕ) (gs : List FieldShape) → is_some (meaning shape levels gs []) ≡ true
nothing_means shape levels gs =
    ap is_some (meaning_is shape levels gs []) ∙ there_map (λ vs. content vs (filter (is_kept gs) [])) (values shape (inner_at shape levels) gs gs [])
    ∙ nothing_values shape (inner_at shape levels) (inner_splits shape levels) gs gs

-- ---- one record

-- The record is read as one of this field, of which it is none.
pub record FailsAt (shape : Shape) (inner : Inner) (fs : List FieldShape) (r : Rec) : Type 0 where
  pub field : FieldShape
  pub found : field_of field.number fs ≡ Some field
  pub read : is_float field.kind ≡ false
  pub numbered : number_of r ≡ field.number
  pub none : value shape inner field (r ∷ []) ≡ None

pub found_above : (n j : ℕ) (hs : List FieldShape) (f : FieldShape) → AreAbove n hs → field_of j hs ≡ Some f → n < j
found_above n j [] f a e = absurd cc
found_above n j (h ∷ hs) f a e = at (j == h.number) refl e (λ d. found_above h.number j hs f a.1 d)
  where
    at : (b : Bool) → (j == h.number) ≡ b → (if b then Some h else field_of j hs) ≡ Some f → (field_of j hs ≡ Some f → h.number < j) → n < j
    at true d e ih = let same = eqb-true j h.number d in omega (arith, a.0)
    at false d e ih = let less = ih e in omega (arith, a.0)

-- a field of all is one of those behind the first
pub found_behind : (h : FieldShape) (hs : List FieldShape) (f : FieldShape) → AreAbove h.number hs → field_of f.number hs ≡ Some f
    → field_of f.number (h ∷ hs) ≡ Some f
found_behind h hs f a e =
    let less = found_above h.number f.number hs f a e in
    let apart : (f.number == h.number) ≡ false = ne_eqb f.number h.number (λ same. absurd (omega arith)) in
    rw apart e

one_of : (shape : Shape) (inner : Inner) (h : FieldShape) (r : Rec) → is_some (value shape inner h (those_of h.number (r ∷ []))) ≡ false
    → (number_of r ≡ h.number) × (is_float h.kind ≡ false) × (value shape inner h (r ∷ []) ≡ None)
one_of shape inner h r e = at (number_of r == h.number) refl e
  where
    read : (b : Bool) → is_float h.kind ≡ b → is_some (if b then Some None else by_cardinality shape inner h h.cardinality (r ∷ [])) ≡ false
        → is_float h.kind ≡ false
    read true d e = absurd cc
    read false d e = d

    at : (b : Bool) → (number_of r == h.number) ≡ b → is_some (value shape inner h (if b then r ∷ [] else [])) ≡ false
        → (number_of r ≡ h.number) × (is_float h.kind ≡ false) × (value shape inner h (r ∷ []) ≡ None)
    at true d e = (eqb-true (number_of r) h.number d, read (is_float h.kind) refl e, not_there (value shape inner h (r ∷ [])) e)
    at false d e = let some = nothing_value shape inner h in absurd cc

pub values_fail : (shape : Shape) (inner : Inner) → Splits inner → (gs hs : List FieldShape) (n : ℕ) (r : Rec) → AreAbove n hs
    → is_some (values shape inner gs hs (r ∷ [])) ≡ false → FailsAt shape inner hs r
values_fail shape inner s gs [] n r a e = absurd cc
values_fail shape inner s gs (h ∷ hs) n r a e =
    at (is_some (value shape inner h (those_of h.number (r ∷ [])))) refl
    (sym (ap (λ b. b && is_some (values shape inner gs hs (r ∷ []))) (among_there shape inner s gs h (r ∷ [])))
    ∙ sym (there_both (with_field h.number) (value_among shape inner gs h (r ∷ [])) (values shape inner gs hs (r ∷ []))) ∙ e)
    (λ d. values_fail shape inner s gs hs h.number r a.1 d)
  where
    at : (b : Bool) → is_some (value shape inner h (those_of h.number (r ∷ []))) ≡ b → b && is_some (values shape inner gs hs (r ∷ [])) ≡ false
        → (is_some (values shape inner gs hs (r ∷ [])) ≡ false → FailsAt shape inner hs r) → FailsAt shape inner (h ∷ hs) r
    at false d e ih =
        let p = one_of shape inner h r d in
        let here : (h.number == h.number) ≡ true = eq-eqb h.number h.number refl in
        record { field = h; found = rw here refl; read = p.1; numbered = p.0; none = p.2 }
    at true d e ih =
        let f = ih e in
        record { field = f.field; found = found_behind h hs f.field a.1 f.found; read = f.read; numbered = f.numbered; none = f.none }

second_false : (a b : Bool) → b ≡ false → a && b ≡ false
second_false true b e = e
second_false false b e = refl

pub fail_values : (shape : Shape) (inner : Inner) → Splits inner → (gs hs : List FieldShape) (r : Rec) → FailsAt shape inner hs r
    → is_some (values shape inner gs hs (r ∷ [])) ≡ false
fail_values shape inner s gs [] r f = let no = f.found in absurd cc
fail_values shape inner s gs (h ∷ hs) r f =
    there_both (with_field h.number) (value_among shape inner gs h (r ∷ [])) (values shape inner gs hs (r ∷ []))
    ∙ ap (λ b. b && is_some (values shape inner gs hs (r ∷ []))) (among_there shape inner s gs h (r ∷ []))
    ∙ at (f.field.number == h.number) refl f.found
    (λ e. fail_values shape inner s gs hs r (record { field = f.field; found = e; read = f.read; numbered = f.numbered; none = f.none }))
  where
    at : (b : Bool) → (f.field.number == h.number) ≡ b → (if b then Some h else field_of f.field.number hs) ≡ Some f.field
        → (field_of f.field.number hs ≡ Some f.field → is_some (values shape inner gs hs (r ∷ [])) ≡ false)
        → is_some (value shape inner h (those_of h.number (r ∷ []))) && is_some (values shape inner gs hs (r ∷ [])) ≡ false
    at true d e ih =
        let is : h ≡ f.field = cc in
        let here : (number_of r == f.field.number) ≡ true = eq-eqb (number_of r) f.field.number f.numbered in
        let none : is_some (value shape inner f.field (those_of f.field.number (r ∷ []))) ≡ false = rw (here, f.none) refl in
        let own : is_some (value shape inner h (those_of h.number (r ∷ []))) ≡ false = rw is none in
        ap (λ b. b && is_some (values shape inner gs hs (r ∷ []))) own
    at false d e ih = second_false (is_some (value shape inner h (those_of h.number (r ∷ [])))) (is_some (values shape inner gs hs (r ∷ []))) (ih e)

pub rec_fails : (shape : Shape) (levels : ℕ) (fs : List FieldShape) (r : Rec) → AreAbove 0 fs → is_some (meaning shape levels fs (r ∷ [])) ≡ false
    → FailsAt shape (inner_at shape levels) fs r
rec_fails shape levels fs r a e =
    values_fail shape (inner_at shape levels) (inner_splits shape levels) fs fs 0 r a
    (sym (there_map (λ vs. content vs (filter (is_kept fs) (r ∷ []))) (values shape (inner_at shape levels) fs fs (r ∷ [])))
    ∙ ap is_some (sym (meaning_is shape levels fs (r ∷ []))) ∙ e)

pub fail_rec : (shape : Shape) (levels : ℕ) (fs : List FieldShape) (r : Rec) → FailsAt shape (inner_at shape levels) fs r
    → is_some (meaning shape levels fs (r ∷ [])) ≡ false
fail_rec shape levels fs r f =
    ap is_some (meaning_is shape levels fs (r ∷ []))
    ∙ there_map (λ vs. content vs (filter (is_kept fs) (r ∷ []))) (values shape (inner_at shape levels) fs fs (r ∷ []))
    ∙ fail_values shape (inner_at shape levels) (inner_splits shape levels) fs fs r f

-- ---- one of many

-- the first record that means nothing alone
pub record FailsFirst (shape : Shape) (levels : ℕ) (fs : List FieldShape) (rs : List Rec) : Type 0 where
  pub before : List Rec
  pub rec : Rec
  pub rest : List Rec
  pub parts : rs ≡ before ++ (rec ∷ rest)
  pub meant : is_some (meaning shape levels fs before) ≡ true
  pub none : is_some (meaning shape levels fs (rec ∷ [])) ≡ false

pub first_fails : (shape : Shape) (levels : ℕ) (fs : List FieldShape) (rs : List Rec) → is_some (meaning shape levels fs rs) ≡ false
    → FailsFirst shape levels fs rs
first_fails shape levels fs [] e = let some = nothing_means shape levels fs in absurd cc
first_fails shape levels fs (r ∷ rs) e =
    at (is_some (meaning shape levels fs (r ∷ []))) refl (sym (meaning_splits shape levels fs (r ∷ []) rs) ∙ e) (first_fails shape levels fs rs)
  where
    at : (b : Bool) → is_some (meaning shape levels fs (r ∷ [])) ≡ b → b && is_some (meaning shape levels fs rs) ≡ false
        → (is_some (meaning shape levels fs rs) ≡ false → FailsFirst shape levels fs rs) → FailsFirst shape levels fs (r ∷ rs)
    at false d e ih = record { before = []; rec = r; rest = rs; parts = refl; meant = nothing_means shape levels fs; none = d }
    at true d e ih =
        let f = ih e in
        record {
          before = r ∷ f.before;
          rec = f.rec;
          rest = f.rest;
          parts = ap (λ (t : List Rec). r ∷ t) f.parts;
          meant = meaning_splits shape levels fs (r ∷ []) f.before ∙ rw (d, f.meant) refl;
          none = f.none;
        }

-- ---- the bytes of a record among others

pub record SpelledAt (levels : ℕ) (bytes : List ℕ) (rs : List Rec) (r : Rec) (ss : List Rec) : Type 0 where
  pub before : List ℕ
  pub first : List ℕ
  pub rest : List ℕ
  pub earlier : Spells levels before rs
  pub one : SpellsOne levels first r
  pub later : Spells levels rest ss
  pub parts : bytes ≡ before ++ (first ++ rest)

pub spelled_at : (levels : ℕ) (bytes : List ℕ) (rs : List Rec) (r : Rec) (ss : List Rec) → Spells levels bytes (rs ++ (r ∷ ss)) → SpelledAt levels bytes rs r ss
unfolding SpellsBelow
spelled_at levels bytes [] r ss (first, rest, one, later, parts) =
    record { before = []; first = first; rest = rest; earlier = refl; one = one; later = later; parts = parts }
spelled_at levels bytes (q ∷ rs) r ss (front, more, own, all, parts) =
    let s = spelled_at levels more rs r ss all in
    record {
      before = front ++ s.before;
      first = s.first;
      rest = s.rest;
      earlier = (front, s.before, own, s.earlier, refl);
      one = s.one;
      later = s.later;
      parts = parts ∙ ap (λ (t : List ℕ). front ++ t) s.parts ∙ sym (append_assoc front s.before (s.first ++ s.rest));
    }

pub spelled_both : (levels : ℕ) (a b : List ℕ) (rs ss : List Rec) → Spells levels a rs → Spells levels b ss → Spells levels (a ++ b) (rs ++ ss)
unfolding SpellsBelow
spelled_both levels a b [] ss h k = rw h k
spelled_both levels a b (r ∷ rs) ss (first, rest, one, all, parts) k =
    (first, rest ++ b, one, spelled_both levels rest b rs ss all k, ap (λ (t : List ℕ). t ++ b) parts ∙ append_assoc first rest b)

pub spelled_one : (levels : ℕ) (first : List ℕ) (r : Rec) → SpellsOne levels first r → Spells levels first (r ∷ [])
unfolding SpellsBelow
spelled_one levels first r h = (first, [], h, refl, sym (append-nil first))
