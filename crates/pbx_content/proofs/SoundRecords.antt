-- Records that bytes spell may be written.
use Rattle.std.proofs.Common.{◌≡◌, ℕ, zero, suc, ◌^◌, ◌<◌, ◌≤◌, Bool, true, List, [], ◌∷◌, length, Some, Result, Ok, Err, refl, ap, ◌∙◌, arith}
use Rattle.std.specs.List.{AllByRecursion}
use Rattle.std.proofs.lemmas.Bool.{lt-ltb}
use Rattle.pbx_wire.specs.declared.error.DecodeError.{DecodeError}
use Rattle.pbx_wire.specs.declared.rec.Rec.{Rec, out-Rec, map-Rec, fold_out-Rec}
use Rattle.pbx_wire.specs.declared.rec.Rec.TheOpen.{Rec-F}
use Rattle.pbx_wire.specs.Spelling.{IsKey, Body, SpellsLayer, SpellsAll, SpellsBelow, Spells}
use Rattle.pbx_wire.specs.Reading.{ok_of, all_at}
use Rattle.pbx_wire.specs.Text.{is_record_number, is_numbered, numbered_step, are_numbered, is_fit, fit_step, are_fit, depth, depth_of, depth_step}
use Rattle.pbx_wire.proofs.Fixed.{fits_4, fits_8}
use Rattle.pbx_wire.proofs.Laws.{all_found}
use Rattle.pbx_content.specs.Records.{records_in}

-- ---- records

-- a record that may be written, with groups nested at most so many levels
pub record IsGood (m : ℕ) (r : Rec) : Type 0 where
  pub numbered : is_numbered r ≡ true
  pub fit : is_fit r ≡ true
  pub deep : depth r ≤ m

abbrev pub AreGood : ℕ → List Rec → Type 0
AreGood m rs = AllByRecursion (IsGood m) rs

-- what the body of a group spells, as a part of its record
pub record AreInside (m : ℕ) (rs : List Rec) : Type 0 where
  pub numbered : are_numbered rs ≡ true
  pub fit : are_fit rs ≡ true
  pub deep : depth_of rs < m

abbrev Inside : Body → ℕ → Type 0
Inside inner m = (bytes : List ℕ) (rs : List Rec) → inner bytes rs → AreInside m rs

key_number : (key : List ℕ) (n kind : ℕ) → IsKey key n kind → is_record_number n ≡ true
key_number key n kind k = rw (lt-ltb 0 n k.positive, lt-ltb n 536870912 (omega (arith, k.fits))) refl

-- one layer of a record
record IsLayer (m : ℕ) (x : Rec-F Rec) : Type 0 where
  pub numbered : numbered_step (map-Rec Rec Bool is_numbered x) ≡ true
  pub fit : fit_step (map-Rec Rec Bool is_fit x) ≡ true
  pub deep : depth_step (map-Rec Rec ℕ depth x) ≤ m

layer_good : (inner : Body) (m : ℕ) → Inside inner m → (bytes : List ℕ) (x : Rec-F Rec) → SpellsLayer inner bytes x → IsLayer m x
layer_good inner m inside bytes (Rec-F.Varint n v) h = record { numbered = key_number h.0 n 0 h.2; fit = lt-ltb v (2 ^ 64) h.3.fits; deep = omega arith }
layer_good inner m inside bytes (Rec-F.Fixed64 n v) h =
    let fits : v < 2 ^ 64 = omega (arith, h.4, fits_8 h.1) in
    record { numbered = key_number h.0 n 1 h.2; fit = lt-ltb v (2 ^ 64) fits; deep = omega arith }
layer_good inner m inside bytes (Rec-F.Bytes n b) h =
    record { numbered = key_number h.0 n 2 h.2; fit = lt-ltb (length b) (2 ^ 64) h.3.fits; deep = omega arith }
layer_good inner m inside bytes (Rec-F.Group n rs) h =
    let is = inside h.1 rs h.4 in
    record { numbered = rw (key_number h.0 n 3 h.3, is.numbered) refl; fit = is.fit; deep = omega (arith, is.deep) }
layer_good inner m inside bytes (Rec-F.Fixed32 n v) h =
    let fits : v < 2 ^ 32 = omega (arith, h.4, fits_4 h.1) in
    record { numbered = key_number h.0 n 5 h.2; fit = lt-ltb v (2 ^ 32) fits; deep = omega arith }

rec_good : (inner : Body) (m : ℕ) → Inside inner m → (bytes : List ℕ) (r : Rec) → SpellsLayer inner bytes (out-Rec r) → IsGood m r
rec_good inner m inside bytes r h =
    let is = layer_good inner m inside bytes (out-Rec r) h in
    record {
      numbered = fold_out-Rec Bool numbered_step r ∙ is.numbered;
      fit = fold_out-Rec Bool fit_step r ∙ is.fit;
      deep = omega (arith, is.deep, fold_out-Rec ℕ depth_step r);
    }

all_good : (inner : Body) (m : ℕ) → Inside inner m → (bytes : List ℕ) (rs : List Rec) → SpellsAll inner bytes rs → AreGood m rs
all_good inner m inside bytes [] h = tt
all_good inner m inside bytes (r ∷ rs) h =
    (rec_good inner m inside h.0 r h.2, all_good inner m inside h.1 rs h.3)

pub are_inside : (m : ℕ) (rs : List Rec) → AreGood m rs → AreInside (suc m) rs
are_inside m [] h = record { numbered = refl; fit = refl; deep = omega arith }
are_inside m (r ∷ rs) h =
    let rest = are_inside m rs h.1 in
    record { numbered = rw (h.0.numbered, rest.numbered) refl; fit = rw (h.0.fit, rest.fit) refl; deep = omega (arith, h.0.deep, rest.deep) }

spelled_good : (levels : ℕ) (bytes : List ℕ) (rs : List Rec) → Spells levels bytes rs → AreGood levels rs
unfolding SpellsBelow
spelled_good zero bytes rs h = all_good (SpellsBelow 0) 0 (λ bytes rs h. absurd h) bytes rs h
spelled_good (suc l) bytes rs h = all_good (SpellsBelow (suc l)) (suc l) (λ bytes rs h. are_inside l rs (spelled_good l bytes rs h)) bytes rs h

-- what bytes spell may be written
pub records_good : (levels : ℕ) (bytes : List ℕ) (rs : List Rec) → records_in levels bytes ≡ Some rs → AreGood levels rs
records_good levels bytes rs e = spelled_good levels bytes rs (all_found levels bytes rs (at (all_at levels bytes) refl e))
  where
    at : (x : Result (List Rec) DecodeError) → all_at levels bytes ≡ x → ok_of x ≡ Some rs → all_at levels bytes ≡ Ok rs
    at (Ok ss) d e = let is : ss ≡ rs = cc in d ∙ ap (λ (x : List Rec). Ok x) is
    at (Err f) d e = absurd cc
