-- What bytes spell may be written: the numbers and values of the records are those that records may have.
use Rattle.std.proofs.Common.{◌≡◌, ℕ, zero, suc, ◌^◌, Bool, true, List, [], ◌∷◌, length, refl, ◌∙◌, arith}
use Rattle.std.specs.Prelude.{Result, Ok, Err, IfOk, IsTrue}
use Rattle.std.proofs.lemmas.Bool.{lt-ltb}
use Rattle.pbx_wire.specs.declared.rec.Rec.{Rec, out-Rec, map-Rec, fold_out-Rec}
use Rattle.pbx_wire.specs.declared.rec.Rec.TheOpen.{Rec-F}
use Rattle.pbx_wire.specs.declared.error.DecodeError.{DecodeError}
use Rattle.pbx_wire.specs.Text.{is_record_number, number_end, is_numbered, numbered_step, are_numbered, is_fit, fit_step, are_fit}
use Rattle.pbx_wire.specs.Spelling.{IsKey, Body, SpellsLayer, SpellsAll, SpellsBelow, Spells}
use Rattle.pbx_wire.specs.Laws.{SpelledIsNumbered, SpelledIsFit, FrontIsNumbered}
use Rattle.pbx_wire.proofs.Fixed.{fits_4, fits_8}

-- the two tests of records are passed
pub record IsWritable (has_numbers has_values : Bool) : Type 0 where
  pub numbered : has_numbers ≡ true
  pub fit : has_values ≡ true

-- the records of a group may be written
abbrev Inside : Body → Type 0
Inside inner = (bytes : List ℕ) (rs : List Rec) → inner bytes rs → IsWritable (are_numbered rs) (are_fit rs)

key_numbered : (key : List ℕ) (n wire_type : ℕ) → IsKey key n wire_type → is_record_number n ≡ true
key_numbered key n wire_type k = rw (lt-ltb 0 n k.positive, lt-ltb n number_end (omega (arith, k.fits))) refl

layer_writable : (inner : Body) → Inside inner → (bytes : List ℕ) (x : Rec-F Rec) → SpellsLayer inner bytes x
    → IsWritable (numbered_step (map-Rec Rec Bool is_numbered x)) (fit_step (map-Rec Rec Bool is_fit x))
layer_writable inner inside bytes (Rec-F.Varint n v) (key, value, k, is, parts) =
    record { numbered = key_numbered key n 0 k; fit = lt-ltb v (2 ^ 64) is.fits }
layer_writable inner inside bytes (Rec-F.Fixed64 n v) (key, value, k, eight, is, parts) =
    record { numbered = key_numbered key n 1 k; fit = lt-ltb v (2 ^ 64) (rw is (fits_8 value)) }
layer_writable inner inside bytes (Rec-F.Bytes n b) (key, len, k, is, parts) =
    record { numbered = key_numbered key n 2 k; fit = lt-ltb (length b) (2 ^ 64) is.fits }
layer_writable inner inside bytes (Rec-F.Group n rs) (key, mid, end, k, holds, e, parts) =
    let t = inside mid rs holds in
    record { numbered = rw (key_numbered key n 3 k) t.numbered; fit = t.fit }
layer_writable inner inside bytes (Rec-F.Fixed32 n v) (key, value, k, four, is, parts) =
    record { numbered = key_numbered key n 5 k; fit = lt-ltb v (2 ^ 32) (rw is (fits_4 value)) }

rec_writable : (inner : Body) → Inside inner → (bytes : List ℕ) (r : Rec) → SpellsLayer inner bytes (out-Rec r) → IsWritable (is_numbered r) (is_fit r)
rec_writable inner inside bytes r s =
    let t = layer_writable inner inside bytes (out-Rec r) s in
    record { numbered = fold_out-Rec Bool numbered_step r ∙ t.numbered; fit = fold_out-Rec Bool fit_step r ∙ t.fit }

all_writable : (inner : Body) → Inside inner → (bytes : List ℕ) (rs : List Rec) → SpellsAll inner bytes rs → IsWritable (are_numbered rs) (are_fit rs)
all_writable inner inside bytes [] s = record { numbered = refl; fit = refl }
all_writable inner inside bytes (r ∷ rs) (first, rest, one, others, parts) =
    let t = rec_writable inner inside first r one in
    let u = all_writable inner inside rest rs others in
    record { numbered = rw t.numbered u.numbered; fit = rw t.fit u.fit }

below_writable : (levels : ℕ) → Inside (SpellsBelow levels)
unfolding SpellsBelow
below_writable zero bytes rs s = absurd s
below_writable (suc levels) bytes rs s = all_writable (SpellsBelow levels) (below_writable levels) bytes rs s

pub spelled_numbered : SpelledIsNumbered
spelled_numbered levels bytes rs s = (below_writable (suc levels) bytes rs s).numbered

pub spelled_fit : SpelledIsFit
spelled_fit levels bytes rs s = (below_writable (suc levels) bytes rs s).fit

pub front_numbered : FrontIsNumbered
front_numbered levels bytes next s = (rec_writable (SpellsBelow levels) (below_writable levels) s.0 next.0 s.1).numbered

-- ---- of what a call read

pub recs_numbered : (levels : ℕ) (bytes : List ℕ) (r : Result (List Rec) DecodeError) → IfOk r (λ rs. Spells levels bytes rs) → IfOk r (λ rs. IsTrue (are_numbered rs))
recs_numbered levels bytes (Ok rs) s = spelled_numbered levels bytes rs s
recs_numbered levels bytes (Err e) s = tt
