-- What stands at the front of bytes: a record, or its key.
use Rattle.std.proofs.Common.{◌≡◌, ℕ, ◌+◌, ◌-◌, ◌*◌, ◌/◌, ◌%◌, List, [], ◌++◌, length, Some, None, Ok, Err, ◌⊎◌, inl, inr, refl, arith}
use Rattle.pbx_wire.specs.declared.error.DecodeError.{DecodeError}
use Rattle.pbx_wire.specs.declared.error.DecodeError.TheVariants as errors
use Rattle.pbx_wire.specs.declared.rec.Rec.{Rec}
use Rattle.pbx_wire.specs.Reading.{Fails, key_at, item_at, body_at}
use Rattle.pbx_wire.specs.Spelling.{SpellsBelow}
use Rattle.pbx_wire.specs.Faults.{BeginsWith, FaultsBelow}
use Rattle.pbx_wire.specs.Front.{IsFront, IsFrontFault, IsFrontKey}
use Rattle.pbx_wire.proofs.Laws.{key_takes, key_of, body_takes, item_takes, Closes}
use Rattle.pbx_wire.proofs.Again.{key_again}
use Rattle.pbx_wire.proofs.Failing.{ItemFault, body_fails, item_fails}

-- ---- a record: what a call that reads an item at the top says of the front

pub front_rec : (levels total at : ℕ) (bytes : List ℕ) (r : Rec) (rest : List ℕ) → item_at (body_at total levels) total 0 at bytes ≡ Ok (Some r, rest)
    → IsFront levels bytes (Some (r, rest))
front_rec levels total at bytes r rest h =
    let t = item_takes (body_at total levels) (SpellsBelow levels) (body_takes total levels) total 0 at bytes (Some r) rest h in
    (t.text, t.holds, t.parts)

closed_top : (end rest bytes : List ℕ) → Closes 0 end rest → bytes ≡ end ++ rest → bytes ≡ []
closed_top end rest bytes (inl c) parts = rw (c.1, c.2) at parts
closed_top end rest bytes (inr k) parts = absurd (omega (arith, k.positive))

pub front_end : (levels total at : ℕ) (bytes rest : List ℕ) → item_at (body_at total levels) total 0 at bytes ≡ Ok (None, rest) → IsFront levels bytes None
front_end levels total at bytes rest h =
    let t = item_takes (body_at total levels) (SpellsBelow levels) (body_takes total levels) total 0 at bytes None rest h in
    closed_top t.text rest bytes t.holds t.parts

front_broken : (levels total at : ℕ) (bytes : List ℕ) (e : DecodeError) → total ≡ at + length bytes
    → ItemFault (SpellsBelow levels) (FaultsBelow levels) levels total 0 at bytes e → IsFrontFault levels at bytes e
front_broken levels total at bytes e h (inl (none, open_, told)) = absurd (open_ refl)
front_broken levels total at bytes e h (inr b) =
    let front : total - length bytes ≡ at = omega arith in
    (b.own, b.breaks, rw front at b.told)

front_err : (levels total at : ℕ) (bytes : List ℕ) (e : DecodeError) → total ≡ at + length bytes → item_at (body_at total levels) total 0 at bytes ≡ Err e
    → IsFrontFault levels at bytes e
front_err levels total at bytes e h f =
    front_broken levels total at bytes e h (item_fails (body_at total levels) (SpellsBelow levels) (FaultsBelow levels) levels total (body_fails total levels)
    0 at bytes e (omega arith) f)

pub front_fault : (levels total at : ℕ) (bytes : List ℕ) (e : DecodeError) → total ≡ at + length bytes
    → Fails e (item_at (body_at total levels) total 0 at bytes) → (e ≡ errors.NoMemory) ⊎ IsFrontFault levels at bytes e
front_fault levels total at bytes (errors.Varint n) h f = inr (front_err levels total at bytes _ h f)
front_fault levels total at bytes (errors.Key n) h f = inr (front_err levels total at bytes _ h f)
front_fault levels total at bytes (errors.WireType n) h f = inr (front_err levels total at bytes _ h f)
front_fault levels total at bytes (errors.Underflow n) h f = inr (front_err levels total at bytes _ h f)
front_fault levels total at bytes (errors.Utf8 n) h f = inr (front_err levels total at bytes _ h f)
front_fault levels total at bytes (errors.EndGroup n) h f = inr (front_err levels total at bytes _ h f)
front_fault levels total at bytes (errors.TooDeep n) h f = inr (front_err levels total at bytes _ h f)
front_fault levels total at bytes errors.NoMemory h f = inl refl

-- ---- a key

pub front_is : (at : ℕ) (bytes : List ℕ) (key : ℕ) (rest : List ℕ) → key_at at bytes ≡ Ok (key, rest) → IsFrontKey bytes (Some (key / 8, key % 8))
front_is at bytes key rest h =
    let t = key_takes at bytes key rest h in
    (omega arith, (rest, (t.text, key_of t.text key (key / 8) (key % 8) t.holds refl refl, t.parts)))

no_key : (at : ℕ) (bytes : List ℕ) (e : DecodeError) → key_at at bytes ≡ Err e → (number wire_type : ℕ) (rest : List ℕ) → BeginsWith number wire_type rest bytes → ⊥
no_key at bytes e h number wire_type rest (key, k, parts) =
    let read : key_at at bytes ≡ Ok (number * 8 + wire_type, rest) = rw parts (key_again at number wire_type key rest k) in
    absurd cc

pub front_none : (at : ℕ) (bytes : List ℕ) (e : DecodeError) → key_at at bytes ≡ Err e → IsFrontKey bytes None
front_none at bytes e h number wire_type rest small begins = no_key at bytes e h number wire_type rest begins
