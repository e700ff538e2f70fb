-- What follows from a call's cause, over calls in a row.
use Rattle.std.specs.List.{flat_map}
use Rattle.std.proofs.Common.{◌≡◌, ◌<◌, ◌+◌, ◌++◌, ◌∙◌, ℕ, List, [], inl, inr, sym, ap, length, drop, get_or, add-one, drop-cons, arith, append_assoc, refl, Err, append-nil}
use Rattle.std.proofs.lemmas.List.{length-append}
use Rattle.protox_io.specs.Count.{Count, Rose, Later}
use Rattle.protox_io.specs.Read.{ReadsAll, Reads, ReadFails, BlockFails}
use Rattle.protox_io.specs.Sink.{RefusesFor, Appends, Begins}
use Rattle.protox_io.specs.declared.read.ReadFault.{ReadFault}
use Rattle.protox_io.specs.declared.read.ReadFault.TheVariants.{Failed, TooLong, NoMemory}
use Rattle.protox_io.specs.declared.stream.SinkError.{SinkError}
use Rattle.protox_io.specs.declared.stream.SinkError.TheVariants as sink

pub later_again : (a b c : Count) → Later a b → Later b c → Later a c
later_again a b c h i = record { faults = omega (arith, h.faults, i.faults); spent = λ s. i.spent (h.spent s) }

pub later_same : (a : Count) → Later a a
later_same a = record { faults = omega arith; spent = λ s. s }

pub rose_later : (a b c : Count) → Later a b → Rose b c → Rose a c
rose_later a b c h (inl rose) = inl (omega (arith, h.faults, rose))
rose_later a b c h (inr spent) = inr spent

pub block_fails : (a b c : Count) (fault : ReadFault) → Later a b → BlockFails (Rose b c) fault → ReadFails (Rose a c) fault
block_fails a b c Failed h rose = rose_later a b c h rose
block_fails a b c TooLong h never = absurd never
block_fails a b c NoMemory h u = u

pub block_told : (rose : Type 0) (limit : ℕ) (left later : List ℕ) (fault : ReadFault) → BlockFails rose fault → ReadsAll limit left later (Err fault)
block_told rose limit left later Failed r = tt
block_told rose limit left later TooLong never = absurd never
block_told rose limit left later NoMemory u = tt

pub refuses_later : (short : Type 0) (a b c : Count) (error : SinkError) → Later a b → RefusesFor (Rose b c) short error → RefusesFor (Rose a c) short error
refuses_later short a b c sink.Failed h rose = rose_later a b c h rose
refuses_later short a b c sink.NoMemory h r = r

pub over_limit : (bytes left all : List ℕ) (limit : ℕ) → bytes ++ left ≡ all → limit < length bytes → limit < length all
over_limit bytes left all limit e h = omega (arith, ap length e, length-append bytes left)

pub at_end : (bytes left all : List ℕ) → bytes ++ left ≡ all → left ≡ [] → bytes ≡ all
at_end bytes left all e none = sym (append-nil bytes) ∙ ap (λ l. bytes ++ l) (sym none) ∙ e

-- a piece that is refused midway leaves the first bytes of the whole
pub piece_refused : (whole rest piece old mid new : List ℕ) → Appends old mid (λ added. whole ≡ added ++ (piece ++ rest)) → Appends mid new (λ added. Begins added piece) → Appends old new (λ added. Begins added whole)
piece_refused whole rest piece old mid new a b = record {
  added = a.added ++ b.added;
  is = b.is ∙ ap (λ l. l ++ b.added) a.is ∙ append_assoc old a.added b.added;
  so = record {
    rest = b.so.rest ++ rest;
    is = a.so ∙ ap (λ l. a.added ++ (l ++ rest)) b.so.is ∙ ap (λ l. a.added ++ l) (append_assoc b.added b.so.rest rest) ∙ sym (append_assoc a.added b.added (b.so.rest ++ rest));
  };
}

pub pieces_at : {X : Type 0} (f : X → List ℕ) (ps : List X) (i : ℕ) (d : X) → i < length ps → flat_map f (drop i ps) ≡ f (get_or ps i d) ++ flat_map f (drop (i + 1) ps)
pieces_at f ps i d h = rw (add-one, drop-cons ps i d) refl

-- the same, over a list of pieces
pub pieces_refused : {X : Type 0} (f : X → List ℕ) (ps : List X) (i : ℕ) (d : X) (old mid new : List ℕ) → i < length ps → Appends old mid (λ added. flat_map f ps ≡ added ++ flat_map f (drop i ps)) → Appends mid new (λ added. Begins added (f (get_or ps i d))) → Appends old new (λ added. Begins added (flat_map f ps))
pieces_refused f ps i d old mid new h a b =
    piece_refused (flat_map f ps) (flat_map f (drop (i + 1) ps)) (f (get_or ps i d)) old mid new (record { added = a.added; is = a.is; so = a.so ∙ ap (λ l. a.added ++ l) (pieces_at f ps i d h) }) b

pub reads_none : (left later : List ℕ) → later ≡ left → Reads left later
reads_none left later e = record { read = []; is = sym e }

pub reads_some : (bytes left later : List ℕ) → bytes ++ later ≡ left → Reads left later
reads_some bytes left later e = record { read = bytes; is = sym e }

pub reads_more : (bytes left mid later : List ℕ) → bytes ++ mid ≡ left → Reads mid later → Reads left later
reads_more bytes left mid later e r =
    record { read = bytes ++ r.read; is = sym e ∙ ap (λ l. bytes ++ l) r.is ∙ sym (append_assoc bytes r.read later) }
