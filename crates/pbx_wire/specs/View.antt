-- The record that one is which borrows its payload.
use Rattle.pbx_wire.specs.declared.rec.Rec.{Rec}
use Rattle.pbx_wire.specs.declared.rec.Rec.TheVariants as rec
use Rattle.pbx_wire.specs.declared.rec.RecRef.{RecRef}
use Rattle.pbx_wire.specs.declared.rec.RecRef.TheVariants as borrowed

-- the record with the same number and payload
abbrev pub rec_of : RecRef → Rec
rec_of (borrowed.Varint n v) = rec.Varint n v
rec_of (borrowed.Fixed64 n v) = rec.Fixed64 n v
rec_of (borrowed.Bytes n b) = rec.Bytes n b.now
rec_of (borrowed.Group n rs) = rec.Group n rs
rec_of (borrowed.Fixed32 n v) = rec.Fixed32 n v
