-- What an error says under another reason, and where it has none.
use Rattle.std.proofs.Common.{ℕ, List, Err}
use Rattle.pbx_parse.specs.declared.error.ParseError.{ParseError}
use Rattle.pbx_parse.specs.declared.error.ParseError.TheVariants.{Syntax, NoMemory}
use Rattle.pbx_parse.specs.Errors.{Refuses, GivesUnlessMemory}

pub refuses_for : (name : List ℕ) (P Q : Type 0) (e : ParseError) → (P → Q) → Refuses name P e → Refuses name Q e
refuses_for name P Q (Syntax file line column expected found) h r = (h r.0, r.1, r.2, r.3, r.4, r.5)
refuses_for name P Q NoMemory h r = tt

pub only_memory : {X : Type 0} (x : X) (name : List ℕ) (P : Type 0) (e : ParseError) → P → Refuses name (P → ⊥) e → GivesUnlessMemory x (Err e)
only_memory x name P (Syntax file line column expected found) h r = r.0 h
only_memory x name P NoMemory h r = tt
