-- What the reader's answers are.
use Rattle.std.specs.Prelude.{◌≡◌, ◌⊎◌, ℕ, Bool, None, Ok, Err}
use Rattle.serde_json.specs.Data.{Data}
use Rattle.pbx_content.specs.Content.{Content}
use Rattle.pbx_content.specs.Sound.{IsProper}
use Rattle.pbx_content.specs.declared.shape.Shape.{Shape}
use Rattle.pbx_json_meaning.specs.Stands.{Stands, content_for}
use Rattle.pbx_json_meaning.specs.Faults.{FirstJsonFault}
use Rattle.pbx_json_meaning.specs.declared.kind.JsonKind.TheVariants as fault
use Rattle.pbx_json_walk.specs.Walk.{Answer, message_answer, elements_in, parts_in}

-- the answer is what the tree stands for; for the tree of a fault nothing stands, and an answer of no memory says nothing
abbrev pub IsTold : Shape → ℕ → Bool → Data → Answer Content → Type 0
IsTold shape t allow d (Ok c) = Stands shape t allow d c
IsTold shape t allow d (Err e) = (e.kind ≡ fault.NoMemory) ⊎ (content_for shape t allow d ≡ None)

-- What is answered for a message is what its tree stands for.
abbrev pub MessageIsTold : Type 0
MessageIsTold =
    (shape : Shape) (t : ℕ) (allow : Bool) (d : Data) → IsProper shape → IsTold shape t allow d (message_answer shape allow t d (elements_in shape allow d) (parts_in shape allow d))

-- a fault that is answered is the first of the tree
abbrev pub IsFirstFault : Shape → ℕ → Bool → Data → Answer Content → Type 0
IsFirstFault shape t allow d (Ok c) = Unit {0}
IsFirstFault shape t allow d (Err e) = (e.kind ≡ fault.NoMemory) ⊎ FirstJsonFault shape t allow d e.place e.kind

-- The fault that is answered for a message is the first of its tree.
abbrev pub FaultIsFirst : Type 0
FaultIsFirst =
    (shape : Shape) (t : ℕ) (allow : Bool) (d : Data) → IsProper shape → IsFirstFault shape t allow d (message_answer shape allow t d (elements_in shape allow d) (parts_in shape allow d))
