-- Of the oneofs of a message's type the members that may have values (Protocol Buffers "Language Guide (proto 3)": Oneof Features).
use Rattle.std.specs.Prelude.{◌≡◌, ℕ, ◌==◌, List, Option, Some, None, IsTrue, if◌then◌else◌}
use Rattle.pbx_content.specs.declared.shape.FieldShape.{FieldShape}
use Rattle.pbx_content.specs.Content.{Fields, has, without}
use Rattle.pbx_content.specs.Shape.{field_of}
use Rattle.pbx_content_map.specs.Entries.{value_under, with_entry}

-- Under a oneof stands a member of it, and each member that has a value stands under its oneof.
pub record AreMembers (gs : List FieldShape) (fs : Fields) (ms : List (ℕ × ℕ)) : Type 0 where
  pub members : (o n : ℕ) → value_under o ms ≡ Some n → (f : FieldShape) × (field_of n gs ≡ Some f) × (f.oneof ≡ Some o)
  pub each : (o n : ℕ) (f : FieldShape) → IsTrue (has n fs) → field_of n gs ≡ Some f → f.oneof ≡ Some o → value_under o ms ≡ Some n

-- the same where they are known
abbrev pub AreMembersIf : List FieldShape → Fields → Option (List (ℕ × ℕ)) → Type 0
AreMembersIf gs fs None = Unit {0}
AreMembersIf gs fs (Some ms) = AreMembers gs fs ms

-- without the value of the member that may have had one before this one was put
abbrev pub without_former : Option ℕ → ℕ → Fields → Fields
without_former None n fs = fs
without_former (Some m) n fs = if m == n then fs else without m fs

-- the member stands under its oneof, if the members are still known
abbrev pub IsNoted : ℕ → ℕ → List (ℕ × ℕ) → Option (List (ℕ × ℕ)) → Type 0
IsNoted o n old None = Unit {0}
IsNoted o n old (Some new) = new ≡ with_entry o n old
