-- What the parts of a conversion answer.
use Rattle.std.specs.Prelude.{◌≡◌, ℕ, List, false, None}
use Rattle.serde_json.specs.Data.{Data}
use Rattle.pbx_content.specs.Content.{Content}
use Rattle.pbx_content.specs.declared.shape.Shape.{Shape}
use Rattle.pbx_json_meaning.specs.Canonical.{canonical}
use Rattle.pbx_json_meaning.specs.Fits.{fits}
use Rattle.pbx_json_meaning.specs.Options.{default_writing}
use Rattle.pbx_json_meaning.specs.WriteFaults.{WriteFault}
use Rattle.pbx_json_meaning.specs.declared.error.JsonError.{JsonError}
use Rattle.pbx_json_meaning.specs.declared.kind.JsonKind.{JsonKind}
use Rattle.pbx_json_meaning.specs.declared.kind.JsonKind.TheVariants as json
use Rattle.protox_lines_items.specs.declared.error.ItemFault.{ItemFault}
use Rattle.protox_lines_items.specs.declared.error.ItemFault.TheVariants as faults
use Rattle.protox_transcode.specs.Top.{IsUnread, IsTooDeep}

-- want of memory stands inside of no other fault
abbrev pub of_kind : JsonKind → JsonError → ItemFault
of_kind json.NoMemory error = faults.NoMemory
of_kind kind error = faults.Json error

-- why a content has no record
abbrev pub IsContentFault : Shape → ℕ → Content → ItemFault → Type 0
IsContentFault shape t c faults.TooDeep = fits shape t c ≡ false
IsContentFault shape t c faults.NoMemory = Unit {0}
IsContentFault shape t c _ = ⊥

-- why a tree has none
abbrev pub IsTreeFault : Shape → ℕ → Data → ItemFault → Type 0
IsTreeFault shape t tree (faults.Json e) = IsUnread shape t tree e
IsTreeFault shape t tree faults.TooDeep = IsTooDeep shape t tree
IsTreeFault shape t tree faults.NoMemory = Unit {0}
IsTreeFault shape t tree _ = ⊥

-- why a content has no line
abbrev pub IsLineless : Shape → ℕ → Content → ItemFault → Type 0
IsLineless shape t c (faults.Json e) =
    ¬ (e.kind ≡ json.NoMemory) × (canonical shape t c default_writing ≡ None) × WriteFault shape t c default_writing e.place e.kind
IsLineless shape t c faults.NoMemory = Unit {0}
IsLineless shape t c _ = ⊥
