-- How a first fault is told by a reader that walks a tree in the order of its keys and elements: what was walked has no fault.
use Rattle.std.specs.Prelude.{◌≡◌, ◌⊎◌, List, [], ◌∷◌, Bool, Some, Ok, Err}
use Rattle.std.specs.declared.cmp.Ordering.TheVariants.{Less}
use Rattle.serde_json.specs.Data.{Data}
use Rattle.pbx_content.specs.declared.shape.Shape.{Shape}
use Rattle.pbx_json_meaning.specs.Asked.{Asked}
use Rattle.pbx_json_meaning.specs.Place.{step_cmp}
use Rattle.pbx_json_meaning.specs.Faults.{Inside, opened, into, IsKeyFault, FaultAt, FirstFaultAt, SomeWith}
use Rattle.pbx_json_meaning.specs.declared.kind.JsonKind.{JsonKind}
use Rattle.pbx_json_meaning.specs.declared.place.Step.{Step}

-- what is read at a step has no fault, and neither has its key
abbrev pub IsCleanAt : Shape → Bool → Inside → Step → Type 0
IsCleanAt shape allow inside step =
    (place : List Step) (kind : JsonKind)
    → ¬ (IsKeyFault shape allow inside step place kind ⊎ SomeWith (into inside step) (λ next. FaultAt shape allow place next.0 next.1 kind))

-- what stands before a step has no fault
abbrev pub IsCleanBefore : Shape → Bool → Inside → Step → Type 0
IsCleanBefore shape allow inside step = (s : Step) → step_cmp s step ≡ Less → IsCleanAt shape allow inside s

-- A fault of the tree itself is the first.
abbrev pub FirstHere : Type 0
FirstHere =
    (shape : Shape) (allow : Bool) (d : Data) (asked : Asked) (kind : JsonKind) → opened shape allow d asked ≡ Err kind
    → FirstFaultAt shape allow d asked [] kind

-- A fault of a key is the first where what stands before the key has none.
abbrev pub FirstAtKey : Type 0
FirstAtKey =
    (shape : Shape) (allow : Bool) (d : Data) (asked : Asked) (inside : Inside) (step : Step) (kind : JsonKind)
    → opened shape allow d asked ≡ Ok inside → IsCleanBefore shape allow inside step → IsKeyFault shape allow inside step [] kind
    → FirstFaultAt shape allow d asked (step ∷ []) kind

-- The first fault below a key or an element is the first of the tree, where the key itself has none and neither has what stands before it.
abbrev pub FirstBelow : Type 0
FirstBelow =
    (shape : Shape) (allow : Bool) (d : Data) (asked : Asked) (inside : Inside) (step : Step) (next : Data × Asked) (place : List Step) (kind : JsonKind)
    → opened shape allow d asked ≡ Ok inside → IsCleanBefore shape allow inside step
    → ((q : List Step) (k : JsonKind) → ¬ IsKeyFault shape allow inside step q k)
    → into inside step ≡ Some next → FirstFaultAt shape allow next.0 next.1 place kind → FirstFaultAt shape allow d asked (step ∷ place) kind
