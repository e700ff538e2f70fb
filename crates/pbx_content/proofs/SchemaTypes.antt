-- Types and enums by their places, and the indexes of all types.
use Rattle.std.proofs.Common.{◌≡◌, false, nat_lt, ℕ, zero, suc, ◌+◌, ◌<◌, ◌≤◌, List, [], ◌∷◌, ◌++◌, length, map, take, get_or, refl, sym, ap, ◌∙◌, subst, arith}
use Rattle.std.specs.List.{AllByRecursion, IsDistinct}
use Rattle.std.specs.Int.{w32}
use Rattle.std.specs.Int.RustNames.{FitsSigned}
use Rattle.std.proofs.lemmas.Bool.{le-ltb}
use Rattle.std.proofs.Math.ListN.{get_or-map}
use Rattle.std.proofs.lemmas.List.{take_more, length-map}
use Rattle.pbx_content.specs.declared.shape.EnumShape.{EnumShape}
use Rattle.pbx_content.specs.declared.shape.MessageShape.{MessageShape}
use Rattle.pbx_content.specs.Shape.{declared_at, keeps_order_at, enum_values_at, first_of}
use Rattle.pbx_content.specs.Sound.{AreProper}
use Rattle.pbx_content.specs.Index.{IsIndexOf, AreIndexed}
use Rattle.pbx_content.proofs.SoundLists.{all-append}

-- the type's fields are proper
abbrev pub HasProperFields : MessageShape → Type 0
HasProperFields m = AreProper m.fields

nothing_proper : AreProper []
unfolding IsDistinct
nothing_proper = record { numbered = refl; distinct = tt; keyed = refl }

pub proper_at : (ms : List MessageShape) → AllByRecursion HasProperFields ms → (t : ℕ) → AreProper (declared_at ms t)
proper_at [] h t = nothing_proper
proper_at (m ∷ ms) h zero = h.0
proper_at (m ∷ ms) h (suc t) = proper_at ms h.1 t

pub declared_here : (ms : List MessageShape) (t : ℕ) (d : MessageShape) → t < length ms → declared_at ms t ≡ (get_or ms t d).fields
declared_here [] t d h = absurd (omega arith)
declared_here (m ∷ ms) zero d h = refl
declared_here (m ∷ ms) (suc t) d h = declared_here ms t d (omega arith)

pub declared_past : (ms : List MessageShape) (t : ℕ) → length ms ≤ t → declared_at ms t ≡ []
declared_past [] t h = refl
declared_past (m ∷ ms) zero h = absurd (omega arith)
declared_past (m ∷ ms) (suc t) h = declared_past ms t (omega arith)

pub proper_more : (ms : List MessageShape) (i : ℕ) (d : MessageShape) → i < length ms → AllByRecursion HasProperFields (take i ms)
    → AreProper (get_or ms i d).fields → AllByRecursion HasProperFields (take (i + 1) ms)
proper_more ms i d lt h p = subst (AllByRecursion HasProperFields) (sym (take_more ms i d lt)) (all-append HasProperFields (take i ms) (get_or ms i d ∷ []) h (p, tt))

indexed_push : (ms : List MessageShape) (ess : List (List (ℕ × ℕ))) (m : MessageShape) (es : List (ℕ × ℕ)) → AreIndexed ms ess → IsIndexOf m.fields es
    → AreIndexed (ms ++ m ∷ []) (ess ++ es ∷ [])
indexed_push [] [] m es h k = (k, tt)
indexed_push [] (x ∷ ess) m es h k = absurd h
indexed_push (n ∷ ms) [] m es h k = absurd h
indexed_push (n ∷ ms) (x ∷ ess) m es h k = (h.0, indexed_push ms ess m es h.1 k)

pub indexed_more : (ms : List MessageShape) (ess : List (List (ℕ × ℕ))) (i : ℕ) (d : MessageShape) (es : List (ℕ × ℕ)) → i < length ms
    → AreIndexed (take i ms) ess → IsIndexOf (get_or ms i d).fields es
    → AreIndexed (take (i + 1) ms) (ess ++ es ∷ [])
indexed_more ms ess i d es lt h k =
    subst (λ ns. AreIndexed ns (ess ++ es ∷ [])) (sym (take_more ms i d lt)) (indexed_push (take i ms) ess (get_or ms i d) es h k)

pub indexed_at : (ms : List MessageShape) (ess : List (List (ℕ × ℕ))) (t : ℕ) (d : MessageShape) (e : List (ℕ × ℕ)) → t < length ms → AreIndexed ms ess
    → IsIndexOf (get_or ms t d).fields (get_or ess t e)
indexed_at [] ess t d e lt h = absurd (omega arith)
indexed_at (m ∷ ms) [] t d e lt h = absurd h
indexed_at (m ∷ ms) (es ∷ ess) zero d e lt h = h.0
indexed_at (m ∷ ms) (es ∷ ess) (suc t) d e lt h = indexed_at ms ess t d e (omega arith) h.1

pub indexed_length : (ms : List MessageShape) (ess : List (List (ℕ × ℕ))) → AreIndexed ms ess → length ess ≡ length ms
indexed_length [] [] h = refl
indexed_length [] (es ∷ ess) h = absurd h
indexed_length (m ∷ ms) [] h = absurd h
indexed_length (m ∷ ms) (es ∷ ess) h = ap suc (indexed_length ms ess h.1)

-- ---- the order of kept records

pub order_here : (ms : List MessageShape) (t : ℕ) (d : MessageShape) → t < length ms → (get_or ms t d).keeps_order ≡ keeps_order_at ms t
order_here [] t d h = absurd (omega arith)
order_here (m ∷ ms) zero d h = refl
order_here (m ∷ ms) (suc t) d h = order_here ms t d (omega arith)

pub no_order_there : (ms : List MessageShape) (t : ℕ) → length ms ≤ t → nat_lt t (length ms) ≡ keeps_order_at ms t
no_order_there ms t h = le-ltb t (length ms) h ∙ at ms t h
  where
    at : (ms : List MessageShape) (t : ℕ) → length ms ≤ t → false ≡ keeps_order_at ms t
    at [] t h = refl
    at (m ∷ ms) zero h = absurd (omega arith)
    at (m ∷ ms) (suc t) h = at ms t (omega arith)

-- ---- the defaults of enums

-- a number of 32 bits is the default of each
abbrev pub AreEnums : List EnumShape → Type 0
AreEnums es = (e : ℕ) → FitsSigned w32 (first_of (enum_values_at es e))

pub no_enums : AreEnums []
no_enums e = record { sfits = omega arith }

enums_push : (es : List EnumShape) (x : EnumShape) → AreEnums es → FitsSigned w32 (first_of x.values) → AreEnums (es ++ x ∷ [])
enums_push [] x h k zero = k
enums_push [] x h k (suc e) = h e
enums_push (y ∷ es) x h k zero = h 0
enums_push (y ∷ es) x h k (suc e) = enums_push es x (λ e. h (suc e)) k e

pub enums_more : (es : List EnumShape) (i : ℕ) (d : EnumShape) → i < length es → AreEnums (take i es) → FitsSigned w32 (first_of (get_or es i d).values)
    → AreEnums (take (i + 1) es)
enums_more es i d lt h k = subst AreEnums (sym (take_more es i d lt)) (enums_push (take i es) (get_or es i d) h k)

-- ---- one type of a schema

pub index_here : {V : Type 0} (items : V → List (ℕ × ℕ)) (ms all : List MessageShape) (vs : List V) (t : ℕ) (d : MessageShape) (v : V) → ms ≡ all
    → AreIndexed all (map items vs) → t < length ms → v ≡ get_or vs t v
    → IsIndexOf (get_or ms t d).fields (items v)
index_here items ms all vs t d v same h lt is =
    let indexed = subst (λ ns. AreIndexed ns (map items vs)) (sym same) h in
    subst (IsIndexOf (get_or ms t d).fields) (get_or-map items vs t v ∙ ap items (sym is)) (indexed_at ms (map items vs) t d (items v) lt indexed)

-- a place outside either list is outside the types
pub past_types : {V : Type 0} (items : V → List (ℕ × ℕ)) (all : List MessageShape) (vs : List V) (t : ℕ) → AreIndexed all (map items vs) → length vs ≤ t
    → length all ≤ t
past_types items all vs t h le = omega (arith, indexed_length all (map items vs) h, length-map vs items)
