-- A box taken apart: its one machine value, and what it owns beside its allocator. Assumes `Logic`.
--     pair, fits_pair, side_by_side      the machine value, by the pointer's and the handle's;  it has its type;  it is the two side by side
--     pair_told            at `Global` what is owned says it
--     loosened             [the block in memory; the allocator] are a box taken apart
--     tightened            and it is these, with the allocator's machine value named
use Rattle.std.proofs.Common.{◌≡◌, List, [], ◌∷◌, ◌++◌, ◌∙◌, ap, refl}
use Rattle.std.proofs.alloc.Calls.{Al, Fits, handle_tells}
use Rattle.std.proofs.Handle.{heap_Tells, heap_val}
use lib.Dec.{T}
use seplogic.Ra.Ura.{Ura}
use mir.Syntax.{Ty, tcons, tnil, ty_ptr}
use mir.Val.{Val, WT, WTs, has_ty, has_tys, of_list, vcons, vnil, vstruct}
use types.Logic.{Logic}
use types.Kit.{Goal, Item, Seq, Step, step, ‵, ◌$◌, drop, feq_i, feq_l, fjoin, fpack, fpick, fsplit, move}
use denote.Laws.{Is}
use denote.Param.{param}
use denote.RattleType.{RattleType, Valss}
use denote.RawPtr.{Ptr, RawPtr, ptr_val, rawptr_Tells, rawptr_vals}
use denote.Steps.{nothing}
use denote.Struct.Owning.{shape}
use denote.Struct.Struct.{Struct-Tells, as_fields, within}
use Rattle.std.specs.Box.Ownership.{box_owns}
use Rattle.std.specs.contracts.alloc.Global as global
use Rattle.std.specs.contracts.impls.GlobalAllocator.TheImpl.{ghosts}
use Rattle.std.specs.declared.alloc.Allocator.{Ghosts}
use Rattle.pbx_shared.proofs.Word.{fits_pointer}
use Rattle.pbx_shared.specs.contracts.node.Loose as loose

abbrev pub pair : Ptr → Val → Val
pair p h = vstruct (vcons (ptr_val p) (vcons h vnil))

pub fits_pair : (α : Ty) (p : Ptr) (h : Val) → T (has_ty α h) × WT h → T (has_tys (tcons ty_ptr (tcons α tnil)) (vcons (ptr_val p) (vcons h vnil))) × WTs (vcons (ptr_val p) (vcons h vnil))
fits_pair α p h fits = as_fields (ty_ptr ∷ α ∷ []) (ptr_val p ∷ h ∷ []) (fits_pointer p, (fits, tt))

pub side_by_side : (vs ps hs : List Val) (p : Ptr) (h : Val) → vs ≡ vstruct (of_list (ps ++ (hs ++ []))) ∷ [] → ps ≡ ptr_val p ∷ [] → hs ≡ h ∷ [] → vs ≡ pair p h ∷ []
side_by_side vs ps hs p h all first second = all ∙ ap (λ (us : List Val). vstruct (of_list (us ++ (hs ++ []))) ∷ []) first ∙ ap (λ (us : List Val). vstruct (vcons (ptr_val p) (of_list (us ++ []))) ∷ []) second

pub pair_told : (N : RattleType) (d : (loose.the_row N global.the_row ghosts).Denot) (vs : List Val) → Is (loose.the_row N global.the_row ghosts) d vs → vs ≡ pair d.at heap_val ∷ []
pair_told N d vs is = Struct-Tells (shape (loose.the_type N global.the_row ghosts)) (rawptr_vals, ((λ _. heap_val ∷ []), tt)) (rawptr_Tells, (heap_Tells, tt)) (d.at, (d.alloc, tt)) vs is.0

module _ (N A : RattleType) (g : Ghosts A.Denot) where
  abbrev pub Row : RattleType
  Row = loose.the_row N A g

  module _ {M : Type 1} {𝓤 : Ura M} {𝓛 : Logic 𝓤} {K : Type 0} {Γ : List (Item 𝓤)} {G : Goal 𝓤 𝓛.H} where
    pub loosened : K → (d : Row.Denot) (h : Val)
        → Step K 𝓛 (‵ (Row.own_val d (pair d.at h ∷ [])) ∷ Γ) G (‵ (box_owns (g.dealloc_token d.alloc) N d.at d.value) ∷ ‵ (A.own_val d.alloc (h ∷ [])) ∷ Γ) G
    loosened u d h = step (λ rest.
        move u (1 ∷ []) $ nothing u $ move u (1 ∷ 0 ∷ []) $ fjoin u $ feq_i u (List Val) (ptr_val d.at ∷ []) (ptr_val d.at ∷ []) refl $ fjoin u $
        feq_i u (List Val) (pair d.at h ∷ []) (pair d.at h ∷ []) refl $ fjoin u $
        fpack u (Valss (RawPtr ∷ A ∷ [])) (within (shape (loose.the_type N A g)) (d.at, (d.alloc, tt)) (pair d.at h ∷ [])) (ptr_val d.at ∷ [], (h ∷ [], tt)) $ fjoin u $ rest)

module _ (Z : Al) (N : RattleType) {M : Type 1} {𝓤 : Ura M} {𝓛 : Logic 𝓤} {K : Type 0} {Γ : List (Item 𝓤)} {G : Goal 𝓤 𝓛.H} where
  pub tightened : K → (d : (Row N (param 1 Z.row) Z.g).Denot) (vs : List Val)
      → ((h : Val) → vs ≡ pair d.at h ∷ [] → Fits Z h → Seq K 𝓛 (‵ (box_owns (Z.g.dealloc_token d.alloc) N d.at d.value) ∷ ‵ (Z.row.own_val d.alloc (h ∷ [])) ∷ Γ) G)
      → Seq K 𝓛 (‵ ((Row N (param 1 Z.row) Z.g).own_val d vs) ∷ Γ) G
  tightened u d vs go =
      fsplit u $ fpick u (λ vss. fsplit u $ feq_l u (λ all. fsplit u $ feq_l u (λ pointer. fsplit u $ handle_tells Z u d.alloc vss.1.0 (λ h one fits.
      move u (1 ∷ []) $ drop u $ move u (1 ∷ []) $
      go h (side_by_side vs vss.0 vss.1.0 d.at h all pointer one) fits))))
