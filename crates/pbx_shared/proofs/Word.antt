-- The one word of a handle, its pointer. Assumes `Logic`.
--     fits_pointer    a pointer has its type
--     Self, Word      a handle, and its data alone.        word, told, fits_word      the machine value;  what is owned says it;  it has its type
--     worded          what the handles share makes a handle again
--     reads, returned      the word is read through a `&` to a handle, and given back
use Rattle.std.proofs.Common.{◌≡◌, ℕ, List, [], ◌∷◌, refl, lit<}
use lib.Dec.{T}
use seplogic.Ra.Ura.{Ura}
use mir.Syntax.{Ty, ty_ptr}
use mir.Val.{Val, WT, has_ty, vcons, vnil, vstruct}
use base.Fml.{Fml, Lft, Share, fat, fhide, flft}
use base.Logic.{id⊢}
use types.Logic.{Logic}
use types.Kit.{Goal, Item, Seq, Soaks, Step, step, ‵, ◌$◌, ◌⊛◌, drop, fjoin, move, rewrite, split, use1}
use denote.Copied.{Copied, Struct-Copied, plain_Copied}
use denote.Laws.{Is, shows}
use denote.Memory.{cell_at, hidden_shr, lone, part_at}
use denote.Opens.{Shut, unhide}
use denote.Param.{param}
use denote.Param.Laws.{Laws, param_laws}
use denote.RattleType.{RattleType}
use denote.RawPtr.{Ptr, RawPtr, block_ptr, coded_ptr, null_ptr, ptr_own, ptr_val, rawptr_Tells, rawptr_pure, rawptr_vals}
use denote.Steps.{facts, looks, owned, shuts}
use denote.Struct.Laws.{RawPtr-laws}
use denote.Struct.Owning.{shape}
use denote.Struct.Struct.{Struct, Struct-Makes, Struct-Tells, as_fields}
use Rattle.pbx_shared.proofs.handle.Handle.TheLaws.{lowers}
use Rattle.pbx_shared.specs.Block.{alone, block}
use Rattle.pbx_shared.specs.Ownership.{handle_owns, handle_shares}
use Rattle.pbx_shared.specs.contracts.handle.Handle as handle

abbrev pub word : Ptr → Val
word p = vstruct (vcons (ptr_val p) vnil)

pub fits_pointer : (p : Ptr) → T (has_ty ty_ptr (ptr_val p)) × WT (ptr_val p)
fits_pointer (block_ptr b o) = (tt, tt)
fits_pointer null_ptr = (tt, record { fits = lit< tt })

module _ (X : RattleType) where
  abbrev pub Self : RattleType
  Self = handle.the_row (param 0 X)

  abbrev pub Word : RattleType
  Word = Struct (shape (handle.the_type (param 0 X)))

  abbrev pub word_ty : Ty
  word_ty = lone Word.mir

  abbrev pub shared : Ptr → X.Denot → Fml
  shared = handle_owns (block (param 0 X)) (param 0 X) alone

  abbrev pub lent : Ptr → X.Denot → Lft → Fml
  lent = handle_shares (block (param 0 X)) (param 0 X) alone

  pub fits_word : (p : Ptr) → T (has_ty word_ty (word p)) × WT (word p)
  fits_word p = as_fields (ty_ptr ∷ []) (ptr_val p ∷ []) (fits_pointer p, tt)

  pub told : Laws X → (d : Self.Denot) (vs : List Val) → Is Self d vs → vs ≡ word d.ptr ∷ []
  told L = (lowers (param 0 X) (param_laws 0 X L)).val_is

  module _ {M : Type 1} {𝓤 : Ura M} {𝓛 : Logic 𝓤} {K : Type 0} {Γ : List (Item 𝓤)} {G : Goal 𝓤 𝓛.H} where
    pub worded : K → (d : Self.Denot) → Step K 𝓛 (‵ (Self.own_val d (word d.ptr ∷ [])) ∷ Γ) G (‵ (shared d.ptr d.value) ∷ Γ) G
    worded u d = step (λ rest.
        owned u Word (Is Word) (Struct-Makes 𝓛 (shape (handle.the_type (param 0 X))) (rawptr_pure, tt)) (d.ptr, tt) (word d.ptr ∷ []) ((ptr_val d.ptr ∷ [], tt), (refl, (refl, tt))) $ fjoin u $ rest)

  -- what a `&` to a handle holds: [what its heap lends; a `&` to its word]
  module _ {M : Type 1} {𝓤 : Ura M} {𝓛 : Logic 𝓤} {K : Type 0} {Γ : List (Item 𝓤)} {G : Goal 𝓤 𝓛.H} where
    pub uncovers : K → (κ : Lft) (d : Self.Denot) (b o : ℕ)
        → Step K 𝓛 (‵ (lent d.ptr d.value κ) ∷ ‵ (hidden_shr Word κ (d.ptr, tt) b o) ∷ Γ) G (‵ (hidden_shr Self κ d b o) ∷ Γ) G
    uncovers u κ d b o = step (λ rest.
        use1 𝓛 (‵ (hidden_shr Word κ (d.ptr, tt) b o) ⊛ ‵ (fhide (lent d.ptr d.value κ))) (id⊢ 𝓤 _) $ split u $ move u (1 ∷ []) $ unhide u $ rest)

    module _ (p : Ptr) (b o : ℕ) {κ : Lft} {q : Share} where
      -- [the word's cell; the way back]
      pub reads : K → Soaks G → ((s : Share) → Seq K 𝓛 (‵ (fat s word_ty b o (word p)) ∷ Shut 𝓛 κ q (part_at Word s (p, tt) b o) ∷ Γ) G)
          → Seq K 𝓛 (‵ (hidden_shr Word κ (p, tt) b o) ∷ ‵ (flft κ q) ∷ Γ) G
      reads u z go =
          let pointer : Copied 𝓛 RawPtr = plain_Copied 𝓛 Ptr coded_ptr (ty_ptr ∷ []) ptr_own rawptr_pure ptr_val RawPtr-laws.tells in
          looks u z Word (Struct-Copied 𝓛 (shape (handle.the_type (param 0 X))) (refl, tt) (pointer, tt)).opens (p, tt) b o (λ s vs.
          move u (1 ∷ []) $ facts u Word (Is Word) (shows 𝓛 Word) (p, tt) vs (λ is. move u (2 ∷ []) $ drop u $
          rewrite u 0 (λ (us : List Val). ‵ (cell_at s Word.mir us b o)) (Struct-Tells (shape (handle.the_type (param 0 X))) (rawptr_vals, tt) (rawptr_Tells, tt) (p, tt) vs is) refl $
          use1 𝓛 (‵ (fat s word_ty b o (word p))) (𝓛.laws.raw_at s word_ty b o (word p)) $ go s))

      pub returned : K → Soaks G → (s : Share)
          → Step K 𝓛 (‵ (flft κ q) ∷ Γ) G (‵ (fat s word_ty b o (word p)) ∷ Shut 𝓛 κ q (part_at Word s (p, tt) b o) ∷ Γ) G
      returned u z s = step (λ rest.
          use1 𝓛 (‵ (cell_at s Word.mir (word p ∷ []) b o)) (𝓛.laws.at_raw s word_ty b o (word p)) $
          owned u Word (Is Word) (Struct-Makes 𝓛 (shape (handle.the_type (param 0 X))) (rawptr_pure, tt)) (p, tt) (word p ∷ []) ((ptr_val p ∷ [], tt), (refl, (refl, tt))) $
          move u (1 ∷ 0 ∷ []) $ shuts u z Word s (p, tt) (word p ∷ []) b o $ rest)
