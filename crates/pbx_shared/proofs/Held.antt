-- The block of a handle behind a `&`, and what every walk does with an open block. Assumes `Logic`.
--     Cell, Room        the cell of the count, at a block;  what an open block has: [the count; the level; what shuts it]
--     shuts_count       the block is shut at a count, and the thread's token is had back
--     opens_count       the block is opened by a share of ν's token: [the count; the level; what shuts it; the share]
--     opens_behind      the block of a handle behind a `&` is opened: [the count; the level; what shuts it; the handle's word; what is kept]
--     copied            it is shut, and with a grip more there is a handle more
--     held_again        the block of a handle by value is shut, and there is the handle again
--     had_back          at the count 1 the last handle has the block
use Rattle.std.proofs.Common.{◌≡◌, ℕ, ◌+◌, ◌^◌, ◌<◌, [], ◌∷◌, List, lit<, refl, sym}
use seplogic.Ra.Ura.{Ura}
use mir.Syntax.{ty_int, w64}
use mir.Val.{vint}
use base.Fml.{Fml, Lft, Share, fat, fdead, fobor, flft, ftok}
use base.Fraction.{full_share}
use base.Logic.{id⊢, never}
use base.Mask.{every}
use base.Share
use types.Logic.{Logic}
use types.Kit.{Goal, Item, Seq, Soaks, Step, step, ‵, raw, ◌⊛◌, later, some, ◌$◌, await, drop, fjoin, fjoin3, flt_i, flt_l, fpack, fpick, fsplit, fsplit3, group, join, move, pick, rewrite, split, split3, use1, use2, use3}
use types.Na.{na_inv, na_inv_dup}
use types.Tokens.{obor_close, shr_bor-open}
use types.Within.{tokens_halve}
use denote.Memory.{hidden_shr, part_at}
use denote.Opens.{Shut}
use denote.Param.{param}
use denote.Param.Laws.{Laws}
use denote.RattleType.{RattleType}
use denote.RawPtr.{Ptr, block_ptr, in_a_block}
use Rattle.std.specs.Box.Ownership.{box_owns}
use Rattle.std.specs.contracts.impls.GlobalAllocator.TheImpl.{ghosts}
use Rattle.std.specs.declared.alloc.Global.{Global}
use Rattle.pbx_shared.specs.Block.{alone, block}
use Rattle.pbx_shared.specs.Ownership as own
use Rattle.pbx_shared.specs.Ownership.{Id, count_at}
use Rattle.pbx_shared.proofs.Blocks as blocks
use Rattle.pbx_shared.proofs.Steps as steps
use Rattle.pbx_shared.proofs.Word.{Self, Word, reads, returned, uncovers, word, word_ty, worded}

abbrev pub cell : ℕ → ℕ → ℕ → Fml
cell b o n = fat full_share (ty_int w64) b (o + 0) (vint w64 n)

module _ (X : RattleType) (L : Laws X) (p : Ptr) (x : X.Denot) where
  abbrev pub level : Id → ℕ → Fml
  level = steps.level (blocks.k X L p x) (blocks.S X L p x) (blocks.P X L p x) (blocks.t X L p x)

  abbrev pub grip : Id → Fml
  grip = steps.grip (blocks.k X L p x) (blocks.S X L p x) (blocks.P X L p x) (blocks.t X L p x)

  abbrev pub ν : Id → Lft
  ν = own.shared_for (blocks.k X L p x) (blocks.S X L p x) (blocks.P X L p x) (blocks.t X L p x)

  abbrev pub hidden : Id → Fml
  hidden i = na_inv (blocks.k X L p x) (steps.Inv (blocks.k X L p x) (blocks.S X L p x) (blocks.P X L p x) (blocks.t X L p x) i)

  abbrev pub seen : Id → Fml
  seen i = blocks.t X L p x (ν i)

  module _ {M : Type 1} {𝓤 : Ura M} (𝓛 : Logic 𝓤) where
    abbrev pub shutter : Id → Item 𝓤
    shutter i = raw (steps.Shut (blocks.k X L p x) (blocks.S X L p x) (blocks.P X L p x) (blocks.t X L p x) 𝓛 i)

    -- what stays behind the open block: the share of ν's token, out of its borrow; the way back of the word; the invariant; what every handle sees
    abbrev pub Kept : Lft → Share → ℕ → ℕ → Id → Share → Share → Item 𝓤
    Kept κ q rb ro i s r = (‵ (flft (ν i) s) ⊛ ‵ (fobor κ (Share.left q) (flft (ν i) s))) ⊛ Shut 𝓛 κ (Share.right q) (part_at (Word X) r (p, tt) rb ro) ⊛ ‵ (hidden i) ⊛ ‵ (seen i)

  module _ {M : Type 1} {𝓤 : Ura M} {𝓛 : Logic 𝓤} {K : Type 0} {Γ : List (Item 𝓤)} {G : Goal 𝓤 𝓛.H} where
    hidden_twice : K → (i : Id) → Step K 𝓛 (‵ (hidden i) ∷ ‵ (hidden i) ∷ Γ) G (‵ (hidden i) ∷ Γ) G
    hidden_twice u i = step (λ rest.
        use1 𝓛 (‵ (hidden i) ⊛ ‵ (hidden i)) (na_inv_dup 𝓛 (blocks.k X L p x) (steps.Inv (blocks.k X L p x) (blocks.S X L p x) (blocks.P X L p x) (blocks.t X L p x) i)) $ split u $ rest)

    pub shuts_count : K → Soaks G → (i : Id) (n b o : ℕ) → p ≡ block_ptr b o → n < 2 ^ 64
        → Step K 𝓛 (‵ (ftok every) ∷ Γ) G (‵ (cell b o n) ∷ ‵ (level i n) ∷ shutter 𝓛 i ∷ Γ) G
    shuts_count u z i n b o at fits = step (λ rest.
        flt_i u n (2 ^ 64) fits $ fjoin u $ rewrite u 0 (λ (r : Ptr). ‵ (count_at r n)) (sym at) refl $
        use3 𝓛 (later (‵ (ftok every))) (steps.shut (blocks.k X L p x) (blocks.S X L p x) (blocks.P X L p x) (blocks.t X L p x) 𝓛 i n) $ await u z $ rest)

    pub opens_count : K → Soaks G → (i : Id) (s : Share)
        → ((n b o : ℕ) → p ≡ block_ptr b o → n < 2 ^ 64 → Seq K 𝓛 (‵ (cell b o n) ∷ ‵ (level i n) ∷ shutter 𝓛 i ∷ ‵ (flft (ν i) s) ∷ Γ) G)
        → Seq K 𝓛 (‵ (hidden i) ∷ ‵ (flft (ν i) s) ∷ ‵ (ftok every) ∷ Γ) G
    opens_count u z i s go =
        use3 𝓛 (later (some (λ (n : ℕ). ‵ (count_at p n) ⊛ ‵ (level i n) ⊛ ‵ (flft (ν i) s) ⊛ shutter 𝓛 i)))
        (steps.opens (blocks.k X L p x) (blocks.S X L p x) (blocks.P X L p x) (blocks.t X L p x) 𝓛 i s) $ await u z $ pick u (λ n. split u $ move u (1 ∷ []) $ split3 u $ move u (3 ∷ []) $
        in_a_block u p (λ r. count_at r n) (id⊢ 𝓤 (never 𝓤)) (λ b o at. fsplit u $ flt_l u (λ fits. move u (0 ∷ 1 ∷ 3 ∷ 2 ∷ []) $ go n b o at fits)))

  module _ {M : Type 1} {𝓤 : Ura M} {𝓛 : Logic 𝓤} {K : Type 0} {Γ : List (Item 𝓤)} {G : Goal 𝓤 𝓛.H} where
    open 𝓛 use {lfts}

    module _ (κ : Lft) (q : Share) (rb ro : ℕ) where
      pub opens_behind : K → Soaks G
          → ((i : Id) (s r : Share) (n b o : ℕ) → p ≡ block_ptr b o → n < 2 ^ 64 → Seq K 𝓛 (‵ (cell b o n) ∷ ‵ (level i n) ∷ shutter 𝓛 i ∷ ‵ (fat r (word_ty X) rb ro (word p)) ∷ Kept 𝓛 κ q rb ro i s r ∷ Γ) G)
          → Seq K 𝓛 (‵ (hidden_shr (Self X) κ (record { ptr = p; value = x }) rb ro) ∷ ‵ (flft κ q) ∷ ‵ (ftok every) ∷ Γ) G
      opens_behind u z go =
          uncovers X u κ (record { ptr = p; value = x }) rb ro $ move u (2 ∷ []) $ use1 𝓛 (‵ (flft κ (Share.left q)) ⊛ ‵ (flft κ (Share.right q))) (lfts.lft_split κ q) $ split u $
          move u (3 ∷ 1 ∷ []) $ reads X p rb ro u z (λ r. move u (3 ∷ []) $ fpick u (λ i. fsplit3 u $
          -- [a share of ν's token, lent; the invariant; what every handle sees; the word; its way back; half the token; the thread's token]
          move u (0 ∷ 5 ∷ []) $ shr_bor-open u z (tokens_halve 𝓛 (ν i)) (λ s. move u (2 ∷ []) $ hidden_twice u i $ move u (0 ∷ 3 ∷ 7 ∷ []) $ opens_count u z i s (λ n b o at fits.
          move u (3 ∷ 5 ∷ []) $ join u $ move u (0 ∷ 7 ∷ 4 ∷ 5 ∷ []) $ group u 4 $ move u (1 ∷ 2 ∷ 3 ∷ 4 ∷ 0 ∷ []) $ go i s r n b o at fits))))

      pub copied : K → Soaks G → (i : Id) (s r : Share) (n b o : ℕ) → p ≡ block_ptr b o → n < 2 ^ 64
          → Step K 𝓛 (‵ ((Self X).own_val (record { ptr = p; value = x }) (word p ∷ [])) ∷ ‵ (flft κ q) ∷ ‵ (ftok every) ∷ Γ) G
          (‵ (cell b o n) ∷ ‵ (level i n) ∷ shutter 𝓛 i ∷ ‵ (fat r (word_ty X) rb ro (word p)) ∷ Kept 𝓛 κ q rb ro i s r ∷ ‵ (grip i) ∷ Γ) G
      copied u z i s r n b o at fits = step (λ rest.
          shuts_count u z i n b o at fits $ move u (2 ∷ []) $ split u $ split u $ move u (1 ∷ 0 ∷ []) $ obor_close u z $ drop u $ move u (1 ∷ []) $ split3 u $
          -- [the word's way back; the invariant; what every handle sees; half the token; the thread's token; the word; the grip]
          move u (5 ∷ 0 ∷ []) $ returned X p rb ro u z r $ move u (3 ∷ 0 ∷ []) $ use2 𝓛 (‵ (flft κ q)) (lfts.lft_join κ q) $
          move u (4 ∷ 1 ∷ 2 ∷ []) $ fjoin3 u $ fpack u Id (own.handle (blocks.k X L p x) (blocks.S X L p x) (blocks.P X L p x) (blocks.t X L p x)) i $ worded X u (record { ptr = p; value = x }) $ rest)

  module _ {M : Type 1} {𝓤 : Ura M} {𝓛 : Logic 𝓤} {K : Type 0} {Γ : List (Item 𝓤)} {G : Goal 𝓤 𝓛.H} where
    module _ (i : Id) (n b o : ℕ) (at : p ≡ block_ptr b o) where
      pub held_again : K → Soaks G → n < 2 ^ 64
          → Step K 𝓛 (‵ ((Self X).own_val (record { ptr = p; value = x }) (word p ∷ [])) ∷ ‵ (ftok every) ∷ Γ) G
          (‵ (cell b o n) ∷ ‵ (level i n) ∷ shutter 𝓛 i ∷ ‵ (grip i) ∷ ‵ (hidden i) ∷ ‵ (seen i) ∷ Γ) G
      held_again u z fits = step (λ rest.
          shuts_count u z i n b o at fits $ move u (1 ∷ 2 ∷ 3 ∷ []) $ fjoin3 u $ fpack u Id (own.handle (blocks.k X L p x) (blocks.S X L p x) (blocks.P X L p x) (blocks.t X L p x)) i $
          worded X u (record { ptr = p; value = x }) $ rest)

      pub had_back : K → Soaks G → (alloc : Global) → n ≡ 1
          → Step K 𝓛 (‵ (box_owns (ghosts.dealloc_token alloc) (block (param 0 X)) p (alone x)) ∷ ‵ (ftok every) ∷ Γ) G
          (‵ (cell b o n) ∷ ‵ (level i n) ∷ shutter 𝓛 i ∷ ‵ (grip i) ∷ Γ) G
      had_back u z alloc one = let here : Ptr = block_ptr b o in step (λ rest.
          rewrite u 0 (λ (m : ℕ). ‵ (cell b o m)) one refl $ rewrite u 1 (λ (m : ℕ). ‵ (level i m)) one refl $ move u (1 ∷ 3 ∷ []) $
          use2 𝓛 (later (‵ (fdead (ν i)) ⊛ ‵ (blocks.P X L p x))) (steps.last (blocks.k X L p x) (blocks.S X L p x) (blocks.P X L p x) (blocks.t X L p x) 𝓛 i) $ await u z $ split u $
          -- [ν is over; what the last handle has back; the count; what shuts it]
          move u (0 ∷ 3 ∷ []) $ use2 𝓛 (later (‵ (ftok every))) (steps.shut_dead (blocks.k X L p x) (blocks.S X L p x) (blocks.P X L p x) (blocks.t X L p x) 𝓛 i) $ await u z $
          move u (2 ∷ []) $ flt_i u 1 (2 ^ 64) (lit< tt) $ fjoin u $ move u (0 ∷ 2 ∷ []) $ rewrite u 1 (λ (r : Ptr). ‵ (own.back (block (param 0 X)) (param 0 X) alone r x)) at refl $
          use2 𝓛 (‵ (own.raw_owns (block (param 0 X)) here (alone x))) (blocks.packed X L 𝓛 b o x) $ rewrite u 0 (λ (r : Ptr). ‵ (own.raw_owns (block (param 0 X)) r (alone x))) (sym at) refl $
          fsplit u $ move u (1 ∷ []) $ fpick u (λ h. move u (1 ∷ []) $ fjoin u $ rest))
