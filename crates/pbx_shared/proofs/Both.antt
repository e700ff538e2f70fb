-- Two handles behind `&`s, and their blocks. Assumes `Logic`.
--     begins, ends      a handle behind a `&` has a share of ν's token, lent, and the invariant;  the share is given back
--     alive, shut_in    the invariant of a block whose ν is not over has a count;  and it is that at any count
--     opened, shut      the blocks of two handles that have not one key are open at once;  and are shut
use Rattle.std.proofs.Common.{◌≡◌, ℕ, ◌^◌, ◌<◌, Bool, true, false, List, [], ◌∷◌, refl, sym}
use seplogic.Ra.Ura.{Ura}
use base.Fml.{Fml, Key, Lft, Share, fobor, flft, fsep, ftok}
use base.Logic.{SProp, ent, sep, wand, ex, id⊢, never, never_e, via, apply∗}
use base.Mask.{every, just, less, less_other, take}
use base.Share
use denote.Memory.{hidden_shr}
use denote.Param.Laws.{Laws}
use denote.RattleType.{RattleType}
use denote.RawPtr.{Ptr, block_ptr, in_a_block}
use types.Kit.{Goal, Item, Seq, Soaks, Step, step, ‵, raw, ◌⊛◌, later, some, given, ◌$◌, ◌∵◌, !, qed, assume, await, by, done, drop, fjoin, flt_i, flt_l, fpack, fpick, frame, fsplit, fsplit3, join, learn, move, now, pick, rewrite, show, split, split3, updating, use1, use2, use3}
use types.Logic.{Logic, sem}
use types.Na.{na_inv, na_inv_acc}
use types.Tokens.{obor_close, shr_bor-open}
use types.Within.{tokens_halve}
use Rattle.pbx_shared.specs.Ownership as own
use Rattle.pbx_shared.specs.Ownership.{Id, count_at}
use Rattle.pbx_shared.proofs.Blocks as blocks
use Rattle.pbx_shared.proofs.Held.{cell, hidden, level, ν}
use Rattle.pbx_shared.proofs.Steps as steps
use Rattle.pbx_shared.proofs.Word.{Self, Word, uncovers}

-- two invariants of two keys
module _ {M : Type 1} {𝓤 : Ura M} (𝓛 : Logic 𝓤) (k j : Key) (P Q : Fml) where
  open 𝓛 use {H, A}

  abbrev pub Shuts : SProp 𝓤
  Shuts = wand 𝓤 (sep 𝓤 (sem 𝓛 P) (sem 𝓛 Q)) (H.⇛ (A.tok every))

  pub two_open : ¬ (k ≡ j) → ent 𝓤 (sep 𝓤 (sem 𝓛 (na_inv k P)) (sep 𝓤 (sem 𝓛 (na_inv j Q)) (A.tok every))) (H.⇛ (sep 𝓤 (sem 𝓛 P) (sep 𝓤 (sem 𝓛 Q) Shuts)))
  two_open apart =
      let others = less every k in let rests = less others j in let cuts = take every k refl in let cuts' = take others j (less_other every k j apart) in
      qed 𝓛 (‵ (na_inv k P) ∷ ‵ (na_inv j Q) ∷ ‵ (ftok every) ∷ []) ∵ updating ! $ move ! (2 ∷ []) $
      use1 𝓛 (‵ (ftok (just k)) ⊛ ‵ (ftok others)) (𝓛.invs.tok_cut every (just k) others cuts) $ split ! $ move ! (2 ∷ 0 ∷ []) $
      use2 𝓛 (later (‵ P ⊛ raw (wand 𝓤 (sem 𝓛 P) (H.⇛ (A.tok (just k)))))) (na_inv_acc 𝓛 k P) $ await ! tt $ split ! $ move ! (2 ∷ []) $
      use1 𝓛 (‵ (ftok (just j)) ⊛ ‵ (ftok rests)) (𝓛.invs.tok_cut others (just j) rests cuts') $ split ! $ move ! (4 ∷ 0 ∷ []) $
      use2 𝓛 (later (‵ Q ⊛ raw (wand 𝓤 (sem 𝓛 Q) (H.⇛ (A.tok (just j)))))) (na_inv_acc 𝓛 j Q) $ await ! tt $ split ! $
      -- [Q; its way back; the other keys; P; its way back]
      now ! $ move ! (3 ∷ 0 ∷ []) $ frame ! $ frame ! $ assume ! (‵ P ⊛ ‵ Q) $ updating ! $ split ! $ move ! (1 ∷ 2 ∷ []) $
      use2 𝓛 (later (‵ (ftok (just j)))) (apply∗ 𝓤 (sem 𝓛 Q) (H.⇛ (A.tok (just j)))) $ await ! tt $ move ! (0 ∷ 2 ∷ []) $
      use2 𝓛 (‵ (ftok others)) (𝓛.invs.tok_glue others (just j) rests cuts') $ move ! (1 ∷ 2 ∷ []) $
      use2 𝓛 (later (‵ (ftok (just k)))) (apply∗ 𝓤 (sem 𝓛 P) (H.⇛ (A.tok (just k)))) $ await ! tt $ now ! $ by ! (𝓛.invs.tok_glue every (just k) others cuts)

-- one invariant
module _ (k : Key) (S : ℕ → Fml) (P : Fml) (t : Lft → Fml) (i : Id) where
  module _ {M : Type 1} {𝓤 : Ura M} (𝓛 : Logic 𝓤) where
    open 𝓛 use {A}

    abbrev Alive : Share → ℕ → SProp 𝓤
    Alive s n = sep 𝓤 (sem 𝓛 (S n)) (sep 𝓤 (sem 𝓛 (steps.level k S P t i n)) (A.lft (own.shared_for k S P t i) s))

    alive : (s : Share) → ent 𝓤 (sep 𝓤 (sem 𝓛 (steps.Inv k S P t i)) (A.lft (own.shared_for k S P t i) s)) (ex 𝓤 (Alive s))
    alive s = qed 𝓛 (‵ (steps.Inv k S P t i) ∷ ‵ (flft (own.shared_for k S P t i) s) ∷ []) ∵ fpick ! (λ y. by ! (by_case y))
      where
        by_case : (y : Bool) → ent 𝓤 (sep 𝓤 (sem 𝓛 (own.state k S P t i y)) (A.lft (own.shared_for k S P t i) s)) (ex 𝓤 (Alive s))
        by_case true = qed 𝓛 (‵ (own.state k S P t i true) ∷ ‵ (flft (own.shared_for k S P t i) s) ∷ []) ∵ fpick ! (λ n. fsplit ! $ show ! (Alive s) n $ done !)
        by_case false = qed 𝓛 (‵ (own.state k S P t i false) ∷ ‵ (flft (own.shared_for k S P t i) s) ∷ []) ∵ move ! (1 ∷ 0 ∷ []) $ by ! (via 𝓤 (never 𝓤) (𝓛.lfts.lft-dead (own.shared_for k S P t i) s) (never_e 𝓤 (ex 𝓤 (Alive s))))

    shut_in : (n : ℕ) → ent 𝓤 (sep 𝓤 (sem 𝓛 (S n)) (sem 𝓛 (steps.level k S P t i n))) (sem 𝓛 (steps.Inv k S P t i))
    shut_in n = qed 𝓛 (‵ (S n) ∷ ‵ (steps.level k S P t i n) ∷ []) ∵ fjoin ! $ fpack ! ℕ (λ m. fsep (S m) (steps.level k S P t i m)) n $ fpack ! Bool (own.state k S P t i) true $ done !

module _ (X : RattleType) (L : Laws X) where
  abbrev inside : Ptr → X.Denot → Id → Fml
  inside p x = steps.Inv (blocks.k X L p x) (blocks.S X L p x) (blocks.P X L p x) (blocks.t X L p x)

  module _ (p : Ptr) (x : X.Denot) where
    module _ {M : Type 1} {𝓤 : Ura M} {𝓛 : Logic 𝓤} {K : Type 0} {Γ : List (Item 𝓤)} {G : Goal 𝓤 𝓛.H} where
      open 𝓛 use {lfts}

      -- [the invariant; a share of ν's token; a `&` to the word; half the token; the way back of the share]
      pub begins : K → Soaks G → (κ : Lft) (q : Share) (rb ro : ℕ)
          → ((i : Id) (s : Share) → Seq K 𝓛 (‵ (hidden X L p x i) ∷ ‵ (flft (ν X L p x i) s) ∷ ‵ (hidden_shr (Word X) κ (p, tt) rb ro) ∷ ‵ (flft κ (Share.right q)) ∷ ‵ (fobor κ (Share.left q) (flft (ν X L p x i) s)) ∷ Γ) G)
          → Seq K 𝓛 (‵ (hidden_shr (Self X) κ (record { ptr = p; value = x }) rb ro) ∷ ‵ (flft κ q) ∷ Γ) G
      begins u z κ q rb ro go =
          uncovers X u κ (record { ptr = p; value = x }) rb ro $ move u (2 ∷ []) $ use1 𝓛 (‵ (flft κ (Share.left q)) ⊛ ‵ (flft κ (Share.right q))) (lfts.lft_split κ q) $ split u $
          move u (2 ∷ []) $ fpick u (λ i. fsplit3 u $ move u (0 ∷ 3 ∷ []) $ shr_bor-open u z (tokens_halve 𝓛 (ν X L p x i)) (λ s.
          move u (3 ∷ []) $ drop u $ move u (2 ∷ 1 ∷ 4 ∷ 3 ∷ 0 ∷ []) $ go i s))

      pub ends : K → Soaks G → (κ : Lft) (q : Share) (i : Id) (s : Share)
          → Step K 𝓛 (‵ (flft κ q) ∷ Γ) G (‵ (fobor κ (Share.left q) (flft (ν X L p x i) s)) ∷ ‵ (flft (ν X L p x i) s) ∷ ‵ (flft κ (Share.right q)) ∷ Γ) G
      ends u z κ q i s = step (λ rest. obor_close u z $ drop u $ use2 𝓛 (‵ (flft κ q)) (lfts.lft_join κ q) $ rest)

      inside_opens : K → (i : Id) (s : Share)
          → ((n b o : ℕ) → p ≡ block_ptr b o → n < 2 ^ 64 → 0 < n → Seq K 𝓛 (‵ (level X L p x i n) ∷ ‵ (cell b o n) ∷ ‵ (flft (ν X L p x i) s) ∷ Γ) G)
          → Seq K 𝓛 (‵ (inside p x i) ∷ ‵ (flft (ν X L p x i) s) ∷ Γ) G
      inside_opens u i s go =
          use2 𝓛 (some (λ (n : ℕ). ‵ (count_at p n) ⊛ ‵ (level X L p x i n) ⊛ ‵ (flft (ν X L p x i) s))) (alive (blocks.k X L p x) (blocks.S X L p x) (blocks.P X L p x) (blocks.t X L p x) i 𝓛 s) $
          pick u (λ n. split3 u $ in_a_block u p (λ r. count_at r n) (id⊢ 𝓤 (never 𝓤)) (λ b o at. fsplit u $ flt_l u (λ fits. move u (1 ∷ []) $
          use1 𝓛 (given (0 < n) (‵ (level X L p x i n))) (steps.counted (blocks.k X L p x) (blocks.S X L p x) (blocks.P X L p x) (blocks.t X L p x) 𝓛 i n) $ learn u (λ some_left. go n b o at fits some_left))))

      inside_shuts : K → (i : Id) (n b o : ℕ) → p ≡ block_ptr b o → n < 2 ^ 64
          → Step K 𝓛 (‵ (inside p x i) ∷ Γ) G (‵ (cell b o n) ∷ ‵ (level X L p x i n) ∷ Γ) G
      inside_shuts u i n b o at fits = step (λ rest.
          flt_i u n (2 ^ 64) fits $ fjoin u $ rewrite u 0 (λ (r : Ptr). ‵ (count_at r n)) (sym at) refl $
          use2 𝓛 (‵ (inside p x i)) (shut_in (blocks.k X L p x) (blocks.S X L p x) (blocks.P X L p x) (blocks.t X L p x) i 𝓛 n) $ rest)

  module _ (p p' : Ptr) (x x' : X.Denot) (i i' : Id) where
    module _ {M : Type 1} {𝓤 : Ura M} (𝓛 : Logic 𝓤) where
      abbrev pub shutter : Item 𝓤
      shutter = raw (Shuts 𝓛 (blocks.k X L p x) (blocks.k X L p' x') (inside p x i) (inside p' x' i'))

    module _ {M : Type 1} {𝓤 : Ura M} {𝓛 : Logic 𝓤} {K : Type 0} {Γ : List (Item 𝓤)} {G : Goal 𝓤 𝓛.H} where
      -- [the count; the level; and those of the other; what shuts both; the shares of both tokens]
      pub opened : K → Soaks G → (s s' : Share) → ¬ (blocks.k X L p x ≡ blocks.k X L p' x')
          → ((n b o n' b' o' : ℕ) → p ≡ block_ptr b o → p' ≡ block_ptr b' o' → n < 2 ^ 64 → n' < 2 ^ 64 → 0 < n'
          → Seq K 𝓛 (‵ (cell b o n) ∷ ‵ (cell b' o' n') ∷ ‵ (level X L p x i n) ∷ ‵ (level X L p' x' i' n') ∷ shutter 𝓛 ∷ ‵ (flft (ν X L p x i) s) ∷ ‵ (flft (ν X L p' x' i') s') ∷ Γ) G)
          → Seq K 𝓛 (‵ (hidden X L p x i) ∷ ‵ (hidden X L p' x' i') ∷ ‵ (ftok every) ∷ ‵ (flft (ν X L p x i) s) ∷ ‵ (flft (ν X L p' x' i') s') ∷ Γ) G
      opened u z s s' apart go =
          use3 𝓛 (later (‵ (inside p x i) ⊛ ‵ (inside p' x' i') ⊛ shutter 𝓛)) (two_open 𝓛 (blocks.k X L p x) (blocks.k X L p' x') (inside p x i) (inside p' x' i') apart) $ await u z $ split3 u $
          move u (0 ∷ 3 ∷ []) $ inside_opens p x u i s (λ n b o at fits _. move u (3 ∷ 5 ∷ []) $ inside_opens p' x' u i' s' (λ n' b' o' at' fits' some_left.
          move u (4 ∷ 1 ∷ 3 ∷ 0 ∷ 6 ∷ 5 ∷ 2 ∷ []) $ go n b o n' b' o' at at' fits fits' some_left))

      pub shut : K → Soaks G → (n b o n' b' o' : ℕ) → p ≡ block_ptr b o → p' ≡ block_ptr b' o' → n < 2 ^ 64 → n' < 2 ^ 64
          → Step K 𝓛 (‵ (ftok every) ∷ Γ) G (‵ (cell b o n) ∷ ‵ (cell b' o' n') ∷ ‵ (level X L p x i n) ∷ ‵ (level X L p' x' i' n') ∷ shutter 𝓛 ∷ Γ) G
      shut u z n b o n' b' o' at at' fits fits' = step (λ rest.
          move u (0 ∷ 2 ∷ []) $ inside_shuts p x u i n b o at fits $ move u (1 ∷ 2 ∷ []) $ inside_shuts p' x' u i' n' b' o' at' fits' $ move u (1 ∷ 0 ∷ []) $ join u $
          use2 𝓛 (later (‵ (ftok every))) (apply∗ 𝓤 (sep 𝓤 (sem 𝓛 (inside p x i)) (sem 𝓛 (inside p' x' i'))) (𝓛.H.⇛ (𝓛.A.tok every))) $ await u z $ rest)
