-- The block of a handle. Assumes `Logic`.
--     unpacked      a block whose count is 1 is its count, and what the last handle has back
--     packed        and these are the block again
--     lends_value      what the last handle has back lends the value
--     handle_opens      a handle by value opens its block: [the count; the level; its grip; what shuts it; the invariant; what is seen]
use Rattle.std.proofs.Common.{◌≡◌, ℕ, ◌+◌, ◌^◌, ◌<◌, List, [], ◌∷◌, refl, lit<}
use seplogic.Ra.Ura.{Ura}
use mir.Syntax.{Sym, w64, ty_int}
use mir.Val.{vint}
use mir.Raw.{raw as bare}
use base.Fraction.{full_share}
use base.Logic.{ent, sep, wand, all_e, id⊢, never, apply∗}
use base.Mask.{every}
use base.Fml.{Lft, Fml, fsep, fat, flft, ftok}
use types.Logic.{Logic, sem}
use types.Kit.{Item, Goal, Seq, Soaks, ‵, raw, ◌⊛◌, some, given, later, ◌$◌, ◌∵◌, !, qed, by, move, drop, split, split3, fsplit, fsplit3, fjoin, fjoin3, fpick, flt_i, flt_l, pick, learn, await, assume, use1, use2, use3, rewrite, done}
use types.Na.{na_inv, na_inv_dup}
use denote.RattleType.{RattleType}
use denote.RawPtr.{Ptr, block_ptr, in_a_block, lies_at}
use denote.Memory.{part_at, part_of, lone}
use denote.Plain.{UInt, uint_out, uint_in, uint_Lawful}
use denote.Param.{param, layout}
use denote.Param.Laws.{Laws, param_laws}
use denote.Steps.{nothing}
use denote.Struct.Members.{Member, parts_at}
use denote.Struct.Parts.{Struct-parts, PartsBack, shape_of}
use denote.Struct.Struct.{Struct}
use denote.Struct.Lending.{Lends, Lends-first, Lends-lies}
use Rattle.pbx_shared.specs.Ownership as own
use Rattle.pbx_shared.specs.Ownership.{Id, key, raw_owns, count_at, back, shown, value_owns, value_ptr, rejoins, frees, handle_owns}
use Rattle.pbx_shared.specs.Block.{block, alone}
use Rattle.pbx_shared.specs.declared.node.Node.{Node}
use Rattle.pbx_shared.specs.contracts.node.Node as node
use Rattle.pbx_shared.proofs.Steps as steps

module _ (X : RattleType) (L : Laws X) where
  abbrev R : RattleType
  R = param 0 X

  abbrev N : RattleType
  N = block R

  abbrev ν : Sym
  ν = (node.the_type R).name

  abbrev members : List Member
  members = record { row = UInt w64; ty = ty_int w64 } ∷ record { row = R; ty = layout X } ∷ []

  module _ {M : Type 1} {𝓤 : Ura M} (𝓛 : Logic 𝓤) (b o : ℕ) where
    abbrev here : Ptr
    here = block_ptr b o

    joins : (x : X.Denot) → ent 𝓤 (PartsBack 𝓛 full_share ν members b o) (sem 𝓛 (rejoins N R alone here x))
    unfolding part_of
    joins x = qed 𝓛 (raw (PartsBack 𝓛 full_share ν members b o) ∷ []) ∵ assume ! (‵ (fsep (count_at here 1) (value_owns N R alone here x))) $ fsplit ! $ fsplit ! $ drop ! $
        use1 𝓛 (‵ (part_at (UInt w64) full_share 1 b (o + 0))) (uint_in 𝓛 full_share w64 1 b (o + 0)) $ nothing ! $ move ! (1 ∷ 2 ∷ 0 ∷ []) $ fjoin3 ! $ move ! (1 ∷ []) $
        use1 𝓛 (raw (wand 𝓤 (sem 𝓛 (parts_at full_share members 0 (1, (x, tt)) b o)) (sem 𝓛 (part_at (Struct (shape_of ν members)) full_share (1, (x, tt)) b o))))
        (all_e 𝓤 (λ (a : ℕ × (X.Denot × Unit {0})). wand 𝓤 (sem 𝓛 (parts_at full_share members 0 a b o)) (sem 𝓛 (part_at (Struct (shape_of ν members)) full_share a b o))) (1, (x, tt))) $ move ! (1 ∷ 0 ∷ []) $
        by ! (apply∗ 𝓤 (sem 𝓛 (parts_at full_share members 0 (1, (x, tt)) b o)) (sem 𝓛 (part_at (Struct (shape_of ν members)) full_share (1, (x, tt)) b o)))

    pub unpacked : (v : Node X.Denot) → v.count ≡ 1 → ent 𝓤 (sem 𝓛 (raw_owns N here v)) (sep 𝓤 (sem 𝓛 (count_at here 1)) (sem 𝓛 (back N R alone here v.value)))
    unfolding part_of
    unpacked v one = qed 𝓛 (‵ (raw_owns N here v) ∷ []) ∵ fsplit ! $
        use1 𝓛 (‵ (parts_at full_share members 0 (v.count, (v.value, tt)) b o) ⊛ raw (PartsBack 𝓛 full_share ν members b o))
        (Struct-parts 𝓛 full_share ν members (uint_Lawful 𝓛 w64, ((param_laws 0 X L).lawful 𝓛, tt)) (v.count, (v.value, tt)) b o) $ split ! $ fsplit3 ! $
        rewrite ! 0 (λ (n : ℕ). ‵ (part_at (UInt w64) full_share n b (o + 0))) one refl $ use1 𝓛 (‵ (fat full_share (ty_int w64) b (o + 0) (vint w64 1))) (uint_out 𝓛 full_share w64 1 b (o + 0)) $
        flt_i ! 1 (2 ^ 64) (lit< tt) $ fjoin ! $ move ! (3 ∷ []) $ use1 𝓛 (‵ (rejoins N R alone here v.value)) (joins v.value) $ move ! (2 ∷ 0 ∷ 4 ∷ []) $ fjoin3 ! $ move ! (1 ∷ 0 ∷ []) $ move ! (2 ∷ []) $ drop ! $ done !

    pub packed : (x : X.Denot) → ent 𝓤 (sep 𝓤 (sem 𝓛 (count_at here 1)) (sem 𝓛 (back N R alone here x))) (sem 𝓛 (raw_owns N here (alone x)))
    packed x = qed 𝓛 (‵ (count_at here 1) ∷ ‵ (back N R alone here x) ∷ []) ∵ move ! (1 ∷ []) $ fsplit3 ! $ move ! (3 ∷ 0 ∷ []) $ fjoin ! $
        use2 𝓛 (‵ (lies_at N full_share here (alone x))) (apply∗ 𝓤 (sem 𝓛 (fsep (count_at here 1) (value_owns N R alone here x))) (sem 𝓛 (lies_at N full_share here (alone x)))) $ fjoin ! $ done !

  module _ {M : Type 1} {𝓤 : Ura M} (𝓛 : Logic 𝓤) (p : Ptr) (x : X.Denot) where
    pub lends_value : Lends 𝓛 (back N R alone p x) (shown N R alone p x) X.lives
    lends_value = Lends-first 𝓛 (value_owns N R alone p x) (fsep (rejoins N R alone p x) (frees (bare (lone N.mir)) p)) (shown N R alone p x) X.lives
        (Lends-lies 𝓛 R X.lives (value_ptr N R alone p x) x ((param_laws 0 X L).shares 𝓛 x))

  module _ (p : Ptr) (x : X.Denot) where
    abbrev pub k : ℕ × ℕ
    k = key R p x

    abbrev pub S : ℕ → Fml
    S = count_at p

    abbrev pub P : Fml
    P = back N R alone p x

    abbrev pub t : Lft → Fml
    t = shown N R alone p x

    module _ {M : Type 1} {𝓤 : Ura M} {𝓛 : Logic 𝓤} {K : Type 0} {Γ : List (Item 𝓤)} {G : Goal 𝓤 𝓛.H} where
      pub handle_opens : K → Soaks G
          → ((i : Id) (n b o : ℕ) → p ≡ block_ptr b o → n < 2 ^ 64 → 0 < n → Seq K 𝓛 (‵ (fat full_share (ty_int w64) b (o + 0) (vint w64 n)) ∷ ‵ (steps.level k S P t i n) ∷ ‵ (steps.grip k S P t i) ∷ raw (steps.Shut k S P t 𝓛 i) ∷ ‵ (na_inv k (steps.Inv k S P t i)) ∷ ‵ (t (own.shared_for k S P t i)) ∷ Γ) G)
          → Seq K 𝓛 (‵ (handle_owns N R alone p x) ∷ ‵ (ftok every) ∷ Γ) G
      handle_opens u z go = fpick u (λ i. let ν₁ : Lft = own.shared_for k S P t i in fsplit3 u $ fpick u (λ e. fpick u (λ y. fsplit u $
          move u (2 ∷ []) $ use1 𝓛 (‵ (na_inv k (steps.Inv k S P t i)) ⊛ ‵ (na_inv k (steps.Inv k S P t i))) (na_inv_dup 𝓛 k (steps.Inv k S P t i)) $ split u $ move u (0 ∷ 2 ∷ 5 ∷ []) $
          use3 𝓛 (later (some (λ (n : ℕ). ‵ (S n) ⊛ ‵ (steps.level k S P t i n) ⊛ ‵ (flft ν₁ e) ⊛ raw (steps.Shut k S P t 𝓛 i)))) (steps.opens k S P t 𝓛 i e) $ await u z $ pick u (λ n.
          split u $ move u (1 ∷ []) $ split3 u $ move u (3 ∷ []) $ in_a_block u p (λ r. count_at r n) (id⊢ 𝓤 (never 𝓤)) (λ b o at. fsplit u $ flt_l u (λ fits.
          move u (2 ∷ 5 ∷ []) $ use2 𝓛 (‵ (steps.grip k S P t i)) (steps.grip_in k S P t 𝓛 i e y) $ move u (2 ∷ []) $ use1 𝓛 (given (0 < n) (‵ (steps.level k S P t i n))) (steps.counted k S P t 𝓛 i n) $ learn u (λ some_left.
          move u (2 ∷ 0 ∷ 1 ∷ []) $ go i n b o at fits some_left)))))))
