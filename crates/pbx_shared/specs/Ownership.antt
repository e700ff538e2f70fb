-- What a handle owns and lends: the ownership of a counted pointer, as RustBelt gives it of `Rc`, with a count that saturates. No clause of a public function reads it.
-- A value is shared for a lifetime ν; a second one, σ, stands while the count is exact.
-- A count at its end is never moved again: σ is ended then, the value is never had back, and each further handle takes half of what is left of ν's token.
use Rattle.std.specs.Prelude.{◌≡◌, ℕ, ◌+◌, ◌-◌, ◌^◌, Bool, true, false, [], ◌∷◌}
use base.Fraction.{full_share}
use base.FractionLaws.{Counts}
use base.Stored.{coded×}
use base.Fml.{Lft, Key, Share, Fml, ftrue, ffalse, fsep, fex, fwand, flt, fat, flft, flent, fdead}
use mir.Syntax.{Ty, w64, ty_int}
use mir.Val.{vint}
use mir.Raw.{raw}
use prog.Memory.{align, up}
use types.RcWeak.{rest}
use types.Na.{na_inv}
use denote.RattleType.{RattleType}
use denote.Memory.{lone}
use denote.RawPtr.{Ptr, block_ptr, null_ptr, block_of, coded_ptr, lies_at, ◌+ₚ◌}
use denote.Sharing.{beside, some, one, held}
use denote.Hidden.{kept}
use denote.Struct.Lending.{lent_at}
use Rattle.std.specs.declared.alloc.Global.{Global}
use Rattle.std.specs.contracts.impls.GlobalAllocator.TheImpl.{ghosts}
use Rattle.pbx_shared.specs.Numbering.{numbered}

-- the count, at the head of the block
abbrev pub count_at : Ptr → ℕ → Fml
count_at (block_ptr b o) n = fsep (flt n (2 ^ 64)) (fat full_share (ty_int w64) b (o + 0) (vint w64 n))
count_at null_ptr n = ffalse

-- the right to free the block at p, which any `Global` has
abbrev pub frees : Ty → Ptr → Fml
frees τ p = fex Global (λ a. ghosts.dealloc_token a τ p)

-- the value x of type R at p, and the right to free its block
abbrev pub raw_owns : (R : RattleType) → Ptr → R.Denot → Fml
raw_owns R p x = fsep (lies_at R full_share p x) (frees (raw (lone R.mir)) p)

-- what the invariant of a block is kept under: the block, and a number for its place and its value.
-- So two handles are of one value, or both their blocks can be open at once.
abbrev pub key : (R : RattleType) → Ptr → R.Denot → Key
key R c x = (block_of c, numbered ((coded× coded_ptr R.coded).code (c, x)))

abbrev pub Id : Type 0
Id = ℕ × ℕ

abbrev pub most : ℕ
most = 2 ^ 64 - 1

-- S is the cell of the count, P what the last handle has back, and t what a `&` to the value holds
module _ (k : Key) (S : ℕ → Fml) (P : Fml) (t : Lft → Fml) where
  abbrev pub shared_for : Id → Lft
  shared_for a = a.0 ∷ []

  abbrev pub exact_for : Id → Lft
  exact_for a = a.1 ∷ []

  -- why a handle's part of the token may be given back, or need not be
  abbrev pub kind : Id → Share → Bool → Fml
  kind a e true = fex (Counts 64 e 1) (λ _. ftrue)
  kind a e false = fdead (exact_for a)

  abbrev pub grip_by : Id → Share → Bool → Fml
  grip_by a e y = fsep (flft (shared_for a) e) (kind a e y)

  abbrev pub grip : Id → Fml
  grip a = fex Share (λ e. fex Bool (grip_by a e))

  -- at the count n: it is exact, or it is at its end for good
  abbrev pub level_by : Id → ℕ → Bool → Fml
  level_by a n true = fsep (flt n most) (fsep (rest 64 a.0 n) (fsep (flft (exact_for a) full_share) (flent (shared_for a) P)))
  level_by a n false = fex (n ≡ most) (λ _. fsep (fex Share (λ r. flft (shared_for a) r)) (fdead (exact_for a)))

  abbrev pub level : Id → ℕ → Fml
  level a n = fex Bool (level_by a n)

  abbrev pub state : Id → Bool → Fml
  state a true = fex ℕ (λ n. fsep (S n) (level a n))
  state a false = fdead (shared_for a)

  abbrev pub Inv : Id → Fml
  Inv a = fex Bool (state a)

  abbrev pub handle : Id → Fml
  handle a = fsep (grip a) (fsep (na_inv k (Inv a)) (t (shared_for a)))

  abbrev pub lent : Id → Lft → Fml
  lent a = beside (one (λ q. flft (shared_for a) q)) (beside (kept k (Inv a)) (held (shared_for a) t))

  abbrev pub owns_by : Fml
  owns_by = fex Id handle

  abbrev pub lends_by : Lft → Fml
  lends_by = some Id lent

module _ (N R : RattleType) (node : R.Denot → N.Denot) (c : Ptr) (x : R.Denot) where
  abbrev pub value_ptr : Ptr
  value_ptr = c +ₚ up (align (lone R.mir)) 8

  abbrev pub value_owns : Fml
  value_owns = lies_at R full_share value_ptr x

  -- the count at 1 and the value make the node again
  abbrev pub rejoins : Fml
  rejoins = fwand (fsep (count_at c 1) value_owns) (lies_at N full_share c (node x))

  abbrev pub back : Fml
  back = fsep value_owns (fsep rejoins (frees (raw (lone N.mir)) c))

  abbrev pub shown : Lft → Fml
  shown = lent_at R value_ptr x

  abbrev pub handle_owns : Fml
  handle_owns = owns_by (key R c x) (count_at c) back shown

  abbrev pub handle_shares : Lft → Fml
  handle_shares = lends_by (key R c x) (count_at c) back shown
