-- What stands at the front of bytes is one, and a record that is spelled there breaks no rule.
use Rattle.std.proofs.Common.{◌≡◌, ◌≢◌, ℕ, zero, suc, ◌+◌, ◌*◌, ◌<◌, ◌≤◌, List, [], ◌∷◌, ◌++◌, length, Some, inl, inr}
use Rattle.std.proofs.Common.{refl, sym, ap, ◌∙◌, subst, arith, append_assoc, append-nil, length-append}
use Rattle.pbx_wire.specs.declared.error.DecodeError.{DecodeError}
use Rattle.pbx_wire.specs.declared.error.DecodeError.TheVariants as errors
use Rattle.pbx_wire.specs.declared.rec.Rec.{Rec, out-Rec, Varint, Fixed64, Bytes, Group', Fixed32}
use Rattle.pbx_wire.specs.declared.rec.Rec.TheOpen.{Rec-F}
use Rattle.pbx_wire.specs.declared.rec.Rec.TheVariants as rec
use Rattle.pbx_wire.specs.declared.rec.Rec.TheVariants.{outs-Group}
use Rattle.pbx_wire.specs.Reading.{varint_at, key_at, item_at, body_at}
use Rattle.pbx_wire.specs.Spelling.{IsVarint, IsKey, Body, SpellsLayer, SpellsAll, SpellsBelow, Spells}
use Rattle.pbx_wire.specs.Faults.{shifted, offset_of, BeginsWith, BreaksItself, Breaks, FaultsBelow, IsFault, SpellsOne, BreaksOne}
use Rattle.pbx_wire.proofs.Steps.{parts_are}
use Rattle.pbx_wire.proofs.Laws.{chain_has, layer_has}
use Rattle.pbx_wire.proofs.Again.{varint_again, key_again, body_again, item_again}
use Rattle.pbx_wire.proofs.Failing.{shifted_zero, shifted_more}
use Rattle.pbx_wire.proofs.Breaking.{either, not_both, one_fault}
use Rattle.pbx_content.specs.Records.{number_of}

-- ---- offsets

-- the fault has an offset, within so many bytes
pub record IsPlaced (within : ℕ) (e : DecodeError) : Type 0 where
  pub some : e ≢ errors.NoMemory
  pub offset : offset_of e ≤ within

pub offset-shifted : (n : ℕ) (e : DecodeError) → e ≢ errors.NoMemory → offset_of (shifted n e) ≡ n + offset_of e
offset-shifted n (errors.Varint at) h = refl
offset-shifted n (errors.Key at) h = refl
offset-shifted n (errors.WireType at) h = refl
offset-shifted n (errors.Underflow at) h = refl
offset-shifted n (errors.Utf8 at) h = refl
offset-shifted n (errors.EndGroup at) h = refl
offset-shifted n (errors.TooDeep at) h = refl
offset-shifted n errors.NoMemory h = absurd (h refl)

pub some-shifted : (n : ℕ) (e : DecodeError) → e ≢ errors.NoMemory → shifted n e ≢ errors.NoMemory
some-shifted n (errors.Varint at) h k = absurd cc
some-shifted n (errors.Key at) h k = absurd cc
some-shifted n (errors.WireType at) h k = absurd cc
some-shifted n (errors.Underflow at) h k = absurd cc
some-shifted n (errors.Utf8 at) h k = absurd cc
some-shifted n (errors.EndGroup at) h k = absurd cc
some-shifted n (errors.TooDeep at) h k = absurd cc
some-shifted n errors.NoMemory h k = h k

pub placed-shifted : (n within all : ℕ) (e d : DecodeError) → IsPlaced within e → n + within ≤ all → d ≡ shifted n e → IsPlaced all d
placed-shifted n within all e d p le is = rw is (record {
  some = some-shifted n e p.some;
  offset = omega (arith, offset-shifted n e p.some, p.offset);
})

-- ---- numbers, keys and records

pub number_one : (t s a b : List ℕ) (v u : ℕ) → IsVarint t v → IsVarint s u → t ++ a ≡ s ++ b → (v ≡ u) × (a ≡ b)
number_one t s a b v u h k e = parts_are v u a b (sym (varint_again 0 t a v h) ∙ ap (varint_at 0 9) e ∙ varint_again 0 s b u k)

pub key_one : (k l a b : List ℕ) (n m w v : ℕ) → IsKey k n w → IsKey l m v → w < 8 → v < 8 → k ++ a ≡ l ++ b → (n ≡ m) × (w ≡ v) × (a ≡ b)
key_one k l a b n m w v h i small low e =
    let p = parts_are (n * 8 + w) (m * 8 + v) a b (sym (key_again 0 n w k a h) ∙ ap (key_at 0) e ∙ key_again 0 m v l b i) in
    (omega (arith, p.0), omega (arith, p.0), p.1)

some_is : {A : Type 0} (x y : A) → Some x ≡ Some y → x ≡ y
some_is x y e = cc

pub front_one : (levels : ℕ) (first other rest more : List ℕ) (r s : Rec) → SpellsOne levels first r → SpellsOne levels other s → first ++ rest ≡ other ++ more
    → (r ≡ s) × (rest ≡ more)
front_one levels first other rest more r s h k e =
    let total : ℕ = 0 in
    let read = item_again (body_at total levels) (SpellsBelow levels) (body_again total levels) total 0 0 r first rest h in
    let again = item_again (body_at total levels) (SpellsBelow levels) (body_again total levels) total 0 0 s other more k in
    let p = parts_are (Some r) (Some s) rest more (sym read ∙ ap (item_at (body_at total levels) total 0 0) e ∙ again) in
    (some_is r s p.0, p.1)

-- ---- the key of a record

abbrev pub layer_number : Rec-F Rec → ℕ
layer_number (Rec-F.Varint n v) = n
layer_number (Rec-F.Fixed64 n v) = n
layer_number (Rec-F.Bytes n b) = n
layer_number (Rec-F.Group n rs) = n
layer_number (Rec-F.Fixed32 n v) = n

abbrev pub layer_type : Rec-F Rec → ℕ
layer_type (Rec-F.Varint n v) = 0
layer_type (Rec-F.Fixed64 n v) = 1
layer_type (Rec-F.Bytes n b) = 2
layer_type (Rec-F.Group n rs) = 3
layer_type (Rec-F.Fixed32 n v) = 5

pub number_is : (r : Rec) → number_of r ≡ layer_number (out-Rec r)
unfolding out-Rec denote.Hole.Carrier.out
number_is (Varint n v) = refl
number_is (Fixed64 n v) = refl
number_is (Bytes n b) = refl
number_is (Group' n s row) = refl
number_is (Fixed32 n v) = refl

-- the key at the front of a record, and what stands behind it
pub record HasKey (text : List ℕ) (n w : ℕ) : Type 0 where
  pub key : List ℕ
  pub tail : List ℕ
  pub is : IsKey key n w
  pub parts : text ≡ key ++ tail

pub layer_key : (inner : Body) (text : List ℕ) (x : Rec-F Rec) → SpellsLayer inner text x → HasKey text (layer_number x) (layer_type x)
layer_key inner text (Rec-F.Varint n v) h = record { key = h.0; tail = h.1; is = h.2; parts = h.4 }
layer_key inner text (Rec-F.Fixed64 n v) h = record { key = h.0; tail = h.1; is = h.2; parts = h.5 }
layer_key inner text (Rec-F.Bytes n b) h = record { key = h.0; tail = h.1 ++ b; is = h.2; parts = h.4 ∙ append_assoc h.0 h.1 b }
layer_key inner text (Rec-F.Group n rs) h = record { key = h.0; tail = h.1 ++ h.2; is = h.3; parts = h.6 ∙ append_assoc h.0 h.1 h.2 }
layer_key inner text (Rec-F.Fixed32 n v) h = record { key = h.0; tail = h.1; is = h.2; parts = h.5 }

pub type_small : (x : Rec-F Rec) → (layer_type x < 8) × (layer_type x ≢ 4)
type_small (Rec-F.Varint n v) = (omega arith, λ e. omega arith)
type_small (Rec-F.Fixed64 n v) = (omega arith, λ e. omega arith)
type_small (Rec-F.Bytes n b) = (omega arith, λ e. omega arith)
type_small (Rec-F.Group n rs) = (omega arith, λ e. omega arith)
type_small (Rec-F.Fixed32 n v) = (omega arith, λ e. omega arith)

-- the key at the front is that of the record
pub front_is : (inner : Body) (first rest more : List ℕ) (x : Rec-F Rec) (n w : ℕ) → SpellsLayer inner first x → BeginsWith n w more (first ++ rest) → w < 8
    → (layer_number x ≡ n) × (layer_type x ≡ w)
front_is inner first rest more x n w h (key, k, parts) small =
    let own = layer_key inner first x h in
    let same : own.key ++ (own.tail ++ rest) ≡ key ++ more =
    sym (append_assoc own.key own.tail rest) ∙ ap (λ (t : List ℕ). t ++ rest) (sym own.parts) ∙ parts in
    let p = key_one own.key key (own.tail ++ rest) more (layer_number x) n (layer_type x) w own.is k (type_small x).0 small same in
    (p.0, p.1)

-- ---- what is spelled breaks no rule

some_text : (levels : ℕ) (first : List ℕ) (r : Rec) → SpellsOne levels first r → 0 < length first
some_text levels first r h = layer_has (SpellsBelow levels) first (out-Rec r) h

pub spelled_more : (levels : ℕ) (first rest : List ℕ) (r : Rec) (rs : List Rec) → SpellsOne levels first r → Spells levels rest rs
    → Spells levels (first ++ rest) (r ∷ rs)
unfolding SpellsBelow
spelled_more levels first rest r rs h k = (first, rest, h, k, refl)

pub fault_more : (levels : ℕ) (first rest : List ℕ) (r : Rec) (e : DecodeError) → SpellsOne levels first r → IsFault levels rest e
    → IsFault levels (first ++ rest) (shifted (length first) e)
unfolding FaultsBelow
fault_more levels first rest r e h (before, rs, last, own, all, breaks, parts, told) = (
  first ++ before,
  r ∷ rs,
  last,
  own,
  (first, before, h, all, refl),
  breaks,
  ap (λ (t : List ℕ). first ++ t) parts ∙ sym (append_assoc first before last),
  rw (told, length-append first before) (shifted_more (length first) (length before) own),
)

-- a fault of bytes of which a record is spelled is one of the rest
pub fault_behind : (levels : ℕ) (first rest : List ℕ) (r : Rec) (e : DecodeError) → SpellsOne levels first r → IsFault levels (first ++ rest) e
    → (d : DecodeError) × IsFault levels rest d × (e ≡ shifted (length first) d)
fault_behind levels first rest r e h f = elim (either levels rest) [
  | inl s ↦ absurd (not_both levels (first ++ rest) (r ∷ s.0) e (spelled_more levels first rest r s.0 h s.1) f)
  | inr d ↦ (d.0, d.1, one_fault levels (first ++ rest) e (shifted (length first) d.0) f (fault_more levels first rest r d.0 h d.1))
]

-- it stands behind the record
not_early : (levels : ℕ) (first rest : List ℕ) (r : Rec) (e : DecodeError) → SpellsOne levels first r → IsFault levels (first ++ rest) e → e ≢ errors.NoMemory
    → offset_of e < length first → ⊥
not_early levels first rest r e h f some early =
    let d = fault_behind levels first rest r e h f in
    let own : d.0 ≢ errors.NoMemory = λ is. some (d.2 ∙ ap (shifted (length first)) is) in
    absurd (omega (arith, early, ap offset_of d.2, offset-shifted (length first) d.0 own))

itself_placed : (spells : Body) (levels group : ℕ) (bytes : List ℕ) (e : DecodeError) → BreaksItself spells levels group bytes e → IsPlaced 0 e
itself_placed spells levels group bytes (errors.Varint at) h = record { some = λ k. absurd cc; offset = omega (arith, h.0) }
itself_placed spells levels group bytes (errors.Key at) h = record { some = λ k. absurd cc; offset = omega (arith, h.0) }
itself_placed spells levels group bytes (errors.WireType at) h = record { some = λ k. absurd cc; offset = omega (arith, h.0) }
itself_placed spells levels group bytes (errors.Underflow at) h = record { some = λ k. absurd cc; offset = omega (arith, h.0) }
itself_placed spells levels group bytes (errors.Utf8 at) h = absurd h
itself_placed spells levels group bytes (errors.EndGroup at) h = record { some = λ k. absurd cc; offset = omega (arith, h.0) }
itself_placed spells levels group bytes (errors.TooDeep at) h = record { some = λ k. absurd cc; offset = omega (arith, h.0) }
itself_placed spells levels group bytes errors.NoMemory h = absurd h

-- the offsets of faults are within the bytes
pub below_placed : (levels group : ℕ) (bytes : List ℕ) (e : DecodeError) → FaultsBelow levels group bytes e → IsPlaced (length bytes) e
unfolding FaultsBelow
below_placed zero group bytes e f = absurd f
below_placed (suc levels) group bytes e (before, rs, rest, own, all, inl b, parts, told) =
    placed-shifted (length before) 0 (length bytes) own e (itself_placed (SpellsBelow levels) levels group rest own b)
    (omega (arith, ap length parts, length-append before rest)) told
below_placed (suc levels) group bytes e (before, rs, rest, own, all, inr (key, n, mid, inner, k, f, is, so), parts, told) =
    let inside = below_placed levels n mid inner f in
    let here = placed-shifted (length key) (length mid) (length rest) inner own inside (omega (arith, ap length is, length-append key mid)) so in
    placed-shifted (length before) (length rest) (length bytes) own e here (omega (arith, ap length parts, length-append before rest)) told

pub at_front : (levels group : ℕ) (bytes : List ℕ) (e : DecodeError) → Breaks (SpellsBelow levels) (FaultsBelow levels) levels group bytes e
    → FaultsBelow (suc levels) group bytes e
unfolding FaultsBelow
at_front levels group bytes e b = ([], [], bytes, e, refl, b, refl, sym (shifted_zero e))

pub one_placed : (levels : ℕ) (bytes : List ℕ) (e : DecodeError) → BreaksOne levels bytes e → IsPlaced (length bytes) e
one_placed levels bytes e b = below_placed (suc levels) 0 bytes e (at_front levels 0 bytes e b)

itself_unbroken : (levels group : ℕ) (first rest : List ℕ) (r : Rec) (e : DecodeError) → SpellsOne levels first r
    → BreaksItself (SpellsBelow levels) levels group (first ++ rest) e → ⊥
itself_unbroken levels group first rest r e h b = by e b
  where
    top : (e : DecodeError) → BreaksItself (SpellsBelow levels) levels 0 (first ++ rest) e → ⊥
    top e b =
        let p = itself_placed (SpellsBelow levels) levels 0 (first ++ rest) e b in
        not_early levels first rest r e h (at_front levels 0 (first ++ rest) e (inl b)) p.some (omega (arith, p.offset, some_text levels first r h))

    by : (e : DecodeError) → BreaksItself (SpellsBelow levels) levels group (first ++ rest) e → ⊥
    by (errors.Varint at) b = top (errors.Varint at) b
    by (errors.Key at) b = top (errors.Key at) b
    by (errors.WireType at) b = top (errors.WireType at) b
    by (errors.Underflow at) b = top (errors.Underflow at) b
    by (errors.Utf8 at) b = absurd b
    by (errors.EndGroup at) (z, (number, more, begins, other)) =
        (type_small (out-Rec r)).1 (front_is (SpellsBelow levels) first rest more (out-Rec r) number 4 h begins (omega arith)).1
    by (errors.TooDeep at) b = top (errors.TooDeep at) b
    by errors.NoMemory b = absurd b

-- the end of a group breaks no rule of the group
end_unbroken : (levels n : ℕ) (start end rest : List ℕ) (e : DecodeError) → IsKey start n 3 → IsKey end n 4
    → Breaks (SpellsBelow levels) (FaultsBelow levels) levels n (end ++ rest) e → ⊥
unfolding SpellsBelow
end_unbroken levels n start end rest e s k (inr (key, m, mid, inner, l, f, is, so)) =
    let p = key_one end key rest mid n m 4 3 k l (omega arith) (omega arith) is in
    absurd (omega (arith, p.1))
end_unbroken levels n start end rest e s k (inl b) =
    let p = itself_placed (SpellsBelow levels) levels n (end ++ rest) e b in
    let group : SpellsOne (suc levels) (start ++ [] ++ end) (rec.Group n []) = rw (outs-Group n []) (start, [], end, s, refl, k, refl) in
    let parts : (start ++ [] ++ end) ++ rest ≡ start ++ (end ++ rest) =
    ap (λ (t : List ℕ). (t ++ end) ++ rest) (append-nil start) ∙ append_assoc start end rest in
    let fault =
    at_front (suc levels) 0 ((start ++ [] ++ end) ++ rest) (shifted (length start) e)
    (inr (start, n, end ++ rest, e, s, at_front levels n (end ++ rest) e (inl b), parts, refl)) in
    let long : length (start ++ [] ++ end) ≡ length start + length end = ap (λ (t : List ℕ). length (t ++ end)) (append-nil start) ∙ length-append start end in
    not_early (suc levels) (start ++ [] ++ end) rest (rec.Group n []) (shifted (length start) e) group fault (some-shifted (length start) e p.some)
    (omega (arith, offset-shifted (length start) e p.some, p.offset, long, chain_has end k.varint.chain))

-- no record that is spelled at the front breaks a rule, in a group of any number
abbrev AreUnbroken : ℕ → Type 0
AreUnbroken levels =
    (group : ℕ) (first rest : List ℕ) (r : Rec) (e : DecodeError) → SpellsOne levels first r
    → Breaks (SpellsBelow levels) (FaultsBelow levels) levels group (first ++ rest) e → ⊥

walk : (levels n : ℕ) (start end rest : List ℕ) → IsKey start n 3 → IsKey end n 4 → AreUnbroken levels
    → (rs ss : List Rec) (mid before last : List ℕ) (own : DecodeError)
    → SpellsAll (SpellsBelow levels) mid rs → SpellsAll (SpellsBelow levels) before ss → mid ++ (end ++ rest) ≡ before ++ last
    → Breaks (SpellsBelow levels) (FaultsBelow levels) levels n last own → ⊥
walk levels n start end rest s k ih [] [] mid before last own a b e br =
    let same : end ++ rest ≡ last = rw (a, b) at e in
    end_unbroken levels n start end rest own s k (rw same br)
walk levels n start end rest s k ih [] (q ∷ ss) mid before last own a (first, more, one, others, parts) e br =
    let same : first ++ (more ++ last) ≡ end ++ rest =
    sym (append_assoc first more last) ∙ ap (λ (t : List ℕ). t ++ last) (sym parts) ∙ sym e ∙ ap (λ (t : List ℕ). t ++ (end ++ rest)) a in
    (type_small (out-Rec q)).1 (front_is (SpellsBelow levels) first (more ++ last) rest (out-Rec q) n 4 one (end, k, same) (omega arith)).1
walk levels n start end rest s k ih (r ∷ rs) [] mid before last own (first, more, one, others, parts) b e br =
    let same : first ++ (more ++ (end ++ rest)) ≡ last =
    sym (append_assoc first more (end ++ rest)) ∙ ap (λ (t : List ℕ). t ++ (end ++ rest)) (sym parts) ∙ e ∙ ap (λ (t : List ℕ). t ++ last) b in
    ih n first (more ++ (end ++ rest)) r own one (rw same br)
walk levels n start end rest s k ih (r ∷ rs) (q ∷ ss) mid before last own (first, more, one, others, parts) (first', more', one', others', parts') e br =
    let same : first ++ (more ++ (end ++ rest)) ≡ first' ++ (more' ++ last) =
    sym (append_assoc first more (end ++ rest)) ∙ ap (λ (t : List ℕ). t ++ (end ++ rest)) (sym parts) ∙ e ∙ ap (λ (t : List ℕ). t ++ last) parts'
    ∙ append_assoc first' more' last in
    let p = front_one levels first first' (more ++ (end ++ rest)) (more' ++ last) r q one one' same in
    walk levels n start end rest s k ih rs ss more more' last own others others' p.1 br

group_unbroken : (levels n : ℕ) (first rest key mid : List ℕ) (x : Rec-F Rec) (e : DecodeError) → AreUnbroken levels
    → SpellsLayer (SpellsBelow (suc levels)) first x → IsKey key n 3
    → FaultsBelow (suc levels) n mid e → first ++ rest ≡ key ++ mid → ⊥
unfolding SpellsBelow FaultsBelow
group_unbroken levels n first rest key mid (Rec-F.Group m rs) e ih (start, body, end, s, all, k, is) own
    (before, ss, last, inner, others, br, parts, told) same =
    let p = key_one start key (body ++ (end ++ rest)) mid m n 3 3 s own (omega arith) (omega arith)
    (sym (append_assoc start body (end ++ rest)) ∙ sym (append_assoc (start ++ body) end rest) ∙ ap (λ (t : List ℕ). t ++ rest) (sym is) ∙ same) in
    let closing : IsKey end n 4 = subst (λ (j : ℕ). IsKey end j 4) p.0 k in
    walk levels n key end rest own closing ih rs ss body before last inner all others (p.2 ∙ parts) br
group_unbroken levels n first rest key mid x e ih h own f same =
    let p = front_is (SpellsBelow (suc levels)) first rest mid x n 3 h (key, own, same) (omega arith) in
    absurd (omega (arith, p.1))

-- No record that is spelled at the front breaks a rule.
pub unbroken : (levels : ℕ) → AreUnbroken levels
unfolding FaultsBelow
unbroken levels group first rest r e h (inl b) = itself_unbroken levels group first rest r e h b
unbroken zero group first rest r e h (inr (key, n, mid, inner, k, f, is, so)) = absurd f
unbroken (suc levels) group first rest r e h (inr (key, n, mid, inner, k, f, is, so)) =
    group_unbroken levels n first rest key mid (out-Rec r) inner (unbroken levels) h k f is
