-- The members of an object in the order of their keys, those that were walked and those that are left.
use Rattle.std.proofs.Common.{◌≡◌, ◌∙◌, ℕ, ◌&&◌, List, [], ◌∷◌, ◌++◌, Bool, true, false, Some, None, refl, ap, sym, subst}
use Rattle.std.specs.Cmp.{IsTotalOrder}
use Rattle.std.specs.Ordering.{nat_cmp, is_lt, match_ordering, ordering_reverse}
use Rattle.std.specs.Cmp.Lexicographic.{slice_cmp}
use Rattle.std.specs.FinMap.{nat_cmp-IsAntisymmetric, slice_cmp-IsAntisymmetric}
use Rattle.std.specs.declared.cmp.Ordering.{Ordering}
use Rattle.std.specs.declared.cmp.Ordering.TheVariants.{Less, Equal, Greater}
use Rattle.std.proofs.lemmas.Cmp.{nat_list_cmp_total}
use Rattle.serde_json.specs.Data.{Data, Members, no_members, member}
use Rattle.serde_json.specs.Find.{get_member}
use Rattle.pbx_json_meaning.specs.Faults.{lesser}
use Rattle.pbx_json_walk.specs.Walk.{are_above}

abbrev cmp : List ℕ → List ℕ → Ordering
cmp a b = slice_cmp nat_cmp a b

abbrev pub Walked : Type 0
Walked = List (List ℕ × Data)

-- the members that were walked, and behind them those that are left
abbrev pub appended : Walked → Members → Members
appended [] r = r
appended (m ∷ ms) r = member m.0 m.1 (appended ms r)

pub appended_more : (ds : Walked) (k : List ℕ) (d : Data) (r : Members) → appended ds (member k d r) ≡ appended (ds ++ (k, d) ∷ []) r
appended_more [] k d r = refl
appended_more (m ∷ ds) k d r = ap (member m.0 m.1) (appended_more ds k d r)

-- each key is less than this one
abbrev pub AreLess : List ℕ → Walked → Type 0
AreLess k [] = Unit {0}
AreLess k (m ∷ ms) = (cmp m.0 k ≡ Less) × AreLess k ms

pub less_more : (k l : List ℕ) (d : Data) (ds : Walked) → AreLess k ds → cmp k l ≡ Less → AreLess l (ds ++ (k, d) ∷ [])
less_more k l d [] h lt = (lt, tt)
less_more k l d (m ∷ ds) h lt = (IsTotalOrder.trans nat_list_cmp_total m.0 k l h.0 lt, less_more k l d ds h.1 lt)

turned : (a b : List ℕ) → cmp a b ≡ Less → cmp b a ≡ Greater
turned a b h = IsTotalOrder.antisymm nat_list_cmp_total b a ∙ ap ordering_reverse h

pub itself : (a : List ℕ) → cmp a a ≡ Equal
itself a = at (cmp a a) refl (IsTotalOrder.antisymm nat_list_cmp_total a a)
  where
    at : (o : Ordering) → cmp a a ≡ o → cmp a a ≡ ordering_reverse (cmp a a) → o ≡ Equal
    at Equal e h = refl
    at Less e h = let bad : Less ≡ Greater = sym e ∙ h ∙ ap ordering_reverse e in absurd (cc)
    at Greater e h = let bad : Greater ≡ Less = sym e ∙ h ∙ ap ordering_reverse e in absurd (cc)

both : (a b : Bool) → (a && b) ≡ true → (a ≡ true) × (b ≡ true)
both true b h = (refl, h)
both false b h = absurd (cc)

less : (o : Ordering) → is_lt o ≡ true → o ≡ Less
less Less e = refl
less Equal e = absurd (cc)
less Greater e = absurd (cc)

pub above_first : (k l : List ℕ) (d : Data) (r : Members) → are_above k (member l d r) ≡ true → cmp k l ≡ Less
above_first k l d r h = less (cmp k l) (both (is_lt (cmp k l)) (are_above l r) h).0

pub above_rest : (k l : List ℕ) (d : Data) (r : Members) → are_above k (member l d r) ≡ true → are_above l r ≡ true
above_rest k l d r h = (both (is_lt (cmp k l)) (are_above l r) h).1

pub above_less : (k l : List ℕ) (r : Members) → cmp k l ≡ Less → are_above l r ≡ true → are_above k r ≡ true
above_less k l no_members lt h = refl
above_less k l (member m d r) lt h =
    let first = IsTotalOrder.trans nat_list_cmp_total k l m lt (above_first l m d r h) in
    rw (ap is_lt first, above_rest l m d r h) refl

lesser_above : (k : List ℕ) (r : Members) → are_above k r ≡ true → lesser k r ≡ []
lesser_above k no_members h = refl
lesser_above k (member l d r) h =
    let lt = above_first k l d r h in
    rw (ap is_lt (turned k l lt)) (lesser_above k r (above_less k l r lt (above_rest k l d r h)))

none_above : (q k : List ℕ) (r : Members) → cmp q k ≡ Less → are_above k r ≡ true → get_member q r ≡ None
none_above q k no_members lt h = refl
none_above q k (member l d r) lt h =
    let more = IsTotalOrder.trans nat_list_cmp_total q k l lt (above_first k l d r h) in
    rw more (none_above q l r more (above_rest k l d r h))

-- the lesser members are those that were walked
pub lesser_walked : (ds : Walked) (k : List ℕ) (d : Data) (r : Members) → AreLess k ds → are_above k r ≡ true → lesser k (appended ds (member k d r)) ≡ ds
lesser_walked [] k d r h a = rw (ap is_lt (itself k)) (lesser_above k r a)
lesser_walked (m ∷ ds) k d r h a = rw (ap is_lt h.0) (ap (λ xs. m ∷ xs) (lesser_walked ds k d r h.1 a))

-- the tree of the key that is next
pub get_next : (ds : Walked) (k : List ℕ) (d : Data) (r : Members) → AreLess k ds → get_member k (appended ds (member k d r)) ≡ Some d
get_next [] k d r h = rw (itself k) refl
get_next (m ∷ ds) k d r h = rw (turned m.0 k h.0) (get_next ds k d r h.1)

-- a key that is there, of those that were all walked
abbrev pub EachOf : (List ℕ → Type 0) → Walked → Type 0
EachOf P [] = Unit {0}
EachOf P (m ∷ ms) = P m.0 × EachOf P ms

pub each_more : (P : List ℕ → Type 0) (ds : Walked) (k : List ℕ) (d : Data) → EachOf P ds → P k → EachOf P (ds ++ (k, d) ∷ [])
each_more P [] k d h p = (p, tt)
each_more P (m ∷ ds) k d h p = (h.0, each_more P ds k d h.1 p)

pub key_walked : (P : List ℕ → Type 0) (ds : Walked) (q : List ℕ) (x : Data) → EachOf P ds → get_member q (appended ds no_members) ≡ Some x → P q
key_walked P [] q x h g = absurd (cc)
key_walked P (m ∷ ds) q x h g = at (cmp q m.0) refl g (key_walked P ds q x h.1)
  where
    at : (o : Ordering) → cmp q m.0 ≡ o → match_ordering o (get_member q (appended ds no_members)) (Some m.1) (get_member q (appended ds no_members)) ≡ Some x
        → (get_member q (appended ds no_members) ≡ Some x → P q) → P q
    at Less e k ih = ih k
    at Greater e k ih = ih k
    at Equal e k ih = subst P (sym (slice_cmp-IsAntisymmetric nat_cmp-IsAntisymmetric q m.0 e)) h.0

-- a key that is there and less than the next one
pub key_before_next : (P : List ℕ → Type 0) (ds : Walked) (k : List ℕ) (d : Data) (r : Members) (q : List ℕ) (x : Data) → EachOf P ds → are_above k r ≡ true → cmp q k ≡ Less
    → get_member q (appended ds (member k d r)) ≡ Some x → P q
key_before_next P [] k d r q x h a lt g =
    let none : get_member q (member k d r) ≡ None = rw lt (none_above q k r lt a) in
    let bad : None ≡ Some x = sym none ∙ g in absurd (cc)
key_before_next P (m ∷ ds) k d r q x h a lt g = at (cmp q m.0) refl g (key_before_next P ds k d r q x h.1 a lt)
  where
    at : (o : Ordering) → cmp q m.0 ≡ o
        → match_ordering o (get_member q (appended ds (member k d r))) (Some m.1) (get_member q (appended ds (member k d r))) ≡ Some x
        → (get_member q (appended ds (member k d r)) ≡ Some x → P q) → P q
    at Less e k' ih = ih k'
    at Greater e k' ih = ih k'
    at Equal e k' ih = subst P (sym (slice_cmp-IsAntisymmetric nat_cmp-IsAntisymmetric q m.0 e)) h.0
