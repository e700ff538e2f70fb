-- Members of an object: keys that are there, and members put in another order.
use Rattle.std.proofs.Common.{◌≡◌, ℕ, List, Bool, true, false, ◌||◌, Option, Some, None, refl, sym, ap, ◌∙◌}
use Rattle.std.specs.Str.{bytes_eq}
use Rattle.std.specs.Cmp.{IsTotalOrder}
use Rattle.std.specs.Cmp.Lexicographic.{slice_cmp}
use Rattle.std.specs.Ordering.{match_ordering, nat_cmp, is_eq, ordering_reverse}
use Rattle.std.specs.declared.cmp.Ordering.{Ordering}
use Rattle.std.specs.declared.cmp.Ordering.TheVariants.{Less, Equal, Greater}
use Rattle.std.proofs.lemmas.Cmp.{nat_list_cmp_total}
use Rattle.std.proofs.lemmas.Map.Text.{is_eq-slice_cmp}
use Rattle.std.proofs.lemmas.Slice.Eq.{bytes_eq-Decides}
use Rattle.serde_json.specs.Data.{Data, Members, no_members, member, put}
use Rattle.pbx_json_meaning.specs.Canonical.{has_key, with_member, with_line}

-- ---- keys in their order

abbrev pub key_cmp : List ℕ → List ℕ → Ordering
key_cmp k l = slice_cmp nat_cmp k l

back : (k l : List ℕ) → key_cmp k l ≡ ordering_reverse (key_cmp l k)
back k l = IsTotalOrder.antisymm nat_list_cmp_total k l

greater : (k l : List ℕ) → key_cmp k l ≡ Less → key_cmp l k ≡ Greater
greater k l h = back l k ∙ ap ordering_reverse h

less : (k l : List ℕ) → key_cmp k l ≡ Greater → key_cmp l k ≡ Less
less k l h = back l k ∙ ap ordering_reverse h

same_key : (k l : List ℕ) → key_cmp k l ≡ Equal → k ≡ l
same_key k l h = (bytes_eq-Decides k l).0 (sym (is_eq-slice_cmp k l) ∙ ap is_eq h)

no_tie : (k l : List ℕ) → bytes_eq k l ≡ false → key_cmp k l ≡ Equal → ⊥
no_tie k l apart h =
    let both : true ≡ false = sym (ap is_eq h) ∙ is_eq-slice_cmp k l ∙ apart in
    cc

reverse_eq : (o : Ordering) → is_eq (ordering_reverse o) ≡ is_eq o
reverse_eq Less = refl
reverse_eq Equal = refl
reverse_eq Greater = refl

pub bytes_eq_back : (k l : List ℕ) → bytes_eq k l ≡ bytes_eq l k
bytes_eq_back k l = sym (is_eq-slice_cmp k l) ∙ ap is_eq (back k l) ∙ reverse_eq (key_cmp l k) ∙ is_eq-slice_cmp l k

-- ---- keys that are there

or_again : (a b : Bool) → (a || b) ≡ (a || (a || b))
or_again true b = refl
or_again false b = refl

or_swap : (a b c : Bool) → (a || (b || c)) ≡ (b || (a || c))
or_swap true true c = refl
or_swap true false c = refl
or_swap false true c = refl
or_swap false false c = refl

-- the keys after one more
pub has_key-put : (s k : List ℕ) (d : Data) (ms : Members) → has_key s (put k d ms) ≡ (bytes_eq k s || has_key s ms)
has_key-put s k d no_members = refl
has_key-put s k d (member l e ms) = at (key_cmp k l) refl (has_key-put s k d ms)
  where
    at : (o : Ordering) → key_cmp k l ≡ o → has_key s (put k d ms) ≡ (bytes_eq k s || has_key s ms)
        → has_key s (match_ordering o (member k d (member l e ms)) (member l d ms) (member l e (put k d ms)))
        ≡ (bytes_eq k s || (bytes_eq l s || has_key s ms))
    at Less p ih = refl
    at Equal p ih = rw (same_key k l p) (or_again (bytes_eq l s) (has_key s ms))
    at Greater p ih = rw ih (or_swap (bytes_eq l s) (bytes_eq k s) (has_key s ms))

-- ---- the order in which members are put

-- members of two keys, put in either order
pub put_swap : (k l : List ℕ) (d e : Data) (ms : Members) → bytes_eq k l ≡ false → put k d (put l e ms) ≡ put l e (put k d ms)
put_swap k l d e no_members apart = at (key_cmp k l) refl
  where
    at : (o : Ordering) → key_cmp k l ≡ o → put k d (member l e no_members) ≡ put l e (member k d no_members)
    at Less p = simp (p, greater k l p)
    at Equal p = absurd (no_tie k l apart p)
    at Greater p = simp (p, less k l p)
put_swap k l d e (member m f ms) apart = at (key_cmp k m) refl (key_cmp l m) refl (put_swap k l d e ms apart)
  where
    both_before : (o : Ordering) → key_cmp k l ≡ o → key_cmp k m ≡ Less → key_cmp l m ≡ Less
        → put k d (put l e (member m f ms)) ≡ put l e (put k d (member m f ms))
    both_before Less r p q = simp (r, greater k l r, p, q)
    both_before Equal r p q = absurd (no_tie k l apart r)
    both_before Greater r p q = simp (r, less k l r, p, q)

    at : (o : Ordering) → key_cmp k m ≡ o → (u : Ordering) → key_cmp l m ≡ u → put k d (put l e ms) ≡ put l e (put k d ms)
        → put k d (put l e (member m f ms)) ≡ put l e (put k d (member m f ms))
    at Less p Less q ih = both_before (key_cmp k l) refl p q
    at Less p Equal q ih =
        let first : key_cmp k l ≡ Less = ap (λ x. key_cmp k x) (same_key l m q) ∙ p in
        simp (p, q, greater k l first)
    at Less p Greater q ih =
        let first : key_cmp k l ≡ Less = IsTotalOrder.trans nat_list_cmp_total k m l p (less l m q) in
        simp (p, q, greater k l first)
    at Equal p Less q ih =
        let second : key_cmp l k ≡ Less = ap (λ x. key_cmp l x) (same_key k m p) ∙ q in
        simp (p, q, greater l k second)
    at Equal p Equal q ih = absurd (no_tie k l apart (ap (λ x. key_cmp k x) (same_key l m q) ∙ p))
    at Equal p Greater q ih = simp (p, q)
    at Greater p Less q ih =
        let second : key_cmp l k ≡ Less = IsTotalOrder.trans nat_list_cmp_total l m k q (less k m p) in
        simp (p, q, greater l k second)
    at Greater p Equal q ih = simp (p, q)
    at Greater p Greater q ih = simp (p, q, ih)

-- members in either order, where each may be refused
with_member_swap : (k l : List ℕ) (d e : Data) (ms : Members) (a b c : Bool) → has_key k ms ≡ a → has_key l ms ≡ b → bytes_eq k l ≡ c
    → with_line k (Some d) (with_member l e ms) ≡ with_line l (Some e) (with_member k d ms)
with_member_swap k l d e ms true true c p q r = rw (p, q) refl
with_member_swap k l d e ms true false true p q r = rw (p, q) (rw (has_key-put k l e ms, bytes_eq_back l k, r) refl)
with_member_swap k l d e ms true false false p q r = rw (p, q) (rw (has_key-put k l e ms, bytes_eq_back l k, r, p) refl)
with_member_swap k l d e ms false true true p q r = rw (p, q) (rw (has_key-put l k d ms, r) refl)
with_member_swap k l d e ms false true false p q r = rw (p, q) (rw (has_key-put l k d ms, r, q) refl)
with_member_swap k l d e ms false false true p q r =
    rw (p, q) (rw (has_key-put k l e ms, has_key-put l k d ms, bytes_eq_back l k, r) refl)
with_member_swap k l d e ms false false false p q r =
    rw (p, q) (rw (has_key-put k l e ms, has_key-put l k d ms, bytes_eq_back l k, r, p, q) (ap Some (put_swap k l d e ms r)))

-- lines in either order
pub with_line_swap : (k l : List ℕ) (x y : Option Data) (r : Option Members) → with_line k x (with_line l y r) ≡ with_line l y (with_line k x r)
with_line_swap k l None None r = refl
with_line_swap k l None (Some e) r = refl
with_line_swap k l (Some d) None r = refl
with_line_swap k l (Some d) (Some e) None = refl
with_line_swap k l (Some d) (Some e) (Some ms) = with_member_swap k l d e ms _ _ _ refl refl refl
