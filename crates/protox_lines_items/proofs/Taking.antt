-- A conversion that goes on through bytes.
use Rattle.std.proofs.Common.{rules, ◌≡◌, ◌++◌, ◌∷◌, ◌∙◌, ◌≤◌, ◌<◌, ◌+◌, ◌==◌, true, false, arith, [], ℕ, List, length, take, drop, refl, sym, ap, subst, append_assoc, append-nil}
use Rattle.std.proofs.lemmas.List.{take-append-drop, length-drop}
use Rattle.protox_lines_items.specs.Items.{most}
use Rattle.protox_lines_items.specs.Told.{Convert, Faulty}
use Rattle.protox_lines_items.specs.Cutting.{Cuts, Stands}
use Rattle.protox_lines_items.specs.Writing.{ForProgress, Goes, EndsBy, Taken}
use Rattle.protox_lines_items.specs.declared.error.ItemFault.{ItemFault}
use Rattle.protox_lines_items.specs.declared.error.LineError.{LineError}
use Rattle.protox_lines_items.proofs.Endings.{still_goes}
use Rattle.protox_lines_items.proofs.Faults.{ends_more}

at_bytes : (cut : Stands) (c : Convert) (held gathered : List ℕ) (count : ℕ) (first a b : List ℕ) → a ≡ b → Goes cut c held gathered count first a → Goes cut c held gathered count first b
at_bytes cut c held gathered count first a b e g = let P : List ℕ → Type 0 = λ z. Goes cut c held gathered count first z in subst P e g

-- no bytes are taken yet
pub taken_none : (cut : Stands) (c : Convert) (held gathered : List ℕ) (count : ℕ) (bytes : List ℕ) (T : Type 0)
    → Taken T cut c held gathered count cut held gathered count bytes bytes
taken_none cut c held gathered count bytes T = (
  [],
  refl,
  λ t first read items p short. (
    items,
    still_goes cut cut c first held gathered count read items (read ++ []) p
        (let P : List ℕ → Type 0 = λ z. cut z items in subst P (sym (append-nil read)) p.is_cut),
  ),
)

-- some more are taken
pub taken_more : (begun_at cut later : Stands) (c : Convert) (held gathered : List ℕ) (count : ℕ) (now left : List ℕ) (number : ℕ) (next over : List ℕ) (more : ℕ)
    → (bytes rest : List ℕ) (n : ℕ) (T : Type 0) → Taken T begun_at c held gathered count cut now left number bytes rest
    → (T → ForProgress cut c now left number (λ first read items. length (read ++ rest) ≤ most → Goes later c next over more first (read ++ take n rest)))
    → Taken T begun_at c held gathered count later next over more bytes (drop n rest)
taken_more begun_at cut later c held gathered count now left number next over more bytes rest n T (front, split, goes) go = (
  front ++ take n rest,
  split ∙ ap (λ z. front ++ z) (sym (take-append-drop n rest)) ∙ sym (append_assoc front (take n rest) (drop n rest)),
  λ t first read items p short.
      let so = goes t first read items p short in
      at_bytes later c next over more first ((read ++ front) ++ take n rest) (read ++ (front ++ take n rest)) (append_assoc read front (take n rest))
      (go t first (read ++ front) so.0 so.1 (let P : List ℕ → Type 0 = λ z. length z ≤ most in
      subst P (ap (λ z. read ++ z) split ∙ sym (append_assoc read front rest)) short)),
)

-- all are
pub taken_all : (begun_at cut : Stands) (c : Convert) (held gathered : List ℕ) (count : ℕ) (now left : List ℕ) (number : ℕ) (bytes rest : List ℕ) (T : Type 0)
    → rest ≡ [] → Taken T begun_at c held gathered count cut now left number bytes rest
    → T → ForProgress begun_at c held gathered count (λ first read items. length (read ++ bytes) ≤ most → Goes cut c now left number first (read ++ bytes))
taken_all begun_at cut c held gathered count now left number bytes rest T none (front, split, goes) t first read items p short =
    at_bytes cut c now left number first (read ++ front) (read ++ bytes)
    (ap (λ z. read ++ z) (sym (split ∙ ap (λ z. front ++ z) none ∙ append-nil front))) (goes t first read items p short)

-- one of the items is faulty
pub taken_ends : (cuts : Cuts) (begun_at cut : Stands) (c : Convert) (later faulty : Faulty) (held gathered : List ℕ) (count : ℕ) (now left : List ℕ) (number : ℕ)
    → (bytes rest next : List ℕ) (e : LineError) (T : Type 0) → ((x : List ℕ) (f : ItemFault) → later x f → faulty x f)
    → Taken T begun_at c held gathered count cut now left number bytes rest
    → (T → ForProgress cut c now left number (λ first read items. length (read ++ rest) ≤ most → EndsBy cuts c later (read ++ rest) e first next))
    → T → ForProgress begun_at c held gathered count (λ first read items. length (read ++ bytes) ≤ most → EndsBy cuts c faulty (read ++ bytes) e first next)
taken_ends cuts begun_at cut c later faulty held gathered count now left number bytes rest next e T h (front, split, goes) ends t first read items p short =
    let so = goes t first read items p short in
    let same : (read ++ front) ++ rest ≡ read ++ bytes = append_assoc read front rest ∙ ap (λ z. read ++ z) (sym split) in
    let L : List ℕ → Type 0 = λ z. length z ≤ most in
    let P : List ℕ → Type 0 = λ z. EndsBy cuts c faulty z e first next in
    subst P same (ends_more cuts c later faulty h ((read ++ front) ++ rest) e first next (ends t first (read ++ front) so.0 so.1 (subst L (sym same) short)))

-- ---- the same, where a converter converts as before

pub goes_as : (cut later : Stands) (c d : Convert) (now left : List ℕ) (number : ℕ) (next over : List ℕ) (more : ℕ) (rest : List ℕ) (n : ℕ) → d ≡ c
    → ForProgress cut d now left number (λ first read items. length (read ++ rest) ≤ most → Goes later d next over more first (read ++ take n rest))
    → ForProgress cut c now left number (λ first read items. length (read ++ rest) ≤ most → Goes later c next over more first (read ++ take n rest))
goes_as cut later c d now left number next over more rest n e h =
    let P : Convert → Type 0 = λ v. ForProgress cut v now left number (λ first read items. length (read ++ rest) ≤ most → Goes later v next over more first (read ++ take n rest)) in
    subst P e h

pub ends_as : (cuts : Cuts) (cut : Stands) (c d : Convert) (later : Faulty) (now left : List ℕ) (number : ℕ) (rest next : List ℕ) (e : LineError) → d ≡ c
    → ForProgress cut d now left number (λ first read items. length (read ++ rest) ≤ most → EndsBy cuts d later (read ++ rest) e first next)
    → ForProgress cut c now left number (λ first read items. length (read ++ rest) ≤ most → EndsBy cuts c later (read ++ rest) e first next)
ends_as cuts cut c d later now left number rest next e is h =
    let P : Convert → Type 0 = λ v. ForProgress cut v now left number (λ first read items. length (read ++ rest) ≤ most → EndsBy cuts v later (read ++ rest) e first next) in
    subst P is h

-- ---- how many bytes and items there are

-- a list of no elements
pub none_left : (xs : List ℕ) → true ≡ (length xs == 0) → xs ≡ []
none_left [] e = refl
none_left (x ∷ xs) e = search rules

-- a list of some
pub some_left : (xs : List ℕ) → (length xs == 0) ≡ false → 0 < length xs
some_left [] e = search rules
some_left (x ∷ xs) e = omega arith

-- each item that is converted takes a byte
pub few_more : (rest behind : List ℕ) (n count number bound : ℕ) → behind ≡ drop n rest → (length rest == 0) ≡ false → (0 < length rest → 0 < n) → n ≤ length rest
    → number ≤ count + 1 → count + length rest ≤ bound → number + length behind ≤ bound
few_more rest behind n count number bound e some positive within more few =
    subst (λ z. number + length z ≤ bound) (sym e)
    (subst (λ m. number + m ≤ bound) (sym (length-drop n rest)) (omega (arith, positive (some_left rest some), within, more, few)))
