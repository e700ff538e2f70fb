-- Where the fields of an object are not read, one of them has a fault.
use Rattle.std.proofs.Common.{◌≡◌, ◌⊎◌, inl, inr, ℕ, ◌==◌, ◌&&◌, List, [], ◌∷◌, Bool, true, false, if◌then◌else◌, Option, Some, None, option_and_then, find, refl, ap, sym, ◌∙◌, subst, arith}
use Rattle.std.specs.Prelude.{not}
use Rattle.std.specs.List.{list_all, list_any}
use Rattle.std.proofs.lemmas.Bool.Decides.{nat_tests}
use Rattle.serde_json.specs.Data.{Data, Members, no_members, member}
use Rattle.serde_json.specs.Find.{get_member}
use Rattle.pbx_content.specs.Content as content
use Rattle.pbx_content.specs.Content.{Content, Fields, Val, get, has}
use Rattle.pbx_content.specs.Shape.{field_of, is_other, same_oneof}
use Rattle.pbx_content.specs.Sound.{AreProper, has_one_member}
use Rattle.pbx_content.specs.declared.shape.FieldShape.{FieldShape}
use Rattle.pbx_content.specs.declared.shape.Shape.{Shape}
use Rattle.pbx_json_meaning.specs.Asked.{Asked, field}
use Rattle.pbx_json_meaning.specs.Faults.{members, into, is_same_field, is_rival_with_value, is_second_member, KeyBreaks}
use Rattle.pbx_json_meaning.specs.Faults.{FaultAt, SomeWith}
use Rattle.pbx_json_meaning.specs.Names.{field_named}
use Rattle.pbx_json_meaning.specs.Stands.{Reading, told, told_by, only, gathered, with_reading, is_known_key, all_known, if_oneofs, message_of, is_there, said, entries_said}
use Rattle.pbx_json_meaning.specs.Trees.{AreAscendingKeys}
use Rattle.pbx_json_meaning.specs.declared.kind.JsonKind.{JsonKind}
use Rattle.pbx_json_meaning.specs.declared.kind.JsonKind.TheVariants as fault
use Rattle.pbx_json_meaning.specs.declared.place.Step.TheVariants.{Key}
use Rattle.pbx_json_laws.proofs.FaultParts.{MembersFaulty, faulty_in, FaultIn, map_none, there_from}
use Rattle.pbx_json_laws.proofs.Gathered.{said_for}
use Rattle.pbx_json_laws.proofs.In.{In, IsLess, in_order, in_got, in_lesser, above_less, above_ascending}
use Rattle.pbx_json_laws.proofs.Numbers.{found_number, named_number}
use Rattle.pbx_json_laws.proofs.Parts.{both, found_passes, of_some}
use Rattle.pbx_json_laws.proofs.Puts.{has-get}

-- the first field that fails
pub failing : (p : FieldShape → Bool) (fs : List FieldShape) → list_all p fs ≡ false → (f : FieldShape) × (find (λ x. not (p x)) fs ≡ Some f)
failing p [] h = absurd (cc)
failing p (x ∷ fs) h = at (p x) h (failing p fs)
  where
    at : (b : Bool) → (b && list_all p fs) ≡ false → (list_all p fs ≡ false → (f : FieldShape) × (find (λ x. not (p x)) fs ≡ Some f))
        → (f : FieldShape) × ((if not b then Some x else find (λ x. not (p x)) fs) ≡ Some f)
    at false k ih = (x, refl)
    at true k ih = ih k

fails : (b : Bool) → not b ≡ true → b ≡ false
fails true h = absurd (cc)
fails false h = refl

holds : (b : Bool) → not (not b) ≡ true → b ≡ true
holds true h = refl
holds false h = absurd (cc)

is_some_value : (o : Option Val) → is_there o ≡ true → (v : Val) × (o ≡ Some v)
is_some_value None h = absurd (cc)
is_some_value (Some v) h = (v, refl)

module _ (shape : Shape) (allow skips : Bool) (fs : List FieldShape) (proper : AreProper fs) where
  abbrev told_at : ℕ → Members → List Reading
  told_at n ms = told fs n (entries_said shape allow ms)

  -- a member whose key names a field of the number
  record Named (n : ℕ) (ms : Members) : Type 0 where
    key : List ℕ
    tree : Data
    own : FieldShape
    there : In key tree ms
    named : field_named key fs ≡ Some own
    numbered : (own.number == n) ≡ true

  abbrev named_behind : (n : ℕ) (l : List ℕ) (e : Data) (ms : Members) → Named n ms → Named n (member l e ms)
  named_behind n l e ms it =
      record { key = it.key; tree = it.tree; own = it.own; there = inr it.there; named = it.named; numbered = it.numbered }

  -- what is told is told by a member
  some_told : (n : ℕ) (ms : Members) (x : Reading) (xs : List Reading) → told_at n ms ≡ x ∷ xs → Named n ms
  some_told n no_members x xs h = absurd (cc)
  some_told n (member k d ms) x xs h = at (field_named k fs) refl h
      (λ y ys e. named_behind n k d ms (some_told n ms y ys e))
    where
      deep : (f : FieldShape) → field_named k fs ≡ Some f → (b : Bool) → (f.number == n) ≡ b
          → (if b then said shape allow d (field f) ∷ told_at n ms else told_at n ms) ≡ x ∷ xs
          → ((y : Reading) (ys : List Reading) → told_at n ms ≡ y ∷ ys → Named n (member k d ms)) → Named n (member k d ms)
      deep f e true q t ih = record { key = k; tree = d; own = f; there = inl (refl, refl); named = e; numbered = q }
      deep f e false q t ih = ih x xs t

      at : (o : Option FieldShape) → field_named k fs ≡ o → told_by o n (record { key = k; says = said shape allow d }) (told_at n ms) ≡ x ∷ xs
          → ((y : Reading) (ys : List Reading) → told_at n ms ≡ y ∷ ys → Named n (member k d ms)) → Named n (member k d ms)
      at None e t ih = ih x xs t
      at (Some f) e t ih = deep f e (f.number == n) refl t ih

  -- a member that names a field and says nothing for it, or two that name one
  data Untold (n : ℕ) (ms : Members) : Type 0 where
    silent : (it : Named n ms) → said shape allow it.tree (field it.own) ≡ None → Untold n ms
    twice : (low high : Named n ms) → IsLess low.key high.key → Untold n ms

  untold_behind : (n : ℕ) (l : List ℕ) (e : Data) (ms : Members) → Untold n ms → Untold n (member l e ms)
  untold_behind n l e ms (silent it h) = silent (named_behind n l e ms it) h
  untold_behind n l e ms (twice low high h) = twice (named_behind n l e ms low) (named_behind n l e ms high) h

  untold : (n : ℕ) (ms : Members) → AreAscendingKeys ms → only (told_at n ms) ≡ None → Untold n ms
  untold n no_members up h = absurd (cc)
  untold n (member k d ms) up h = at (field_named k fs) refl h (λ q. untold_behind n k d ms (untold n ms (above_ascending k ms up) q))
    where
      own : (f : FieldShape) → field_named k fs ≡ Some f → (f.number == n) ≡ true → Named n (member k d ms)
      own f e q = record { key = k; tree = d; own = f; there = inl (refl, refl); named = e; numbered = q }

      more : (f : FieldShape) (e : field_named k fs ≡ Some f) (q : (f.number == n) ≡ true) (rs : List Reading) → told_at n ms ≡ rs
          → only (said shape allow d (field f) ∷ rs) ≡ None → Untold n (member k d ms)
      more f e q [] t h = silent (own f e q) h
      more f e q (r ∷ rs) t h =
          let high = some_told n ms r rs t in
          twice (own f e q) (named_behind n k d ms high) (above_less k high.key high.tree ms up high.there)

      deep : (f : FieldShape) → field_named k fs ≡ Some f → (b : Bool) → (f.number == n) ≡ b
          → only (if b then said shape allow d (field f) ∷ told_at n ms else told_at n ms) ≡ None
          → (only (told_at n ms) ≡ None → Untold n (member k d ms)) → Untold n (member k d ms)
      deep f e true q h ih = more f e q (told_at n ms) refl h
      deep f e false q h ih = ih h

      at : (o : Option FieldShape) → field_named k fs ≡ o → only (told_by o n (record { key = k; says = said shape allow d }) (told_at n ms)) ≡ None
          → (only (told_at n ms) ≡ None → Untold n (member k d ms)) → Untold n (member k d ms)
      at None e h ih = ih h
      at (Some f) e h ih = deep f e (f.number == n) refl h ih

  -- what is told once is told by a member
  record Valued (n : ℕ) (v : Val) (ms : Members) : Type 0 where
    by : Named n ms
    value : said shape allow by.tree (field by.own) ≡ Some (Some v)

  valued_behind : (n : ℕ) (v : Val) (l : List ℕ) (e : Data) (ms : Members) → Valued n v ms → Valued n v (member l e ms)
  valued_behind n v l e ms it = record { by = named_behind n l e ms it.by; value = it.value }

  value_told : (n : ℕ) (v : Val) (ms : Members) → only (told_at n ms) ≡ Some (Some v) → Valued n v ms
  value_told n v no_members h = absurd (cc)
  value_told n v (member k d ms) h = at (field_named k fs) refl h (λ q. valued_behind n v k d ms (value_told n v ms q))
    where
      alone : (rs : List Reading) (r : Reading) → only (r ∷ rs) ≡ Some (Some v) → r ≡ Some (Some v)
      alone [] r e = e
      alone (x ∷ rs) r e = absurd (cc)

      deep : (f : FieldShape) → field_named k fs ≡ Some f → (b : Bool) → (f.number == n) ≡ b
          → only (if b then said shape allow d (field f) ∷ told_at n ms else told_at n ms) ≡ Some (Some v)
          → (only (told_at n ms) ≡ Some (Some v) → Valued n v (member k d ms)) → Valued n v (member k d ms)
      deep f e true q h ih = record {
        by = record { key = k; tree = d; own = f; there = inl (refl, refl); named = e; numbered = q };
        value = alone (told_at n ms) (said shape allow d (field f)) h;
      }
      deep f e false q h ih = ih h

      at : (o : Option FieldShape) → field_named k fs ≡ o → only (told_by o n (record { key = k; says = said shape allow d }) (told_at n ms)) ≡ Some (Some v)
          → (only (told_at n ms) ≡ Some (Some v) → Valued n v (member k d ms)) → Valued n v (member k d ms)
      at None e h ih = ih h
      at (Some f) e h ih = deep f e (f.number == n) refl h ih

  -- a key that names nothing
  unknown_there : (ms : Members) → all_known skips fs (entries_said shape allow ms) ≡ false
      → (k : List ℕ) × (d : Data) × In k d ms × (field_named k fs ≡ None) × (skips ≡ false)
  unknown_there no_members h = absurd (cc)
  unknown_there (member k d ms) h = at (field_named k fs) refl h (λ q. behind (unknown_there ms q))
    where
      behind : (l : List ℕ) × (e : Data) × In l e ms × (field_named l fs ≡ None) × (skips ≡ false)
          → (l : List ℕ) × (e : Data) × In l e (member k d ms) × (field_named l fs ≡ None) × (skips ≡ false)
      behind it = (it.0, it.1, inr it.2, it.3, it.4)

      cases : (a b : Bool) → (a && b) ≡ false → (a ≡ false) ⊎ (b ≡ false)
      cases true b h = inr h
      cases false b h = inl refl

      either : field_named k fs ≡ None → (skips ≡ false) ⊎ (all_known skips fs (entries_said shape allow ms) ≡ false)
          → (all_known skips fs (entries_said shape allow ms) ≡ false
          → (l : List ℕ) × (e : Data) × In l e (member k d ms) × (field_named l fs ≡ None) × (skips ≡ false))
          → (l : List ℕ) × (e : Data) × In l e (member k d ms) × (field_named l fs ≡ None) × (skips ≡ false)
      either e (inl a) ih = (k, d, inl (refl, refl), e, a)
      either e (inr a) ih = ih a

      at : (o : Option FieldShape) → field_named k fs ≡ o → (is_known_key skips o && all_known skips fs (entries_said shape allow ms)) ≡ false
          → (all_known skips fs (entries_said shape allow ms) ≡ false
          → (l : List ℕ) × (e : Data) × In l e (member k d ms) × (field_named l fs ≡ None) × (skips ≡ false))
          → (l : List ℕ) × (e : Data) × In l e (member k d ms) × (field_named l fs ≡ None) × (skips ≡ false)
      at (Some f) e q ih = ih q
      at None e q ih = either e (cases skips (all_known skips fs (entries_said shape allow ms)) q) ih

  -- a number of which nothing is gathered
  ungathered : (says : ℕ → Reading) (gs : List FieldShape) → gathered says gs ≡ None → (n : ℕ) × (says n ≡ None)
  ungathered says [] h = absurd (cc)
  ungathered says (f ∷ gs) h = at (says f.number) refl h (ungathered says gs)
    where
      at : (r : Reading) → says f.number ≡ r → with_reading f.number r (gathered says gs) ≡ None → (gathered says gs ≡ None → (n : ℕ) × (says n ≡ None))
          → (n : ℕ) × (says n ≡ None)
      at None e q ih = (f.number, e)
      at (Some None) e q ih = ih q
      at (Some (Some v)) e q ih = ih (map_none _ (gathered says gs) q)

  -- ---- faults

  module _ (ms : Members) (up : AreAscendingKeys ms) (g : MembersFaulty shape allow ms) where
    abbrev Fault : Type 0
    Fault = FaultIn shape allow (members skips fs ms)

    at_key : (k : List ℕ) (d : Data) → In k d ms → (kind : JsonKind) → KeyBreaks shape allow (members skips fs ms) k kind → Fault
    at_key k d i kind b = (Key k, [], kind, inl (refl, there_from (get_member k ms) d (in_got k d ms up i), b))

    below_key : (k : List ℕ) (d : Data) (f : FieldShape) → In k d ms → field_named k fs ≡ Some f → said shape allow d (field f) ≡ None → Fault
    below_key k d f i e h =
        let it = faulty_in shape allow k d ms g i (field f) h in
        let P : Option (Data × Asked) → Type 0 = λ o. SomeWith o (λ next. FaultAt shape allow it.0 next.0 next.1 it.1) in
        let is : into (members skips fs ms) (Key k) ≡ Some (d, field f) = rw (e, in_got k d ms up i) refl in
        (Key k, it.0, it.1, inr (subst P (sym is) it.2))

    same_numbers : (n a b : ℕ) → (a == n) ≡ true → (b == n) ≡ true → (a == b) ≡ true
    same_numbers n a b p q = grind (arith, nat_tests)

    untold_fault : (n : ℕ) → Untold n ms → Fault
    untold_fault n (silent it h) = below_key it.key it.tree it.own it.there it.named h
    untold_fault n (twice low high less) =
        let same : is_same_field (field_named low.key fs) (field_named high.key fs) ≡ true =
        rw (low.named, high.named) (same_numbers n low.own.number high.own.number low.numbered high.numbered) in
        at_key high.key high.tree high.there fault.DuplicateField
        (in_lesser (λ m. is_same_field (field_named m.0 fs) (field_named high.key fs)) high.key low.key low.tree ms low.there less same)

    -- of two members of a oneof the greater key has the fault
    rivals : (f h : FieldShape) (v w : Val) → is_other f h ≡ true → (k l : List ℕ) (d e : Data) → In k d ms → In l e ms → IsLess l k
        → field_named k fs ≡ Some f → field_named l fs ≡ Some h → said shape allow d (field f) ≡ Some (Some v) → said shape allow e (field h) ≡ Some (Some w) → Fault
    rivals f h v w other k l d e i j less kf lh vf wh =
        let rival : is_rival_with_value shape allow f e (field_named l fs) ≡ true = rw lh (rw (other, wh) refl) in
        let some : list_any (λ m. is_rival_with_value shape allow f m.1 (field_named m.0 fs)) _ ≡ true =
        in_lesser (λ m. is_rival_with_value shape allow f m.1 (field_named m.0 fs)) k l e ms j less rival in
        let second : is_second_member shape allow fs ms k (Some f) (Some d) ≡ true = rw (vf, some) refl in
        at_key k d i fault.OneofTwice
        (ap (is_second_member shape allow fs ms k (field_named k fs)) (in_got k d ms up i) ∙ ap (λ o. is_second_member shape allow fs ms k o (Some d)) kf ∙ second)

    other_swaps : (f h : FieldShape) → is_other f h ≡ true → is_other h f ≡ true
    other_swaps f h e = rw (oneofs f.oneof h.oneof, numbers) e
      where
        oneofs : (a b : Option ℕ) → same_oneof b a ≡ same_oneof a b
        oneofs (Some a) (Some b) = grind (arith, nat_tests)
        oneofs (Some a) None = refl
        oneofs None (Some b) = refl
        oneofs None None = refl

        numbers : (h.number == f.number) ≡ (f.number == h.number)
        numbers = grind (arith, nat_tests)

    -- a member that has the value of a field
    record Holder (f : FieldShape) : Type 0 where
      key : List ℕ
      tree : Data
      value : Val
      there : In key tree ms
      named : field_named key fs ≡ Some f
      says : said shape allow tree (field f) ≡ Some (Some value)

    holder : (found : Fields) → gathered (λ n. only (told_at n ms)) fs ≡ Some found → (f : FieldShape) → field_of f.number fs ≡ Some f
        → has f.number found ≡ true → Holder f
    holder found e f own h =
        let v = is_some_value (get f.number found) (sym (has-get f.number found) ∙ h) in
        let it = value_told f.number v.0 ms (said_for (λ n. only (told_at n ms)) fs found e f.number v.0 v.1) in
        let number : it.by.own.number ≡ f.number = (let q : (it.by.own.number == f.number) ≡ true = it.by.numbered in grind (arith, nat_tests)) in
        let both_are : Some it.by.own ≡ Some f =
        sym (named_number fs it.by.key it.by.own proper it.by.named) ∙ ap (λ k. field_of k fs) number ∙ own in
        let same : it.by.own ≡ f = of_some it.by.own f both_are in
        record {
          key = it.by.key;
          tree = it.by.tree;
          value = v.0;
          there = it.by.there;
          named = it.by.named ∙ both_are;
          says = ap (λ x. said shape allow it.by.tree (field x)) (sym same) ∙ it.value;
        }

    oneof_fault : (found : Fields) → gathered (λ n. only (told_at n ms)) fs ≡ Some found → has_one_member fs found ≡ false → Fault
    oneof_fault found e h =
        let first = failing (λ f. list_all (pair f) fs) fs h in
        let row = fails (list_all (pair first.0) fs) (found_passes (λ f. not (list_all (pair f) fs)) fs first.0 first.1) in
        let second = failing (pair first.0) fs row in
        let test = holds (is_other first.0 second.0 && has first.0.number found && has second.0.number found)
        (found_passes (λ h. not (pair first.0 h)) fs second.0 second.1) in
        let parts = both (is_other first.0 second.0 && has first.0.number found) (has second.0.number found) test in
        let other = both (is_other first.0 second.0) (has first.0.number found) parts.0 in
        at first.0 second.0 other.0
        (holder found e first.0 (found_number fs proper.distinct (λ f. not (list_all (pair f) fs)) first.0 first.1) other.1)
        (holder found e second.0 (found_number fs proper.distinct (λ h. not (pair first.0 h)) second.0 second.1) parts.1)
      where
        pair : FieldShape → FieldShape → Bool
        pair f h = not (is_other f h && has f.number found && has h.number found)

        apart : (f h : FieldShape) → is_other f h ≡ true → f ≡ h → ⊥
        apart f h o same =
            let no : not (f.number == h.number) ≡ true = (both (same_oneof f.oneof h.oneof) (not (f.number == h.number)) o).1 in
            let number : f.number ≡ h.number = ap (λ x. x.number) same in
            let yes' : (f.number == h.number) ≡ true = grind (arith, nat_tests) in
            (let bad : not (f.number == h.number) ≡ false = rw yes' refl in cc)

        at : (f h : FieldShape) → is_other f h ≡ true → Holder f → Holder h → Fault
        at f h other a b = deep (in_order a.key b.key keys_apart)
          where
            keys_apart : a.key ≡ b.key → ⊥
            keys_apart k = apart f h other (of_some f h (sym a.named ∙ ap (λ x. field_named x fs) k ∙ b.named))

            deep : IsLess a.key b.key ⊎ IsLess b.key a.key → Fault
            deep (inl less) = rivals h f b.value a.value (other_swaps f h other) b.key a.key b.tree a.tree b.there a.there less b.named a.named b.says a.says
            deep (inr less) = rivals f h a.value b.value other a.key b.key a.tree b.tree a.there b.there less a.named b.named a.says b.says

    pub members_fault : message_of skips fs (entries_said shape allow ms) ≡ None → Fault
    members_fault h = known (all_known skips fs (entries_said shape allow ms)) refl h
      where
        single : (found : Fields) → (b : Bool) → (if b then Some (content.content found []) else None) ≡ None → b ≡ false
        single found true q = absurd (cc)
        single found false q = refl

        unknown : all_known skips fs (entries_said shape allow ms) ≡ false → Fault
        unknown e = let it = unknown_there ms e in at_key it.0 it.1 it.2 fault.UnknownField (it.3, it.4)

        gathers : (o : Option Fields) → gathered (λ n. only (told_at n ms)) fs ≡ o → option_and_then (if_oneofs fs) o ≡ None → Fault
        gathers None e q = let it = ungathered (λ n. only (told_at n ms)) fs e in untold_fault it.0 (untold it.0 ms up it.1)
        gathers (Some found) e q = oneof_fault found e (single found (has_one_member fs found) q)

        known : (b : Bool) → all_known skips fs (entries_said shape allow ms) ≡ b
            → (if b then option_and_then (if_oneofs fs) (gathered (λ n. only (told_at n ms)) fs) else None) ≡ None → Fault
        known false e q = unknown e
        known true e q = gathers (gathered (λ n. only (told_at n ms)) fs) refl q
