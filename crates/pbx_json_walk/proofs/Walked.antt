-- A walk over the keys of an object of fields finds what the whole object says for each field.
use Rattle.std.proofs.Common.{◌≡◌, ◌⊎◌, ◌∙◌, ℕ, ◌&&◌, ◌||◌, not, List, [], ◌∷◌, Bool, true, false, ◌==◌, if◌then◌else◌, Option, Some, None, option_and_then, Ok, Err, refl, ap, sym, subst, inl, inr, arith}
use Rattle.std.specs.List.{list_any, list_all}
use Rattle.std.specs.BTreeSet.{BTreeSet, contains}
use Rattle.std.specs.Ordering.{nat_cmp}
use Rattle.std.proofs.lemmas.Bool.Decides.{nat_tests}
use Rattle.pbx_content.specs.Content.{field as field_at}
use Rattle.pbx_content.specs.Content.{Val, Content, content, Fields, no_fields, fields, kept, get, has, IsAscending, with_value, with_fields}
use Rattle.pbx_content.specs.Shape.{is_other, same_oneof}
use Rattle.pbx_content.specs.Sound.{has_one_member}
use Rattle.pbx_content.specs.declared.shape.FieldShape.{FieldShape}
use Rattle.pbx_json_meaning.specs.Asked.{Asked, field}
use Rattle.pbx_json_meaning.specs.Names.{field_named}
use Rattle.pbx_json_meaning.specs.Stands.{Reading, Entry, is_known_key, all_known, told_by, told, only, put, gathered, if_oneofs, message_of}
use Rattle.pbx_json_meaning.specs.declared.kind.JsonKind.TheVariants as fault
use Rattle.pbx_json_meaning.specs.declared.place.Step.TheVariants.{Key as to_key}
use Rattle.pbx_json_walk.specs.Walk.{Answer, Part, State, start, with_number, with_oneof, with_found, is_taken, noted, field_turn, turn, walk, and_then, at_step, or_here, here, answer_map, content_found}
use Rattle.pbx_json_walk.proofs.Agree.{Agrees, along}
use Rattle.pbx_json_walk.proofs.FieldsLemmas.{get-put, get-put_other}
use Rattle.pbx_json_walk.proofs.Extensional.{ascending_put, same_fields}
use Rattle.pbx_json_walk.proofs.Putting.{with_value-put}
use Rattle.pbx_json_walk.proofs.Rebuilt.{gathered_along, gathered_fault, gathered-rebuilt, ascending_rebuilt, get-rebuilt, rebuilt, known_number, value_kept}
use Rattle.pbx_json_walk.proofs.Tests.{Among, all_true, all_at, all_false, named_among, AreDistinct, same_field, put_in}

-- the same keys, and answers that agree with what is said
abbrev pub AgreeParts : List Entry → List Part → Type 0
AgreeParts [] [] = Unit {0}
AgreeParts (e ∷ es) (p ∷ ps) = (e.key ≡ p.key) × ((asked : Asked) → Agrees (e.says asked) (p.answers asked)) × AgreeParts es ps
AgreeParts _ _ = ⊥

-- ---- what is said by the keys so far and those that are left

abbrev pub is_seen : State → ℕ → Bool
is_seen s n = contains nat_cmp s.seen n

abbrev from_seen : Option Val → List Reading → Reading
from_seen o [] = Some o
from_seen o (r ∷ rs) = None

-- what is said for a field by the keys so far and those that are left
abbrev reading_from : State → List Reading → ℕ → Reading
reading_from s rs n = if is_seen s n then from_seen (get n (fields s.found)) rs else only rs

-- what holds of the state while the keys are walked
pub record Good (m : List FieldShape) (s : State) : Type 0 where
  covered : (n : ℕ) → is_seen s n ≡ false → get n (fields s.found) ≡ None
  ascending : IsAscending (fields s.found)
  known : (n : ℕ) → is_seen s n ≡ true → list_any (λ x. x.number == n) m ≡ true
  bare : kept s.found ≡ []
  alone : has_one_member m (fields s.found) ≡ true
  takes : (g : FieldShape) (o : ℕ) → Among g m → g.oneof ≡ Some o → has g.number (fields s.found) ≡ true → contains nat_cmp s.taken o ≡ true
  taker : (o : ℕ) → contains nat_cmp s.taken o ≡ true → (g : FieldShape) × Among g m × (g.oneof ≡ Some o) × (has g.number (fields s.found) ≡ true)

only_said : (o : Option Val) (rs : List Reading) → only (Some o ∷ rs) ≡ from_seen o rs
only_said o [] = refl
only_said o (r ∷ rs) = refl

only_fault : (rs : List Reading) → only (None ∷ rs) ≡ None
only_fault [] = refl
only_fault (r ∷ rs) = refl

abbrev found_after : ℕ → Option Val → Fields → Fields
found_after n None fs = fs
found_after n (Some v) fs = put n v fs

get-after_other : (q n : ℕ) (o : Option Val) (fs : Fields) → (n == q) ≡ false → get q (found_after n o fs) ≡ get q fs
get-after_other q n None fs h = refl
get-after_other q n (Some v) fs h = let other : (q == n) ≡ false = grind (arith, nat_tests) in get-put_other q n v fs other

get-after : (n : ℕ) (o : Option Val) (fs : Fields) → get n fs ≡ None → get n (found_after n o fs) ≡ o
get-after n None fs h = h
get-after n (Some v) fs h = get-put n v fs

-- the next state after a key of a field, with what was answered for it
record Next (g : FieldShape) (o : Option Val) (s t : State) : Type 0 where
  sees : (n : ℕ) → is_seen t n ≡ ((g.number == n) || is_seen s n)
  finds : fields t.found ≡ found_after g.number o (fields s.found)

-- a key moves what is said from those that are left to those so far
moved : (e : Entry) (g : FieldShape) (o : Option Val) (s t : State) → Next g o s t → is_seen s g.number ≡ false → get g.number (fields s.found) ≡ None → e.says (field g) ≡ Some o
    → (n : ℕ) (rs : List Reading) → reading_from s (told_by (Some g) n e rs) n ≡ reading_from t rs n
moved e g o s t next new none says n rs =
    rw (next.sees n, next.finds) (at (g.number == n) refl (is_seen s n) refl)
  where
    at : (b : Bool) → (g.number == n) ≡ b → (c : Bool) → is_seen s n ≡ c
        → (if c then from_seen (get n (fields s.found)) (if b then e.says (field g) ∷ rs else rs) else only (if b then e.says (field g) ∷ rs else rs))
        ≡ (if b || c then from_seen (get n (found_after g.number o (fields s.found))) rs else only rs)
    at false b false c = refl
    at false b true c = rw (get-after_other n g.number o (fields s.found) b) refl
    at true b true c = let same : g.number ≡ n = grind (arith, nat_tests) in let bad : is_seen s n ≡ false = ap (is_seen s) (sym same) ∙ new in absurd (cc)
    at true b false c =
        let same : g.number ≡ n = grind (arith, nat_tests) in
        let value : get n (found_after g.number o (fields s.found)) ≡ o = ap (λ k. get k (found_after g.number o (fields s.found))) (sym same) ∙ get-after g.number o (fields s.found) none in
        ap (λ r. only (r ∷ rs)) says ∙ only_said o rs ∙ ap (λ p. from_seen p rs) (sym value)

-- ---- values that are there

has-value : (n : ℕ) (v : Val) (fs : Fields) → get n fs ≡ Some v → has n fs ≡ true
has-value n v no_fields h = absurd (cc)
has-value n v (field_at m w fs) h = at (n == m) h (has-value n v fs)
  where
    at : (b : Bool) → (if b then Some w else get n fs) ≡ Some v → (get n fs ≡ Some v → has n fs ≡ true) → (if b then true else has n fs) ≡ true
    at true k ih = refl
    at false k ih = ih k

value-has : (n : ℕ) (fs : Fields) → has n fs ≡ true → (v : Val) × (get n fs ≡ Some v)
value-has n no_fields h = absurd (cc)
value-has n (field_at m w fs) h = at (n == m) h (value-has n fs)
  where
    at : (b : Bool) → (if b then true else has n fs) ≡ true → (has n fs ≡ true → (v : Val) × (get n fs ≡ Some v)) → (v : Val) × ((if b then Some w else get n fs) ≡ Some v)
    at true k ih = (w, refl)
    at false k ih = ih k

-- a value that is there after another was put in is that one, or was there
has-put : (n : ℕ) (v : Val) (q : ℕ) (fs : Fields) → has q (put n v fs) ≡ true → ((q == n) ≡ true) ⊎ (has q fs ≡ true)
has-put n v q fs h = at (q == n) refl
  where
    at : (b : Bool) → (q == n) ≡ b → ((q == n) ≡ true) ⊎ (has q fs ≡ true)
    at true e = inl e
    at false e = let there = value-has q (put n v fs) h in inr (has-value q there.0 fs (sym (get-put_other q n v fs e) ∙ there.1))

put-has : (n : ℕ) (v : Val) (q : ℕ) (fs : Fields) → has q fs ≡ true → has q (put n v fs) ≡ true
put-has n v q fs h = at (q == n) refl
  where
    at : (b : Bool) → (q == n) ≡ b → has q (put n v fs) ≡ true
    at true e = let same : q ≡ n = grind (arith, nat_tests) in has-value q v (put n v fs) (ap (λ k. get k (put n v fs)) same ∙ get-put n v fs)
    at false e = let there = value-has q fs h in has-value q there.0 (put n v fs) (get-put_other q n v fs e ∙ there.1)

-- ---- oneofs

abbrev pair_test : Fields → FieldShape → FieldShape → Bool
pair_test fs f g = not (is_other f g && has f.number fs && has g.number fs)

-- two members of one oneof that both have a value
two_members : (m : List FieldShape) (fs : Fields) (f g : FieldShape) → Among f m → Among g m → is_other f g ≡ true → has f.number fs ≡ true → has g.number fs ≡ true
    → has_one_member m fs ≡ false
two_members m fs f g i j other a b =
    all_false (λ x. list_all (λ y. pair_test fs x y) m) m f i (all_false (λ y. pair_test fs f y) m g j (rw (other, a, b) refl))

one_member : (m : List FieldShape) (fs : Fields) → ((f g : FieldShape) → Among f m → Among g m → pair_test fs f g ≡ true) → has_one_member m fs ≡ true
one_member m fs h = all_true (λ x. list_all (λ y. pair_test fs x y) m) m (λ f i. all_true (λ y. pair_test fs f y) m (λ g j. h f g i j))

member_pair : (m : List FieldShape) (fs : Fields) (f g : FieldShape) → Among f m → Among g m → has_one_member m fs ≡ true → pair_test fs f g ≡ true
member_pair m fs f g i j h = all_at (λ y. pair_test fs f y) m g j (all_at (λ x. list_all (λ y. pair_test fs x y) m) m f i h)

-- members of one oneof
others : (f g : FieldShape) (o : ℕ) → f.oneof ≡ Some o → g.oneof ≡ Some o → (f.number == g.number) ≡ false → is_other f g ≡ true
others f g o a b e = let here : (o == o) ≡ true = grind (arith, nat_tests) in rw (a, b, e, here) refl

oneof_of : (f g : FieldShape) → is_other f g ≡ true → (o : ℕ) × (f.oneof ≡ Some o) × (g.oneof ≡ Some o) × ((f.number == g.number) ≡ false)
oneof_of f g h = at f.oneof g.oneof refl refl (f.number == g.number) refl h
  where
    at : (a b : Option ℕ) → f.oneof ≡ a → g.oneof ≡ b → (c : Bool) → (f.number == g.number) ≡ c → (same_oneof a b && not c) ≡ true
        → (o : ℕ) × (f.oneof ≡ Some o) × (g.oneof ≡ Some o) × ((f.number == g.number) ≡ false)
    at None b e f' c d k = absurd (cc)
    at (Some x) None e f' c d k = absurd (cc)
    at (Some x) (Some y) e f' c d k = go (x == y) refl c refl k
      where
        go : (p : Bool) → (x == y) ≡ p → (q : Bool) → c ≡ q → (p && not q) ≡ true → (o : ℕ) × (f.oneof ≡ Some o) × (g.oneof ≡ Some o) × ((f.number == g.number) ≡ false)
        go false i q j l = absurd (cc)
        go true i true j l = absurd (cc)
        go true i false j l = let same : x ≡ y = grind (arith, nat_tests) in (x, e, f' ∙ ap Some (sym same), d ∙ j)

-- ---- states after a key

seen_other : (s : State) (n k : ℕ) → ((k == n) || is_seen s n) ≡ false → is_seen s n ≡ false
seen_other s n k h = at (k == n) (is_seen s n) refl h
  where
    at : (a b : Bool) → is_seen s n ≡ b → (a || b) ≡ false → b ≡ false
    at true b e k = absurd (cc)
    at false b e k = k

covers : (g : FieldShape) (o : Option Val) (s t : State) (m : List FieldShape) → Good m s → Next g o s t → (n : ℕ) → is_seen t n ≡ false → get n (fields t.found) ≡ None
covers g o s t m good next n h = ap (get n) next.finds ∙ at (g.number == n) refl (sym (next.sees n) ∙ h)
  where
    at : (b : Bool) → (g.number == n) ≡ b → (b || is_seen s n) ≡ false → get n (found_after g.number o (fields s.found)) ≡ None
    at true e k = absurd (cc)
    at false e k = get-after_other n g.number o (fields s.found) e ∙ good.covered n k

knows : (g : FieldShape) (o : Option Val) (s t : State) (m : List FieldShape) (key : List ℕ) → Good m s → Next g o s t → field_named key m ≡ Some g
    → (n : ℕ) → is_seen t n ≡ true → list_any (λ x. x.number == n) m ≡ true
knows g o s t m key good next named n h = at (g.number == n) refl (sym (next.sees n) ∙ h)
  where
    at : (b : Bool) → (g.number == n) ≡ b → (b || is_seen s n) ≡ true → list_any (λ x. x.number == n) m ≡ true
    at true e k = let same : g.number ≡ n = grind (arith, nat_tests) in ap (λ j. list_any (λ x. x.number == j) m) (sym same) ∙ known_number key m g named
    at false e k = good.known n k

-- without a value
abbrev passed : FieldShape → State → State
passed g s = record { seen = with_number g.number s.seen; taken = s.taken; found = s.found }

passed_next : (g : FieldShape) (s : State) → Next g None s (passed g s)
passed_next g s = record { sees = λ n. put_in s.seen.keys g.number n; finds = refl }

good_passed : (g : FieldShape) (s : State) (m : List FieldShape) (key : List ℕ) → Good m s → field_named key m ≡ Some g → Good m (passed g s)
good_passed g s m key good named = record {
  covered = covers g None s (passed g s) m good (passed_next g s);
  ascending = good.ascending;
  known = knows g None s (passed g s) m key good (passed_next g s) named;
  bare = good.bare;
  alone = good.alone;
  takes = good.takes;
  taker = good.taker;
}

-- with a value
abbrev kept_state : FieldShape → Val → State → State
kept_state g v s = record { seen = with_number g.number s.seen; taken = with_oneof g.oneof s.taken; found = with_found g.number v s.found }

fields_with : (c : Content) (fs : Fields) → fields (with_fields c fs) ≡ fs
fields_with (content gs ks) fs = refl

kept_with : (c : Content) (fs : Fields) → kept (with_fields c fs) ≡ kept c
kept_with (content gs ks) fs = refl

kept_next : (g : FieldShape) (v : Val) (s : State) → get g.number (fields s.found) ≡ None → Next g (Some v) s (kept_state g v s)
kept_next g v s none = record {
  sees = λ n. put_in s.seen.keys g.number n;
  finds = fields_with s.found (with_value g.number v (fields s.found)) ∙ with_value-put g.number v (fields s.found) none;
}

-- an oneof stays taken
stays : (o : Option ℕ) (taken : BTreeSet ℕ) (q : ℕ) → contains nat_cmp taken q ≡ true → contains nat_cmp (with_oneof o taken) q ≡ true
stays None taken q h = h
stays (Some o) taken q h = put_in taken.keys o q ∙ ap (λ b. (o == q) || b) h ∙ or_true (o == q)
  where
    or_true : (b : Bool) → (b || true) ≡ true
    or_true true = refl
    or_true false = refl

takes_own : (o : ℕ) (taken : BTreeSet ℕ) → contains nat_cmp (with_oneof (Some o) taken) o ≡ true
takes_own o taken = let here : (o == o) ≡ true = grind (arith, nat_tests) in put_in taken.keys o o ∙ ap (λ b. b || contains nat_cmp taken o) here

either_taken : (o : Option ℕ) (taken : BTreeSet ℕ) (q : ℕ) → contains nat_cmp (with_oneof o taken) q ≡ true → (o ≡ Some q) ⊎ (contains nat_cmp taken q ≡ true)
either_taken None taken q h = inr h
either_taken (Some o) taken q h = at (o == q) refl (sym (put_in taken.keys o q) ∙ h)
  where
    at : (b : Bool) → (o == q) ≡ b → (b || contains nat_cmp taken q) ≡ true → (◌≡◌ {A = Option ℕ} (Some o) (Some q)) ⊎ (contains nat_cmp taken q ≡ true)
    at true e k = let same : o ≡ q = grind (arith, nat_tests) in inl (ap Some same)
    at false e k = inr k

module _ (g : FieldShape) (v : Val) (s : State) (m : List FieldShape) (distinct : AreDistinct m) (good : Good m s) (i : Among g m)
    (none : get g.number (fields s.found) ≡ None) (free : is_taken g.oneof s.taken ≡ false) where
  found : Fields
  found = put g.number v (fields s.found)

  -- a member of the field's oneof has no value so far
  no_rival : (h : FieldShape) (o : ℕ) → Among h m → g.oneof ≡ Some o → h.oneof ≡ Some o → has h.number (fields s.found) ≡ true → ⊥
  no_rival h o j a b there =
      let yes : contains nat_cmp s.taken o ≡ true = good.takes h o j b there in
      let no : contains nat_cmp s.taken o ≡ false = ap (λ q. is_taken q s.taken) (sym a) ∙ free in
      let bad : true ≡ false = sym yes ∙ no in
      absurd (cc)

  -- the field itself, or one that had a value
  who : (h : FieldShape) → Among h m → has h.number (put g.number v (fields s.found)) ≡ true → (h ≡ g) ⊎ (has h.number (fields s.found) ≡ true)
  who h j there = at (has-put g.number v h.number (fields s.found) there)
    where
      at : ((h.number == g.number) ≡ true) ⊎ (has h.number (fields s.found) ≡ true) → (h ≡ g) ⊎ (has h.number (fields s.found) ≡ true)
      at (inl e) = inl (same_field m h g distinct j i e)
      at (inr e) = inr e

  pair_after : (f h : FieldShape) → Among f m → Among h m → pair_test (put g.number v (fields s.found)) f h ≡ true
  pair_after f h j k = at (is_other f h) refl (has f.number (put g.number v (fields s.found))) refl (has h.number (put g.number v (fields s.found))) refl
    where
      go : is_other f h ≡ true → (f ≡ g) ⊎ (has f.number (fields s.found) ≡ true) → (h ≡ g) ⊎ (has h.number (fields s.found) ≡ true) → ⊥
      go other (inl a) (inl b) =
          let parts = oneof_of f h other in
          let same : (f.number == h.number) ≡ true = (let here : (g.number == g.number) ≡ true = grind (arith, nat_tests) in rw (a, b) here) in
          let bad : true ≡ false = sym same ∙ parts.3 in
          absurd (cc)
      go other (inl a) (inr b) = let parts = oneof_of f h other in no_rival h parts.0 k (ap (λ (x : FieldShape). x.oneof) (sym a) ∙ parts.1) parts.2 b
      go other (inr a) (inl b) = let parts = oneof_of f h other in no_rival f parts.0 j (ap (λ (x : FieldShape). x.oneof) (sym b) ∙ parts.2) parts.1 a
      go other (inr a) (inr b) =
          let old : pair_test (fields s.found) f h ≡ true = member_pair m (fields s.found) f h j k good.alone in
          let new : pair_test (fields s.found) f h ≡ false = rw (other, a, b) refl in
          let bad : true ≡ false = sym old ∙ new in
          absurd (cc)

      at : (a : Bool) → is_other f h ≡ a → (b : Bool) → has f.number (put g.number v (fields s.found)) ≡ b → (c : Bool) → has h.number (put g.number v (fields s.found)) ≡ c
          → not (a && b && c) ≡ true
      at false e b d c q = refl
      at true e false d c q = refl
      at true e true d false q = refl
      at true e true d true q = absurd (go e (who f j d) (who h k q))

  good_kept : (key : List ℕ) → field_named key m ≡ Some g → Good m (kept_state g v s)
  good_kept key named = record {
    covered = covers g (Some v) s (kept_state g v s) m good next;
    ascending = subst IsAscending (sym next.finds) (ascending_put g.number v (fields s.found) good.ascending);
    known = knows g (Some v) s (kept_state g v s) m key good next named;
    bare = kept_with s.found (with_value g.number v (fields s.found)) ∙ good.bare;
    alone = ap (has_one_member m) next.finds ∙ one_member m (put g.number v (fields s.found)) pair_after;
    takes = λ h o j a there. take h o a (who h j (ap (has h.number) (sym next.finds) ∙ there)) j;
    taker = λ o h. taken o (either_taken g.oneof s.taken o h);
  }
    where
      next : Next g (Some v) s (kept_state g v s)
      next = kept_next g v s none

      take : (h : FieldShape) (o : ℕ) → h.oneof ≡ Some o → (h ≡ g) ⊎ (has h.number (fields s.found) ≡ true) → Among h m → contains nat_cmp (with_oneof g.oneof s.taken) o ≡ true
      take h o a (inl b) j =
          let own : g.oneof ≡ Some o = ap (λ (x : FieldShape). x.oneof) (sym b) ∙ a in
          ap (λ q. contains nat_cmp (with_oneof q s.taken) o) own ∙ takes_own o s.taken
      take h o a (inr b) j = stays g.oneof s.taken o (good.takes h o j a b)

      taken : (o : ℕ) → (g.oneof ≡ Some o) ⊎ (contains nat_cmp s.taken o ≡ true)
          → (h : FieldShape) × Among h m × (h.oneof ≡ Some o) × (has h.number (fields (with_found g.number v s.found)) ≡ true)
      taken o (inl a) = (g, i, a, ap (has g.number) next.finds ∙ has-value g.number v (put g.number v (fields s.found)) (get-put g.number v (fields s.found)))
      taken o (inr a) = let old = good.taker o a in (old.0, old.1, old.2, ap (has old.0.number) next.finds ∙ put-has g.number v old.0.number (fields s.found) old.3)

-- ---- the walk

abbrev reading_for : List FieldShape → State → List Entry → ℕ → Reading
reading_for m s es n = reading_from s (told m n es) n

-- the content that the keys so far and those that are left say
abbrev message_from : Bool → List FieldShape → State → List Entry → Option Content
message_from allow m s es = if all_known allow m es then option_and_then (if_oneofs m) (gathered (reading_for m s es) m) else None

-- with no key left, what was found is what is said
nothing_left : (m : List FieldShape) (s : State) → Good m s → gathered (reading_for m s []) m ≡ Some (fields s.found)
nothing_left m s good = gathered_along _ _ m value ∙ gathered-rebuilt (fields s.found) m ∙ ap Some same
  where
    value : (n : ℕ) → reading_for m s [] n ≡ Some (get n (fields s.found))
    value n = at (is_seen s n) refl
      where
        at : (b : Bool) → is_seen s n ≡ b → (if b then Some (get n (fields s.found)) else Some None) ≡ Some (get n (fields s.found))
        at true b = refl
        at false b = ap Some (sym (good.covered n b))

    same : rebuilt (fields s.found) m ≡ fields s.found
    same = same_fields _ _ (ascending_rebuilt (fields s.found) m) good.ascending each
      where
        each : (n : ℕ) → get n (rebuilt (fields s.found) m) ≡ get n (fields s.found)
        each n = get-rebuilt (fields s.found) n m ∙ at (list_any (λ x. x.number == n) m) refl (is_seen s n) refl
          where
            at : (b : Bool) → list_any (λ x. x.number == n) m ≡ b → (c : Bool) → is_seen s n ≡ c → (if b then get n (fields s.found) else None) ≡ get n (fields s.found)
            at true b c d = refl
            at false b false d = sym (good.covered n d)
            at false b true d = let bad : list_any (λ x. x.number == n) m ≡ true = good.known n d in absurd (cc)

content_is : (c : Content) → kept c ≡ [] → content (fields c) [] ≡ c
content_is (content fs ks) h = ap (content fs) (sym h)

at_end : (allow : Bool) (m : List FieldShape) (s : State) → Good m s → message_from allow m s [] ≡ Some s.found
at_end allow m s good = rw (nothing_left m s good, good.alone) (ap Some (content_is s.found good.bare))

no_choice : (b : Bool) (o : Option Content) → o ≡ None → (if b then o else None) ≡ None
no_choice true o h = h
no_choice false o h = refl

-- one number whose reading is a fault
from_fault : (allow : Bool) (m : List FieldShape) (f : ℕ → Reading) (n : ℕ) (b : Bool) → list_any (λ x. x.number == n) m ≡ true → f n ≡ None
    → (if b then option_and_then (if_oneofs m) (gathered f m) else None) ≡ None
from_fault allow m f n b known bad = no_choice b _ (ap (option_and_then (if_oneofs m)) (gathered_fault f n m known bad))

-- what is said is a fault, or the value alone
from_seen-value : (v : Val) (rs : List Reading) → (from_seen (Some v) rs ≡ None) ⊎ (from_seen (Some v) rs ≡ Some (Some v))
from_seen-value v [] = inr refl
from_seen-value v (r ∷ rs) = inl refl

-- two members of one oneof with a value each are a fault, however many keys are left
rivals : (m : List FieldShape) (f : ℕ → Reading) (g h : FieldShape) (v w : Val) → Among g m → Among h m → is_other g h ≡ true
    → list_any (λ x. x.number == g.number) m ≡ true → list_any (λ x. x.number == h.number) m ≡ true
    → (f g.number ≡ None) ⊎ (f g.number ≡ Some (Some v)) → (f h.number ≡ None) ⊎ (f h.number ≡ Some (Some w)) → option_and_then (if_oneofs m) (gathered f m) ≡ None
rivals m f g h v w i j other kg kh (inl a) b = ap (option_and_then (if_oneofs m)) (gathered_fault f g.number m kg a)
rivals m f g h v w i j other kg kh (inr a) (inl b) = ap (option_and_then (if_oneofs m)) (gathered_fault f h.number m kh b)
rivals m f g h v w i j other kg kh (inr a) (inr b) = at (gathered f m) refl
  where
    at : (o : Option Fields) → gathered f m ≡ o → option_and_then (if_oneofs m) o ≡ None
    at None e = refl
    at (Some fs) e =
        let hg : has g.number fs ≡ true = has-value g.number v fs (value_kept f g.number v m fs kg a e) in
        let hh : has h.number fs ≡ true = has-value h.number w fs (value_kept f h.number w m fs kh b e) in
        rw (two_members m fs g h i j other hg hh) refl

any_among : (m : List FieldShape) (g : FieldShape) → Among g m → list_any (λ x. x.number == g.number) m ≡ true
any_among [] g i = absurd i
any_among (x ∷ m) g (inl same) = let here : (x.number == g.number) ≡ true = (let own : (x.number == x.number) ≡ true = grind (arith, nat_tests) in rw same own) in rw here refl
any_among (x ∷ m) g (inr i) = rw (any_among m g i) (or_true (x.number == g.number))
  where
    or_true : (b : Bool) → (b || true) ≡ true
    or_true true = refl
    or_true false = refl

-- one key that names a field: what is said of the whole, by what is answered for its tree
module _ (allow : Bool) (m : List FieldShape) (distinct : AreDistinct m) (e : Entry) (es : List Entry) (g : FieldShape) (s : State) (good : Good m s)
    (named : field_named e.key m ≡ Some g) where
  abbrev whole : Option Content
  whole = if all_known allow m es then option_and_then (if_oneofs m) (gathered (λ n. reading_from s (told_by (Some g) n e (told m n es)) n) m) else None

  here_told : (g.number == g.number) ≡ true
  here_told = grind (arith, nat_tests)

  seen_fault : is_seen s g.number ≡ true → whole ≡ None
  seen_fault seen =
      from_fault allow m (λ n. reading_from s (told_by (Some g) n e (told m n es)) n) g.number (all_known allow m es) (known_number e.key m g named) (rw (seen, here_told) refl)

  says_fault : is_seen s g.number ≡ false → e.says (field g) ≡ None → whole ≡ None
  says_fault new says =
      from_fault allow m (λ n. reading_from s (told_by (Some g) n e (told m n es)) n) g.number (all_known allow m es) (known_number e.key m g named)
      (rw (new, here_told) (ap (λ r. only (r ∷ told m g.number es)) says ∙ only_fault (told m g.number es)))

  moves : (o : Option Val) (t : State) → Next g o s t → is_seen s g.number ≡ false → e.says (field g) ≡ Some o → whole ≡ message_from allow m t es
  moves o t next new says =
      ap (λ fs. if all_known allow m es then option_and_then (if_oneofs m) fs else None)
      (gathered_along _ _ m (λ n. moved e g o s t next new (good.covered g.number new) says n (told m n es)))

  rival_fault : (v : Val) → is_seen s g.number ≡ false → e.says (field g) ≡ Some (Some v) → is_taken g.oneof s.taken ≡ true → whole ≡ None
  rival_fault v new says taken = at g.oneof refl taken
    where
      own : (rs : List Reading) → reading_from s (told_by (Some g) g.number e rs) g.number ≡ only (Some (Some v) ∷ rs)
      own rs = rw (new, here_told) (ap (λ r. only (r ∷ rs)) says)

      own_value : (reading_from s (told_by (Some g) g.number e (told m g.number es)) g.number ≡ None)
          ⊎ (reading_from s (told_by (Some g) g.number e (told m g.number es)) g.number ≡ Some (Some v))
      own_value = at (from_seen-value v (told m g.number es))
        where
          at : (from_seen (Some v) (told m g.number es) ≡ None) ⊎ (from_seen (Some v) (told m g.number es) ≡ Some (Some v))
              → (reading_from s (told_by (Some g) g.number e (told m g.number es)) g.number ≡ None)
              ⊎ (reading_from s (told_by (Some g) g.number e (told m g.number es)) g.number ≡ Some (Some v))
          at (inl a) = inl (own (told m g.number es) ∙ only_said (Some v) (told m g.number es) ∙ a)
          at (inr a) = inr (own (told m g.number es) ∙ only_said (Some v) (told m g.number es) ∙ a)

      other_value : (h : FieldShape) (w : Val) → is_seen s h.number ≡ true → get h.number (fields s.found) ≡ Some w → (rs : List Reading)
          → (reading_from s rs h.number ≡ None) ⊎ (reading_from s rs h.number ≡ Some (Some w))
      other_value h w seen got rs = at (from_seen-value w rs)
        where
          is : reading_from s rs h.number ≡ from_seen (Some w) rs
          is = rw (seen, got) refl

          at : (from_seen (Some w) rs ≡ None) ⊎ (from_seen (Some w) rs ≡ Some (Some w)) → (reading_from s rs h.number ≡ None) ⊎ (reading_from s rs h.number ≡ Some (Some w))
          at (inl a) = inl (is ∙ a)
          at (inr a) = inr (is ∙ a)

      go : (o : ℕ) → g.oneof ≡ Some o → (h : FieldShape) → Among h m → h.oneof ≡ Some o → has h.number (fields s.found) ≡ true → whole ≡ None
      go o a h j b there =
          let w = value-has h.number (fields s.found) there in
          let seen : is_seen s h.number ≡ true = is_known_seen h w.0 w.1 in
          let differ : (g.number == h.number) ≡ false = apart_numbers h seen in
          no_choice (all_known allow m es) _
          (rivals m (λ n. reading_from s (told_by (Some g) n e (told m n es)) n) g h v w.0 (named_among e.key m g named) j (others g h o a b differ)
          (known_number e.key m g named) (any_among m h j) own_value (other_value h w.0 seen w.1 (told_by (Some g) h.number e (told m h.number es))))
        where
          is_known_seen : (h : FieldShape) (w : Val) → get h.number (fields s.found) ≡ Some w → is_seen s h.number ≡ true
          is_known_seen h w got = at (is_seen s h.number) refl
            where
              at : (b : Bool) → is_seen s h.number ≡ b → b ≡ true
              at true x = refl
              at false x = let bad : None ≡ Some w = sym (good.covered h.number x) ∙ got in absurd (cc)

          apart_numbers : (h : FieldShape) → is_seen s h.number ≡ true → (g.number == h.number) ≡ false
          apart_numbers h seen = at (g.number == h.number) refl
            where
              at : (b : Bool) → (g.number == h.number) ≡ b → b ≡ false
              at false x = refl
              at true x =
                  let same : g.number ≡ h.number = grind (arith, nat_tests) in
                  let bad : is_seen s h.number ≡ false = ap (is_seen s) (sym same) ∙ new in
                  absurd (cc)

      at : (q : Option ℕ) → g.oneof ≡ q → is_taken q s.taken ≡ true → whole ≡ None
      at None a b = absurd (cc)
      at (Some o) a b = let t = good.taker o b in go o a t.0 t.1 t.2 t.3

module _ (m : List FieldShape) (distinct : AreDistinct m) (e : Entry) (p : Part) (es : List Entry) (ps : List Part) (s : State) (good : Good m s)
    (says : (asked : Asked) → Agrees (e.says asked) (p.answers asked)) where
  abbrev left_over : Bool → Option FieldShape → Option Content
  left_over allow o =
      if is_known_key allow o && all_known allow m es then option_and_then (if_oneofs m) (gathered (λ n. reading_from s (told_by o n e (told m n es)) n) m) else None

  abbrev walked_on : Bool → Option FieldShape → Answer Content
  walked_on allow o = answer_map content_found (and_then (at_step (to_key p.key) (turn allow o p.answers s)) (walk allow m ps))

  abbrev Rest : Bool → Type 0
  Rest allow = (t : State) → Good m t → Agrees (message_from allow m t es) (answer_map content_found (walk allow m ps t))

  no_field : (allow : Bool) → Rest allow → Agrees (left_over allow None) (walked_on allow None)
  no_field true ih = ih s good
  no_field false ih = inr refl

  module _ (allow : Bool) (ih : Rest allow) (g : FieldShape) (named : field_named e.key m ≡ Some g) (new : is_seen s g.number ≡ false) where
    valued : (v : Val) → e.says (field g) ≡ Some (Some v) → (b : Bool) → is_taken g.oneof s.taken ≡ b
        → Agrees (left_over allow (Some g)) (answer_map content_found (and_then (at_step (to_key p.key) (if b then here fault.OneofTwice else Ok (kept_state g v s))) (walk allow m ps)))
    valued v said true b = inr (rival_fault allow m distinct e es g s good named v new said b)
    valued v said false b =
        along (message_from allow m (kept_state g v s) es) (left_over allow (Some g)) (answer_map content_found (walk allow m ps (kept_state g v s)))
        (sym (moves allow m distinct e es g s good named (Some v) (kept_state g v s) (kept_next g v s (good.covered g.number new)) new said))
        (ih (kept_state g v s) (good_kept g v s m distinct good (named_among e.key m g named) (good.covered g.number new) b e.key named))

    answered : (a : Answer (Option Val)) → Agrees (e.says (field g)) a
        → Agrees (left_over allow (Some g)) (answer_map content_found (and_then (at_step (to_key p.key) (and_then a (noted g s))) (walk allow m ps)))
    answered (Err x) (inl n) = inl n
    answered (Err x) (inr n) = inr (says_fault allow m distinct e es g s good named new n)
    answered (Ok None) said =
        along (message_from allow m (passed g s) es) (left_over allow (Some g)) (answer_map content_found (walk allow m ps (passed g s)))
        (sym (moves allow m distinct e es g s good named None (passed g s) (passed_next g s) new said))
        (ih (passed g s) (good_passed g s m e.key good named))
    answered (Ok (Some v)) said = valued v said (is_taken g.oneof s.taken) refl

  some_field : (allow : Bool) → Rest allow → (g : FieldShape) → field_named e.key m ≡ Some g → (b : Bool) → contains nat_cmp s.seen g.number ≡ b
      → Agrees (left_over allow (Some g))
      (answer_map content_found (and_then (at_step (to_key p.key) (and_then (or_here (if b then Err fault.DuplicateField else Ok (Some g))) (field_turn p.answers s))) (walk allow m ps)))
  some_field allow ih g named true b = inr (seen_fault allow m distinct e es g s good named b)
  some_field allow ih g named false b = answered allow ih g named b (p.answers (field g)) (says (field g))

  one_key : (allow : Bool) → Rest allow → (o : Option FieldShape) → field_named e.key m ≡ o → Agrees (left_over allow o) (walked_on allow o)
  one_key allow ih None named = no_field allow ih
  one_key allow ih (Some g) named = some_field allow ih g named (contains nat_cmp s.seen g.number) refl

walked : (allow : Bool) (m : List FieldShape) → AreDistinct m → (es : List Entry) (ps : List Part) → AgreeParts es ps → (s : State) → Good m s
    → Agrees (message_from allow m s es) (answer_map content_found (walk allow m ps s))
walked allow m distinct [] [] h s good = at_end allow m s good
walked allow m distinct [] (p ∷ ps) h s good = absurd h
walked allow m distinct (e ∷ es) [] h s good = absurd h
walked allow m distinct (e ∷ es) (p ∷ ps) h s good =
    subst (λ o. Agrees (message_from allow m s (e ∷ es)) (answer_map content_found (and_then (at_step (to_key p.key) (turn allow o p.answers s)) (walk allow m ps))))
    (ap (λ k. field_named k m) h.0)
    (one_key m distinct e p es ps s good h.1 allow (λ t better. walked allow m distinct es ps h.2 t better) (field_named e.key m) refl)

nothing_seen : (m : List FieldShape) → Good m start
nothing_seen m = record {
  covered = λ n h. refl;
  ascending = tt;
  known = λ n h. absurd (cc);
  bare = refl;
  alone = one_member m no_fields (λ f g i j. nobody (is_other f g));
  takes = λ g o i a there. absurd (cc);
  taker = λ o h. absurd (cc);
}
  where
    nobody : (b : Bool) → not (b && false && false) ≡ true
    nobody true = refl
    nobody false = refl

-- what the walk over the keys of an object finds is what the object says
pub message_agrees : (allow : Bool) (m : List FieldShape) → AreDistinct m → (es : List Entry) (ps : List Part) → AgreeParts es ps
    → Agrees (message_of allow m es) (answer_map content_found (walk allow m ps start))
message_agrees allow m distinct es ps h = walked allow m distinct es ps h start (nothing_seen m)
