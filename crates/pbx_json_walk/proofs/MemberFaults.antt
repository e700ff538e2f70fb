-- The first fault below an object of fields.
use Rattle.std.proofs.Common.{◌≡◌, ◌⊎◌, ◌∙◌, ℕ, ◌&&◌, ◌||◌, List, [], ◌∷◌, ◌++◌, Bool, true, false, ◌==◌, if◌then◌else◌, Option, Some, None, option_map, option_and_then, Ok, Err, refl, ap, sym, subst, inl, inr, arith}
use Rattle.std.specs.List.{list_any}
use Rattle.std.proofs.lemmas.List.Folds.{list_any-append}
use Rattle.std.proofs.lemmas.Bool.Decides.{nat_tests}
use Rattle.std.specs.BTreeSet.{contains}
use Rattle.std.specs.Ordering.{nat_cmp}
use Rattle.serde_json.specs.Data.{Data, Members, no_members, member}
use Rattle.serde_json.specs.Find.{get_member}
use Rattle.pbx_content.specs.Content.{Val}
use Rattle.pbx_content.specs.Shape.{same_oneof}
use Rattle.pbx_content.specs.declared.shape.Shape.{Shape}
use Rattle.pbx_content.specs.declared.shape.FieldShape.{FieldShape}
use Rattle.pbx_json_meaning.specs.Asked.{Asked, field}
use Rattle.pbx_json_meaning.specs.Names.{field_named}
use Rattle.pbx_json_meaning.specs.Stands.{said, is_there}
use Rattle.pbx_json_meaning.specs.Faults.{Inside, members, into, IsKeyFault, KeyBreaks, FaultAt, SomeWith, lesser, is_same_field, is_second_key, is_value, has_value, is_rival_with_value, is_second_member}
use Rattle.pbx_json_meaning.specs.FirstFaults.{IsCleanAt, IsCleanBefore}
use Rattle.pbx_json_meaning.specs.declared.kind.JsonKind.{JsonKind}
use Rattle.pbx_json_meaning.specs.declared.kind.JsonKind.TheVariants as fault
use Rattle.pbx_json_meaning.specs.declared.place.Step.{Step}
use Rattle.pbx_json_meaning.specs.declared.place.Step.TheVariants.{Key as to_key, Index as to_index}
use Rattle.pbx_json_walk.specs.Walk.{Answer, Answers, State, start, below, with_number, with_oneof, with_found, is_taken, noted, field_turn, turn, walk, and_then, at_step, or_here, here, are_above, are_ascending, parts, answers}
use Rattle.pbx_json_walk.proofs.Agree.{Agrees}
use Rattle.pbx_json_walk.proofs.Tests.{put_in}
use Rattle.pbx_json_walk.proofs.Faults.{IsClean, Tells, StepFault, WalkTells}
use Rattle.pbx_json_walk.proofs.Keyed.{Walked, appended, appended_more, AreLess, less_more, above_first, above_rest, lesser_walked, get_next, EachOf, each_more, key_walked, key_before_next}

module _ (shape : Shape) (allow skips : Bool) (fs : List FieldShape) (ms : Members) where
  abbrev inside : Inside
  inside = members skips fs ms

  index_clean : (i : ℕ) → IsCleanAt shape allow inside (to_index i)
  index_clean i q kind (inl h) = h
  index_clean i q kind (inr h) = h

  -- a key that is not there
  absent_clean : (k : List ℕ) → get_member k ms ≡ None → IsCleanAt shape allow inside (to_key k)
  absent_clean k e q kind (inl (a, b, c)) = absurd (let bad : is_there {X = Data} None ≡ true = ap is_there (sym e) ∙ b in cc)
  absent_clean k e q kind (inr h) = at (field_named k fs) (get_member k ms) e h
    where
      at : (o : Option FieldShape) (g : Option Data) → g ≡ None
          → SomeWith {X = Data × Asked} (option_and_then (λ f. option_map (λ d. (d, field f)) g) o) (λ next. FaultAt shape allow q next.0 next.1 kind) → ⊥
      at None g z x = x
      at (Some f) g z x = subst (λ y. SomeWith {X = Data × Asked} (option_map (λ d. (d, field f)) y) (λ next. FaultAt shape allow q next.0 next.1 kind)) z x

  key_clean_if : (k : List ℕ) → ((d : Data) → get_member k ms ≡ Some d → IsCleanAt shape allow inside (to_key k)) → IsCleanAt shape allow inside (to_key k)
  key_clean_if k h = at (get_member k ms) refl
    where
      at : (g : Option Data) → get_member k ms ≡ g → IsCleanAt shape allow inside (to_key k)
      at None e = absent_clean k e
      at (Some d) e = h d e

  -- no rule is broken by the key itself
  record NoBreak (k : List ℕ) : Type 0 where
    known : field_named k fs ≡ None → skips ≡ false → ⊥
    first : is_second_key fs ms k ≡ false
    alone : is_second_member shape allow fs ms k (field_named k fs) (get_member k ms) ≡ false

  no_break : (k : List ℕ) → NoBreak k → (kind : JsonKind) → KeyBreaks shape allow inside k kind → ⊥
  no_break k n fault.UnknownField h = n.known h.0 h.1
  no_break k n fault.DuplicateField h = let bad : true ≡ false = sym h ∙ n.first in absurd (cc)
  no_break k n fault.OneofTwice h = let bad : true ≡ false = sym h ∙ n.alone in absurd (cc)
  no_break k n _ h = h

  own_clean : (k : List ℕ) → NoBreak k → (q : List Step) (kind : JsonKind) → ¬ IsKeyFault shape allow inside (to_key k) q kind
  own_clean k n q kind h = no_break k n kind h.2

  -- ---- sets of what was walked

  abbrev names : ℕ → Option FieldShape → Bool
  names n None = false
  names n (Some g) = g.number == n

  abbrev takes : ℕ → Data → Option FieldShape → Bool
  takes o d None = false
  takes o d (Some g) = same_oneof (Some o) g.oneof && has_value shape allow d g

  record Knows (ds : Walked) (s : State) : Type 0 where
    sees : (n : ℕ) → contains nat_cmp s.seen n ≡ list_any (λ m. names n (field_named m.0 fs)) ds
    holds : (o : ℕ) → contains nat_cmp s.taken o ≡ list_any (λ m. takes o m.1 (field_named m.0 fs)) ds

  any_same : {X : Type 0} (p q : X → Bool) (xs : List X) → ((x : X) → p x ≡ q x) → list_any p xs ≡ list_any q xs
  any_same p q [] h = refl
  any_same p q (x ∷ xs) h = rw (h x, any_same p q xs h) refl

  any_false : {X : Type 0} (xs : List X) → list_any (λ x. false) xs ≡ false
  any_false [] = refl
  any_false (x ∷ xs) = any_false xs

  same_is : (g : FieldShape) (o : Option FieldShape) → is_same_field o (Some g) ≡ names g.number o
  same_is g None = refl
  same_is g (Some f) = refl

  same_none : (o : Option FieldShape) → is_same_field o None ≡ false
  same_none None = refl
  same_none (Some f) = refl

  abbrev rival_by : Option ℕ → Data → Option FieldShape → Bool
  rival_by None d o = false
  rival_by (Some x) d o = takes x d o

  -- a field that no key named yet: its rivals are those that took its oneof
  rival_is : (g : FieldShape) (d : Data) (o : Option FieldShape) → names g.number o ≡ false → is_rival_with_value shape allow g d o ≡ rival_by g.oneof d o
  rival_is g d None h = at g.oneof
    where
      at : (q : Option ℕ) → false ≡ rival_by q d None
      at None = refl
      at (Some x) = refl
  rival_is g d (Some f) h =
      let other : (g.number == f.number) ≡ false = grind (arith, nat_tests) in
      rw other (at g.oneof (has_value shape allow d f) refl)
    where
      and_true : (a b : Bool) → ((a && true) && b) ≡ (a && b)
      and_true true b = refl
      and_true false b = refl

      at : (q : Option ℕ) (b : Bool) → b ≡ has_value shape allow d f → ((same_oneof q f.oneof && true) && b) ≡ rival_by q d (Some f)
      at None b e = refl
      at (Some x) b e = and_true (same_oneof (Some x) f.oneof) b ∙ ap (λ c. same_oneof (Some x) f.oneof && c) e

  rivals_are : (g : FieldShape) (ds : Walked) → list_any (λ m. names g.number (field_named m.0 fs)) ds ≡ false
      → list_any (λ m. is_rival_with_value shape allow g m.1 (field_named m.0 fs)) ds ≡ list_any (λ m. rival_by g.oneof m.1 (field_named m.0 fs)) ds
  rivals_are g [] h = refl
  rivals_are g (m ∷ ds) h = at (names g.number (field_named m.0 fs)) refl h (rivals_are g ds)
    where
      at : (b : Bool) → names g.number (field_named m.0 fs) ≡ b → (b || list_any (λ m. names g.number (field_named m.0 fs)) ds) ≡ false
          → (list_any (λ m. names g.number (field_named m.0 fs)) ds ≡ false
          → list_any (λ m. is_rival_with_value shape allow g m.1 (field_named m.0 fs)) ds ≡ list_any (λ m. rival_by g.oneof m.1 (field_named m.0 fs)) ds)
          → (is_rival_with_value shape allow g m.1 (field_named m.0 fs) || list_any (λ m. is_rival_with_value shape allow g m.1 (field_named m.0 fs)) ds)
          ≡ (rival_by g.oneof m.1 (field_named m.0 fs) || list_any (λ m. rival_by g.oneof m.1 (field_named m.0 fs)) ds)
      at true e k ih = absurd (cc)
      at false e k ih = rw (rival_is g m.1 (field_named m.0 fs) e, ih k) refl

  taken_is : (g : FieldShape) (ds : Walked) (s : State) → Knows ds s → contains nat_cmp s.seen g.number ≡ false
      → list_any (λ m. is_rival_with_value shape allow g m.1 (field_named m.0 fs)) ds ≡ is_taken g.oneof s.taken
  taken_is g ds s k new = rivals_are g ds (sym (k.sees g.number) ∙ new) ∙ at g.oneof
    where
      at : (q : Option ℕ) → list_any (λ m. rival_by q m.1 (field_named m.0 fs)) ds ≡ is_taken q s.taken
      at None = any_false ds
      at (Some o) = sym (k.holds o)

  or_false : (b : Bool) → (b || false) ≡ b
  or_false true = refl
  or_false false = refl

  or_back : (a b : Bool) → (a || b) ≡ (b || a)
  or_back true true = refl
  or_back true false = refl
  or_back false true = refl
  or_back false false = refl

  any_one_more : (p : List ℕ × Data → Bool) (ds : Walked) (x : List ℕ × Data) (b : Bool) → p x ≡ b → list_any p (ds ++ x ∷ []) ≡ (list_any p ds || b)
  any_one_more p ds x b e = list_any-append p ds (x ∷ []) ∙ ap (λ c. list_any p ds || c) (or_false (p x) ∙ e)

  -- one key
  module _ (ds : Walked) (k : List ℕ) (d : Data) (r : Members) (split : ms ≡ appended ds (member k d r)) (less : AreLess k ds) (above : are_above k r ≡ true)
      (s : State) (knows : Knows ds s) where
    lesser_here : lesser k ms ≡ ds
    lesser_here = ap (lesser k) split ∙ lesser_walked ds k d r less above

    got_here : get_member k ms ≡ Some d
    got_here = ap (get_member k) split ∙ get_next ds k d r less

    there_here : is_there (get_member k ms) ≡ true
    there_here = ap is_there got_here

    abbrev KeyTells : Answer State → Type 0
    KeyTells (Ok t) = IsCleanAt shape allow inside (to_key k) × Knows (ds ++ (k, d) ∷ []) t
    KeyTells (Err e) = (e.kind ≡ fault.NoMemory) ⊎ StepFault shape allow inside (to_key k) (below (to_key k) e)

    -- a key that names nothing
    module _ (named : field_named k fs ≡ None) where
      none_into : into inside (to_key k) ≡ None
      none_into = ap (λ o. option_and_then {U = Data × Asked} (λ f. option_map (λ x. (x, field f)) (get_member k ms)) o) named

      none_clean : skips ≡ true → IsCleanAt shape allow inside (to_key k)
      none_clean sure q kind (inl h) = own_clean k no q kind h
        where
          no : NoBreak k
          no = record {
            known = λ e f. let bad : true ≡ false = sym sure ∙ f in absurd (cc);
            first = ap (λ o. list_any (λ m. is_same_field (field_named m.0 fs) o) (lesser k ms)) named
                ∙ any_same _ _ (lesser k ms) (λ m. same_none (field_named m.0 fs)) ∙ any_false (lesser k ms);
            alone = ap (λ o. is_second_member shape allow fs ms k o (get_member k ms)) named;
          }
      none_clean sure q kind (inr h) = subst (λ o. SomeWith {X = Data × Asked} o (λ next. FaultAt shape allow q next.0 next.1 kind)) none_into h

      none_knows : Knows (ds ++ (k, d) ∷ []) s
      none_knows = record {
        sees = λ n. knows.sees n ∙ sym (any_one_more (λ m. names n (field_named m.0 fs)) ds (k, d) false (ap (names n) named) ∙ or_false (list_any (λ m. names n (field_named m.0 fs)) ds));
        holds = λ o. knows.holds o ∙ sym (any_one_more (λ m. takes o m.1 (field_named m.0 fs)) ds (k, d) false (ap (takes o d) named)
            ∙ or_false (list_any (λ m. takes o m.1 (field_named m.0 fs)) ds));
      }

      none_tells : (answers : Answers) (b : Bool) → skips ≡ b → KeyTells (and_then (or_here (if b then Ok None else Err fault.UnknownField)) (field_turn answers s))
      none_tells answers true e = (none_clean e, none_knows)
      none_tells answers false e = inr (inl (refl, (refl, there_here, (named, e))))

    -- a key that names a field
    module _ (g : FieldShape) (named : field_named k fs ≡ Some g) where
      some_into : into inside (to_key k) ≡ Some (d, field g)
      some_into =
          ap (λ o. option_and_then {U = Data × Asked} (λ f. option_map (λ x. (x, field f)) (get_member k ms)) o) named
          ∙ ap (λ o. option_map {U = Data × Asked} (λ x. (x, field g)) o) got_here

      second_is : is_second_key fs ms k ≡ contains nat_cmp s.seen g.number
      second_is =
          ap (λ o. list_any (λ m. is_same_field (field_named m.0 fs) o) (lesser k ms)) named
          ∙ ap (λ xs. list_any (λ m. is_same_field (field_named m.0 fs) (Some g)) xs) lesser_here
          ∙ any_same _ _ ds (λ m. same_is g (field_named m.0 fs)) ∙ sym (knows.sees g.number)

      module _ (new : contains nat_cmp s.seen g.number ≡ false) where
        member_is : is_second_member shape allow fs ms k (field_named k fs) (get_member k ms) ≡ (has_value shape allow d g && is_taken g.oneof s.taken)
        member_is =
            ap (λ o. is_second_member shape allow fs ms k o (get_member k ms)) named
            ∙ ap (λ x. is_second_member shape allow fs ms k (Some g) x) got_here
            ∙ ap (λ xs. has_value shape allow d g && list_any (λ m. is_rival_with_value shape allow g m.1 (field_named m.0 fs)) xs) lesser_here
            ∙ ap (λ b. has_value shape allow d g && b) (taken_is g ds s knows new)

        unbroken : (has_value shape allow d g && is_taken g.oneof s.taken) ≡ false → NoBreak k
        unbroken e = record {
          known = λ n f. let bad : None ≡ Some g = sym n ∙ named in absurd (cc);
          first = second_is ∙ new;
          alone = member_is ∙ e;
        }

        some_clean : (has_value shape allow d g && is_taken g.oneof s.taken) ≡ false → IsClean shape allow d (field g) → IsCleanAt shape allow inside (to_key k)
        some_clean e c q kind (inl h) = own_clean k (unbroken e) q kind h
        some_clean e c q kind (inr h) = c q kind (subst (λ o. SomeWith {X = Data × Asked} o (λ next. FaultAt shape allow q next.0 next.1 kind)) some_into h)

        sees_more : (n : ℕ) → contains nat_cmp (with_number g.number s.seen) n ≡ list_any (λ m. names n (field_named m.0 fs)) (ds ++ (k, d) ∷ [])
        sees_more n =
            put_in s.seen.keys g.number n ∙ or_back (g.number == n) (contains nat_cmp s.seen n) ∙ ap (λ b. b || (g.number == n)) (knows.sees n)
            ∙ sym (any_one_more (λ m. names n (field_named m.0 fs)) ds (k, d) (g.number == n) (ap (names n) named))

        -- what the oneof of the field adds
        added_is : (q : Option ℕ) (o : ℕ) → contains nat_cmp (with_oneof q s.taken) o ≡ (contains nat_cmp s.taken o || same_oneof (Some o) q)
        added_is None o = sym (or_false (contains nat_cmp s.taken o))
        added_is (Some x) o = put_in s.taken.keys x o ∙ or_back (x == o) (contains nat_cmp s.taken o) ∙ ap (λ b. contains nat_cmp s.taken o || b) (turn_eq x o)
          where
            turn_eq : (a b : ℕ) → (a == b) ≡ (b == a)
            turn_eq a b = grind (arith, nat_tests)

        no_value_knows : has_value shape allow d g ≡ false
            → Knows (ds ++ (k, d) ∷ []) (record { seen = with_number g.number s.seen; taken = s.taken; found = s.found })
        no_value_knows e = record {
          sees = sees_more;
          holds = λ o. knows.holds o ∙ sym (any_one_more (λ m. takes o m.1 (field_named m.0 fs)) ds (k, d) false
              (ap (takes o d) named ∙ ap (λ b. same_oneof (Some o) g.oneof && b) e ∙ and_false (same_oneof (Some o) g.oneof)) ∙ or_false (list_any (λ m. takes o m.1 (field_named m.0 fs)) ds));
        }
          where
            and_false : (b : Bool) → (b && false) ≡ false
            and_false true = refl
            and_false false = refl

        value_knows : (v : Val) → has_value shape allow d g ≡ true
            → Knows (ds ++ (k, d) ∷ []) (record { seen = with_number g.number s.seen; taken = with_oneof g.oneof s.taken; found = with_found g.number v s.found })
        value_knows v e = record {
          sees = sees_more;
          holds = λ o. added_is g.oneof o ∙ ap (λ b. b || same_oneof (Some o) g.oneof) (knows.holds o)
              ∙ sym (any_one_more (λ m. takes o m.1 (field_named m.0 fs)) ds (k, d) (same_oneof (Some o) g.oneof)
              (ap (takes o d) named ∙ ap (λ b. same_oneof (Some o) g.oneof && b) e ∙ and_true (same_oneof (Some o) g.oneof)));
        }
          where
            and_true : (b : Bool) → (b && true) ≡ b
            and_true true = refl
            and_true false = refl

        value_tells : (v : Val) → said shape allow d (field g) ≡ Some (Some v) → IsClean shape allow d (field g) → (b : Bool) → is_taken g.oneof s.taken ≡ b
            → KeyTells (if b then here fault.OneofTwice else Ok (record { seen = with_number g.number s.seen; taken = with_oneof g.oneof s.taken; found = with_found g.number v s.found }))
        value_tells v says clean true e =
            let has : has_value shape allow d g ≡ true = ap is_value says in
            inr (inl (refl, (refl, there_here, member_is ∙ rw (has, e) refl)))
        value_tells v says clean false e =
            let has : has_value shape allow d g ≡ true = ap is_value says in
            (some_clean (rw (has, e) refl) clean, value_knows v has)

        answer_tells : (a : Answer (Option Val)) → Agrees (said shape allow d (field g)) a → Tells shape allow d (field g) a → KeyTells (and_then a (noted g s))
        answer_tells (Err e) (inl n) t = inl n
        answer_tells (Err e) (inr none) (inl n) = inl n
        answer_tells (Err e) (inr none) (inr first) =
            let has : has_value shape allow d g ≡ false = ap is_value none in
            inr (inr (own_clean k (unbroken (rw has refl)), ((d, field g), some_into, (e.place, refl, first))))
        answer_tells (Ok None) says clean =
            let has : has_value shape allow d g ≡ false = ap is_value says in
            (some_clean (rw has refl) clean, no_value_knows has)
        answer_tells (Ok (Some v)) says clean = value_tells v says clean (is_taken g.oneof s.taken) refl

      some_tells : (answers : Answers) → Agrees (said shape allow d (field g)) (answers (field g)) → Tells shape allow d (field g) (answers (field g))
          → (b : Bool) → contains nat_cmp s.seen g.number ≡ b → KeyTells (and_then (or_here (if b then Err fault.DuplicateField else Ok (Some g))) (field_turn answers s))
      some_tells answers agree tell true e = inr (inl (refl, (refl, there_here, second_is ∙ e)))
      some_tells answers agree tell false e = answer_tells e (answers (field g)) agree tell

    key_tells : (answers : Answers) → ((asked : Asked) → Agrees (said shape allow d asked) (answers asked)) → ((asked : Asked) → Tells shape allow d asked (answers asked))
        → (o : Option FieldShape) → field_named k fs ≡ o → KeyTells (turn skips o answers s)
    key_tells answers agree tell None e = none_tells e answers skips refl
    key_tells answers agree tell (Some g) e = some_tells g e answers (agree (field g)) (tell (field g)) (contains nat_cmp s.seen g.number) refl

  -- ---- the walk

  abbrev CleanKey : List ℕ → Type 0
  CleanKey k = IsCleanAt shape allow inside (to_key k)

  abbrev Follows : Walked → Members → Type 0
  Follows ds no_members = Unit {0}
  Follows ds (member k d r) = AreLess k ds × (are_above k r ≡ true)

  abbrev pub MembersTell : Members → Type 0
  MembersTell no_members = Unit {0}
  MembersTell (member k d r) =
      ((asked : Asked) → Agrees (said shape allow d asked) (answers shape allow d asked)) × ((asked : Asked) → Tells shape allow d asked (answers shape allow d asked)) × MembersTell r

  follows_more : (ds : Walked) (k : List ℕ) (d : Data) (r : Members) → Follows ds (member k d r) → Follows (ds ++ (k, d) ∷ []) r
  follows_more ds k d no_members h = tt
  follows_more ds k d (member l e r) h = (less_more k l d ds h.0 (above_first k l e r h.1), above_rest k l e r h.1)

  before_key : (ds : Walked) (k : List ℕ) (d : Data) (r : Members) → ms ≡ appended ds (member k d r) → are_above k r ≡ true → EachOf CleanKey ds → IsCleanBefore shape allow inside (to_key k)
  before_key ds k d r split above each (to_index i) lt = index_clean i
  before_key ds k d r split above each (to_key q) lt = key_clean_if q (λ x got. key_before_next CleanKey ds k d r q x each above lt (ap (get_member q) (sym split) ∙ got))

  module _ (k : List ℕ) (d : Data) (r : Members) (ds : Walked) (split : ms ≡ appended ds (member k d r)) (less : AreLess k ds) (above : are_above k r ≡ true) (each : EachOf CleanKey ds)
      (ih : (t : State) → CleanKey k → Knows (ds ++ (k, d) ∷ []) t → WalkTells shape allow inside (walk skips fs (parts shape allow r) t)) (s : State) (knows : Knows ds s) where
    member_tells : (a : Answer State) → KeyTells ds k d r split less above s knows a → WalkTells shape allow inside (and_then (at_step (to_key k) a) (walk skips fs (parts shape allow r)))
    member_tells (Ok t) h = ih t h.0 h.1
    member_tells (Err e) (inl n) = inl n
    member_tells (Err e) (inr f) = inr (to_key k, before_key ds k d r split above each, f)

  members_walked : (r : Members) (ds : Walked) (s : State) → ms ≡ appended ds r → Follows ds r → EachOf CleanKey ds → Knows ds s → MembersTell r
      → WalkTells shape allow inside (walk skips fs (parts shape allow r) s)
  members_walked no_members ds s split follows each knows tell = by_step
    where
      by_step : (t : Step) → IsCleanAt shape allow inside t
      by_step (to_index i) = index_clean i
      by_step (to_key q) = key_clean_if q (λ x got. key_walked CleanKey ds q x each (ap (get_member q) (sym split) ∙ got))
  members_walked (member k d r) ds s split follows each knows tell =
      member_tells k d r ds split follows.0 follows.1 each
      (λ t clean more. members_walked r (ds ++ (k, d) ∷ []) t (split ∙ appended_more ds k d r) (follows_more ds k d r follows) (each_more CleanKey ds k d each clean) more tell.2)
      s knows (turn skips (field_named k fs) (answers shape allow d) s)
      (key_tells ds k d r split follows.0 follows.1 s knows (answers shape allow d) tell.0 tell.1 (field_named k fs) refl)

  knows_start : Knows [] start
  knows_start = record { sees = λ n. refl; holds = λ o. refl }

  first_follows : (r : Members) → are_ascending r ≡ true → Follows [] r
  first_follows no_members h = tt
  first_follows (member k d r) h = (tt, h)

  -- the members of a message
  pub members_tell : are_ascending ms ≡ true → MembersTell ms → WalkTells shape allow inside (walk skips fs (parts shape allow ms) start)
  members_tell ascending tell = members_walked ms [] start refl (first_follows ms ascending) tt knows_start tell
