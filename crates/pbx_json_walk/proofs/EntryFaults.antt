-- The first fault below an object of entries.
use Rattle.std.proofs.Common.{◌≡◌, ◌⊎◌, ◌∙◌, ℕ, ℤ, ◌&&◌, ◌||◌, List, [], ◌∷◌, ◌++◌, Bool, true, false, if◌then◌else◌, Option, Some, None, option_map, Result, Ok, Err, refl, ap, sym, subst, inl, inr, int_le}
use Rattle.std.specs.List.{list_any}
use Rattle.std.specs.Str.{bytes_eq}
use Rattle.std.specs.Prelude.{codes}
use Rattle.serde_json.specs.Data.{Data, Members, no_members, member, string}
use Rattle.serde_json.specs.Find.{get_member}
use Rattle.pbx_content.specs.Content.{Val, Key, truth_key, number_key}
use Rattle.pbx_content.specs.declared.shape.Kind.{Kind}
use Rattle.pbx_content.specs.declared.shape.Shape.{Shape}
use Rattle.pbx_json_meaning.specs.Asked.{Asked, one}
use Rattle.pbx_json_meaning.specs.Scalars.{key_read, key_of, family, Family, integers, truths, texts, bytes_texts, floats, messages, enums, if_ok, or_fault, in_range, decimal_of, integer_read, word_read}
use Rattle.pbx_json_meaning.specs.Stands.{is_there, is_alike}
use Rattle.pbx_json_meaning.specs.Faults.{Inside, keyed, into, IsKeyFault, KeyBreaks, FaultAt, SomeWith, lesser, is_second_alike, reads_alike}
use Rattle.pbx_json_meaning.specs.FirstFaults.{IsCleanAt, IsCleanBefore}
use Rattle.pbx_json_meaning.specs.declared.kind.JsonKind.{JsonKind}
use Rattle.pbx_json_meaning.specs.declared.kind.JsonKind.TheVariants as fault
use Rattle.pbx_json_meaning.specs.declared.place.Step.{Step}
use Rattle.pbx_json_meaning.specs.declared.place.Step.TheVariants.{Key as to_key, Index as to_index}
use Rattle.pbx_json_walk.specs.Walk.{Answer, Answers, Entries, no_entries, below, is_used, with_entry, unless_used, value_turn, entry_turn, walk_entries, and_then, at_step, or_here, answer_map, are_above, are_ascending, parts, answers}
use Rattle.pbx_json_walk.proofs.Faults.{Tells, StepFault, WalkTells}
use Rattle.pbx_json_walk.proofs.Keyed.{Walked, appended, appended_more, AreLess, less_more, above_first, above_rest, lesser_walked, get_next, EachOf, each_more, key_walked, key_before_next}
use Rattle.pbx_json_walk.proofs.Maps.{Seen, reads, AreBelow, NoneAlike, SomeAlike, Holds, below_more, alone, holds_more, nothing_read}

-- no key is refused as a duplicate by what it is alone
range_not : (min max z : ℤ) → in_range min max z ≡ Err fault.DuplicateKey → ⊥
range_not min max z h = at (int_le min z && int_le z max) h
  where
    at : (b : Bool) → (if b then Ok z else Err fault.Range) ≡ Err fault.DuplicateKey → ⊥
    at true e = cc
    at false e = cc

integer_not : (min max : ℤ) (s : List ℕ) → if_ok (integer_read min max (string s)) (λ z. Ok (number_key z)) ≡ Err fault.DuplicateKey → ⊥
integer_not min max s h = at (decimal_of min s) h
  where
    deep : (r : Result ℤ JsonKind) → (r ≡ Err fault.DuplicateKey → ⊥) → if_ok r (λ z. Ok (number_key z)) ≡ Err fault.DuplicateKey → ⊥
    deep (Ok z) n e = cc
    deep (Err k) n e = n (let same : k ≡ fault.DuplicateKey = cc in ap Err same)

    at : (o : Option ℤ) → if_ok (if_ok (or_fault fault.NotDecimal o) (in_range min max)) (λ z. Ok (number_key z)) ≡ Err fault.DuplicateKey → ⊥
    at None e = cc
    at (Some z) e = deep (in_range min max z) (range_not min max z) e

word_not : (s : List ℕ) → if_ok (word_read s) (λ b. Ok (truth_key b)) ≡ Err fault.DuplicateKey → ⊥
word_not s h = at (bytes_eq s (codes "true")) (bytes_eq s (codes "false")) h
  where
    at : (a b : Bool) → if_ok (if a then Ok true else if b then Ok false else Err fault.WrongKind) (λ b. Ok (truth_key b)) ≡ Err fault.DuplicateKey → ⊥
    at true b e = cc
    at false true e = cc
    at false false e = cc

key_not : (f : Family) (s : List ℕ) → key_of f s ≡ Err fault.DuplicateKey → ⊥
key_not (integers min max) s h = integer_not min max s h
key_not truths s h = word_not s h
key_not texts s h = cc
key_not bytes_texts s h = cc
key_not floats s h = cc
key_not (messages t) s h = cc
key_not (enums e) s h = cc

-- the same texts
abbrev Same : Walked → List Seen → Type 0
Same [] [] = Unit {0}
Same (m ∷ ds) (q ∷ qs) = (m.0 ≡ q.0) × Same ds qs
Same _ _ = ⊥

same_more : (ds : Walked) (qs : List Seen) (m : List ℕ × Data) (q : Seen) → Same ds qs → m.0 ≡ q.0 → Same (ds ++ m ∷ []) (qs ++ q ∷ [])
same_more [] [] m q h e = (e, tt)
same_more [] (x ∷ qs) m q h e = absurd h
same_more (x ∷ ds) [] m q h e = absurd h
same_more (x ∷ ds) (y ∷ qs) m q h e = (h.0, same_more ds qs m q h.1 e)

abbrev second : Kind → Walked → Result Key JsonKind → Bool
second kk ds r = list_any (λ m. reads_alike (key_read kk m.0) r) ds

alike_at : (kk : Kind) (m : List ℕ × Data) (q : Seen) (l : Key) → m.0 ≡ q.0 → key_read kk q.0 ≡ Ok q.1.0 → reads_alike (key_read kk m.0) (Ok l) ≡ is_alike q.1.0 l
alike_at kk m q l e r = ap (λ s. reads_alike (key_read kk s) (Ok l)) e ∙ ap (λ x. reads_alike x (Ok l)) r

some_second : (kk : Kind) (t : List ℕ) (l : Key) (ds : Walked) (qs : List Seen) → Same ds qs → AreBelow kk t qs → SomeAlike l (reads qs) → second kk ds (Ok l) ≡ true
some_second kk t l [] [] h b a = absurd a
some_second kk t l [] (q ∷ qs) h b a = absurd h
some_second kk t l (m ∷ ds) [] h b a = absurd h
some_second kk t l (m ∷ ds) (q ∷ qs) h b (inl a) = rw (alike_at kk m q l h.0 b.1 ∙ a) refl
some_second kk t l (m ∷ ds) (q ∷ qs) h b (inr a) = rw (some_second kk t l ds qs h.1 b.2 a) (or_true (reads_alike (key_read kk m.0) (Ok l)))
  where
    or_true : (b : Bool) → (b || true) ≡ true
    or_true true = refl
    or_true false = refl

none_second : (kk : Kind) (t : List ℕ) (l : Key) (ds : Walked) (qs : List Seen) → Same ds qs → AreBelow kk t qs → NoneAlike l (reads qs) → second kk ds (Ok l) ≡ false
none_second kk t l [] [] h b a = refl
none_second kk t l [] (q ∷ qs) h b a = absurd h
none_second kk t l (m ∷ ds) [] h b a = absurd h
none_second kk t l (m ∷ ds) (q ∷ qs) h b a = rw (alike_at kk m q l h.0 b.1 ∙ a.0, none_second kk t l ds qs h.1 b.2 a.1) refl

module _ (shape : Shape) (allow : Bool) (kk vk : Kind) (ms : Members) where
  abbrev inside : Inside
  inside = keyed kk vk ms

  index_clean : (i : ℕ) → IsCleanAt shape allow inside (to_index i)
  index_clean i q kind (inl h) = h
  index_clean i q kind (inr h) = h

  absent_clean : (k : List ℕ) → get_member k ms ≡ None → IsCleanAt shape allow inside (to_key k)
  absent_clean k e q kind (inl (a, b, c)) = absurd (let bad : is_there {X = Data} None ≡ true = ap is_there (sym e) ∙ b in cc)
  absent_clean k e q kind (inr h) = subst (λ y. SomeWith {X = Data × Asked} (option_map (λ d. (d, one vk)) y) (λ next. FaultAt shape allow q next.0 next.1 kind)) e h

  key_clean_if : (k : List ℕ) → ((d : Data) → get_member k ms ≡ Some d → IsCleanAt shape allow inside (to_key k)) → IsCleanAt shape allow inside (to_key k)
  key_clean_if k h = at (get_member k ms) refl
    where
      at : (g : Option Data) → get_member k ms ≡ g → IsCleanAt shape allow inside (to_key k)
      at None e = absent_clean k e
      at (Some d) e = h d e

  no_break : (k : List ℕ) (l : Key) → key_read kk k ≡ Ok l → is_second_alike kk ms k ≡ false → (kind : JsonKind) → KeyBreaks shape allow inside k kind → ⊥
  no_break k l read e fault.DuplicateKey h = let bad : true ≡ false = sym h ∙ e in absurd (cc)
  no_break k l read e _ h = absurd (cc (sym read ∙ h))

  breaks : (k : List ℕ) (x : JsonKind) → key_read kk k ≡ Err x → KeyBreaks shape allow inside k x
  breaks k fault.DuplicateKey e = absurd (key_not (family kk) k e)
  breaks k _ e = e

  abbrev CleanKey : List ℕ → Type 0
  CleanKey k = IsCleanAt shape allow inside (to_key k)

  -- one key
  module _ (ds : Walked) (qs : List Seen) (k : List ℕ) (d : Data) (r : Members) (split : ms ≡ appended ds (member k d r)) (less : AreLess k ds) (above : are_above k r ≡ true)
      (same : Same ds qs) (before : AreBelow kk k qs) (st : Entries) (holds : Holds kk qs st) where
    got_here : get_member k ms ≡ Some d
    got_here = ap (get_member k) split ∙ get_next ds k d r less

    there_here : is_there (get_member k ms) ≡ true
    there_here = ap is_there got_here

    into_here : into inside (to_key k) ≡ Some (d, one vk)
    into_here = ap (option_map {U = Data × Asked} (λ x. (x, one vk))) got_here

    second_is : is_second_alike kk ms k ≡ second kk ds (key_read kk k)
    second_is = ap (λ xs. list_any (λ m. reads_alike (key_read kk m.0) (key_read kk k)) xs) (ap (lesser k) split ∙ lesser_walked ds k d r less above)

    abbrev EntryTells : Answer Entries → Type 0
    EntryTells (Ok t) = CleanKey k × ((l : Key) × (o : Option Val) × (key_read kk k ≡ Ok l) × Holds kk (qs ++ (k, (l, o)) ∷ []) t)
    EntryTells (Err e) = (e.kind ≡ fault.NoMemory) ⊎ StepFault shape allow inside (to_key k) (below (to_key k) e)

    module _ (l : Key) (read : key_read kk k ≡ Ok l) where
      fresh_tells : is_used l st.numbers ≡ false → (a : Answer (Option Val)) → Tells shape allow d (one vk) a → EntryTells (answer_map (with_entry l st) a)
      fresh_tells free (Err e) (inl n) = inl n
      fresh_tells free (Err e) (inr first) = inr (inr (own_clean, ((d, one vk), into_here, (e.place, refl, first))))
        where
          own_clean : (q : List Step) (kind : JsonKind) → ¬ IsKeyFault shape allow inside (to_key k) q kind
          own_clean q kind h = no_break k l read (second_is ∙ ap (second kk ds) read ∙ none_second kk k l ds qs same before (alone kk k l None qs st read before holds free)) kind h.2
      fresh_tells free (Ok o) clean = (key_clean, (l, o, read, holds_more kk k l o qs st read before holds free))
        where
          key_clean : CleanKey k
          key_clean q kind (inl h) = no_break k l read (second_is ∙ ap (second kk ds) read ∙ none_second kk k l ds qs same before (alone kk k l o qs st read before holds free)) kind h.2
          key_clean q kind (inr h) = clean q kind (subst (λ x. SomeWith {X = Data × Asked} x (λ next. FaultAt shape allow q next.0 next.1 kind)) into_here h)

      used_tells : (answers : Answers) → Tells shape allow d (one vk) (answers (one vk)) → (b : Bool) → is_used l st.numbers ≡ b
          → EntryTells (and_then (or_here (if b then Err fault.DuplicateKey else Ok l)) (value_turn vk answers st))
      used_tells answers tell true e = inr (inl (refl, (refl, there_here, second_is ∙ ap (second kk ds) read ∙ some_second kk k l ds qs same before (holds.used l e))))
      used_tells answers tell false e = fresh_tells e (answers (one vk)) tell

    entry_tells : (answers : Answers) → Tells shape allow d (one vk) (answers (one vk)) → (x : Result Key JsonKind) → key_read kk k ≡ x
        → EntryTells (and_then (or_here (if_ok x (unless_used st))) (value_turn vk answers st))
    entry_tells answers tell (Err x) e = inr (inl (refl, (refl, there_here, breaks k x e)))
    entry_tells answers tell (Ok l) e = used_tells l e answers tell (is_used l st.numbers) refl

  -- ---- the walk

  abbrev Follows : Walked → List Seen → Members → Type 0
  Follows ds qs no_members = Unit {0}
  Follows ds qs (member k d r) = AreLess k ds × (are_above k r ≡ true) × AreBelow kk k qs

  abbrev pub EntriesTell : Members → Type 0
  EntriesTell no_members = Unit {0}
  EntriesTell (member k d r) = ((asked : Asked) → Tells shape allow d asked (answers shape allow d asked)) × EntriesTell r

  follows_more : (ds : Walked) (qs : List Seen) (k : List ℕ) (d : Data) (r : Members) (l : Key) (o : Option Val) → Follows ds qs (member k d r) → key_read kk k ≡ Ok l
      → Follows (ds ++ (k, d) ∷ []) (qs ++ (k, (l, o)) ∷ []) r
  follows_more ds qs k d no_members l o h read = tt
  follows_more ds qs k d (member m e r) l o h read =
      let lt = above_first k m e r h.1 in
      (less_more k m d ds h.0 lt, above_rest k m e r h.1, below_more kk k m qs (k, (l, o)) h.2 lt lt read)

  before_key : (ds : Walked) (k : List ℕ) (d : Data) (r : Members) → ms ≡ appended ds (member k d r) → are_above k r ≡ true → EachOf CleanKey ds → IsCleanBefore shape allow inside (to_key k)
  before_key ds k d r split above each (to_index i) lt = index_clean i
  before_key ds k d r split above each (to_key q) lt = key_clean_if q (λ x got. key_before_next CleanKey ds k d r q x each above lt (ap (get_member q) (sym split) ∙ got))

  module _ (k : List ℕ) (d : Data) (r : Members) (ds : Walked) (qs : List Seen) (split : ms ≡ appended ds (member k d r)) (less : AreLess k ds) (above : are_above k r ≡ true) (each : EachOf CleanKey ds)
      (same : Same ds qs) (before : AreBelow kk k qs) (st : Entries) (holds : Holds kk qs st)
      (ih : (t : Entries) (l : Key) (o : Option Val) → CleanKey k → key_read kk k ≡ Ok l → Holds kk (qs ++ (k, (l, o)) ∷ []) t → WalkTells shape allow inside (walk_entries kk vk (parts shape allow r) t)) where
    one_tells : (a : Answer Entries) → EntryTells ds qs k d r split less above same before st holds a
        → WalkTells shape allow inside (and_then (at_step (to_key k) a) (walk_entries kk vk (parts shape allow r)))
    one_tells (Ok t) h = ih t h.1.0 h.1.1 h.0 h.1.2 h.1.3
    one_tells (Err e) (inl n) = inl n
    one_tells (Err e) (inr f) = inr (to_key k, before_key ds k d r split above each, f)

  entries_walked : (r : Members) (ds : Walked) (qs : List Seen) (st : Entries) → ms ≡ appended ds r → Follows ds qs r → EachOf CleanKey ds → Same ds qs → Holds kk qs st → EntriesTell r
      → WalkTells shape allow inside (walk_entries kk vk (parts shape allow r) st)
  entries_walked no_members ds qs st split follows each same holds tell = by_step
    where
      by_step : (t : Step) → IsCleanAt shape allow inside t
      by_step (to_index i) = index_clean i
      by_step (to_key q) = key_clean_if q (λ x got. key_walked CleanKey ds q x each (ap (get_member q) (sym split) ∙ got))
  entries_walked (member k d r) ds qs st split follows each same holds tell =
      one_tells k d r ds qs split follows.0 follows.1 each same follows.2 st holds
      (λ t l o clean read more. entries_walked r (ds ++ (k, d) ∷ []) (qs ++ (k, (l, o)) ∷ []) t (split ∙ appended_more ds k d r) (follows_more ds qs k d r l o follows read)
      (each_more CleanKey ds k d each clean) (same_more ds qs (k, d) (k, (l, o)) same refl) more tell.1)
      (entry_turn kk vk k (answers shape allow d) st)
      (entry_tells ds qs k d r split follows.0 follows.1 same follows.2 st holds (answers shape allow d) (tell.0 (one vk)) (key_read kk k) refl)

  first_follows : (r : Members) → are_ascending r ≡ true → Follows [] [] r
  first_follows no_members h = tt
  first_follows (member k d r) h = (tt, h, tt)

  -- the members of a map
  pub entries_tell : are_ascending ms ≡ true → EntriesTell ms → WalkTells shape allow inside (walk_entries kk vk (parts shape allow ms) no_entries)
  entries_tell ascending tell = entries_walked ms [] [] no_entries refl (first_follows ms ascending) tt tt (nothing_read kk) tell
