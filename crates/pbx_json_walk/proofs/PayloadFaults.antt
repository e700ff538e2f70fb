-- The first fault below the object of an `Any` whose payload stands under `value`.
use Rattle.std.proofs.Common.{◌≡◌, ◌⊎◌, ◌∙◌, ℕ, ◌||◌, List, [], ◌∷◌, ◌++◌, Bool, true, false, if◌then◌else◌, Option, Some, None, option_map, Ok, Err, refl, ap, sym, subst, inl, inr}
use Rattle.std.specs.Prelude.{codes}
use Rattle.std.specs.FinMap.{nat_cmp-IsAntisymmetric, slice_cmp-IsAntisymmetric}
use Rattle.std.specs.Ordering.{nat_cmp, match_ordering}
use Rattle.std.specs.Cmp.Lexicographic.{slice_cmp}
use Rattle.std.specs.declared.cmp.Ordering.{Ordering}
use Rattle.std.specs.declared.cmp.Ordering.TheVariants.{Less, Equal, Greater}
use Rattle.serde_json.specs.Data.{Data, null, boolean, number, string, array, object, Members, no_members, member}
use Rattle.serde_json.specs.Find.{get_member}
use Rattle.pbx_content.specs.Content.{Val, Content}
use Rattle.pbx_content.specs.declared.shape.Kind.{Kind}
use Rattle.pbx_content.specs.declared.shape.Kind.TheVariants as kind
use Rattle.pbx_content.specs.declared.shape.Shape.{Shape}
use Rattle.pbx_json_meaning.specs.Asked.{Asked, one}
use Rattle.pbx_json_meaning.specs.Urls.{is_type_key, is_value_key, is_type_or_value}
use Rattle.pbx_json_meaning.specs.Stands.{is_there}
use Rattle.pbx_json_meaning.specs.Faults.{Inside, payload, into, IsKeyFault, KeyBreaks, FaultAt, SomeWith}
use Rattle.pbx_json_meaning.specs.FirstFaults.{IsCleanAt, IsCleanBefore}
use Rattle.pbx_json_meaning.specs.declared.kind.JsonKind.{JsonKind}
use Rattle.pbx_json_meaning.specs.declared.kind.JsonKind.TheVariants as fault
use Rattle.pbx_json_meaning.specs.declared.place.Step.{Step}
use Rattle.pbx_json_meaning.specs.declared.place.Step.TheVariants.{Key as to_key, Index as to_index}
use Rattle.pbx_json_walk.specs.Walk.{Answer, Answers, below, here, and_then, at_step, answer_map, as_value, shown_as, message_answer, elements_in, parts_in, are_above, are_ascending, parts, answers}
use Rattle.pbx_json_walk.specs.Walk.{message_found, payload_turn, walk_payload, payload_found}
use Rattle.pbx_json_walk.proofs.Faults.{Tells, StepFault, WalkTells}
use Rattle.pbx_json_walk.proofs.Keyed.{Walked, appended, appended_more, AreLess, less_more, above_first, above_rest, get_next, EachOf, each_more, key_walked, key_before_next}
use Rattle.pbx_json_walk.proofs.Payload.{type_no_value}

module _ (shape : Shape) (allow skips : Bool) (pk : Kind) (ms : Members) where
  abbrev inside : Inside
  inside = payload skips pk ms

  index_clean : (i : ℕ) → IsCleanAt shape allow inside (to_index i)
  index_clean i q kind (inl h) = h
  index_clean i q kind (inr h) = h

  -- what is read at a key that is no `value`, or not there
  nothing_in : (k : List ℕ) (b : Bool) (o : Option Data) → (b ≡ false) ⊎ (o ≡ None) → (q : List Step) (kind : JsonKind)
      → SomeWith {X = Data × Asked} (if b then option_map (λ d. (d, one pk)) o else None) (λ next. FaultAt shape allow q next.0 next.1 kind) → ⊥
  nothing_in k true o (inl e) q kind h = absurd (cc e)
  nothing_in k true o (inr e) q kind h = subst (λ y. SomeWith {X = Data × Asked} (option_map (λ d. (d, one pk)) y) (λ next. FaultAt shape allow q next.0 next.1 kind)) e h
  nothing_in k false o e q kind h = h

  absent_clean : (k : List ℕ) → get_member k ms ≡ None → IsCleanAt shape allow inside (to_key k)
  absent_clean k e q kind (inl (a, b, c)) = absurd (let bad : is_there {X = Data} None ≡ true = ap is_there (sym e) ∙ b in cc)
  absent_clean k e q kind (inr h) = nothing_in k (is_value_key k) (get_member k ms) (inr e) q kind h

  key_clean_if : (k : List ℕ) → ((d : Data) → get_member k ms ≡ Some d → IsCleanAt shape allow inside (to_key k)) → IsCleanAt shape allow inside (to_key k)
  key_clean_if k h = at (get_member k ms) refl
    where
      at : (g : Option Data) → get_member k ms ≡ g → IsCleanAt shape allow inside (to_key k)
      at None e = absent_clean k e
      at (Some d) e = h d e

  -- a key that may stand here, or that is skipped, breaks no rule
  no_break : (k : List ℕ) → (is_type_or_value k ≡ true) ⊎ (skips ≡ true) → (kind : JsonKind) → KeyBreaks shape allow inside k kind → ⊥
  no_break k (inl e) fault.UnknownField h = let bad : true ≡ false = sym e ∙ h.0 in absurd (cc)
  no_break k (inr e) fault.UnknownField h = let bad : true ≡ false = sym e ∙ h.1 in absurd (cc)
  no_break k e _ h = h

  abbrev CleanKey : List ℕ → Type 0
  CleanKey k = IsCleanAt shape allow inside (to_key k)

  -- one key
  module _ (ds : Walked) (k : List ℕ) (d : Data) (r : Members) (split : ms ≡ appended ds (member k d r)) (less : AreLess k ds) where
    got_here : get_member k ms ≡ Some d
    got_here = ap (get_member k) split ∙ get_next ds k d r less

    there_here : is_there (get_member k ms) ≡ true
    there_here = ap is_there got_here

    abbrev KeyTells : Answer (Option Content) → Type 0
    KeyTells (Ok x) = CleanKey k
    KeyTells (Err e) = (e.kind ≡ fault.NoMemory) ⊎ StepFault shape allow inside (to_key k) (below (to_key k) e)

    passed_clean : is_value_key k ≡ false → (is_type_or_value k ≡ true) ⊎ (skips ≡ true) → CleanKey k
    passed_clean other may q kind (inl h) = no_break k may kind h.2
    passed_clean other may q kind (inr h) = nothing_in k (is_value_key k) (get_member k ms) (inl other) q kind h

    module _ (is : is_value_key k ≡ true) (may : is_type_or_value k ≡ true) where
      value_into : into inside (to_key k) ≡ Some (d, one pk)
      value_into =
          ap (λ b. if b then option_map {U = Data × Asked} (λ x. (x, one pk)) (get_member k ms) else None) is
          ∙ ap (option_map {U = Data × Asked} (λ x. (x, one pk))) got_here

      own_clean : (q : List Step) (kind : JsonKind) → ¬ IsKeyFault shape allow inside (to_key k) q kind
      own_clean q kind h = no_break k (inl may) kind h.2

      value_tells : (a : Answer (Option Val)) → Tells shape allow d (one pk) a → KeyTells (answer_map message_found a)
      value_tells (Err e) (inl n) = inl n
      value_tells (Err e) (inr first) = inr (inr (own_clean, ((d, one pk), value_into, (e.place, refl, first))))
      value_tells (Ok o) clean = value_clean
        where
          value_clean : CleanKey k
          value_clean q kind (inl h) = own_clean q kind h
          value_clean q kind (inr h) = clean q kind (subst (λ x. SomeWith {X = Data × Asked} x (λ next. FaultAt shape allow q next.0 next.1 kind)) value_into h)

    other_tells : (found : Option Content) → is_type_or_value k ≡ false → is_value_key k ≡ false → (c : Bool) → skips ≡ c
        → KeyTells (if c then Ok found else here fault.UnknownField)
    other_tells found other own true sure = passed_clean own (inr sure)
    other_tells found other own false sure = inr (inl (refl, (refl, there_here, (other, sure))))

    key_tells : (answers : Answers) → Tells shape allow d (one pk) (answers (one pk)) → (found : Option Content) (a b : Bool) → is_type_key k ≡ a → is_value_key k ≡ b
        → KeyTells (if a then Ok found else if b then answer_map message_found (answers (one pk)) else if skips then Ok found else here fault.UnknownField)
    key_tells answers tell found true b ia ib = passed_clean (type_no_value k ia) (inl (ap (λ x. x || is_value_key k) ia))
    key_tells answers tell found false true ia ib = value_tells ib (ap (λ x. x || is_value_key k) ia ∙ ib) (answers (one pk)) tell
    key_tells answers tell found false false ia ib = other_tells found (ap (λ x. x || is_value_key k) ia ∙ ib) ib skips refl

  -- ---- the walk

  abbrev Follows : Walked → Members → Type 0
  Follows ds no_members = Unit {0}
  Follows ds (member k d r) = AreLess k ds × (are_above k r ≡ true)

  abbrev pub PayloadTell : Members → Type 0
  PayloadTell no_members = Unit {0}
  PayloadTell (member k d r) = ((asked : Asked) → Tells shape allow d asked (answers shape allow d asked)) × PayloadTell r

  follows_more : (ds : Walked) (k : List ℕ) (d : Data) (r : Members) → Follows ds (member k d r) → Follows (ds ++ (k, d) ∷ []) r
  follows_more ds k d no_members h = tt
  follows_more ds k d (member l e r) h = (less_more k l d ds h.0 (above_first k l e r h.1), above_rest k l e r h.1)

  before_key : (ds : Walked) (k : List ℕ) (d : Data) (r : Members) → ms ≡ appended ds (member k d r) → are_above k r ≡ true → EachOf CleanKey ds → IsCleanBefore shape allow inside (to_key k)
  before_key ds k d r split above each (to_index i) lt = index_clean i
  before_key ds k d r split above each (to_key q) lt = key_clean_if q (λ x got. key_before_next CleanKey ds k d r q x each above lt (ap (get_member q) (sym split) ∙ got))

  module _ (k : List ℕ) (d : Data) (r : Members) (ds : Walked) (split : ms ≡ appended ds (member k d r)) (less : AreLess k ds) (above : are_above k r ≡ true) (each : EachOf CleanKey ds)
      (ih : (found : Option Content) → CleanKey k → WalkTells shape allow inside (walk_payload skips pk (parts shape allow r) found)) where
    one_tells : (a : Answer (Option Content)) → KeyTells ds k d r split less a → WalkTells shape allow inside (and_then (at_step (to_key k) a) (walk_payload skips pk (parts shape allow r)))
    one_tells (Ok x) h = ih x h
    one_tells (Err e) (inl n) = inl n
    one_tells (Err e) (inr f) = inr (to_key k, before_key ds k d r split above each, f)

  payload_walked : (r : Members) (ds : Walked) (found : Option Content) → ms ≡ appended ds r → Follows ds r → EachOf CleanKey ds → PayloadTell r
      → WalkTells shape allow inside (walk_payload skips pk (parts shape allow r) found)
  payload_walked no_members ds found split follows each tell = by_step
    where
      by_step : (t : Step) → IsCleanAt shape allow inside t
      by_step (to_index i) = index_clean i
      by_step (to_key q) = key_clean_if q (λ x got. key_walked CleanKey ds q x each (ap (get_member q) (sym split) ∙ got))
  payload_walked (member k d r) ds found split follows each tell =
      one_tells k d r ds split follows.0 follows.1 each
      (λ x clean. payload_walked r (ds ++ (k, d) ∷ []) x (split ∙ appended_more ds k d r) (follows_more ds k d r follows) (each_more CleanKey ds k d each clean) tell.1)
      (payload_turn skips pk k (answers shape allow d) found)
      (key_tells ds k d r split follows.0 (answers shape allow d) (tell.0 (one pk)) found (is_type_key k) (is_value_key k) refl refl)

  first_follows : (r : Members) → are_ascending r ≡ true → Follows [] r
  first_follows no_members h = tt
  first_follows (member k d r) h = (tt, h)

  keys_tell : are_ascending ms ≡ true → PayloadTell ms → WalkTells shape allow inside (walk_payload skips pk (parts shape allow ms) None)
  keys_tell ascending tell = payload_walked ms [] None refl (first_follows ms ascending) tt tell

-- ---- the payload is found

module _ (shape : Shape) (allow skips : Bool) (u : ℕ) where
  abbrev k : Kind
  k = kind.Message u

  a_message : (o : Option Val) (a : Answer Content) → answer_map (shown_as shape (one k)) (answer_map as_value a) ≡ Ok o → is_there (message_found o) ≡ true
  a_message o (Ok c) h = let same : as_value c ≡ o = cc in ap (λ x. is_there (message_found x)) (sym same)
  a_message o (Err e) h = absurd (cc)

  is_message : (d : Data) (o : Option Val) → answers shape allow d (one k) ≡ Ok o → is_there (message_found o) ≡ true
  is_message null o h = a_message o (message_answer shape allow u null [] []) h
  is_message (boolean b) o h = a_message o (message_answer shape allow u (boolean b) [] []) h
  is_message (number n) o h = a_message o (message_answer shape allow u (number n) [] []) h
  is_message (string s) o h = a_message o (message_answer shape allow u (string s) [] []) h
  is_message (array ds) o h = a_message o (message_answer shape allow u (array ds) (elements_in shape allow (array ds)) []) h
  is_message (object ms) o h = a_message o (message_answer shape allow u (object ms) [] (parts_in shape allow (object ms))) h

  abbrev InRest : Members → Type 0
  InRest r = is_there (get_member (codes "value") r) ≡ true

  -- a key leaves what was found, and finds the payload at `value`
  kept : (d : Data) (found x : Option Content) (a b : Bool) → (is_there found ≡ true) ⊎ ((a ≡ false) × (b ≡ true))
      → (if a then Ok found else if b then answer_map message_found (answers shape allow d (one k)) else if skips then Ok found else here fault.UnknownField) ≡ Ok x → is_there x ≡ true
  kept d found x true b (inl there) h = let same : found ≡ x = cc in ap is_there (sym same) ∙ there
  kept d found x true b (inr e) h = absurd (cc (e.0))
  kept d found x false true may h = taken (answers shape allow d (one k)) refl h
    where
      taken : (r : Answer (Option Val)) → answers shape allow d (one k) ≡ r → answer_map message_found r ≡ Ok x → is_there x ≡ true
      taken (Ok o) e i = let same : message_found o ≡ x = cc in ap is_there (sym same) ∙ is_message d o e
      taken (Err y) e i = absurd (cc)
  kept d found x false false (inr e) h = absurd (cc (e.1))
  kept d found x false false (inl there) h = by skips h
    where
      by : (c : Bool) → (if c then Ok found else here fault.UnknownField) ≡ Ok x → is_there x ≡ true
      by true i = let same : found ≡ x = cc in ap is_there (sym same) ∙ there
      by false i = absurd (cc)

  found_here : (key : List ℕ) (d : Data) (r : Members) (found y : Option Content) → (is_there found ≡ true) ⊎ InRest (member key d r)
      → payload_turn skips k key (answers shape allow d) found ≡ Ok y → (is_there y ≡ true) ⊎ InRest r
  found_here key d r found y (inl there) h = inl (kept d found y (is_type_key key) (is_value_key key) (inl there) h)
  found_here key d r found y (inr there) h = at (slice_cmp nat_cmp (codes "value") key) refl there
    where
      at : (o : Ordering) → slice_cmp nat_cmp (codes "value") key ≡ o
          → is_there (match_ordering o (get_member (codes "value") r) (Some d) (get_member (codes "value") r)) ≡ true → (is_there y ≡ true) ⊎ InRest r
      at Less e i = inr i
      at Greater e i = inr i
      at Equal e i =
          let same : codes "value" ≡ key = slice_cmp-IsAntisymmetric nat_cmp-IsAntisymmetric (codes "value") key e in
          inl (kept d found y (is_type_key key) (is_value_key key) (inr (ap is_type_key (sym same), ap is_value_key (sym same))) h)

  found_after : (r : Members) (found : Option Content) → (is_there found ≡ true) ⊎ InRest r → (x : Option Content)
      → walk_payload skips k (parts shape allow r) found ≡ Ok x → is_there x ≡ true
  found_after no_members found (inl there) x h = let same : found ≡ x = cc in ap is_there (sym same) ∙ there
  found_after no_members found (inr e) x h = absurd (cc (e))
  found_after (member key d r) found may x h =
      at (λ y e i. found_after r y (found_here key d r found y may e) x i) (payload_turn skips k key (answers shape allow d) found) refl h
    where
      at : ((y : Option Content) → payload_turn skips k key (answers shape allow d) found ≡ Ok y → walk_payload skips k (parts shape allow r) y ≡ Ok x → is_there x ≡ true)
          → (t : Answer (Option Content)) → payload_turn skips k key (answers shape allow d) found ≡ t
          → and_then (at_step (to_key key) t) (walk_payload skips k (parts shape allow r)) ≡ Ok x → is_there x ≡ true
      at ih (Ok y) e i = ih y e i
      at ih (Err y) e i = absurd (cc)

  -- the members of the object of an `Any`
  pub payload_tells : (ms : Members) → InRest ms → are_ascending ms ≡ true → PayloadTell shape allow skips k ms ms
      → WalkTells shape allow (payload skips k ms) (and_then (walk_payload skips k (parts shape allow ms) None) payload_found)
  payload_tells ms there ascending tell = at (walk_payload skips k (parts shape allow ms) None) refl (keys_tell shape allow skips k ms ascending tell)
    where
      at : (a : Answer (Option Content)) → walk_payload skips k (parts shape allow ms) None ≡ a → WalkTells shape allow (payload skips k ms) a
          → WalkTells shape allow (payload skips k ms) (and_then a payload_found)
      at (Ok (Some c)) e h = h
      at (Ok None) e h = absurd (cc (found_after ms None (inr there) None e))
      at (Err x) e h = h
