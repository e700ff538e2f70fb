-- Maps as objects.
use Rattle.std.proofs.Common.{◌≡◌, ℕ, ◌+◌, suc, ◌<◌, ◌≤◌, List, [], ◌∷◌, ◌++◌, map, length, take, drop, get_or, Bool, true, false, ◌||◌, if◌then◌else◌}
use Rattle.std.proofs.Common.{Some, None, option_map, BTreeMap, String, Global, Result, IfOk, IsOkAnd, IfErr, inr, reverse, refl, sym, ap, subst, ◌∙◌}
use Rattle.std.specs.List.{list_any}
use Rattle.std.specs.Str.{bytes_eq}
use Rattle.std.proofs.lemmas.Slice.Eq.{bytes_eq-Decides}
use Rattle.serde_json.specs.Data.{Data, object, Members, no_members}
use Rattle.pbx_content.specs.Content.{Key, key_before, Val, keyed, pairs_of}
use Rattle.pbx_content.specs.Sound.{IsKeyOf, ArePairs}
use Rattle.pbx_content.specs.declared.shape.Kind.{Kind}
use Rattle.pbx_content.specs.declared.shape.Shape.{Shape}
use Rattle.pbx_content.proofs.OntoPairs.{Compared, first, later, same, key_compared, key_follows}
use Rattle.pbx_content_codec.specs.View.{pair_of}
use Rattle.pbx_content_codec.specs.declared.contents.Pair.{Pair}
use Rattle.pbx_json_meaning.specs.Asked.{one}
use Rattle.pbx_json_meaning.specs.Canonical.{Line, tells, pairs_tell, entry_line, key_text, has_key, with_member, members_of_lines}
use Rattle.pbx_json_meaning.specs.WriteFaults.{val_under}
use Rattle.pbx_json_meaning.specs.declared.kind.JsonKind.{JsonKind}
use Rattle.pbx_json_meaning.specs.declared.kind.JsonKind.TheVariants as fault
use Rattle.pbx_json_meaning.specs.Canonical.{Writing}
use Rattle.pbx_json_meaning.specs.declared.place.Step.{Step}
use Rattle.pbx_json_meaning.specs.declared.place.Step.TheVariants.{Key as KeyStep}
use Rattle.pbx_json_writing.specs.Lines.{with_lines, collected, pair_line}
use Rattle.serde_json.specs.View.{view, members_view}
use Rattle.serde_json.specs.declared.value.Value.{Value, Object}
use Rattle.pbx_json_writing.specs.declared.refusal.Refusal.{Refusal}
use Rattle.pbx_json_writing.specs.Refusals.{Holds, Refused, IsMemberRefused}
use Rattle.pbx_json_writing.proofs.Arrays.{holds_element}
use Rattle.pbx_json_writing.proofs.Collected.{split_at, take_more, take_all, map-append, collected_is, with_lines_absent, with_lines_twice, with_lines_more, keys_of_lines}
use Rattle.pbx_json_writing.proofs.Keys.{one_text}
use Rattle.pbx_json_writing.proofs.Refusing.{Stops, both_ok, stops_of, refused_member}
use Rattle.pbx_json_writing.proofs.Views.{object_view}

pub same_bytes : (s : List ℕ) → bytes_eq s s ≡ true
same_bytes s = (bytes_eq-Decides s s).1 refl

pub or_false : (a : Bool) → (a || false) ≡ a
or_false true = refl
or_false false = refl

key_not_before : (k : Key) → key_before k k ≡ true → ⊥
key_not_before k h = at (key_compared k k)
  where
    at : Compared key_before k k → ⊥
    at (first e d) = absurd (cc)
    at (later e d) = absurd (cc)
    at (same e d f) = absurd (cc)

-- ---- keys of pairs

abbrev has_text : List ℕ → List (Key × Val) → Bool
has_text s ps = list_any (λ p. bytes_eq (key_text p.0) s) ps

under_seam : (s : List ℕ) (xs : List (Key × Val)) (p : Key × Val) (ys : List (Key × Val)) → has_text s xs ≡ false → key_text p.0 ≡ s
    → val_under s (pairs_of (xs ++ p ∷ ys)) ≡ Some p.1
under_seam s [] p ys none is = rw (is, same_bytes s) refl
under_seam s (x ∷ xs) p ys none is = at (bytes_eq (key_text x.0) s) none (λ h. under_seam s xs p ys h is)
  where
    at : (b : Bool) → (b || has_text s xs) ≡ false → (has_text s xs ≡ false → val_under s (pairs_of (xs ++ p ∷ ys)) ≡ Some p.1)
        → (if b then Some x.1 else val_under s (pairs_of (xs ++ p ∷ ys))) ≡ Some p.1
    at true h ih = absurd (cc)
    at false h ih = ih h

module _ (shape : Shape) (key k : Kind) where
  own_key : (xs : List (Key × Val)) (p : Key × Val) (ys : List (Key × Val)) → ArePairs shape key k (pairs_of (xs ++ p ∷ ys)) → IsKeyOf key p.0
  own_key [] p ys h = h.0
  own_key (x ∷ xs) p ys h = own_key xs p ys h.3

  own_value : (xs : List (Key × Val)) (p : Key × Val) (ys : List (Key × Val)) → ArePairs shape key k (pairs_of (xs ++ p ∷ ys)) → Holds shape k p.1
  own_value [] p ys h = holds_element shape k p.1 h.1
  own_value (x ∷ xs) p ys h = own_value xs p ys h.3

  stands_before : (x : Key × Val) (xs : List (Key × Val)) (p : Key × Val) (ys : List (Key × Val)) → ArePairs shape key k (pairs_of (x ∷ (xs ++ p ∷ ys)))
      → key_before x.0 p.0 ≡ true
  stands_before x [] p ys h = h.2
  stands_before x (y ∷ xs) p ys h = key_follows x.0 y.0 p.0 (h.2) (stands_before y xs p ys h.3)

  -- no two keys have one text
  no_text_twice : (xs : List (Key × Val)) (p : Key × Val) (ys : List (Key × Val)) → ArePairs shape key k (pairs_of (xs ++ p ∷ ys))
      → has_text (key_text p.0) xs ≡ true → ⊥
  no_text_twice [] p ys h twice = absurd (cc)
  no_text_twice (x ∷ xs) p ys h twice = at (bytes_eq (key_text x.0) (key_text p.0)) refl twice (no_text_twice xs p ys h.3)
    where
      at : (b : Bool) → bytes_eq (key_text x.0) (key_text p.0) ≡ b → (b || has_text (key_text p.0) xs) ≡ true → (has_text (key_text p.0) xs ≡ true → ⊥) → ⊥
      at true e g ih =
          let same : x.0 ≡ p.0 = one_text key x.0 p.0 h.0 (own_key xs p ys h.3) ((bytes_eq-Decides (key_text x.0) (key_text p.0)).0 e) in
          key_not_before p.0 (ap (λ l. key_before l p.0) (sym same) ∙ stands_before x xs p ys h)
      at false e g ih = ih g

-- ---- the lines of a map

module _ (shape : Shape) (o : Writing) (k : Kind) where
  -- the line of a pair
  abbrev pub entry : Pair → Line
  entry p = pair_line shape o k (pair_of p)

  abbrev pub map_value : List Pair → Val
  map_value ps = keyed (pairs_of (map pair_of ps))

  all_lines : (ps : List Pair) → map (entry_line k) (pairs_tell shape o (pairs_of (map pair_of ps))) ≡ map entry ps
  all_lines [] = refl
  all_lines (p ∷ ps) = ap (λ ls. entry p ∷ ls) (all_lines ps)

  entries_are : (ps : List Pair) → tells shape o (map_value ps) (one k) ≡ option_map object (collected (map entry ps))
  entries_are ps = ap (option_map object) (ap members_of_lines (all_lines ps) ∙ collected_is (map entry ps))

  pub entries_told : (ps : List Pair) (i : ℕ) (ms : Members) → length ps ≤ i → collected (map entry (take i ps)) ≡ Some ms
      → tells shape o (map_value ps) (one k) ≡ Some (object ms)
  entries_told ps i ms past so =
      entries_are ps ∙ ap (λ xs. option_map object (collected (map entry xs))) (sym (take_all ps i past)) ∙ ap (option_map object) so

  pub entries_more : (ps : List Pair) (i : ℕ) (p : Pair) (d : Data) (ms ns : Members) → i < length ps → p ≡ get_or ps i p
      → collected (map entry (take i ps)) ≡ Some ms → tells shape o (pair_of p).1 (one k) ≡ Some d → with_member (key_text (pair_of p).0) d ms ≡ Some ns
      → collected (map entry (take (i + 1) ps)) ≡ Some ns
  entries_more ps i p d ms ns within is so told more =
      ap (λ xs. collected (map entry xs)) (take_more ps i p within is)
      ∙ ap collected (map-append entry (take i ps) (p ∷ []))
      ∙ with_lines_more (map entry (take i ps)) (entry p) (Some no_members) d ms ns so told more

  texts_of : (s : List ℕ) (ps : List Pair) → list_any (λ (l : Line). bytes_eq l.0 s) (map entry ps) ≡ has_text s (map pair_of ps)
  texts_of s [] = refl
  texts_of s (p ∷ ps) = ap (λ b. bytes_eq (key_text (pair_of p).0) s || b) (texts_of s ps)

  -- the keys that are there
  there : (s : List ℕ) (xs : List Pair) (ms : Members) → collected (map entry xs) ≡ Some ms → has_key s ms ≡ has_text s (map pair_of xs)
  there s xs ms so =
      keys_of_lines s (map entry xs) no_members ms so ∙ or_false (list_any (λ (l : Line). bytes_eq l.0 s) (map entry xs)) ∙ texts_of s xs

  module _ (xs : List Pair) (p : Pair) (ys : List Pair) (ms : Members) (so : collected (map entry xs) ≡ Some ms) where
    halves : map pair_of (xs ++ p ∷ ys) ≡ map pair_of xs ++ pair_of p ∷ map pair_of ys
    halves = map-append pair_of xs (p ∷ ys)

    no_tree : with_lines (map entry xs ++ entry p ∷ map entry ys) (Some no_members) ≡ None → tells shape o (map_value (xs ++ p ∷ ys)) (one k) ≡ None
    no_tree h = entries_are (xs ++ p ∷ ys) ∙ ap (option_map object) (ap collected (map-append entry xs (p ∷ ys)) ∙ h)

    twice_seam : has_key (key_text (pair_of p).0) ms ≡ true
        → Stops shape o (map_value (xs ++ p ∷ ys)) k fault.DuplicateField (KeyStep (key_text (pair_of p).0) ∷ [])
    twice_seam h = (
      no_tree (with_lines_twice (map entry xs) (entry p) (map entry ys) (Some no_members) ms so h),
      λ all. absurd (no_text_twice shape all.0 k (map pair_of xs) (pair_of p) (map pair_of ys)
          (subst (λ qs. ArePairs shape all.0 k (pairs_of qs)) halves all.1)
          (sym (there (key_text (pair_of p).0) xs ms so) ∙ h)),
    )

    inside_seam : has_key (key_text (pair_of p).0) ms ≡ false → (rule : JsonKind) (place : List Step) → Stops shape o (pair_of p).1 k rule place
        → Stops shape o (map_value (xs ++ p ∷ ys)) k rule (KeyStep (key_text (pair_of p).0) ∷ place)
    inside_seam h rule place stops =
        let under : val_under (key_text (pair_of p).0) (pairs_of (map pair_of (xs ++ p ∷ ys))) ≡ Some (pair_of p).1 =
        ap (λ qs. val_under (key_text (pair_of p).0) (pairs_of qs)) halves
        ∙ under_seam (key_text (pair_of p).0) (map pair_of xs) (pair_of p) (map pair_of ys) (sym (there (key_text (pair_of p).0) xs ms so) ∙ h) refl in (
          no_tree (with_lines_absent (map entry xs) (entry p) (map entry ys) (Some no_members) stops.0),
          λ all. inr (rw under (stops.1 (own_value shape all.0 k (map pair_of xs) (pair_of p) (map pair_of ys)
              (subst (λ qs. ArePairs shape all.0 k (pairs_of qs)) halves all.1)))),
        )

  module _ (ps : List Pair) (i : ℕ) (p : Pair) (ms : Members) (within : i < length ps) (is : p ≡ get_or ps i p) (so : collected (map entry (take i ps)) ≡ Some ms) where
    pub entry_twice : has_key (key_text (pair_of p).0) ms ≡ true
        → Stops shape o (map_value ps) k fault.DuplicateField (KeyStep (key_text (pair_of p).0) ∷ [])
    entry_twice h =
        subst (λ xs. Stops shape o (map_value xs) k fault.DuplicateField (KeyStep (key_text (pair_of p).0) ∷ [])) (sym (split_at ps i p within is))
        (twice_seam (take i ps) p (drop (suc i) ps) ms so h)

    pub entry_inside : has_key (key_text (pair_of p).0) ms ≡ false → (rule : JsonKind) (place : List Step) → Stops shape o (pair_of p).1 k rule place
        → Stops shape o (map_value ps) k rule (KeyStep (key_text (pair_of p).0) ∷ place)
    entry_inside h rule place stops =
        subst (λ xs. Stops shape o (map_value xs) k rule (KeyStep (key_text (pair_of p).0) ∷ place)) (sym (split_at ps i p within is))
        (inside_seam (take i ps) p (drop (suc i) ps) ms so h rule place stops)

    -- ---- what the loop over the pairs keeps

    pub entry_refused : (key : List ℕ) (written : Result Value Refusal) (r : Refusal) → key ≡ key_text (pair_of p).0
        → IfErr written (Refused shape o (pair_of p).1 k) → IsMemberRefused key written ms r → Refused shape o (map_value ps) k r
    entry_refused key written r named told_err member =
        refused_member shape o (map_value ps) k (key_text (pair_of p).0) written ms r (subst (λ s. IsMemberRefused s written ms r) named member)
        entry_twice (λ new rule inner e. entry_inside new rule (reverse inner) (stops_of shape o (pair_of p).1 k written rule inner told_err e))

    pub entry_step : (key : List ℕ) (written : Result Value Refusal) (ns : Members) → key ≡ key_text (pair_of p).0
        → IfOk written (λ tree. tells shape o (pair_of p).1 (one k) ≡ Some (view tree)) → IsOkAnd written (λ tree. with_member key (view tree) ms ≡ Some ns)
        → collected (map entry (take (i + 1) ps)) ≡ Some ns
    entry_step key written ns named told_ok added =
        let both = both_ok (λ tree. tells shape o (pair_of p).1 (one k) ≡ Some (view tree)) (λ tree. with_member key (view tree) ms ≡ Some ns) written told_ok
        added in
        entries_more ps i p (view both.0) ms ns within is so both.1 (ap (λ s. with_member s (view both.0) ms) (sym named) ∙ both.2)

  pub entries_done : (ps : List Pair) (i : ℕ) (m : BTreeMap (String Global) Value) → length ps ≤ i
      → collected (map entry (take i ps)) ≡ Some (members_view m.entries) → tells shape o (map_value ps) (one k) ≡ Some (view (Object m))
  entries_done ps i m past so = entries_told ps i (members_view m.entries) past so ∙ ap Some (object_view m)
