-- Lists as arrays.
use Rattle.std.proofs.Common.{◌≡◌, ℕ, ◌+◌, suc, ◌<◌, ◌≤◌, List, [], ◌∷◌, ◌++◌, map, length, take, drop, get_or, Option, Some, None, option_map, option_and_then}
use Rattle.std.proofs.Common.{Vec, Global, Result, IfOk, IsOkAnd, IfErr, inr, reverse, refl, sym, ap, subst, ◌∙◌, arith}
use Rattle.serde_json.specs.Data.{Data, array}
use Rattle.pbx_content.specs.Content as content
use Rattle.pbx_content.specs.Content.{Val, many, vals_of}
use Rattle.pbx_content.specs.Sound.{IsElement, AreElements}
use Rattle.pbx_content.specs.declared.shape.Kind.{Kind}
use Rattle.pbx_content.specs.declared.shape.Shape.{Shape}
use Rattle.pbx_content_codec.specs.View.{val_of}
use Rattle.pbx_content_codec.specs.declared.contents.Held.{Held}
use Rattle.pbx_json_meaning.specs.Asked.{one}
use Rattle.pbx_json_meaning.specs.Canonical.{Tells, tells, vals_tell, items_of}
use Rattle.pbx_json_meaning.specs.Stands.{all_read}
use Rattle.pbx_json_meaning.specs.WriteFaults.{val_at}
use Rattle.pbx_json_meaning.specs.declared.kind.JsonKind.{JsonKind}
use Rattle.pbx_json_meaning.specs.Canonical.{Writing}
use Rattle.pbx_json_meaning.specs.declared.place.Step.{Step}
use Rattle.pbx_json_meaning.specs.declared.place.Step.TheVariants.{Index}
use Rattle.serde_json.specs.View.{view}
use Rattle.serde_json.specs.declared.value.Value.{Value, Array}
use Rattle.pbx_json_writing.specs.declared.refusal.Refusal.{Refusal}
use Rattle.pbx_json_writing.specs.Refusals.{Holds, Refused, IsPassedOn}
use Rattle.pbx_json_writing.proofs.Collected.{split_at, take_more, take_all, length-take, map-append}
use Rattle.pbx_json_writing.proofs.Refusing.{Stops, both_ok, stops_of, refused_passed}
use Rattle.pbx_json_writing.proofs.Views.{array_view}

-- ---- all of a list

module _ {X Y : Type 0} (f : X → Option Y) where
  abbrev then_read : Option Y → Option (List Y) → Option (List Y)
  then_read x r = option_and_then (λ y. option_map (λ ys. y ∷ ys) r) x

  all_read_more : (xs : List X) (ys : List Y) (x : X) (y : Y) → all_read f xs ≡ Some ys → f x ≡ Some y → all_read f (xs ++ x ∷ []) ≡ Some (ys ++ y ∷ [])
  all_read_more [] ys x y h is = let none : [] ≡ ys = cc in rw (is, ← none) refl
  all_read_more (z ∷ xs) ys x y h is = at (f z) (all_read f xs) h (λ ws e. all_read_more xs ws x y e is)
    where
      at : (o : Option Y) (r : Option (List Y)) → then_read o r ≡ Some ys
          → ((ws : List Y) → r ≡ Some ws → all_read f (xs ++ x ∷ []) ≡ Some (ws ++ y ∷ []))
          → then_read o (all_read f (xs ++ x ∷ [])) ≡ Some (ys ++ y ∷ [])
      at None r h ih = absurd (cc)
      at (Some w) None h ih = absurd (cc)
      at (Some w) (Some ws) h ih =
          let same : w ∷ ws ≡ ys = cc in
          rw (ih ws refl, ← same) refl

  all_read_none : (xs : List X) (x : X) (zs : List X) → f x ≡ None → all_read f (xs ++ x ∷ zs) ≡ None
  all_read_none [] x zs h = rw h refl
  all_read_none (z ∷ xs) x zs h = rw (all_read_none xs x zs h) (at (f z))
    where
      at : (o : Option Y) → then_read o None ≡ None
      at None = refl
      at (Some w) = refl

  length-all_read : (xs : List X) (ys : List Y) → all_read f xs ≡ Some ys → length ys ≡ length xs
  length-all_read [] ys h = let none : [] ≡ ys = cc in rw (← none) refl
  length-all_read (z ∷ xs) ys h = at (f z) (all_read f xs) h (length-all_read xs)
    where
      at : (o : Option Y) (r : Option (List Y)) → then_read o r ≡ Some ys → ((ws : List Y) → r ≡ Some ws → length ws ≡ length xs) → length ys ≡ suc (length xs)
      at None r h ih = absurd (cc)
      at (Some w) None h ih = absurd (cc)
      at (Some w) (Some ws) h ih =
          let same : w ∷ ws ≡ ys = cc in
          rw (← same) (ap suc (ih ws refl))

-- ---- the elements of a list

-- an element is one of the kind
pub holds_element : (shape : Shape) (k : Kind) (v : Val) → IsElement shape k v → Holds shape k v
holds_element shape k (content.number z) h = h
holds_element shape k (content.truth b) h = h
holds_element shape k (content.text s) h = h.0
holds_element shape k (content.octets s) h = h
holds_element shape k (content.message c) h = h
holds_element shape k (content.many vs) h = absurd h
holds_element shape k (content.keyed ps) h = absurd h

val_at_seam : (xs : List Held) (h : Held) (ys : List Held) → val_at (length xs) (vals_of (map val_of (xs ++ h ∷ ys))) ≡ Some (val_of h)
val_at_seam [] h ys = refl
val_at_seam (x ∷ xs) h ys = val_at_seam xs h ys

module _ (shape : Shape) (o : Writing) (k : Kind) where
  -- the tree of an element
  abbrev pub told : Held → Option Data
  told h = tells shape o (val_of h) (one k)

  all_told : (hs : List Held) → all_read (λ (t : Tells). t (one k)) (vals_tell shape o (vals_of (map val_of hs))) ≡ all_read told hs
  all_told [] = refl
  all_told (h ∷ hs) = ap (λ r. option_and_then (λ y. option_map (λ ys. y ∷ ys) r) (told h)) (all_told hs)

  abbrev pub list_value : List Held → Val
  list_value hs = many (vals_of (map val_of hs))

  pub array_told : (hs : List Held) (ds : List Data) → all_read told hs ≡ Some ds → tells shape o (list_value hs) (one k) ≡ Some (array (items_of ds))
  array_told hs ds h = ap (option_map (λ ds. array (items_of ds))) (all_told hs ∙ h)

  pub told_more : (hs : List Held) (i : ℕ) (h : Held) (ds : List Data) (d : Data) → i < length hs → h ≡ get_or hs i h → all_read told (take i hs) ≡ Some ds
      → told h ≡ Some d → all_read told (take (i + 1) hs) ≡ Some (ds ++ d ∷ [])
  told_more hs i h ds d within is so one_more =
      ap (all_read told) (take_more hs i h within is) ∙ all_read_more told (take i hs) ds h d so one_more

  pub told_count : (hs : List Held) (i : ℕ) (ds : List Data) → i < length hs → all_read told (take i hs) ≡ Some ds → length ds ≡ i
  told_count hs i ds within so = length-all_read told (take i hs) ds so ∙ length-take hs i (omega arith)

  element_holds : (xs : List Held) (h : Held) (ys : List Held) → AreElements shape k (vals_of (map val_of (xs ++ h ∷ ys))) → Holds shape k (val_of h)
  element_holds [] h ys all = holds_element shape k (val_of h) all.0
  element_holds (x ∷ xs) h ys all = element_holds xs h ys all.1

  -- an element that is refused
  stops_seam : (xs : List Held) (h : Held) (ys : List Held) (rule : JsonKind) (place : List Step) → Stops shape o (val_of h) k rule place
      → Stops shape o (list_value (xs ++ h ∷ ys)) k rule (Index (length xs) ∷ place)
  stops_seam xs h ys rule place stops = (
    ap (option_map (λ ds. array (items_of ds))) (all_told (xs ++ h ∷ ys) ∙ all_read_none told xs h ys stops.0),
    λ all. inr (rw (val_at_seam xs h ys) (stops.1 (element_holds xs h ys all))),
  )

  pub element_stops : (hs : List Held) (i : ℕ) (h : Held) (rule : JsonKind) (place : List Step) → i < length hs → h ≡ get_or hs i h
      → Stops shape o (val_of h) k rule place → Stops shape o (list_value hs) k rule (Index i ∷ place)
  element_stops hs i h rule place within is stops =
      let seam = stops_seam (take i hs) h (drop (suc i) hs) rule place stops in
      let count : length (take i hs) ≡ i = length-take hs i (omega arith) in
      let counted = subst (λ n. Stops shape o (list_value (take i hs ++ h ∷ drop (suc i) hs)) k rule (Index n ∷ place)) count seam in
      subst (λ xs. Stops shape o (list_value xs) k rule (Index i ∷ place)) (sym (split_at hs i h within is)) counted

  -- ---- what the loop over a list keeps

  pub array_refused : (hs : List Held) (i : ℕ) (h : Held) (items : List Value) (written : Result Value Refusal) (r : Refusal) → i < length hs
      → h ≡ get_or hs i h → all_read told (take i hs) ≡ Some (map view items) → IfErr written (Refused shape o (val_of h) k)
      → IsPassedOn (Index (length items)) written r → Refused shape o (list_value hs) k r
  array_refused hs i h items written r within is so told_err passed =
      refused_passed shape o (list_value hs) k (Index (length items)) written r passed
      (λ rule inner e. subst (λ n. Stops shape o (list_value hs) k rule (Index n ∷ reverse inner)) (sym count)
      (element_stops hs i h rule (reverse inner) within is (stops_of shape o (val_of h) k written rule inner told_err e)))
    where
      length-views : (vs : List Value) → length vs ≡ length (map view vs)
      length-views [] = refl
      length-views (v ∷ vs) = ap suc (length-views vs)

      count : length items ≡ i
      count = length-views items ∙ told_count hs i (map view items) within so

  pub array_more : (hs : List Held) (i : ℕ) (h : Held) (old new : List Value) (written : Result Value Refusal) → i < length hs → h ≡ get_or hs i h
      → all_read told (take i hs) ≡ Some (map view old) → IfOk written (λ tree. told h ≡ Some (view tree))
      → IsOkAnd written (λ tree. new ≡ old ++ tree ∷ []) → all_read told (take (i + 1) hs) ≡ Some (map view new)
  array_more hs i h old new written within is so told_ok added =
      let both = both_ok (λ tree. told h ≡ Some (view tree)) (λ tree. new ≡ old ++ tree ∷ []) written told_ok added in
      told_more hs i h (map view old) (view both.0) within is so both.1
      ∙ ap Some (sym (ap (map view) both.2 ∙ map-append view old (both.0 ∷ [])))

  pub array_done : (hs : List Held) (i : ℕ) (items : Vec Value Global) → length hs ≤ i → all_read told (take i hs) ≡ Some (map view items.items)
      → tells shape o (list_value hs) (one k) ≡ Some (view (Array items))
  array_done hs i items past so =
      array_told hs (map view items.items) (ap (all_read told) (sym (take_all hs i past)) ∙ so) ∙ ap Some (array_view items)
