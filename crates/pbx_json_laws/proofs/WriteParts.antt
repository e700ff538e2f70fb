-- Where the lines of a message, the elements of a list or the entries of a map are not written, one of them has a fault.
use Rattle.std.proofs.Common.{◌≡◌, ◌⊎◌, inl, inr, ℕ, suc, ◌||◌, ◌++◌, List, [], ◌∷◌, map as map_list, Bool, true, false, if◌then◌else◌, Option, Some, None, option_map, option_and_then, refl, ap, sym, ◌∙◌}
use Rattle.std.specs.List.{list_any}
use Rattle.std.specs.Str.{bytes_eq}
use Rattle.std.proofs.lemmas.Slice.Eq.{bytes_eq-Decides}
use Rattle.serde_json.specs.Data.{Data}
use Rattle.pbx_content.specs.Content as content
use Rattle.pbx_content.specs.Content.{Fields, Val, Vals, Pairs, key_before}
use Rattle.pbx_content.specs.Content.{Key as MapKey}
use Rattle.pbx_content.specs.Shape.{field_of}
use Rattle.pbx_content.specs.Sound.{IsKeyOf, IsBefore, ArePairs}
use Rattle.pbx_content.specs.declared.shape.Kind.{Kind}
use Rattle.pbx_content.specs.declared.shape.FieldShape.{FieldShape}
use Rattle.pbx_content.specs.declared.shape.Shape.{Shape}
use Rattle.pbx_json_meaning.specs.Asked.{Asked, field, one}
use Rattle.pbx_json_meaning.specs.Canonical.{Writing, Line, Tells, key_of_field, told_line, key_text, entry_line}
use Rattle.pbx_json_meaning.specs.Canonical.{tells, vals_tell, pairs_tell}
use Rattle.pbx_json_meaning.specs.Scalars.{key_read}
use Rattle.pbx_json_meaning.specs.Stands.{all_read}
use Rattle.pbx_json_meaning.specs.WriteFaults.{val_at, val_under, is_under, asked_of, field_under, key_in, value_keys, is_twice, WriteFaultAt}
use Rattle.pbx_json_meaning.specs.declared.kind.JsonKind.{JsonKind}
use Rattle.pbx_json_meaning.specs.declared.place.Step.{Step}
use Rattle.pbx_json_laws.proofs.FaultParts.{map_none}
use Rattle.pbx_json_laws.proofs.KeyOrder.{never_before_itself, before_through}
use Rattle.pbx_json_laws.proofs.LinesMade.{keys_of, any_key, is_bare, none_of, twice_in_front, twice_behind}
use Rattle.pbx_json_laws.proofs.Parts.{nor_of, one_ok}
use Rattle.pbx_json_laws.proofs.ScalarsBack.{key_back}
use Rattle.pbx_json_laws.proofs.WriteClean.{value_lines}

module _ (shape : Shape) (o : Writing) where
  -- a fault of the value, where this is asked of it
  abbrev pub FaultOf : Val → Asked → Type 0
  FaultOf v a = (place : List Step) × (kind : JsonKind) × WriteFaultAt shape o place v a kind

  -- ---- lists

  -- an element with a fault
  abbrev pub ElementFault : Kind → Vals → Type 0
  ElementFault k vs = (i : ℕ) × (v : Val) × (val_at i vs ≡ Some v) × FaultOf v (one k)

  pub element_step : (k : Kind) (v : Val) (vs : Vals) → (tells shape o v (one k) ≡ None → FaultOf v (one k))
      → (all_read (λ (t : Tells). t (one k)) (vals_tell shape o vs) ≡ None → ElementFault k vs)
      → all_read (λ (t : Tells). t (one k)) (vals_tell shape o (content.val v vs)) ≡ None → ElementFault k (content.val v vs)
  element_step k v vs own rest h = at (tells shape o v (one k)) refl h
    where
      at : (x : Option Data) → tells shape o v (one k) ≡ x
          → option_and_then (λ y. option_map (λ ys. y ∷ ys) (all_read (λ (t : Tells). t (one k)) (vals_tell shape o vs))) x ≡ None
          → ElementFault k (content.val v vs)
      at None e q = (0, v, refl, own e)
      at (Some y) e q =
          let it = rest (map_none (λ ys. y ∷ ys) (all_read (λ (t : Tells). t (one k)) (vals_tell shape o vs)) q) in
          (suc it.0, it.1, it.2, it.3)

  -- ---- maps

  -- an entry with a fault
  abbrev pub EntryFault : Kind → Pairs → Type 0
  EntryFault k ps = (s : List ℕ) × (v : Val) × (val_under s ps ≡ Some v) × FaultOf v (one k)

  -- the texts of the keys
  abbrev pub texts_of : Pairs → List (List ℕ)
  texts_of content.no_pairs = []
  texts_of (content.pair k v ps) = key_text k ∷ texts_of ps

  pub entry_keys : (k : Kind) (ps : Pairs) → keys_of (map_list (entry_line k) (pairs_tell shape o ps)) ≡ texts_of ps
  entry_keys k content.no_pairs = refl
  entry_keys k (content.pair l v ps) = ap (λ x. key_text l ∷ x) (entry_keys k ps)

  under_text : (s : List ℕ) (v : Val) (ps : Pairs) → val_under s ps ≡ Some v → any_key s (texts_of ps) ≡ true
  under_text s v content.no_pairs h = absurd (cc)
  under_text s v (content.pair l w ps) h = at (bytes_eq (key_text l) s) h (under_text s v ps)
    where
      at : (b : Bool) → (if b then Some w else val_under s ps) ≡ Some v → (val_under s ps ≡ Some v → any_key s (texts_of ps) ≡ true)
          → (b || any_key s (texts_of ps)) ≡ true
      at true q ih = refl
      at false q ih = ih q

  -- no later key has the text of an earlier one
  fresh_text : (kk k : Kind) (j : MapKey) (ps : Pairs) → IsKeyOf kk j → IsBefore j ps → ArePairs shape kk k ps → any_key (key_text j) (texts_of ps) ≡ false
  fresh_text kk k j content.no_pairs own before h = refl
  fresh_text kk k j (content.pair l v ps) own before h =
      nor_of (bytes_eq (key_text l) (key_text j)) (any_key (key_text j) (texts_of ps)) (at (bytes_eq (key_text l) (key_text j)) refl)
      (fresh_text kk k j ps own (before_through j l ps before h.2) h.3)
    where
      at : (b : Bool) → bytes_eq (key_text l) (key_text j) ≡ b → b ≡ false
      at false e = refl
      at true e =
          let text : key_text l ≡ key_text j = (bytes_eq-Decides (key_text l) (key_text j)).0 e in
          let same : l ≡ j = one_ok (key_read kk (key_text l)) l j (key_back kk l h.0) (ap (key_read kk) text ∙ key_back kk j own) in
          let bad : true ≡ false = sym before ∙ ap (λ x. key_before j x) same ∙ never_before_itself j in
          absurd (cc)

  pub no_twice : (kk k : Kind) (s : List ℕ) (ps : Pairs) → ArePairs shape kk k ps → is_twice s (texts_of ps) ≡ false
  no_twice kk k s content.no_pairs h = refl
  no_twice kk k s (content.pair l v ps) h = at (bytes_eq (key_text l) s) refl (no_twice kk k s ps h.3)
    where
      at : (b : Bool) → bytes_eq (key_text l) s ≡ b → is_twice s (texts_of ps) ≡ false → is_twice s (key_text l ∷ texts_of ps) ≡ false
      at false e ih = rw e ih
      at true e ih =
          let text : key_text l ≡ s = (bytes_eq-Decides (key_text l) s).0 e in
          let none : any_key s (texts_of ps) ≡ false = ap (λ x. any_key x (texts_of ps)) (sym text) ∙ fresh_text kk k l ps h.0 h.2 h.3 in
          rw (e, none_of s (texts_of ps) none) refl

  pub entry_step : (kk k : Kind) (l : MapKey) (v : Val) (ps : Pairs) → ArePairs shape kk k (content.pair l v ps) → (tells shape o v (one k) ≡ None → FaultOf v (one k))
      → (list_any is_bare (map_list (entry_line k) (pairs_tell shape o ps)) ≡ true → EntryFault k ps)
      → list_any is_bare (map_list (entry_line k) (pairs_tell shape o (content.pair l v ps))) ≡ true → EntryFault k (content.pair l v ps)
  entry_step kk k l v ps sound own rest h = at (tells shape o v (one k)) refl h
    where
      behind : EntryFault k ps → EntryFault k (content.pair l v ps)
      behind it = (it.0, it.1, cases (bytes_eq (key_text l) it.0) refl, it.3)
        where
          cases : (b : Bool) → bytes_eq (key_text l) it.0 ≡ b → (if b then Some v else val_under it.0 ps) ≡ Some it.1
          cases false e = it.2
          cases true e =
              let text : key_text l ≡ it.0 = (bytes_eq-Decides (key_text l) it.0).0 e in
              let none : any_key it.0 (texts_of ps) ≡ false =
              ap (λ x. any_key x (texts_of ps)) (sym text) ∙ fresh_text kk k l ps sound.0 sound.2 sound.3 in
              let bad : any_key it.0 (texts_of ps) ≡ true = under_text it.0 it.1 ps it.2 in
              absurd (cc)

      here : (b : Bool) → b ≡ true → (if b then Some v else val_under (key_text l) ps) ≡ Some v
      here b e = rw e refl

      at : (x : Option Data) → tells shape o v (one k) ≡ x
          → ((elim x [ None ↦ true | Some d ↦ false ]) || list_any is_bare (map_list (entry_line k) (pairs_tell shape o ps))) ≡ true
          → EntryFault k (content.pair l v ps)
      at None e q =
          (key_text l, v, here (bytes_eq (key_text l) (key_text l)) ((bytes_eq-Decides (key_text l) (key_text l)).1 refl), own e)
      at (Some d) e q = behind (rest q)

  -- ---- messages

  module _ (gs : List FieldShape) where
    -- a field with a fault, or a key that stands twice
    abbrev pub FieldFault : Fields → Type 0
    FieldFault fs =
        ((s : List ℕ) × (next : Val × Asked) × (field_under o s gs fs ≡ Some next) × FaultOf next.0 next.1)
        ⊎ ((s : List ℕ) × (is_twice s (value_keys o gs fs) ≡ true))

    under_key : (s : List ℕ) (next : Val × Asked) (fs : Fields) → field_under o s gs fs ≡ Some next → any_key s (value_keys o gs fs) ≡ true
    under_key s next content.no_fields h = absurd (cc)
    under_key s next (content.field n v fs) h = at (field_of n gs) h (under_key s next fs)
      where
        deep : (f : FieldShape) (b : Bool) → (if b then asked_of (Some f) v else field_under o s gs fs) ≡ Some next
            → (field_under o s gs fs ≡ Some next → any_key s (value_keys o gs fs) ≡ true) → (b || any_key s (value_keys o gs fs)) ≡ true
        deep f true q ih = refl
        deep f false q ih = ih q

        at : (x : Option FieldShape) → (if is_under o s x then asked_of x v else field_under o s gs fs) ≡ Some next
            → (field_under o s gs fs ≡ Some next → any_key s (value_keys o gs fs) ≡ true) → any_key s (key_in o x ++ value_keys o gs fs) ≡ true
        at None q ih = ih q
        at (Some f) q ih = deep f (bytes_eq (key_of_field o f) s) q ih

    pub field_step : (n : ℕ) (v : Val) (fs : Fields) (ys : List Line) (f : FieldShape) → field_of n gs ≡ Some f → (tells shape o v (field f) ≡ None → FaultOf v (field f))
        → (list_any is_bare (value_lines shape o gs fs ++ ys) ≡ true → FieldFault fs)
        → list_any is_bare (value_lines shape o gs (content.field n v fs) ++ ys) ≡ true → FieldFault (content.field n v fs)
    field_step n v fs ys f is own rest h =
        at (tells shape o v (field f)) refl (sym (ap (λ x. is_bare (told_line o (tells shape o v) x) || list_any is_bare (value_lines shape o gs fs ++ ys)) is) ∙ h)
      where
        key_self : bytes_eq (key_of_field o f) (key_of_field o f) ≡ true
        key_self = (bytes_eq-Decides (key_of_field o f) (key_of_field o f)).1 refl

        first : field_under o (key_of_field o f) gs (content.field n v fs) ≡ Some (v, field f)
        first = rw is (rw key_self refl)

        behind : FieldFault fs → FieldFault (content.field n v fs)
        behind (inr it) =
            inr (it.0, ap (λ x. is_twice it.0 (key_in o x ++ value_keys o gs fs)) is ∙ twice_behind it.0 (key_of_field o f) (value_keys o gs fs) it.1)
        behind (inl it) = cases (bytes_eq (key_of_field o f) it.0) refl
          where
            cases : (b : Bool) → bytes_eq (key_of_field o f) it.0 ≡ b → FieldFault (content.field n v fs)
            cases false e = inl (it.0, it.1, rw is (rw e it.2), it.3)
            cases true e =
                inr (
                  it.0,
                  ap (λ x. is_twice it.0 (key_in o x ++ value_keys o gs fs)) is
                      ∙ twice_in_front it.0 (key_of_field o f) (value_keys o gs fs) e (under_key it.0 it.1 fs it.2),
                )

        at : (x : Option Data) → tells shape o v (field f) ≡ x → ((elim x [ None ↦ true | Some d ↦ false ]) || list_any is_bare (value_lines shape o gs fs ++ ys)) ≡ true
            → FieldFault (content.field n v fs)
        at None e q = inl (key_of_field o f, (v, field f), first, own e)
        at (Some d) e q = behind (rest q)
