-- Fields that are written though they have no value.
use Rattle.std.proofs.Common.{◌≡◌, ℕ, ◌+◌, suc, ◌<◌, ◌≤◌, List, [], ◌∷◌, ◌++◌, map, filter, length, take, drop, get_or, Bool, true, false, ◌||◌}
use Rattle.std.proofs.Common.{if◌then◌else◌, inl, inr, Result, Ok, Err, IfErr, Option, Some, None, append_assoc, refl, sym, ap, subst, ◌∙◌}
use Rattle.std.specs.List.{list_any}
use Rattle.std.specs.Str.{bytes_eq}
use Rattle.std.proofs.lemmas.List.Elements.{filter-append}
use Rattle.std.proofs.lemmas.List.Folds.{list_any-append}
use Rattle.serde_json.specs.Data.{object, Members, no_members}
use Rattle.pbx_content.specs.Content.{Content, Fields, message, fields, kept}
use Rattle.pbx_content.specs.Encoding.{type_of}
use Rattle.pbx_content.specs.Shape.{declared_of}
use Rattle.pbx_content.specs.declared.shape.Kind.{Kind}
use Rattle.pbx_content.specs.declared.shape.Shape.{Shape}
use Rattle.pbx_content.specs.declared.shape.FieldShape.{FieldShape}
use Rattle.pbx_json_meaning.specs.Forms.{is_object_type}
use Rattle.pbx_json_meaning.specs.Asked.{one}
use Rattle.pbx_json_meaning.specs.Canonical.{Line, tells, keeps_float, default_line, is_written_default, key_of_field, has_key}
use Rattle.pbx_json_meaning.specs.WriteFaults.{value_keys, written_keys, is_twice}
use Rattle.pbx_json_meaning.specs.declared.kind.JsonKind.TheVariants as fault
use Rattle.pbx_json_meaning.specs.Canonical.{Writing}
use Rattle.pbx_json_meaning.specs.declared.place.Step.TheVariants.{Key}
use Rattle.pbx_json_writing.specs.Lines.{with_lines, collected, field_lines, field_members, default_lines}
use Rattle.pbx_json_writing.proofs.Collected.{split_at, take_more, take_all, map-append, with_lines-append, with_lines_twice, keys_of_lines}
use Rattle.pbx_json_writing.proofs.OfFields.{message_none, message_told, broken_key, fields_there, key_twice}
use Rattle.serde_json.specs.declared.value.Value.{Value}
use Rattle.pbx_json_writing.specs.declared.refusal.Refusal.{Refusal}
use Rattle.pbx_json_writing.specs.declared.refusal.Refusal.TheVariants as refused
use Rattle.pbx_json_writing.specs.Refusals.{Refused, IsMemberRefused, IsDefaultRefused}
use Rattle.pbx_json_writing.proofs.Refusing.{Stops, refused_key}

filter_all : {X : Type 0} (p : X → Bool) (xs : List X) (x : X) (ys : List X) → p x ≡ true → filter p (xs ++ x ∷ ys) ≡ filter p xs ++ x ∷ filter p ys
filter_all p [] x ys h = rw h refl
filter_all p (z ∷ xs) x ys h = at (p z) (filter_all p xs x ys h)
  where
    at : (b : Bool) → filter p (xs ++ x ∷ ys) ≡ filter p xs ++ x ∷ filter p ys
        → (if b then z ∷ filter p (xs ++ x ∷ ys) else filter p (xs ++ x ∷ ys)) ≡ (if b then z ∷ filter p xs else filter p xs) ++ x ∷ filter p ys
    at true ih = ap (λ zs. z ∷ zs) ih
    at false ih = ih

-- what is refused of a field without a value
pub default_refused : {X : Type 0} (o : Writing) (fs : Fields) (f : FieldShape) (key : List ℕ) (ms : Members) (written : Result Value Refusal)
    (result : Result X Refusal) → is_written_default o fs f ≡ true → key ≡ key_of_field o f → IfErr written (λ r. r ≡ refused.Memory)
    → IfErr result (IsMemberRefused key written ms) → IfErr result (IsDefaultRefused o fs f ms)
default_refused o fs f key ms written (Ok x) is named memory h = tt
default_refused o fs f key ms written (Err r) is named memory (inl h) = rw (← named) (inl (is, h.0, h.1))
default_refused o fs f key ms (Ok tree) (Err r) is named memory (inr h) = inr h.1
default_refused o fs f key ms (Err below) (Err refused.Memory) is named memory (inr h) = inr refl
default_refused o fs f key ms (Err below) (Err (refused.Rule rule steps)) is named memory (inr h) =
    let other : refused.Rule rule h.1.0 ≡ refused.Memory = sym h.1.1 ∙ memory in
    absurd (cc)

module _ (shape : Shape) (o : Writing) where
  -- where defaults are skipped, no line is written
  pub skipped : (fs : Fields) (gs : List FieldShape) → o.options.skip_default_fields ≡ true → default_lines shape o fs gs ≡ []
  skipped fs [] h = refl
  skipped fs (g ∷ gs) h = rw h (skipped fs gs h)

  pub default_lines-append : (fs : Fields) (xs ys : List FieldShape) → default_lines shape o fs (xs ++ ys) ≡ default_lines shape o fs xs ++ default_lines shape o fs ys
  default_lines-append fs xs ys =
      ap (map (default_line shape o)) (filter-append (is_written_default o fs) xs ys)
      ∙ map-append (default_line shape o) (filter (is_written_default o fs) xs) (filter (is_written_default o fs) ys)

  -- one field more
  pub defaults_more : (fs : Fields) (gs : List FieldShape) (i : ℕ) (g : FieldShape) (r : Option Members) (ms ns : Members) → i < length gs → g ≡ get_or gs i g
      → with_lines (default_lines shape o fs (take i gs)) r ≡ Some ms → with_lines (default_lines shape o fs (g ∷ [])) (Some ms) ≡ Some ns
      → with_lines (default_lines shape o fs (take (i + 1) gs)) r ≡ Some ns
  defaults_more fs gs i g r ms ns within is so more =
      ap (λ xs. with_lines (default_lines shape o fs xs) r) (take_more gs i g within is)
      ∙ ap (λ ls. with_lines ls r) (default_lines-append fs (take i gs) (g ∷ []))
      ∙ with_lines-append (default_lines shape o fs (take i gs)) (default_lines shape o fs (g ∷ [])) r
      ∙ ap (with_lines (default_lines shape o fs (g ∷ []))) so ∙ more

  pub defaults_done : (fs : Fields) (gs : List FieldShape) (i : ℕ) (r : Option Members) (ms : Members) → length gs ≤ i
      → with_lines (default_lines shape o fs (take i gs)) r ≡ Some ms → with_lines (default_lines shape o fs gs) r ≡ Some ms
  defaults_done fs gs i r ms past so = ap (λ xs. with_lines (default_lines shape o fs xs) r) (sym (take_all gs i past)) ∙ so

  pub keys_of_defaults : (s : List ℕ) (gs : List FieldShape)
      → list_any (λ (l : Line). bytes_eq l.0 s) (map (default_line shape o) gs) ≡ list_any (λ k. bytes_eq k s) (map (key_of_field o) gs)
  keys_of_defaults s [] = refl
  keys_of_defaults s (g ∷ gs) = ap (λ b. bytes_eq (key_of_field o g) s || b) (keys_of_defaults s gs)

  or_back : (a b : Bool) → (a || b) ≡ true → (b || a) ≡ true
  or_back true true h = refl
  or_back true false h = refl
  or_back false true h = refl
  or_back false false h = h

  module _ (k : Kind) (c : Content) (ms ns : Members) (first : field_members shape o (declared_of shape (type_of k)) c ≡ Some ms)
      (plain : is_object_type shape (type_of k) ≡ true) (i : ℕ) (g : FieldShape) (within : i < length (declared_of shape (type_of k)))
      (is : g ≡ get_or (declared_of shape (type_of k)) i g) (so : with_lines (default_lines shape o (fields c) (take i (declared_of shape (type_of k)))) (Some ms) ≡ Some ns) where
    -- a second field of one key
    default_twice : is_written_default o (fields c) g ≡ true → has_key (key_of_field o g) ns ≡ true
        → Stops shape o (message c) k fault.DuplicateField (Key (key_of_field o g) ∷ [])
    default_twice written h =
        let gs : List FieldShape = declared_of shape (type_of k) in
        let key : List ℕ = key_of_field o g in
        let p : FieldShape → Bool = is_written_default o (fields c) in
        let before : List FieldShape = filter p (take i gs) in
        let behind : List FieldShape = filter p (drop (suc i) gs) in
        let listed : filter p gs ≡ before ++ g ∷ behind =
        ap (filter p) (split_at gs i g within is) ∙ filter_all p (take i gs) g (drop (suc i) gs) written in
        let lines : default_lines shape o (fields c) gs ≡ map (default_line shape o) before ++ default_line shape o g ∷ map (default_line shape o) behind =
        ap (map (default_line shape o)) listed ∙ map-append (default_line shape o) before (g ∷ behind) in
        let none : collected (field_lines shape o gs (fields c) ++ default_lines shape o (fields c) gs) ≡ None =
        with_lines-append (field_lines shape o gs (fields c)) (default_lines shape o (fields c) gs) (Some no_members)
        ∙ ap (with_lines (default_lines shape o (fields c) gs)) first
        ∙ ap (λ ls. with_lines ls (Some ms)) lines
        ∙ with_lines_twice (map (default_line shape o) before) (default_line shape o g) (map (default_line shape o) behind) (Some ms) ns so h in
        let there : (list_any (λ x. bytes_eq x key) (map (key_of_field o) before) || list_any (λ x. bytes_eq x key) (value_keys o gs (fields c))) ≡ true =
        sym (keys_of_lines key (map (default_line shape o) before) ms ns so
        ∙ ap (λ b. b || has_key key ms) (keys_of_defaults key before)
        ∙ ap (λ b. list_any (λ x. bytes_eq x key) (map (key_of_field o) before) || b) (fields_there shape o gs key (fields c) ms first)) ∙ h in
        let any : list_any (λ x. bytes_eq x key) (value_keys o gs (fields c) ++ map (key_of_field o) before) ≡ true =
        list_any-append (λ x. bytes_eq x key) (value_keys o gs (fields c)) (map (key_of_field o) before)
        ∙ or_back (list_any (λ x. bytes_eq x key) (map (key_of_field o) before)) (list_any (λ x. bytes_eq x key) (value_keys o gs (fields c))) there in
        let keys : written_keys o false gs (fields c) ≡ (value_keys o gs (fields c) ++ map (key_of_field o) before) ++ key ∷ map (key_of_field o) behind =
        ap (λ xs. value_keys o gs (fields c) ++ map (key_of_field o) xs) listed
        ∙ ap (λ xs. value_keys o gs (fields c) ++ xs) (map-append (key_of_field o) before (g ∷ behind))
        ∙ sym (append_assoc (value_keys o gs (fields c)) (map (key_of_field o) before) (key ∷ map (key_of_field o) behind)) in (
          message_none shape o k c plain none,
          λ all. broken_key shape o k c key fault.DuplicateField plain
              (key_is_twice gs key keys (key_twice key (value_keys o gs (fields c) ++ map (key_of_field o) before) key (map (key_of_field o) behind) any refl)),
        )
      where
        key_is_twice : (gs : List FieldShape) (key : List ℕ) {keys : List (List ℕ)} → written_keys o false gs (fields c) ≡ keys → is_twice key keys ≡ true
            → is_twice key (written_keys o false gs (fields c)) ≡ true
        key_is_twice gs key e h = ap (is_twice key) e ∙ h

    pub default_stops : (r : Refusal) → IsDefaultRefused o (fields c) g ns r → Refused shape o (message c) k r
    default_stops r (inl h) = refused_key shape o (message c) k (key_of_field o g) fault.DuplicateField r h.2 (default_twice h.0 h.1)
    default_stops r (inr h) = rw h tt

  -- the same over a list that is that of the type
  pub default_stops_in : (k : Kind) (c : Content) (ms ns : Members) (gs : List FieldShape) → declared_of shape (type_of k) ≡ gs
      → field_members shape o (declared_of shape (type_of k)) c ≡ Some ms → is_object_type shape (type_of k) ≡ true
      → (i : ℕ) (g : FieldShape) (r : Refusal) → i < length gs → g ≡ get_or gs i g
      → with_lines (default_lines shape o (fields c) (take i gs)) (Some ms) ≡ Some ns → IsDefaultRefused o (fields c) g ns r → Refused shape o (message c) k r
  default_stops_in k c ms ns gs same first plain i g r =
      subst (λ xs. i < length xs → g ≡ get_or xs i g → with_lines (default_lines shape o (fields c) (take i xs)) (Some ms) ≡ Some ns
      → IsDefaultRefused o (fields c) g ns r → Refused shape o (message c) k r) same
      (λ within is so h. default_stops k c ms ns first plain i g within is so r h)

  -- a message with a tree
  pub message_made : (k : Kind) (c : Content) (ms ns : Members) → is_object_type shape (type_of k) ≡ true
      → keeps_float (declared_of shape (type_of k)) (kept c) ≡ false → field_members shape o (declared_of shape (type_of k)) c ≡ Some ms
      → with_lines (default_lines shape o (fields c) (declared_of shape (type_of k))) (Some ms) ≡ Some ns → tells shape o (message c) (one k) ≡ Some (object ns)
  message_made k c ms ns plain whole first rest =
      let gs : List FieldShape = declared_of shape (type_of k) in
      message_told shape o k c ns plain whole
      (with_lines-append (field_lines shape o gs (fields c)) (default_lines shape o (fields c) gs) (Some no_members)
      ∙ ap (with_lines (default_lines shape o (fields c) gs)) first ∙ rest)
