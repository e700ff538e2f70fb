-- Messages of `google.protobuf.Any`.
use Rattle.std.proofs.Common.{◌≡◌, ◌⊎◌, inl, inr, ℕ, ◌≤◌, List, [], ◌∷◌, ◌++◌, map, filter, length, reverse, codes, Bool, true, false, ◌||◌, if◌then◌else◌, Option, Some, None}
use Rattle.std.proofs.Common.{nat_le, Result, Ok, Err, IfOk, IsOkAnd, IfErr, refl, sym, ap, subst, ◌∙◌, arith}
use Rattle.std.specs.Prelude.{option_and_then, option_map}
use Rattle.std.specs.List.{list_any}
use Rattle.std.specs.Str.{bytes_eq}
use Rattle.std.proofs.lemmas.Bool.Decides.{nat_tests}
use Rattle.std.proofs.lemmas.List.Folds.{list_any-append}
use Rattle.serde_json.specs.Data.{Data, object, Members, no_members}
use Rattle.serde_json.specs.View.{view}
use Rattle.serde_json.specs.declared.value.Value.{Value}
use Rattle.pbx_wire.specs.declared.rec.Rec.{Rec}
use Rattle.pbx_content.specs.Content as content
use Rattle.pbx_content.specs.Content.{Content, Fields, message, fields, kept, get}
use Rattle.pbx_content.specs.Encoding.{type_of}
use Rattle.pbx_content.specs.Meaning.{meaning_of}
use Rattle.pbx_content.specs.Shape.{declared_of}
use Rattle.pbx_content.specs.declared.shape.FieldShape.{FieldShape}
use Rattle.pbx_content.specs.declared.shape.Kind.{Kind}
use Rattle.pbx_content.specs.declared.shape.Kind.TheVariants as kind
use Rattle.pbx_content.specs.declared.shape.Shape.{Shape}
use Rattle.pbx_content_codec.specs.View.{content_of}
use Rattle.pbx_wkt_types.specs.Shapes.{form_of}
use Rattle.pbx_wkt_types.specs.declared.form.Form.{Form}
use Rattle.pbx_wkt_types.specs.declared.form.Form.TheVariants as forms
use Rattle.pbx_json_meaning.specs.Asked.{one}
use Rattle.pbx_json_meaning.specs.Canonical.{Writing, writing, tells, any_with, payload_in, payload_tree, tree_of_payload, keeps_float, key_of_field}
use Rattle.pbx_json_meaning.specs.Canonical.{is_written_default, has_key}
use Rattle.pbx_json_meaning.specs.Faults.{SomeWith}
use Rattle.pbx_json_meaning.specs.Forms.{is_object_form, is_object_type, text_at, bytes_at}
use Rattle.pbx_json_meaning.specs.Urls.{type_of_url, is_beside_type, stands_beside}
use Rattle.pbx_json_meaning.specs.WriteFaults.{WriteFaultAt, IsKeyFault, members, payload, parts_of, payload_parts, typed_parts, into_written, value_keys, written_keys, is_twice}
use Rattle.pbx_json_meaning.specs.declared.kind.JsonKind.{JsonKind}
use Rattle.pbx_json_meaning.specs.declared.kind.JsonKind.TheVariants as fault
use Rattle.pbx_json_meaning.specs.declared.options.SerializeOptions.{SerializeOptions}
use Rattle.pbx_json_meaning.specs.declared.place.Step.{Step}
use Rattle.pbx_json_meaning.specs.declared.place.Step.TheVariants.{Key, Index}
use Rattle.pbx_json_payload_laws.proofs.Payloads.{payloads_by_content}
use Rattle.pbx_json_writing.specs.Lines.{with_lines, collected, field_lines, default_lines}
use Rattle.pbx_json_writing.specs.Payloads.{IsPayloadOf}
use Rattle.pbx_json_writing.specs.Refusals.{Refused, IsPayloadRefused, IsTypeRefused, IsAnyRefused}
use Rattle.pbx_json_writing.specs.declared.any.Payload.{Payload}
use Rattle.pbx_json_writing.specs.declared.refusal.Refusal.{Refusal}
use Rattle.pbx_json_writing.specs.declared.refusal.Refusal.TheVariants as refused
use Rattle.pbx_json_writing.proofs.Collected.{with_lines-append, with_lines_none, keys_of_lines}
use Rattle.pbx_json_writing.proofs.OfDefaults.{keys_of_defaults}
use Rattle.pbx_json_writing.proofs.OfFields.{all_lines, lines_are, fields_there}
use Rattle.pbx_json_writing.proofs.OfForms.{own_told, own_parts}
use Rattle.pbx_json_writing.proofs.Refusing.{Stops, refused_key, refused_lifted}

-- ---- counting keys

there_once : (p : List ℕ → Bool) (xs : List (List ℕ)) → list_any p xs ≡ true → 1 ≤ length (filter p xs)
there_once p [] any = absurd (cc)
there_once p (x ∷ xs) any = at (p x) any (there_once p xs)
  where
    at : (b : Bool) → (b || list_any p xs) ≡ true → (list_any p xs ≡ true → 1 ≤ length (filter p xs))
        → 1 ≤ length (if b then x ∷ filter p xs else filter p xs)
    at true any ih = omega arith
    at false any ih = ih any

-- a key is there twice where it stands before others that it is among
first_twice : (s : List ℕ) (xs : List (List ℕ)) → bytes_eq s s ≡ true → list_any (λ x. bytes_eq x s) xs ≡ true → is_twice s (s ∷ xs) ≡ true
first_twice s xs own any =
    let once : 1 ≤ length (filter (λ x. bytes_eq x s) xs) = there_once (λ x. bytes_eq x s) xs any in
    rw own (grind (arith, nat_tests))

-- a key that is there twice is so with one more
one_more : (s k : List ℕ) (xs : List (List ℕ)) → is_twice s xs ≡ true → is_twice s (k ∷ xs) ≡ true
one_more s k xs h = at (bytes_eq k s)
  where
    two : 2 ≤ length (filter (λ x. bytes_eq x s) xs)
    two = grind (arith, nat_tests)

    at : (b : Bool) → nat_le 2 (length (if b then k ∷ filter (λ x. bytes_eq x s) xs else filter (λ x. bytes_eq x s) xs)) ≡ true
    at true = grind (arith, nat_tests)
    at false = h

-- ---- payloads that are objects of fields

beside_form : (f : Form) → is_beside_type f ≡ true → is_object_form f ≡ true
beside_form forms.Fields h = refl
beside_form _ h = absurd cc

-- the payload's fields stand beside the type, so it is an object
beside_object : (shape : Shape) (u : ℕ) → stands_beside shape u ≡ true → is_object_type shape u ≡ true
beside_object shape u h = beside_form (form_of shape u) h

module _ (shape : Shape) (w : Writing) where
  -- the members of an object's tree
  object_members : (u : ℕ) (c : Content) (ms : Members) → is_object_type shape u ≡ true → tells shape w (message c) (one (kind.Message u)) ≡ Some (object ms)
      → collected (all_lines shape w (declared_of shape u) (fields c)) ≡ Some ms
  object_members u (content.content fs ks) ms plain told =
      sym (lines_are shape w gs fs) ∙ at (keeps_float gs ks) _ (rw plain at told)
    where
      gs : List FieldShape
      gs = declared_of shape u

      at : (b : Bool) (r : Option Members) → (if b then None else option_map object r) ≡ Some (object ms) → r ≡ Some ms
      at true r e = absurd (cc)
      at false None e = absurd (cc)
      at false (Some ns) e = let same : object ns ≡ object ms = cc in ap Some (inner ns ms same)
        where
          inner : (ns ms : Members) → object ns ≡ object ms → ns ≡ ms
          inner ns ms e = cc

  -- the keys that are there are those that are written
  keys_there : (s : List ℕ) (gs : List FieldShape) (fs : Fields) (ms : Members) → collected (all_lines shape w gs fs) ≡ Some ms
      → has_key s ms ≡ list_any (λ k. bytes_eq k s) (written_keys w false gs fs)
  keys_there s gs fs ms so = at (collected (field_lines shape w gs fs)) refl (sym (with_lines-append (field_lines shape w gs fs) (default_lines shape w fs gs) (Some no_members)) ∙ so)
    where
      more : List FieldShape
      more = filter (is_written_default w fs) gs

      turned : (a b : Bool) → (a || b) ≡ (b || a)
      turned true true = refl
      turned true false = refl
      turned false true = refl
      turned false false = refl

      at : (r : Option Members) → collected (field_lines shape w gs fs) ≡ r → with_lines (default_lines shape w fs gs) r ≡ Some ms
          → has_key s ms ≡ list_any (λ k. bytes_eq k s) (value_keys w gs fs ++ map (key_of_field w) more)
      at None first e = let none : None ≡ Some ms = sym (with_lines_none (default_lines shape w fs gs)) ∙ e in absurd (cc)
      at (Some ns) first e =
          keys_of_lines s (default_lines shape w fs gs) ns ms e
          ∙ ap (λ b. b || has_key s ns) (keys_of_defaults shape w s more)
          ∙ ap (λ b. list_any (λ k. bytes_eq k s) (map (key_of_field w) more) || b) (fields_there shape w gs s fs ns first)
          ∙ turned (list_any (λ k. bytes_eq k s) (map (key_of_field w) more)) (list_any (λ k. bytes_eq k s) (value_keys w gs fs))
          ∙ sym (list_any-append (λ k. bytes_eq k s) (value_keys w gs fs) (map (key_of_field w) more))

  -- what a key breaks among fields alone, it breaks beside the type
  key_beside : (gs : List FieldShape) (fs : Fields) (ks : List Rec) (step : Step) (place : List Step) (rule : JsonKind)
      → IsKeyFault w (members false gs fs ks) step place rule → IsKeyFault w (members true gs fs ks) step place rule
  key_beside gs fs ks (Key s) place fault.DuplicateField h = (h.0, one_more s (codes "@type") (written_keys w false gs fs) h.1)
  key_beside gs fs ks (Key s) place fault.Float h = h
  key_beside gs fs ks (Key s) place _ h = absurd h.1
  key_beside gs fs ks (Index i) place rule h = absurd h

  object_parts : (u : ℕ) (p : Content) → is_object_type shape u ≡ true
      → parts_of shape (message p) (one (kind.Message u)) ≡ Ok (members false (declared_of shape u) (fields p) (kept p))
  object_parts u (content.content fs ks) plain = rw plain refl

  -- a rule that is broken in a payload is broken at the same place of the `Any` that it stands beside the type of
  fault_beside : (u : ℕ) (p c : Content) (k : Kind) (place : List Step) (rule : JsonKind) → is_object_type shape u ≡ true
      → parts_of shape (message c) (one k) ≡ Ok (members true (declared_of shape u) (fields p) (kept p))
      → WriteFaultAt shape w place (message p) (one (kind.Message u)) rule → WriteFaultAt shape w place (message c) (one k) rule
  fault_beside u p c k [] rule plain parts h = absurd (let bad : Ok (members false (declared_of shape u) (fields p) (kept p)) ≡ Err rule = sym (object_parts u p plain) ∙ h in cc)
  fault_beside u p c k (step ∷ place) rule plain parts h = rw parts (inside step (rw (object_parts u p plain) at h))
    where
      gs : List FieldShape
      gs = declared_of shape u

      inside : (step : Step)
          → IsKeyFault w (members false gs (fields p) (kept p)) step place rule
          ⊎ SomeWith (into_written w (members false gs (fields p) (kept p)) step) (λ next. WriteFaultAt shape w place next.0 next.1 rule)
          → IsKeyFault w (members true gs (fields p) (kept p)) step place rule
          ⊎ SomeWith (into_written w (members true gs (fields p) (kept p)) step) (λ next. WriteFaultAt shape w place next.0 next.1 rule)
      inside step (inl broken) = inl (key_beside gs (fields p) (kept p) step place rule broken)
      inside (Key s) (inr below) = inr below
      inside (Index i) (inr below) = inr below

-- ---- the tree of an `Any`

payload_unread : (shape : Shape) (o : SerializeOptions) (u : ℕ) (bytes : List ℕ) → meaning_of shape u bytes ≡ None → tree_of_payload shape o u bytes ≡ None
unfolding payload_tree
payload_unread shape o u bytes means = rw means refl

module _ (shape : Shape) (o : SerializeOptions) (k : Kind) (c : Content) (is : form_of shape (type_of k) ≡ forms.Any) where
  abbrev url : List ℕ
  url = text_at (get 1 (fields c))

  abbrev bytes : List ℕ
  bytes = bytes_at (get 2 (fields c))

  module _ (u : ℕ) (named : type_of_url shape url ≡ Some u) where
    any_is : tells shape (writing shape o) (message c) (one k) ≡ option_and_then (any_with shape url u) (tree_of_payload shape o u bytes)
    any_is = own_told shape (writing shape o) forms.Any k c is refl ∙ ap (payload_in shape (writing shape o) url bytes) named

    any_holds : parts_of shape (message c) (one k) ≡ payload_parts shape u (meaning_of shape u bytes)
    any_holds = own_parts shape (writing shape o) forms.Any k c is refl ∙ ap (typed_parts shape bytes) named

    -- a payload that does not decode
    pub payload_stops : meaning_of shape u bytes ≡ None → Stops shape (writing shape o) (message c) k fault.AnyPayload []
    payload_stops means = (
      any_is ∙ ap (option_and_then (any_with shape url u)) (payload_unread shape o u bytes means),
      λ holds. any_holds ∙ ap (payload_parts shape u) means,
    )

    pub payload_refused : (r : Refusal) → IsPayloadRefused (meaning_of shape u bytes) r → Refused shape (writing shape o) (message c) k r
    payload_refused refused.Memory h = tt
    payload_refused (refused.Rule rule steps) h = rw (h.1, h.2) (payload_stops h.0)

  module _ (p : Payload) (has : IsPayloadOf shape (fields c) p) where
    abbrev u : ℕ
    u = p.type_at

    abbrev inner : Content
    inner = content_of p.contents

    any_by_content : tells shape (writing shape o) (message c) (one k)
        ≡ option_and_then (any_with shape url u) (tells shape (writing shape o) (message inner) (one (kind.Message u)))
    any_by_content = any_is u has.named ∙ ap (option_and_then (any_with shape url u)) (payloads_by_content shape o u bytes inner has.means)

    pub any_told : (s : List ℕ) → s ≡ url → (written result : Result Value Refusal)
        → IfOk written (λ tree. tells shape (writing shape o) (message inner) (one (kind.Message u)) ≡ Some (view tree))
        → IfOk result (λ any. IsOkAnd written (λ tree. any_with shape s u (view tree) ≡ Some (view any)))
        → IfOk result (λ any. tells shape (writing shape o) (message c) (one k) ≡ Some (view any))
    any_told s own written (Err r) told made = tt
    any_told s own (Err r) (Ok any) told made = absurd made
    any_told s own (Ok tree) (Ok any) told made =
        any_by_content ∙ ap (option_and_then (any_with shape url u)) told ∙ ap (λ x. any_with shape x u (view tree)) (sym own) ∙ made

    below_none : tells shape (writing shape o) (message inner) (one (kind.Message u)) ≡ None → tells shape (writing shape o) (message c) (one k) ≡ None
    below_none none = any_by_content ∙ ap (option_and_then (any_with shape url u)) none

    parts_is : (b : Bool) → stands_beside shape u ≡ b
        → parts_of shape (message c) (one k) ≡ (if b then Ok (members true (declared_of shape u) (fields inner) (kept inner)) else Ok (payload u inner))
    parts_is b beside =
        any_holds u has.named ∙ ap (payload_parts shape u) has.means
        ∙ ap (λ x. if x then Ok (members true (declared_of shape u) (fields inner) (kept inner)) else Ok (payload u inner)) beside

    beside_stops : stands_beside shape u ≡ true → (rule : JsonKind) (place : List Step)
        → Stops shape (writing shape o) (message inner) (kind.Message u) rule place → Stops shape (writing shape o) (message c) k rule place
    beside_stops beside rule place stops = (
      below_none stops.0,
      λ holds. fault_beside shape (writing shape o) u inner c k place rule (beside_object shape u beside) (parts_is true beside) (stops.1 (u, refl, has.sound)),
    )

    under_stops : stands_beside shape u ≡ false → (rule : JsonKind) (place : List Step)
        → Stops shape (writing shape o) (message inner) (kind.Message u) rule place → Stops shape (writing shape o) (message c) k rule (Key (codes "value") ∷ place)
    under_stops beside rule place stops = (below_none stops.0, λ holds. rw (parts_is false beside) (inr (stops.1 (u, refl, has.sound))))

    type_stops : stands_beside shape u ≡ true → (ms : Members) → tells shape (writing shape o) (message inner) (one (kind.Message u)) ≡ Some (object ms)
        → has_key (codes "@type") ms ≡ true → Stops shape (writing shape o) (message c) k fault.DuplicateField (Key (codes "@type") ∷ [])
    type_stops beside ms told there =
        let gs : List FieldShape = declared_of shape u in
        let among : list_any (λ x. bytes_eq x (codes "@type")) (written_keys (writing shape o) false gs (fields inner)) ≡ true =
        sym (keys_there shape (writing shape o) (codes "@type") gs (fields inner) ms
        (object_members shape (writing shape o) u inner ms (beside_object shape u beside) told)) ∙ there in (
          any_by_content ∙ ap (option_and_then (any_with shape url u)) told ∙ rw (beside, there) refl,
          λ holds. rw (parts_is true beside) (inl (refl, first_twice (codes "@type") (written_keys (writing shape o) false gs (fields inner)) refl among)),
        )

    type_refused : stands_beside shape u ≡ true → (d : Data) → tells shape (writing shape o) (message inner) (one (kind.Message u)) ≡ Some d → (r : Refusal)
        → IsTypeRefused d r → Refused shape (writing shape o) (message c) k r
    type_refused beside d told r (inl memory) = rw memory tt
    type_refused beside d told r (inr h) =
        refused_key shape (writing shape o) (message c) k (codes "@type") fault.DuplicateField r h.3
        (type_stops beside h.0 (told ∙ ap Some h.1) h.2)

    below_refused : (b : Bool) → stands_beside shape u ≡ b → (written : Result Value Refusal) (r : Refusal)
        → IfOk written (λ tree. tells shape (writing shape o) (message inner) (one (kind.Message u)) ≡ Some (view tree))
        → IfErr written (Refused shape (writing shape o) (message inner) (kind.Message u))
        → IsAnyRefused b written r → Refused shape (writing shape o) (message c) k r
    below_refused true beside (Ok tree) r told err h = type_refused beside (view tree) told r h
    below_refused false beside (Ok tree) r told err h = rw h tt
    below_refused true beside (Err refused.Memory) r told err h = rw h tt
    below_refused true beside (Err (refused.Rule rule steps)) r told err h = rw h (beside_stops beside rule (reverse steps) err)
    below_refused false beside (Err below) r told err h =
        refused_lifted shape (writing shape o) (message c) k (Key (codes "value")) below r h
        (λ rule steps is_rule. under_stops beside rule (reverse steps) (subst (Refused shape (writing shape o) (message inner) (kind.Message u)) is_rule err))

    pub any_refused : (written result : Result Value Refusal)
        → IfOk written (λ tree. tells shape (writing shape o) (message inner) (one (kind.Message u)) ≡ Some (view tree))
        → IfErr written (Refused shape (writing shape o) (message inner) (kind.Message u))
        → IfErr result (IsAnyRefused (stands_beside shape u) written) → IfErr result (Refused shape (writing shape o) (message c) k)
    any_refused written (Ok any) told err h = tt
    any_refused written (Err r) told err h = below_refused (stands_beside shape u) refl written r told err h
