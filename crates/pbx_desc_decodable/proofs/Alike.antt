-- Types of two shapes whose fields read alike: what means something as a message of the one, does as one of the other.
use Rattle.std.proofs.Common.{◌≡◌, ℕ, zero, suc, Bool, true, false, List, [], ◌∷◌, Option, Some, None, ◌⊎◌, inl, inr, refl, sym, ap, ◌∙◌, subst}
use Rattle.std.specs.Prelude.{option_and_then}
use Rattle.std.specs.Option.{is_some}
use Rattle.pbx_wire.specs.declared.rec.Rec.{Rec}
use Rattle.pbx_wire.proofs.Written.{both}
use Rattle.pbx_content.specs.declared.shape.Kind.{Kind}
use Rattle.pbx_content.specs.declared.shape.Kind.TheVariants as kind
use Rattle.pbx_content.specs.declared.shape.Cardinality.{Cardinality}
use Rattle.pbx_content.specs.declared.shape.Cardinality.TheVariants.{Singular, Repeated, Map}
use Rattle.pbx_content.specs.declared.shape.FieldShape.{FieldShape}
use Rattle.pbx_content.specs.declared.shape.Shape.{Shape}
use Rattle.pbx_content.specs.Records.{number_of, records_in}
use Rattle.pbx_content.specs.Shape.{fields_of, field_of, is_float}
use Rattle.pbx_content.specs.Meaning.{meaning}
use Rattle.pbx_content.specs.Sound.{IsProper}
use Rattle.pbx_content.specs.Faults.{message_fields, payload_fields}
use Rattle.pbx_content.proofs.OntoSplits.{not_there, is_plain, inner_at, meaning_splits}
use Rattle.pbx_content.proofs.OntoFields.{AreAbove}
use Rattle.pbx_content.proofs.FaultyRecords.{FailsInside, RecFails, value_fails, fails_value}
use Rattle.pbx_content.proofs.FaultyFields.{FailsAt, rec_fails, fail_rec}
use Rattle.pbx_content.proofs.FaultyLaw.{are_above, one_inner}
use Rattle.pbx_content.proofs.FaultyFirst.{found_number, found_own}
use Rattle.pbx_desc_decodable.proofs.Reading.{nothing_means}
use Rattle.pbx_desc_decodable.proofs.Options.{is_no_map}

-- ---- fields that read alike

-- one kind that is no message, or messages of types that are paired
abbrev pub KindsAlike : (ℕ → ℕ → Type 0) → Kind → Kind → Type 0
KindsAlike pairs k l = ((k ≡ l) × (is_plain k ≡ true)) ⊎ ((t : ℕ) × (u : ℕ) × (k ≡ kind.Message t) × (l ≡ kind.Message u) × pairs t u)

-- fields of no map, of one cardinality and of kinds that are alike
pub record ReadAlike (pairs : ℕ → ℕ → Type 0) (f g : FieldShape) : Type 0 where
  pub cardinality : f.cardinality ≡ g.cardinality
  pub no_map : is_no_map f.cardinality ≡ true
  pub kind : KindsAlike pairs f.kind g.kind

-- the field of the number, which reads like this one
pub record FoundAlike (pairs : ℕ → ℕ → Type 0) (n : ℕ) (fs : List FieldShape) (g : FieldShape) : Type 0 where
  pub field : FieldShape
  pub found : field_of n fs ≡ Some field
  pub alike : ReadAlike pairs field g

-- in the first of the shapes, each type has, of each field of its pair in the second, a field that reads alike
pub record AreAlike (one other : Shape) (pairs : ℕ → ℕ → Type 0) : Type 0 where
  pub one_proper : IsProper one
  pub other_proper : IsProper other
  pub fields : (t u : ℕ) → pairs t u → (n : ℕ) (g : FieldShape) → field_of n (fields_of other u) ≡ Some g → FoundAlike pairs n (fields_of one t) g

-- ---- a record of a field

plain_fields : (shape : Shape) (c : Cardinality) (k : Kind) → is_no_map c ≡ true → is_plain k ≡ true → payload_fields shape c k ≡ None
plain_fields shape c k clear plain = by c clear
  where
    own : (k : Kind) → is_plain k ≡ true → message_fields shape k ≡ None
    own (kind.Message t) plain = absurd cc
    own k plain = refl

    by : (c : Cardinality) → is_no_map c ≡ true → payload_fields shape c k ≡ None
    by Singular clear = own k plain
    by Repeated clear = own k plain
    by (Map key) clear = absurd cc

module _ (one other : Shape) (levels : ℕ) (pairs : ℕ → ℕ → Type 0) where
  -- payloads that mean nothing as messages of a type, mean nothing as ones of its pair
  abbrev pub InnerAlike : Type 0
  InnerAlike =
      (t u : ℕ) (p : List ℕ) → pairs t u → inner_at other levels (fields_of other u) (p ∷ []) ≡ None
      → inner_at one levels (fields_of one t) (p ∷ []) ≡ None

  plain_alike : (c : Cardinality) (k : Kind) (r : Rec) → is_no_map c ≡ true → is_plain k ≡ true → RecFails other (inner_at other levels) c k r
      → RecFails one (inner_at one levels) c k r
  plain_alike c k r clear plain (inl e) = inl e
  plain_alike c k r clear plain (inr (inl h)) = inr (inl h)
  plain_alike c k r clear plain (inr (inr (inl h))) = inr (inr (inl h))
  plain_alike c k r clear plain (inr (inr (inr h))) =
      let bad : Some h.gs ≡ None = sym h.of_fields ∙ plain_fields other c k clear plain in
      absurd cc

  inside_alike : (t u : ℕ) (r : Rec) → pairs t u → InnerAlike → FailsInside other (inner_at other levels) (Some (fields_of other u)) r
      → FailsInside one (inner_at one levels) (Some (fields_of one t)) r
  inside_alike t u r pair inner h =
      let own : h.gs ≡ fields_of other u = (let same : Some (fields_of other u) ≡ Some h.gs = h.of_fields in cc) in
      let none : inner_at other levels (fields_of other u) (h.payload ∷ []) ≡ None =
      subst (λ (gs : List FieldShape). inner_at other levels gs (h.payload ∷ []) ≡ None) own h.none in
      record { gs = fields_of one t; payload = h.payload; of_fields = refl; of_record = h.of_record; none = inner t u h.payload pair none }

  message_alike : (c : Cardinality) (t u : ℕ) (r : Rec) → is_no_map c ≡ true → pairs t u → InnerAlike
      → RecFails other (inner_at other levels) c (kind.Message u) r → RecFails one (inner_at one levels) c (kind.Message t) r
  message_alike (Map key) t u r clear pair inner h = absurd cc
  message_alike Singular t u r clear pair inner (inl e) = inl e
  message_alike Singular t u r clear pair inner (inr (inl h)) = let bad : false ≡ true = h.0 in absurd cc
  message_alike Singular t u r clear pair inner (inr (inr (inl h))) = let bad : false ≡ true = h.0 in absurd cc
  message_alike Singular t u r clear pair inner (inr (inr (inr h))) = inr (inr (inr (inside_alike t u r pair inner h)))
  message_alike Repeated t u r clear pair inner (inl e) = inl e
  message_alike Repeated t u r clear pair inner (inr (inl h)) = let bad : false ≡ true = h.0 in absurd cc
  message_alike Repeated t u r clear pair inner (inr (inr (inl h))) = let bad : false ≡ true = h.0 in absurd cc
  message_alike Repeated t u r clear pair inner (inr (inr (inr h))) = inr (inr (inr (inside_alike t u r pair inner h)))

  rec_alike : (c : Cardinality) (k l : Kind) (r : Rec) → is_no_map c ≡ true → KindsAlike pairs k l → InnerAlike
      → RecFails other (inner_at other levels) c l r → RecFails one (inner_at one levels) c k r
  rec_alike c k l r clear (inl (is, plain)) inner h =
      plain_alike c k r clear plain (subst (λ (x : Kind). RecFails other (inner_at other levels) c x r) (sym is) h)
  rec_alike c k l r clear (inr (t, u, is, other_is, pair)) inner h =
      subst (λ (x : Kind). RecFails one (inner_at one levels) c x r) (sym is)
      (message_alike c t u r clear pair inner (subst (λ (x : Kind). RecFails other (inner_at other levels) c x r) other_is h))

  float_alike : (k l : Kind) → KindsAlike pairs k l → is_float l ≡ false → is_float k ≡ false
  float_alike k l (inl (is, plain)) read = ap is_float is ∙ read
  float_alike k l (inr (t, u, is, other_is, pair)) read = ap is_float is

  -- a record that fails as one of the second fails as one of the first
  fails_alike : (fs gs : List FieldShape) (r : Rec) → InnerAlike
      → ((g : FieldShape) → field_of (number_of r) gs ≡ Some g → FoundAlike pairs (number_of r) fs g)
      → FailsAt other (inner_at other levels) gs r → FailsAt one (inner_at one levels) fs r
  fails_alike fs gs r inner found h =
      let f = found h.field (ap (λ n. field_of n gs) h.numbered ∙ h.found) in
      let read : is_float f.field.kind ≡ false = float_alike f.field.kind h.field.kind f.alike.kind h.read in
      let fault : RecFails other (inner_at other levels) f.field.cardinality h.field.kind r =
      subst (λ (c : Cardinality). RecFails other (inner_at other levels) c h.field.kind r) (sym f.alike.cardinality)
      (value_fails other (inner_at other levels) h.field r h.read h.none) in
      record {
        field = f.field;
        found = found_own (number_of r) fs f.field f.found;
        read = read;
        numbered = found_number (number_of r) fs f.field f.found;
        none = fails_value one (inner_at one levels) f.field r read
            (rec_alike f.field.cardinality f.field.kind h.field.kind r f.alike.no_map f.alike.kind inner fault);
      }

  -- what means something alone in the first does in the second
  alone_alike : (fs gs : List FieldShape) (r : Rec) → AreAbove 0 gs → InnerAlike
      → ((g : FieldShape) → field_of (number_of r) gs ≡ Some g → FoundAlike pairs (number_of r) fs g)
      → is_some (meaning one levels fs (r ∷ [])) ≡ true → is_some (meaning other levels gs (r ∷ [])) ≡ true
  alone_alike fs gs r above inner found e = at (is_some (meaning other levels gs (r ∷ []))) refl
    where
      at : (b : Bool) → is_some (meaning other levels gs (r ∷ [])) ≡ b → is_some (meaning other levels gs (r ∷ [])) ≡ true
      at true d = d
      at false d =
          let bad : true ≡ false = sym e ∙ fail_rec one levels fs r (fails_alike fs gs r inner found (rec_fails other levels gs r above d)) in
          absurd cc

-- ---- records one by one

-- where each record that means something alone in two shapes does in a third, so do all together
pub together : (s t u : Shape) (levels : ℕ) (es fs gs : List FieldShape)
    → ((r : Rec) → is_some (meaning s levels es (r ∷ [])) ≡ true → is_some (meaning t levels fs (r ∷ [])) ≡ true
    → is_some (meaning u levels gs (r ∷ [])) ≡ true)
    → (rs : List Rec) → is_some (meaning s levels es rs) ≡ true → is_some (meaning t levels fs rs) ≡ true → is_some (meaning u levels gs rs) ≡ true
together s t u levels es fs gs each [] a b = nothing_means u levels gs
together s t u levels es fs gs each (r ∷ rs) a b =
    let x = both (is_some (meaning s levels es (r ∷ []))) (is_some (meaning s levels es rs)) (sym (meaning_splits s levels es (r ∷ []) rs) ∙ a) in
    let y = both (is_some (meaning t levels fs (r ∷ []))) (is_some (meaning t levels fs rs)) (sym (meaning_splits t levels fs (r ∷ []) rs) ∙ b) in
    let first = each r x.0 y.0 in
    let rest = together s t u levels es fs gs each rs x.1 y.1 in
    meaning_splits u levels gs (r ∷ []) rs ∙ rw (first, rest) refl

-- ---- levels

module _ (one other : Shape) (pairs : ℕ → ℕ → Type 0) where
  types_alike : (levels t u : ℕ) (rs : List Rec) → AreAlike one other pairs → InnerAlike one other levels pairs → pairs t u
      → is_some (meaning one levels (fields_of one t) rs) ≡ true → is_some (meaning other levels (fields_of other u) rs) ≡ true
  types_alike levels t u rs alike inner pair e =
      together one one other levels (fields_of one t) (fields_of one t) (fields_of other u)
      (λ r a b. alone_alike one other levels pairs (fields_of one t) (fields_of other u) r
      (are_above other alike.other_proper (fields_of other u) (inl (u, refl))) inner (alike.fields t u pair (number_of r)) a) rs e e

  no_level : (shape : Shape) (gs : List FieldShape) (p : List ℕ) → inner_at shape 0 gs (p ∷ []) ≡ None
  unfolding inner_at
  no_level shape gs p = refl

  none_alike : (levels t u : ℕ) (o : Option (List Rec))
      → ((rs : List Rec) → is_some (meaning one levels (fields_of one t) rs) ≡ true → is_some (meaning other levels (fields_of other u) rs) ≡ true)
      → option_and_then (meaning other levels (fields_of other u)) o ≡ None → option_and_then (meaning one levels (fields_of one t)) o ≡ None
  none_alike levels t u None more e = refl
  none_alike levels t u (Some rs) more e = at (is_some (meaning one levels (fields_of one t) rs)) refl
    where
      at : (b : Bool) → is_some (meaning one levels (fields_of one t) rs) ≡ b → meaning one levels (fields_of one t) rs ≡ None
      at false d = not_there (meaning one levels (fields_of one t) rs) d
      at true d = let bad : true ≡ false = sym (more rs d) ∙ ap is_some e in absurd cc

  inner_alike : (levels : ℕ) → AreAlike one other pairs → InnerAlike one other levels pairs
  inner_alike zero alike t u p pair e = no_level one (fields_of one t) p
  inner_alike (suc levels) alike t u p pair e =
      one_inner one levels (fields_of one t) p
      ∙ none_alike levels t u (records_in levels p) (λ rs. types_alike levels t u rs alike (inner_alike levels alike) pair)
      (sym (one_inner other levels (fields_of other u) p) ∙ e)

  -- a record of fields that read alike
  pub means_alike : (levels : ℕ) (fs gs : List FieldShape) (r : Rec) → AreAlike one other pairs → AreAbove 0 gs
      → ((g : FieldShape) → field_of (number_of r) gs ≡ Some g → FoundAlike pairs (number_of r) fs g)
      → is_some (meaning one levels fs (r ∷ [])) ≡ true → is_some (meaning other levels gs (r ∷ [])) ≡ true
  means_alike levels fs gs r alike above found e = alone_alike one other levels pairs fs gs r above (inner_alike levels alike) found e
