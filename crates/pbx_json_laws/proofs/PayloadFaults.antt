-- A payload under `value` is read exactly where it has no fault.
use Rattle.std.proofs.Common.{◌≡◌, inl, inr, ℕ, ◌||◌, List, [], Bool, true, false, codes, if◌then◌else◌, Option, Some, None, option_map, option_and_then, refl, ap, sym, ◌∙◌, subst}
use Rattle.std.specs.Prelude.{Result, Ok, Err}
use Rattle.serde_json.specs.Data.{Data, null, boolean, number, string, array, object, Members, no_members, member}
use Rattle.serde_json.specs.Find.{get_member}
use Rattle.pbx_content.specs.Content.{Content, Val}
use Rattle.pbx_content.specs.Shape.{declared_of}
use Rattle.pbx_content.specs.Sound.{IsProper, AreProper}
use Rattle.pbx_content.specs.declared.shape.Kind.{Kind}
use Rattle.pbx_content.specs.declared.shape.Kind.TheVariants as kind
use Rattle.pbx_content.specs.declared.shape.Shape.{Shape}
use Rattle.pbx_wkt_types.specs.Shapes.{form_of}
use Rattle.pbx_wkt_types.specs.declared.form.Form.{Form}
use Rattle.pbx_wkt_types.specs.declared.form.Form.TheVariants as forms
use Rattle.pbx_json_meaning.specs.Asked.{Asked, one}
use Rattle.pbx_json_meaning.specs.Faults.{payload, into, KeyBreaks, FaultAt, SomeWith}
use Rattle.pbx_json_meaning.specs.Forms.{Own, a_list, a_map, beside, under, at_once, is_struct, is_list_value, struct_read, list_value_read, kind_at, type_at, holding, value_with, itself}
use Rattle.pbx_json_meaning.specs.Forms.{value_read, packed, under_value, payload_read, typed_read, members_read, any_read, form_read, own_read}
use Rattle.pbx_json_meaning.specs.Stands.{Reading, payload_said, value_said, as_message, message_in, message_as, said, entries_said}
use Rattle.pbx_json_meaning.specs.Trees.{AreAscendingKeys}
use Rattle.pbx_json_meaning.specs.Urls.{is_type_key, without_type, is_value_key, is_type_or_value, type_of_url, type_url, stands_beside}
use Rattle.pbx_json_meaning.specs.declared.kind.JsonKind.{JsonKind}
use Rattle.pbx_json_meaning.specs.declared.kind.JsonKind.TheVariants as fault
use Rattle.pbx_json_meaning.specs.declared.place.Step.{Step}
use Rattle.pbx_json_meaning.specs.declared.place.Step.TheVariants.{Key, Index}
use Rattle.pbx_json_laws.proofs.CleanParts.{IsNeverRead, IsBroken, there_is}
use Rattle.pbx_json_laws.proofs.FaultParts.{FaultOf, MembersFaulty, faulty_in, FaultIn, there_from}
use Rattle.pbx_json_laws.proofs.In.{In, got_in, in_got}
use Rattle.pbx_json_laws.proofs.Parts.{if_some, neither}
use Rattle.pbx_json_laws.proofs.Payloads.{value_key, value-said, are_expected, expected_in, other_there}
use Rattle.pbx_json_laws.proofs.Read.{items_in, entries_in, said_is}

-- ---- what is read by a form of its own

-- the member `value` is there
abbrev pub HasValueMember : Data → Type 0
HasValueMember (object ms) = (d : Data) × (get_member (codes "value") ms ≡ Some d)
HasValueMember _ = Unit {0}

-- the fields beside the type are proper, and under `value`, which is there, stands a message
abbrev pub IsGoodOwn : Result Own JsonKind → Data → Type 0
IsGoodOwn (Ok (beside allow fs wrap)) d = AreProper fs
IsGoodOwn (Ok (under allow k wrap)) d = (u : ℕ) × (k ≡ kind.Message u) × HasValueMember d
IsGoodOwn _ d = Unit {0}

module _ (shape : Shape) (proper : IsProper shape) (allow : Bool) (t : ℕ) where
  good_once : (r : Result Content JsonKind) (d : Data) → IsGoodOwn (at_once r) d
  good_once (Ok c) d = tt
  good_once (Err k) d = tt

  good_struct : (u : ℕ) (outer : Content → Content) (d : Data) → IsGoodOwn (struct_read shape u outer) d
  good_struct u outer d = at (is_struct (form_of shape u))
    where
      at : (b : Bool) → IsGoodOwn (if b then Ok (a_map (kind_at shape u 1) (λ o. outer (holding shape u 1 o))) else Err fault.Shape) d
      at true = tt
      at false = tt

  good_list : (u : ℕ) (outer : Content → Content) (d : Data) → IsGoodOwn (list_value_read shape u outer) d
  good_list u outer d = at (is_list_value (form_of shape u))
    where
      at : (b : Bool) → IsGoodOwn (if b then Ok (a_list (kind_at shape u 1) (λ o. outer (holding shape u 1 o))) else Err fault.Shape) d
      at true = tt
      at false = tt

  good_value : (d : Data) → IsGoodOwn (value_read shape t d) d
  good_value null = tt
  good_value (boolean b) = tt
  good_value (number n) = tt
  good_value (string s) = tt
  good_value (array ds) = good_list (type_at shape t 6) (value_with shape t 6) (array ds)
  good_value (object ms) = good_struct (type_at shape t 5) (value_with shape t 5) (object ms)

  good_payload : (ms : Members) (url : List ℕ) (u : ℕ) → IsGoodOwn (payload_read shape allow t ms url u) (object ms)
  good_payload ms url u = at (stands_beside shape u)
    where
      value : (o : Option Data) → get_member (codes "value") ms ≡ o → IsGoodOwn (under_value shape allow t url u o) (object ms)
      value None e = tt
      value (Some d) e = (u, refl, (d, e))

      at : (b : Bool)
          → IsGoodOwn (if b then Ok (beside allow (declared_of shape u) (packed shape t url u))
          else under_value shape allow t url u (get_member (codes "value") ms)) (object ms)
      at true = proper.types u
      at false = value (get_member (codes "value") ms) refl

  good_any : (d : Data) → IsGoodOwn (any_read shape allow t d) d
  good_any null = tt
  good_any (boolean b) = tt
  good_any (number n) = tt
  good_any (string s) = tt
  good_any (array ds) = tt
  good_any (object ms) = at (type_url ms)
    where
      named : (url : List ℕ) (o : Option ℕ) → IsGoodOwn (typed_read shape allow t ms url o) (object ms)
      named url None = tt
      named url (Some u) = good_payload ms url u

      at : (o : Option (List ℕ)) → IsGoodOwn (members_read shape allow t ms o) (object ms)
      at None = tt
      at (Some url) = named url (type_of_url shape url)

  good_form : (form : Form) (d : Data) → IsGoodOwn (form_read shape allow t form d) d
  good_form forms.Timestamp d = good_once _ d
  good_form forms.Duration d = good_once _ d
  good_form forms.FieldMask d = good_once _ d
  good_form forms.Wrapper d = good_once _ d
  good_form forms.FloatWrapper d = tt
  good_form forms.Misshapen d = tt
  good_form forms.Struct d = good_struct t itself d
  good_form forms.ListValue d = good_list t itself d
  good_form forms.Value d = good_value d
  good_form forms.Any d = good_any d
  good_form forms.Fields d = tt
  good_form forms.Empty d = tt

  pub good_own : (d : Data) → IsGoodOwn (own_read shape allow t d) d
  good_own d = good_form (form_of shape t) d

-- ---- the members beside the type

pub faulty_without : (shape : Shape) (allow : Bool) (ms : Members) → MembersFaulty shape allow ms → MembersFaulty shape allow (without_type ms)
faulty_without shape allow no_members g = tt
faulty_without shape allow (member k d ms) g = at (is_type_key k) (faulty_without shape allow ms g.1)
  where
    at : (b : Bool) → MembersFaulty shape allow (without_type ms) → MembersFaulty shape allow (if b then without_type ms else member k d (without_type ms))
    at true ih = ih
    at false ih = (g.0, ih)

-- ---- the payload

module _ (shape : Shape) (allow skips : Bool) where
  abbrev said_of : Kind → Data → Option Content
  said_of k d = message_in (said shape allow d (one k))

  -- what is said under `value`
  value_is : (k : Kind) (ms : Members) (d : Data) → get_member (codes "value") ms ≡ Some d → value_said k (entries_said shape allow ms) ≡ said_of k d
  value_is k ms d e = value-said shape allow k ms ∙ ap (option_and_then (said_of k)) e

  module _ (k : Kind) (ms : Members) where
    was_read : (r : Reading) (c : Content) → message_in r ≡ Some c → (v : Option Val) × (r ≡ Some v)
    was_read None c h = absurd (cc)
    was_read (Some v) c h = (v, refl)

    no_key_fault : (c : Content) → payload_said skips k (entries_said shape allow ms) ≡ Some c → (l : List ℕ) (d : Data) → In l d ms → (kind : JsonKind)
        → KeyBreaks shape allow (payload skips k ms) l kind → ⊥
    no_key_fault c h l d i fault.UnknownField b =
        let passes = (if_some (skips || are_expected shape allow ms) (value_said k (entries_said shape allow ms)) c h).0 in
        let expected : are_expected shape allow ms ≡ true = ap (λ x. x || are_expected shape allow ms) (sym b.1) ∙ passes in
        (let bad : true ≡ false = sym (expected_in shape allow l d ms expected i) ∙ b.0 in cc)
    no_key_fault c h l d i _ b = absurd b

    pub payload_clean : (c : Content) → payload_said skips k (entries_said shape allow ms) ≡ Some c → (step : Step) (place : List Step) (kind : JsonKind)
        → IsBroken shape allow (payload skips k ms) step place kind → ⊥
    payload_clean c h (Index i) place kind (inl b) = b
    payload_clean c h (Index i) place kind (inr b) = b
    payload_clean c h (Key l) place kind (inl b) =
        let d = there_is (get_member l ms) b.1 in
        no_key_fault c h l d.0 (got_in l d.0 ms d.1) kind b.2
    payload_clean c h (Key l) place kind (inr b) = at (is_value_key l) refl (get_member l ms) refl b
      where
        at : (x : Bool) → is_value_key l ≡ x → (o : Option Data) → get_member l ms ≡ o
            → SomeWith (if x then option_map (λ d. (d, one k)) o else None) (IsNeverRead shape allow) → ⊥
        at false q o e b = b
        at true q None e b = b
        at true q (Some d) e b =
            let there : get_member (codes "value") ms ≡ Some d = ap (λ x. get_member x ms) (sym (value_key l q)) ∙ e in
            let said_it = (if_some (skips || are_expected shape allow ms) (value_said k (entries_said shape allow ms)) c h).1 in
            let it = was_read (said shape allow d (one k)) c (sym (value_is k ms d there) ∙ said_it) in
            b it.0 it.1

  -- ---- its faults

  module _ (u : ℕ) (ms : Members) where
    abbrev Fault : Type 0
    Fault = FaultIn shape allow (payload skips (kind.Message u) ms)

    -- a message that is not read says nothing
    silent : (o : Option Content) → message_in (as_message o) ≡ None → as_message o ≡ None
    silent None h = refl
    silent (Some c) h = absurd (cc)

    says_nothing : (d : Data) → said_of (kind.Message u) d ≡ None → said shape allow d (one (kind.Message u)) ≡ None
    says_nothing d h =
        let is : said shape allow d (one (kind.Message u)) ≡ as_message (message_as shape allow u d (items_in shape allow d) (entries_in shape allow d)) =
        said_is shape allow d (one (kind.Message u)) in
        is ∙ silent (message_as shape allow u d (items_in shape allow d) (entries_in shape allow d)) (ap message_in (sym is) ∙ h)

    pub payload_fault : AreAscendingKeys ms → MembersFaulty shape allow ms → (d : Data) → get_member (codes "value") ms ≡ Some d
        → payload_said skips (kind.Message u) (entries_said shape allow ms) ≡ None → Fault
    payload_fault up g d there h = at (skips || are_expected shape allow ms) refl h
      where
        below : FaultOf shape allow d (one (kind.Message u)) → Fault
        below it =
            let P : Option (Data × Asked) → Type 0 = λ o. SomeWith o (λ next. FaultAt shape allow it.0 next.0 next.1 it.1) in
            let is : into (payload skips (kind.Message u) ms) (Key (codes "value")) ≡ Some (d, one (kind.Message u)) = rw there refl in
            (Key (codes "value"), it.0, it.1, inr (subst P (sym is) it.2))

        other : skips ≡ false → (l : List ℕ) × (e : Data) × In l e ms × (is_type_or_value l ≡ false) → Fault
        other off it = (Key it.0, [], fault.UnknownField, inl (refl, there_from (get_member it.0 ms) it.1 (in_got it.0 it.1 ms up it.2), (it.3, off)))

        at : (b : Bool) → (skips || are_expected shape allow ms) ≡ b
            → (if b then value_said (kind.Message u) (entries_said shape allow ms) else None) ≡ None → Fault
        at false e q = let it = neither skips (are_expected shape allow ms) e in other it.0 (other_there shape allow ms it.1)
        at true e q =
            below (faulty_in shape allow (codes "value") d ms g (got_in (codes "value") d ms there) (one (kind.Message u))
            (says_nothing d (sym (value_is (kind.Message u) ms d there) ∙ q)))
