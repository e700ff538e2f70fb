-- An `Any` that has a tree reads back as it, where the tree of its payload reads back as the payload.
use Rattle.std.proofs.Common.{◌≡◌, ℕ, ◌==◌, List, [], length, Bool, true, false, codes, if◌then◌else◌, Option, Some, None, option_and_then, option_map, Ordering, Less, Equal, Greater, nat_cmp, refl, ap, sym, ◌∙◌, subst}
use Rattle.std.specs.Prelude.{Ok}
use Rattle.std.specs.Ordering.{match_ordering}
use Rattle.std.specs.Cmp.Lexicographic.{slice_cmp}
use Rattle.std.specs.Str.{bytes_eq}
use Rattle.std.proofs.lemmas.Slice.Eq.{bytes_eq-Decides}
use Rattle.serde_json.specs.Data.{Data, null, boolean, number, string, array, object, Members, no_members, member, put}
use Rattle.serde_json.specs.Find.{get_member, as_str}
use Rattle.pbx_content.specs.Content as content
use Rattle.pbx_content.specs.Content.{Content, Fields, fields, Val, get}
use Rattle.pbx_content.specs.Encoding.{encoded}
use Rattle.pbx_content.specs.Shape.{declared_of, fields_of, field_of}
use Rattle.pbx_content.specs.declared.shape.Kind.TheVariants as kind
use Rattle.pbx_content.specs.declared.shape.FieldShape.{FieldShape}
use Rattle.pbx_content.specs.declared.shape.Shape.{Shape}
use Rattle.pbx_wkt_types.specs.Shapes.{form_of}
use Rattle.pbx_wkt_types.specs.declared.form.Form.TheVariants as forms
use Rattle.pbx_wkt_types.proofs.Forms.{HasPayload, any_fields}
use Rattle.pbx_json_meaning.specs.Asked.{has_presence, one}
use Rattle.pbx_json_meaning.specs.Canonical.{Writing, form_tree, fields_tell, object_tree, has_key, with_member, with_type, type_and_value, any_with, payload_in, any_tree}
use Rattle.pbx_json_meaning.specs.Forms.{is_object_form, skips, shown_at, packed, payload_read, typed_read, members_read, beside, under, form_read, text_at, bytes_at}
use Rattle.pbx_json_meaning.specs.Stands.{message_of, object_of, beside_type, message_in, payload_said, own_as, message_as, said, entries_said}
use Rattle.pbx_json_meaning.specs.Urls.{type_of_url, type_url, without_type, stands_beside}
use Rattle.pbx_json_laws.proofs.Fits.{IsPacked}
use Rattle.pbx_json_laws.proofs.FormsBack.{first_of_two, second_of_two, no_length}
use Rattle.pbx_json_laws.proofs.In.{equal_itself}
use Rattle.pbx_json_laws.proofs.OwnBack.{ContentBack}
use Rattle.pbx_json_laws.proofs.Parts.{from_then, from_map, unless_some, neither, of_some}
use Rattle.pbx_json_laws.proofs.Payloads.{beside_is, beside-said}
use Rattle.pbx_json_laws.proofs.Read.{said_is, items_in, entries_in}
use Rattle.pbx_json_laws.proofs.ScalarsBack.{no_null}
use Rattle.pbx_json_laws.proofs.Told.{same_key}

-- ---- fields

-- a text that is absent is empty, and so are bytes
text_shown : (shape : Shape) (x : Option FieldShape) (f : FieldShape) (s : List ℕ) → x ≡ Some f → text_at (shown_at shape x (content.text s)) ≡ s
text_shown shape x f s there = rw there (at (has_presence f) (length s == 0) refl)
  where
    at : (p b : Bool) → (length s == 0) ≡ b → text_at (if p then Some (content.text s) else (if b then None else Some (content.text s))) ≡ s
    at true b e = refl
    at false true e = no_length s e
    at false false e = refl

bytes_shown : (shape : Shape) (x : Option FieldShape) (f : FieldShape) (s : List ℕ) → x ≡ Some f → bytes_at (shown_at shape x (content.octets s)) ≡ s
bytes_shown shape x f s there = rw there (at (has_presence f) (length s == 0) refl)
  where
    at : (p b : Bool) → (length s == 0) ≡ b → bytes_at (if p then Some (content.octets s) else (if b then None else Some (content.octets s))) ≡ s
    at true b e = refl
    at false true e = no_length s e
    at false false e = refl

module _ (shape : Shape) (t : ℕ) (url : List ℕ) (u : ℕ) (p : Content) where
  abbrev shown_url : Option Val
  shown_url = shown_at shape (field_of 1 (fields_of shape t)) (content.text url)

  abbrev shown_bytes : Option Val
  shown_bytes = shown_at shape (field_of 2 (fields_of shape t)) (content.octets (encoded shape u p))

  pub url_packed : HasPayload shape t → text_at (get 1 (fields (packed shape t url u p))) ≡ url
  url_packed has =
      ap text_at (first_of_two shown_url shown_bytes) ∙ text_shown shape (field_of 1 (fields_of shape t)) has.type_url.field url has.type_url.there

  pub bytes_packed : HasPayload shape t → bytes_at (get 2 (fields (packed shape t url u p))) ≡ encoded shape u p
  bytes_packed has =
      ap bytes_at (second_of_two shown_url shown_bytes)
      ∙ bytes_shown shape (field_of 2 (fields_of shape t)) has.value.field (encoded shape u p) has.value.there

-- ---- the member `@type`

got_put : (k : List ℕ) (d : Data) (ms : Members) → get_member k (put k d ms) ≡ Some d
got_put k d no_members = rw (equal_itself k) refl
got_put k d (member l e ms) = at (slice_cmp nat_cmp k l) refl (got_put k d ms)
  where
    at : (o : Ordering) → slice_cmp nat_cmp k l ≡ o → get_member k (put k d ms) ≡ Some d
        → get_member k (match_ordering o (member k d (member l e ms)) (member l d ms) (member l e (put k d ms))) ≡ Some d
    at Less q ih = rw (equal_itself k) refl
    at Equal q ih = rw q refl
    at Greater q ih = rw q ih

none_without : (ms : Members) → has_key (codes "@type") ms ≡ false → without_type ms ≡ ms
none_without no_members h = refl
none_without (member l e ms) h =
    let parts = neither (bytes_eq l (codes "@type")) (has_key (codes "@type") ms) h in
    rw parts.0 (ap (member l e) (none_without ms parts.1))

put_without : (d : Data) (ms : Members) → has_key (codes "@type") ms ≡ false → without_type (put (codes "@type") d ms) ≡ ms
put_without d no_members h = refl
put_without d (member l e ms) h = at (slice_cmp nat_cmp (codes "@type") l) refl (put_without d ms parts.1)
  where
    parts : (bytes_eq l (codes "@type") ≡ false) × (has_key (codes "@type") ms ≡ false)
    parts = neither (bytes_eq l (codes "@type")) (has_key (codes "@type") ms) h

    at : (o : Ordering) → slice_cmp nat_cmp (codes "@type") l ≡ o → without_type (put (codes "@type") d ms) ≡ ms
        → without_type (match_ordering o (member (codes "@type") d (member l e ms)) (member l d ms) (member l e (put (codes "@type") d ms))) ≡ member l e ms
    at Less q ih = none_without (member l e ms) h
    at Equal q ih =
        let bad : bytes_eq l (codes "@type") ≡ true = (bytes_eq-Decides l (codes "@type")).1 (sym (same_key (codes "@type") l q)) in
        absurd (let no : true ≡ false = sym bad ∙ parts.0 in cc)
    at Greater q ih = rw parts.0 (ap (member l e) ih)

-- ---- reading the tree back

module _ (shape : Shape) where
  -- the tree reads as the message of the type
  abbrev pub Reads : ℕ → Content → Data → Type 0
  Reads u p d = message_as shape false u d (items_in shape false d) (entries_in shape false d) ≡ Some p

  -- what an `Any` is read as
  abbrev any_as : ℕ → Data → Option Content
  any_as t d = own_as shape (form_read shape false t forms.Any d) d (items_in shape false d) (entries_in shape false d)

  typed_members : (t : ℕ) (url : List ℕ) (ms : Members) (u : ℕ) → type_url ms ≡ Some url → type_of_url shape url ≡ Some u
      → form_read shape false t forms.Any (object ms) ≡ payload_read shape false t ms url u
  typed_members t url ms u said named = ap (members_read shape false t ms) said ∙ ap (typed_read shape false t ms url) named

  -- a type whose fields stand beside `@type`
  beside_reads : (t : ℕ) (url : List ℕ) (u : ℕ) (p : Content) (ms : Members) → type_of_url shape url ≡ Some u → stands_beside shape u ≡ true
      → has_key (codes "@type") ms ≡ false → Reads u p (object ms) → any_as t (object (put (codes "@type") (string url) ms)) ≡ Some (packed shape t url u p)
  beside_reads t url u p ms named stands free reads =
      ap (λ r. own_as shape r (object all) [] (entries_said shape false all))
      (typed_members t url all u (ap (option_and_then as_str) (got_put (codes "@type") (string url) ms)) named ∙ here)
      ∙ ap (λ x. option_map (packed shape t url u) x) read
    where
      all : Members
      all = put (codes "@type") (string url) ms

      here : payload_read shape false t all url u ≡ Ok (beside false (declared_of shape u) (packed shape t url u))
      here = rw stands refl

      form : form_of shape u ≡ forms.Fields
      form = beside_is (form_of shape u) stands

      es : beside_type (entries_said shape false all) ≡ entries_said shape false ms
      es = beside-said shape false all ∙ ap (entries_said shape false) (put_without (string url) ms free)

      own : message_as shape false u (object ms) [] (entries_said shape false ms) ≡ message_of false (declared_of shape u) (entries_said shape false ms)
      own =
          ap (λ x. if is_object_form x then message_of (skips x false) (declared_of shape u) (entries_said shape false ms)
          else own_as shape (form_read shape false u x (object ms)) (object ms) [] (entries_said shape false ms)) form

      read : message_of false (declared_of shape u) (beside_type (entries_said shape false all)) ≡ Some p
      read = ap (message_of false (declared_of shape u)) es ∙ sym own ∙ reads

  -- a type whose message stands under `value`
  under_reads : (t : ℕ) (url : List ℕ) (u : ℕ) (p : Content) (d : Data) → type_of_url shape url ≡ Some u → stands_beside shape u ≡ false
      → Reads u p d → any_as t (type_and_value url d) ≡ Some (packed shape t url u p)
  under_reads t url u p d named stands reads =
      ap (λ r. own_as shape r (type_and_value url d) [] (entries_said shape false all)) (typed_members t url all u refl named ∙ here)
      ∙ ap (option_map (packed shape t url u)) read
    where
      all : Members
      all = member (codes "@type") (string url) (member (codes "value") d no_members)

      here : payload_read shape false t all url u ≡ Ok (under false (kind.Message u) (packed shape t url u))
      here = rw stands refl

      read : payload_said false (kind.Message u) (entries_said shape false all) ≡ Some p
      read = ap message_in (said_is shape false d (one (kind.Message u))) ∙ ap (λ r. message_in (option_map (λ c. Some (content.message c)) r)) reads

  -- the tree of the `Any` whose payload has this tree
  with_reads : (t : ℕ) (url : List ℕ) (u : ℕ) (p : Content) (dp d : Data) → type_of_url shape url ≡ Some u → Reads u p dp
      → any_with shape url u dp ≡ Some d → (any_as t d ≡ Some (packed shape t url u p)) × (d ≡ null → ⊥)
  with_reads t url u p dp d named reads h = either (stands_beside shape u) refl h
    where
      Goal : Data → Type 0
      Goal x = (any_as t x ≡ Some (packed shape t url u p)) × (x ≡ null → ⊥)

      among : (b : Bool) → stands_beside shape u ≡ true → (x : Data) → Reads u p x → with_type url x ≡ Some d → Goal d
      among b stands (object ms) r k =
          let it = from_map object (with_member (codes "@type") (string url) ms) d k in
          let free = unless_some (has_key (codes "@type") ms) (Some (put (codes "@type") (string url) ms)) it.0 it.1 in
          let same : object (put (codes "@type") (string url) ms) ≡ d = ap object (of_some (put (codes "@type") (string url) ms) it.0 free.1) ∙ it.2 in
          subst Goal same (
            beside_reads t url u p ms named stands free.0 r,
            λ e. no_null (object (put (codes "@type") (string url) ms)) (λ y. y) e,
          )
      among b stands null r k = absurd (cc)
      among b stands (boolean x) r k = absurd (cc)
      among b stands (number x) r k = absurd (cc)
      among b stands (string x) r k = absurd (cc)
      among b stands (array x) r k = absurd (cc)

      either : (b : Bool) → stands_beside shape u ≡ b → (if b then with_type url dp else Some (type_and_value url dp)) ≡ Some d → Goal d
      either true stands k = among true stands dp reads k
      either false stands k =
          subst Goal (of_some (type_and_value url dp) d k) (
            under_reads t url u p dp named stands reads,
            λ e. no_null (type_and_value url dp) (λ y. y) e,
          )

  module _ (o : Writing) where
    -- the tree of an `Any`, from that of its payload
    pub any_written : (t : ℕ) (url : List ℕ) (u : ℕ) (p : Content) → form_of shape t ≡ forms.Any → type_of_url shape url ≡ Some u
        → any_tree shape o (text_at (get 1 (fields (packed shape t url u p)))) (bytes_at (get 2 (fields (packed shape t url u p))))
        ≡ option_and_then (any_with shape url u) (o.payloads u (encoded shape u p))
    any_written t url u p is named =
        let has = any_fields shape t is in
        ap (λ x. any_tree shape o x (bytes_at (get 2 (fields (packed shape t url u p))))) (url_packed shape t url u p has)
        ∙ ap (any_tree shape o url) (bytes_packed shape t url u p has)
        ∙ ap (payload_in shape o url (encoded shape u p)) named

    pub any_back : (t : ℕ) (c : Content) → form_of shape t ≡ forms.Any → (it : IsPacked shape t c)
        → ((dp : Data) → o.payloads it.place (encoded shape it.place it.payload) ≡ Some dp → Reads it.place it.payload dp)
        → (d : Data) → any_tree shape o (text_at (get 1 (fields c))) (bytes_at (get 2 (fields c))) ≡ Some d → ContentBack shape o t c
    any_back t c is it payload d h =
        subst (ContentBack shape o t) it.packs (
          d,
          ap (λ x. if is_object_form x then object_tree shape o (declared_of shape t) (fields e) [] (fields_tell shape o (fields e))
              else form_tree shape o t x (fields e) [] (fields_tell shape o (fields e))) is ∙ here,
          ap (λ x. if is_object_form x
              then object_of (message_of (skips x false) (declared_of shape t)) d (entries_in shape false d)
              else own_as shape (form_read shape false t x d) d (items_in shape false d) (entries_in shape false d)) is ∙ read.0,
          λ q. absurd (read.1 q),
        )
      where
        e : Content
        e = packed shape t it.url it.place it.payload

        here : any_tree shape o (text_at (get 1 (fields e))) (bytes_at (get 2 (fields e))) ≡ Some d
        here = ap (λ x. any_tree shape o (text_at (get 1 (fields x))) (bytes_at (get 2 (fields x)))) it.packs ∙ h

        made : (dp : Data) × (o.payloads it.place (encoded shape it.place it.payload) ≡ Some dp) × (any_with shape it.url it.place dp ≡ Some d)
        made =
            from_then (any_with shape it.url it.place) (o.payloads it.place (encoded shape it.place it.payload)) d
            (sym (any_written t it.url it.place it.payload is it.named) ∙ here)

        read : (any_as t d ≡ Some e) × (d ≡ null → ⊥)
        read = with_reads t it.url it.place it.payload made.0 d it.named (payload made.0 made.1) made.2
