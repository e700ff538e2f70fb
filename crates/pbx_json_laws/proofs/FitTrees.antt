-- What a tree says is of what was asked of it.
use Rattle.std.proofs.Common.{◌≡◌, ◌⊎◌, inl, inr, ℕ, ◌==◌, ◌||◌, List, [], ◌∷◌, codes, Bool, true, false, if◌then◌else◌, Option, Some, None, option_map, option_and_then, refl, ap, sym, ◌∙◌, subst, arith}
use Rattle.std.specs.List.{list_all}
use Rattle.std.specs.Prelude.{Result, Ok}
use Rattle.std.specs.Str.{is_utf8}
use Rattle.std.proofs.lemmas.Bool.Decides.{nat_tests}
use Rattle.serde_json.specs.Data.{Data, null, boolean, number, string, array, object, Items, no_items, item, Members, no_members, member}
use Rattle.serde_json.specs.Find.{get_member, as_str}
use Rattle.pbx_content.specs.Content as content
use Rattle.pbx_content.specs.Content.{Content, Fields, Val, Vals, Pairs, Key, key_before, with_pair, get, vals_of, IsAscending, IsAbove}
use Rattle.pbx_content.specs.Meaning.{shown, is_default}
use Rattle.pbx_content.specs.Shape.{declared_of, field_of, is_float, is_key_kind}
use Rattle.pbx_content.specs.Sound.{IsProper, IsKeyOf, has_good_keys, has_one_member}
use Rattle.pbx_content.specs.declared.shape.Kind.{Kind}
use Rattle.pbx_content.specs.declared.shape.Kind.TheVariants as kind
use Rattle.pbx_content.specs.declared.shape.Cardinality.{Cardinality}
use Rattle.pbx_content.specs.declared.shape.Cardinality.TheVariants.{Singular, Repeated, Map}
use Rattle.pbx_content.specs.declared.shape.FieldShape.{FieldShape}
use Rattle.pbx_content.specs.declared.shape.Shape.{Shape}
use Rattle.pbx_wkt_types.specs.Shapes.{form_of}
use Rattle.pbx_wkt_types.specs.declared.form.Form.{Form}
use Rattle.pbx_wkt_types.specs.declared.form.Form.TheVariants as forms
use Rattle.pbx_json_meaning.specs.Names.{field_named}
use Rattle.pbx_json_meaning.specs.Named.{IsWellNamed}
use Rattle.pbx_json_meaning.specs.Asked.{Asked, field, one, root, Target, nothing, single, list, map, target, target_by, null_target, has_presence, reads_null}
use Rattle.pbx_json_meaning.specs.Forms.{is_object_form, skips, is_object_type, skips_keys, own_read, Own, beside, under, packed, under_value, payload_read}
use Rattle.pbx_json_meaning.specs.Forms.{typed_read, members_read}
use Rattle.pbx_json_meaning.specs.Scalars.{scalar_read, key_read}
use Rattle.pbx_json_meaning.specs.Stands.{Reading, Says, Entry, ok_of, told, told_by, only, gathered, all_known, if_oneofs, message_of, all_read, present, elements_read}
use Rattle.pbx_json_meaning.specs.Stands.{with_entry, pairs_of, all_differ, entry_read, if_differ, entries_read, object_of, own_as, as_message, message_in, message_as, value_as}
use Rattle.pbx_json_meaning.specs.Stands.{beside_type, value_said, payload_said}
use Rattle.pbx_json_meaning.specs.Stands.{list_as, map_as, read_as, read, said, items_said, entries_said}
use Rattle.pbx_json_meaning.specs.Trees.{HasTexts, HaveTexts, MembersHaveTexts}
use Rattle.pbx_json_meaning.specs.Urls.{is_type_key, type_url, type_of_url, without_type, stands_beside}
use Rattle.pbx_json_meaning.specs.declared.kind.JsonKind.{JsonKind}
use Rattle.pbx_json_laws.proofs.Fits.{Fits, FitsAs, IsPacked, IsOwnRead, FieldsFit, AllFit, PairsFit, FitsOption, Answers, IsFilled}
use Rattle.pbx_json_laws.proofs.FitOwn.{AnyFits, own_fits}
use Rattle.pbx_json_laws.proofs.FitKinds.{scalar_fits, key_fits}
use Rattle.pbx_json_laws.proofs.FitShown.{shown_is, filled}
use Rattle.pbx_json_laws.proofs.Gathered.{ascending_gathered, said_for}
use Rattle.pbx_json_laws.proofs.In.{In, got_in}
use Rattle.pbx_json_laws.proofs.KeyOrder.{before_with}
use Rattle.pbx_json_laws.proofs.Numbers.{named_from, named_number}
use Rattle.pbx_json_laws.proofs.Parts.{from_then, from_map, from_ok_of, if_some, unless_some, of_some, found_with}
use Rattle.pbx_json_laws.proofs.Payloads.{beside_is, beside-said, value-said, are_expected}
use Rattle.pbx_json_laws.proofs.Puts.{above-ascending, first_found, later_found}

-- ---- what is asked

-- a map has keys of a kind that keys may have
abbrev pub IsGood : Target → Type 0
IsGood (map kk vk) = is_key_kind kk ≡ true
IsGood _ = Unit {0}

abbrev pub IsGoodAsked : Asked → Type 0
IsGoodAsked (field f) = has_good_keys f.cardinality ≡ true
IsGoodAsked (one k) = Unit {0}

good_target : (f : FieldShape) (c : Cardinality) → has_good_keys c ≡ true → IsGood (target_by f c)
good_target f Singular h = tt
good_target f Repeated h = tt
good_target f (Map k) h = h

-- what is to be read of a tree is what the field has, or nothing
pub target_is : (shape : Shape) (d : Data) (f : FieldShape)
    → (target shape d (field f) ≡ target_by f f.cardinality) ⊎ (target shape d (field f) ≡ nothing)
target_is shape null f = at f.cardinality
  where
    singular : (b : Bool) → ((if b then single f.kind else nothing) ≡ single f.kind) ⊎ ((if b then single f.kind else nothing) ≡ nothing)
    singular true = inl refl
    singular false = inr refl

    at : (c : Cardinality) → (null_target shape f c ≡ target_by f c) ⊎ (null_target shape f c ≡ nothing)
    at Singular = singular (reads_null shape f.kind)
    at Repeated = inr refl
    at (Map k) = inr refl
target_is shape (boolean b) f = inl refl
target_is shape (number n) f = inl refl
target_is shape (string s) f = inl refl
target_is shape (array ds) f = inl refl
target_is shape (object ms) f = inl refl

module _ (shape : Shape) (proper : IsProper shape) (well : IsWellNamed shape) (allow : Bool) where
  abbrev TreeFits : Data → Type 0
  TreeFits d = (a : Asked) (v : Val) → IsGoodAsked a → said shape allow d a ≡ Some (Some v) → Answers shape a v

  abbrev ItemsFit : Items → Type 0
  ItemsFit no_items = Unit {0}
  ItemsFit (item d ds) = TreeFits d × ItemsFit ds

  abbrev MembersFit : Members → Type 0
  MembersFit no_members = Unit {0}
  MembersFit (member k d ms) = TreeFits d × MembersFit ms

  -- ---- the fields of an object

  abbrev IsNamedFit : List FieldShape → ℕ → Val → Type 0
  IsNamedFit gs n v = (f : FieldShape) × (key : List ℕ) × (field_named key gs ≡ Some f) × ((f.number == n) ≡ true) × Answers shape (field f) v

  told_fits : (gs : List FieldShape) → list_all (λ (f : FieldShape). has_good_keys f.cardinality) gs ≡ true → (n : ℕ) (v : Val) (ms : Members)
      → MembersFit ms → only (told gs n (entries_said shape allow ms)) ≡ Some (Some v) → IsNamedFit gs n v
  told_fits gs good n v no_members g h = absurd (cc)
  told_fits gs good n v (member k d ms) g h = at (field_named k gs) refl h (told_fits gs good n v ms g.1)
    where
      alone : (rs : List Reading) (r : Reading) → only (r ∷ rs) ≡ Some (Some v) → r ≡ Some (Some v)
      alone [] r e = e
      alone (x ∷ rs) r e = absurd (cc)

      good_field : (f : FieldShape) → field_named k gs ≡ Some f → has_good_keys f.cardinality ≡ true
      good_field f e =
          named_from (has_good_keys f.cardinality ≡ true) k gs f e (λ p q. found_with p (λ (f : FieldShape). has_good_keys f.cardinality) gs f good q)

      at : (o : Option FieldShape) → field_named k gs ≡ o
          → only (told_by o n (record { key = k; says = said shape allow d }) (told gs n (entries_said shape allow ms))) ≡ Some (Some v)
          → (only (told gs n (entries_said shape allow ms)) ≡ Some (Some v) → IsNamedFit gs n v) → IsNamedFit gs n v
      at None e j ih = ih j
      at (Some f) e j ih = deep (f.number == n) refl j
        where
          deep : (b : Bool) → (f.number == n) ≡ b
              → only (if b then said shape allow d (field f) ∷ told gs n (entries_said shape allow ms) else told gs n (entries_said shape allow ms)) ≡ Some (Some v)
              → IsNamedFit gs n v
          deep true same q = (f, k, e, same, g.0 (field f) v (good_field f e) (alone _ _ q))
          deep false other q = ih q

  fields_fit : (gs : List FieldShape) (all fs : Fields) → IsAscending fs → ((n : ℕ) (v : Val) → get n fs ≡ Some v → get n all ≡ Some v)
      → ((n : ℕ) (v : Val) → get n all ≡ Some v → FitsOption shape v (Fits shape v) (field_of n gs)) → FieldsFit shape fs gs
  fields_fit gs all content.no_fields up within held = tt
  fields_fit gs all (content.field n v fs) up within held = (
    held n v (within n v (first_found n v fs)),
    fields_fit gs all fs (above-ascending n fs up) (λ k w got. within k w (later_found n v fs up k w got)) held,
  )

  message_fits : (skips : Bool) (t : ℕ) (ms : Members) (c : Content) → is_object_type shape t ≡ true → MembersFit ms
      → message_of skips (declared_of shape t) (entries_said shape allow ms) ≡ Some c → FitsAs shape c t
  message_fits skips t ms c own g h =
      let ds = declared_of shape t in
      let es = entries_said shape allow ms in
      let known = if_some (all_known skips ds es) (option_and_then (if_oneofs ds) (gathered (λ n. only (told ds n es)) ds)) c h in
      let found = from_then (if_oneofs ds) (gathered (λ n. only (told ds n es)) ds) c known.1 in
      let made = if_some (has_one_member ds found.0) (Some (content.content found.0 [])) c found.2 in
      let same : content.content found.0 [] ≡ c = of_some (content.content found.0 []) c made.1 in
      let up = ascending_gathered (λ n. only (told ds n es)) ds found.0 found.1 in
      let it : FitsAs shape (content.content found.0 []) t =
      (refl, object_form (form_of shape t) (content.content found.0 []) own, up, made.0, fields_fit ds found.0 found.0 up (λ n v got. got) (held found.0 found.1)) in
      let P : Content → Type 0 = λ x. FitsAs shape x t in
      subst P same it
    where
      object_form : (form : Form) (c : Content) → is_object_form form ≡ true → IsOwnRead shape t form c
      object_form forms.Fields c e = tt
      object_form forms.Empty c e = tt
      object_form _ c e = absurd (cc)

      held : (found : Fields) → gathered (λ n. only (told (declared_of shape t) n (entries_said shape allow ms))) (declared_of shape t) ≡ Some found
          → (n : ℕ) (v : Val) → get n found ≡ Some v → FitsOption shape v (Fits shape v) (field_of n (declared_of shape t))
      held found e n v got =
          let ds = declared_of shape t in
          let says = said_for (λ n. only (told ds n (entries_said shape allow ms))) ds found e n v got in
          let it = told_fits ds (proper.types t).keyed n v ms g says in
          let same : it.0.number ≡ n = grind (arith, nat_tests, it.3) in
          let is : field_of n ds ≡ Some it.0 = ap (λ k. field_of k ds) (sym same) ∙ named_number ds it.1 it.0 (proper.types t) it.2 in
          let P : Option FieldShape → Type 0 = λ o. FitsOption shape v (Fits shape v) o in
          subst P (sym is) it.4

  -- ---- payloads

  -- the message that a tree says
  tree_message : (d : Data) → TreeFits d → (u : ℕ) (c : Content) → message_in (said shape allow d (root u)) ≡ Some c → FitsAs shape c u
  tree_message d g u c h = at (said shape allow d (root u)) refl h
    where
      fits_message : (o : Val) (e : Content) → o ≡ content.message e → Fits shape o (single (kind.Message u)) → FitsAs shape e u
      fits_message (content.message m) e p f =
          let same : m ≡ e = cc in
          let place : f.0 ≡ u = (let q : kind.Message u ≡ kind.Message f.0 = f.1 in cc) in
          let P : ℕ → Type 0 = λ n. FitsAs shape m n in
          let Q : Content → Type 0 = λ y. FitsAs shape y u in
          subst Q same (subst P place f.2)
      fits_message (content.number z) e p f = absurd (cc)
      fits_message (content.truth z) e p f = absurd (cc)
      fits_message (content.text z) e p f = absurd (cc)
      fits_message (content.octets z) e p f = absurd (cc)
      fits_message (content.many z) e p f = absurd (cc)
      fits_message (content.keyed z) e p f = absurd (cc)

      at : (r : Reading) → said shape allow d (root u) ≡ r → message_in r ≡ Some c → FitsAs shape c u
      at (Some (Some (content.message m))) e k = fits_message (content.message m) c (ap (λ y. content.message y) (of_some m c k)) (g (root u) (content.message m) tt e)
      at None e k = absurd (cc)
      at (Some None) e k = absurd (cc)
      at (Some (Some (content.number z))) e k = absurd (cc)
      at (Some (Some (content.truth z))) e k = absurd (cc)
      at (Some (Some (content.text z))) e k = absurd (cc)
      at (Some (Some (content.octets z))) e k = absurd (cc)
      at (Some (Some (content.many z))) e k = absurd (cc)
      at (Some (Some (content.keyed z))) e k = absurd (cc)

  fits_without : (ms : Members) → MembersFit ms → MembersFit (without_type ms)
  fits_without no_members g = tt
  fits_without (member k d ms) g = at (is_type_key k) (fits_without ms g.1)
    where
      at : (b : Bool) → MembersFit (without_type ms) → MembersFit (if b then without_type ms else member k d (without_type ms))
      at true ih = ih
      at false ih = (g.0, ih)

  texts_without : (ms : Members) → MembersHaveTexts ms → MembersHaveTexts (without_type ms)
  texts_without no_members x = tt
  texts_without (member k d ms) x = at (is_type_key k) (texts_without ms x.2)
    where
      at : (b : Bool) → MembersHaveTexts (without_type ms) → MembersHaveTexts (if b then without_type ms else member k d (without_type ms))
      at true ih = ih
      at false ih = (x.0, x.1, ih)

  fits_in : (k : List ℕ) (d : Data) (ms : Members) → MembersFit ms → In k d ms → TreeFits d
  fits_in k d no_members g i = absurd i
  fits_in k d (member l e ms) g (inl i) = subst TreeFits i.1 g.0
  fits_in k d (member l e ms) g (inr i) = fits_in k d ms g.1 i

  texts_in : (k : List ℕ) (d : Data) (ms : Members) → MembersHaveTexts ms → In k d ms → HasTexts d
  texts_in k d no_members x i = absurd i
  texts_in k d (member l e ms) x (inl i) = subst HasTexts i.1 x.1
  texts_in k d (member l e ms) x (inr i) = texts_in k d ms x.2 i

  url_utf8 : (ms : Members) (url : List ℕ) → MembersHaveTexts ms → type_url ms ≡ Some url → is_utf8 url ≡ true
  url_utf8 ms url x h =
      let it = from_then as_str (get_member (codes "@type") ms) url h in
      at it.0 (texts_in (codes "@type") it.0 ms x (got_in (codes "@type") it.0 ms it.1)) it.2
    where
      at : (d : Data) → HasTexts d → as_str d ≡ Some url → is_utf8 url ≡ true
      at (string s) y e = let same : s ≡ url = of_some s url e in rw (← same) y
      at null y e = absurd (cc)
      at (boolean b) y e = absurd (cc)
      at (number n) y e = absurd (cc)
      at (array ds) y e = absurd (cc)
      at (object all) y e = absurd (cc)

  any_fits : (ms : Members) → MembersHaveTexts ms → MembersFit ms → AnyFits shape allow (object ms) [] (entries_said shape allow ms)
  any_fits ms x g t c h = at (type_url ms) refl h
    where
      es : List Entry
      es = entries_said shape allow ms

      Packed : Type 0
      Packed = (it : IsPacked shape t c) × FitsAs shape it.payload it.place

      IsAs : Result Own JsonKind → Type 0
      IsAs r = own_as shape r (object ms) [] (entries_said shape allow ms) ≡ Some c

      beside_packed : (url : List ℕ) (u : ℕ) → is_utf8 url ≡ true → type_of_url shape url ≡ Some u → stands_beside shape u ≡ true
          → IsAs (Ok (beside allow (declared_of shape u) (packed shape t url u))) → Packed
      beside_packed url u utf8 named b k =
          let p = from_map (packed shape t url u) (message_of allow (declared_of shape u) (beside_type es)) c k in
          let form : form_of shape u ≡ forms.Fields = beside_is (form_of shape u) b in
          let own : is_object_type shape u ≡ true = ap is_object_form form in
          let skip : skips_keys shape allow u ≡ allow = ap (λ f. skips f allow) form in
          let found : message_of allow (declared_of shape u) (entries_said shape allow (without_type ms)) ≡ Some p.0 =
          ap (message_of allow (declared_of shape u)) (sym (beside-said shape allow ms)) ∙ p.1 in
          let is : message_as shape allow u (object (without_type ms)) [] (entries_said shape allow (without_type ms)) ≡ Some p.0 =
          rw (own, skip) found in (
            record {
              url = url;
              place = u;
              payload = p.0;
              allow = allow;
              tree = object (without_type ms);
              utf8 = utf8;
              named = named;
              texts = texts_without ms x;
              stands = ap (λ o. message_in (as_message o)) is;
              packs = p.2;
            },
            message_fits allow u (without_type ms) p.0 own (fits_without ms g) found,
          )

      under_packed : (url : List ℕ) (u : ℕ) → is_utf8 url ≡ true → type_of_url shape url ≡ Some u
          → IsAs (Ok (under allow (kind.Message u) (packed shape t url u))) → Packed
      under_packed url u utf8 named k =
          let p = from_map (packed shape t url u) (payload_said allow (kind.Message u) es) c k in
          let value = (if_some (allow || are_expected shape allow ms) (value_said (kind.Message u) es) p.0 p.1).1 in
          let it = from_then (λ d. message_in (said shape allow d (root u))) (get_member (codes "value") ms) p.0 (sym (value-said shape allow (kind.Message u) ms) ∙ value) in
          let there = got_in (codes "value") it.0 ms it.1 in (
            record {
              url = url;
              place = u;
              payload = p.0;
              allow = allow;
              tree = it.0;
              utf8 = utf8;
              named = named;
              texts = texts_in (codes "value") it.0 ms x there;
              stands = it.2;
              packs = p.2;
            },
            tree_message it.0 (fits_in (codes "value") it.0 ms g there) u p.0 it.2,
          )

      payload_at : (url : List ℕ) (u : ℕ) → is_utf8 url ≡ true → type_of_url shape url ≡ Some u → IsAs (payload_read shape allow t ms url u) → Packed
      payload_at url u utf8 named k = either (stands_beside shape u) refl k
        where
          value : (o : Option Data) → IsAs (under_value shape allow t url u o) → Packed
          value None k = absurd (cc)
          value (Some d) k = under_packed url u utf8 named k

          either : (b : Bool) → stands_beside shape u ≡ b
              → IsAs (if b then Ok (beside allow (declared_of shape u) (packed shape t url u))
              else under_value shape allow t url u (get_member (codes "value") ms)) → Packed
          either true e k = beside_packed url u utf8 named e k
          either false e k = value (get_member (codes "value") ms) k

      typed : (url : List ℕ) → is_utf8 url ≡ true → (o : Option ℕ) → type_of_url shape url ≡ o → IsAs (typed_read shape allow t ms url o) → Packed
      typed url utf8 None e k = absurd (cc)
      typed url utf8 (Some u) e k = payload_at url u utf8 e k

      at : (o : Option (List ℕ)) → type_url ms ≡ o → IsAs (members_read shape allow t ms o) → Packed
      at None e k = absurd (cc)
      at (Some url) e k = typed url (url_utf8 ms url x e) (type_of_url shape url) refl k

  -- ---- lists and maps

  elements_fit : (k : Kind) (ds : Items) (os : List (Option Val)) → ItemsFit ds
      → all_read (λ (says : Says). says (one k)) (items_said shape allow ds) ≡ Some os → AllFit shape (vals_of (present os)) k
  elements_fit k no_items os g h = let same : [] ≡ os = of_some [] os h in rw (← same) tt
  elements_fit k (item d ds) os g h =
      let one_read = from_then (λ y. option_map (λ ys. y ∷ ys) (all_read (λ (says : Says). says (one k)) (items_said shape allow ds))) (said shape allow d (one k)) os h in
      let rest = from_map (λ ys. one_read.0 ∷ ys) (all_read (λ (says : Says). says (one k)) (items_said shape allow ds)) os one_read.2 in
      let tail = elements_fit k ds rest.0 g.1 rest.1 in
      rw (← rest.2) (at one_read.0 one_read.1 rest.0 tail)
    where
      at : (o : Option Val) → said shape allow d (one k) ≡ Some o → (os : List (Option Val)) → AllFit shape (vals_of (present os)) k
          → AllFit shape (vals_of (present (o ∷ os))) k
      at None e os t = t
      at (Some v) e os t = (g.0 (one k) v tt e, t)

  pairs_with : (kk vk : Kind) (l : Key) (v : Val) (ps : Pairs) → IsKeyOf kk l → Fits shape v (single vk) → PairsFit shape ps kk vk
      → PairsFit shape (with_pair l v ps) kk vk
  pairs_with kk vk l v content.no_pairs a b h = (a, b, tt, tt)
  pairs_with kk vk l v (content.pair m u qs) a b h = at (key_before l m) refl (key_before m l) refl (pairs_with kk vk l v qs a b h.3)
    where
      at : (x : Bool) → key_before l m ≡ x → (y : Bool) → key_before m l ≡ y → PairsFit shape (with_pair l v qs) kk vk
          → PairsFit shape (if x then content.pair l v (content.pair m u qs) else (if y then content.pair m u (with_pair l v qs) else content.pair m u qs)) kk vk
      at true p y q ih = (a, b, p, h)
      at false p true q ih = (h.0, h.1, before_with m l v qs q h.2, ih)
      at false p false q ih = h

  entries_fit : (kk vk : Kind) → is_key_kind kk ≡ true → (ms : Members) (es : List (Key × Option Val)) → MembersHaveTexts ms → MembersFit ms
      → all_read (entry_read kk vk) (entries_said shape allow ms) ≡ Some es → PairsFit shape (pairs_of es) kk vk
  entries_fit kk vk good no_members es t g h = let same : [] ≡ es = of_some [] es h in rw (← same) tt
  entries_fit kk vk good (member s d ms) es t g h =
      let entry : Entry = record { key = s; says = said shape allow d } in
      let first = from_then (λ y. option_map (λ ys. y ∷ ys) (all_read (entry_read kk vk) (entries_said shape allow ms))) (entry_read kk vk entry) es h in
      let rest = from_map (λ ys. first.0 ∷ ys) (all_read (entry_read kk vk) (entries_said shape allow ms)) es first.2 in
      let key = from_then (λ l. option_map (λ v. (l, v)) (said shape allow d (one vk))) (ok_of (key_read kk s)) first.0 first.1 in
      let value = from_map (λ v. (key.0, v)) (said shape allow d (one vk)) first.0 key.2 in
      let tail = entries_fit kk vk good ms rest.0 t.2 g.1 rest.1 in
      let own = key_fits kk s key.0 good t.0 (from_ok_of (key_read kk s) key.0 key.1) in
      let P : Key × Option Val → Type 0 = λ e. PairsFit shape (with_entry e (pairs_of rest.0)) kk vk in
      let Q : List (Key × Option Val) → Type 0 = λ es. PairsFit shape (pairs_of es) kk vk in
      subst Q rest.2 (subst P {x = (key.0, value.0)} value.2 (at key.0 own value.0 value.1 (pairs_of rest.0) tail))
    where
      at : (l : Key) → IsKeyOf kk l → (o : Option Val) → said shape allow d (one vk) ≡ Some o → (ps : Pairs) → PairsFit shape ps kk vk
          → PairsFit shape (with_entry (l, o) ps) kk vk
      at l own None e ps tail = tail
      at l own (Some v) e ps tail = pairs_with kk vk l v ps own (g.0 (one vk) v tt e) tail

  -- ---- all trees

  list_fits : (k : Kind) (d : Data) (ds : Items) (v : Val) → ItemsFit ds → is_default shape k v ≡ false → list_as k d (items_said shape allow ds) ≡ Some (Some v)
      → Fits shape v (list k)
  list_fits k (array no_items) ds v g n h = absurd (cc)
  list_fits k (array (item e es)) ds v g n h =
      let read_all = unless_some (is_float k) (elements_read k (items_said shape allow ds)) (Some v) h in
      let it = from_map (λ os. Some (content.many (vals_of (present os)))) (all_read (λ (says : Says). says (one k)) (items_said shape allow ds)) (Some v) read_all.1 in
      let same : content.many (vals_of (present it.0)) ≡ v = of_some (content.many (vals_of (present it.0))) v it.2 in
      rw (← same) (ap (is_default shape k) same ∙ n, elements_fit k ds it.0 g it.1)
  list_fits k null ds v g n h = absurd (cc)
  list_fits k (boolean b) ds v g n h = absurd (cc)
  list_fits k (number x) ds v g n h = absurd (cc)
  list_fits k (string s) ds v g n h = absurd (cc)
  list_fits k (object ms) ds v g n h = absurd (cc)

  map_fits : (kk vk : Kind) → is_key_kind kk ≡ true → (d : Data) (ms : Members) (v : Val) → MembersHaveTexts ms → MembersFit ms → is_default shape vk v ≡ false
      → map_as kk vk d (entries_said shape allow ms) ≡ Some (Some v) → Fits shape v (map kk vk)
  map_fits kk vk good (object no_members) ms v t g n h = absurd (cc)
  map_fits kk vk good (object (member k e es)) ms v t g n h =
      let read_all = unless_some (is_float vk) (entries_read kk vk (entries_said shape allow ms)) (Some v) h in
      let all = from_then if_differ (all_read (entry_read kk vk) (entries_said shape allow ms)) (Some v) read_all.1 in
      let made = if_some (all_differ all.0) (Some (Some (content.keyed (pairs_of all.0)))) (Some v) all.2 in
      let same : content.keyed (pairs_of all.0) ≡ v = (let e : Some (Some (content.keyed (pairs_of all.0))) ≡ Some (Some v) = made.1 in cc) in
      rw (← same) (ap (is_default shape vk) same ∙ n, entries_fit kk vk good ms all.0 t g all.1)
  map_fits kk vk good null ms v t g n h = absurd (cc)
  map_fits kk vk good (boolean b) ms v t g n h = absurd (cc)
  map_fits kk vk good (number x) ms v t g n h = absurd (cc)
  map_fits kk vk good (string s) ms v t g n h = absurd (cc)
  map_fits kk vk good (array ds) ms v t g n h = absurd (cc)

  message_as_fits : (t : ℕ) (d : Data) (ds : Items) (ms : Members) (c : Content) → HasTexts d → MembersHaveTexts ms → ItemsFit ds → MembersFit ms
      → AnyFits shape allow d (items_said shape allow ds) (entries_said shape allow ms)
      → message_as shape allow t d (items_said shape allow ds) (entries_said shape allow ms) ≡ Some c → FitsAs shape c t
  message_as_fits t d ds ms c x y f g any h = either (is_object_type shape t) refl h
    where
      object_is : (e : Data) → object_of (message_of (skips_keys shape allow t) (declared_of shape t)) e (entries_said shape allow ms) ≡ Some c
          → message_of (skips_keys shape allow t) (declared_of shape t) (entries_said shape allow ms) ≡ Some c
      object_is (object all) k = k
      object_is null k = absurd (cc)
      object_is (boolean b) k = absurd (cc)
      object_is (number n) k = absurd (cc)
      object_is (string s) k = absurd (cc)
      object_is (array ds) k = absurd (cc)

      either : (b : Bool) → is_object_type shape t ≡ b
          → (if b then object_of (message_of (skips_keys shape allow t) (declared_of shape t)) d (entries_said shape allow ms)
          else own_as shape (own_read shape allow t d) d (items_said shape allow ds) (entries_said shape allow ms)) ≡ Some c
          → FitsAs shape c t
      either true e k = message_fits (skips_keys shape allow t) t ms c e g (object_is d k)
      either false e k =
          own_fits shape proper well allow t d (items_said shape allow ds) (entries_said shape allow ms) c x (λ kd v n r. list_fits kd d ds v f n r)
          (λ kd v n r. map_fits kind.String kd refl d ms v y g n r) any e k

  -- one value of a kind
  value_fits : (k : Kind) (d : Data) (ds : Items) (ms : Members) (v : Val) → HasTexts d → MembersHaveTexts ms → ItemsFit ds → MembersFit ms
      → AnyFits shape allow d (items_said shape allow ds) (entries_said shape allow ms)
      → value_as shape allow k d (items_said shape allow ds) (entries_said shape allow ms) ≡ Some (Some v) → Fits shape v (single k)
  value_fits (kind.Message t) d ds ms v x y f g any h =
      let it = from_map (λ c. Some (content.message c)) (message_as shape allow t d (items_said shape allow ds) (entries_said shape allow ms)) (Some v) h in
      let same : content.message it.0 ≡ v = of_some (content.message it.0) v it.2 in
      rw (← same) (t, refl, message_as_fits t d ds ms it.0 x y f g any it.1)
  value_fits kind.Int32 d ds ms v x y f g any h = scalar_fits shape well allow kind.Int32 d v x (from_ok_of (scalar_read shape allow kind.Int32 d) (Some v) h)
  value_fits k d ds ms v x y f g any h = scalar_fits shape well allow k d v x (from_ok_of (scalar_read shape allow k d) (Some v) h)

  read_as_fits : (at : Target) → IsGood at → (d : Data) (ds : Items) (ms : Members) (v : Val) → HasTexts d → MembersHaveTexts ms → ItemsFit ds → MembersFit ms
      → AnyFits shape allow d (items_said shape allow ds) (entries_said shape allow ms)
      → IsFilled shape v at → read_as shape allow at d (items_said shape allow ds) (entries_said shape allow ms) ≡ Some (Some v) → Fits shape v at
  read_as_fits nothing good d ds ms v x t g m any n h = absurd (cc)
  read_as_fits (single k) good d ds ms v x t g m any n h = value_fits k d ds ms v x t g m any h
  read_as_fits (list k) good d ds ms v x t g m any n h = list_fits k d ds v g n h
  read_as_fits (map kk vk) good d ds ms v x t g m any n h = map_fits kk vk good d ms v t m n h

  read_fits : (d : Data) (ds : Items) (ms : Members) → HasTexts d → MembersHaveTexts ms → ItemsFit ds → MembersFit ms
      → AnyFits shape allow d (items_said shape allow ds) (entries_said shape allow ms)
      → (a : Asked) (v : Val) → IsGoodAsked a
      → read shape allow d (items_said shape allow ds) (entries_said shape allow ms) a ≡ Some (Some v) → Answers shape a v
  read_fits d ds ms x t g m any (one k) v good h = read_as_fits (single k) tt d ds ms v x t g m any tt h
  read_fits d ds ms x t g m any (field f) v good h =
      let at = target shape d (field f) in
      let from = from_map (shown shape (has_presence f) f.kind) (read_as shape allow at d (items_said shape allow ds) (entries_said shape allow ms)) (Some v) h in
      let it = shown_is shape (has_presence f) f.kind from.0 v from.2 in
      (either (target_is shape d f) (from.1 ∙ ap (λ o. Some o) it.0) (filled shape f f.cardinality v it.1), it.1)
    where
      either : (target shape d (field f) ≡ target_by f f.cardinality) ⊎ (target shape d (field f) ≡ nothing)
          → read_as shape allow (target shape d (field f)) d (items_said shape allow ds) (entries_said shape allow ms) ≡ Some (Some v)
          → IsFilled shape v (target_by f f.cardinality) → Fits shape v (target_by f f.cardinality)
      either (inl e) r n =
          read_as_fits (target_by f f.cardinality) (good_target f f.cardinality good) d ds ms v x t g m any n
          (ap (λ at. read_as shape allow at d (items_said shape allow ds) (entries_said shape allow ms)) (sym e) ∙ r)
      either (inr e) r n =
          let bad : Some None ≡ Some (Some v) =
          ap (λ at. read_as shape allow at d (items_said shape allow ds) (entries_said shape allow ms)) (sym e) ∙ r in
          absurd (cc)

  mutual
    tree_fits : (d : Data) → HasTexts d → TreeFits d
    tree_fits null x = read_fits null no_items no_members x tt tt tt (λ t c h. absurd (cc))
    tree_fits (boolean b) x = read_fits (boolean b) no_items no_members x tt tt tt (λ t c h. absurd (cc))
    tree_fits (number n) x = read_fits (number n) no_items no_members x tt tt tt (λ t c h. absurd (cc))
    tree_fits (string s) x = read_fits (string s) no_items no_members x tt tt tt (λ t c h. absurd (cc))
    tree_fits (array ds) x = read_fits (array ds) ds no_members x tt (items_fit ds x) tt (λ t c h. absurd (cc))
    tree_fits (object ms) x = let g = members_fit ms x in read_fits (object ms) no_items ms x x tt g (any_fits ms x g)

    items_fit : (ds : Items) → HaveTexts ds → ItemsFit ds
    items_fit no_items x = tt
    items_fit (item d ds) x = (tree_fits d x.0, items_fit ds x.1)

    members_fit : (ms : Members) → MembersHaveTexts ms → MembersFit ms
    members_fit no_members x = tt
    members_fit (member k d ms) x = (tree_fits d x.1, members_fit ms x.2)

-- what stands for a tree is of the type
pub standing_fits : (shape : Shape) (t : ℕ) (allow : Bool) (tree : Data) (c : Content) → IsProper shape → IsWellNamed shape → HasTexts tree
    → message_in (said shape allow tree (root t)) ≡ Some c → FitsAs shape c t
standing_fits shape t allow tree c proper well x h = tree_message shape proper well allow tree (tree_fits shape proper well allow tree x) t c h
