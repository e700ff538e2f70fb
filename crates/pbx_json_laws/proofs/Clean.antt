-- A tree that is read has no fault.
use Rattle.std.proofs.Common.{◌≡◌, ◌⊎◌, inl, inr, ℕ, zero, suc, ◌&&◌, ◌||◌, List, [], ◌∷◌, Bool, true, false, if◌then◌else◌, Option, Some, None, option_map, refl, ap, sym, ◌∙◌, subst}
use Rattle.std.specs.Prelude.{not, Result, Ok, Err}
use Rattle.serde_json.specs.Data.{Data, null, boolean, number, string, array, object, Items, no_items, item, Members, no_members, member}
use Rattle.serde_json.specs.Find.{get_member, get_item}
use Rattle.pbx_content.specs.Content as content
use Rattle.pbx_content.specs.Content.{Content, Val, Key as MapKey, vals_of}
use Rattle.pbx_content.specs.Meaning.{shown}
use Rattle.pbx_content.specs.Shape.{declared_of, is_float}
use Rattle.pbx_content.specs.Sound.{IsProper, AreProper}
use Rattle.pbx_content.specs.declared.shape.Kind.{Kind}
use Rattle.pbx_content.specs.declared.shape.Kind.TheVariants as kind
use Rattle.pbx_content.specs.declared.shape.FieldShape.{FieldShape}
use Rattle.pbx_content.specs.declared.shape.Shape.{Shape}
use Rattle.pbx_json_meaning.specs.Asked.{Asked, field, one, Target, nothing, single, list, map, target, has_presence}
use Rattle.pbx_json_meaning.specs.Faults.{Inside, leaf, elements, keyed, members, payload, Opened, as_leaf, object_opened, list_opened, map_opened, own_opened, message_opened, single_opened}
use Rattle.pbx_json_meaning.specs.Faults.{opened_as, opened, into, reads_alike, is_second_alike, KeyBreaks, IsKeyFault, FaultAt, SomeWith, OkWith}
use Rattle.pbx_json_meaning.specs.Forms.{is_object_type, skips_keys, own_read, Own, whole, a_list, a_map, beside, under}
use Rattle.pbx_json_meaning.specs.Scalars.{scalar_read, key_read}
use Rattle.pbx_json_meaning.specs.Stands.{present, pairs_of, Reading, Says, Entry, ok_of, all_read, is_alike, all_differ, entry_read, if_differ, entries_read, elements_read, message_of, object_of}
use Rattle.pbx_json_meaning.specs.Stands.{beside_type, payload_said, own_as, message_as, value_as, list_as, map_as, shown_for, said, items_said, entries_said}
use Rattle.pbx_json_meaning.specs.Urls.{without_type}
use Rattle.pbx_json_meaning.specs.declared.kind.JsonKind.{JsonKind}
use Rattle.pbx_json_meaning.specs.declared.kind.JsonKind.TheVariants as fault
use Rattle.pbx_json_meaning.specs.declared.place.Step.{Step}
use Rattle.pbx_json_meaning.specs.declared.place.Step.TheVariants.{Key, Index}
use Rattle.pbx_json_laws.proofs.CleanParts.{IsNeverRead, IsBroken, members_clean, there_is}
use Rattle.pbx_json_laws.proofs.In.{In, Lesser, got_in, lesser_in, less_apart}
use Rattle.pbx_json_laws.proofs.KeyOrder.{alike_swaps, Found, any_key}
use Rattle.pbx_json_laws.proofs.Parts.{from_then, from_map, from_ok_of, if_some, unless_some, of_some, one_ok, or_right, some_with}
use Rattle.pbx_json_laws.proofs.PayloadFaults.{IsGoodOwn, good_own, payload_clean}
use Rattle.pbx_json_laws.proofs.Payloads.{beside-said}
use Rattle.pbx_json_laws.proofs.Read.{items_in, entries_in, says_as, said_is}

one_result : (r : Result MapKey JsonKind) (x : MapKey) (k : JsonKind) → r ≡ Ok x → r ≡ Err k → ⊥
one_result r x k p q = cc

no_error : (o : Opened) (x : Inside) (k : JsonKind) → o ≡ Ok x → o ≡ Err k → ⊥
no_error o x k p q = cc

one_inside : (o : Opened) (x y : Inside) → o ≡ Ok x → o ≡ Ok y → x ≡ y
one_inside o x y p q = cc

module _ (shape : Shape) (allow : Bool) where
  -- ---- the elements of an array

  element_read : (k : Kind) (i : ℕ) (d : Data) (ds : Items) (os : List (Option Val)) → get_item i ds ≡ Some d
      → all_read (λ (s : Says). s (one k)) (items_said shape allow ds) ≡ Some os → (r : Option Val) × (said shape allow d (one k) ≡ Some r)
  element_read k i d no_items os g h = absurd (cc)
  element_read k zero d (item e ds) os g h =
      let it = from_then (λ y. option_map (λ ys. y ∷ ys) (all_read (λ (s : Says). s (one k)) (items_said shape allow ds))) (said shape allow e (one k)) os h in
      (it.0, ap (λ x. said shape allow x (one k)) (sym (of_some e d g)) ∙ it.1)
  element_read k (suc i) d (item e ds) os g h =
      let it = from_then (λ y. option_map (λ ys. y ∷ ys) (all_read (λ (s : Says). s (one k)) (items_said shape allow ds))) (said shape allow e (one k)) os h in
      let rest = from_map (λ ys. it.0 ∷ ys) (all_read (λ (s : Says). s (one k)) (items_said shape allow ds)) os it.2 in
      element_read k i d ds rest.0 g rest.1

  elements_clean : (k : Kind) (ds : Items) (os : List (Option Val)) → all_read (λ (s : Says). s (one k)) (items_said shape allow ds) ≡ Some os
      → (step : Step) (place : List Step) (kind : JsonKind) → IsBroken shape allow (elements k ds) step place kind → ⊥
  elements_clean k ds os h (Index i) place kind (inl b) = b
  elements_clean k ds os h (Key s) place kind (inl b) = absurd (let bad : false ≡ true = b.1 in cc)
  elements_clean k ds os h (Key s) place kind (inr b) = b
  elements_clean k ds os h (Index i) place kind (inr b) = at (get_item i ds) refl b
    where
      at : (o : Option Data) → get_item i ds ≡ o → SomeWith (option_map (λ d. (d, one k)) o) (IsNeverRead shape allow) → ⊥
      at None e b = b
      at (Some d) e b = let it = element_read k i d ds os e h in b it.0 it.1

  -- ---- the entries of a map

  module _ (kk vk : Kind) where
    abbrev found_in : Members → Option Found
    found_in ms = all_read (entry_read kk vk) (entries_said shape allow ms)

    -- a member that is read
    record IsEntry (k : List ℕ) (d : Data) : Type 0 where
      key : MapKey
      value : Option Val
      reads : key_read kk k ≡ Ok key
      says : said shape allow d (one vk) ≡ Some value

    -- the first entry, and the others
    record Split (k : List ℕ) (d : Data) (ms : Members) (es : Found) : Type 0 where
      first : IsEntry k d
      rest : Found
      reads : found_in ms ≡ Some rest
      whole : (first.key, first.value) ∷ rest ≡ es

    split : (k : List ℕ) (d : Data) (ms : Members) (es : Found) → found_in (member k d ms) ≡ Some es → Split k d ms es
    split k d ms es h =
        let entry : Entry = record { key = k; says = said shape allow d } in
        let first = from_then (λ y. option_map (λ ys. y ∷ ys) (found_in ms)) (entry_read kk vk entry) es h in
        let rest = from_map (λ ys. first.0 ∷ ys) (found_in ms) es first.2 in
        let key = from_then (λ x. option_map (λ w. (x, w)) (said shape allow d (one vk))) (ok_of (key_read kk k)) first.0 first.1 in
        let value = from_map (λ w. (key.0, w)) (said shape allow d (one vk)) first.0 key.2 in
        record {
          first = record { key = key.0; value = value.0; reads = from_ok_of (key_read kk k) key.0 key.1; says = value.1 };
          rest = rest.0;
          reads = rest.1;
          whole = ap (λ x. x ∷ rest.0) value.2 ∙ rest.2;
        }

    entry_in : (k : List ℕ) (d : Data) (ms : Members) (es : Found) → found_in ms ≡ Some es → In k d ms → IsEntry k d
    entry_in k d no_members es h i = absurd i
    entry_in k d (member l e ms) es h (inl i) =
        let it = (split l e ms es h).first in
        record {
          key = it.key;
          value = it.value;
          reads = ap (key_read kk) (sym i.0) ∙ it.reads;
          says = ap (λ x. said shape allow x (one vk)) (sym i.1) ∙ it.says;
        }
    entry_in k d (member l e ms) es h (inr i) = let it = split l e ms es h in entry_in k d ms it.rest it.reads i

    -- a key that is there is one of those that are read
    any_in : (p : MapKey → Bool) (k : List ℕ) (d : Data) (a : MapKey) → key_read kk k ≡ Ok a → p a ≡ true → (ms : Members) (es : Found) → found_in ms ≡ Some es
        → In k d ms → any_key p es ≡ true
    any_in p k d a reads here no_members es h i = absurd i
    any_in p k d a reads here (member l e ms) es h (inl i) =
        let it = split l e ms es h in
        let same : it.first.key ≡ a = one_ok (key_read kk k) it.first.key a (ap (key_read kk) (sym i.0) ∙ it.first.reads) reads in
        let own : p it.first.key ≡ true = ap p same ∙ here in
        ap (any_key p) (sym it.whole) ∙ rw own refl
    any_in p k d a reads here (member l e ms) es h (inr i) =
        let it = split l e ms es h in
        ap (any_key p) (sym it.whole) ∙ ap (λ x. p it.first.key || x) (any_in p k d a reads here ms it.rest it.reads i) ∙ or_right (p it.first.key) true refl

    not_both : (a b : Bool) → a ≡ true → (not a && b) ≡ true → ⊥
    not_both true b e h = cc
    not_both false b e h = cc

    tail_of : (a b : Bool) → (not a && b) ≡ true → b ≡ true
    tail_of true b h = absurd (cc)
    tail_of false b h = h

    -- no two keys that are read are alike
    never_alike : (k l : List ℕ) (d e : Data) (a b : MapKey) → key_read kk k ≡ Ok a → key_read kk l ≡ Ok b → is_alike a b ≡ true → (k ≡ l → ⊥)
        → (ms : Members) (es : Found) → found_in ms ≡ Some es → all_differ es ≡ true → In k d ms → In l e ms → ⊥
    never_alike k l d e a b ka lb alike apart no_members es h differ i j = i
    never_alike k l d e a b ka lb alike apart (member m x ms) es h differ (inl i) (inl j) = apart (sym i.0 ∙ j.0)
    never_alike k l d e a b ka lb alike apart (member m x ms) es h differ (inl i) (inr j) =
        let it = split m x ms es h in
        let same : it.first.key ≡ a = one_ok (key_read kk k) it.first.key a (ap (key_read kk) (sym i.0) ∙ it.first.reads) ka in
        let here : is_alike it.first.key b ≡ true = ap (λ x. is_alike x b) same ∙ alike in
        not_both (any_key (is_alike it.first.key) it.rest) (all_differ it.rest) (any_in (is_alike it.first.key) l e b lb here ms it.rest it.reads j)
        (ap all_differ it.whole ∙ differ)
    never_alike k l d e a b ka lb alike apart (member m x ms) es h differ (inr i) (inl j) =
        let it = split m x ms es h in
        let same : it.first.key ≡ b = one_ok (key_read kk l) it.first.key b (ap (key_read kk) (sym j.0) ∙ it.first.reads) lb in
        let here : is_alike it.first.key a ≡ true = ap (λ x. is_alike x a) same ∙ alike_swaps b a ∙ alike in
        not_both (any_key (is_alike it.first.key) it.rest) (all_differ it.rest) (any_in (is_alike it.first.key) k d a ka here ms it.rest it.reads i)
        (ap all_differ it.whole ∙ differ)
    never_alike k l d e a b ka lb alike apart (member m x ms) es h differ (inr i) (inr j) =
        let it = split m x ms es h in
        never_alike k l d e a b ka lb alike apart ms it.rest it.reads
        (tail_of (any_key (is_alike it.first.key) it.rest) (all_differ it.rest) (ap all_differ it.whole ∙ differ)) i j

    module _ (ms : Members) (es : Found) (reads : found_in ms ≡ Some es) (differ : all_differ es ≡ true) where
      no_second_alike : (k : List ℕ) (d : Data) → In k d ms → is_second_alike kk ms k ≡ true → ⊥
      no_second_alike k d i h = at (lesser_in (λ m. reads_alike (key_read kk m.0) (key_read kk k)) k ms h)
        where
          deep : (it : Lesser (λ m. reads_alike (key_read kk m.0) (key_read kk k)) k ms) (x y : Result MapKey JsonKind)
              → key_read kk it.key ≡ x → key_read kk k ≡ y → reads_alike x y ≡ true → ⊥
          deep it (Ok a) (Ok b) p q s = never_alike it.key k it.tree d a b p q s (less_apart it.key k it.less) ms es reads differ it.there i
          deep it (Err a) y p q s = cc
          deep it (Ok a) (Err b) p q s = cc

          at : Lesser (λ m. reads_alike (key_read kk m.0) (key_read kk k)) k ms → ⊥
          at it = deep it (key_read kk it.key) (key_read kk k) refl refl it.passes

      no_bad_key : (k : List ℕ) (d : Data) → In k d ms → (kind : JsonKind) → key_read kk k ≡ Err kind → ⊥
      no_bad_key k d i kind h = let it = entry_in k d ms es reads i in one_result (key_read kk k) it.key kind it.reads h

      no_key_fault : (k : List ℕ) (d : Data) → In k d ms → (kind : JsonKind) → KeyBreaks shape allow (keyed kk vk ms) k kind → ⊥
      no_key_fault k d i fault.DuplicateKey h = no_second_alike k d i h
      no_key_fault k d i fault.WrongKind h = no_bad_key k d i fault.WrongKind h
      no_key_fault k d i kind h = no_bad_key k d i kind h

      keyed_clean : (step : Step) (place : List Step) (kind : JsonKind) → IsBroken shape allow (keyed kk vk ms) step place kind → ⊥
      keyed_clean (Index i) place kind (inl b) = b
      keyed_clean (Index i) place kind (inr b) = b
      keyed_clean (Key k) place kind (inl b) =
          let d = there_is (get_member k ms) b.1 in
          no_key_fault k d.0 (got_in k d.0 ms d.1) kind b.2
      keyed_clean (Key k) place kind (inr b) = at (get_member k ms) refl b
        where
          at : (o : Option Data) → get_member k ms ≡ o → SomeWith (option_map (λ d. (d, one vk)) o) (IsNeverRead shape allow) → ⊥
          at None e b = b
          at (Some d) e b = let it = entry_in k d ms es reads (got_in k d ms e) in b it.value it.says

  -- ---- all trees

  module _ (proper : IsProper shape) where
    -- what is broken of a tree that is opened
    abbrev IsBrokenIn : Opened → Type 0
    IsBrokenIn o = (inside : Inside) × (o ≡ Ok inside) × ((step : Step) × (place : List Step) × (kind : JsonKind) × IsBroken shape allow inside step place kind)

    -- the tree itself, or what is inside it
    abbrev IsFaulty : Opened → Type 0
    IsFaulty o = ((kind : JsonKind) × (o ≡ Err kind)) ⊎ IsBrokenIn o

    leaf_clean : (step : Step) (place : List Step) (kind : JsonKind) → IsBroken shape allow leaf step place kind → ⊥
    leaf_clean (Key k) place kind (inl b) = absurd (let bad : false ≡ true = b.1 in cc)
    leaf_clean (Index i) place kind (inl b) = b
    leaf_clean (Key k) place kind (inr b) = b
    leaf_clean (Index i) place kind (inr b) = b

    -- of an opened tree with nothing broken inside
    none_inside : (o : Opened) (inside : Inside) → o ≡ Ok inside
        → ((step : Step) (place : List Step) (kind : JsonKind) → IsBroken shape allow inside step place kind → ⊥) → IsFaulty o → ⊥
    none_inside o inside e f (inl b) = no_error o inside b.0 e b.1
    none_inside o inside e f (inr b) =
        let P : Inside → Type 0 = λ x. IsBroken shape allow x b.2.0 b.2.1 b.2.2 in
        f b.2.0 b.2.1 b.2.2 (subst P (one_inside o b.0 inside b.1 e) b.2.3)

    value_clean : {X : Type 0} (r : Result X JsonKind) (x : X) → ok_of r ≡ Some x → IsFaulty (as_leaf r) → ⊥
    value_clean (Err k) x h b = (cc)
    value_clean (Ok y) x h b = none_inside (Ok leaf) leaf refl leaf_clean b

    list_faulty : (k : Kind) (d : Data) (r : Option Val) → list_as k d (items_in shape allow d) ≡ Some r → IsFaulty (list_opened k d) → ⊥
    list_faulty k (array no_items) r h b = none_inside (Ok leaf) leaf refl leaf_clean b
    list_faulty k (array (item e es)) r h b =
        let it = unless_some (is_float k) (elements_read k (items_said shape allow (item e es))) r h in
        let os = from_map (λ os. Some (content.many (vals_of (present os)))) (all_read (λ (s : Says). s (one k)) (items_said shape allow (item e es))) r it.1 in
        let P : Bool → Type 0 = λ x. IsFaulty (if x then Err fault.Float else Ok (elements k (item e es))) in
        none_inside (Ok (elements k (item e es))) (elements k (item e es)) refl (elements_clean k (item e es) os.0 os.1) (subst P it.0 b)
    list_faulty k null r h b = cc
    list_faulty k (boolean x) r h b = cc
    list_faulty k (number n) r h b = cc
    list_faulty k (string s) r h b = cc
    list_faulty k (object ms) r h b = cc

    map_faulty : (kk vk : Kind) (d : Data) (r : Option Val) → map_as kk vk d (entries_in shape allow d) ≡ Some r → IsFaulty (map_opened kk vk d) → ⊥
    map_faulty kk vk (object no_members) r h b = none_inside (Ok leaf) leaf refl leaf_clean b
    map_faulty kk vk (object (member k e ms)) r h b =
        let it = unless_some (is_float vk) (entries_read kk vk (entries_said shape allow (member k e ms))) r h in
        let es = from_then if_differ (found_in kk vk (member k e ms)) r it.1 in
        let differ = if_some (all_differ es.0) (Some (Some (content.keyed (pairs_of es.0)))) r es.2 in
        let P : Bool → Type 0 = λ x. IsFaulty (if x then Err fault.Float else Ok (keyed kk vk (member k e ms))) in
        none_inside (Ok (keyed kk vk (member k e ms))) (keyed kk vk (member k e ms)) refl
        (keyed_clean kk vk (member k e ms) es.0 es.1 differ.0) (subst P it.0 b)
    map_faulty kk vk null r h b = cc
    map_faulty kk vk (boolean x) r h b = cc
    map_faulty kk vk (number n) r h b = cc
    map_faulty kk vk (string s) r h b = cc
    map_faulty kk vk (array ds) r h b = cc

    -- an object of fields
    object_faulty : (skips : Bool) (fs : List FieldShape) → AreProper fs → (ms : Members) (c : Content)
        → message_of skips fs (entries_said shape allow ms) ≡ Some c → IsFaulty (Ok (members skips fs ms)) → ⊥
    object_faulty skips fs good ms c h b =
        none_inside (Ok (members skips fs ms)) (members skips fs ms) refl (members_clean shape allow skips fs good ms c h) b

    -- the fields beside the type
    beside_faulty : (skips : Bool) (fs : List FieldShape) → AreProper fs → (d : Data) (c : Content)
        → object_of (message_of skips fs) d (beside_type (entries_in shape allow d)) ≡ Some c
        → IsFaulty (object_opened (λ ms. Ok (members skips fs (without_type ms))) d) → ⊥
    beside_faulty skips fs good (object ms) c h b =
        object_faulty skips fs good (without_type ms) c (ap (message_of skips fs) (sym (beside-said shape allow ms)) ∙ h) b
    beside_faulty skips fs good null c h b = cc
    beside_faulty skips fs good (boolean x) c h b = cc
    beside_faulty skips fs good (number n) c h b = cc
    beside_faulty skips fs good (string s) c h b = cc
    beside_faulty skips fs good (array ds) c h b = cc

    -- the payload under `value`
    under_faulty : (skips : Bool) (k : Kind) (d : Data) (c : Content) → object_of (payload_said skips k) d (entries_in shape allow d) ≡ Some c
        → IsFaulty (object_opened (λ ms. Ok (payload skips k ms)) d) → ⊥
    under_faulty skips k (object ms) c h b =
        none_inside (Ok (payload skips k ms)) (payload skips k ms) refl (payload_clean shape allow skips k ms c h) b
    under_faulty skips k null c h b = cc
    under_faulty skips k (boolean x) c h b = cc
    under_faulty skips k (number n) c h b = cc
    under_faulty skips k (string s) c h b = cc
    under_faulty skips k (array ds) c h b = cc

    own_faulty : (r : Result Own JsonKind) (d : Data) (c : Content) → IsGoodOwn r d → own_as shape r d (items_in shape allow d) (entries_in shape allow d) ≡ Some c
        → IsFaulty (own_opened r d) → ⊥
    own_faulty (Err k) d c good h b = cc
    own_faulty (Ok (whole e)) d c good h b = none_inside (Ok leaf) leaf refl leaf_clean b
    own_faulty (Ok (a_list k wrap)) d c good h b =
        let it = from_map wrap (option_map (shown shape false k) (list_as k d (items_in shape allow d))) c h in
        let found = from_map (shown shape false k) (list_as k d (items_in shape allow d)) it.0 it.1 in
        list_faulty k d found.0 found.1 b
    own_faulty (Ok (a_map k wrap)) d c good h b =
        let it = from_map wrap (option_map (shown shape false k) (map_as kind.String k d (entries_in shape allow d))) c h in
        let found = from_map (shown shape false k) (map_as kind.String k d (entries_in shape allow d)) it.0 it.1 in
        map_faulty kind.String k d found.0 found.1 b
    own_faulty (Ok (beside skips fs wrap)) d c good h b =
        let it = from_map wrap (object_of (message_of skips fs) d (beside_type (entries_in shape allow d))) c h in
        beside_faulty skips fs good d it.0 it.1 b
    own_faulty (Ok (under skips k wrap)) d c good h b =
        let it = from_map wrap (object_of (payload_said skips k) d (entries_in shape allow d)) c h in
        under_faulty skips k d it.0 it.1 b

    message_faulty : (t : ℕ) (d : Data) (c : Content) → message_as shape allow t d (items_in shape allow d) (entries_in shape allow d) ≡ Some c
        → IsFaulty (message_opened shape allow t d) → ⊥
    message_faulty t d c h b = either (is_object_type shape t) h b
      where
        fs : List FieldShape
        fs = declared_of shape t

        opened_faulty : (d : Data) → object_of (message_of (skips_keys shape allow t) fs) d (entries_in shape allow d) ≡ Some c
            → IsFaulty (object_opened (λ ms. Ok (members (skips_keys shape allow t) fs ms)) d) → ⊥
        opened_faulty (object ms) h b = object_faulty (skips_keys shape allow t) fs (proper.types t) ms c h b
        opened_faulty null h b = cc
        opened_faulty (boolean x) h b = cc
        opened_faulty (number n) h b = cc
        opened_faulty (string s) h b = cc
        opened_faulty (array ds) h b = cc

        either : (x : Bool)
            → (if x then object_of (message_of (skips_keys shape allow t) fs) d (entries_in shape allow d)
            else own_as shape (own_read shape allow t d) d (items_in shape allow d) (entries_in shape allow d)) ≡ Some c
            → IsFaulty (if x then object_opened (λ ms. Ok (members (skips_keys shape allow t) fs ms)) d else own_opened (own_read shape allow t d) d) → ⊥
        either true h b = opened_faulty d h b
        either false h b = own_faulty (own_read shape allow t d) d c (good_own shape proper allow t d) h b

    single_faulty : (k : Kind) (d : Data) (r : Option Val) → value_as shape allow k d (items_in shape allow d) (entries_in shape allow d) ≡ Some r
        → IsFaulty (single_opened shape allow k d) → ⊥
    single_faulty (kind.Message t) d r h b =
        let it = from_map (λ c. Some (content.message c)) (message_as shape allow t d (items_in shape allow d) (entries_in shape allow d)) r h in
        message_faulty t d it.0 it.1 b
    single_faulty kind.Int32 d r h b = value_clean (scalar_read shape allow kind.Int32 d) r h b
    single_faulty k d r h b = value_clean (scalar_read shape allow k d) r h b

    faulty_as : (tg : Target) (d : Data) (r : Option Val) → says_as shape allow d tg ≡ Some r → IsFaulty (opened_as shape allow tg d) → ⊥
    faulty_as nothing d r h b = none_inside (Ok leaf) leaf refl leaf_clean b
    faulty_as (single k) d r h b = single_faulty k d r h b
    faulty_as (list k) d r h b = list_faulty k d r h b
    faulty_as (map kk vk) d r h b = map_faulty kk vk d r h b

    -- what is shown was read
    read_from_shown : (a : Asked) (x : Reading) (r : Option Val) → shown_for shape a x ≡ Some r → (y : Option Val) × (x ≡ Some y)
    read_from_shown (one k) x r h = (r, h)
    read_from_shown (field f) x r h = let it = from_map (shown shape (has_presence f) f.kind) x r h in (it.0, it.1)

    opened_with : (o : Opened) (step : Step) (place : List Step) (kind : JsonKind)
        → ((next : Data × Asked) → FaultAt shape allow place next.0 next.1 kind → IsNeverRead shape allow next)
        → OkWith o (λ inside. IsKeyFault shape allow inside step place kind ⊎ SomeWith (into inside step) (λ next. FaultAt shape allow place next.0 next.1 kind))
        → IsFaulty o
    opened_with (Err e) step place kind f h = absurd h
    opened_with (Ok inside) step place kind f h = inr (inside, refl, (step, place, kind, broken h))
      where
        broken : IsKeyFault shape allow inside step place kind ⊎ SomeWith (into inside step) (λ next. FaultAt shape allow place next.0 next.1 kind)
            → IsBroken shape allow inside step place kind
        broken (inl b) = inl b
        broken (inr b) = inr (some_with (λ next. FaultAt shape allow place next.0 next.1 kind) (IsNeverRead shape allow) (into inside step) f b)

    -- a tree with a fault at some place is not read
    pub faulty : (place : List Step) (d : Data) (a : Asked) (kind : JsonKind) → FaultAt shape allow place d a kind → (r : Option Val)
        → said shape allow d a ≡ Some r → ⊥
    faulty [] d a kind h r e =
        let it = read_from_shown a (says_as shape allow d (target shape d a)) r (sym (said_is shape allow d a) ∙ e) in
        faulty_as (target shape d a) d it.0 it.1 (inl (kind, h))
    faulty (step ∷ place) d a kind h r e =
        let it = read_from_shown a (says_as shape allow d (target shape d a)) r (sym (said_is shape allow d a) ∙ e) in
        faulty_as (target shape d a) d it.0 it.1
        (opened_with (opened shape allow d a) step place kind (λ next g. λ x q. faulty place next.0 next.1 kind g x q) h)
