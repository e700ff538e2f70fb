-- Where unknown fields are allowed, a tree says what it says where they are denied.
use Rattle.std.proofs.Common.{◌≡◌, ℕ, List, [], ◌∷◌, Bool, true, false, ◌==◌, ◌&&◌, if◌then◌else◌, Option, Some, None, option_map, option_and_then}
use Rattle.std.proofs.Common.{refl, codes, ap, subst, find, not, ◌||◌, ◌⊎◌, inl, inr, Result, Ok, Err}
use Rattle.std.specs.List.{list_all}
use Rattle.std.specs.Str.{bytes_eq}
use Rattle.serde_json.specs.Data.{Data, null, boolean, number, string, array, object, Items, no_items, item, Members, no_members, member}
use Rattle.pbx_wkt_types.specs.Shapes.{form_of}
use Rattle.pbx_wkt_types.specs.declared.form.Form.{Form}
use Rattle.pbx_wkt_types.specs.declared.form.Form.TheVariants as forms
use Rattle.pbx_content.specs.Content.{Fields}
use Rattle.pbx_content.specs.Meaning.{shown}
use Rattle.pbx_content.specs.Shape.{declared_of, is_float, enum_values_of}
use Rattle.pbx_content.specs.declared.shape.Kind.{Kind}
use Rattle.pbx_content.specs.declared.shape.Kind.TheVariants as kind
use Rattle.pbx_content.specs.declared.shape.FieldShape.{FieldShape}
use Rattle.pbx_content.specs.declared.shape.EnumValueShape.{EnumValueShape}
use Rattle.pbx_content.specs.declared.shape.Shape.{Shape}
use Rattle.pbx_json_meaning.specs.Names.{field_named}
use Rattle.pbx_json_meaning.specs.Scalars.{Family, integers, truths, texts, bytes_texts, floats, messages, enums, family}
use Rattle.pbx_json_meaning.specs.Scalars.{scalar_of, scalar_read, is_null_value, Judged, key_read, value_named, number_named, unknown_name}
use Rattle.pbx_json_meaning.specs.Scalars.{enum_read, null_value_read, if_ok}
use Rattle.pbx_json_meaning.specs.Asked.{Asked, field, one, root, Target, nothing, single, list, map, target}
use Rattle.pbx_json_meaning.specs.declared.kind.JsonKind.{JsonKind}
use Rattle.serde_json.specs.Find.{get_member}
use Rattle.pbx_json_meaning.specs.Urls.{is_type_key, is_value_key, is_type_or_value, type_url, type_of_url, without_type, stands_beside}
use Rattle.pbx_json_meaning.specs.Forms.{is_object_form, skips, form_read, own_read, kind_at, holding, Own, whole, a_list, a_map, beside, under, at_once}
use Rattle.pbx_json_meaning.specs.Forms.{packed, under_value, payload_read, typed_read, members_read, any_read}
use Rattle.pbx_json_meaning.specs.Stands.{beside_type, value_said, payload_said}
use Rattle.pbx_json_meaning.specs.Laws.{ReadWhenAllowed}
use Rattle.pbx_json_meaning.specs.Stands.{Reading, Entry, ok_of, is_known_key, all_known, told_by, told, only, put, with_reading, gathered, if_oneofs}
use Rattle.pbx_json_meaning.specs.Stands.{message_of, all_read, elements_read, entry_read, if_differ, entries_read, message_in, message_as, object_of, own_as}
use Rattle.pbx_json_meaning.specs.Stands.{value_as, list_as, map_as, read_as, read, said, items_said, entries_said}

-- ---- options

-- the second is what the first is, where that is there
abbrev Goes : {X : Type 0} → Option X → Option X → Type 0
Goes {X} x y = (v : X) → x ≡ Some v → y ≡ Some v

map_goes : {X Y : Type 0} (f : X → Y) (x y : Option X) → Goes x y → Goes (option_map f x) (option_map f y)
map_goes f None y g v h = absurd (cc)
map_goes f (Some x) y g v h = rw (g x refl) h

then_goes : {X Y : Type 0} (f g : X → Option Y) (x y : Option X) → Goes x y → ((v : X) → Goes (f v) (g v)) → Goes (option_and_then f x) (option_and_then g y)
then_goes f g None y a b v h = absurd (cc)
then_goes f g (Some x) y a b v h = rw (a x refl) (b x v h)

-- ---- scalars

named_goes : (o : Option EnumValueShape) → Goes (ok_of (number_named false o)) (ok_of (number_named true o))
named_goes None v h = absurd (cc)
named_goes (Some x) v h = h

enum_goes : (vs : List EnumValueShape) (d : Data) → Goes (ok_of (enum_read false vs d)) (ok_of (enum_read true vs d))
enum_goes vs (string s) v h = named_goes (value_named s vs) v h
enum_goes vs null v h = h
enum_goes vs (boolean b) v h = h
enum_goes vs (number n) v h = h
enum_goes vs (array ds) v h = h
enum_goes vs (object ms) v h = h

-- both tests go one way
judged_goes : (b : Bool) (x y z : Judged) → Goes (ok_of y) (ok_of z) → Goes (ok_of (if b then x else y)) (ok_of (if b then x else z))
judged_goes true x y z g v h = h
judged_goes false x y z g v h = g v h

unknown_goes : Goes (ok_of (unknown_name false)) (ok_of (unknown_name true))
unknown_goes v h = absurd (cc)

null_goes : (d : Data) → Goes (ok_of (null_value_read false d)) (ok_of (null_value_read true d))
null_goes (string s) v h = judged_goes (bytes_eq s (codes "NULL_VALUE")) _ _ _ unknown_goes v h
null_goes null v h = h
null_goes (boolean b) v h = h
null_goes (number n) v h = h
null_goes (array ds) v h = h
null_goes (object ms) v h = h

family_goes : (shape : Shape) (k : Family) (d : Data) → Goes (ok_of (scalar_of shape false k d)) (ok_of (scalar_of shape true k d))
family_goes shape (integers min max) d v h = h
family_goes shape truths d v h = h
family_goes shape texts d v h = h
family_goes shape bytes_texts d v h = h
family_goes shape floats d v h = h
family_goes shape (messages t) d v h = h
family_goes shape (enums e) d v h = at (is_null_value shape e) v h
  where
    at : (b : Bool) → Goes (ok_of (if b then null_value_read false d else enum_read false (enum_values_of shape e) d))
        (ok_of (if b then null_value_read true d else enum_read true (enum_values_of shape e) d))
    at true v h = null_goes d v h
    at false v h = enum_goes (enum_values_of shape e) d v h

scalar_goes : (shape : Shape) (k : Kind) (d : Data) → Goes (ok_of (scalar_read shape false k d)) (ok_of (scalar_read shape true k d))
scalar_goes shape k d = family_goes shape (family k) d

-- ---- what trees inside a tree say

module _ (shape : Shape) where
  -- all that the tree says where unknown fields are denied
  abbrev TreeGoes : Data → Type 0
  TreeGoes d = (a : Asked) → Goes (said shape false d a) (said shape true d a)

  abbrev ItemsGo : Items → Type 0
  ItemsGo no_items = Unit {0}
  ItemsGo (item d ds) = TreeGoes d × ItemsGo ds

  abbrev MembersGo : Members → Type 0
  MembersGo no_members = Unit {0}
  MembersGo (member k d ms) = TreeGoes d × MembersGo ms

  -- ---- the fields of an object

  abbrev ReadingsGo : List Reading → List Reading → Type 0
  ReadingsGo [] [] = Unit {0}
  ReadingsGo (x ∷ xs) (y ∷ ys) = Goes x y × ReadingsGo xs ys
  ReadingsGo _ _ = ⊥

  told_goes : (fs : List FieldShape) (n : ℕ) (ms : Members) → MembersGo ms
      → ReadingsGo (told fs n (entries_said shape false ms)) (told fs n (entries_said shape true ms))
  told_goes fs n no_members g = tt
  told_goes fs n (member k d ms) g = at (field_named k fs) (told_goes fs n ms g.1)
    where
      one_more : (b : Bool) (f : FieldShape) (xs ys : List Reading) → ReadingsGo xs ys
          → ReadingsGo (if b then said shape false d (field f) ∷ xs else xs) (if b then said shape true d (field f) ∷ ys else ys)
      one_more true f xs ys r = (g.0 (field f), r)
      one_more false f xs ys r = r

      at : (o : Option FieldShape) → ReadingsGo (told fs n (entries_said shape false ms)) (told fs n (entries_said shape true ms))
          → ReadingsGo (told_by o n (record { key = k; says = said shape false d }) (told fs n (entries_said shape false ms)))
          (told_by o n (record { key = k; says = said shape true d }) (told fs n (entries_said shape true ms)))
      at None r = r
      at (Some f) r = one_more (f.number == n) f _ _ r

  only_goes : (xs ys : List Reading) → ReadingsGo xs ys → Goes (only xs) (only ys)
  only_goes [] [] g v h = h
  only_goes [] (y ∷ ys) g v h = absurd (g)
  only_goes (x ∷ xs) [] g v h = absurd (g)
  only_goes (x ∷ []) (y ∷ []) g v h = g.0 v h
  only_goes (x ∷ []) (y ∷ (z ∷ ys)) g v h = absurd (g.1)
  only_goes (x ∷ (w ∷ xs)) (y ∷ ys) g v h = absurd (cc)

  reading_goes : (n : ℕ) (x y : Reading) (p q : Option Fields) → Goes x y → Goes p q → Goes (with_reading n x p) (with_reading n y q)
  reading_goes n None y p q a b v h = absurd (cc)
  reading_goes n (Some None) y p q a b v h = rw (a None refl) (b v h)
  reading_goes n (Some (Some w)) y p q a b v h = rw (a (Some w) refl) (map_goes (put n w) p q b v h)

  gathered_goes : (x y : ℕ → Reading) → ((n : ℕ) → Goes (x n) (y n)) → (fs : List FieldShape) → Goes (gathered x fs) (gathered y fs)
  gathered_goes x y g [] v h = h
  gathered_goes x y g (f ∷ fs) v h = reading_goes f.number (x f.number) (y f.number) _ _ (g f.number) (gathered_goes x y g fs) v h

  all_allowed : (fs : List FieldShape) (es : List Entry) → all_known true fs es ≡ true
  all_allowed fs [] = refl
  all_allowed fs (e ∷ es) = rw (known (field_named e.key fs), all_allowed fs es) refl
    where
      known : (o : Option FieldShape) → is_known_key true o ≡ true
      known None = refl
      known (Some f) = refl

  message_goes : (a : Bool) (fs : List FieldShape) (ms : Members) → MembersGo ms
      → Goes (message_of a fs (entries_said shape false ms)) (message_of true fs (entries_said shape true ms))
  message_goes a fs ms g v h = rw (all_allowed fs (entries_said shape true ms)) (at (all_known a fs (entries_said shape false ms)) h)
    where
      denied : Option Fields
      denied = gathered (λ n. only (told fs n (entries_said shape false ms))) fs

      allowed : Option Fields
      allowed = gathered (λ n. only (told fs n (entries_said shape true ms))) fs

      fields_go : Goes denied allowed
      fields_go = gathered_goes _ _ (λ n. only_goes _ _ (told_goes fs n ms g)) fs

      at : (b : Bool) → (if b then option_and_then (if_oneofs fs) denied else None) ≡ Some v → option_and_then (if_oneofs fs) allowed ≡ Some v
      at true k = then_goes (if_oneofs fs) (if_oneofs fs) denied allowed fields_go (λ w u e. e) v k
      at false k = absurd (cc)

  -- the keys are the same
  keys_alike : (a : Bool) (fs : List FieldShape) (ms : Members)
      → all_known a fs (entries_said shape true ms) ≡ all_known a fs (entries_said shape false ms)
  keys_alike a fs no_members = refl
  keys_alike a fs (member k d ms) = ap (λ b. is_known_key a (field_named k fs) && b) (keys_alike a fs ms)

  alike_message_goes : (a : Bool) (fs : List FieldShape) (ms : Members) → MembersGo ms
      → Goes (message_of a fs (entries_said shape false ms)) (message_of a fs (entries_said shape true ms))
  alike_message_goes a fs ms g v h = rw (keys_alike a fs ms) (at (all_known a fs (entries_said shape false ms)) h)
    where
      denied : Option Fields
      denied = gathered (λ n. only (told fs n (entries_said shape false ms))) fs

      allowed : Option Fields
      allowed = gathered (λ n. only (told fs n (entries_said shape true ms))) fs

      fields_go : Goes denied allowed
      fields_go = gathered_goes _ _ (λ n. only_goes _ _ (told_goes fs n ms g)) fs

      at : (b : Bool) → (if b then option_and_then (if_oneofs fs) denied else None) ≡ Some v
          → (if b then option_and_then (if_oneofs fs) allowed else None) ≡ Some v
      at true k = then_goes (if_oneofs fs) (if_oneofs fs) denied allowed fields_go (λ w u e. e) v k
      at false k = absurd (cc)

  -- whatever keys are skipped
  form_message_goes : (form : Form) (fs : List FieldShape) (ms : Members) → MembersGo ms
      → Goes (message_of (skips form false) fs (entries_said shape false ms)) (message_of (skips form true) fs (entries_said shape true ms))
  form_message_goes forms.Empty fs ms g = alike_message_goes false fs ms g
  form_message_goes forms.Fields fs ms g = message_goes false fs ms g
  form_message_goes forms.Any fs ms g = message_goes false fs ms g
  form_message_goes forms.Timestamp fs ms g = message_goes false fs ms g
  form_message_goes forms.Duration fs ms g = message_goes false fs ms g
  form_message_goes forms.Struct fs ms g = message_goes false fs ms g
  form_message_goes forms.ListValue fs ms g = message_goes false fs ms g
  form_message_goes forms.Value fs ms g = message_goes false fs ms g
  form_message_goes forms.FieldMask fs ms g = message_goes false fs ms g
  form_message_goes forms.Wrapper fs ms g = message_goes false fs ms g
  form_message_goes forms.FloatWrapper fs ms g = message_goes false fs ms g
  form_message_goes forms.Misshapen fs ms g = message_goes false fs ms g

  -- ---- lists and maps

  items_read_go : (k : Kind) (ds : Items) → ItemsGo ds
      → Goes (all_read (λ says. says (one k)) (items_said shape false ds)) (all_read (λ says. says (one k)) (items_said shape true ds))
  items_read_go k no_items g v h = h
  items_read_go k (item d ds) g v h = then_goes _ _ _ _ (g.0 (one k)) (λ w. map_goes (λ ys. w ∷ ys) _ _ (items_read_go k ds g.1)) v h

  elements_go : (k : Kind) (ds : Items) → ItemsGo ds → Goes (elements_read k (items_said shape false ds)) (elements_read k (items_said shape true ds))
  elements_go k ds g = map_goes _ _ _ (items_read_go k ds g)

  entry_goes : (kk vk : Kind) (k : List ℕ) (d : Data) → TreeGoes d
      → Goes (entry_read kk vk (record { key = k; says = said shape false d })) (entry_read kk vk (record { key = k; says = said shape true d }))
  entry_goes kk vk k d g = then_goes _ _ (ok_of (key_read kk k)) (ok_of (key_read kk k)) (λ w e. e) (λ w. map_goes _ _ _ (g (one vk)))

  members_read_go : (kk vk : Kind) (ms : Members) → MembersGo ms
      → Goes (all_read (entry_read kk vk) (entries_said shape false ms)) (all_read (entry_read kk vk) (entries_said shape true ms))
  members_read_go kk vk no_members g v h = h
  members_read_go kk vk (member k d ms) g v h =
      then_goes _ _ _ _ (entry_goes kk vk k d g.0) (λ w. map_goes (λ ys. w ∷ ys) _ _ (members_read_go kk vk ms g.1)) v h

  entries_go : (kk vk : Kind) (ms : Members) → MembersGo ms
      → Goes (entries_read kk vk (entries_said shape false ms)) (entries_read kk vk (entries_said shape true ms))
  entries_go kk vk ms g = then_goes if_differ if_differ _ _ (members_read_go kk vk ms g) (λ w u e. e)

  -- ---- all trees

  list_goes : (k : Kind) (d : Data) (ds : Items) → ItemsGo ds → Goes (list_as k d (items_said shape false ds)) (list_as k d (items_said shape true ds))
  list_goes k (array no_items) ds g v h = h
  list_goes k (array (item e es)) ds g v h = at (is_float k) v h
    where
      at : (b : Bool) → Goes (if b then None else elements_read k (items_said shape false ds)) (if b then None else elements_read k (items_said shape true ds))
      at true v h = absurd (cc)
      at false v h = elements_go k ds g v h
  list_goes k null ds g v h = h
  list_goes k (boolean b) ds g v h = h
  list_goes k (number n) ds g v h = h
  list_goes k (string s) ds g v h = h
  list_goes k (object ms) ds g v h = h

  map_as_goes : (kk vk : Kind) (d : Data) (ms : Members) → MembersGo ms
      → Goes (map_as kk vk d (entries_said shape false ms)) (map_as kk vk d (entries_said shape true ms))
  map_as_goes kk vk (object no_members) ms g v h = h
  map_as_goes kk vk (object (member k e es)) ms g v h = at (is_float vk) v h
    where
      at : (b : Bool) → Goes (if b then None else entries_read kk vk (entries_said shape false ms))
          (if b then None else entries_read kk vk (entries_said shape true ms))
      at true v h = absurd (cc)
      at false v h = entries_go kk vk ms g v h
  map_as_goes kk vk null ms g v h = h
  map_as_goes kk vk (boolean b) ms g v h = h
  map_as_goes kk vk (number n) ms g v h = h
  map_as_goes kk vk (string s) ms g v h = h
  map_as_goes kk vk (array ds) ms g v h = h

  -- what a form of its own reads
  abbrev OwnGoes : Result Own JsonKind → Result Own JsonKind → Type 0
  OwnGoes (Err k) s = Unit {0}
  OwnGoes (Ok (beside a fs wrap)) s = (s ≡ Ok (beside true fs wrap)) ⊎ (s ≡ Ok (beside a fs wrap))
  OwnGoes (Ok (under a k wrap)) s = (s ≡ Ok (under true k wrap)) ⊎ (s ≡ Ok (under a k wrap))
  OwnGoes (Ok x) s = s ≡ Ok x

  wrapper_goes : (t : ℕ) (r s : Judged) → Goes (ok_of r) (ok_of s)
      → OwnGoes (at_once (if_ok r (λ o. Ok (holding shape t 1 o)))) (at_once (if_ok s (λ o. Ok (holding shape t 1 o))))
  wrapper_goes t (Err e) s g = tt
  wrapper_goes t (Ok x) (Err e) g = absurd (let no : None ≡ Some x = g x refl in cc)
  wrapper_goes t (Ok x) (Ok y) g = let same : Some y ≡ Some x = g x refl in let is : y ≡ x = cc in ap (λ o. Ok (whole (holding shape t 1 o))) is

  alike_goes : (r : Result Own JsonKind) → OwnGoes r r
  alike_goes (Err k) = tt
  alike_goes (Ok (whole c)) = refl
  alike_goes (Ok (a_list k wrap)) = refl
  alike_goes (Ok (a_map k wrap)) = refl
  alike_goes (Ok (beside a fs wrap)) = inr refl
  alike_goes (Ok (under a k wrap)) = inr refl

  under_goes : (t : ℕ) (url : List ℕ) (u : ℕ) (d : Option Data) → OwnGoes (under_value shape false t url u d) (under_value shape true t url u d)
  under_goes t url u None = tt
  under_goes t url u (Some d) = inl refl

  payload_goes : (t : ℕ) (ms : Members) (url : List ℕ) (u : ℕ) → OwnGoes (payload_read shape false t ms url u) (payload_read shape true t ms url u)
  payload_goes t ms url u = at (stands_beside shape u)
    where
      at : (b : Bool) → OwnGoes (if b then Ok (beside false (declared_of shape u) (packed shape t url u))
          else under_value shape false t url u (get_member (codes "value") ms))
          (if b then Ok (beside true (declared_of shape u) (packed shape t url u)) else under_value shape true t url u (get_member (codes "value") ms))
      at true = inl refl
      at false = under_goes t url u (get_member (codes "value") ms)

  typed_goes : (t : ℕ) (ms : Members) (url : List ℕ) (u : Option ℕ) → OwnGoes (typed_read shape false t ms url u) (typed_read shape true t ms url u)
  typed_goes t ms url None = tt
  typed_goes t ms url (Some u) = payload_goes t ms url u

  members_any_goes : (t : ℕ) (ms : Members) (url : Option (List ℕ)) → OwnGoes (members_read shape false t ms url) (members_read shape true t ms url)
  members_any_goes t ms None = tt
  members_any_goes t ms (Some url) = typed_goes t ms url (type_of_url shape url)

  any_goes : (t : ℕ) (d : Data) → OwnGoes (any_read shape false t d) (any_read shape true t d)
  any_goes t (object ms) = members_any_goes t ms (type_url ms)
  any_goes t null = tt
  any_goes t (boolean b) = tt
  any_goes t (number n) = tt
  any_goes t (string s) = tt
  any_goes t (array ds) = tt

  own_goes : (form : Form) (t : ℕ) (d : Data) → OwnGoes (form_read shape false t form d) (form_read shape true t form d)
  own_goes forms.Wrapper t d = wrapper_goes t _ _ (scalar_goes shape (kind_at shape t 1) d)
  own_goes forms.Fields t d = alike_goes (form_read shape false t forms.Fields d)
  own_goes forms.Any t d = any_goes t d
  own_goes forms.Timestamp t d = alike_goes (form_read shape false t forms.Timestamp d)
  own_goes forms.Duration t d = alike_goes (form_read shape false t forms.Duration d)
  own_goes forms.Struct t d = alike_goes (form_read shape false t forms.Struct d)
  own_goes forms.ListValue t d = alike_goes (form_read shape false t forms.ListValue d)
  own_goes forms.Value t d = alike_goes (form_read shape false t forms.Value d)
  own_goes forms.FieldMask t d = alike_goes (form_read shape false t forms.FieldMask d)
  own_goes forms.Empty t d = alike_goes (form_read shape false t forms.Empty d)
  own_goes forms.FloatWrapper t d = alike_goes (form_read shape false t forms.FloatWrapper d)
  own_goes forms.Misshapen t d = alike_goes (form_read shape false t forms.Misshapen d)

  -- ---- payloads

  beside_entries : (a : Bool) (ms : Members) → beside_type (entries_said shape a ms) ≡ entries_said shape a (without_type ms)
  beside_entries a no_members = refl
  beside_entries a (member k d ms) = at (is_type_key k) (beside_entries a ms)
    where
      rest : List Entry
      rest = beside_type (entries_said shape a ms)

      at : (b : Bool) → rest ≡ entries_said shape a (without_type ms)
          → (if not b then record { key = k; says = said shape a d } ∷ rest else rest)
          ≡ entries_said shape a (if b then without_type ms else member k d (without_type ms))
      at true h = h
      at false h = ap (λ es. record { key = k; says = said shape a d } ∷ es) h

  go_without : (ms : Members) → MembersGo ms → MembersGo (without_type ms)
  go_without no_members g = tt
  go_without (member k d ms) g = at (is_type_key k) (go_without ms g.1)
    where
      at : (b : Bool) → MembersGo (without_type ms) → MembersGo (if b then without_type ms else member k d (without_type ms))
      at true h = h
      at false h = (g.0, h)

  message_in_goes : (x y : Reading) → Goes x y → Goes (message_in x) (message_in y)
  message_in_goes None y g v h = absurd (cc)
  message_in_goes (Some r) y g v h = rw (g r refl) h

  value_said_goes : (k : Kind) (ms : Members) → MembersGo ms → Goes (value_said k (entries_said shape false ms)) (value_said k (entries_said shape true ms))
  value_said_goes k no_members g v h = absurd (cc)
  value_said_goes k (member key d ms) g v h = at (is_value_key key) (value_said_goes k ms g.1) h
    where
      first : Bool → Entry
      first a = record { key = key; says = said shape a d }

      found : (a : Bool) → Option Entry
      found a = find (λ e. is_value_key e.key) (entries_said shape a ms)

      at : (b : Bool) → Goes (value_said k (entries_said shape false ms)) (value_said k (entries_said shape true ms))
          → option_and_then (λ e. message_in (e.says (one k))) (if b then Some (first false) else found false) ≡ Some v
          → option_and_then (λ e. message_in (e.says (one k))) (if b then Some (first true) else found true) ≡ Some v
      at true ih e = message_in_goes _ _ (g.0 (one k)) v e
      at false ih e = ih v e

  others_alike : (ms : Members)
      → list_all (λ e. is_type_or_value e.key) (entries_said shape true ms) ≡ list_all (λ e. is_type_or_value e.key) (entries_said shape false ms)
  others_alike no_members = refl
  others_alike (member k d ms) = ap (λ b. is_type_or_value k && b) (others_alike ms)

  payload_goes_on : (a : Bool) (k : Kind) (ms : Members) → MembersGo ms
      → Goes (payload_said a k (entries_said shape false ms)) (payload_said true k (entries_said shape true ms))
  payload_goes_on a k ms g v h = at (a || list_all (λ e. is_type_or_value e.key) (entries_said shape false ms)) h
    where
      at : (b : Bool) → (if b then value_said k (entries_said shape false ms) else None) ≡ Some v → value_said k (entries_said shape true ms) ≡ Some v
      at true e = value_said_goes k ms g v e
      at false e = absurd (cc)

  alike_payload_goes : (a : Bool) (k : Kind) (ms : Members) → MembersGo ms
      → Goes (payload_said a k (entries_said shape false ms)) (payload_said a k (entries_said shape true ms))
  alike_payload_goes a k ms g v h = rw (others_alike ms) (at (a || list_all (λ e. is_type_or_value e.key) (entries_said shape false ms)) h)
    where
      at : (b : Bool) → (if b then value_said k (entries_said shape false ms) else None) ≡ Some v
          → (if b then value_said k (entries_said shape true ms) else None) ≡ Some v
      at true e = value_said_goes k ms g v e
      at false e = absurd (cc)

  -- what is read as a message of a form of its own
  own_as_goes : (r s : Result Own JsonKind) (d : Data) (ds : Items) (ms : Members) → ItemsGo ds → MembersGo ms → OwnGoes r s
      → Goes (own_as shape r d (items_said shape false ds) (entries_said shape false ms)) (own_as shape s d (items_said shape true ds) (entries_said shape true ms))
  own_as_goes (Err k) s d ds ms g m h v e = absurd (cc)
  own_as_goes (Ok (whole c)) s d ds ms g m h v e = rw h e
  own_as_goes (Ok (a_list k wrap)) s d ds ms g m h v e = rw h (map_goes wrap _ _ (map_goes (shown shape false k) _ _ (list_goes k d ds g)) v e)
  own_as_goes (Ok (a_map k wrap)) s d ds ms g m h v e = rw h (map_goes wrap _ _ (map_goes (shown shape false k) _ _ (map_as_goes kind.String k d ms m)) v e)
  own_as_goes (Ok (beside a fs wrap)) s d ds ms g m h v e = at h
    where
      object_goes : (b : Bool) → Goes (message_of a fs (entries_said shape false (without_type ms))) (message_of b fs (entries_said shape true (without_type ms)))
          → (x : Data) → Goes (object_of (message_of a fs) x (beside_type (entries_said shape false ms)))
          (object_of (message_of b fs) x (beside_type (entries_said shape true ms)))
      object_goes b w (object all) u k = rw (beside_entries true ms) (w u (subst (λ es. message_of a fs es ≡ Some u) (beside_entries false ms) k))
      object_goes b w null u k = absurd (cc)
      object_goes b w (boolean c) u k = absurd (cc)
      object_goes b w (number n) u k = absurd (cc)
      object_goes b w (string t) u k = absurd (cc)
      object_goes b w (array es) u k = absurd (cc)

      at : (s ≡ Ok (beside true fs wrap)) ⊎ (s ≡ Ok (beside a fs wrap)) → own_as shape s d (items_said shape true ds) (entries_said shape true ms) ≡ Some v
      at (inl p) = rw p (map_goes wrap _ _ (object_goes true (message_goes a fs (without_type ms) (go_without ms m)) d) v e)
      at (inr p) = rw p (map_goes wrap _ _ (object_goes a (alike_message_goes a fs (without_type ms) (go_without ms m)) d) v e)
  own_as_goes (Ok (under a k wrap)) s d ds ms g m h v e = at h
    where
      object_goes : (b : Bool) → Goes (payload_said a k (entries_said shape false ms)) (payload_said b k (entries_said shape true ms))
          → (x : Data) → Goes (object_of (payload_said a k) x (entries_said shape false ms)) (object_of (payload_said b k) x (entries_said shape true ms))
      object_goes b w (object all) u h = w u h
      object_goes b w null u h = absurd (cc)
      object_goes b w (boolean c) u h = absurd (cc)
      object_goes b w (number n) u h = absurd (cc)
      object_goes b w (string t) u h = absurd (cc)
      object_goes b w (array es) u h = absurd (cc)

      at : (s ≡ Ok (under true k wrap)) ⊎ (s ≡ Ok (under a k wrap)) → own_as shape s d (items_said shape true ds) (entries_said shape true ms) ≡ Some v
      at (inl p) = rw p (map_goes wrap _ _ (object_goes true (payload_goes_on a k ms m) d) v e)
      at (inr p) = rw p (map_goes wrap _ _ (object_goes a (alike_payload_goes a k ms m) d) v e)

  message_as_goes : (t : ℕ) (d : Data) (ds : Items) (ms : Members) → ItemsGo ds → MembersGo ms
      → Goes (message_as shape false t d (items_said shape false ds) (entries_said shape false ms))
      (message_as shape true t d (items_said shape true ds) (entries_said shape true ms))
  message_as_goes t d ds ms f g = at (is_object_form (form_of shape t))
    where
      object_goes : (e : Data) → Goes (object_of (message_of (skips (form_of shape t) false) (declared_of shape t)) e (entries_said shape false ms))
          (object_of (message_of (skips (form_of shape t) true) (declared_of shape t)) e (entries_said shape true ms))
      object_goes (object all) v h = form_message_goes (form_of shape t) (declared_of shape t) ms g v h
      object_goes null v h = absurd (cc)
      object_goes (boolean b) v h = absurd (cc)
      object_goes (number n) v h = absurd (cc)
      object_goes (string s) v h = absurd (cc)
      object_goes (array ds) v h = absurd (cc)

      at : (b : Bool) → Goes (if b then object_of (message_of (skips (form_of shape t) false) (declared_of shape t)) d (entries_said shape false ms)
          else own_as shape (own_read shape false t d) d (items_said shape false ds) (entries_said shape false ms))
          (if b then object_of (message_of (skips (form_of shape t) true) (declared_of shape t)) d (entries_said shape true ms)
          else own_as shape (own_read shape true t d) d (items_said shape true ds) (entries_said shape true ms))
      at true v h = object_goes d v h
      at false v h = own_as_goes _ _ d ds ms f g (own_goes (form_of shape t) t d) v h

  value_goes : (k : Kind) (d : Data) (ds : Items) (ms : Members) → ItemsGo ds → MembersGo ms
      → Goes (value_as shape false k d (items_said shape false ds) (entries_said shape false ms))
      (value_as shape true k d (items_said shape true ds) (entries_said shape true ms))
  value_goes (kind.Message t) d ds ms f g = map_goes _ _ _ (message_as_goes t d ds ms f g)
  value_goes kind.Double d ds ms f g = scalar_goes shape kind.Double d
  value_goes kind.Float d ds ms f g = scalar_goes shape kind.Float d
  value_goes kind.Int32 d ds ms f g = scalar_goes shape kind.Int32 d
  value_goes kind.Int64 d ds ms f g = scalar_goes shape kind.Int64 d
  value_goes kind.Uint32 d ds ms f g = scalar_goes shape kind.Uint32 d
  value_goes kind.Uint64 d ds ms f g = scalar_goes shape kind.Uint64 d
  value_goes kind.Sint32 d ds ms f g = scalar_goes shape kind.Sint32 d
  value_goes kind.Sint64 d ds ms f g = scalar_goes shape kind.Sint64 d
  value_goes kind.Fixed32 d ds ms f g = scalar_goes shape kind.Fixed32 d
  value_goes kind.Fixed64 d ds ms f g = scalar_goes shape kind.Fixed64 d
  value_goes kind.Sfixed32 d ds ms f g = scalar_goes shape kind.Sfixed32 d
  value_goes kind.Sfixed64 d ds ms f g = scalar_goes shape kind.Sfixed64 d
  value_goes kind.Bool d ds ms f g = scalar_goes shape kind.Bool d
  value_goes kind.String d ds ms f g = scalar_goes shape kind.String d
  value_goes kind.Bytes d ds ms f g = scalar_goes shape kind.Bytes d
  value_goes (kind.Enum e) d ds ms f g = scalar_goes shape (kind.Enum e) d

  read_as_goes : (at : Target) (d : Data) (ds : Items) (ms : Members) → ItemsGo ds → MembersGo ms
      → Goes (read_as shape false at d (items_said shape false ds) (entries_said shape false ms))
      (read_as shape true at d (items_said shape true ds) (entries_said shape true ms))
  read_as_goes nothing d ds ms g k v h = h
  read_as_goes (single kd) d ds ms g k v h = value_goes kd d ds ms g k v h
  read_as_goes (list kd) d ds ms g k v h = list_goes kd d ds g v h
  read_as_goes (map kk vk) d ds ms g k v h = map_as_goes kk vk d ms k v h

  read_goes : (d : Data) (ds : Items) (ms : Members) → ItemsGo ds → MembersGo ms → (a : Asked)
      → Goes (read shape false d (items_said shape false ds) (entries_said shape false ms) a)
      (read shape true d (items_said shape true ds) (entries_said shape true ms) a)
  read_goes d ds ms g k (field f) = map_goes _ _ _ (read_as_goes (target shape d (field f)) d ds ms g k)
  read_goes d ds ms g k (one kd) = read_as_goes (target shape d (one kd)) d ds ms g k

  mutual
    tree_goes : (d : Data) → TreeGoes d
    tree_goes null = read_goes null no_items no_members tt tt
    tree_goes (boolean b) = read_goes (boolean b) no_items no_members tt tt
    tree_goes (number n) = read_goes (number n) no_items no_members tt tt
    tree_goes (string s) = read_goes (string s) no_items no_members tt tt
    tree_goes (array ds) = read_goes (array ds) ds no_members (items_go ds) tt
    tree_goes (object ms) = read_goes (object ms) no_items ms tt (members_go ms)

    items_go : (ds : Items) → ItemsGo ds
    items_go no_items = tt
    items_go (item d ds) = (tree_goes d, items_go ds)

    members_go : (ms : Members) → MembersGo ms
    members_go no_members = tt
    members_go (member k d ms) = (tree_goes d, members_go ms)

pub read_when_allowed : ReadWhenAllowed
read_when_allowed shape t tree c h = at (said shape false tree (root t)) (tree_goes shape tree (root t)) h
  where
    at : (r : Reading) → Goes r (said shape true tree (root t)) → message_in r ≡ Some c → message_in (said shape true tree (root t)) ≡ Some c
    at None g k = absurd (cc)
    at (Some v) g k = rw (g v refl) k
