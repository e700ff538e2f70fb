-- What is answered for a tree agrees with what it says.
use Rattle.std.proofs.Common.{◌≡◌, ◌∙◌, ℕ, ◌&&◌, List, [], ◌++◌, Bool, true, false, if◌then◌else◌, Option, Some, None, option_map, Result, Ok, Err, refl, ap, sym, subst, inl, inr}
use Rattle.std.specs.Ordering.{nat_cmp, is_lt}
use Rattle.std.specs.Cmp.Lexicographic.{slice_cmp}
use Rattle.std.specs.declared.cmp.Ordering.{Ordering}
use Rattle.std.specs.declared.cmp.Ordering.TheVariants.{Less, Equal, Greater}
use Rattle.serde_json.specs.Data.{Data, null, boolean, number, string, array, object, Items, no_items, item, Members, no_members, member}
use Rattle.pbx_content.specs.Content as content
use Rattle.pbx_content.specs.Content.{Val, Content, vals_of}
use Rattle.pbx_content.specs.Meaning.{shown}
use Rattle.pbx_content.specs.Shape.{declared_of, is_float}
use Rattle.pbx_content.specs.Sound.{IsProper}
use Rattle.pbx_content.specs.declared.shape.Kind.{Kind}
use Rattle.pbx_content.specs.declared.shape.Kind.TheVariants as kind
use Rattle.pbx_content.specs.declared.shape.Cardinality.{Cardinality}
use Rattle.pbx_content.specs.declared.shape.Cardinality.TheVariants.{Singular, Repeated, Map}
use Rattle.pbx_content.specs.declared.shape.Shape.{Shape}
use Rattle.pbx_content.specs.declared.shape.FieldShape.{FieldShape}
use Rattle.pbx_json_meaning.specs.Forms.{is_object_type, skips_keys, own_read, Own, whole, a_list, a_map, beside, under}
use Rattle.pbx_json_meaning.specs.Asked.{Asked, field, one, Target, nothing, single, list, map, field_target, null_target, target_by, reads_null, has_presence, presence_by}
use Rattle.pbx_json_meaning.specs.Scalars.{scalar_read}
use Rattle.pbx_json_meaning.specs.Urls.{without_type}
use Rattle.pbx_json_meaning.specs.Stands.{Says, Entry, Reading, own_as, ok_of, all_read, present, elements_read, entries_read, object_of, message_of, message_as, value_as, list_as, map_as, read_as, read, shown_for, said, items_said, entries_said, payload_said, beside_type as beside_entries}
use Rattle.pbx_json_meaning.specs.declared.kind.JsonKind.{JsonKind}
use Rattle.pbx_json_meaning.specs.declared.kind.JsonKind.TheVariants as fault
use Rattle.pbx_json_walk.specs.Opened.{members_in, items_if_none, members_if_none, wrong_kind_of}
use Rattle.pbx_json_walk.specs.Walk.{Answer, Answers, Part, or_here, here, and_then, answer_map, are_above, are_ascending, if_ascending, members_answer, message_answer, as_value, value_answer, own_answer}
use Rattle.pbx_json_walk.specs.Walk.{walk_items, list_value, elements_answer, list_answer, entries_answer, map_answer, target_answer, shown_as, answer, answers, items_answers, parts}
use Rattle.pbx_json_walk.specs.Walk.{beside_type, beside_answer, payload_answer}
use Rattle.pbx_json_walk.proofs.Agree.{Agrees, AgreeAll, along, map_agrees, here_agrees, items_agree}
use Rattle.pbx_json_walk.proofs.Walked.{AgreeParts, message_agrees}
use Rattle.pbx_json_walk.proofs.Maps.{AboveParts, AscendingParts, entries_agree}
use Rattle.pbx_json_walk.proofs.Beside.{beside_agree}
use Rattle.pbx_json_walk.proofs.Payload.{payload_agrees}
use Rattle.pbx_json_walk.proofs.Owns.{IsFromType, own_from}

-- ---- messages

ascending_agrees : {X : Type 0} (ms : Members) (r : Option X) (a : Answer X) → (are_ascending ms ≡ true → Agrees r a) → Agrees r (if_ascending ms a)
ascending_agrees {X} ms r a h = at (are_ascending ms) refl
  where
    at : (b : Bool) → are_ascending ms ≡ b → Agrees r (if b then a else here fault.NoMemory)
    at true e = h e
    at false e = inl refl

module _ (shape : Shape) (allow : Bool) (proper : IsProper shape) where
  members_agree : (skips : Bool) (t : ℕ) (ms : Members) (es : List Entry) (ps : List Part) → AgreeParts es ps
      → Agrees (message_of skips (declared_of shape t) es) (members_answer skips (declared_of shape t) ps ms)
  members_agree skips t ms es ps h = ascending_agrees ms _ _ (λ e. message_agrees skips (declared_of shape t) (proper.types t).distinct es ps h)

  -- ---- lists and maps

  -- what a tree that is neither array nor object says
  abbrev Shown : Kind → Reading → Answer (Option Val) → Type 0
  Shown k r a = Agrees (option_map (shown shape false k) r) (answer_map (shown shape false k) a)

  wrong : (k vk : Kind) → Shown k None (or_here (Err (wrong_kind_of vk)))
  wrong k vk = inr refl

  same : (r : Option (List (Option Val))) → option_map list_value (option_map (λ os. [] ++ present os) r) ≡ option_map (λ os. Some (content.many (vals_of (present os)))) r
  same None = refl
  same (Some os) = refl

  some_items : (k vk : Kind) (d : Data) (ds : Items) (items : List Says) (as' : List Answers) → AgreeAll items as'
      → Shown k (if is_float vk then None else elements_read vk items) (and_then (or_here (if is_float vk then items_if_none (item d ds) else Ok (item d ds))) (elements_answer vk as'))
  some_items k vk d ds items as' h = at (is_float vk)
    where
      all : Agrees (elements_read vk items) (answer_map list_value (walk_items vk 0 as' []))
      all = along _ (elements_read vk items) (answer_map list_value (walk_items vk 0 as' [])) (same (all_read (λ says. says (one vk)) items))
          (map_agrees list_value _ (walk_items vk 0 as' []) (items_agree vk 0 items as' [] h))

      at : (b : Bool) → Shown k (if b then None else elements_read vk items) (and_then (or_here (if b then items_if_none (item d ds) else Ok (item d ds))) (elements_answer vk as'))
      at true = inr refl
      at false = map_agrees (shown shape false k) (elements_read vk items) (answer_map list_value (walk_items vk 0 as' [])) all

  no_elements : (k vk : Kind) (items : List Says) → Shown k (list_as vk (array no_items) items) (list_answer vk (array no_items) [])
  no_elements k vk items = at (is_float vk)
    where
      at : (b : Bool) → Shown k (Some None) (and_then (or_here (if b then items_if_none no_items else Ok no_items)) (elements_answer vk []))
      at true = refl
      at false = refl

  above_parts : (k : List ℕ) (ms : Members) → are_above k ms ≡ true → AboveParts k (parts shape allow ms)
  above_parts k no_members h = tt
  above_parts k (member l d ms) h =
      let halves = both (is_lt (slice_cmp nat_cmp k l)) (are_above l ms) h in (less (slice_cmp nat_cmp k l) halves.0, above_parts l ms halves.1)
    where
      both : (a b : Bool) → (a && b) ≡ true → (a ≡ true) × (b ≡ true)
      both true b h = (refl, h)
      both false b h = absurd (cc)

      less : (o : Ordering) → is_lt o ≡ true → o ≡ Less
      less Less e = refl
      less Equal e = absurd (cc)
      less Greater e = absurd (cc)

  ascending_parts : (ms : Members) → are_ascending ms ≡ true → AscendingParts (parts shape allow ms)
  ascending_parts no_members h = tt
  ascending_parts (member k d ms) h = above_parts k ms h

  no_entry : (k kk vk : Kind) (es : List Entry) → Shown k (map_as kk vk (object no_members) es) (map_answer kk vk (object no_members) [])
  no_entry k kk vk es = at (is_float vk)
    where
      at : (b : Bool) → Shown k (Some None) (and_then (or_here (if b then members_if_none no_members else Ok no_members)) (entries_answer kk vk []))
      at true = refl
      at false = refl

  some_entries : (k kk vk : Kind) (s : List ℕ) (d : Data) (ms : Members) (es : List Entry) → AgreeParts es (parts shape allow (member s d ms))
      → Shown k (map_as kk vk (object (member s d ms)) es) (map_answer kk vk (object (member s d ms)) (parts shape allow (member s d ms)))
  some_entries k kk vk s d ms es h = at (is_float vk)
    where
      all : Agrees (entries_read kk vk es) (entries_answer kk vk (parts shape allow (member s d ms)) (member s d ms))
      all = ascending_agrees (member s d ms) _ _ (λ e. entries_agree kk vk es (parts shape allow (member s d ms)) h (ascending_parts (member s d ms) e))

      at : (b : Bool) → Shown k (if b then None else entries_read kk vk es)
          (and_then (or_here (if b then members_if_none (member s d ms) else Ok (member s d ms))) (entries_answer kk vk (parts shape allow (member s d ms))))
      at true = inr refl
      at false = map_agrees (shown shape false k) (entries_read kk vk es) (entries_answer kk vk (parts shape allow (member s d ms)) (member s d ms)) all

  -- ---- fields

  presence_many : (p : Bool) (k : Kind) → presence_by p k Repeated ≡ false
  presence_many p (kind.Message t) = refl
  presence_many p _ = refl

  presence_keyed : (p : Bool) (k kk : Kind) → presence_by p k (Map kk) ≡ false
  presence_keyed p (kind.Message t) kk = refl
  presence_keyed p _ kk = refl

  -- lists and maps have no presence
  abbrev Fits : Target → FieldShape → Type 0
  Fits nothing f = Unit {0}
  Fits (single k) f = Unit {0}
  Fits (list k) f = has_presence f ≡ false
  Fits (map kk vk) f = has_presence f ≡ false

  fits_by : (f : FieldShape) (c : Cardinality) → f.cardinality ≡ c → Fits (target_by f c) f
  fits_by f Singular e = tt
  fits_by f Repeated e = ap (presence_by f.presence f.kind) e ∙ presence_many f.presence f.kind
  fits_by f (Map kk) e = ap (presence_by f.presence f.kind) e ∙ presence_keyed f.presence f.kind kk

  null_fits : (f : FieldShape) (c : Cardinality) → Fits (null_target shape f c) f
  null_fits f Singular = at (reads_null shape f.kind)
    where
      at : (b : Bool) → Fits (if b then single f.kind else nothing) f
      at true = tt
      at false = tt
  null_fits f Repeated = tt
  null_fits f (Map kk) = tt

  target_fits : (d : Data) (f : FieldShape) → Fits (field_target shape d f) f
  target_fits null f = null_fits f f.cardinality
  target_fits (boolean b) f = fits_by f f.cardinality refl
  target_fits (number n) f = fits_by f f.cardinality refl
  target_fits (string s) f = fits_by f f.cardinality refl
  target_fits (array ds) f = fits_by f f.cardinality refl
  target_fits (object ms) f = fits_by f f.cardinality refl

  own_value : (r : Reading) (a : Answer (Option Val)) → Agrees r a → (k : Kind) → Agrees r (answer_map (shown_as shape (one k)) a)
  own_value r (Ok o) h k = h
  own_value r (Err e) h k = h

  -- what a tree says as a payload under `value`
  abbrev Payload : Data → List Entry → List Part → Type 0
  Payload d es ps = (skips : Bool) (k : Kind) → Agrees (object_of (payload_said skips k) d es) (and_then (or_here (members_in d)) (payload_answer skips k ps))

  module _ (d : Data) (items : List Says) (as' : List Answers) (es : List Entry) (ps : List Part) (agree : AgreeParts es ps)
      (lists : (k vk : Kind) → Shown k (list_as vk d items) (list_answer vk d as')) (maps : (k kk vk : Kind) → Shown k (map_as kk vk d es) (map_answer kk vk d ps))
      (payloads : Payload d es ps) where
    beside_agrees : (skips : Bool) (u : ℕ) (x : Data)
        → Agrees (object_of (message_of skips (declared_of shape u)) x (beside_entries es)) (and_then (or_here (members_in x)) (beside_answer skips (declared_of shape u) ps))
    beside_agrees skips u (object ms) = members_agree skips u (without_type ms) (beside_entries es) (beside_type ps) (beside_agree es ps agree)
    beside_agrees skips u null = inr refl
    beside_agrees skips u (boolean b) = inr refl
    beside_agrees skips u (number n) = inr refl
    beside_agrees skips u (string s) = inr refl
    beside_agrees skips u (array ds) = inr refl

    own_agree : (r : Result Own JsonKind) → IsFromType shape d r → Agrees (own_as shape r d items es) (own_answer shape r d as' ps)
    own_agree (Err k) h = inr refl
    own_agree (Ok (whole c)) h = refl
    own_agree (Ok (a_list k wrap)) h = map_agrees wrap _ _ (lists k k)
    own_agree (Ok (a_map k wrap)) h = map_agrees wrap _ _ (maps k kind.String k)
    own_agree (Ok (beside skips fs wrap)) h =
        map_agrees wrap _ _
        (subst (λ (gs : List FieldShape). Agrees (object_of (message_of skips gs) d (beside_entries es)) (and_then (or_here (members_in d)) (beside_answer skips gs ps)))
        (sym h.1) (beside_agrees skips h.0 d))
    own_agree (Ok (under skips k wrap)) h = map_agrees wrap _ _ (payloads skips k)

    message_agree : (t : ℕ) → Agrees (message_as shape allow t d items es) (message_answer shape allow t d as' ps)
    message_agree t = by (is_object_type shape t)
      where
        at : (skips : Bool) (x : Data)
            → Agrees (object_of (message_of skips (declared_of shape t)) x es) (and_then (or_here (members_in x)) (members_answer skips (declared_of shape t) ps))
        at skips (object ms) = members_agree skips t ms es ps agree
        at skips null = inr refl
        at skips (boolean b) = inr refl
        at skips (number n) = inr refl
        at skips (string s) = inr refl
        at skips (array ds) = inr refl

        by : (b : Bool)
            → Agrees (if b then object_of (message_of (skips_keys shape allow t) (declared_of shape t)) d es else own_as shape (own_read shape allow t d) d items es)
            (if b then and_then (or_here (members_in d)) (members_answer (skips_keys shape allow t) (declared_of shape t) ps)
            else own_answer shape (own_read shape allow t d) d as' ps)
        by true = at (skips_keys shape allow t) d
        by false = own_agree (own_read shape allow t d) (own_from shape allow t d)

    scalar_agree : (k : Kind) → Agrees (ok_of (scalar_read shape allow k d)) (or_here (scalar_read shape allow k d))
    scalar_agree k = here_agrees (scalar_read shape allow k d)

    value_agree : (k : Kind) → Agrees (value_as shape allow k d items es) (value_answer shape allow k d as' ps)
    value_agree (kind.Message t) = map_agrees as_value (message_as shape allow t d items es) (message_answer shape allow t d as' ps) (message_agree t)
    value_agree kind.Double = scalar_agree kind.Double
    value_agree kind.Float = scalar_agree kind.Float
    value_agree kind.Int32 = scalar_agree kind.Int32
    value_agree kind.Int64 = scalar_agree kind.Int64
    value_agree kind.Uint32 = scalar_agree kind.Uint32
    value_agree kind.Uint64 = scalar_agree kind.Uint64
    value_agree kind.Sint32 = scalar_agree kind.Sint32
    value_agree kind.Sint64 = scalar_agree kind.Sint64
    value_agree kind.Fixed32 = scalar_agree kind.Fixed32
    value_agree kind.Fixed64 = scalar_agree kind.Fixed64
    value_agree kind.Sfixed32 = scalar_agree kind.Sfixed32
    value_agree kind.Sfixed64 = scalar_agree kind.Sfixed64
    value_agree kind.Bool = scalar_agree kind.Bool
    value_agree kind.String = scalar_agree kind.String
    value_agree kind.Bytes = scalar_agree kind.Bytes
    value_agree (kind.Enum e) = scalar_agree (kind.Enum e)

    by_presence : (f : FieldShape) (r : Reading) (a : Answer (Option Val)) → has_presence f ≡ false → Shown f.kind r a
        → Agrees (shown_for shape (field f) r) (answer_map (shown_as shape (field f)) a)
    by_presence f r a e h = subst (λ p. Agrees (option_map (shown shape p f.kind) r) (answer_map (shown shape p f.kind) a)) (sym e) h

    field_agree : (t : Target) (f : FieldShape) → Fits t f
        → Agrees (shown_for shape (field f) (read_as shape allow t d items es)) (answer_map (shown_as shape (field f)) (target_answer shape allow t d as' ps))
    field_agree nothing f h = refl
    field_agree (single k) f h = map_agrees (shown shape (has_presence f) f.kind) (value_as shape allow k d items es) (value_answer shape allow k d as' ps) (value_agree k)
    field_agree (list k) f h = by_presence f (list_as k d items) (list_answer k d as') h (lists f.kind k)
    field_agree (map kk vk) f h = by_presence f (map_as kk vk d es) (map_answer kk vk d ps) h (maps f.kind kk vk)

    node : (asked : Asked) → Agrees (read shape allow d items es asked) (answer shape allow d as' ps asked)
    node (field f) = field_agree (field_target shape d f) f (target_fits d f)
    node (one k) = own_value (value_as shape allow k d items es) (value_answer shape allow k d as' ps) (value_agree k) k

  lists_agree : (ds : Items) → AgreeAll (items_said shape allow ds) (items_answers shape allow ds) → (k vk : Kind)
      → Shown k (list_as vk (array ds) (items_said shape allow ds)) (list_answer vk (array ds) (items_answers shape allow ds))
  lists_agree no_items h k vk = no_elements k vk []
  lists_agree (item d ds) h k vk = some_items k vk d ds (items_said shape allow (item d ds)) (items_answers shape allow (item d ds)) h

  maps_agree : (ms : Members) → AgreeParts (entries_said shape allow ms) (parts shape allow ms) → (k kk vk : Kind)
      → Shown k (map_as kk vk (object ms) (entries_said shape allow ms)) (map_answer kk vk (object ms) (parts shape allow ms))
  maps_agree no_members h k kk vk = no_entry k kk vk []
  maps_agree (member s d ms) h k kk vk = some_entries k kk vk s d ms (entries_said shape allow (member s d ms)) h

  payload_agree : (ms : Members) → AgreeParts (entries_said shape allow ms) (parts shape allow ms) → Payload (object ms) (entries_said shape allow ms) (parts shape allow ms)
  payload_agree ms h skips k =
      ascending_agrees ms _ _ (λ e. payload_agrees skips k (entries_said shape allow ms) (parts shape allow ms) h (ascending_parts ms e))

  mutual
    pub tree_agrees : (d : Data) (asked : Asked) → Agrees (said shape allow d asked) (answers shape allow d asked)
    tree_agrees null = node null [] [] [] [] tt (λ k vk. inr refl) (λ k kk vk. inr refl) (λ skips k. inr refl)
    tree_agrees (boolean b) = node (boolean b) [] [] [] [] tt (λ k vk. inr refl) (λ k kk vk. inr refl) (λ skips k. inr refl)
    tree_agrees (number n) = node (number n) [] [] [] [] tt (λ k vk. inr refl) (λ k kk vk. inr refl) (λ skips k. inr refl)
    tree_agrees (string s) = node (string s) [] [] [] [] tt (λ k vk. inr refl) (λ k kk vk. inr refl) (λ skips k. inr refl)
    tree_agrees (array ds) = node (array ds) (items_said shape allow ds) (items_answers shape allow ds) [] [] tt (lists_agree ds (all_items_agree ds)) (λ k kk vk. inr refl) (λ skips k. inr refl)
    tree_agrees (object ms) = node (object ms) [] [] (entries_said shape allow ms) (parts shape allow ms) (all_members_agree ms) (λ k vk. inr refl) (maps_agree ms (all_members_agree ms)) (payload_agree ms (all_members_agree ms))

    all_items_agree : (ds : Items) → AgreeAll (items_said shape allow ds) (items_answers shape allow ds)
    all_items_agree no_items = tt
    all_items_agree (item d ds) = (tree_agrees d, all_items_agree ds)

    all_members_agree : (ms : Members) → AgreeParts (entries_said shape allow ms) (parts shape allow ms)
    all_members_agree no_members = tt
    all_members_agree (member k d ms) = (refl, tree_agrees d, all_members_agree ms)
