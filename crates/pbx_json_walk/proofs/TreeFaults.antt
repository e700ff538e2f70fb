-- What is answered for a tree tells its first fault.
use Rattle.std.proofs.Common.{◌≡◌, ◌∙◌, ℕ, List, [], ◌∷◌, Bool, true, false, if◌then◌else◌, Option, None, Result, Ok, Err, refl, ap, sym, subst, inl, inr}
use Rattle.serde_json.specs.Data.{Data, null, boolean, number, string, array, object, Items, no_items, item, Members, no_members, member}
use Rattle.pbx_content.specs.Content.{Val, Content}
use Rattle.pbx_content.specs.Meaning.{shown}
use Rattle.pbx_content.specs.Shape.{declared_of, is_float}
use Rattle.pbx_content.specs.Sound.{IsProper}
use Rattle.pbx_content.specs.declared.shape.Kind.{Kind}
use Rattle.pbx_content.specs.declared.shape.Kind.TheVariants as kind
use Rattle.pbx_content.specs.declared.shape.Shape.{Shape}
use Rattle.pbx_content.specs.declared.shape.FieldShape.{FieldShape}
use Rattle.pbx_json_meaning.specs.Asked.{Asked, Target, nothing, single, list, map, target}
use Rattle.pbx_json_meaning.specs.Scalars.{scalar_read}
use Rattle.pbx_json_meaning.specs.Forms.{is_object_type, skips_keys, own_read, Own, whole, a_list, a_map, beside, under}
use Rattle.pbx_json_meaning.specs.Urls.{is_type_key, without_type}
use Rattle.pbx_json_meaning.specs.Faults.{leaf, elements, keyed, members, payload, as_leaf, own_opened, object_opened, message_opened, single_opened, unless_float, opened_as, opened}
use Rattle.pbx_json_meaning.specs.FirstFaults.{FirstHere, FirstAtKey, FirstBelow}
use Rattle.pbx_json_meaning.specs.declared.kind.JsonKind.{JsonKind}
use Rattle.pbx_json_meaning.specs.declared.kind.JsonKind.TheVariants as fault
use Rattle.pbx_json_walk.specs.Opened.{members_in, items_if_none, members_if_none, wrong_kind_of}
use Rattle.pbx_json_walk.specs.Walk.{Answer, Answers, Part, or_here, here, and_then, answer_map, are_ascending, if_ascending, walk, start, content_found, members_answer, message_answer, as_value, value_answer, own_answer}
use Rattle.pbx_json_walk.specs.Walk.{walk_items, list_value, elements_answer, list_answer, walk_entries, no_entries, map_value, entries_answer, map_answer, target_answer, shown_as, answer, answers, items_answers, parts}
use Rattle.pbx_json_walk.specs.Walk.{beside_answer, walk_payload, payload_found, payload_answer}
use Rattle.pbx_json_walk.proofs.Trees.{tree_agrees}
use Rattle.pbx_json_walk.proofs.Faults.{Tells, leaf_clean, walk_tells, walk_map, tells_map, ItemsTell, elements_tell}
use Rattle.pbx_json_walk.proofs.MemberFaults.{MembersTell, members_tell}
use Rattle.pbx_json_walk.proofs.EntryFaults.{EntriesTell, entries_tell}
use Rattle.pbx_json_walk.proofs.PayloadFaults.{PayloadTell, payload_tells}
use Rattle.pbx_json_walk.proofs.Beside.{beside_parts}
use Rattle.pbx_json_walk.proofs.Owns.{HasValue, IsFromType, own_from}

module _ (fh : FirstHere) (fk : FirstAtKey) (fb : FirstBelow) (shape : Shape) (allow : Bool) (proper : IsProper shape) where
  -- a fault of the tree itself
  here_tells : (X : Type 0) (d : Data) (asked : Asked) (k : JsonKind) → opened shape allow d asked ≡ Err k → Tells {X = X} shape allow d asked (here k)
  here_tells X d asked k e = inr (fh shape allow d asked k e)

  leaf_tells : {X : Type 0} (d : Data) (asked : Asked) (x : X) → opened shape allow d asked ≡ Ok leaf → Tells shape allow d asked (Ok x)
  leaf_tells d asked x e = leaf_clean fh fk fb shape allow d asked e

  scalar_tells : {X : Type 0} (d : Data) (asked : Asked) (r : Result X JsonKind) → opened shape allow d asked ≡ as_leaf r → Tells shape allow d asked (or_here r)
  scalar_tells d asked (Ok x) e = leaf_tells d asked x e
  scalar_tells {X} d asked (Err k) e = here_tells X d asked k e

  wrong_tells : (X : Type 0) (d : Data) (asked : Asked) (k : Kind) → opened shape allow d asked ≡ unless_float k (Err fault.WrongKind)
      → Tells {X = X} shape allow d asked (or_here (Err (wrong_kind_of k)))
  wrong_tells X d asked k e = at (is_float k) e
    where
      at : (b : Bool) → opened shape allow d asked ≡ (if b then Err fault.Float else Err fault.WrongKind)
          → Tells {X = X} shape allow d asked (or_here (Err (if b then fault.Float else fault.WrongKind)))
      at true f = here_tells X d asked fault.Float f
      at false f = here_tells X d asked fault.WrongKind f

  ascending_tells : {X : Type 0} (d : Data) (asked : Asked) (ms : Members) (a : Answer X) → (are_ascending ms ≡ true → Tells shape allow d asked a) → Tells shape allow d asked (if_ascending ms a)
  ascending_tells {X} d asked ms a h = at (are_ascending ms) refl
    where
      at : (b : Bool) → are_ascending ms ≡ b → Tells shape allow d asked (if b then a else here fault.NoMemory)
      at true e = h e
      at false e = inl refl

  -- the parts of a tree
  record PartsTell (d : Data) (as' : List Answers) (ps : List Part) : Type 0 where
    objects : (t : ℕ) (asked : Asked) → opened shape allow d asked ≡ object_opened (λ ms. Ok (members (skips_keys shape allow t) (declared_of shape t) ms)) d
        → Tells shape allow d asked (and_then (or_here (members_in d)) (members_answer (skips_keys shape allow t) (declared_of shape t) ps))
    besides : (skips : Bool) (u : ℕ) (asked : Asked) → opened shape allow d asked ≡ object_opened (λ ms. Ok (members skips (declared_of shape u) (without_type ms))) d
        → Tells shape allow d asked (and_then (or_here (members_in d)) (beside_answer skips (declared_of shape u) ps))
    payloads : (skips : Bool) (u : ℕ) → HasValue d → (asked : Asked) → opened shape allow d asked ≡ object_opened (λ ms. Ok (payload skips (kind.Message u) ms)) d
        → Tells shape allow d asked (and_then (or_here (members_in d)) (payload_answer skips (kind.Message u) ps))
    lists : (k : Kind) (asked : Asked) → opened shape allow d asked ≡ opened_as shape allow (list k) d → Tells shape allow d asked (list_answer k d as')
    maps : (kk vk : Kind) (asked : Asked) → opened shape allow d asked ≡ opened_as shape allow (map kk vk) d → Tells shape allow d asked (map_answer kk vk d ps)

  module _ (d : Data) (as' : List Answers) (ps : List Part) (tell : PartsTell d as' ps) where
    beside_tells : (skips : Bool) (u : ℕ) (fs : List FieldShape) → fs ≡ declared_of shape u → (asked : Asked)
        → opened shape allow d asked ≡ object_opened (λ ms. Ok (members skips fs (without_type ms))) d
        → Tells shape allow d asked (and_then (or_here (members_in d)) (beside_answer skips fs ps))
    beside_tells skips u fs same asked e =
        subst (λ gs. Tells shape allow d asked (and_then (or_here (members_in d)) (beside_answer skips gs ps))) (sym same)
        (tell.besides skips u asked (e ∙ ap (λ gs. object_opened (λ ms. Ok (members skips gs (without_type ms))) d) same))

    under_tells : (skips : Bool) (u : ℕ) (k : Kind) → k ≡ kind.Message u → HasValue d → (asked : Asked)
        → opened shape allow d asked ≡ object_opened (λ ms. Ok (payload skips k ms)) d
        → Tells shape allow d asked (and_then (or_here (members_in d)) (payload_answer skips k ps))
    under_tells skips u k same there asked e =
        subst (λ x. Tells shape allow d asked (and_then (or_here (members_in d)) (payload_answer skips x ps))) (sym same)
        (tell.payloads skips u there asked (e ∙ ap (λ x. object_opened (λ ms. Ok (payload skips x ms)) d) same))

    own_tells : (r : Result Own JsonKind) → IsFromType shape d r → (asked : Asked) → opened shape allow d asked ≡ own_opened r d → Tells shape allow d asked (own_answer shape r d as' ps)
    own_tells (Err k) from asked e = here_tells Content d asked k e
    own_tells (Ok (whole c)) from asked e = leaf_tells d asked c e
    own_tells (Ok (beside skips fs wrap)) from asked e =
        tells_map shape allow d asked wrap (and_then (or_here (members_in d)) (beside_answer skips fs ps)) (beside_tells skips from.0 fs from.1 asked e)
    own_tells (Ok (under skips k wrap)) from asked e =
        tells_map shape allow d asked wrap (and_then (or_here (members_in d)) (payload_answer skips k ps)) (under_tells skips from.0 k from.1 from.2 asked e)
    own_tells (Ok (a_list k wrap)) from asked e =
        tells_map shape allow d asked wrap (answer_map (shown shape false k) (list_answer k d as'))
        (tells_map shape allow d asked (shown shape false k) (list_answer k d as') (tell.lists k asked e))
    own_tells (Ok (a_map k wrap)) from asked e =
        tells_map shape allow d asked wrap (answer_map (shown shape false k) (map_answer kind.String k d ps))
        (tells_map shape allow d asked (shown shape false k) (map_answer kind.String k d ps) (tell.maps kind.String k asked e))

    message_tells : (t : ℕ) (asked : Asked) → opened shape allow d asked ≡ message_opened shape allow t d → Tells shape allow d asked (message_answer shape allow t d as' ps)
    message_tells t asked e = by (is_object_type shape t) e
      where
        by : (b : Bool)
            → opened shape allow d asked
            ≡ (if b then object_opened (λ ms. Ok (members (skips_keys shape allow t) (declared_of shape t) ms)) d else own_opened (own_read shape allow t d) d)
            → Tells shape allow d asked
            (if b then and_then (or_here (members_in d)) (members_answer (skips_keys shape allow t) (declared_of shape t) ps)
            else own_answer shape (own_read shape allow t d) d as' ps)
        by true f = tell.objects t asked f
        by false f = own_tells (own_read shape allow t d) (own_from shape allow t d) asked f

    value_tells : (k : Kind) (asked : Asked) → opened shape allow d asked ≡ single_opened shape allow k d → Tells shape allow d asked (value_answer shape allow k d as' ps)
    value_tells (kind.Message t) asked e = tells_map shape allow d asked as_value (message_answer shape allow t d as' ps) (message_tells t asked e)
    value_tells kind.Double asked e = scalar_tells d asked (scalar_read shape allow kind.Double d) e
    value_tells kind.Float asked e = scalar_tells d asked (scalar_read shape allow kind.Float d) e
    value_tells kind.Int32 asked e = scalar_tells d asked (scalar_read shape allow kind.Int32 d) e
    value_tells kind.Int64 asked e = scalar_tells d asked (scalar_read shape allow kind.Int64 d) e
    value_tells kind.Uint32 asked e = scalar_tells d asked (scalar_read shape allow kind.Uint32 d) e
    value_tells kind.Uint64 asked e = scalar_tells d asked (scalar_read shape allow kind.Uint64 d) e
    value_tells kind.Sint32 asked e = scalar_tells d asked (scalar_read shape allow kind.Sint32 d) e
    value_tells kind.Sint64 asked e = scalar_tells d asked (scalar_read shape allow kind.Sint64 d) e
    value_tells kind.Fixed32 asked e = scalar_tells d asked (scalar_read shape allow kind.Fixed32 d) e
    value_tells kind.Fixed64 asked e = scalar_tells d asked (scalar_read shape allow kind.Fixed64 d) e
    value_tells kind.Sfixed32 asked e = scalar_tells d asked (scalar_read shape allow kind.Sfixed32 d) e
    value_tells kind.Sfixed64 asked e = scalar_tells d asked (scalar_read shape allow kind.Sfixed64 d) e
    value_tells kind.Bool asked e = scalar_tells d asked (scalar_read shape allow kind.Bool d) e
    value_tells kind.String asked e = scalar_tells d asked (scalar_read shape allow kind.String d) e
    value_tells kind.Bytes asked e = scalar_tells d asked (scalar_read shape allow kind.Bytes d) e
    value_tells (kind.Enum x) asked e = scalar_tells d asked (scalar_read shape allow (kind.Enum x) d) e

    by_target : (asked : Asked) (t : Target) → opened shape allow d asked ≡ opened_as shape allow t d → Tells shape allow d asked (target_answer shape allow t d as' ps)
    by_target asked nothing e = leaf_tells {X = Option Val} d asked None e
    by_target asked (single k) e = value_tells k asked e
    by_target asked (list k) e = tell.lists k asked e
    by_target asked (map kk vk) e = tell.maps kk vk asked e

    node : (asked : Asked) → Tells shape allow d asked (answer shape allow d as' ps asked)
    node asked = tells_map shape allow d asked (shown_as shape asked) (target_answer shape allow (target shape d asked) d as' ps) (by_target asked (target shape d asked) refl)

  -- ---- arrays and objects

  array_lists : (ds : Items) (as' : List Answers) → ItemsTell shape allow ds as' → (k : Kind) (asked : Asked)
      → opened shape allow (array ds) asked ≡ opened_as shape allow (list k) (array ds) → Tells shape allow (array ds) asked (list_answer k (array ds) as')
  array_lists no_items [] h k asked e = at (is_float k)
    where
      at : (b : Bool) → Tells shape allow (array no_items) asked (and_then (or_here (if b then items_if_none no_items else Ok no_items)) (elements_answer k []))
      at true = leaf_tells (array no_items) asked (list_value []) e
      at false = leaf_tells (array no_items) asked (list_value []) e
  array_lists no_items (a ∷ as') h k asked e = absurd h
  array_lists (item d ds) as' h k asked e = at (is_float k) e
    where
      at : (b : Bool) → opened shape allow (array (item d ds)) asked ≡ (if b then Err fault.Float else Ok (elements k (item d ds)))
          → Tells shape allow (array (item d ds)) asked (and_then (or_here (if b then items_if_none (item d ds) else Ok (item d ds))) (elements_answer k as'))
      at true f = here_tells (Option Val) (array (item d ds)) asked fault.Float f
      at false f = walk_tells fk fb fh shape allow (array (item d ds)) asked (elements k (item d ds)) (answer_map list_value (walk_items k 0 as' [])) f
          (walk_map shape allow (elements k (item d ds)) list_value (walk_items k 0 as' []) (elements_tell shape allow k (item d ds) as' h))

  object_members : (d : Data) (ms : Members) (skips : Bool) (t : ℕ) → MembersTell shape allow skips (declared_of shape t) ms ms → (asked : Asked)
      → opened shape allow d asked ≡ Ok (members skips (declared_of shape t) ms)
      → Tells shape allow d asked (members_answer skips (declared_of shape t) (parts shape allow ms) ms)
  object_members d ms skips t h asked e =
      ascending_tells d asked ms (answer_map content_found (walk skips (declared_of shape t) (parts shape allow ms) start)) (λ ascending.
      walk_tells fk fb fh shape allow d asked (members skips (declared_of shape t) ms) (answer_map content_found (walk skips (declared_of shape t) (parts shape allow ms) start)) e
      (walk_map shape allow (members skips (declared_of shape t) ms) content_found (walk skips (declared_of shape t) (parts shape allow ms) start)
      (members_tell shape allow skips (declared_of shape t) ms ascending h)))

  -- the members but that of the type
  without_tell : (skips : Bool) (fs : List FieldShape) (ns ms : Members) → MembersTell shape allow skips fs ns ms → MembersTell shape allow skips fs ns (without_type ms)
  without_tell skips fs ns no_members h = tt
  without_tell skips fs ns (member k d ms) h = at (is_type_key k) (without_tell skips fs ns ms h.2)
    where
      at : (b : Bool) → MembersTell shape allow skips fs ns (without_type ms) → MembersTell shape allow skips fs ns (if b then without_type ms else member k d (without_type ms))
      at true ih = ih
      at false ih = (h.0, h.1, ih)

  object_beside : (ms : Members) (skips : Bool) (t : ℕ) → MembersTell shape allow skips (declared_of shape t) (without_type ms) ms → (asked : Asked)
      → opened shape allow (object ms) asked ≡ Ok (members skips (declared_of shape t) (without_type ms))
      → Tells shape allow (object ms) asked (beside_answer skips (declared_of shape t) (parts shape allow ms) ms)
  object_beside ms skips t h asked e =
      subst (λ ps. Tells shape allow (object ms) asked (members_answer skips (declared_of shape t) ps (without_type ms))) (sym (beside_parts shape allow ms))
      (object_members (object ms) (without_type ms) skips t (without_tell skips (declared_of shape t) (without_type ms) ms h) asked e)

  object_payload : (ms : Members) (skips : Bool) (u : ℕ) → PayloadTell shape allow skips (kind.Message u) ms ms → HasValue (object ms) → (asked : Asked)
      → opened shape allow (object ms) asked ≡ Ok (payload skips (kind.Message u) ms)
      → Tells shape allow (object ms) asked (payload_answer skips (kind.Message u) (parts shape allow ms) ms)
  object_payload ms skips u h there asked e =
      let k = kind.Message u in
      ascending_tells (object ms) asked ms (and_then (walk_payload skips k (parts shape allow ms) None) payload_found) (λ ascending.
      walk_tells fk fb fh shape allow (object ms) asked (payload skips k ms) (and_then (walk_payload skips k (parts shape allow ms) None) payload_found) e
      (payload_tells shape allow skips u ms there ascending h))

  object_maps : (ms : Members) → ((kk vk : Kind) → EntriesTell shape allow kk vk ms ms) → (kk vk : Kind) (asked : Asked)
      → opened shape allow (object ms) asked ≡ opened_as shape allow (map kk vk) (object ms) → Tells shape allow (object ms) asked (map_answer kk vk (object ms) (parts shape allow ms))
  object_maps no_members h kk vk asked e = at (is_float vk)
    where
      at : (b : Bool) → Tells shape allow (object no_members) asked (and_then (or_here (if b then members_if_none no_members else Ok no_members)) (entries_answer kk vk []))
      at true = leaf_tells (object no_members) asked (map_value no_entries) e
      at false = leaf_tells (object no_members) asked (map_value no_entries) e
  object_maps (member k d ms) h kk vk asked e = at (is_float vk) e
    where
      at : (b : Bool) → opened shape allow (object (member k d ms)) asked ≡ (if b then Err fault.Float else Ok (keyed kk vk (member k d ms)))
          → Tells shape allow (object (member k d ms)) asked
          (and_then (or_here (if b then members_if_none (member k d ms) else Ok (member k d ms))) (entries_answer kk vk (parts shape allow (member k d ms))))
      at true f = here_tells (Option Val) (object (member k d ms)) asked fault.Float f
      at false f =
          ascending_tells (object (member k d ms)) asked (member k d ms) (answer_map map_value (walk_entries kk vk (parts shape allow (member k d ms)) no_entries)) (λ ascending.
          walk_tells fk fb fh shape allow (object (member k d ms)) asked (keyed kk vk (member k d ms)) (answer_map map_value (walk_entries kk vk (parts shape allow (member k d ms)) no_entries)) f
          (walk_map shape allow (keyed kk vk (member k d ms)) map_value (walk_entries kk vk (parts shape allow (member k d ms)) no_entries)
          (entries_tell shape allow kk vk (member k d ms) ascending (h kk vk))))

  mutual
    pub tree_tells : (d : Data) (asked : Asked) → Tells shape allow d asked (answers shape allow d asked)
    tree_tells null = node null [] [] (record {
      objects = λ t asked e. here_tells Content null asked fault.WrongKind e;
      besides = λ skips u asked e. here_tells Content null asked fault.WrongKind e;
      payloads = λ skips u there asked e. here_tells Content null asked fault.WrongKind e;
      lists = λ k asked e. wrong_tells (Option Val) null asked k e;
      maps = λ kk vk asked e. wrong_tells (Option Val) null asked vk e;
    })
    tree_tells (boolean b) = node (boolean b) [] [] (record {
      objects = λ t asked e. here_tells Content (boolean b) asked fault.WrongKind e;
      besides = λ skips u asked e. here_tells Content (boolean b) asked fault.WrongKind e;
      payloads = λ skips u there asked e. here_tells Content (boolean b) asked fault.WrongKind e;
      lists = λ k asked e. wrong_tells (Option Val) (boolean b) asked k e;
      maps = λ kk vk asked e. wrong_tells (Option Val) (boolean b) asked vk e;
    })
    tree_tells (number n) = node (number n) [] [] (record {
      objects = λ t asked e. here_tells Content (number n) asked fault.WrongKind e;
      besides = λ skips u asked e. here_tells Content (number n) asked fault.WrongKind e;
      payloads = λ skips u there asked e. here_tells Content (number n) asked fault.WrongKind e;
      lists = λ k asked e. wrong_tells (Option Val) (number n) asked k e;
      maps = λ kk vk asked e. wrong_tells (Option Val) (number n) asked vk e;
    })
    tree_tells (string x) = node (string x) [] [] (record {
      objects = λ t asked e. here_tells Content (string x) asked fault.WrongKind e;
      besides = λ skips u asked e. here_tells Content (string x) asked fault.WrongKind e;
      payloads = λ skips u there asked e. here_tells Content (string x) asked fault.WrongKind e;
      lists = λ k asked e. wrong_tells (Option Val) (string x) asked k e;
      maps = λ kk vk asked e. wrong_tells (Option Val) (string x) asked vk e;
    })
    tree_tells (array ds) = node (array ds) (items_answers shape allow ds) [] (record {
      objects = λ t asked e. here_tells Content (array ds) asked fault.WrongKind e;
      besides = λ skips u asked e. here_tells Content (array ds) asked fault.WrongKind e;
      payloads = λ skips u there asked e. here_tells Content (array ds) asked fault.WrongKind e;
      lists = array_lists ds (items_answers shape allow ds) (all_items ds);
      maps = λ kk vk asked e. wrong_tells (Option Val) (array ds) asked vk e;
    })
    tree_tells (object ms) = node (object ms) [] (parts shape allow ms) (record {
      objects = λ t asked e. object_members (object ms) ms (skips_keys shape allow t) t (all_members (skips_keys shape allow t) t ms) asked e;
      besides = λ skips u asked e. object_beside ms skips u (all_members skips u ms) asked e;
      payloads = λ skips u there asked e. object_payload ms skips u (all_payloads skips u ms) there asked e;
      lists = λ k asked e. wrong_tells (Option Val) (object ms) asked k e;
      maps = object_maps ms (λ kk vk. all_entries kk vk ms);
    })

    all_items : (ds : Items) → ItemsTell shape allow ds (items_answers shape allow ds)
    all_items no_items = tt
    all_items (item d ds) = (tree_tells d, all_items ds)

    all_members : (skips : Bool) (t : ℕ) (ms : Members) → MembersTell shape allow skips (declared_of shape t) ms ms
    all_members skips t no_members = tt
    all_members skips t (member k d ms) = (tree_agrees shape allow proper d, tree_tells d, all_members skips t ms)

    all_payloads : (skips : Bool) (u : ℕ) (ms : Members) → PayloadTell shape allow skips (kind.Message u) ms ms
    all_payloads skips u no_members = tt
    all_payloads skips u (member k d ms) = (tree_tells d, all_payloads skips u ms)

    all_entries : (kk vk : Kind) (ms : Members) → EntriesTell shape allow kk vk ms ms
    all_entries kk vk no_members = tt
    all_entries kk vk (member k d ms) = (tree_tells d, all_entries kk vk ms)
