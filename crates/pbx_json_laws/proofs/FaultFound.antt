-- A tree that is not read has a fault, so a message stands for a tree exactly where the tree has none.
use Rattle.std.proofs.Common.{◌≡◌, ◌⊎◌, inl, inr, ℕ, List, [], ◌∷◌, Bool, true, false, if◌then◌else◌, Option, Some, None, option_map, refl, ap, sym, ◌∙◌, subst}
use Rattle.std.specs.Prelude.{Result, Ok, Err}
use Rattle.serde_json.specs.Data.{Data, null, boolean, number, string, array, object, Items, no_items, item, Members, no_members, member}
use Rattle.pbx_content.specs.Content as content
use Rattle.pbx_content.specs.Content.{Content, Val, vals_of}
use Rattle.pbx_content.specs.Meaning.{shown}
use Rattle.pbx_content.specs.Shape.{declared_of, is_float}
use Rattle.pbx_content.specs.Sound.{IsProper, AreProper}
use Rattle.pbx_content.specs.declared.shape.Kind.{Kind}
use Rattle.pbx_content.specs.declared.shape.Kind.TheVariants as kind
use Rattle.pbx_content.specs.declared.shape.FieldShape.{FieldShape}
use Rattle.pbx_content.specs.declared.shape.Shape.{Shape}
use Rattle.pbx_json_meaning.specs.Asked.{Asked, field, one, root, Target, nothing, single, list, map, target, has_presence}
use Rattle.pbx_json_meaning.specs.Faults.{Inside, elements, keyed, members, payload, Opened, as_leaf, object_opened, list_opened, map_opened, own_opened, message_opened, single_opened, unless_float}
use Rattle.pbx_json_meaning.specs.Faults.{opened_as, opened, into, IsKeyFault, FaultAt, SomeWith, OkWith, JsonFault}
use Rattle.pbx_json_meaning.specs.Forms.{is_object_type, skips_keys, own_read, Own, whole, a_list, a_map, beside, under}
use Rattle.pbx_json_meaning.specs.Laws.{StandsWithoutFault}
use Rattle.pbx_json_meaning.specs.Scalars.{scalar_read}
use Rattle.pbx_json_meaning.specs.Stands.{Reading, Says, ok_of, all_read, present, elements_read, entries_read, message_of, object_of, as_message, message_in, message_as, value_as}
use Rattle.pbx_json_meaning.specs.Stands.{beside_type, payload_said, own_as, list_as, map_as, shown_for, said, items_said, entries_said, Stands}
use Rattle.pbx_json_meaning.specs.Trees.{AreAscendingKeys, IsOrdered, AreOrdered, AreOrderedMembers}
use Rattle.pbx_json_meaning.specs.Urls.{without_type}
use Rattle.pbx_json_meaning.specs.declared.kind.JsonKind.{JsonKind}
use Rattle.pbx_json_meaning.specs.declared.kind.JsonKind.TheVariants as fault
use Rattle.pbx_json_meaning.specs.declared.place.Step.{Step}
use Rattle.pbx_json_laws.proofs.Clean.{faulty}
use Rattle.pbx_json_laws.proofs.FaultFields.{members_fault}
use Rattle.pbx_json_laws.proofs.FaultParts.{FaultOf, TreeFaulty, ItemsFaulty, MembersFaulty, FaultIn, elements_fault, keyed_fault, map_none}
use Rattle.pbx_json_laws.proofs.PayloadFaults.{HasValueMember, IsGoodOwn, good_own, faulty_without, payload_fault}
use Rattle.pbx_json_laws.proofs.Payloads.{beside-said, ascending_without}
use Rattle.pbx_json_laws.proofs.Read.{items_in, entries_in, says_as, said_is}

module _ (shape : Shape) (allow : Bool) (proper : IsProper shape) where
  -- the tree itself has a fault, or what is inside it
  abbrev FaultsOf : Opened → Type 0
  FaultsOf o = ((kind : JsonKind) × (o ≡ Err kind)) ⊎ ((inside : Inside) × (o ≡ Ok inside) × FaultIn shape allow inside)

  -- what is known of the trees inside a tree
  abbrev IsInside : Data → Type 0
  IsInside null = Unit {0}
  IsInside (boolean b) = Unit {0}
  IsInside (number n) = Unit {0}
  IsInside (string s) = Unit {0}
  IsInside (array ds) = ItemsFaulty shape allow ds
  IsInside (object ms) = AreAscendingKeys ms × MembersFaulty shape allow ms

  value_fault : {X : Type 0} (r : Result X JsonKind) → ok_of r ≡ None → FaultsOf (as_leaf r)
  value_fault (Err e) h = inl (e, refl)
  value_fault (Ok x) h = absurd (cc)

  -- no array and no object
  wrong : (k : Kind) → FaultsOf (unless_float k (Err fault.WrongKind))
  wrong k = at (is_float k)
    where
      at : (b : Bool) → FaultsOf (if b then Err fault.Float else Err fault.WrongKind)
      at true = inl (fault.Float, refl)
      at false = inl (fault.WrongKind, refl)

  -- what is read where the values are no floats
  unless_fault : (k : Kind) (r : Reading) (inside : Inside) → (r ≡ None → FaultIn shape allow inside) → (if is_float k then None else r) ≡ None
      → FaultsOf (unless_float k (Ok inside))
  unless_fault k r inside f h = at (is_float k) h
    where
      at : (b : Bool) → (if b then None else r) ≡ None → FaultsOf (if b then Err fault.Float else Ok inside)
      at true q = inl (fault.Float, refl)
      at false q = inr (inside, refl, f q)

  list_fault : (k : Kind) (d : Data) → IsInside d → list_as k d (items_in shape allow d) ≡ None → FaultsOf (list_opened k d)
  list_fault k (array no_items) g h = absurd (cc)
  list_fault k (array (item e es)) g h =
      unless_fault k (elements_read k (items_said shape allow (item e es))) (elements k (item e es))
      (λ q. elements_fault shape allow k (item e es) g
      (map_none (λ os. Some (content.many (vals_of (present os)))) (all_read (λ (s : Says). s (one k)) (items_said shape allow (item e es))) q)) h
  list_fault k null g h = wrong k
  list_fault k (boolean b) g h = wrong k
  list_fault k (number n) g h = wrong k
  list_fault k (string s) g h = wrong k
  list_fault k (object ms) g h = wrong k

  map_fault : (kk vk : Kind) (d : Data) → IsInside d → map_as kk vk d (entries_in shape allow d) ≡ None → FaultsOf (map_opened kk vk d)
  map_fault kk vk (object no_members) g h = absurd (cc)
  map_fault kk vk (object (member k e ms)) g h =
      unless_fault vk (entries_read kk vk (entries_said shape allow (member k e ms))) (keyed kk vk (member k e ms))
      (λ q. keyed_fault shape allow kk vk (member k e ms) g.0 g.1 q) h
  map_fault kk vk null g h = wrong vk
  map_fault kk vk (boolean b) g h = wrong vk
  map_fault kk vk (number n) g h = wrong vk
  map_fault kk vk (string s) g h = wrong vk
  map_fault kk vk (array ds) g h = wrong vk

  -- the fields beside the type
  beside_fault : (skips : Bool) (fs : List FieldShape) → AreProper fs → (d : Data) → IsInside d
      → object_of (message_of skips fs) d (beside_type (entries_in shape allow d)) ≡ None
      → FaultsOf (object_opened (λ ms. Ok (members skips fs (without_type ms))) d)
  beside_fault skips fs good (object ms) g h =
      let own = ap (message_of skips fs) (sym (beside-said shape allow ms)) ∙ h in
      inr (
        members skips fs (without_type ms),
        refl,
        members_fault shape allow skips fs good (without_type ms) (ascending_without ms g.0) (faulty_without shape allow ms g.1) own,
      )
  beside_fault skips fs good null g h = inl (fault.WrongKind, refl)
  beside_fault skips fs good (boolean b) g h = inl (fault.WrongKind, refl)
  beside_fault skips fs good (number n) g h = inl (fault.WrongKind, refl)
  beside_fault skips fs good (string s) g h = inl (fault.WrongKind, refl)
  beside_fault skips fs good (array ds) g h = inl (fault.WrongKind, refl)

  -- the payload under `value`
  under_fault : (skips : Bool) (k : Kind) (d : Data) → IsInside d → (u : ℕ) × (k ≡ kind.Message u) × HasValueMember d
      → object_of (payload_said skips k) d (entries_in shape allow d) ≡ None → FaultsOf (object_opened (λ ms. Ok (payload skips k ms)) d)
  under_fault skips k (object ms) g good h =
      let P : Kind → Type 0 = λ x. FaultIn shape allow (payload skips x ms) in
      let said_is = ap (λ x. payload_said skips x (entries_said shape allow ms)) (sym good.1) ∙ h in
      inr (payload skips k ms, refl, subst P (sym good.1) (payload_fault shape allow skips good.0 ms g.0 g.1 good.2.0 good.2.1 said_is))
  under_fault skips k null g good h = inl (fault.WrongKind, refl)
  under_fault skips k (boolean b) g good h = inl (fault.WrongKind, refl)
  under_fault skips k (number n) g good h = inl (fault.WrongKind, refl)
  under_fault skips k (string s) g good h = inl (fault.WrongKind, refl)
  under_fault skips k (array ds) g good h = inl (fault.WrongKind, refl)

  own_fault : (r : Result Own JsonKind) (d : Data) → IsGoodOwn r d → IsInside d → own_as shape r d (items_in shape allow d) (entries_in shape allow d) ≡ None
      → FaultsOf (own_opened r d)
  own_fault (Err k) d good g h = inl (k, refl)
  own_fault (Ok (whole c)) d good g h = absurd (cc)
  own_fault (Ok (a_list k wrap)) d good g h =
      list_fault k d g (map_none (shown shape false k) (list_as k d (items_in shape allow d))
      (map_none wrap (option_map (shown shape false k) (list_as k d (items_in shape allow d))) h))
  own_fault (Ok (a_map k wrap)) d good g h =
      map_fault kind.String k d g (map_none (shown shape false k) (map_as kind.String k d (entries_in shape allow d))
      (map_none wrap (option_map (shown shape false k) (map_as kind.String k d (entries_in shape allow d))) h))
  own_fault (Ok (beside skips fs wrap)) d good g h =
      beside_fault skips fs good d g (map_none wrap (object_of (message_of skips fs) d (beside_type (entries_in shape allow d))) h)
  own_fault (Ok (under skips k wrap)) d good g h =
      under_fault skips k d g good (map_none wrap (object_of (payload_said skips k) d (entries_in shape allow d)) h)

  message_fault : (t : ℕ) (d : Data) → IsInside d → message_as shape allow t d (items_in shape allow d) (entries_in shape allow d) ≡ None
      → FaultsOf (message_opened shape allow t d)
  message_fault t d g h = either (is_object_type shape t) h
    where
      fs : List FieldShape
      fs = declared_of shape t

      opens : (d : Data) → IsInside d → object_of (message_of (skips_keys shape allow t) fs) d (entries_in shape allow d) ≡ None
          → FaultsOf (object_opened (λ ms. Ok (members (skips_keys shape allow t) fs ms)) d)
      opens (object ms) g h =
          inr (members (skips_keys shape allow t) fs ms, refl, members_fault shape allow (skips_keys shape allow t) fs (proper.types t) ms g.0 g.1 h)
      opens null g h = inl (fault.WrongKind, refl)
      opens (boolean b) g h = inl (fault.WrongKind, refl)
      opens (number n) g h = inl (fault.WrongKind, refl)
      opens (string s) g h = inl (fault.WrongKind, refl)
      opens (array ds) g h = inl (fault.WrongKind, refl)

      either : (b : Bool)
          → (if b then object_of (message_of (skips_keys shape allow t) fs) d (entries_in shape allow d)
          else own_as shape (own_read shape allow t d) d (items_in shape allow d) (entries_in shape allow d)) ≡ None
          → FaultsOf (if b then object_opened (λ ms. Ok (members (skips_keys shape allow t) fs ms)) d else own_opened (own_read shape allow t d) d)
      either true k = opens d g k
      either false k = own_fault (own_read shape allow t d) d (good_own shape proper allow t d) g k

  single_fault : (k : Kind) (d : Data) → IsInside d → value_as shape allow k d (items_in shape allow d) (entries_in shape allow d) ≡ None
      → FaultsOf (single_opened shape allow k d)
  single_fault (kind.Message t) d g h =
      message_fault t d g (map_none (λ c. Some (content.message c)) (message_as shape allow t d (items_in shape allow d) (entries_in shape allow d)) h)
  single_fault kind.Int32 d g h = value_fault (scalar_read shape allow kind.Int32 d) h
  single_fault k d g h = value_fault (scalar_read shape allow k d) h

  fault_as : (tg : Target) (d : Data) → IsInside d → says_as shape allow d tg ≡ None → FaultsOf (opened_as shape allow tg d)
  fault_as nothing d g h = absurd (cc)
  fault_as (single k) d g h = single_fault k d g h
  fault_as (list k) d g h = list_fault k d g h
  fault_as (map kk vk) d g h = map_fault kk vk d g h

  shown_none : (a : Asked) (x : Reading) → shown_for shape a x ≡ None → x ≡ None
  shown_none (one k) x h = h
  shown_none (field f) x h = map_none (shown shape (has_presence f) f.kind) x h

  placed : (d : Data) (a : Asked) (o : Opened) → opened shape allow d a ≡ o → FaultsOf o → FaultOf shape allow d a
  placed d a o e (inl b) = ([], b.0, e ∙ b.1)
  placed d a o e (inr b) =
      let step = b.2.0 in
      let place = b.2.1 in
      let kind = b.2.2 in
      let P : Opened → Type 0 = λ x. OkWith x (λ inside.
      IsKeyFault shape allow inside step place kind ⊎ SomeWith (into inside step) (λ next. FaultAt shape allow place next.0 next.1 kind)) in
      (step ∷ place, kind, subst P (sym (e ∙ b.1)) b.2.3)

  tree_at : (d : Data) → IsInside d → TreeFaulty shape allow d
  tree_at d g a h =
      placed d a (opened shape allow d a) refl
      (fault_as (target shape d a) d g (shown_none a (says_as shape allow d (target shape d a)) (sym (said_is shape allow d a) ∙ h)))

  mutual
    tree_faulty : (d : Data) → IsOrdered d → TreeFaulty shape allow d
    tree_faulty null o = tree_at null tt
    tree_faulty (boolean b) o = tree_at (boolean b) tt
    tree_faulty (number n) o = tree_at (number n) tt
    tree_faulty (string s) o = tree_at (string s) tt
    tree_faulty (array ds) o = tree_at (array ds) (items_faulty ds o)
    tree_faulty (object ms) o = tree_at (object ms) (o.0, members_faulty ms o.1)

    items_faulty : (ds : Items) → AreOrdered ds → ItemsFaulty shape allow ds
    items_faulty no_items o = tt
    items_faulty (item d ds) o = (tree_faulty d o.0, items_faulty ds o.1)

    members_faulty : (ms : Members) → AreOrderedMembers ms → MembersFaulty shape allow ms
    members_faulty no_members o = tt
    members_faulty (member k d ms) o = (tree_faulty d o.0, members_faulty ms o.1)

-- ---- the law

-- what is read as a message is one
message_or_none : (o : Option Content) → ((c : Content) × (message_in (as_message o) ≡ Some c)) ⊎ (as_message o ≡ None)
message_or_none None = inr refl
message_or_none (Some c) = inl (c, refl)

pub stands_without_fault : StandsWithoutFault
stands_without_fault shape t allow tree proper ordered = (clean, found)
  where
    read : (r : Reading) (c : Content) → message_in r ≡ Some c → (v : Option Val) × (r ≡ Some v)
    read None c h = absurd (cc)
    read (Some v) c h = (v, refl)

    clean : (c : Content) × Stands shape t allow tree c → (place : List Step) (kind : JsonKind) → ¬ JsonFault shape t allow tree place kind
    clean it place kind h =
        let value = read (said shape allow tree (root t)) it.0 it.1 in
        faulty shape allow proper place tree (root t) kind h value.0 value.1

    is : said shape allow tree (root t) ≡ as_message (message_as shape allow t tree (items_in shape allow tree) (entries_in shape allow tree))
    is = said_is shape allow tree (root t)

    found : ((place : List Step) (kind : JsonKind) → ¬ JsonFault shape t allow tree place kind) → (c : Content) × Stands shape t allow tree c
    found f = at (message_or_none (message_as shape allow t tree (items_in shape allow tree) (entries_in shape allow tree)))
      where
        at : ((c : Content) × (message_in (as_message (message_as shape allow t tree (items_in shape allow tree) (entries_in shape allow tree))) ≡ Some c))
            ⊎ (as_message (message_as shape allow t tree (items_in shape allow tree) (entries_in shape allow tree)) ≡ None)
            → (c : Content) × Stands shape t allow tree c
        at (inl it) = (it.0, ap message_in is ∙ it.1)
        at (inr e) =
            let it = tree_faulty shape allow proper tree ordered (root t) (is ∙ e) in
            absurd (f it.0 it.1 it.2)
