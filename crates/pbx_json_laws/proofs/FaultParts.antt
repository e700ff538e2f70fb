-- Where the elements of an array or the entries of a map are not read, one of them has a fault.
use Rattle.std.proofs.Common.{◌≡◌, ◌⊎◌, inl, inr, ℕ, suc, ◌&&◌, ◌||◌, List, [], ◌∷◌, Bool, true, false, if◌then◌else◌, Option, Some, None, option_map, option_and_then, refl, ap, sym, ◌∙◌, subst}
use Rattle.std.specs.Prelude.{not, Result, Ok, Err, codes, ℤ}
use Rattle.std.specs.Str.{bytes_eq}
use Rattle.serde_json.specs.Data.{Data, string, Items, no_items, item, Members, no_members, member}
use Rattle.serde_json.specs.Find.{get_member, get_item}
use Rattle.pbx_content.specs.Content as content
use Rattle.pbx_content.specs.Content.{Content, Fields, Val, Key as MapKey, number_key, truth_key}
use Rattle.pbx_content.specs.declared.shape.Kind.{Kind}
use Rattle.pbx_content.specs.declared.shape.Shape.{Shape}
use Rattle.pbx_json_meaning.specs.Asked.{Asked, one}
use Rattle.pbx_json_meaning.specs.Faults.{Inside, elements, keyed, into, reads_alike, KeyBreaks, IsKeyFault, FaultAt, SomeWith}
use Rattle.pbx_json_meaning.specs.Scalars.{Family, integers, truths, texts, bytes_texts, floats, messages, enums, family, if_ok, or_fault, in_range, decimal_of, integer_read, word_read, key_of, key_read}
use Rattle.pbx_json_meaning.specs.Stands.{pairs_of, Reading, Says, ok_of, is_there, all_read}
use Rattle.pbx_json_meaning.specs.Stands.{is_alike, all_differ, entry_read, if_differ, entries_read, said, items_said, entries_said}
use Rattle.pbx_json_meaning.specs.Trees.{AreAscendingKeys}
use Rattle.pbx_json_meaning.specs.declared.kind.JsonKind.{JsonKind}
use Rattle.pbx_json_meaning.specs.declared.kind.JsonKind.TheVariants as fault
use Rattle.pbx_json_meaning.specs.declared.place.Step.{Step}
use Rattle.pbx_json_meaning.specs.declared.place.Step.TheVariants.{Key, Index}
use Rattle.pbx_json_laws.proofs.FitScalars.{lies}
use Rattle.pbx_json_laws.proofs.In.{In, IsLess, in_got, in_lesser, above_less, above_ascending}
use Rattle.pbx_json_laws.proofs.Parts.{from_then, from_map, of_some}
use Rattle.pbx_json_laws.proofs.KeyOrder.{Found, any_key}

pub map_none : {X Y : Type 0} (f : X → Y) (o : Option X) → option_map f o ≡ None → o ≡ None
map_none f None h = refl
map_none f (Some x) h = absurd (cc)

-- ---- keys of maps

-- a step that does not fail hands on what failed before
error_from : {X Y : Type 0} (r : Result X JsonKind) (f : X → Result Y JsonKind) (k : JsonKind) → ((x : X) → f x ≡ Err k → ⊥) → if_ok r f ≡ Err k → r ≡ Err k
error_from (Ok x) f k n h = absurd (n x h)
error_from (Err e) f k n h = cc

no_duplicate_text : (min max : ℤ) (s : List ℕ) → integer_read min max (string s) ≡ Err fault.DuplicateKey → ⊥
no_duplicate_text min max s h = at (decimal_of min s) h
  where
    in_limits : (b : Bool) (z : ℤ) → (if b then Ok z else Err fault.Range) ≡ Err fault.DuplicateKey → ⊥
    in_limits true z e = cc
    in_limits false z e = cc

    at : (o : Option ℤ) → if_ok (or_fault fault.NotDecimal o) (in_range min max) ≡ Err fault.DuplicateKey → ⊥
    at None e = cc
    at (Some z) e = in_limits (lies min max z) z e

no_duplicate_word : (s : List ℕ) → word_read s ≡ Err fault.DuplicateKey → ⊥
no_duplicate_word s h = at (bytes_eq s (codes "true")) (bytes_eq s (codes "false")) h
  where
    at : (a b : Bool) → (if a then Ok true else if b then Ok false else Err fault.WrongKind) ≡ Err fault.DuplicateKey → ⊥
    at true b e = cc
    at false true e = cc
    at false false e = cc

no_duplicate : (f : Family) (s : List ℕ) → key_of f s ≡ Err fault.DuplicateKey → ⊥
no_duplicate (integers min max) s h =
    no_duplicate_text min max s (error_from (integer_read min max (string s)) (λ z. Ok (number_key z)) fault.DuplicateKey (λ z e. cc) h)
no_duplicate truths s h = no_duplicate_word s (error_from (word_read s) (λ b. Ok (truth_key b)) fault.DuplicateKey (λ b e. cc) h)
no_duplicate texts s h = cc
no_duplicate bytes_texts s h = cc
no_duplicate floats s h = cc
no_duplicate (messages t) s h = cc
no_duplicate (enums e) s h = cc

-- a key that is not read breaks the rule
breaks_key : (shape : Shape) (allow : Bool) (kk vk : Kind) (ms : Members) (s : List ℕ) (kind : JsonKind) → key_read kk s ≡ Err kind
    → KeyBreaks shape allow (keyed kk vk ms) s kind
breaks_key shape allow kk vk ms s fault.DuplicateKey h = absurd (no_duplicate (family kk) s h)
breaks_key shape allow kk vk ms s fault.WrongKind h = h
breaks_key shape allow kk vk ms s kind h = h

pub there_from : (o : Option Data) (d : Data) → o ≡ Some d → is_there o ≡ true
there_from o d e = ap (λ x. is_there x) e

module _ (shape : Shape) (allow : Bool) where
  -- a fault of the tree, where this is asked of it
  abbrev pub FaultOf : Data → Asked → Type 0
  FaultOf d a = (place : List Step) × (kind : JsonKind) × FaultAt shape allow place d a kind

  -- where it says nothing, the tree has one
  abbrev pub TreeFaulty : Data → Type 0
  TreeFaulty d = (a : Asked) → said shape allow d a ≡ None → FaultOf d a

  abbrev pub ItemsFaulty : Items → Type 0
  ItemsFaulty no_items = Unit {0}
  ItemsFaulty (item d ds) = TreeFaulty d × ItemsFaulty ds

  abbrev pub MembersFaulty : Members → Type 0
  MembersFaulty no_members = Unit {0}
  MembersFaulty (member k d ms) = TreeFaulty d × MembersFaulty ms

  pub faulty_in : (k : List ℕ) (d : Data) (ms : Members) → MembersFaulty ms → In k d ms → TreeFaulty d
  faulty_in k d no_members g i = absurd i
  faulty_in k d (member l e ms) g (inl i) = subst TreeFaulty i.1 g.0
  faulty_in k d (member l e ms) g (inr i) = faulty_in k d ms g.1 i

  -- a fault inside what is opened
  abbrev pub FaultIn : Inside → Type 0
  FaultIn inside =
      (step : Step) × (place : List Step) × (kind : JsonKind)
      × (IsKeyFault shape allow inside step place kind ⊎ SomeWith (into inside step) (λ next. FaultAt shape allow place next.0 next.1 kind))

  -- ---- the elements of an array

  element_fault : (k : Kind) (ds : Items) → ItemsFaulty ds → all_read (λ (s : Says). s (one k)) (items_said shape allow ds) ≡ None
      → (i : ℕ) × (d : Data) × (get_item i ds ≡ Some d) × FaultOf d (one k)
  element_fault k no_items g h = absurd (cc)
  element_fault k (item d ds) g h = at (said shape allow d (one k)) refl h (element_fault k ds g.1)
    where
      at : (o : Reading) → said shape allow d (one k) ≡ o
          → option_and_then (λ y. option_map (λ ys. y ∷ ys) (all_read (λ (s : Says). s (one k)) (items_said shape allow ds))) o ≡ None
          → (all_read (λ (s : Says). s (one k)) (items_said shape allow ds) ≡ None → (i : ℕ) × (d : Data) × (get_item i ds ≡ Some d) × FaultOf d (one k))
          → (i : ℕ) × (e : Data) × (get_item i (item d ds) ≡ Some e) × FaultOf e (one k)
      at None e q ih = (0, d, refl, g.0 (one k) e)
      at (Some y) e q ih = let it = ih (map_none (λ ys. y ∷ ys) (all_read (λ (s : Says). s (one k)) (items_said shape allow ds)) q) in (suc it.0, it.1, it.2, it.3)

  pub elements_fault : (k : Kind) (ds : Items) → ItemsFaulty ds → all_read (λ (s : Says). s (one k)) (items_said shape allow ds) ≡ None → FaultIn (elements k ds)
  elements_fault k ds g h =
      let it = element_fault k ds g h in
      let place = it.3.0 in
      let kind = it.3.1 in
      (Index it.0, place, kind, inr (at it.0 it.1 it.2 place kind it.3.2))
    where
      at : (i : ℕ) (d : Data) → get_item i ds ≡ Some d → (place : List Step) (kind : JsonKind) → FaultAt shape allow place d (one k) kind
          → SomeWith (into (elements k ds) (Index i)) (λ next. FaultAt shape allow place next.0 next.1 kind)
      at i d e place kind h =
          let P : Option (Data × Asked) → Type 0 = λ o. SomeWith o (λ next. FaultAt shape allow place next.0 next.1 kind) in
          let is : into (elements k ds) (Index i) ≡ Some (d, one k) = rw e refl in
          subst P (sym is) h

  -- ---- the entries of a map

  module _ (kk vk : Kind) where
    abbrev found_in : Members → Option (Found)
    found_in ms = all_read (entry_read kk vk) (entries_said shape allow ms)

    -- an entry that is not read: by its key or by its tree
    abbrev EntryFault : List ℕ → Data → Type 0
    EntryFault k d = ((kind : JsonKind) × (key_read kk k ≡ Err kind)) ⊎ (said shape allow d (one vk) ≡ None)

    entry_none : (k : List ℕ) (d : Data) → entry_read kk vk (record { key = k; says = said shape allow d }) ≡ None → EntryFault k d
    entry_none k d h = at (key_read kk k) refl h
      where
        at : (r : Result MapKey JsonKind) → key_read kk k ≡ r
            → option_and_then {U = MapKey × Option Val} (λ l. option_map (λ v. (l, v)) (said shape allow d (one vk))) (ok_of r) ≡ None
            → EntryFault k d
        at (Err e) p q = inl (e, p)
        at (Ok l) p q = inr (map_none (λ v. (l, v)) (said shape allow d (one vk)) q)

    entry_fault : (ms : Members) → found_in ms ≡ None → (k : List ℕ) × (d : Data) × In k d ms × EntryFault k d
    entry_fault no_members h = absurd (cc)
    entry_fault (member k d ms) h = at (entry_read kk vk (record { key = k; says = said shape allow d })) refl h (entry_fault ms)
      where
        at : (o : Option (MapKey × Option Val)) → entry_read kk vk (record { key = k; says = said shape allow d }) ≡ o
            → option_and_then (λ y. option_map (λ ys. y ∷ ys) (found_in ms)) o ≡ None
            → (found_in ms ≡ None → (l : List ℕ) × (e : Data) × In l e ms × EntryFault l e)
            → (l : List ℕ) × (e : Data) × In l e (member k d ms) × EntryFault l e
        at None p q ih = (k, d, inl (refl, refl), entry_none k d p)
        at (Some y) p q ih = let it = ih (map_none (λ ys. y ∷ ys) (found_in ms) q) in (it.0, it.1, inr it.2, it.3)

    -- the key of an entry that is read
    entry_key : (k : List ℕ) (d : Data) (x : MapKey × Option Val) → entry_read kk vk (record { key = k; says = said shape allow d }) ≡ Some x → key_read kk k ≡ Ok x.0
    entry_key k d x h =
        let key = from_then (λ l. option_map (λ v. (l, v)) (said shape allow d (one vk))) (ok_of (key_read kk k)) x h in
        let value = from_map (λ v. (key.0, v)) (said shape allow d (one vk)) x key.2 in
        ok_key (key_read kk k) key.0 key.1 ∙ ap (λ (y : MapKey × Option Val). Ok y.0) value.2
      where
        ok_key : (r : Result MapKey JsonKind) (l : MapKey) → ok_of r ≡ Some l → r ≡ Ok l
        ok_key (Err e) l p = absurd (cc)
        ok_key (Ok m) l p = cc

    -- a key that is there and passes
    record There (p : MapKey → Bool) (ms : Members) : Type 0 where
      name : List ℕ
      tree : Data
      key : MapKey
      there : In name tree ms
      reads : key_read kk name ≡ Ok key
      passes : p key ≡ true

    behind : (p : MapKey → Bool) (l : List ℕ) (e : Data) (ms : Members) → There p ms → There p (member l e ms)
    behind p l e ms it = record { name = it.name; tree = it.tree; key = it.key; there = inr it.there; reads = it.reads; passes = it.passes }

    any_there : (p : MapKey → Bool) (ms : Members) (es : Found) → found_in ms ≡ Some es → any_key p es ≡ true → There p ms
    any_there p no_members es h y = let same : [] ≡ es = of_some [] es h in absurd (let bad : false ≡ true = ap (any_key p) same ∙ y in cc)
    any_there p (member k d ms) es h y =
        let first = from_then (λ y. option_map (λ ys. y ∷ ys) (found_in ms)) (entry_read kk vk (record { key = k; says = said shape allow d })) es h in
        let rest = from_map (λ ys. first.0 ∷ ys) (found_in ms) es first.2 in
        at first.0.0 (entry_key k d first.0 first.1) (p first.0.0) refl (any_key p rest.0) (ap (any_key p) rest.2 ∙ y)
        (λ z. behind p k d ms (any_there p ms rest.0 rest.1 z))
      where
        at : (a : MapKey) → key_read kk k ≡ Ok a → (b : Bool) → p a ≡ b → (c : Bool) → (b || c) ≡ true → (c ≡ true → There p (member k d ms)) → There p (member k d ms)
        at a r true q c z ih = record { name = k; tree = d; key = a; there = inl (refl, refl); reads = r; passes = q }
        at a r false q c z ih = ih z

    -- two keys that read alike, the lesser first
    record Alike (ms : Members) : Type 0 where
      lesser : List ℕ
      lesser_tree : Data
      lesser_key : MapKey
      greater : List ℕ
      greater_tree : Data
      greater_key : MapKey
      lesser_in : In lesser lesser_tree ms
      greater_in : In greater greater_tree ms
      less : IsLess lesser greater
      lesser_reads : key_read kk lesser ≡ Ok lesser_key
      greater_reads : key_read kk greater ≡ Ok greater_key
      alike : is_alike lesser_key greater_key ≡ true

    alike_behind : (l : List ℕ) (e : Data) (ms : Members) → Alike ms → Alike (member l e ms)
    alike_behind l e ms it = record {
      lesser = it.lesser;
      lesser_tree = it.lesser_tree;
      lesser_key = it.lesser_key;
      greater = it.greater;
      greater_tree = it.greater_tree;
      greater_key = it.greater_key;
      lesser_in = inr it.lesser_in;
      greater_in = inr it.greater_in;
      less = it.less;
      lesser_reads = it.lesser_reads;
      greater_reads = it.greater_reads;
      alike = it.alike;
    }

    alike_fault : (ms : Members) → AreAscendingKeys ms → (es : Found) → found_in ms ≡ Some es → all_differ es ≡ false → Alike ms
    alike_fault no_members up es h n = let same : [] ≡ es = of_some [] es h in absurd (let bad : true ≡ false = ap all_differ same ∙ n in cc)
    alike_fault (member k d ms) up es h n =
        let first = from_then (λ y. option_map (λ ys. y ∷ ys) (found_in ms)) (entry_read kk vk (record { key = k; says = said shape allow d })) es h in
        let rest = from_map (λ ys. first.0 ∷ ys) (found_in ms) es first.2 in
        at first.0.0 (entry_key k d first.0 first.1) rest.0 (any_key (is_alike first.0.0) rest.0) refl (all_differ rest.0) (ap all_differ rest.2 ∙ n)
        (λ z. any_there (is_alike first.0.0) ms rest.0 rest.1 z)
        (λ z. alike_behind k d ms (alike_fault ms (above_ascending k ms up) rest.0 rest.1 z))
      where
        at : (a : MapKey) → key_read kk k ≡ Ok a → (es : Found) (b : Bool) → any_key (is_alike a) es ≡ b → (c : Bool) → (not b && c) ≡ false
            → (any_key (is_alike a) es ≡ true → There (is_alike a) ms) → (c ≡ false → Alike (member k d ms)) → Alike (member k d ms)
        at a r es true q c z two ih =
            let it = two q in
            record {
              lesser = k;
              lesser_tree = d;
              lesser_key = a;
              greater = it.name;
              greater_tree = it.tree;
              greater_key = it.key;
              lesser_in = inl (refl, refl);
              greater_in = inr it.there;
              less = above_less k it.name it.tree ms up it.there;
              lesser_reads = r;
              greater_reads = it.reads;
              alike = it.passes;
            }
        at a r es false q c z two ih = ih z

    pub keyed_fault : (ms : Members) → AreAscendingKeys ms → MembersFaulty ms → entries_read kk vk (entries_said shape allow ms) ≡ None → FaultIn (keyed kk vk ms)
    keyed_fault ms up g h = at (found_in ms) refl h
      where
        at_key : (k : List ℕ) (d : Data) → In k d ms → (kind : JsonKind) → KeyBreaks shape allow (keyed kk vk ms) k kind → FaultIn (keyed kk vk ms)
        at_key k d i kind b = (Key k, [], kind, inl (refl, there_from (get_member k ms) d (in_got k d ms up i), b))

        at_entry : (k : List ℕ) (d : Data) → In k d ms → EntryFault k d → FaultIn (keyed kk vk ms)
        at_entry k d i (inl e) = at_key k d i e.0 (breaks_key shape allow kk vk ms k e.0 e.1)
        at_entry k d i (inr e) =
            let it = faulty_in k d ms g i (one vk) e in
            let P : Option (Data × Asked) → Type 0 = λ o. SomeWith o (λ next. FaultAt shape allow it.0 next.0 next.1 it.1) in
            let is : into (keyed kk vk ms) (Key k) ≡ Some (d, one vk) = rw (in_got k d ms up i) refl in
            (Key k, it.0, it.1, inr (subst P (sym is) it.2))

        at_alike : Alike ms → FaultIn (keyed kk vk ms)
        at_alike it =
            let both : reads_alike (key_read kk it.lesser) (key_read kk it.greater) ≡ true = rw (it.lesser_reads, it.greater_reads) it.alike in
            at_key it.greater it.greater_tree it.greater_in fault.DuplicateKey
            (in_lesser (λ m. reads_alike (key_read kk m.0) (key_read kk it.greater)) it.greater it.lesser it.lesser_tree ms it.lesser_in it.less both)

        differ : (es : Found) → if_differ es ≡ None → all_differ es ≡ false
        differ es e = cases (all_differ es) e
          where
            cases : (b : Bool) → (if b then Some (Some (content.keyed (pairs_of es))) else None) ≡ None → b ≡ false
            cases true q = absurd (cc)
            cases false q = refl

        at : (o : Option (Found)) → found_in ms ≡ o → option_and_then if_differ o ≡ None → FaultIn (keyed kk vk ms)
        at None e q = let it = entry_fault ms e in at_entry it.0 it.1 it.2 it.3
        at (Some es) e q = at_alike (alike_fault ms up es e (differ es q))
