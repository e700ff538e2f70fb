-- An object of lines, one for each field that has a value and for some defaults, reads back as the fields.
use Rattle.std.proofs.Common.{◌≡◌, ℕ, ◌==◌, ◌&&◌, ◌||◌, ◌++◌, List, [], ◌∷◌, map as map_list, filter, Bool, true, false, if◌then◌else◌, Option, Some, None, option_and_then, refl, ap, sym, ◌∙◌, arith}
use Rattle.std.specs.Prelude.{not}
use Rattle.std.specs.List.{list_any, AllByRecursion}
use Rattle.std.proofs.lemmas.Bool.Decides.{nat_tests}
use Rattle.std.proofs.lemmas.Map.Keys.{IsDistinct-head, IsDistinct-tail}
use Rattle.serde_json.specs.Data.{Data, Members, no_members, put}
use Rattle.pbx_content.specs.Content as content
use Rattle.pbx_content.specs.Content.{Content, Fields, Val, get, IsAscending}
use Rattle.pbx_content.specs.Shape.{field_of, is_float}
use Rattle.pbx_content.specs.Sound.{AreProper, has_one_member}
use Rattle.pbx_content.specs.declared.shape.FieldShape.{FieldShape}
use Rattle.pbx_content.specs.declared.shape.Shape.{Shape}
use Rattle.pbx_json_meaning.specs.Asked.{field, has_presence}
use Rattle.pbx_json_meaning.specs.Canonical.{Writing, Line, Told, key_of_field, is_written_default, default_tree, default_line, told_line, lines, has_key, with_line, members_of_lines}
use Rattle.pbx_json_meaning.specs.Names.{field_named}
use Rattle.pbx_json_meaning.specs.Stands.{Reading, all_known, told, only, gathered, if_oneofs, is_there, message_of, said, entries_said}
use Rattle.pbx_json_laws.proofs.Gathered.{gathered_along, gathered_fields}
use Rattle.pbx_json_laws.proofs.Numbers.{AreDistinct, numbers, has_number, number_of_field}
use Rattle.pbx_json_laws.proofs.Parts.{nor_of}
use Rattle.pbx_json_laws.proofs.Puts.{get-above, above-ascending, first_found, later_found}
use Rattle.pbx_json_laws.proofs.Told.{told_other, told_same, known_put, keyless}

module _ (shape : Shape) (o : Writing) (gs : List FieldShape)
    (named : (n : ℕ) (f : FieldShape) → field_of n gs ≡ Some f → field_named (key_of_field o f) gs ≡ Some f) where
  -- what is said for a number
  abbrev told_at : ℕ → Members → List Reading
  told_at n ms = told gs n (entries_said shape false ms)

  abbrev AreKnown : Members → Type 0
  AreKnown ms = all_known false gs (entries_said shape false ms) ≡ true

  -- one more line: of a field of which nothing is said yet
  record IsWith (f : FieldShape) (r : Reading) (old new : Members) : Type 0 where
    own : told_at f.number new ≡ r ∷ []
    others : (k : ℕ) → (f.number == k) ≡ false → told_at k new ≡ told_at k old
    known : AreKnown new

  with_one : (n : ℕ) (f : FieldShape) → field_of n gs ≡ Some f → (tree : Option Data) (d : Data) → tree ≡ Some d → (r : Reading) → said shape false d (field f) ≡ r
      → (ls : List Line) (ms : Members) → members_of_lines ls ≡ Some ms → AreKnown ms → told_at f.number ms ≡ []
      → (new : Members) × (members_of_lines ((key_of_field o f, tree) ∷ ls) ≡ Some new) × IsWith f r ms new
  with_one n f is tree d made r says ls ms rest known free = (
    put key d ms,
    lines_are,
    record {
      own = told_same shape false gs key d f key_is f.number here ms free ∙ ap (λ x. x ∷ []) says;
      others = λ k other. told_other shape false gs key d f key_is k other ms;
      known = known_put shape false gs key d f key_is ms known;
    },
  )
    where
      key : List ℕ
      key = key_of_field o f

      key_is : field_named (key_of_field o f) gs ≡ Some f
      key_is = named n f is

      here : (f.number == f.number) ≡ true
      here = grind (arith, nat_tests)

      new_key : has_key (key_of_field o f) ms ≡ false
      new_key = keyless shape false gs (key_of_field o f) d f key_is ms free

      lines_are : members_of_lines ((key_of_field o f, tree) ∷ ls) ≡ Some (put (key_of_field o f) d ms)
      lines_are = ap (λ x. with_line (key_of_field o f) x (members_of_lines ls)) made ∙ ap (with_line (key_of_field o f) (Some d)) rest ∙ rw new_key refl

  -- ---- defaults

  module _ (fs : Fields) where
    -- the tree of a default reads as no value
    abbrev pub DefaultBack : FieldShape → Type 0
    DefaultBack f = (d : Data) × (default_tree shape o f f.cardinality ≡ Some d) × (said shape false d (field f) ≡ Some None)

    -- a default of the number is written
    abbrev is_default_of : ℕ → FieldShape → Bool
    is_default_of n f = is_written_default o fs f && (f.number == n)

    abbrev no_value : Bool → List Reading
    no_value b = if b then Some None ∷ [] else []

    -- what is written of defaults
    record DefaultsSay (ds : List FieldShape) (ms : Members) : Type 0 where
      says : (k : ℕ) → told_at k ms ≡ no_value (list_any (is_default_of k) ds)
      known : AreKnown ms

    lacks : (n : ℕ) (ds : List FieldShape) → AllByRecursion (λ y. (n == y) ≡ false) (numbers ds) → list_any (is_default_of n) ds ≡ false
    lacks n [] h = refl
    lacks n (d ∷ ds) h =
        let other : (d.number == n) ≡ false = (let x : (n == d.number) ≡ false = h.0 in grind (arith, nat_tests)) in
        nor_of (is_default_of n d) (list_any (is_default_of n) ds) (at (is_written_default o fs d) (d.number == n) other) (lacks n ds h.1)
      where
        at : (a b : Bool) → b ≡ false → (a && b) ≡ false
        at true b e = e
        at false b e = refl

    no_false : (a b : Bool) → a ≡ false → (a && b) ≡ false
    no_false a b e = rw e refl

    defaults_say : (ds : List FieldShape) → AreDistinct ds → ((f : FieldShape) → field_of f.number ds ≡ Some f → field_of f.number gs ≡ Some f)
        → ((f : FieldShape) → field_of f.number gs ≡ Some f → is_written_default o fs f ≡ true → DefaultBack f)
        → (ms : Members) × (members_of_lines (map_list (default_line shape o) (filter (is_written_default o fs) ds)) ≡ Some ms) × DefaultsSay ds ms
    defaults_say [] apart own backs = (no_members, refl, record { says = λ k. refl; known = refl })
    defaults_say (f ∷ ds) apart own backs =
        at (is_written_default o fs f) refl (defaults_say ds (IsDistinct-tail (λ m n. m == n) f.number (numbers ds) apart) later backs)
      where
        here : (f.number == f.number) ≡ true
        here = grind (arith, nat_tests)

        own_field : field_of f.number gs ≡ Some f
        own_field = own f (rw here refl)

        no_other : AllByRecursion (λ y. (f.number == y) ≡ false) (numbers ds)
        no_other = IsDistinct-head (λ m n. m == n) f.number (numbers ds) apart

        later : (g : FieldShape) → field_of g.number ds ≡ Some g → field_of g.number gs ≡ Some g
        later g e = own g (cases (g.number == f.number) refl)
          where
            cases : (b : Bool) → (g.number == f.number) ≡ b → (if b then Some f else field_of g.number ds) ≡ Some g
            cases false p = e
            cases true p =
                let there = (number_of_field g.number ds g e).1 in
                let none : has_number f.number ds ≡ false = missing f.number ds no_other in
                let same : g.number ≡ f.number = grind (arith, nat_tests) in
                let bad : has_number f.number ds ≡ true = ap (λ k. has_number k ds) (sym same) ∙ there in
                absurd (cc)
              where
                missing : (n : ℕ) (xs : List FieldShape) → AllByRecursion (λ y. (n == y) ≡ false) (numbers xs) → has_number n xs ≡ false
                missing n [] h = refl
                missing n (x ∷ xs) h =
                    let other : (x.number == n) ≡ false = (let q : (n == x.number) ≡ false = h.0 in grind (arith, nat_tests)) in
                    nor_of (x.number == n) (has_number n xs) other (missing n xs h.1)

        at : (b : Bool) → is_written_default o fs f ≡ b
            → (ms : Members) × (members_of_lines (map_list (default_line shape o) (filter (is_written_default o fs) ds)) ≡ Some ms) × DefaultsSay ds ms
            → (ms : Members)
            × (members_of_lines (map_list (default_line shape o) (if b then f ∷ filter (is_written_default o fs) ds else filter (is_written_default o fs) ds)) ≡ Some ms)
            × DefaultsSay (f ∷ ds) ms
        at false p it = (
          it.0,
          it.1,
          record {
            says = λ k. it.2.says k ∙ ap no_value (sym (ap (λ x. x || list_any (is_default_of k) ds) (no_false (is_written_default o fs f) (f.number == k) p)));
            known = it.2.known;
          },
        )
        at true p it =
            let back = backs f own_field p in
            let free : told_at f.number it.0 ≡ [] = it.2.says f.number ∙ ap no_value (lacks f.number ds no_other) in
            let more = with_one f.number f own_field (default_tree shape o f f.cardinality) back.0 back.1 (Some None) back.2
            (map_list (default_line shape o) (filter (is_written_default o fs) ds)) it.0 it.1 it.2.known free in
            (more.0, more.1, record { says = λ k. each more.0 more.2 k (f.number == k) refl; known = more.2.known })
          where
            each : (new : Members) → IsWith f (Some None) it.0 new → (k : ℕ) (b : Bool) → (f.number == k) ≡ b
                → told_at k new ≡ no_value ((is_written_default o fs f && (f.number == k)) || list_any (is_default_of k) ds)
            each new w k true e =
                let same : f.number ≡ k = grind (arith, nat_tests) in
                ap (λ j. told_at j new) (sym same) ∙ w.own ∙ sym (rw (p, e) refl)
            each new w k false e = w.others k e ∙ it.2.says k ∙ sym (rw (p, e) refl)

  -- ---- values

  -- each value is told by the field of its number, as a tree that reads as the value
  abbrev pub ValuesBack : Fields → List Told → Type 0
  ValuesBack content.no_fields [] = Unit {0}
  ValuesBack (content.field n v fs) (t ∷ ts) =
      (t.number ≡ n)
      × ((f : FieldShape) × (field_of n gs ≡ Some f) × ((d : Data) × (t.tells (field f) ≡ Some d) × (said shape false d (field f) ≡ Some (Some v))))
      × ValuesBack fs ts
  ValuesBack _ _ = ⊥

  -- what is said for a number after its field is put, else what was said before
  abbrev joined : Option Val → List Reading → List Reading
  joined None rs = rs
  joined (Some v) rs = Some (Some v) ∷ []

  abbrev value_line : Told → Line
  value_line t = told_line o t.tells (field_of t.number gs)

  record ValuesSay (fs : Fields) (base ms : Members) : Type 0 where
    says : (k : ℕ) → told_at k ms ≡ joined (get k fs) (told_at k base)
    known : AreKnown ms

  module _ (ys : List Line) (base : Members) (based : members_of_lines ys ≡ Some base) (base_known : AreKnown base) where
    values_say : (fs : Fields) → IsAscending fs → (ts : List Told) → ValuesBack fs ts → ((k : ℕ) (w : Val) → get k fs ≡ Some w → told_at k base ≡ [])
        → (ms : Members) × (members_of_lines (map_list value_line ts ++ ys) ≡ Some ms) × ValuesSay fs base ms
    values_say content.no_fields up [] back absent = (base, based, record { says = λ k. refl; known = base_known })
    values_say content.no_fields up (t ∷ ts) back absent = absurd back
    values_say (content.field n v fs) up [] back absent = absurd back
    values_say (content.field n v fs) up (t ∷ ts) back absent =
        step (values_say fs (above-ascending n fs up) ts back.2 (λ k w got. absent k w (later_found n v fs up k w got)))
      where
        f : FieldShape
        f = back.1.0

        is : field_of n gs ≡ Some back.1.0
        is = back.1.1

        number_is : (back.1.0.number == n) ≡ true
        number_is = (number_of_field n gs back.1.0 back.1.1).0

        line_is : value_line t ≡ (key_of_field o back.1.0, t.tells (field back.1.0))
        line_is = ap (λ k. told_line o t.tells (field_of k gs)) back.0 ∙ ap (told_line o t.tells) back.1.1

        none : get n fs ≡ None
        none = get-above n n fs up (omega arith)

        step : (ms : Members) × (members_of_lines (map_list value_line ts ++ ys) ≡ Some ms) × ValuesSay fs base ms
            → (ms : Members) × (members_of_lines (value_line t ∷ (map_list value_line ts ++ ys)) ≡ Some ms) × ValuesSay (content.field n v fs) base ms
        step it = (
          more.0,
          ap (λ l. members_of_lines (l ∷ (map_list value_line ts ++ ys))) line_is ∙ more.1,
          record {
            says = λ k. each k (k == n) refl;
            known = more.2.known;
          },
        )
          where
            same : back.1.0.number ≡ n
            same = grind (arith, nat_tests, number_is)

            free : told_at back.1.0.number it.0 ≡ []
            free =
                ap (λ k. told_at k it.0) same ∙ it.2.says n ∙ ap (λ x. joined x (told_at n base)) none
                ∙ absent n v (first_found n v fs)

            more : (new : Members)
                × (members_of_lines ((key_of_field o back.1.0, t.tells (field back.1.0)) ∷ (map_list value_line ts ++ ys)) ≡ Some new)
                × IsWith back.1.0 (Some (Some v)) it.0 new
            more = with_one n back.1.0 back.1.1 (t.tells (field back.1.0)) back.1.2.0 back.1.2.1 (Some (Some v)) back.1.2.2
                (map_list value_line ts ++ ys) it.0 it.1 it.2.known free

            each : (k : ℕ) (b : Bool) → (k == n) ≡ b → told_at k more.0 ≡ joined (if b then Some v else get k fs) (told_at k base)
            each k true e =
                let to : back.1.0.number ≡ k = grind (arith, nat_tests, same) in
                ap (λ j. told_at j more.0) (sym to) ∙ more.2.own
            each k false e =
                let other : (back.1.0.number == k) ≡ false = grind (arith, nat_tests, same) in
                more.2.others k other ∙ it.2.says k

  -- ---- all lines

  -- the numbers that have a value are the type's
  has_known : (fs : Fields) (ts : List Told) → ValuesBack fs ts → (k : ℕ) → has_number k gs ≡ false → get k fs ≡ None
  has_known content.no_fields ts back k unknown = refl
  has_known (content.field n v fs) [] back k unknown = absurd back
  has_known (content.field n v fs) (t ∷ ts) back k unknown = at (k == n) refl (has_known fs ts back.2 k unknown)
    where
      at : (b : Bool) → (k == n) ≡ b → get k fs ≡ None → (if b then Some v else get k fs) ≡ None
      at false e ih = ih
      at true e ih =
          let same : n ≡ k = grind (arith, nat_tests) in
          let bad : has_number k gs ≡ true = ap (λ j. has_number j gs) (sym same) ∙ (number_of_field n gs back.1.0 back.1.1).1 in
          absurd (cc)

  -- no default is written where there is a value
  no_default_there : (fs : Fields) (k : ℕ) (w : Val) → get k fs ≡ Some w → (ds : List FieldShape) → list_any (is_default_of fs k) ds ≡ false
  no_default_there fs k w got [] = refl
  no_default_there fs k w got (f ∷ ds) =
      nor_of (is_default_of fs k f) (list_any (is_default_of fs k) ds) (at (f.number == k) refl) (no_default_there fs k w got ds)
    where
      never : (a b c d : Bool) → (a && b && c && d && false) ≡ false
      never false b c d = refl
      never true false c d = refl
      never true true false d = refl
      never true true true false = refl
      never true true true true = refl

      last : (a : Bool) → (a && false) ≡ false
      last true = refl
      last false = refl

      at : (b : Bool) → (f.number == k) ≡ b → (is_written_default o fs f && b) ≡ false
      at false e = last (is_written_default o fs f)
      at true e =
          let same : k ≡ f.number = grind (arith, nat_tests) in
          let there : is_there (get f.number fs) ≡ true = ap (λ j. is_there (get j fs)) (sym same) ∙ ap (λ x. is_there x) got in
          rw there (ap (λ x. x && true) (never (not o.options.skip_default_fields) (not (has_presence f)) (not (is_float f.kind)) (not f.is_extension)))

  joined_reads : (x : Option Val) (b : Bool) → only (joined x (no_value content.no_fields b)) ≡ Some x
  joined_reads None true = refl
  joined_reads None false = refl
  joined_reads (Some v) b = refl

  pub lines_back : AreProper gs → (fs : Fields) → IsAscending fs → has_one_member gs fs ≡ true → (ts : List Told) → ValuesBack fs ts
      → ((f : FieldShape) → field_of f.number gs ≡ Some f → is_written_default o fs f ≡ true → DefaultBack fs f)
      → (ms : Members) × (members_of_lines (lines shape o gs fs ts) ≡ Some ms)
      × (message_of false gs (entries_said shape false ms) ≡ Some (content.content fs []))
  lines_back proper fs up single ts back backs =
      let base = defaults_say fs gs proper.distinct (λ f e. e) backs in
      let all = values_say (map_list (default_line shape o) (filter (is_written_default o fs) gs)) base.0 base.1 base.2.known fs up ts back
      (λ k w got. base.2.says k ∙ ap (no_value fs) (no_default_there fs k w got gs)) in
      let each : (k : ℕ) → only (told_at k all.0) ≡ Some (get k fs) =
      λ k. ap only (all.2.says k ∙ ap (joined (get k fs)) (base.2.says k)) ∙ joined_reads (get k fs) (list_any (is_default_of fs k) gs) in
      let found : gathered (λ k. only (told_at k all.0)) gs ≡ Some fs =
      gathered_along (λ k. only (told_at k all.0)) (λ k. Some (get k fs)) gs each ∙ gathered_fields gs fs up (has_known fs ts back) in
      (all.0, all.1, rw (all.2.known) (ap (option_and_then (if_oneofs gs)) found ∙ rw single refl))
