-- Messages as objects.
use Rattle.std.proofs.Common.{◌≡◌, ℕ, suc, ◌+◌, ◌<◌, ◌≤◌, List, [], ◌∷◌, ◌++◌, map, filter, length, take, drop, get_or, Bool, true, false, ◌||◌}
use Rattle.std.proofs.Common.{if◌then◌else◌, nat_lt, Option, Some, None, option_map, Result, IfOk, IsOkAnd, IfErr, reverse, inl, inr, append_assoc, refl, sym, ap, subst, ◌∙◌, arith}
use Rattle.std.specs.Prelude.{◌==◌}
use Rattle.std.specs.List.{list_any}
use Rattle.std.specs.Str.{bytes_eq}
use Rattle.std.proofs.lemmas.Bool.Decides.{nat_tests}
use Rattle.serde_json.specs.Data.{Data, object, Members, no_members}
use Rattle.pbx_wire.specs.declared.rec.Rec.{Rec}
use Rattle.pbx_content.specs.Content as content
use Rattle.pbx_content.specs.Content.{Content, Fields, no_fields, field as field_of_number, Val, message, fields, kept}
use Rattle.pbx_content.specs.Encoding.{type_of}
use Rattle.pbx_content.specs.Shape.{declared_of, fields_of, field_of, inserted, by_number}
use Rattle.pbx_content.specs.Sound.{AreSound, IsSoundAt}
use Rattle.pbx_content.specs.declared.shape.Kind.{Kind}
use Rattle.pbx_content.specs.declared.shape.Shape.{Shape}
use Rattle.pbx_content.specs.declared.shape.FieldShape.{FieldShape}
use Rattle.pbx_content_codec.specs.View.{val_of, entry_of, fields_in}
use Rattle.pbx_content_codec.specs.declared.contents.Held.{Held}
use Rattle.pbx_json_meaning.specs.Forms.{is_object_type}
use Rattle.pbx_json_meaning.specs.Asked.{Asked, field, one}
use Rattle.pbx_json_meaning.specs.Canonical.{Line, Told, tells, told_line, fields_tell, lines, keeps_float, key_of_field, has_key}
use Rattle.pbx_json_meaning.specs.Canonical.{with_line, with_member, members_of_lines, is_written_default}
use Rattle.pbx_json_meaning.specs.WriteFaults.{WriteFaultAt, parts_of, members, KeyBreaks, key_in, value_keys, written_keys, is_twice, is_under, asked_of, field_under}
use Rattle.pbx_json_meaning.specs.declared.kind.JsonKind.{JsonKind}
use Rattle.pbx_json_meaning.specs.declared.kind.JsonKind.TheVariants as fault
use Rattle.pbx_json_meaning.specs.Canonical.{Writing}
use Rattle.pbx_json_meaning.specs.declared.place.Step.{Step}
use Rattle.pbx_json_meaning.specs.declared.place.Step.TheVariants.{Key}
use Rattle.pbx_json_writing.specs.Lines.{with_lines, collected, field_lines, default_lines}
use Rattle.serde_json.specs.View.{view}
use Rattle.serde_json.specs.declared.value.Value.{Value}
use Rattle.pbx_json_writing.specs.declared.refusal.Refusal.{Refusal}
use Rattle.pbx_json_writing.specs.Refusals.{Holds, Refused, IsMemberRefused}
use Rattle.pbx_json_writing.proofs.Collected.{split_at, take_more, take_all, map-append, collected_is, with_lines-append, with_lines_none, with_lines_absent, with_lines_twice}
use Rattle.pbx_json_writing.proofs.Collected.{with_lines_more, keys_of_lines}
use Rattle.pbx_json_writing.proofs.Entries.{same_bytes, or_false}
use Rattle.pbx_json_writing.proofs.Refusing.{Stops, both_ok, stops_of, refused_member}

-- ---- fields by their numbers

field_of-inserted : (n : ℕ) (f : FieldShape) (gs : List FieldShape) → field_of n (inserted f gs) ≡ field_of n (f ∷ gs)
field_of-inserted n f [] = refl
field_of-inserted n f (g ∷ gs) = at (nat_lt g.number f.number) refl (n == g.number) refl (n == f.number) refl (field_of-inserted n f gs)
  where
    at : (a : Bool) → nat_lt g.number f.number ≡ a → (b : Bool) → (n == g.number) ≡ b → (c : Bool) → (n == f.number) ≡ c
        → field_of n (inserted f gs) ≡ (if c then Some f else field_of n gs)
        → field_of n (if a then g ∷ inserted f gs else f ∷ g ∷ gs) ≡ (if c then Some f else (if b then Some g else field_of n gs))
    at false l b p c q ih = rw (p, q) refl
    at true l false p c q ih = rw p ih
    at true l true p false q ih = rw p refl
    at true l true p true q ih = absurd (let less : nat_lt g.number f.number ≡ false = grind (arith, nat_tests) in let bad : true ≡ false = sym l ∙ less in cc)

-- sorting by number moves no number's field
pub field_of-by_number : (n : ℕ) (fs : List FieldShape) → field_of n (by_number fs) ≡ field_of n fs
field_of-by_number n [] = refl
field_of-by_number n (f ∷ fs) =
    field_of-inserted n f (by_number fs) ∙ ap (λ (o : Option FieldShape). if n == f.number then Some f else o) (field_of-by_number n fs)

-- ---- what is asked of a field's value is asked of a value of its kind

pub told_field : (shape : Shape) (o : Writing) (f : FieldShape) (v : Val) → tells shape o v (field f) ≡ tells shape o v (one f.kind)
told_field shape o f (content.number z) = refl
told_field shape o f (content.truth b) = refl
told_field shape o f (content.text s) = refl
told_field shape o f (content.octets s) = refl
told_field shape o f (content.message c) = refl
told_field shape o f (content.many vs) = refl
told_field shape o f (content.keyed ps) = refl

parts_of_field : (shape : Shape) (f : FieldShape) (v : Val) → parts_of shape v (one f.kind) ≡ parts_of shape v (field f)
parts_of_field shape f (content.number z) = refl
parts_of_field shape f (content.truth b) = refl
parts_of_field shape f (content.text s) = refl
parts_of_field shape f (content.octets s) = refl
parts_of_field shape f (content.message c) = refl
parts_of_field shape f (content.many vs) = refl
parts_of_field shape f (content.keyed ps) = refl

-- values of which the same is written below break the same rules
pub same_parts : (shape : Shape) (o : Writing) (place : List Step) (v w : Val) (a b : Asked) (rule : JsonKind)
    → parts_of shape v a ≡ parts_of shape w b → WriteFaultAt shape o place v a rule → WriteFaultAt shape o place w b rule
same_parts shape o [] v w a b rule same h = sym same ∙ h
same_parts shape o (step ∷ place) v w a b rule same h = rw (← same) h

pub holds_field : (shape : Shape) (f : FieldShape) (v : Val) → IsSoundAt shape (Some f) v → Holds shape f.kind v
holds_field shape f (content.number z) h = h.2
holds_field shape f (content.truth b) h = h.2
holds_field shape f (content.text s) h = h.2
holds_field shape f (content.octets s) h = h.2
holds_field shape f (content.message c) h = h.1
holds_field shape f (content.many vs) h = h.2
holds_field shape f (content.keyed ps) h = (h.1.0, h.1.2)

-- ---- counting keys

once : (p : List ℕ → Bool) (xs : List (List ℕ)) (k : List ℕ) (ys : List (List ℕ)) → p k ≡ true → 1 ≤ length (filter p (xs ++ k ∷ ys))
once p [] k ys h = rw h (omega arith)
once p (x ∷ xs) k ys h = at (p x) (once p xs k ys h)
  where
    at : (b : Bool) → 1 ≤ length (filter p (xs ++ k ∷ ys)) → 1 ≤ length (if b then x ∷ filter p (xs ++ k ∷ ys) else filter p (xs ++ k ∷ ys))
    at true ih = omega arith
    at false ih = ih

twice : (p : List ℕ → Bool) (xs : List (List ℕ)) (k : List ℕ) (ys : List (List ℕ)) → list_any p xs ≡ true → p k ≡ true → 2 ≤ length (filter p (xs ++ k ∷ ys))
twice p [] k ys any h = absurd (cc)
twice p (x ∷ xs) k ys any h = at (p x) any (once p xs k ys h) (twice p xs k ys)
  where
    at : (b : Bool) → (b || list_any p xs) ≡ true → 1 ≤ length (filter p (xs ++ k ∷ ys))
        → (list_any p xs ≡ true → p k ≡ true → 2 ≤ length (filter p (xs ++ k ∷ ys)))
        → 2 ≤ length (if b then x ∷ filter p (xs ++ k ∷ ys) else filter p (xs ++ k ∷ ys))
    at true a one_there ih = omega arith
    at false a one_there ih = ih a h

pub key_twice : (s : List ℕ) (xs : List (List ℕ)) (k : List ℕ) (ys : List (List ℕ)) → list_any (λ x. bytes_eq x s) xs ≡ true → k ≡ s
    → is_twice s (xs ++ k ∷ ys) ≡ true
key_twice s xs k ys any is =
    let two : 2 ≤ length (filter (λ x. bytes_eq x s) (xs ++ k ∷ ys)) = twice (λ x. bytes_eq x s) xs k ys any (rw is (same_bytes s)) in
    grind (arith, nat_tests)

-- ---- the lines of a message

module _ (shape : Shape) (o : Writing) where
  lines_told : (gs : List FieldShape) (fs : Fields)
      → map (λ (t : Told). told_line o t.tells (field_of t.number gs)) (fields_tell shape o fs) ≡ field_lines shape o gs fs
  lines_told gs no_fields = refl
  lines_told gs (field_of_number n v fs) = ap (λ ls. told_line o (tells shape o v) (field_of n gs) ∷ ls) (lines_told gs fs)

  -- all lines of a message
  abbrev pub all_lines : List FieldShape → Fields → List Line
  all_lines gs fs = field_lines shape o gs fs ++ default_lines shape o fs gs

  pub lines_are : (gs : List FieldShape) (fs : Fields) → members_of_lines (lines shape o gs fs (fields_tell shape o fs)) ≡ collected (all_lines gs fs)
  lines_are gs fs =
      ap (λ ls. members_of_lines (ls ++ default_lines shape o fs gs)) (lines_told gs fs) ∙ collected_is (all_lines gs fs)

  -- a message without a tree
  pub message_none : (k : Kind) (c : Content) → is_object_type shape (type_of k) ≡ true
      → collected (all_lines (declared_of shape (type_of k)) (fields c)) ≡ None → tells shape o (message c) (one k) ≡ None
  message_none k (content.content fs ks) plain h = rw plain (ap message_of (lines_are gs fs ∙ h) ∙ at (keeps_float gs ks))
    where
      gs : List FieldShape
      gs = declared_of shape (type_of k)

      message_of : Option Members → Option Data
      message_of r = if keeps_float gs ks then None else option_map object r

      at : (b : Bool) → (if b then None else option_map object None) ≡ None
      at true = refl
      at false = refl

  -- a message with a tree
  pub message_told : (k : Kind) (c : Content) (ms : Members) → is_object_type shape (type_of k) ≡ true
      → keeps_float (declared_of shape (type_of k)) (kept c) ≡ false → collected (all_lines (declared_of shape (type_of k)) (fields c)) ≡ Some ms
      → tells shape o (message c) (one k) ≡ Some (object ms)
  message_told k (content.content fs ks) ms plain whole so =
      rw (plain, whole) (ap (option_map object) (lines_are (declared_of shape (type_of k)) fs ∙ so))

  -- a rule that a key of a message breaks
  pub broken_key : (k : Kind) (c : Content) (key : List ℕ) (rule : JsonKind) → is_object_type shape (type_of k) ≡ true
      → KeyBreaks o (members false (declared_of shape (type_of k)) (fields c) (kept c)) key rule → WriteFaultAt shape o (Key key ∷ []) (message c) (one k) rule
  broken_key k (content.content fs ks) key rule plain breaks = rw plain (inl (refl, breaks))

  -- a rule that is broken below a key of a message
  pub broken_below : (k : Kind) (c : Content) (key : List ℕ) (rule : JsonKind) (v : Val) (f : FieldShape) (place : List Step)
      → is_object_type shape (type_of k) ≡ true → field_under o key (declared_of shape (type_of k)) (fields c) ≡ Some (v, field f)
      → WriteFaultAt shape o place v (one f.kind) rule → WriteFaultAt shape o (Key key ∷ place) (message c) (one k) rule
  broken_below k (content.content fs ks) key rule v f place plain under h =
      rw plain (inr (rw under (same_parts shape o place v v (one f.kind) (field f) rule (parts_of_field shape f v) h)))

  -- ---- one field of a list of fields

  module _ (gs : List FieldShape) where
    -- the line of a field
    abbrev pub line : ℕ × Held → Line
    line x = told_line o (tells shape o (val_of x.1)) (field_of x.0 gs)

    abbrev pub held_fields : List (ℕ × Held) → Fields
    held_fields xs = fields_in (map entry_of xs)

    pub lines_of_held : (xs : List (ℕ × Held)) → field_lines shape o gs (held_fields xs) ≡ map line xs
    lines_of_held [] = refl
    lines_of_held (x ∷ xs) = ap (λ ls. line x ∷ ls) (lines_of_held xs)

    -- the line of a field that is found
    pub line_of : (x : ℕ × Held) (f : FieldShape) → field_of x.0 gs ≡ Some f → line x ≡ (key_of_field o f, tells shape o (val_of x.1) (field f))
    line_of x f found = rw found refl

    value_keys-append : (xs ys : List (ℕ × Held)) → value_keys o gs (held_fields (xs ++ ys)) ≡ value_keys o gs (held_fields xs) ++ value_keys o gs (held_fields ys)
    value_keys-append [] ys = refl
    value_keys-append (x ∷ xs) ys =
        ap (λ ks. key_in o (field_of x.0 gs) ++ ks) (value_keys-append xs ys) ∙ sym (append_assoc (key_in o (field_of x.0 gs)) _ _)

    keys_match : (s : List ℕ) (fs : Fields) (r : Option Members) (ms : Members) → with_lines (field_lines shape o gs fs) r ≡ Some ms
        → list_any (λ (l : Line). bytes_eq l.0 s) (field_lines shape o gs fs) ≡ list_any (λ k. bytes_eq k s) (value_keys o gs fs)
    keys_match s no_fields r ms so = refl
    keys_match s (field_of_number n v fs) r ms so = at (field_of n gs) so (λ q. keys_match s fs q ms)
      where
        no_line : (r : Option Members) → with_line [] None r ≡ None
        no_line None = refl
        no_line (Some ns) = refl

        at : (f : Option FieldShape)
            → with_lines (field_lines shape o gs fs) (with_line ((told_line o (tells shape o v) f).0) ((told_line o (tells shape o v) f).1) r) ≡ Some ms
            → ((q : Option Members) → with_lines (field_lines shape o gs fs) q ≡ Some ms
            → list_any (λ (l : Line). bytes_eq l.0 s) (field_lines shape o gs fs) ≡ list_any (λ k. bytes_eq k s) (value_keys o gs fs))
            → (bytes_eq ((told_line o (tells shape o v) f).0) s || list_any (λ (l : Line). bytes_eq l.0 s) (field_lines shape o gs fs))
            ≡ list_any (λ k. bytes_eq k s) (key_in o f ++ value_keys o gs fs)
        at None h ih =
            let none : None ≡ Some ms = sym (with_lines_none (field_lines shape o gs fs)) ∙ ap (with_lines (field_lines shape o gs fs)) (sym (no_line r)) ∙ h in
            absurd (cc)
        at (Some f) h ih = ap (λ b. bytes_eq (key_of_field o f) s || b) (ih _ h)

    -- the keys that are there
    pub fields_there : (s : List ℕ) (fs : Fields) (ms : Members) → collected (field_lines shape o gs fs) ≡ Some ms
        → has_key s ms ≡ list_any (λ k. bytes_eq k s) (value_keys o gs fs)
    fields_there s fs ms so =
        keys_of_lines s (field_lines shape o gs fs) no_members ms so ∙ or_false (list_any (λ (l : Line). bytes_eq l.0 s) (field_lines shape o gs fs))
        ∙ keys_match s fs (Some no_members) ms so

    there : (s : List ℕ) (xs : List (ℕ × Held)) (ms : Members) → collected (map line xs) ≡ Some ms
        → has_key s ms ≡ list_any (λ k. bytes_eq k s) (value_keys o gs (held_fields xs))
    there s xs ms so = fields_there s (held_fields xs) ms (ap collected (lines_of_held xs) ∙ so)

    under_seam : (s : List ℕ) (xs : List (ℕ × Held)) (x : ℕ × Held) (ys : List (ℕ × Held)) (f : FieldShape) → field_of x.0 gs ≡ Some f → key_of_field o f ≡ s
        → list_any (λ k. bytes_eq k s) (value_keys o gs (held_fields xs)) ≡ false
        → field_under o s gs (held_fields (xs ++ x ∷ ys)) ≡ Some (val_of x.1, field f)
    under_seam s [] x ys f found is none = rw (found, is, same_bytes s) refl
    under_seam s (y ∷ xs) x ys f found is none = at (field_of y.0 gs) none (under_seam s xs x ys f found is)
      where
        skips : (b : Bool) (g : FieldShape) → (b || list_any (λ k. bytes_eq k s) (value_keys o gs (held_fields xs))) ≡ false
            → (list_any (λ k. bytes_eq k s) (value_keys o gs (held_fields xs)) ≡ false
            → field_under o s gs (held_fields (xs ++ x ∷ ys)) ≡ Some (val_of x.1, field f))
            → (if b then Some (val_of y.1, field g) else field_under o s gs (held_fields (xs ++ x ∷ ys))) ≡ Some (val_of x.1, field f)
        skips true g h ih = absurd (cc)
        skips false g h ih = ih h

        at : (g : Option FieldShape) → list_any (λ k. bytes_eq k s) (key_in o g ++ value_keys o gs (held_fields xs)) ≡ false
            → (list_any (λ k. bytes_eq k s) (value_keys o gs (held_fields xs)) ≡ false
            → field_under o s gs (held_fields (xs ++ x ∷ ys)) ≡ Some (val_of x.1, field f))
            → (if is_under o s g then asked_of g (val_of y.1) else field_under o s gs (held_fields (xs ++ x ∷ ys))) ≡ Some (val_of x.1, field f)
        at None h ih = ih h
        at (Some g) h ih = skips (bytes_eq (key_of_field o g) s) g h ih

  sound_seam : (gs : List FieldShape) (xs : List (ℕ × Held)) (x : ℕ × Held) (ys : List (ℕ × Held)) → AreSound shape gs (fields_in (map entry_of (xs ++ x ∷ ys)))
      → IsSoundAt shape (field_of x.0 gs) (val_of x.1)
  sound_seam gs [] x ys h = h.0
  sound_seam gs (y ∷ xs) x ys h = sound_seam gs xs x ys h.1

  module _ (k : Kind) (ks : List Rec) (xs : List (ℕ × Held)) (x : ℕ × Held) (ys : List (ℕ × Held)) where
    declared : List FieldShape
    declared = declared_of shape (type_of k)

    abbrev whole : Content
    whole = content.content (fields_in (map entry_of (xs ++ x ∷ ys))) ks

    own_value : Holds shape k (message whole) → IsSoundAt shape (field_of x.0 (declared_of shape (type_of k))) (val_of x.1)
    own_value h =
        let own : type_of k ≡ h.0 = ap type_of h.1 in
        let sound : IsSoundAt shape (field_of x.0 (fields_of shape h.0)) (val_of x.1) = sound_seam (fields_of shape h.0) xs x ys h.2.1 in
        rw own (subst (λ f. IsSoundAt shape f (val_of x.1)) (field_of-by_number x.0 (declared_of shape h.0)) sound)

    no_tree : is_object_type shape (type_of k) ≡ true → with_lines (map (line (declared_of shape (type_of k))) xs ++ line (declared_of shape (type_of k)) x ∷ map (line (declared_of shape (type_of k))) ys)
        (Some no_members) ≡ None → tells shape o (message whole) (one k) ≡ None
    no_tree plain h =
        let gs : List FieldShape = declared_of shape (type_of k) in
        let fs : Fields = fields_in (map entry_of (xs ++ x ∷ ys)) in
        message_none k whole plain
        (with_lines-append (field_lines shape o gs fs) (default_lines shape o fs gs) (Some no_members)
        ∙ ap (with_lines (default_lines shape o fs gs))
        (ap collected (lines_of_held gs (xs ++ x ∷ ys) ∙ map-append (line gs) xs (x ∷ ys)) ∙ h)
        ∙ with_lines_none (default_lines shape o fs gs))

    unknown_seam : is_object_type shape (type_of k) ≡ true → (rule : JsonKind) → field_of x.0 (declared_of shape (type_of k)) ≡ None → Stops shape o (message whole) k rule []
    unknown_seam plain rule none =
        let gs : List FieldShape = declared_of shape (type_of k) in (
          no_tree plain (with_lines_absent (map (line gs) xs) (line gs x) (map (line gs) ys) (Some no_members) (rw none refl)),
          λ h. absurd (subst (λ f. IsSoundAt shape f (val_of x.1)) none (own_value h)),
        )

    module _ (plain : is_object_type shape (type_of k) ≡ true) (f : FieldShape) (found : field_of x.0 (declared_of shape (type_of k)) ≡ Some f)
        (ms : Members) (so : collected (map (line (declared_of shape (type_of k))) xs) ≡ Some ms) where
      twice_seam : has_key (key_of_field o f) ms ≡ true → Stops shape o (message whole) k fault.DuplicateField (Key (key_of_field o f) ∷ [])
      twice_seam h =
          let gs : List FieldShape = declared_of shape (type_of k) in
          let key : List ℕ = key_of_field o f in
          let fs : Fields = fields_in (map entry_of (xs ++ x ∷ ys)) in
          let is : (line gs x).0 ≡ key = ap (λ (l : Line). l.0) (line_of gs x f found) in
          let any : list_any (λ s. bytes_eq s key) (value_keys o gs (held_fields gs xs)) ≡ true = sym (there gs key xs ms so) ∙ h in
          let more : List (List ℕ) = value_keys o gs (held_fields gs ys) ++ map (key_of_field o) (filter (is_written_default o fs) gs) in
          let keys : written_keys o false gs fs ≡ value_keys o gs (held_fields gs xs) ++ key ∷ more =
          ap (λ zs. zs ++ map (key_of_field o) (filter (is_written_default o fs) gs))
          (value_keys-append gs xs (x ∷ ys) ∙ ap (λ g. value_keys o gs (held_fields gs xs) ++ (key_in o g ++ value_keys o gs (held_fields gs ys))) found)
          ∙ append_assoc (value_keys o gs (held_fields gs xs)) _ _ in (
            no_tree plain (with_lines_twice (map (line gs) xs) (line gs x) (map (line gs) ys) (Some no_members) ms so (ap (λ s. has_key s ms) is ∙ h)),
            λ all. broken_key k whole key fault.DuplicateField plain (ap (is_twice key) keys ∙ key_twice key (value_keys o gs (held_fields gs xs)) key more any refl),
          )

      inside_seam : has_key (key_of_field o f) ms ≡ false → (rule : JsonKind) (place : List Step) → Stops shape o (val_of x.1) f.kind rule place
          → Stops shape o (message whole) k rule (Key (key_of_field o f) ∷ place)
      inside_seam h rule place stops =
          let gs : List FieldShape = declared_of shape (type_of k) in
          let key : List ℕ = key_of_field o f in
          let none : (line gs x).1 ≡ None = ap (λ (l : Line). l.1) (line_of gs x f found) ∙ told_field shape o f (val_of x.1) ∙ stops.0 in (
            no_tree plain (with_lines_absent (map (line gs) xs) (line gs x) (map (line gs) ys) (Some no_members) none),
            λ all. broken_below k whole key rule (val_of x.1) f place plain (under_seam gs key xs x ys f found refl (sym (there gs key xs ms so) ∙ h))
                (stops.1 (holds_field shape f (val_of x.1) (subst (λ g. IsSoundAt shape g (val_of x.1)) found (own_value all)))),
          )

  -- ---- what the loop over the fields keeps

  module _ (k : Kind) (ks : List Rec) (c : Content) (all : List (ℕ × Held)) (is_content : c ≡ content.content (fields_in (map entry_of all)) ks)
      (i : ℕ) (x : ℕ × Held) (within : i < length all) (is : x ≡ get_or all i x) where
    back : (rule : JsonKind) (place : List Step)
        → Stops shape o (message (content.content (fields_in (map entry_of (take i all ++ x ∷ drop (suc i) all))) ks)) k rule place
        → Stops shape o (message c) k rule place
    back rule place h =
        subst (λ d. Stops shape o (message d) k rule place) (sym is_content)
        (subst (λ xs. Stops shape o (message (content.content (fields_in (map entry_of xs)) ks)) k rule place) (sym (split_at all i x within is)) h)

    pub field_unknown : is_object_type shape (type_of k) ≡ true → (rule : JsonKind) → field_of x.0 (declared_of shape (type_of k)) ≡ None
        → Stops shape o (message c) k rule []
    field_unknown plain rule none = back rule [] (unknown_seam k ks (take i all) x (drop (suc i) all) plain rule none)

    module _ (plain : is_object_type shape (type_of k) ≡ true) (f : FieldShape) (found : field_of x.0 (declared_of shape (type_of k)) ≡ Some f)
        (ms : Members) (so : collected (map (line (declared_of shape (type_of k))) (take i all)) ≡ Some ms) where
      pub field_twice : has_key (key_of_field o f) ms ≡ true → Stops shape o (message c) k fault.DuplicateField (Key (key_of_field o f) ∷ [])
      field_twice h = back fault.DuplicateField (Key (key_of_field o f) ∷ []) (twice_seam k ks (take i all) x (drop (suc i) all) plain f found ms so h)

      pub field_inside : has_key (key_of_field o f) ms ≡ false → (rule : JsonKind) (place : List Step) → Stops shape o (val_of x.1) f.kind rule place
          → Stops shape o (message c) k rule (Key (key_of_field o f) ∷ place)
      field_inside h rule place stops =
          back rule (Key (key_of_field o f) ∷ place) (inside_seam k ks (take i all) x (drop (suc i) all) plain f found ms so h rule place stops)

      pub field_more : (d : Data) (ns : Members) → tells shape o (val_of x.1) (one f.kind) ≡ Some d → with_member (key_of_field o f) d ms ≡ Some ns
          → collected (map (line (declared_of shape (type_of k))) (take (i + 1) all)) ≡ Some ns
      field_more d ns told more =
          let gs : List FieldShape = declared_of shape (type_of k) in
          let is_line = line_of gs x f found in
          ap (λ xs. collected (map (line gs) xs)) (take_more all i x within is)
          ∙ ap collected (map-append (line gs) (take i all) (x ∷ []))
          ∙ with_lines_more (map (line gs) (take i all)) (line gs x) (Some no_members) d ms ns so
          (ap (λ (l : Line). l.1) is_line ∙ told_field shape o f (val_of x.1) ∙ told)
          (ap (λ (l : Line). with_member l.0 d ms) is_line ∙ more)

      pub field_refused : (key : List ℕ) (written : Result Value Refusal) (r : Refusal) → key ≡ key_of_field o f
          → IfErr written (Refused shape o (val_of x.1) f.kind) → IsMemberRefused key written ms r → Refused shape o (message c) k r
      field_refused key written r named told_err member =
          refused_member shape o (message c) k (key_of_field o f) written ms r (subst (λ s. IsMemberRefused s written ms r) named member)
          field_twice (λ new rule inner e. field_inside new rule (reverse inner) (stops_of shape o (val_of x.1) f.kind written rule inner told_err e))

      pub field_step : (key : List ℕ) (written : Result Value Refusal) (ns : Members) → key ≡ key_of_field o f
          → IfOk written (λ tree. tells shape o (val_of x.1) (one f.kind) ≡ Some (view tree)) → IsOkAnd written (λ tree. with_member key (view tree) ms ≡ Some ns)
          → collected (map (line (declared_of shape (type_of k))) (take (i + 1) all)) ≡ Some ns
      field_step key written ns named told_ok added =
          let both = both_ok (λ tree. tells shape o (val_of x.1) (one f.kind) ≡ Some (view tree)) (λ tree. with_member key (view tree) ms ≡ Some ns) written
          told_ok added in
          field_more (view both.0) ns both.1 (ap (λ s. with_member s (view both.0) ms) (sym named) ∙ both.2)

  pub fields_done : (gs : List FieldShape) (ks : List Rec) (c : Content) (all : List (ℕ × Held)) → c ≡ content.content (fields_in (map entry_of all)) ks
      → (i : ℕ) (ms : Members) → length all ≤ i → collected (map (line gs) (take i all)) ≡ Some ms → collected (field_lines shape o gs (fields c)) ≡ Some ms
  fields_done gs ks c all is_content i ms past so =
      ap (λ d. collected (field_lines shape o gs (fields d))) is_content ∙ ap collected (lines_of_held gs all)
      ∙ ap (λ xs. collected (map (line gs) xs)) (sym (take_all all i past)) ∙ so
