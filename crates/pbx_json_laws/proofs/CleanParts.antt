-- The fields of an object that is read have no fault.
use Rattle.std.proofs.Common.{◌≡◌, ◌⊎◌, inl, inr, ℕ, ◌==◌, ◌&&◌, List, [], ◌∷◌, Bool, true, false, if◌then◌else◌, Option, Some, None, option_map, option_and_then, refl, ap, sym, ◌∙◌, subst, arith}
use Rattle.std.specs.Prelude.{not}
use Rattle.std.specs.List.{list_all}
use Rattle.std.proofs.lemmas.Bool.Decides.{nat_tests}
use Rattle.serde_json.specs.Data.{Data, Members, no_members, member}
use Rattle.serde_json.specs.Find.{get_member}
use Rattle.pbx_content.specs.Content as content
use Rattle.pbx_content.specs.Content.{Content, Fields, Val, Key as MapKey, get, has}
use Rattle.pbx_content.specs.Shape.{is_other}
use Rattle.pbx_content.specs.Sound.{AreProper, has_one_member}
use Rattle.pbx_content.specs.declared.shape.FieldShape.{FieldShape}
use Rattle.pbx_content.specs.declared.shape.Shape.{Shape}
use Rattle.pbx_json_meaning.specs.Asked.{Asked, field}
use Rattle.pbx_json_meaning.specs.Faults.{Inside, members, into, is_same_field, is_second_key, is_value, has_value, is_rival_with_value}
use Rattle.pbx_json_meaning.specs.Faults.{is_second_member, KeyBreaks, IsKeyFault, SomeWith}
use Rattle.pbx_json_meaning.specs.Names.{field_named}
use Rattle.pbx_json_meaning.specs.Stands.{Reading, Entry, told, told_by, only, gathered, is_known_key, all_known, if_oneofs, message_of, is_there}
use Rattle.pbx_json_meaning.specs.Stands.{said, entries_said}
use Rattle.pbx_json_meaning.specs.declared.kind.JsonKind.{JsonKind}
use Rattle.pbx_json_meaning.specs.declared.kind.JsonKind.TheVariants as fault
use Rattle.pbx_json_meaning.specs.declared.place.Step.{Step}
use Rattle.pbx_json_meaning.specs.declared.place.Step.TheVariants.{Key, Index}
use Rattle.pbx_json_laws.proofs.Gathered.{gathered_at}
use Rattle.pbx_json_laws.proofs.In.{In, Lesser, got_in, lesser_in, less_apart}
use Rattle.pbx_json_laws.proofs.Numbers.{named_from, named_number, number_of_field}
use Rattle.pbx_json_laws.proofs.Parts.{both, from_then, if_some, found_with}
use Rattle.pbx_json_laws.proofs.Puts.{has-get}

-- ---- readings

-- one of the readings
abbrev pub Has : Reading → List Reading → Type 0
Has r [] = ⊥
Has r (x ∷ xs) = (x ≡ r) ⊎ Has r xs

abbrev pub IsTwo : List Reading → Type 0
IsTwo [] = ⊥
IsTwo (x ∷ []) = ⊥
IsTwo (x ∷ (y ∷ ys)) = Unit {0}

two_fault : (rs : List Reading) → IsTwo rs → only rs ≡ None
two_fault [] h = absurd h
two_fault (x ∷ []) h = absurd h
two_fault (x ∷ (y ∷ ys)) h = refl

two_with : (r x : Reading) (rs : List Reading) → Has x rs → IsTwo (r ∷ rs)
two_with r x [] h = absurd h
two_with r x (y ∷ ys) h = tt

two_more : (r : Reading) (rs : List Reading) → IsTwo rs → IsTwo (r ∷ rs)
two_more r [] h = absurd h
two_more r (y ∷ ys) h = tt

-- the one reading is what is said
has_only : (r : Reading) (rs : List Reading) (o : Option Val) → Has r rs → only rs ≡ Some o → r ≡ Some o
has_only r [] o h e = absurd h
has_only r (x ∷ []) o (inl h) e = sym h ∙ e
has_only r (x ∷ []) o (inr h) e = absurd h
has_only r (x ∷ (y ∷ ys)) o h e = absurd (cc)

told_has : (o : Option FieldShape) (n : ℕ) (e : Entry) (r : Reading) (rs : List Reading) → Has r rs → Has r (told_by o n e rs)
told_has None n e r rs h = h
told_has (Some f) n e r rs h = at (f.number == n)
  where
    at : (b : Bool) → Has r (if b then e.says (field f) ∷ rs else rs)
    at true = inr h
    at false = h

told_two : (o : Option FieldShape) (n : ℕ) (e : Entry) (rs : List Reading) → IsTwo rs → IsTwo (told_by o n e rs)
told_two None n e rs h = h
told_two (Some f) n e rs h = at (f.number == n)
  where
    at : (b : Bool) → IsTwo (if b then e.says (field f) ∷ rs else rs)
    at true = two_more (e.says (field f)) rs h
    at false = h

pub there_is : (o : Option Data) → is_there o ≡ true → (d : Data) × (o ≡ Some d)
there_is None h = absurd (cc)
there_is (Some d) h = (d, refl)

module _ (shape : Shape) (allow : Bool) where
  -- what a step leads to is never read
  abbrev pub IsNeverRead : Data × Asked → Type 0
  IsNeverRead next = (r : Option Val) → said shape allow next.0 next.1 ≡ Some r → ⊥

  -- a step that breaks a rule, or leads to what is never read
  abbrev pub IsBroken : Inside → Step → List Step → JsonKind → Type 0
  IsBroken inside step place kind = IsKeyFault shape allow inside step place kind ⊎ SomeWith (into inside step) IsNeverRead

  -- ---- the fields of an object

  module _ (skips : Bool) (fs : List FieldShape) (proper : AreProper fs) where
    abbrev told_at : ℕ → Members → List Reading
    told_at n ms = told fs n (entries_said shape allow ms)

    known_in : (k : List ℕ) (d : Data) (ms : Members) → all_known skips fs (entries_said shape allow ms) ≡ true → In k d ms
        → is_known_key skips (field_named k fs) ≡ true
    known_in k d no_members a i = absurd i
    known_in k d (member l e ms) a (inl i) =
        ap (λ x. is_known_key skips (field_named x fs)) (sym i.0)
        ∙ (both (is_known_key skips (field_named l fs)) (all_known skips fs (entries_said shape allow ms)) a).0
    known_in k d (member l e ms) a (inr i) =
        known_in k d ms (both (is_known_key skips (field_named l fs)) (all_known skips fs (entries_said shape allow ms)) a).1 i

    -- what a key's tree says is told for its field
    told_in : (k : List ℕ) (d : Data) (f : FieldShape) (n : ℕ) → field_named k fs ≡ Some f → (f.number == n) ≡ true → (ms : Members) → In k d ms
        → Has (said shape allow d (field f)) (told_at n ms)
    told_in k d f n named is no_members i = absurd i
    told_in k d f n named is (member l e ms) (inr i) =
        told_has (field_named l fs) n (record { key = l; says = said shape allow e }) (said shape allow d (field f)) (told_at n ms) (told_in k d f n named is ms i)
    told_in k d f n named is (member l e ms) (inl i) =
        let own : told_at n (member l e ms) ≡ said shape allow e (field f) ∷ told_at n ms = rw (i.0, named, is) refl in
        let P : List Reading → Type 0 = λ rs. Has (said shape allow d (field f)) rs in
        subst P (sym own) (inl (ap (λ x. said shape allow x (field f)) i.1))

    -- two keys of one field are told twice
    told_twice : (n : ℕ) (k l : List ℕ) (d e : Data) (f g : FieldShape) → field_named k fs ≡ Some f → field_named l fs ≡ Some g
        → (f.number == n) ≡ true → (g.number == n) ≡ true → (k ≡ l → ⊥) → (ms : Members) → In k d ms → In l e ms → IsTwo (told_at n ms)
    told_twice n k l d e f g kf lg is js apart no_members i j = absurd i
    told_twice n k l d e f g kf lg is js apart (member m x ms) (inl i) (inl j) = absurd (apart (sym i.0 ∙ j.0))
    told_twice n k l d e f g kf lg is js apart (member m x ms) (inl i) (inr j) =
        let own : told_at n (member m x ms) ≡ said shape allow x (field f) ∷ told_at n ms = rw (i.0, kf, is) refl in
        subst IsTwo (sym own) (two_with (said shape allow x (field f)) (said shape allow e (field g)) (told_at n ms) (told_in l e g n lg js ms j))
    told_twice n k l d e f g kf lg is js apart (member m x ms) (inr i) (inl j) =
        let own : told_at n (member m x ms) ≡ said shape allow x (field g) ∷ told_at n ms = rw (j.0, lg, js) refl in
        subst IsTwo (sym own) (two_with (said shape allow x (field g)) (said shape allow d (field f)) (told_at n ms) (told_in k d f n kf is ms i))
    told_twice n k l d e f g kf lg is js apart (member m x ms) (inr i) (inr j) =
        told_two (field_named m fs) n (record { key = m; says = said shape allow x }) (told_at n ms) (told_twice n k l d e f g kf lg is js apart ms i j)

    -- what a message is read from
    record IsRead (ms : Members) : Type 0 where
      found : Fields
      known : all_known skips fs (entries_said shape allow ms) ≡ true
      gathers : gathered (λ n. only (told_at n ms)) fs ≡ Some found
      single : has_one_member fs found ≡ true

    read_from : (ms : Members) (c : Content) → message_of skips fs (entries_said shape allow ms) ≡ Some c → IsRead ms
    read_from ms c h =
        let known = if_some (all_known skips fs (entries_said shape allow ms)) (option_and_then (if_oneofs fs) (gathered (λ n. only (told_at n ms)) fs)) c h in
        let found = from_then (if_oneofs fs) (gathered (λ n. only (told_at n ms)) fs) c known.1 in
        let made = if_some (has_one_member fs found.0) (Some (content.content found.0 [])) c found.2 in
        record { found = found.0; known = known.0; gathers = found.1; single = made.0 }

    same_number : (n : ℕ) → (n == n) ≡ true
    same_number n = grind (arith, nat_tests)

    module _ (ms : Members) (r : IsRead ms) where
      -- what is told for a field that a key names
      told_is : (k : List ℕ) (f : FieldShape) → field_named k fs ≡ Some f → only (told_at f.number ms) ≡ Some (get f.number r.found)
      told_is k f named =
          gathered_at (λ n. only (told_at n ms)) fs r.found r.gathers f.number (number_of_field f.number fs f (named_number fs k f proper named)).1

      says_is : (k : List ℕ) (d : Data) (f : FieldShape) → field_named k fs ≡ Some f → In k d ms → said shape allow d (field f) ≡ Some (get f.number r.found)
      says_is k d f named i =
          has_only (said shape allow d (field f)) (told_at f.number ms) (get f.number r.found) (told_in k d f f.number named (same_number f.number) ms i)
          (told_is k f named)

      no_second_key : (k : List ℕ) (d : Data) → In k d ms → is_second_key fs ms k ≡ true → ⊥
      no_second_key k d i h = at (lesser_in (λ m. is_same_field (field_named m.0 fs) (field_named k fs)) k ms h)
        where
          deep : (it : Lesser (λ m. is_same_field (field_named m.0 fs) (field_named k fs)) k ms) (o p : Option FieldShape)
              → field_named it.key fs ≡ o → field_named k fs ≡ p → is_same_field o p ≡ true → ⊥
          deep it None p e q s = absurd (cc)
          deep it (Some g) None e q s = absurd (cc)
          deep it (Some g) (Some f) e q s =
              let two = told_twice f.number it.key k it.tree d g f e q s (same_number f.number) (less_apart it.key k it.less) ms it.there i in
              let none : only (told_at f.number ms) ≡ None = two_fault (told_at f.number ms) two in
              let some : only (told_at f.number ms) ≡ Some (get f.number r.found) = told_is k f q in
              (let bad : None ≡ Some (get f.number r.found) = sym none ∙ some in cc)

          at : Lesser (λ m. is_same_field (field_named m.0 fs) (field_named k fs)) k ms → ⊥
          at it = deep it (field_named it.key fs) (field_named k fs) refl refl it.passes

      value_there : (n : ℕ) (o : Reading) → o ≡ Some (get n r.found) → is_value o ≡ true → has n r.found ≡ true
      value_there n o e v = has-get n r.found ∙ at (get n r.found) (ap is_value (sym e) ∙ v)
        where
          at : (x : Option Val) → is_value (Some x) ≡ true → is_there x ≡ true
          at None q = absurd (cc)
          at (Some y) q = refl

      -- the field that a key names passes what all do
      named_passes : (q : FieldShape → Bool) (k : List ℕ) (f : FieldShape) → field_named k fs ≡ Some f → list_all q fs ≡ true → q f ≡ true
      named_passes q k f e a = named_from (q f ≡ true) k fs f e (λ p h. found_with p q fs f a h)

      no_second_member : (k : List ℕ) (d : Data) → In k d ms → (o : Option FieldShape) → field_named k fs ≡ o
          → is_second_member shape allow fs ms k o (Some d) ≡ true → ⊥
      no_second_member k d i None e h = cc
      no_second_member k d i (Some f) e h =
          at (both (has_value shape allow d f) _ h).0 (lesser_in (λ m. is_rival_with_value shape allow f m.1 (field_named m.0 fs)) k ms (both (has_value shape allow d f) _ h).1)
        where
          clash : (o h g : Bool) → o ≡ true → h ≡ true → g ≡ true → not (o && h && g) ≡ true → ⊥
          clash o h g a b c n = (let bad : not (o && h && g) ≡ false = rw (a, b, c) refl in cc)

          deep : (it : Lesser (λ m. is_rival_with_value shape allow f m.1 (field_named m.0 fs)) k ms) (q : Option FieldShape)
              → field_named it.key fs ≡ q → has_value shape allow d f ≡ true → is_rival_with_value shape allow f it.tree q ≡ true → ⊥
          deep it None p v s = cc
          deep it (Some g) p v s =
              let parts = both (is_other f g) (has_value shape allow it.tree g) s in
              let own : has f.number r.found ≡ true = value_there f.number (said shape allow d (field f)) (says_is k d f e i) v in
              let rival : has g.number r.found ≡ true =
              value_there g.number (said shape allow it.tree (field g)) (says_is it.key it.tree g p it.there) parts.1 in
              let row = named_passes (λ f. list_all (λ g. not (is_other f g && has f.number r.found && has g.number r.found)) fs) k f e r.single in
              let one_pair = named_passes (λ g. not (is_other f g && has f.number r.found && has g.number r.found)) it.key g p row in
              clash (is_other f g) (has f.number r.found) (has g.number r.found) parts.0 own rival one_pair

          at : has_value shape allow d f ≡ true → Lesser (λ m. is_rival_with_value shape allow f m.1 (field_named m.0 fs)) k ms → ⊥
          at v it = deep it (field_named it.key fs) refl v it.passes

      no_key_fault : (k : List ℕ) (d : Data) → get_member k ms ≡ Some d → (kind : JsonKind) → KeyBreaks shape allow (members skips fs ms) k kind → ⊥
      no_key_fault k d there fault.UnknownField h =
          let known = known_in k d ms r.known (got_in k d ms there) in
          let bad : true ≡ false = sym known ∙ ap (is_known_key skips) h.0 ∙ h.1 in
          (cc)
      no_key_fault k d there fault.DuplicateField h = no_second_key k d (got_in k d ms there) h
      no_key_fault k d there fault.OneofTwice h =
          no_second_member k d (got_in k d ms there) (field_named k fs) refl
          (ap (is_second_member shape allow fs ms k (field_named k fs)) (sym there) ∙ h)
      no_key_fault k d there _ h = absurd h

    pub members_clean : (ms : Members) (c : Content) → message_of skips fs (entries_said shape allow ms) ≡ Some c → (step : Step) (place : List Step) (kind : JsonKind)
        → IsBroken (members skips fs ms) step place kind → ⊥
    members_clean ms c h (Index i) place kind (inl b) = b
    members_clean ms c h (Index i) place kind (inr b) = b
    members_clean ms c h (Key k) place kind (inl b) =
        let d = there_is (get_member k ms) b.1 in
        no_key_fault ms (read_from ms c h) k d.0 d.1 kind b.2
    members_clean ms c h (Key k) place kind (inr b) = at (field_named k fs) refl (get_member k ms) refl b
      where
        at : (o : Option FieldShape) → field_named k fs ≡ o → (q : Option Data) → get_member k ms ≡ q
            → SomeWith (option_and_then (λ f. option_map (λ d. (d, field f)) q) o) IsNeverRead → ⊥
        at None e q p s = s
        at (Some f) e None p s = s
        at (Some f) e (Some d) p s =
            let r = read_from ms c h in
            s (get f.number r.found) (says_is ms r k d f e (got_in k d ms p))
