-- The members of oneofs that may have values: what a message holds and which they are after one is set.
use Rattle.std.proofs.Common.{◌≡◌, ℕ, suc, Bool, true, false, if◌then◌else◌, nat_lt, ◌&&◌, not, List, [], ◌∷◌, Option, Some, None, refl, sym, ap, ◌∙◌, subst, arith}
use Rattle.std.specs.Prelude.{◌==◌, is_some, Contains, Result, Ok, Err, OnOk, OnErr}
use Rattle.std.proofs.lemmas.Bool.{eqb-true}
use Rattle.std.proofs.lemmas.Bool.Decides.{nat_tests}
use Rattle.pbx_content.specs.declared.shape.FieldShape.{FieldShape}
use Rattle.pbx_content.specs.declared.shape.Shape.{Shape}
use Rattle.pbx_content.specs.Content.{Content, content, Fields, Val, fields, get, has, without, with_fields, with_option, IsAscending}
use Rattle.pbx_content.specs.Records.{any}
use Rattle.pbx_content.specs.Shape.{field_of, same_oneof, is_other}
use Rattle.pbx_content.proofs.OntoFields.{AreAbove}
use Rattle.pbx_content_map.specs.Entries.{value_under, with_entry}
use Rattle.pbx_message_laws.specs.Fields.{cleared_others, is_number_of_other, value_kept, set_value}
use Rattle.pbx_message_laws.proofs.Changes.{get-without, ascending-without, get-with_option, ascending-with_option}
use Rattle.pbx_message_laws.proofs.Changed.{ascending-cleared, get-cleared, has_is_get, set_is}
use Rattle.pbx_message_laws.proofs.Members.{any_at, found, listed}
use Rattle.pbx_message_dynamic.proofs.Extensional.{same_fields}
use Rattle.pbx_message_dynamic.specs.Members.{AreMembers, AreMembersIf, without_former, IsNoted}

some_is : {A : Type 0} (a b : A) → Some a ≡ Some b → a ≡ b
some_is a b e = cc

-- ---- pairs under numbers

pub under_with : (p o n : ℕ) (es : List (ℕ × ℕ)) → value_under p (with_entry o n es) ≡ (if p == o then Some n else value_under p es)
under_with p o n [] = refl
under_with p o n (e ∷ es) = at (nat_lt o e.0) refl (nat_lt e.0 o) refl (p == o) refl (p == e.0) refl (under_with p o n es)
  where
    at : (a : Bool) → nat_lt o e.0 ≡ a → (b : Bool) → nat_lt e.0 o ≡ b → (c : Bool) → (p == o) ≡ c → (d : Bool) → (p == e.0) ≡ d
        → value_under p (with_entry o n es) ≡ (if c then Some n else value_under p es)
        → value_under p (if a then (o, n) ∷ e ∷ es else (if b then e ∷ with_entry o n es else (o, n) ∷ es))
        ≡ (if c then Some n else (if d then Some e.1 else value_under p es))
    at true x b y c z d w ih = rw (z, w) refl
    at false x true y true z true w ih = absurd (let same : o ≡ e.0 = grind (arith, nat_tests) in let bad : nat_lt e.0 o ≡ false = grind (arith, nat_tests) in let no : true ≡ false = sym y ∙ bad in cc)
    at false x true y true z false w ih = rw w ih
    at false x true y false z true w ih = rw w refl
    at false x true y false z false w ih = rw w ih
    at false x false y true z d w ih = rw z refl
    at false x false y false z true w ih = absurd (let same : (p == o) ≡ true = grind (arith, nat_tests) in let no : true ≡ false = sym same ∙ z in cc)
    at false x false y false z false w ih = rw z refl

-- ---- other members

-- a field of another number in the same oneof is another member
other_there : (gs : List FieldShape) (f g : FieldShape) (o n : ℕ) → field_of n gs ≡ Some g → f.oneof ≡ Some o → g.oneof ≡ Some o → (n == f.number) ≡ false
    → is_number_of_other f gs n ≡ true
other_there gs f g o n e a b apart =
    let own = found n gs g e in
    let other : (is_other f g && n == g.number) ≡ true = at g.number (sym own.is) in
    any_at (λ (h : FieldShape). is_other f h && n == h.number) gs g own.within other
  where
    at : (m : ℕ) → n ≡ m → ((same_oneof f.oneof g.oneof && not (f.number == m)) && n == m) ≡ true
    at m same =
        let first : (o == o) ≡ true = grind (arith, nat_tests) in
        let second : (f.number == m) ≡ false = grind (arith, nat_tests) in
        let third : (n == m) ≡ true = grind (arith, nat_tests) in
        rw (a, b, first, second, third) refl

-- a field that some test finds
some_at : {X : Type 0} (p : X → Bool) (xs : List X) → any p xs ≡ true → (x : X) × Contains xs x × (p x ≡ true)
some_at p [] e = absurd cc
some_at {X} p (x ∷ xs) e = at (p x) refl e (some_at p xs)
  where
    at : (b : Bool) → p x ≡ b → (if b then true else any p xs) ≡ true → (any p xs ≡ true → (y : X) × Contains xs y × (p y ≡ true))
        → (y : X) × Contains (x ∷ xs) y × (p y ≡ true)
    at true d e ih = (x, (0, omega arith, refl), d)
    at false d e ih = let more = ih e in (more.0, let c = more.1 in (suc c.0, omega (arith, c.1), c.2), more.2)

-- another member of the oneof of f is a field of its number in the oneof
record IsThere (gs : List FieldShape) (o n : ℕ) : Type 0 where
  pub field : FieldShape
  pub own : field_of n gs ≡ Some field
  pub oneof : field.oneof ≡ Some o

member_there : (gs : List FieldShape) (f : FieldShape) (o n : ℕ) → AreAbove 0 gs → f.oneof ≡ Some o → is_number_of_other f gs n ≡ true → IsThere gs o n
member_there gs f o n above a e =
    let some = some_at (λ (g : FieldShape). is_other f g && n == g.number) gs e in
    let g = some.0 in
    let parts = both (is_other f g) (n == g.number) some.2 in
    record {
      field = g;
      own = ap (λ (k : ℕ). field_of k gs) (eqb-true n g.number parts.1) ∙ listed 0 gs g above some.1;
      oneof = same g.oneof (sym (ap (λ (p : Option ℕ). same_oneof p g.oneof) a) ∙ first (same_oneof f.oneof g.oneof) (not (f.number == g.number)) parts.0);
    }
  where
    both : (a b : Bool) → (a && b) ≡ true → (a ≡ true) × (b ≡ true)
    both true true e = (refl, refl)
    both true false e = absurd cc
    both false b e = absurd cc

    first : (a b : Bool) → (a && b) ≡ true → a ≡ true
    first a b e = (both a b e).0

    same : (p : Option ℕ) → same_oneof (Some o) p ≡ true → p ≡ Some o
    same None e = absurd cc
    same (Some m) e = ap (λ (k : ℕ). Some k) (sym (eqb-true o m e))

-- ---- the member that had a value

abbrev is_former : Option ℕ → ℕ → ℕ → Bool
is_former None n k = false
is_former (Some m) n k = not (m == n) && k == m

get-former : (r : Option ℕ) (n k : ℕ) (fs : Fields) → IsAscending fs → get k (without_former r n fs) ≡ (if is_former r n k then None else get k fs)
get-former None n k fs o = refl
get-former (Some m) n k fs o = at (m == n)
  where
    at : (b : Bool) → get k (if b then fs else without m fs) ≡ (if (not b && k == m) then None else get k fs)
    at true = refl
    at false = get-without k m fs o

ascending-former : (r : Option ℕ) (n : ℕ) (fs : Fields) → IsAscending fs → IsAscending (without_former r n fs)
ascending-former None n fs o = o
ascending-former (Some m) n fs o = at (m == n)
  where
    at : (b : Bool) → IsAscending (if b then fs else without m fs)
    at true = o
    at false = ascending-without m fs o

-- what has no value
none_there : (o : Option Val) → (is_some o ≡ true → ⊥) → o ≡ None
none_there None not_some = refl
none_there (Some v) not_some = absurd (not_some refl)

module _ (gs : List FieldShape) (f : FieldShape) (o : ℕ) (ms : List (ℕ × ℕ)) (fs : Fields) (above : AreAbove 0 gs) (ascends : IsAscending fs)
    (of : f.oneof ≡ Some o) (known : AreMembers gs fs ms) where
  -- the one that is taken away is another member
  former_other : (k : ℕ) → (k == f.number) ≡ false → is_former (value_under o ms) f.number k ≡ true → is_number_of_other f gs k ≡ true
  former_other k apart e = at (value_under o ms) refl e
    where
      at : (r : Option ℕ) → value_under o ms ≡ r → is_former r f.number k ≡ true → is_number_of_other f gs k ≡ true
      at None d e = absurd cc
      at (Some m) d e =
          let same : k ≡ m = eqb-true k m (second (not (m == f.number)) (k == m) e) in
          let own = known.members o k (d ∙ ap (λ (i : ℕ). Some i) (sym same)) in
          other_there gs f own.0 o k own.1 of own.2 apart
        where
          second : (a b : Bool) → (a && b) ≡ true → b ≡ true
          second true b e = e
          second false b e = absurd cc

  -- no other one has a value
  other_none : (k : ℕ) → (k == f.number) ≡ false → is_former (value_under o ms) f.number k ≡ false → is_number_of_other f gs k ≡ true → get k fs ≡ None
  other_none k apart e other = none_there (get k fs) (λ some.
      let there = member_there gs f o k above of other in
      let under : value_under o ms ≡ Some k = known.each o k there.field (has_is_get k fs ∙ some) there.own there.oneof in
      let here : (k == k) ≡ true = grind (arith, nat_tests) in
      let is : is_former (Some k) f.number k ≡ true = rw (apart, here) refl in
      let bad : true ≡ false = sym is ∙ ap (λ (r : Option ℕ). is_former r f.number k) (sym under) ∙ e in
      cc)

  pub one_cleared : (v : Option Val) → without_former (value_under o ms) f.number (with_option f.number v fs) ≡ with_option f.number v (cleared_others f gs fs)
  one_cleared v =
      let r = value_under o ms in
      let put = with_option f.number v fs in
      let put_order = ascending-with_option f.number v fs ascends in
      let cleared_order = ascending-cleared f gs fs ascends in
      same_fields _ _ (ascending-former r f.number put put_order) (ascending-with_option f.number v (cleared_others f gs fs) cleared_order)
      (λ k. get-former r f.number k put put_order
      ∙ ap (λ (x : Option Val). if is_former r f.number k then None else x) (get-with_option k f.number v fs ascends)
      ∙ turn k (k == f.number) refl (is_former r f.number k) refl (is_number_of_other f gs k) refl
      ∙ sym (get-with_option k f.number v (cleared_others f gs fs) cleared_order
      ∙ ap (λ (x : Option Val). if k == f.number then v else x) (get-cleared f gs k fs ascends)))
    where
      own : (k : ℕ) → (k == f.number) ≡ true → (s : Option ℕ) → is_former s f.number k ≡ false
      own k same None = refl
      own k same (Some m) = grind (arith, nat_tests)

      turn : (k : ℕ) (x : Bool) → (k == f.number) ≡ x → (y : Bool) → is_former (value_under o ms) f.number k ≡ y → (z : Bool) → is_number_of_other f gs k ≡ z
          → (if is_former (value_under o ms) f.number k then None else (if k == f.number then v else get k fs))
          ≡ (if k == f.number then v else (if is_number_of_other f gs k then None else get k fs))
      turn k true d y e z g = rw (d, own k d (value_under o ms)) refl
      turn k false d true e true g = rw (d, e, g) refl
      turn k false d true e false g = absurd (let bad : true ≡ false = sym (former_other k d e) ∙ g in cc)
      turn k false d false e true g = rw (d, e, g) (other_none k d e g)
      turn k false d false e false g = rw (d, e, g) refl

-- without a oneof no other member is there
no_others : (f : FieldShape) (gs : List FieldShape) (fs : Fields) → f.oneof ≡ None → cleared_others f gs fs ≡ fs
no_others f [] fs e = refl
no_others f (g ∷ gs) fs e =
    ap (λ (b : Bool). cleared_others f gs (if b then without g.number fs else fs)) (ap (λ (o : Option ℕ). same_oneof o g.oneof && not (f.number == g.number)) e)
    ∙ no_others f gs fs e

-- ---- what is known afterwards

-- fields that have values now and had them before
pub fewer_known : (gs : List FieldShape) (fs new : Fields) (ms : Option (List (ℕ × ℕ))) → ((n : ℕ) → has n new ≡ true → has n fs ≡ true) → AreMembersIf gs fs ms
    → AreMembersIf gs new ms
fewer_known gs fs new None before known = tt
fewer_known gs fs new (Some ms) before known = record { members = known.members; each = λ o n f h own of. known.each o n f (before n h) own of }

had : (n m : ℕ) (fs : Fields) → IsAscending fs → has n (without m fs) ≡ true → has n fs ≡ true
had n m fs h e =
    has_is_get n fs ∙ at (n == m) (sym (ap is_some (get-without n m fs h)) ∙ sym (has_is_get n (without m fs)) ∙ e)
  where
    at : (b : Bool) → is_some (if b then None else get n fs) ≡ true → is_some (get n fs) ≡ true
    at true e = absurd cc
    at false e = e

-- a field is cleared
pub cleared_known : (gs : List FieldShape) (n : ℕ) (c : Content) (ms : Option (List (ℕ × ℕ))) → IsAscending (fields c) → AreMembersIf gs (fields c) ms
    → AreMembersIf gs (fields (with_fields c (without n (fields c)))) ms
cleared_known gs n (content fs ks) ms o known = fewer_known gs fs (without n fs) ms (λ m e. had m n fs o e) known

-- what has a value after f is set
remains : (shape : Shape) (gs : List FieldShape) (f : FieldShape) (v : Val) (c : Content) (n : ℕ) → IsAscending (fields c)
    → has n (fields (set_value shape gs f v c)) ≡ true → (n == f.number) ≡ false → (is_number_of_other f gs n ≡ false) × (has n (fields c) ≡ true)
remains shape gs f v c n ascends e apart = at (is_number_of_other f gs n) refl (sym (ap is_some (set_is shape gs f v c n ascends)) ∙ sym (has_is_get n _) ∙ e)
  where
    at : (b : Bool) → is_number_of_other f gs n ≡ b → is_some (if n == f.number then value_kept shape f v else (if b then None else get n (fields c))) ≡ true
        → (is_number_of_other f gs n ≡ false) × (has n (fields c) ≡ true)
    at true d s = absurd (let bad = rw apart at s in cc)
    at false d s = (d, has_is_get n (fields c) ∙ rw apart at s)

-- a member of a oneof is set and noted
pub set_known : (shape : Shape) (gs : List FieldShape) (f : FieldShape) (v : Val) (c : Content) (o : ℕ) (ms : List (ℕ × ℕ)) (new : Option (List (ℕ × ℕ)))
    → IsAscending (fields c) → field_of f.number gs ≡ Some f → f.oneof ≡ Some o → AreMembers gs (fields c) ms → IsNoted o f.number ms new
    → AreMembersIf gs (fields (set_value shape gs f v c)) new
set_known shape gs f v c o ms None ascends own of known is = tt
set_known shape gs f v c o ms (Some new) ascends own of known is =
    subst (λ (ns : List (ℕ × ℕ)). AreMembers gs (fields (set_value shape gs f v c)) ns) (sym is) (record {
      members = λ p n e. noted p n (p == o) refl (sym (under_with p o f.number ms) ∙ e);
      each = λ p n g h there of_g. under_with p o f.number ms ∙ under p n g h there of_g (p == o) refl (n == f.number) refl;
    })
  where
    noted : (p n : ℕ) (b : Bool) → (p == o) ≡ b → (if b then Some f.number else value_under p ms) ≡ Some n
        → (g : FieldShape) × (field_of n gs ≡ Some g) × (g.oneof ≡ Some p)
    noted p n true d e =
        let number : f.number ≡ n = some_is f.number n e in
        (f, ap (λ (k : ℕ). field_of k gs) (sym number) ∙ own, of ∙ ap (λ (k : ℕ). Some k) (sym (eqb-true p o d)))
    noted p n false d e = known.members p n e

    under : (p n : ℕ) (g : FieldShape) → has n (fields (set_value shape gs f v c)) ≡ true → field_of n gs ≡ Some g → g.oneof ≡ Some p
        → (a : Bool) → (p == o) ≡ a → (b : Bool) → (n == f.number) ≡ b → (if a then Some f.number else value_under p ms) ≡ Some n
    under p n g h there of_g true d true e = ap (λ (k : ℕ). Some k) (sym (eqb-true n f.number e))
    under p n g h there of_g true d false e =
        let kept = remains shape gs f v c n ascends h e in
        let other = other_there gs f g o n there of (of_g ∙ ap (λ (k : ℕ). Some k) (eqb-true p o d)) e in
        absurd (let bad : true ≡ false = sym other ∙ kept.0 in cc)
    under p n g h there of_g false d true e =
        let same : g ≡ f = some_is g f (sym there ∙ ap (λ (k : ℕ). field_of k gs) (eqb-true n f.number e) ∙ own) in
        let one : p ≡ o = some_is p o (sym of_g ∙ ap (λ (x : FieldShape). x.oneof) same ∙ of) in
        absurd (let here : (p == o) ≡ true = grind (arith, nat_tests) in let bad : true ≡ false = sym here ∙ d in cc)
    under p n g h there of_g false d false e = known.each p n g (remains shape gs f v c n ascends h e).1 there of_g

-- a field that is in no oneof is set
pub alone_known : (shape : Shape) (gs : List FieldShape) (f : FieldShape) (v : Val) (c : Content) (ms : Option (List (ℕ × ℕ))) → IsAscending (fields c)
    → field_of f.number gs ≡ Some f → f.oneof ≡ None → AreMembersIf gs (fields c) ms → AreMembersIf gs (fields (set_value shape gs f v c)) ms
alone_known shape gs f v c None ascends own of known = tt
alone_known shape gs f v c (Some ms) ascends own of known =
    record { members = known.members; each = λ o n g h there of_g. at o n g h there of_g (n == f.number) refl }
  where
    at : (o n : ℕ) (g : FieldShape) → has n (fields (set_value shape gs f v c)) ≡ true → field_of n gs ≡ Some g → g.oneof ≡ Some o
        → (b : Bool) → (n == f.number) ≡ b → value_under o ms ≡ Some n
    at o n g h there of_g true e =
        let same : g ≡ f = some_is g f (sym there ∙ ap (λ (k : ℕ). field_of k gs) (eqb-true n f.number e) ∙ own) in
        let bad : Some o ≡ None = sym of_g ∙ ap (λ (x : FieldShape). x.oneof) same ∙ of in
        absurd cc
    at o n g h there of_g false e = known.each o n g (remains shape gs f v c n ascends h e).1 there of_g

-- ---- in code

module _ {E : Type 0} (shape : Shape) (gs : List FieldShape) (f : FieldShape) (v : Val) (c new : Content) (ascends : IsAscending (fields c)) where
  pub member_put : (o : ℕ) (ms : List (ℕ × ℕ)) (r : Result (Unit {0}) E) → AreAbove 0 gs → f.oneof ≡ Some o → AreMembers gs (fields c) ms
      → OnOk r (new ≡ with_fields c (without_former (value_under o ms) f.number (with_option f.number (value_kept shape f v) (fields c))))
      → OnOk r (new ≡ set_value shape gs f v c)
  member_put o ms (Ok u) above of known is = is ∙ ap (with_fields c) (one_cleared gs f o ms (fields c) above ascends of known (value_kept shape f v))
  member_put o ms (Err e) above of known is = is

  pub alone_put : (r : Result (Unit {0}) E) → f.oneof ≡ None → OnOk r (new ≡ with_fields c (with_option f.number (value_kept shape f v) (fields c)))
      → OnOk r (new ≡ set_value shape gs f v c)
  alone_put (Ok u) none is = is ∙ ap (λ (fs : Fields). with_fields c (with_option f.number (value_kept shape f v) fs)) (sym (no_others f gs (fields c) none))
  alone_put (Err e) none is = is

  pub member_known : (o : ℕ) (ms : List (ℕ × ℕ)) (now : Option (List (ℕ × ℕ))) (r : Result (Unit {0}) E) → field_of f.number gs ≡ Some f → f.oneof ≡ Some o
      → AreMembers gs (fields c) ms → OnOk r (new ≡ set_value shape gs f v c) → OnOk r (IsNoted o f.number ms now) → OnErr r (new ≡ c) → OnErr r (now ≡ Some ms)
      → AreMembersIf gs (fields new) now
  member_known o ms now (Ok u) own of known is noted same left =
      subst (λ (d : Content). AreMembersIf gs (fields d) now) (sym is) (set_known shape gs f v c o ms now ascends own of known noted)
  member_known o ms now (Err e) own of known is noted same left =
      subst (λ (d : Content). AreMembersIf gs (fields d) now) (sym same) (subst (AreMembersIf gs (fields c)) (sym left) known)

  pub alone_known_on : (ms : Option (List (ℕ × ℕ))) (r : Result (Unit {0}) E) → field_of f.number gs ≡ Some f → f.oneof ≡ None → AreMembersIf gs (fields c) ms
      → OnOk r (new ≡ set_value shape gs f v c) → OnErr r (new ≡ c) → AreMembersIf gs (fields new) ms
  alone_known_on ms (Ok u) own of known is same =
      subst (λ (d : Content). AreMembersIf gs (fields d) ms) (sym is) (alone_known shape gs f v c ms ascends own of known)
  alone_known_on ms (Err e) own of known is same = subst (λ (d : Content). AreMembersIf gs (fields d) ms) (sym same) known
