-- What accepted openings finished, and which names they marked.
use Rattle.std.proofs.Common.{◌≡◌, ◌+◌, ◌-◌, ◌≤◌, ◌∷◌, ◌++◌, ◌∙◌, [], ℕ, zero, suc, List, Bool, true, false, refl, sym, ap, subst, length, append_assoc}
use Rattle.std.proofs.Common.{arith}
use Rattle.std.specs.Prelude.{◌||◌, if◌then◌else◌, Option, Some, None, Contains}
use Rattle.std.specs.List.{list_any}
use Rattle.std.specs.Str.{bytes_eq}
use Rattle.std.proofs.lemmas.Bool.{false≢true}
use Rattle.std.proofs.lemmas.List.{length-append, length-map, map-append}
use Rattle.pbx_link_order_laws.proofs.Searched.{no_item}
use Rattle.protox_io.specs.FileNames.{path_equal}
use Rattle.protox_file_sources.specs.Told.{Lookup}
use Rattle.protox_compile_walk.specs.Walk.{Done, Shadowed, Visited, Finished, Missing, Faulted, is_done, visits}
use Rattle.protox_compile_walk.specs.Opening.{Ended, Accepted, NotIncluded, Refused, mark, path_in, is_opened, root_of}
use Rattle.protox_compile_walk.specs.Opening.{open_done, open_root, open_name, after_opening, closure}
use Rattle.protox_compile_walk.proofs.Right.{bytes_are}
use Rattle.protox_compile_walk.proofs.Fresh.{apart}
use Rattle.protox_compile_laws.proofs.Settled.{plain, plain_one, is_done_plain, path_plain, plain_marked, AllSettle, all_plain, all_joined}
use Rattle.protox_compile_laws.proofs.First.{by_test, done_more, IsClear, Grew, VisitGrew, visit_grew}

-- ---- files that differ in their marks at most

pub done_alike : (a b : List Done) → plain a ≡ plain b → (c : List ℕ) → is_done a c ≡ is_done b c
done_alike a b e c = sym (is_done_plain a c) ∙ ap (λ (l : List Done). is_done l c) e ∙ is_done_plain b c

pub path_alike : (a b : List Done) → plain a ≡ plain b → (c : List ℕ) → path_in c a ≡ path_in c b
path_alike a b e c = sym (path_plain c a) ∙ ap (λ (l : List Done). path_in c l) e ∙ path_plain c b

path_front : (now more : List Done) (c : List ℕ) → is_done now c ≡ true → path_in c (now ++ more) ≡ path_in c now
path_front [] more c h = absurd (false≢true h)
path_front (d ∷ ds) more c h = at (bytes_eq d.name c) h (path_front ds more c)
  where
    at : (b : Bool) → (b || is_done ds c) ≡ true → (is_done ds c ≡ true → path_in c (ds ++ more) ≡ path_in c ds)
        → (if b then d.path else path_in c (ds ++ more)) ≡ (if b then d.path else path_in c ds)
    at true k ih = refl
    at false k ih = ih k

none_opened : (lookups : List ℕ → Lookup) (before more : List Done) (x : List ℕ) → AllSettle lookups before more → is_opened x more ≡ false
none_opened lookups before [] x h = refl
none_opened lookups before (d ∷ ds) x h = at (bytes_eq d.name x) (none_opened lookups (before ++ d ∷ []) ds x h.1)
  where
    at : (b : Bool) → is_opened x ds ≡ false → (if b then d.opened else is_opened x ds) ≡ false
    at true k = h.0.imported
    at false k = k

opened_front : (now more : List Done) (x : List ℕ) → is_opened x more ≡ false → is_opened x (now ++ more) ≡ is_opened x now
opened_front [] more x h = h
opened_front (d ∷ ds) more x h = ap (λ b. if bytes_eq d.name x then d.opened else b) (opened_front ds more x h)

or_true : (a b : Bool) → b ≡ true → (a || b) ≡ true
or_true true b h = refl
or_true false b h = h

or_false : (a b : Bool) → b ≡ false → (a || b) ≡ a
or_false true b h = refl
or_false false b h = h

-- which name is marked by a mark
mark_opens : (name : List ℕ) (done : List Done) (x : List ℕ) → is_done done name ≡ true
    → is_opened x (mark name done) ≡ (is_opened x done || bytes_eq name x)
mark_opens name [] x h = absurd (false≢true h)
mark_opens name (d ∷ ds) x h = at (bytes_eq d.name name) refl h (mark_opens name ds x)
  where
    same : (c : Bool) → bytes_eq d.name x ≡ c → bytes_eq d.name name ≡ true
        → (if c then true else is_opened x ds) ≡ ((if c then d.opened else is_opened x ds) || bytes_eq name x)
    same true e k = sym (or_true d.opened (bytes_eq name x) (ap (λ n. bytes_eq n x) (sym (bytes_are d.name name k)) ∙ e))
    same false e k = sym (or_false (is_opened x ds) (bytes_eq name x) (ap (λ n. bytes_eq n x) (sym (bytes_are d.name name k)) ∙ e))

    other : (c : Bool) → bytes_eq d.name x ≡ c → bytes_eq d.name name ≡ false
        → is_opened x (mark name ds) ≡ (is_opened x ds || bytes_eq name x)
        → (if c then d.opened else is_opened x (mark name ds)) ≡ ((if c then d.opened else is_opened x ds) || bytes_eq name x)
    other true e k ih = sym (or_false d.opened (bytes_eq name x) (ap (bytes_eq name) (sym (bytes_are d.name x e)) ∙ apart d.name name k))
    other false e k ih = ih

    at : (b : Bool) → bytes_eq d.name name ≡ b → (b || is_done ds name) ≡ true
        → (is_done ds name ≡ true → is_opened x (mark name ds) ≡ (is_opened x ds || bytes_eq name x))
        → is_opened x (if b then record d { opened = true } ∷ ds else d ∷ mark name ds) ≡ (is_opened x (d ∷ ds) || bytes_eq name x)
    at true e k ih = same (bytes_eq d.name x) refl e
    at false e k ih = other (bytes_eq d.name x) refl e (ih k)

-- ---- what was finished behind the files at the start

pub record First (lookups : List ℕ → Lookup) (limit : ℕ) (start now : List Done) : Type 0 where
  pub all : List Done
  pub is : plain now ≡ start ++ all
  pub settle : AllSettle lookups start all
  pub fits : 1 ≤ length all → length start + length all ≤ limit

-- what is finished stays, with its path
abbrev pub Keeps : List Done → List Done → Type 0
Keeps now next = (c : List ℕ) → is_done now c ≡ true → (is_done next c ≡ true) × (path_in c next ≡ path_in c now)

pub record Opened (lookups : List ℕ → Lookup) (limit : ℕ) (start now next : List Done) (name : List ℕ) (asked : Option (List ℕ)) : Type 0 where
  pub first : First lookups limit start next
  pub keeps : Keeps now next
  pub there : is_done next name ≡ true
  pub clear : IsClear asked (path_in name next)
  pub marks : (x : List ℕ) → is_opened x next ≡ (is_opened x now || bytes_eq name x)

abbrev EndsFirst : (List ℕ → Lookup) → ℕ → List Done → List Done → List ℕ → Option (List ℕ) → List Done × Ended → Type 0
EndsFirst lookups limit start now name asked (next, Accepted) = Opened lookups limit start now next name asked
EndsFirst lookups limit start now name asked (next, NotIncluded) = Unit {0}
EndsFirst lookups limit start now name asked (next, Refused fault) = Unit {0}

module _ (lookups : List ℕ → Lookup) (limit : ℕ) (start : List Done) where
  marked : (now middle : List Done) (name : List ℕ) (asked : Option (List ℕ)) → First lookups limit start middle → Keeps now middle
      → is_done middle name ≡ true → IsClear asked (path_in name middle) → ((x : List ℕ) → is_opened x middle ≡ is_opened x now)
      → Opened lookups limit start now (mark name middle) name asked
  marked now middle name asked f k there clear same =
      let e : plain (mark name middle) ≡ plain middle = plain_marked name middle in
      record {
        first = record { all = f.all; is = e ∙ f.is; settle = f.settle; fits = f.fits };
        keeps = λ c h. (done_alike (mark name middle) middle e c ∙ (k c h).0, path_alike (mark name middle) middle e c ∙ (k c h).1);
        there = done_alike (mark name middle) middle e name ∙ there;
        clear = subst (IsClear asked) (sym (path_alike (mark name middle) middle e name)) clear;
        marks = λ x. mark_opens name middle x there ∙ ap (λ b. b || bytes_eq name x) (same x);
      }

  grown : (now next : List Done) → First lookups limit start now → Grew lookups limit [] now next → length next + 0 ≤ limit
      → First lookups limit start next
  grown now next f g few = record { all = all; is = is; settle = settle; fits = λ some. fits }
    where
      all : List Done
      all = f.all ++ plain g.more

      is : plain next ≡ start ++ all
      is =
          ap (λ (l : List Done). plain l) g.is ∙ map-append plain_one now g.more ∙ ap (λ (l : List Done). l ++ plain g.more) f.is
          ∙ append_assoc start f.all (plain g.more)

      settle : AllSettle lookups start all
      settle =
          all_joined lookups start f.all (plain g.more) f.settle
          (subst (λ (l : List Done). AllSettle lookups l (plain g.more)) f.is (all_plain lookups now g.more g.settle))

      fits : length start + length all ≤ limit
      fits =
          let long : length next ≡ length start + length all =
          sym (length-map next plain_one) ∙ ap (λ (l : List Done). length l) is ∙ length-append start all in
          omega arith

  grew_keeps : (now next : List Done) → Grew lookups limit [] now next → Keeps now next
  grew_keeps now next g c h = (
    ap (λ (l : List Done). is_done l c) g.is ∙ done_more now g.more c h,
    ap (λ (l : List Done). path_in c l) g.is ∙ path_front now g.more c h,
  )

  grew_opened : (now next : List Done) → Grew lookups limit [] now next → (x : List ℕ) → is_opened x next ≡ is_opened x now
  grew_opened now next g x =
      ap (λ (l : List Done). is_opened x l) g.is ∙ opened_front now g.more x (none_opened lookups now g.more x g.settle)

  done_first : (now : List Done) (name : List ℕ) (asked known : Option (List ℕ)) → First lookups limit start now → is_done now name ≡ true
      → path_in name now ≡ known → EndsFirst lookups limit start now name asked (open_done name asked known now)
  done_first now name None known f there e = marked now now name None f (λ c h. (h, refl)) there tt (λ x. refl)
  done_first now name (Some asked) None f there e =
      marked now now name (Some asked) f (λ c h. (h, refl)) there (subst (IsClear (Some asked)) (sym e) tt) (λ x. refl)
  done_first now name (Some asked) (Some path) f there e =
      by_test (EndsFirst lookups limit start now name (Some asked)) (path_equal path asked) (mark name now, Accepted)
      (now, Refused (Shadowed name asked path))
      (λ same. marked now now name (Some asked) f (λ c h. (h, refl)) there (subst (IsClear (Some asked)) (sym e) same) (λ x. refl)) (λ other. tt)

  root_first : (now : List Done) (name : List ℕ) (asked : Option (List ℕ)) (v : List Done × Visited) → First lookups limit start now
      → VisitGrew lookups limit [] asked now name v → EndsFirst lookups limit start now name asked (open_root name v)
  root_first now name asked (next, Finished) f h =
      marked now next name asked (grown now next f h.0 h.2) (grew_keeps now next h.0) h.1 h.3 (grew_opened now next h.0)
  root_first now name asked (next, Missing) f h = tt
  root_first now name asked (next, Faulted fault) f h = tt

  name_first : (now : List Done) (name : List ℕ) (asked : Option (List ℕ)) → First lookups limit start now
      → EndsFirst lookups limit start now name asked (open_name lookups limit (Some (name, asked)) now)
  name_first now name asked f =
      by_test (EndsFirst lookups limit start now name asked) (is_done now name) (open_done name asked (path_in name now) now)
      (open_root name (visits lookups limit [] asked name now)) (λ there. done_first now name asked (path_in name now) f there refl)
      (λ new. root_first now name asked _ f (visit_grew lookups limit (limit - 0) [] asked name now refl new))

-- ---- paths one after another

-- the path asks for a name that is finished, and for no other path than its own
pub record IsOpen (resolves : List ℕ → Option (List ℕ)) (next : List Done) (path : List ℕ) : Type 0 where
  pub name : List ℕ
  pub asked : Option (List ℕ)
  pub root_is : root_of resolves path ≡ Some (name, asked)
  pub there : is_done next name ≡ true
  pub clear : IsClear asked (path_in name next)

abbrev asks_by : Option (List ℕ × Option (List ℕ)) → List ℕ → Bool
asks_by None x = false
asks_by (Some root) x = bytes_eq root.0 x

-- the path asks for this name
abbrev pub asks : (List ℕ → Option (List ℕ)) → List ℕ → List ℕ → Bool
asks resolves x path = asks_by (root_of resolves path) x

pub record Closed (lookups : List ℕ → Lookup) (resolves : List ℕ → Option (List ℕ)) (limit : ℕ) (start : List Done) (paths : List (List ℕ))
    (now next : List Done) : Type 0 where
  pub first : First lookups limit start next
  pub keeps : Keeps now next
  pub opens : (path : List ℕ) → Contains paths path → IsOpen resolves next path
  pub marks : (x : List ℕ) → is_opened x next ≡ (is_opened x now || list_any (asks resolves x) paths)

abbrev ClosesFirst : (List ℕ → Lookup) → (List ℕ → Option (List ℕ)) → ℕ → List Done → List (List ℕ) → List Done → List Done × Ended → Type 0
ClosesFirst lookups resolves limit start paths now (next, Accepted) = Closed lookups resolves limit start paths now next
ClosesFirst lookups resolves limit start paths now (next, NotIncluded) = Unit {0}
ClosesFirst lookups resolves limit start paths now (next, Refused fault) = Unit {0}

or_assoc : (a b c : Bool) → ((a || b) || c) ≡ (a || (b || c))
or_assoc true b c = refl
or_assoc false b c = refl

module _ (lookups : List ℕ → Lookup) (resolves : List ℕ → Option (List ℕ)) (limit : ℕ) (start : List Done) where
  one_more : (path : List ℕ) (paths : List (List ℕ)) (now middle next : List Done) (name : List ℕ) (asked : Option (List ℕ))
      → root_of resolves path ≡ Some (name, asked) → Opened lookups limit start now middle name asked
      → Closed lookups resolves limit start paths middle next → Closed lookups resolves limit start (path ∷ paths) now next
  one_more path paths now middle next name asked root o c = record {
    first = c.first;
    keeps = λ n h. ((c.keeps n (o.keeps n h).0).0, (c.keeps n (o.keeps n h).0).1 ∙ (o.keeps n h).1);
    opens = opens;
    marks = marks;
  }
    where
      own : IsOpen resolves next path
      own = record {
        name = name;
        asked = asked;
        root_is = root;
        there = (c.keeps name o.there).0;
        clear = subst (IsClear asked) (sym (c.keeps name o.there).1) o.clear;
      }

      opens : (p : List ℕ) → Contains (path ∷ paths) p → IsOpen resolves next p
      opens p (zero, lt, same) = subst (IsOpen resolves next) same own
      opens p (suc i, lt, same) = c.opens p (i, omega (arith, lt), same)

      marks : (x : List ℕ) → is_opened x next ≡ (is_opened x now || list_any (asks resolves x) (path ∷ paths))
      marks x =
          c.marks x ∙ ap (λ b. b || list_any (asks resolves x) paths) (o.marks x)
          ∙ or_assoc (is_opened x now) (bytes_eq name x) (list_any (asks resolves x) paths)
          ∙ ap (λ r. is_opened x now || (asks_by r x || list_any (asks resolves x) paths)) (sym root)

  then_closed : (path : List ℕ) (paths : List (List ℕ)) (now middle : List Done) (name : List ℕ) (asked : Option (List ℕ)) (r : List Done × Ended)
      → root_of resolves path ≡ Some (name, asked) → Opened lookups limit start now middle name asked
      → ClosesFirst lookups resolves limit start paths middle r → ClosesFirst lookups resolves limit start (path ∷ paths) now r
  then_closed path paths now middle name asked (next, Accepted) root o c = one_more path paths now middle next name asked root o c
  then_closed path paths now middle name asked (next, NotIncluded) root o c = tt
  then_closed path paths now middle name asked (next, Refused fault) root o c = tt

  after_closed : (path : List ℕ) (paths : List (List ℕ)) (now : List Done) (name : List ℕ) (asked : Option (List ℕ)) (o : List Done × Ended)
      → root_of resolves path ≡ Some (name, asked) → EndsFirst lookups limit start now name asked o
      → ((d : List Done) → First lookups limit start d → ClosesFirst lookups resolves limit start paths d (closure lookups resolves limit paths d))
      → ClosesFirst lookups resolves limit start (path ∷ paths) now (after_opening o (closure lookups resolves limit paths))
  after_closed path paths now name asked (d, Accepted) root o k = then_closed path paths now d name asked _ root o (k d o.first)
  after_closed path paths now name asked (d, NotIncluded) root o k = tt
  after_closed path paths now name asked (d, Refused fault) root o k = tt

  path_closed : (path : List ℕ) (paths : List (List ℕ)) (now : List Done) (root : Option (List ℕ × Option (List ℕ))) → root_of resolves path ≡ root
      → First lookups limit start now
      → ((d : List Done) → First lookups limit start d → ClosesFirst lookups resolves limit start paths d (closure lookups resolves limit paths d))
      → ClosesFirst lookups resolves limit start (path ∷ paths) now (after_opening (open_name lookups limit root now) (closure lookups resolves limit paths))
  path_closed path paths now None e f k = tt
  path_closed path paths now (Some root) e f k =
      after_closed path paths now root.0 root.1 _ e (name_first lookups limit start now root.0 root.1 f) k

  pub closure_first : (paths : List (List ℕ)) (now : List Done) → First lookups limit start now
      → ClosesFirst lookups resolves limit start paths now (closure lookups resolves limit paths now)
  closure_first [] now f = record {
    first = f;
    keeps = λ c h. (h, refl);
    opens = λ p c. absurd (no_item p c);
    marks = λ x. sym (or_false (is_opened x now) false refl);
  }
  closure_first (path ∷ paths) now f = path_closed path paths now (root_of resolves path) refl f (closure_first paths)

  pub accepted_first : (paths : List (List ℕ)) (now later : List Done) → First lookups limit start now
      → closure lookups resolves limit paths now ≡ (later, Accepted) → Closed lookups resolves limit start paths now later
  accepted_first paths now later f e =
      subst (ClosesFirst lookups resolves limit start paths now) e (closure_first paths now f)
