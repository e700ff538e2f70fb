-- The order of paths, and lists of locations that ascend below one path.
use Rattle.std.proofs.Common.{◌≡◌, ℕ, ◌+◌, ◌<◌, ◌≤◌, ℤ, pos, List, [], ◌∷◌, ◌++◌, map, refl, sym, ◌∙◌, append_assoc, append-nil, arith, Option, Some, None, Less, Equal, int_cmp, lt-ltb}
use Rattle.std.proofs.lemmas.List.{map-append}
use Rattle.std.specs.List.{AllByRecursion}
use Rattle.std.specs.List.Sorted.{IsStrictlySortedBy}
use Rattle.std.specs.Cmp.Lexicographic.{slice_cmp}
use Rattle.std.specs.Cmp.{int_cmp_is}
use Rattle.pbx_parse_token.specs.declared.token.Span.{Span}
use Rattle.pbx_desc_records.specs.declared.source.Location.{Location}
use Rattle.pbx_parse_tree.specs.Tree.{Settings}
use Rattle.pbx_parse_locations.specs.Locations.{place, part, element, numbered, settings_part}
use Rattle.pbx_parse_locations.specs.Ascends.{Ascends}

-- ---- two paths

same : (x : ℤ) → int_cmp x x ≡ Equal
same x = sym (int_cmp_is x x Equal refl)

smaller : (m n : ℕ) → m < n → int_cmp (pos m) (pos n) ≡ Less
smaller m n h = rw (lt-ltb m n h)

-- what two paths begin with decides nothing
common : (p a b : List ℤ) → slice_cmp int_cmp (p ++ a) (p ++ b) ≡ slice_cmp int_cmp a b
common [] a b = refl
common (x ∷ p) a b = rw (same x) (common p a b)

-- a path is less than those that go on behind it
shorter : (p : List ℤ) (n : ℤ) (r : List ℤ) → slice_cmp int_cmp p (p ++ n ∷ r) ≡ Less
shorter [] n r = refl
shorter (x ∷ p) n r = rw (same x) (shorter p n r)

lesser : (p : List ℤ) (m n : ℕ) (r s : List ℤ) → m < n → slice_cmp int_cmp (p ++ pos m ∷ r) (p ++ pos n ∷ s) ≡ Less
lesser p m n r s h = common p (pos m ∷ r) (pos n ∷ s) ∙ (rw (smaller m n h))

-- ---- lists of paths

pub record Begins (p q : List ℤ) : Type 0 where
  pub rest : List ℤ
  pub is : q ≡ p ++ rest

-- the number behind p is at least n
pub record Continues (p : List ℤ) (n : ℕ) (q : List ℤ) : Type 0 where
  pub next : ℕ
  pub rest : List ℤ
  pub least : n ≤ next
  pub is : q ≡ p ++ pos next ∷ rest

all_join : {A : Type 0} (P : A → Type 0) (xs ys : List A) → AllByRecursion P xs → AllByRecursion P ys → AllByRecursion P (xs ++ ys)
all_join P [] ys h g = g
all_join P (x ∷ xs) ys h g = (h.0, all_join P xs ys h.1 g)

all_by : {A : Type 0} (P Q : A → Type 0) (xs : List A) → ((x : A) → P x → Q x) → AllByRecursion P xs → AllByRecursion Q xs
all_by P Q [] f h = h
all_by P Q (x ∷ xs) f h = (f x h.0, all_by P Q xs f h.1)

-- of one that goes on with n, and one that goes on with more
apart : (p : List ℤ) (n : ℕ) (a b : List ℤ) → Begins (p ++ pos n ∷ []) a → Continues p (n + 1) b → slice_cmp int_cmp a b ≡ Less
apart p n a b h g =
    let more : n < g.next = let k = g.least in omega arith in
    let is : a ≡ p ++ pos n ∷ h.rest = h.is ∙ append_assoc p (pos n ∷ []) h.rest in
    rw (is, g.is) (lesser p n g.next h.rest g.rest more)

abbrev Sorted : List (List ℤ) → Type 0
Sorted ps = IsStrictlySortedBy (slice_cmp int_cmp) ps

-- ascending lists, one behind the other
sorted_join : (p : List ℤ) (n : ℕ) (xs ys : List (List ℤ)) → Sorted xs → AllByRecursion (Begins (p ++ pos n ∷ [])) xs
    → Sorted ys → AllByRecursion (Continues p (n + 1)) ys → Sorted (xs ++ ys)
unfolding IsStrictlySortedBy
sorted_join p n [] ys a f b g = b
sorted_join p n (x ∷ xs) ys a f b g =
    let less = λ (y : List ℤ). slice_cmp int_cmp x y ≡ Less in
    (all_join less xs ys a.0 (all_by (Continues p (n + 1)) less ys (λ y h. apart p n x y f.0 h) g), sorted_join p n xs ys a.1 f.1 b g)

-- ---- lists of locations

abbrev pub paths : List Location → List (List ℤ)
paths ls = map (λ l. l.path) ls

-- they ascend, and the path of each begins with p
pub record At (p : List ℤ) (ls : List Location) : Type 0 where
  pub ascends : Ascends ls
  pub begins : AllByRecursion (Begins p) (paths ls)

-- they ascend, and the path of each goes on behind p with n or more
pub record From (p : List ℤ) (n : ℕ) (ls : List Location) : Type 0 where
  pub ascends : Ascends ls
  pub continues : AllByRecursion (Continues p n) (paths ls)

pub none_at : (p : List ℤ) → At p []
unfolding IsStrictlySortedBy
none_at p = record { ascends = tt; begins = tt }

pub none_from : (p : List ℤ) (n : ℕ) → From p n []
unfolding IsStrictlySortedBy
none_from p n = record { ascends = tt; continues = tt }

-- those of the field n alone
pub last_from : {p : List ℤ} {m : ℕ} (n : ℕ) {ls : List Location} → m ≤ n → At (p ++ pos n ∷ []) ls → From p m ls
last_from {p} {m} n {ls} h a = record {
  ascends = a.ascends;
  continues = all_by (Begins (p ++ pos n ∷ [])) (Continues p m) (paths ls)
      (λ q g. record { next = n; rest = g.rest; least = h; is = g.is ∙ append_assoc p (pos n ∷ []) g.rest }) a.begins;
}

pub less_from : {p : List ℤ} {m n : ℕ} {ls : List Location} → m ≤ n → From p n ls → From p m ls
less_from {p} {m} {n} {ls} h b = record {
  ascends = b.ascends;
  continues = all_by (Continues p n) (Continues p m) (paths ls)
      (λ q g. record { next = g.next; rest = g.rest; least = let k = g.least in omega arith; is = g.is }) b.continues;
}

-- those of the field n, and then those of later fields
pub join : {p : List ℤ} {m : ℕ} (n : ℕ) {xs ys : List Location} → m ≤ n → At (p ++ pos n ∷ []) xs → From p (n + 1) ys → From p m (xs ++ ys)
join {p} {m} n {xs} {ys} h a b =
    let both : paths (xs ++ ys) ≡ paths xs ++ paths ys = map-append (λ (l : Location). l.path) xs ys in
    let later : From p m ys = less_from (omega arith) b in
    let first : From p m xs = last_from n h a in
    record {
      ascends = rw both (sorted_join p n (paths xs) (paths ys) a.ascends a.begins b.ascends b.continues);
      continues = rw both (all_join (Continues p m) (paths xs) (paths ys) first.continues later.continues);
    }

begin : (p : List ℤ) (n : ℕ) (qs : List (List ℤ)) → AllByRecursion (Continues p n) qs → AllByRecursion (Begins p) qs
begin p n qs h = all_by (Continues p n) (Begins p) qs (λ q g. record { rest = pos g.next ∷ g.rest; is = g.is }) h

pub at : {p : List ℤ} {n : ℕ} {ls : List Location} → From p n ls → At p ls
at {p} {n} {ls} h = record { ascends = h.ascends; begins = begin p n (paths ls) h.continues }

-- what has the path, and then what it has
pub head : (p : List ℤ) (a b : Span) {ls : List Location} → From p 0 ls → At p (place p a b ∷ ls)
unfolding IsStrictlySortedBy
head p a b {ls} h = record {
  ascends = (
    all_by (Continues p 0) (λ q. slice_cmp int_cmp p q ≡ Less) (paths ls)
        (λ q g. rw (g.is) (shorter p (pos g.next) g.rest)) h.continues,
    h.ascends,
  );
  begins = (record { rest = []; is = sym (append-nil p) }, begin p 0 (paths ls) h.continues);
}

pub alone : (p : List ℤ) (n : ℕ) (a b : Span) → At (p ++ pos n ∷ []) (part p n a b ∷ [])
alone p n a b = head (p ++ pos n ∷ []) a b (none_from (p ++ pos n ∷ []) 0)

pub at_element : (p : List ℤ) (n i : ℕ) {ls : List Location} → At (element p n i) ls → At ((p ++ pos n ∷ []) ++ pos i ∷ []) ls
at_element p n i h = rw (append_assoc p (pos n ∷ []) (pos i ∷ [])) h

-- the elements of a repeated field, from this index on
elements_from : {A : Type 0} (one : ℕ → A → List Location) (p : List ℤ) (n : ℕ) → ((i : ℕ) (x : A) → At (element p n i) (one i x))
    → (i : ℕ) (xs : List A) → From (p ++ pos n ∷ []) i (numbered one i xs)
elements_from one p n h i [] = none_from (p ++ pos n ∷ []) i
elements_from one p n h i (x ∷ xs) = join i (omega arith) (at_element p n i (h i x)) (elements_from one p n h (i + 1) xs)

pub elements : {A : Type 0} (one : ℕ → A → List Location) (p : List ℤ) (n : ℕ) → ((i : ℕ) (x : A) → At (element p n i) (one i x))
    → (xs : List A) → At (p ++ pos n ∷ []) (numbered one 0 xs)
elements one p n h xs = at (elements_from one p n h 0 xs)

-- options, if there are any
pub settings_from : {p : List ℤ} {m : ℕ} (n : ℕ) (s : Option Settings) → m ≤ n → From p m (settings_part p n s)
settings_from {p} {m} n None h = none_from p m
settings_from {p} {m} n (Some s) h = join n h (alone p n s.open s.close) (none_from p (n + 1))
