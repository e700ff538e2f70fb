-- A list of members of which one has changed, and a member that speaks for its chain.
use Rattle.std.proofs.Common.{◌≡◌, ◌∙◌, ℕ, zero, suc, ◌+◌, ◌<◌, ◌||◌, ◌&&◌, inl, inr, List, [], ◌∷◌, ◌++◌, Bool, true, false}
use Rattle.std.proofs.Common.{IsTrue, IfErr, Some, None, Result, Ok, Err}
use Rattle.std.proofs.Common.{length, get_or, map, drop, refl, ap, sym, arith, add-one}
use Rattle.std.proofs.Math.ListN.{set}
use Rattle.std.proofs.lemmas.List.{length-map}
use Rattle.protox_io.specs.Count.{Count, Rose, Later}
use Rattle.protox_io.proofs.Counts.{rose_later}
use Rattle.protox_file_error.specs.declared.error.ErrorKind.{ErrorKind}
use Rattle.protox_file_error.specs.declared.error.ErrorKind.TheVariants.{Parse, OpenFile, FileTooLarge, FileInvalidUtf8, FileNotFound, Custom, NoMemory}
use Rattle.protox_file_sources.specs.Causes.{HasCause, IsTold}
use Rattle.protox_file_sources.specs.Library.{Library}
use Rattle.protox_file_sources.specs.Told.{Entry, Told, Absent, Recorded, Source, TooLarge, NotText, Lookup, NoFile, IsFile, TextFault, IsFound}
use Rattle.protox_file.specs.Chained.{or_told, first_told, first_resolved, chained, count_of_all, is_missing}

-- ---- counts

or_left : (a b : Bool) → IsTrue a → IsTrue (a || b)
or_left true b h = refl
or_left false b h = Prim.cc

or_right : (a b : Bool) → IsTrue b → IsTrue (a || b)
or_right true b h = refl
or_right false b h = h

or_follows : (a b c d : Bool) → (IsTrue a → IsTrue c) → (IsTrue b → IsTrue d) → IsTrue (a || b) → IsTrue (c || d)
or_follows true b c d f g h = or_left c d (f refl)
or_follows false b true d f g h = refl
or_follows false b false d f g h = g h

-- one of the members has another count
module _ {X : Type 0} (f : X → Count) where
  pub later_set : (xs : List X) (i : ℕ) (x y : X) → i < length xs → x ≡ get_or xs i x → Later (f x) (f y)
      → Later (count_of_all (map f xs)) (count_of_all (map f (set xs i y)))
  later_set [] i x y h e l = absurd (omega arith)
  later_set (z ∷ xs) zero x y h e l =
      let k : Later (f z) (f y) = rw (← e) l in
      record { faults = omega (arith, k.faults); spent = or_follows _ _ _ _ k.spent (λ s. s) }
  later_set (z ∷ xs) (suc i) x y h e l =
      let k : Later (count_of_all (map f xs)) (count_of_all (map f (set xs i y))) = later_set xs i x y (omega arith) e l in
      record { faults = omega (arith, k.faults); spent = or_follows _ _ _ _ (λ s. s) k.spent }

  pub rose_set : (xs : List X) (i : ℕ) (x y : X) → i < length xs → x ≡ get_or xs i x → Rose (f x) (f y)
      → Rose (count_of_all (map f xs)) (count_of_all (map f (set xs i y)))
  rose_set [] i x y h e r = absurd (omega arith)
  rose_set (z ∷ xs) zero x y h e r = rose_head (rw (← e) r)
    where
      rose_head : Rose (f z) (f y) → Rose (count_of_all (map f (z ∷ xs))) (count_of_all (map f (y ∷ xs)))
      rose_head (inl rose) = inl (omega (arith, rose))
      rose_head (inr spent) = inr (or_left _ _ spent)
  rose_set (z ∷ xs) (suc i) x y h e r = rose_tail (rose_set xs i x y (omega arith) e r)
    where
      rose_tail : Rose (count_of_all (map f xs)) (count_of_all (map f (set xs i y)))
          → Rose (count_of_all (map f (z ∷ xs))) (count_of_all (map f (z ∷ set xs i y)))
      rose_tail (inl rose) = inl (omega (arith, rose))
      rose_tail (inr spent) = inr (or_right _ _ spent)

-- ---- causes

cause_follows : {P Q : Type 0} (f g : List ℕ → ErrorKind → Bool) (asked : List ℕ) (kind : ErrorKind) → (P → Q)
    → (IsTrue (f asked kind) → IsTrue (g asked kind)) → HasCause f asked P kind → HasCause g asked Q kind
cause_follows f g asked (Parse e) k m h = h
cause_follows f g asked (OpenFile name path words) k m h = (h.0, k h.1, m h.2)
cause_follows f g asked (FileTooLarge name) k m h = h
cause_follows f g asked (FileInvalidUtf8 name) k m h = h
cause_follows f g asked (FileNotFound name) k m h = h
cause_follows f g asked (Custom text is_io) k m h = (k h.0, m h.1)
cause_follows f g asked NoMemory k m h = tt
cause_follows f g asked _ k m h = absurd h

-- the cause of an answer, where a higher count rose and there are more faults
pub result_cause : {P Q : Type 0} (f g : List ℕ → ErrorKind → Bool) (asked : List ℕ) (r : Result Entry ErrorKind) → (P → Q)
    → ((kind : ErrorKind) → IsTrue (f asked kind) → IsTrue (g asked kind)) → IfErr r (HasCause f asked P) → IfErr r (HasCause g asked Q)
result_cause f g asked (Ok entry) k m h = h
result_cause f g asked (Err kind) k m h = cause_follows f g asked kind k (m kind) h

-- a fault of a member is one of its chain
pub may_fail_at : {X : Type 0} (l : X → Library) (xs : List X) (i : ℕ) (x : X) → i < length xs → x ≡ get_or xs i x
    → (name : List ℕ) (kind : ErrorKind) → IsTrue ((l x).may_fail name kind) → IsTrue ((chained (map l xs)).may_fail name kind)
may_fail_at l [] i x h e name kind f = absurd (omega arith)
may_fail_at l (z ∷ xs) zero x h e name kind f =
    let k : IsTrue ((l z).may_fail name kind) = rw (← e) f in or_left _ _ k
may_fail_at l (z ∷ xs) (suc i) x h e name kind f = or_right _ _ (may_fail_at l xs i x (omega arith) e name kind f)

-- the cause of a member's error, which leaves it as y, is one of its chain
pub member_cause : {X : Type 0} (l : X → Library) (f : X → Count) (xs : List X) (i : ℕ) (x y : X) → i < length xs → x ≡ get_or xs i x
    → (name : List ℕ) (result : Result Entry ErrorKind) → IfErr result (HasCause (l x).may_fail name (Rose (f x) (f y)))
    → IfErr result (HasCause (chained (map l xs)).may_fail name (Rose (count_of_all (map f xs)) (count_of_all (map f (set xs i y)))))
member_cause l f xs i x y h e name result k =
    result_cause (l x).may_fail (chained (map l xs)).may_fail name result (rose_set f xs i x y h e) (may_fail_at l xs i x h e name) k

-- a fault of the first of two lists is one of both
pub may_fail_first : (ls ks : List Library) (name : List ℕ) (kind : ErrorKind)
    → IsTrue ((chained ls).may_fail name kind) → IsTrue ((chained (ls ++ ks)).may_fail name kind)
may_fail_first [] ks name kind f = Prim.cc
may_fail_first (l ∷ ls) ks name kind f = or_follows _ _ _ _ (λ s. s) (may_fail_first ls ks name kind) f

-- ---- what is told

and_parts : (a b : Bool) → IsTrue (a && b) → IsTrue a × IsTrue b
and_parts true true h = (refl, refl)
and_parts true false h = Prim.cc
and_parts false b h = Prim.cc

-- the members before i lack the name
abbrev pub ArePassed : List Library → ℕ → List ℕ → Type 0
ArePassed ls i name = first_told ls name ≡ first_told (drop i ls) name

-- what all tell, each tells
all_tell_at : (ls : List Library) (i : ℕ) → i < length ls → IsTrue (chained ls).tells → IsTrue (get_or ls i (chained [])).tells
all_tell_at [] i h t = absurd (omega arith)
all_tell_at (l ∷ ls) zero h t = (and_parts l.tells (chained ls).tells t).0
all_tell_at (l ∷ ls) (suc i) h t = all_tell_at ls i (omega arith) (and_parts l.tells (chained ls).tells t).1

-- nothing stands where no file is found
pub absent_told : (told : Told) (name : List ℕ) → IsFound name told NoFile → told ≡ Absent
absent_told Absent name f = refl
absent_told (Recorded entry) name f = Prim.cc
absent_told (Source source path) name f = absurd f
absent_told TooLarge name f = Prim.cc
absent_told NotText name f = Prim.cc

-- the first speaks where it has the name
pub found_first : (first second : Told) (name : List ℕ) (look : Lookup) → ¬ (look ≡ NoFile) → IsFound name first look
    → IsFound name (or_told first second) look
found_first Absent second name look ne f = absurd (ne f)
found_first (Recorded entry) second name look ne f = f
found_first (Source source path) second name look ne f = f
found_first TooLarge second name look ne f = f
found_first NotText second name look ne f = f

-- the answer of the first is that of both, unless it finds no file
pub told_first : (first second : Told) (name : List ℕ) (result : Result Entry ErrorKind) → is_missing result ≡ false
    → IsTold name first result → IsTold name (or_told first second) result
told_first first second name (Ok entry) m t = found_first first second name (IsFile entry) (λ e. Prim.cc) t
told_first first second name (Err (Parse e)) m t = found_first first second name (TextFault 1) (λ e. Prim.cc) t
told_first first second name (Err (OpenFile n path fault)) m t = tt
told_first first second name (Err (FileTooLarge n)) m t = found_first first second name (TextFault 4) (λ e. Prim.cc) t
told_first first second name (Err (FileInvalidUtf8 n)) m t = found_first first second name (TextFault 5) (λ e. Prim.cc) t
told_first first second name (Err (FileNotFound n)) m t = Prim.cc
told_first first second name (Err (Custom text is_io)) m t = tt
told_first first second name (Err NoMemory) m t = tt
told_first first second name (Err _) m t = absurd t

-- and where it finds no file, none stands there
pub told_none : (told : Told) (name : List ℕ) (result : Result Entry ErrorKind) → is_missing result ≡ true → IsTold name told result
    → told ≡ Absent
told_none told name (Ok entry) m t = Prim.cc
told_none told name (Err (FileNotFound n)) m t = absent_told told name t
told_none told name (Err _) m t = Prim.cc

-- a member that has the name speaks for those from it on, and one that lacks it hands it on to the next
pub told_here : (ls : List Library) (i : ℕ) (name : List ℕ) (result : Result Entry ErrorKind) → i < length ls → is_missing result ≡ false
    → IsTold name ((get_or ls i (chained [])).files name) result → IsTold name (first_told (drop i ls) name) result
told_here [] i name result h m t = absurd (omega arith)
told_here (l ∷ ls) zero name result h m t = told_first (l.files name) (first_told ls name) name result m t
told_here (l ∷ ls) (suc i) name result h m t = told_here ls i name result (omega arith) m t

told_next : (ls : List Library) (i : ℕ) (name : List ℕ) → i < length ls → (get_or ls i (chained [])).files name ≡ Absent
    → first_told (drop i ls) name ≡ first_told (drop (suc i) ls) name
told_next [] i name h e = absurd (omega arith)
told_next (l ∷ ls) zero name h e = rw e refl
told_next (l ∷ ls) (suc i) name h e = told_next ls i name (omega arith) e

pub told_after : (ls : List Library) (i : ℕ) (name : List ℕ) (result : Result Entry ErrorKind) → i < length ls → is_missing result ≡ true
    → IsTold name ((get_or ls i (chained [])).files name) result → first_told (drop i ls) name ≡ first_told (drop (i + 1) ls) name
told_after ls i name result h m t = rw add-one (told_next ls i name h (told_none ((get_or ls i (chained [])).files name) name result m t))

-- the answer of the member at i, where those before it lack the name; `now` are the libraries when it is asked
pub chain_told : (now ls : List Library) (i : ℕ) (name : List ℕ) (result : Result Entry ErrorKind) → now ≡ ls → i < length ls
    → (IsTrue (chained ls).tells → ArePassed ls i name)
    → (IsTrue (get_or now i (chained [])).tells → IsTold name ((get_or now i (chained [])).files name) result)
    → is_missing result ≡ false → IsTrue (chained ls).tells → IsTold name (first_told ls name) result
chain_told now ls i name result e h passed told m all =
    let mine : IsTold name ((get_or now i (chained [])).files name) result = told (rw e (all_tell_at ls i h all)) in
    rw (passed all) (told_here ls i name result h m (rw e at mine))

pub chain_next : (now ls : List Library) (i : ℕ) (name : List ℕ) (result : Result Entry ErrorKind) → now ≡ ls → i < length ls
    → (IsTrue (chained ls).tells → ArePassed ls i name)
    → (IsTrue (get_or now i (chained [])).tells → IsTold name ((get_or now i (chained [])).files name) result)
    → is_missing result ≡ true → IsTrue (chained ls).tells → ArePassed ls (i + 1) name
chain_next now ls i name result e h passed told m all =
    let mine : IsTold name ((get_or now i (chained [])).files name) result = told (rw e (all_tell_at ls i h all)) in
    passed all ∙ told_after ls i name result h m (rw e at mine)

-- the cause of the member's error is one of the chain
pub chain_cause : (now ls : List Library) (a b c : Count) (name : List ℕ) (result : Result Entry ErrorKind) → now ≡ ls → Later a b
    → IfErr result (HasCause (chained now).may_fail name (Rose b c)) → IfErr result (HasCause (chained ls).may_fail name (Rose a c))
chain_cause now ls a b c name result e h k =
    result_cause (chained now).may_fail (chained ls).may_fail name result (rose_later a b c h) (λ kind f. rw e at f) k

-- ---- paths and counts, one after another

-- the members before i do not resolve the path
abbrev pub ResolveNot : List Library → ℕ → List ℕ → Type 0
ResolveNot ls i path = first_resolved ls path ≡ first_resolved (drop i ls) path

-- the members before i are not spent
abbrev pub AreUnspent : List Count → ℕ → Type 0
AreUnspent cs i = (count_of_all cs).spent ≡ (count_of_all (drop i cs)).spent

resolved_at : (ls : List Library) (i : ℕ) (path name : List ℕ) → i < length ls → Some name ≡ (get_or ls i (chained [])).resolves path
    → first_resolved (drop i ls) path ≡ Some name
resolved_at [] i path name h e = absurd (omega arith)
resolved_at (l ∷ ls) zero path name h e = rw (← e) refl
resolved_at (l ∷ ls) (suc i) path name h e = resolved_at ls i path name (omega arith) e

resolved_after : (ls : List Library) (i : ℕ) (path : List ℕ) → i < length ls → None ≡ (get_or ls i (chained [])).resolves path
    → first_resolved (drop i ls) path ≡ first_resolved (drop (suc i) ls) path
resolved_after [] i path h e = absurd (omega arith)
resolved_after (l ∷ ls) zero path h e = rw (← e) refl
resolved_after (l ∷ ls) (suc i) path h e = resolved_after ls i path (omega arith) e

spent_at : (cs : List Count) (i : ℕ) (d : Count) → i < length cs → (get_or cs i d).spent ≡ true → (count_of_all (drop i cs)).spent ≡ true
spent_at [] i d h e = absurd (omega arith)
spent_at (c ∷ cs) zero d h e = rw e refl
spent_at (c ∷ cs) (suc i) d h e = spent_at cs i d (omega arith) e

spent_after : (cs : List Count) (i : ℕ) (d : Count) → i < length cs → (get_or cs i d).spent ≡ false
    → (count_of_all (drop i cs)).spent ≡ (count_of_all (drop (suc i) cs)).spent
spent_after [] i d h e = absurd (omega arith)
spent_after (c ∷ cs) zero d h e = rw e refl
spent_after (c ∷ cs) (suc i) d h e = spent_after cs i d (omega arith) e

-- what an element of a list is, is what the mapped list has there
pub mapped_at : {X Y : Type 0} (f : X → Y) (xs : List X) (i : ℕ) (x : X) (d : Y) → i < length xs → x ≡ get_or xs i x
    → get_or (map f xs) i d ≡ f x
mapped_at f [] i x d h e = absurd (omega arith)
mapped_at f (y ∷ xs) zero x d h e = ap f (sym e)
mapped_at f (y ∷ xs) (suc i) x d h e = mapped_at f xs i x d (omega arith) e

module _ {X : Type 0} (xs : List X) (i : ℕ) (x : X) (fits : i < length xs) (is : x ≡ get_or xs i x) where
  pub spent_here : (f : X → Count) → (f x).spent ≡ true → AreUnspent (map f xs) i → true ≡ (count_of_all (map f xs)).spent
  spent_here f e inv = sym (inv ∙ spent_at (map f xs) i (f x) (rw length-map fits) (rw (mapped_at f xs i x (f x) fits is) e))

  pub spent_next : (f : X → Count) → (f x).spent ≡ false → AreUnspent (map f xs) i → AreUnspent (map f xs) (i + 1)
  spent_next f e inv = rw add-one (inv ∙ spent_after (map f xs) i (f x) (rw length-map fits) (rw (mapped_at f xs i x (f x) fits is) e))

  pub name_here : (l : X → Library) (path name : List ℕ) → Some name ≡ (l x).resolves path → ResolveNot (map l xs) i path
      → Some name ≡ first_resolved (map l xs) path
  name_here l path name told inv =
      let e : Some name ≡ (get_or (map l xs) i (chained [])).resolves path = rw (mapped_at l xs i x (chained []) fits is) told in
      sym (inv ∙ resolved_at (map l xs) i path name (rw length-map fits) e)

  pub name_next : (l : X → Library) (path : List ℕ) → None ≡ (l x).resolves path → ResolveNot (map l xs) i path
      → ResolveNot (map l xs) (i + 1) path
  name_next l path told inv =
      let e : None ≡ (get_or (map l xs) i (chained [])).resolves path = rw (mapped_at l xs i x (chained []) fits is) told in
      rw add-one (inv ∙ resolved_after (map l xs) i path (rw length-map fits) e)

  -- the same of members that tell their names where all tell

  member_tells : (l : X → Library) → IsTrue (chained (map l xs)).tells → IsTrue (l x).tells
  member_tells l all = rw (mapped_at l xs i x (chained []) fits is) at (all_tell_at (map l xs) i (rw length-map fits) all)

  pub resolve_here : (l : X → Library) (path name : List ℕ) → (IsTrue (l x).tells → Some name ≡ (l x).resolves path)
      → (IsTrue (chained (map l xs)).tells → ResolveNot (map l xs) i path)
      → IsTrue (chained (map l xs)).tells → Some name ≡ first_resolved (map l xs) path
  resolve_here l path name told inv all = name_here l path name (told (member_tells l all)) (inv all)

  pub resolve_next : (l : X → Library) (path : List ℕ) → (IsTrue (l x).tells → None ≡ (l x).resolves path)
      → (IsTrue (chained (map l xs)).tells → ResolveNot (map l xs) i path)
      → IsTrue (chained (map l xs)).tells → ResolveNot (map l xs) (i + 1) path
  resolve_next l path told inv all = name_next l path (told (member_tells l all)) (inv all)
