-- The same paths are opened in another order.
use Rattle.std.proofs.Common.{◌≡◌, ◌+◌, ◌-◌, ◌≤◌, ◌∷◌, ◌++◌, ◌∙◌, [], ℕ, zero, suc, List, Bool, true, false, refl, sym, ap, subst, length, append_assoc}
use Rattle.std.proofs.Common.{append-nil, ◌⊎◌, inl, inr, arith}
use Rattle.std.specs.Prelude.{◌||◌, ◌&&◌, if◌then◌else◌, Option, Some, None, Contains}
use Rattle.std.specs.List.{list_all}
use Rattle.std.specs.Str.{bytes_eq}
use Rattle.std.proofs.lemmas.Bool.{false≢true}
use Rattle.std.proofs.lemmas.List.{length-append, length-map, map-append}
use Rattle.std.proofs.lemmas.List.Elements.{Contains-append_left, Contains-append_right, Contains-append_cases}
use Rattle.pbx_desc_records.specs.declared.file.FileDescriptorProto.{FileDescriptorProto}
use Rattle.pbx_link_definitions.specs.Names.{among, text_or_empty}
use Rattle.pbx_link_scope.specs.Pooled.{has_file}
use Rattle.pbx_link_rules.specs.PoolLaws.{AreBehind}
use Rattle.pbx_link_rules.proofs.Lists.{here, there, neither}
use Rattle.pbx_link_order_laws.proofs.Searched.{no_item, any_alike}
use Rattle.protox_io.specs.FileNames.{path_equal}
use Rattle.protox_file_sources.specs.Told.{Lookup}
use Rattle.protox_compile_walk.specs.Walk.{Done, Shadowed, Visited, Finished, Missing, Faulted, records, is_done, visits, visit}
use Rattle.protox_compile_walk.specs.Opening.{Ended, IsDecided, Accepted, NotIncluded, Refused, mark, path_in, is_opened, root_of}
use Rattle.protox_compile_walk.specs.Opening.{open_done, open_root, open_name, opening, after_opening, closure}
use Rattle.protox_compile_walk.specs.Compiled.{IsOrdered, AllDone}
use Rattle.protox_compile_walk.proofs.Right.{same_bytes, bytes_are}
use Rattle.protox_compile_laws.specs.PathOrder.{StandAmong, StandAlike, ClosesAlike, ClosesInEachOrder, OpensInEachOrder}
use Rattle.protox_compile_walk.specs.Laws.{ClosesOnce}
use Rattle.protox_compile_laws.proofs.Settled.{plain, plain_one, records_plain, is_done_plain, path_plain, plain_marked, AllSettle}
use Rattle.protox_compile_laws.proofs.First.{by_test, done_more, IsClear}
use Rattle.protox_compile_laws.proofs.Second.{AreNamed, has_named, named_joined, stands, done_second, not_both, no_more, by_true}
use Rattle.protox_compile_laws.proofs.Second.{free, free_alike, free_few, Base, IsPart, VisitCame, visit_came}
use Rattle.protox_compile_laws.proofs.Openings.{done_alike, First, Closed, IsOpen, asks, accepted_first}

-- ---- no name stands twice

abbrev Once : List Done → List Done → Type 0
Once before [] = Unit {0}
Once before (d ∷ ds) = (is_done before d.name ≡ false) × Once (before ++ d ∷ []) ds

once_joined : (before xs ys : List Done) → Once before xs → Once (before ++ xs) ys → Once before (xs ++ ys)
once_joined before [] ys h g = subst (λ (l : List Done). Once l ys) (append-nil before) g
once_joined before (x ∷ xs) ys h g =
    (h.0, once_joined (before ++ x ∷ []) xs ys h.1 (subst (λ (l : List Done). Once l ys) (sym (append_assoc before (x ∷ []) xs)) g))

once_ordered : (before ds : List Done) → IsOrdered before ds → Once before ds
once_ordered before [] h = tt
once_ordered before (d ∷ ds) h = (h.1, once_ordered (before ++ d ∷ []) ds h.3)

once_settled : (lookups : List ℕ → Lookup) (before ds : List Done) → AllSettle lookups before ds → Once before ds
once_settled lookups before [] h = tt
once_settled lookups before (d ∷ ds) h = (h.0.new, once_settled lookups (before ++ d ∷ []) ds h.1)

once_plain : (before ds : List Done) → Once before ds → Once (plain before) (plain ds)
once_plain before [] h = tt
once_plain before (d ∷ ds) h = (
  is_done_plain before d.name ∙ h.0,
  subst (λ (l : List Done). Once l (plain ds)) (map-append plain_one before (d ∷ [])) (once_plain (before ++ d ∷ []) ds h.1),
)

once_unplain : (before ds : List Done) → Once (plain before) (plain ds) → Once before ds
once_unplain before [] h = tt
once_unplain before (d ∷ ds) h = (
  sym (is_done_plain before d.name) ∙ h.0,
  once_unplain (before ++ d ∷ []) ds (subst (λ (l : List Done). Once l (plain ds)) (sym (map-append plain_one before (d ∷ []))) h.1),
)

done_front : (before : List Done) (d : Done) (name : List ℕ) → is_done (before ++ d ∷ []) name ≡ false
    → (is_done before name ≡ false) × (bytes_eq d.name name ≡ false)
done_front [] d name h = (refl, (neither (bytes_eq d.name name) false h).0)
done_front (x ∷ xs) d name h =
    let two = neither (bytes_eq x.name name) (is_done (xs ++ d ∷ []) name) h in
    let rest = done_front xs d name two.1 in
    (ap (λ b. b || is_done xs name) two.0 ∙ rest.0, rest.1)

later_new : (before ds : List Done) → Once before ds → (x : Done) → Contains ds x → is_done before x.name ≡ false
later_new before [] h x c = absurd (no_item x c)
later_new before (d ∷ ds) h x (zero, lt, same) = subst (λ (y : Done). is_done before y.name ≡ false) same h.0
later_new before (d ∷ ds) h x (suc i, lt, same) =
    (done_front before d x.name (later_new (before ++ d ∷ []) ds h.1 x (i, omega (arith, lt), same))).0

-- the file of a name tells the path of the name, and its mark
once_path : (before ds : List Done) → Once before ds → (x : Done) → Contains ds x → path_in x.name ds ≡ x.path
once_path before [] h x c = absurd (no_item x c)
once_path before (d ∷ ds) h x (zero, lt, same) =
    subst (λ (y : Done). path_in y.name (d ∷ ds) ≡ y.path) same (ap (λ b. if b then d.path else path_in d.name ds) (same_bytes d.name))
once_path before (d ∷ ds) h x (suc i, lt, same) =
    let c : Contains ds x = (i, omega (arith, lt), same) in
    ap (λ b. if b then d.path else path_in x.name ds) (done_front before d x.name (later_new (before ++ d ∷ []) ds h.1 x c)).1
    ∙ once_path (before ++ d ∷ []) ds h.1 x c

once_opened : (before ds : List Done) → Once before ds → (x : Done) → Contains ds x → is_opened x.name ds ≡ x.opened
once_opened before [] h x c = absurd (no_item x c)
once_opened before (d ∷ ds) h x (zero, lt, same) =
    subst (λ (y : Done). is_opened y.name (d ∷ ds) ≡ y.opened) same (ap (λ b. if b then d.opened else is_opened d.name ds) (same_bytes d.name))
once_opened before (d ∷ ds) h x (suc i, lt, same) =
    let c : Contains ds x = (i, omega (arith, lt), same) in
    ap (λ b. if b then d.opened else is_opened x.name ds) (done_front before d x.name (later_new (before ++ d ∷ []) ds h.1 x c)).1
    ∙ once_opened (before ++ d ∷ []) ds h.1 x c

-- ---- files at the start

named_ordered : (before ds : List Done) → IsOrdered before ds → AreNamed ds
named_ordered before [] h = tt
named_ordered before (d ∷ ds) h = (h.0, named_ordered (before ++ d ∷ []) ds h.3)

named_plain : (ds : List Done) → AreNamed ds → AreNamed (plain ds)
named_plain [] h = tt
named_plain (d ∷ ds) h = (h.0, named_plain ds h.1)

all_has : (before : List Done) (names : List (List ℕ)) → AreNamed before → AllDone before names → list_all (has_file (records before)) names ≡ true
all_has before [] h k = refl
all_has before (n ∷ ns) h k =
    ap (λ b. b && list_all (has_file (records before)) ns) (has_named before n h ∙ k.0) ∙ all_has before ns h k.1

behind_ordered : (before ds : List Done) → AreNamed before → IsOrdered before ds → AreBehind (records before) (records ds)
unfolding AreBehind
behind_ordered before [] h k = tt
behind_ordered before (d ∷ ds) h k = (
  ap (λ (o : Option (List ℕ)). has_file (records before) (text_or_empty o)) k.0 ∙ has_named before d.name h ∙ k.1,
  all_has before d.file.dependency h k.2,
  subst (λ (l : List FileDescriptorProto). AreBehind l (records ds)) (map-append (λ (x : Done). x.file) before (d ∷ []))
      (behind_ordered (before ++ d ∷ []) ds (named_joined before (d ∷ []) h (k.0, tt)) k.3),
)

-- ---- openings over some of the files

-- some of the files are finished, and there is room for the others
record HasRoom (start all now : List Done) : Type 0 where
  pub part : IsPart start all now
  pub room : length now + 0 + free [] now all ≤ length start + length all

-- the path asks for one of the files, and for no other path than that of the file
record IsFound (resolves : List ℕ → Option (List ℕ)) (files : List Done) (path : List ℕ) : Type 0 where
  pub name : List ℕ
  pub asked : Option (List ℕ)
  pub root_is : root_of resolves path ≡ Some (name, asked)
  pub there : is_done files name ≡ true
  pub clear : (x : Done) → Contains files x → x.name ≡ name → IsClear asked x.path

abbrev EndsIn : List Done → List Done → List Done × Ended → Type 0
EndsIn start all (next, Accepted) = HasRoom start all next
EndsIn start all (next, NotIncluded) = ⊥
EndsIn start all (next, Refused fault) = ⊥

-- a finished name, and its file
found_file : (ds : List Done) (name : List ℕ) → is_done ds name ≡ true → (x : Done) × Contains ds x × (x.name ≡ name) × (path_in name ds ≡ x.path)
found_file [] name h = absurd (false≢true h)
found_file (d ∷ ds) name h = at (bytes_eq d.name name) refl h (found_file ds name)
  where
    at : (b : Bool) → bytes_eq d.name name ≡ b → (b || is_done ds name) ≡ true
        → (is_done ds name ≡ true → (x : Done) × Contains ds x × (x.name ≡ name) × (path_in name ds ≡ x.path))
        → (x : Done) × Contains (d ∷ ds) x × (x.name ≡ name) × (path_in name (d ∷ ds) ≡ x.path)
    at true e k ih = (d, here d ds, bytes_are d.name name e, ap (λ b. if b then d.path else path_in name ds) e)
    at false e k ih =
        let r = ih k in (r.0, there d r.0 ds r.1, r.2, ap (λ b. if b then d.path else path_in name ds) e ∙ r.3)

module _ (lookups : List ℕ → Lookup) (resolves : List ℕ → Option (List ℕ)) (limit : ℕ) (start all : List Done) (base : Base lookups limit start all) where
  marked_in : (now : List Done) (name : List ℕ) → HasRoom start all now → HasRoom start all (mark name now)
  marked_in now name h = record { part = part; room = room }
    where
      e : plain (mark name now) ≡ plain now
      e = plain_marked name now

      part : IsPart start all (mark name now)
      part = record { some = h.part.some; is = e ∙ h.part.is; within = h.part.within; behind = h.part.behind; named = h.part.named }

      room : length (mark name now) + 0 + free [] (mark name now) all ≤ length start + length all
      room =
          let long : length (mark name now) ≡ length now =
          sym (length-map (mark name now) plain_one) ∙ ap (λ (l : List Done). length l) e ∙ length-map now plain_one in
          let same : free [] (mark name now) all ≡ free [] now all =
          free_alike (mark name now) now (done_alike (mark name now) now e) [] all in
          let old : length now + 0 + free [] now all ≤ length start + length all = h.room in
          omega arith

  done_in : (now : List Done) (name : List ℕ) (asked known : Option (List ℕ)) → HasRoom start all now → IsClear asked known
      → EndsIn start all (open_done name asked known now)
  done_in now name None known h clear = marked_in now name h
  done_in now name (Some asked) None h clear = marked_in now name h
  done_in now name (Some asked) (Some path) h clear =
      by_true (EndsIn start all) (path_equal path asked) (mark name now, Accepted) (now, Refused (Shadowed name asked path)) clear (marked_in now name h)

  root_in : (now : List Done) (name : List ℕ) (v : List Done × Visited) → VisitCame start all [] now name v → EndsIn start all (open_root name v)
  root_in now name (next, Finished) h = marked_in next name (record { part = h.0.part; room = h.0.room })
  root_in now name (next, Missing) h = absurd h
  root_in now name (next, Faulted fault) h = absurd h

  -- a file that is finished is one of these
  known_clear : (now : List Done) (name : List ℕ) (asked : Option (List ℕ)) → IsPart start all now → is_done now name ≡ true
      → ((x : Done) → Contains (start ++ all) x → x.name ≡ name → IsClear asked x.path) → IsClear asked (path_in name now)
  known_clear now name asked part done clear =
      let r = found_file (start ++ part.some) name (ap (λ (l : List Done). is_done l name) (sym part.is) ∙ is_done_plain now name ∙ done) in
      let same : path_in name now ≡ r.0.path = sym (path_plain name now) ∙ ap (λ (l : List Done). path_in name l) part.is ∙ r.3 in
      subst (IsClear asked) (sym same) (clear r.0 (at r.0 (Contains-append_cases start part.some r.0 r.1)) r.2)
    where
      at : (x : Done) → Contains start x ⊎ Contains part.some x → Contains (start ++ all) x
      at x (inl k) = Contains-append_left start all x k
      at x (inr k) = Contains-append_right start all x (part.within x k)

  new_in : (now : List Done) (name : List ℕ) (asked : Option (List ℕ)) → HasRoom start all now → is_done now name ≡ false
      → is_done (start ++ all) name ≡ true → ((x : Done) → Contains (start ++ all) x → x.name ≡ name → IsClear asked x.path)
      → VisitCame start all [] now name (visit lookups limit (limit - 0) [] asked name now)
  new_in now name asked h new known clear =
      let old : is_done start name ≡ false =
      no_more (is_done start name) (λ k. not_both (ap (λ (l : List Done). is_done l name) h.part.is ∙ done_more start h.part.some name k)
      (is_done_plain now name ∙ new)) in
      let s = stands all name (done_second start all name known old) in
      let inside : Contains all s.one =
      subst (λ (l : List Done). Contains l s.one) (sym s.split) (Contains-append_right s.before (s.one ∷ s.after) s.one (here s.one s.after)) in
      let enough : limit ≤ 0 + (limit - 0) = omega arith in
      subst (λ (n : List ℕ). VisitCame start all [] now n (visit lookups limit (limit - 0) [] asked n now)) s.is
      (visit_came lookups limit start all base (limit - 0) [] asked now s.before s.after s.one s.split (ap (is_done now) s.is ∙ new) refl
      (λ c held. absurd (false≢true held)) (clear s.one (Contains-append_right start all s.one inside) s.is) h.part h.room enough)

  path_in_part : (now : List Done) (path : List ℕ) → HasRoom start all now → IsFound resolves (start ++ all) path
      → EndsIn start all (opening lookups resolves limit path now)
  path_in_part now path h f =
      subst (λ (r : Option (List ℕ × Option (List ℕ))). EndsIn start all (open_name lookups limit r now)) (sym f.root_is)
      (by_test (EndsIn start all) (is_done now f.name) (open_done f.name f.asked (path_in f.name now) now)
      (open_root f.name (visits lookups limit [] f.asked f.name now))
      (λ done. done_in now f.name f.asked (path_in f.name now) h (known_clear now f.name f.asked h.part done f.clear))
      (λ new. root_in now f.name _ (new_in now f.name f.asked h new f.there f.clear)))

  after_in : (o : List Done × Ended) (rest : List Done → List Done × Ended) → EndsIn start all o
      → ((d : List Done) → HasRoom start all d → EndsIn start all (rest d)) → EndsIn start all (after_opening o rest)
  after_in (d, Accepted) rest h k = k d h
  after_in (d, NotIncluded) rest h k = absurd h
  after_in (d, Refused fault) rest h k = absurd h

  closure_in : (paths : List (List ℕ)) (now : List Done) → HasRoom start all now
      → ((path : List ℕ) → Contains paths path → IsFound resolves (start ++ all) path) → EndsIn start all (closure lookups resolves limit paths now)
  closure_in [] now h f = h
  closure_in (path ∷ paths) now h f =
      after_in (opening lookups resolves limit path now) (closure lookups resolves limit paths) (path_in_part now path h (f path (here path paths)))
      (λ d k. closure_in paths d k (λ p c. f p (there path p paths c)))

  -- the openings were accepted, and these files were finished
  accepted_in : (o : List Done × Ended) → EndsIn start all o → (next : List Done) × (o ≡ (next, Accepted)) × HasRoom start all next
  accepted_in (next, Accepted) h = (next, refl, h)
  accepted_in (next, NotIncluded) h = absurd h
  accepted_in (next, Refused fault) h = absurd h

-- ---- the law

none_behind : (before : List FileDescriptorProto) → AreBehind before []
unfolding AreBehind
none_behind before = tt

start_first : (lookups : List ℕ → Lookup) (limit : ℕ) (done : List Done) → First lookups limit (plain done) done
start_first lookups limit done = record { all = []; is = sym (append-nil (plain done)); settle = tt; fits = λ some. omega (arith, some) }

based : (lookups : List ℕ → Lookup) (limit : ℕ) (done later : List Done) → IsOrdered [] done → (f : First lookups limit (plain done) later)
    → Base lookups limit (plain done) f.all
based lookups limit done later ordered f = record {
  settle = f.settle;
  fits = f.fits;
  named = named_plain done (named_ordered [] done ordered);
  behind = subst (AreBehind []) (sym (records_plain done)) (behind_ordered [] done tt ordered);
}

once_first : (lookups : List ℕ → Lookup) (limit : ℕ) (done later : List Done) → IsOrdered [] done → (f : First lookups limit (plain done) later)
    → Once [] (plain done ++ f.all)
once_first lookups limit done later ordered f =
    once_joined [] (plain done) f.all (once_plain [] done (once_ordered [] done ordered)) (once_settled lookups (plain done) f.all f.settle)

-- openings of some of the paths, and what they finished
record OpensSome (lookups : List ℕ → Lookup) (resolves : List ℕ → Option (List ℕ)) (limit : ℕ) (paths : List (List ℕ)) (done later : List Done)
    : Type 0 where
  pub again : List Done
  pub closed : closure lookups resolves limit paths done ≡ (again, Accepted)
  pub within : (x : Done) → Contains (plain again) x → Contains (plain later) x
  pub few : length again ≤ length later

module _ (lookups : List ℕ → Lookup) (resolves : List ℕ → Option (List ℕ)) (limit : ℕ) (done : List Done) (ordered : IsOrdered [] done) where
  found : (paths : List (List ℕ)) (later : List Done) (c : Closed lookups resolves limit (plain done) paths done later) (path : List ℕ)
      → Contains paths path → IsFound resolves (plain done ++ c.first.all) path
  found paths later c path k = record { name = o.name; asked = o.asked; root_is = o.root_is; there = known; clear = clear }
    where
      o : IsOpen resolves later path
      o = c.opens path k

      known : is_done (plain done ++ c.first.all) o.name ≡ true
      known = ap (λ (l : List Done). is_done l o.name) (sym c.first.is) ∙ is_done_plain later o.name ∙ o.there

      clear : (x : Done) → Contains (plain done ++ c.first.all) x → x.name ≡ o.name → IsClear o.asked x.path
      clear x inside e =
          let once : Once [] (plain done ++ c.first.all) = once_first lookups limit done later ordered c.first in
          let same : path_in o.name later ≡ x.path =
          sym (path_plain o.name later) ∙ ap (λ (l : List Done). path_in o.name l) c.first.is
          ∙ ap (λ (n : List ℕ). path_in n (plain done ++ c.first.all)) (sym e) ∙ once_path [] (plain done ++ c.first.all) once x inside in
          subst (IsClear o.asked) same o.clear

  opens_some : (paths others : List (List ℕ)) (later : List Done) → StandAmong others paths → closure lookups resolves limit paths done ≡ (later, Accepted)
      → OpensSome lookups resolves limit others done later
  opens_some paths others later among closed = record { again = r.0; closed = r.1; within = within; few = few }
    where
      c : Closed lookups resolves limit (plain done) paths done later
      c = accepted_first lookups resolves limit (plain done) paths done later (start_first lookups limit done) closed

      begin : HasRoom (plain done) c.first.all done
      begin = record {
        part = record {
          some = [];
          is = sym (append-nil (plain done));
          within = λ x k. absurd (no_item x k);
          behind = none_behind (records (plain done));
          named = tt;
        };
        room =
            let long : length (plain done) ≡ length done = length-map done plain_one in
            let few : free [] done c.first.all ≤ length c.first.all = free_few [] done c.first.all in
            omega arith;
      }

      ends : EndsIn (plain done) c.first.all (closure lookups resolves limit others done)
      ends =
          closure_in lookups resolves limit (plain done) c.first.all (based lookups limit done later ordered c.first) others done begin
          (λ path k. found paths later c path (among path k))

      r : (next : List Done) × (closure lookups resolves limit others done ≡ (next, Accepted)) × HasRoom (plain done) c.first.all next
      r =
          accepted_in lookups resolves limit (plain done) c.first.all (based lookups limit done later ordered c.first)
          (closure lookups resolves limit others done) ends

      within : (x : Done) → Contains (plain r.0) x → Contains (plain later) x
      within x k =
          subst (λ (l : List Done). Contains l x) (sym c.first.is)
          (at (Contains-append_cases (plain done) r.2.part.some x (subst (λ (l : List Done). Contains l x) r.2.part.is k)))
        where
          at : Contains (plain done) x ⊎ Contains r.2.part.some x → Contains (plain done ++ c.first.all) x
          at (inl h) = Contains-append_left (plain done) c.first.all x h
          at (inr h) = Contains-append_right (plain done) c.first.all x (r.2.part.within x h)

      few : length r.0 ≤ length later
      few =
          let long : length later ≡ length (plain done) + length c.first.all =
          sym (length-map later plain_one) ∙ ap (λ (l : List Done). length l) c.first.is ∙ length-append (plain done) c.first.all in
          let room : length r.0 + 0 + free [] r.0 c.first.all ≤ length (plain done) + length c.first.all = r.2.room in
          omega arith

  -- no name stands twice among what was finished
  once_closed : (paths : List (List ℕ)) (later : List Done) → Closed lookups resolves limit (plain done) paths done later → Once [] later
  once_closed paths later c =
      once_unplain [] later (subst (Once []) (sym c.first.is) (once_first lookups limit done later ordered c.first))

-- ---- marks

plain_there : (ds : List Done) (d : Done) → Contains ds d → Contains (plain ds) (plain_one d)
plain_there [] d c = absurd (no_item d c)
plain_there (x ∷ ds) d (zero, lt, same) = subst (λ (y : Done). Contains (plain (x ∷ ds)) (plain_one y)) same (here (plain_one x) (plain ds))
plain_there (x ∷ ds) d (suc i, lt, same) = there (plain_one x) (plain_one d) (plain ds) (plain_there ds d (i, omega (arith, lt), same))

plain_from : (ds : List Done) (p : Done) → Contains (plain ds) p → (d : Done) × Contains ds d × (plain_one d ≡ p)
plain_from [] p c = absurd (no_item p c)
plain_from (d ∷ ds) p (zero, lt, same) = (d, here d ds, same)
plain_from (d ∷ ds) p (suc i, lt, same) = let r = plain_from ds p (i, omega (arith, lt), same) in (r.0, there d r.0 ds r.1, r.2)

-- files that are the same up to their marks, under marks that are the same
same_marks : (some all : List Done) → Once [] some → Once [] all → ((x : List ℕ) → is_opened x some ≡ is_opened x all)
    → ((x : Done) → Contains (plain some) x → Contains (plain all) x) → StandAmong some all
same_marks some all once others marks within d c =
    let r = plain_from all (plain_one d) (within (plain_one d) (plain_there some d c)) in
    let name : r.0.name ≡ d.name = ap (λ (x : Done). x.name) r.2 in
    let opened : r.0.opened ≡ d.opened =
    sym (once_opened [] all others r.0 r.1) ∙ ap (λ (n : List ℕ). is_opened n all) name ∙ sym (marks d.name) ∙ once_opened [] some once d c in
    let same : r.0 ≡ d =
    ap (λ (b : Bool). record r.0 { opened = b }) opened ∙ ap (λ (x : Done). record x { opened = d.opened }) r.2 in
    subst (Contains all) same r.1

pub in_each_order : ClosesInEachOrder
in_each_order lookups resolves limit paths others done later ordered alike closed = record {
  again = first.again;
  closed = first.closed;
  alike = (
    same_marks first.again later (once_closed lookups resolves limit done ordered others first.again d)
        (once_closed lookups resolves limit done ordered paths later c) marks first.within,
    same_marks later first.again (once_closed lookups resolves limit done ordered paths later c)
        (once_closed lookups resolves limit done ordered others first.again d) (λ x. sym (marks x)) back,
  );
  as_many = as_many;
}
  where
    first : OpensSome lookups resolves limit others done later
    first = opens_some lookups resolves limit done ordered paths others later alike.1 closed

    second : OpensSome lookups resolves limit paths done first.again
    second = opens_some lookups resolves limit done ordered others paths first.again alike.0 first.closed

    same : second.again ≡ later
    same = ap (λ (o : List Done × Ended). o.0) (sym second.closed ∙ closed)

    c : Closed lookups resolves limit (plain done) paths done later
    c = accepted_first lookups resolves limit (plain done) paths done later (start_first lookups limit done) closed

    d : Closed lookups resolves limit (plain done) others done first.again
    d = accepted_first lookups resolves limit (plain done) others done first.again (start_first lookups limit done) first.closed

    marks : (x : List ℕ) → is_opened x first.again ≡ is_opened x later
    marks x = d.marks x ∙ ap (λ b. is_opened x done || b) (any_alike others paths alike.1 alike.0 (asks resolves x)) ∙ sym (c.marks x)

    back : (x : Done) → Contains (plain later) x → Contains (plain first.again) x
    back x k = second.within x (subst (λ (l : List Done). Contains (plain l) x) (sym same) k)

    as_many : length first.again ≡ length later
    as_many =
        let few : length first.again ≤ length later = first.few in
        let more : length second.again ≤ length first.again = second.few in
        let l : length second.again ≡ length later = ap (λ (ds : List Done). length ds) same in
        omega arith

pub opens_in_each_order : ClosesOnce → OpensInEachOrder
opens_in_each_order closes_once files resolves limit paths others done later again ordered alike first second = (
  subst (λ (ds : List Done). StandAlike ds later) same one.alike,
  subst (λ (ds : List Done). length ds ≡ length later) same one.as_many,
)
  where
    one : ClosesAlike first.0 resolves limit others done later
    one = in_each_order first.0 resolves limit paths others done later ordered alike first.2

    -- the look-ups of both come to one thing
    both : closure first.0 resolves limit others done ≡ closure second.0 resolves limit others done
    both =
        closes_once files resolves limit others done first.0 second.0 first.1 second.1
        (subst (λ (o : List Done × Ended). IsDecided o.1) (sym one.closed) tt) (subst (λ (o : List Done × Ended). IsDecided o.1) (sym second.2) tt)

    same : one.again ≡ again
    same = ap (λ (o : List Done × Ended). o.0) (sym one.closed ∙ both ∙ second.2)
