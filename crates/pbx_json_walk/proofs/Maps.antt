-- A walk over the entries of a map finds what the whole object says.
use Rattle.std.proofs.Common.{◌≡◌, ◌⊎◌, ◌∙◌, ℕ, ℤ, ◌&&◌, ◌||◌, not, List, [], ◌∷◌, ◌++◌, Bool, true, false, if◌then◌else◌, Option, Some, None, option_map, option_and_then, Result, Ok, Err, refl, ap, sym, subst, inl, inr, append_assoc, append-nil, arith}
use Rattle.std.specs.Prelude.{int_lt, cond}
use Rattle.std.specs.FinMap.{int_cmp-IsAntisymmetric}
use Rattle.pbx_content.specs.Content.{bytes_before}
use Rattle.std.specs.List.{list_any}
use Rattle.std.specs.BTreeMap.{is_at}
use Rattle.std.specs.BTreeSet.{contains, insert_key}
use Rattle.std.specs.Ordering.{int_cmp, nat_cmp, match_ordering, is_eq, is_lt}
use Rattle.std.specs.Cmp.Lexicographic.{slice_cmp}
use Rattle.std.specs.declared.cmp.Ordering.{Ordering}
use Rattle.std.specs.declared.cmp.Ordering.TheVariants.{Less, Equal, Greater}
use Rattle.std.specs.Str.{bytes_eq}
use Rattle.std.specs.Cmp.{IsTotalOrder}
use Rattle.std.specs.Ordering.{ordering_reverse}
use Rattle.std.specs.Cmp.Lexicographic.{bytes_decides}
use Rattle.std.proofs.lemmas.Cmp.{nat_list_cmp_total, same_from_slice_cmp}
use Rattle.std.proofs.lemmas.Bool.Decides.{nat_tests}
use Rattle.std.specs.Prelude.{codes}
use Rattle.serde_json.specs.Data.{string}
use Rattle.pbx_content.specs.Content as content
use Rattle.pbx_content.specs.Content.{Val, Key, truth_key, number_key, text_key, Pairs, no_pairs, key_before, with_pair, by_key}
use Rattle.pbx_content.specs.declared.shape.Kind.{Kind}
use Rattle.pbx_json_meaning.specs.Asked.{one}
use Rattle.pbx_json_meaning.specs.Scalars.{key_read, key_of, word_read, integer_read, if_ok, family, Family, integers, truths, texts, bytes_texts, floats, messages, enums}
use Rattle.pbx_json_meaning.specs.Stands.{Entry, Reading, ok_of, all_read, entry_read, entries_read, if_differ, all_differ, is_alike, pairs_of}
use Rattle.pbx_json_meaning.specs.declared.kind.JsonKind.{JsonKind}
use Rattle.pbx_json_meaning.specs.declared.kind.JsonKind.TheVariants as fault
use Rattle.pbx_json_meaning.specs.declared.place.Step.TheVariants.{Key as to_key}
use Rattle.pbx_json_walk.specs.Walk.{Answer, Part, Entries, no_entries, is_used, with_used, with_pair_of, with_entry, unless_used, value_turn, walk_entries, map_value}
use Rattle.pbx_json_walk.specs.Walk.{and_then, at_step, or_here, answer_map}
use Rattle.pbx_json_walk.proofs.Agree.{Agrees, along}
use Rattle.pbx_json_walk.proofs.Walked.{AgreeParts}

-- ---- lists of entries that were read

abbrev pub Read : Type 0
Read = Key × Option Val

-- the pairs of these entries, in their order
abbrev pub pairs_in : List Read → List (Key × Val)
pairs_in [] = []
pairs_in ((k, None) ∷ es) = pairs_in es
pairs_in ((k, Some v) ∷ es) = (k, v) ∷ pairs_in es

sorted_pairs : (es : List Read) → pairs_of es ≡ by_key (pairs_in es)
sorted_pairs [] = refl
sorted_pairs ((k, None) ∷ es) = sorted_pairs es
sorted_pairs ((k, Some v) ∷ es) = ap (with_pair k v) (sorted_pairs es)

pairs_more : (es : List Read) (k : Key) (o : Option Val) → pairs_in (es ++ (k, o) ∷ []) ≡ with_pair_of k o (pairs_in es)
pairs_more [] k None = refl
pairs_more [] k (Some v) = refl
pairs_more ((l, None) ∷ es) k o = pairs_more es k o
pairs_more ((l, Some w) ∷ es) k None = ap (λ ps. (l, w) ∷ ps) (pairs_more es k None)
pairs_more ((l, Some w) ∷ es) k (Some v) = ap (λ ps. (l, w) ∷ ps) (pairs_more es k (Some v))

-- no key of these is alike
abbrev pub NoneAlike : Key → List Read → Type 0
NoneAlike k [] = Unit {0}
NoneAlike k (e ∷ es) = (is_alike e.0 k ≡ false) × NoneAlike k es

-- a key of these is alike
abbrev pub SomeAlike : Key → List Read → Type 0
SomeAlike k [] = ⊥
SomeAlike k (e ∷ es) = (is_alike e.0 k ≡ true) ⊎ SomeAlike k es

any_more : (k : Key) (e : Read) (es : List Read) (o : Option Val) → is_alike e.0 k ≡ false → list_any (λ x. is_alike e.0 x.0) (es ++ (k, o) ∷ []) ≡ list_any (λ x. is_alike e.0 x.0) es
any_more k e [] o h = rw h refl
any_more k e (x ∷ es) o h = ap (λ b. is_alike e.0 x.0 || b) (any_more k e es o h)

differ_more : (k : Key) (o : Option Val) (es : List Read) → NoneAlike k es → all_differ es ≡ true → all_differ (es ++ (k, o) ∷ []) ≡ true
differ_more k o [] n h = refl
differ_more k o (e ∷ es) n h =
    let parts = both (not (list_any (λ x. is_alike e.0 x.0) es)) (all_differ es) h in
    rw (any_more k e es o n.0, parts.0, differ_more k o es n.1 parts.1) refl
  where
    both : (a b : Bool) → (a && b) ≡ true → (a ≡ true) × (b ≡ true)
    both true b h = (refl, h)
    both false b h = absurd (cc)

any_there : (k : Key) (o : Option Val) (e : Read) (es rest : List Read) → is_alike e.0 k ≡ true → list_any (λ x. is_alike e.0 x.0) (es ++ (k, o) ∷ rest) ≡ true
any_there k o e [] rest h = rw h refl
any_there k o e (x ∷ es) rest h = rw (any_there k o e es rest h) (or_true (is_alike e.0 x.0))
  where
    or_true : (b : Bool) → (b || true) ≡ true
    or_true true = refl
    or_true false = refl

differ_not : (k : Key) (o : Option Val) (es rest : List Read) → SomeAlike k es → all_differ (es ++ (k, o) ∷ rest) ≡ false
differ_not k o [] rest h = absurd h
differ_not k o (e ∷ es) rest (inl h) = rw (any_there k o e es rest h) refl
differ_not k o (e ∷ es) rest (inr h) = rw (differ_not k o es rest h) (and_false (not (list_any (λ x. is_alike e.0 x.0) (es ++ (k, o) ∷ rest))))
  where
    and_false : (b : Bool) → (b && false) ≡ false
    and_false true = refl
    and_false false = refl

-- ---- numbers as keys

alike_back : (k l : Key) → is_alike k l ≡ is_alike l k
alike_back k l = and_back (not (key_before k l)) (not (key_before l k))
  where
    and_back : (a b : Bool) → (a && b) ≡ (b && a)
    and_back true true = refl
    and_back true false = refl
    and_back false true = refl
    and_back false false = refl

at_alike : (z y : ℤ) → is_at (int_cmp z) y ≡ is_alike (number_key z) (number_key y)
at_alike z y = at (int_lt z y) (int_lt y z)
  where
    at : (a b : Bool) → is_eq (cond a Less (cond b Greater Equal)) ≡ (not a && not b)
    at true b = refl
    at false true = refl
    at false false = refl

swap : (a b c : Bool) → (a || (b || c)) ≡ (b || (a || c))
swap true true c = refl
swap true false c = refl
swap false b c = refl

twice : (a c : Bool) → (a || c) ≡ (a || (a || c))
twice true c = refl
twice false c = refl

-- the number is in the set where it was put in, or was there
put_in : (ks : List ℤ) (k n : ℤ) → contains int_cmp (record { keys = insert_key int_cmp ks k }) n ≡ (is_at (int_cmp n) k || contains int_cmp (record { keys = ks }) n)
put_in [] k n = refl
put_in (x ∷ xs) k n = at (int_cmp k x) refl (put_in xs k n)
  where
    at : (o : Ordering) → int_cmp k x ≡ o
        → contains int_cmp (record { keys = insert_key int_cmp xs k }) n ≡ (is_at (int_cmp n) k || contains int_cmp (record { keys = xs }) n)
        → contains int_cmp (record { keys = match_ordering o (k ∷ x ∷ xs) (x ∷ xs) (x ∷ insert_key int_cmp xs k) }) n
        ≡ (is_at (int_cmp n) k || contains int_cmp (record { keys = x ∷ xs }) n)
    at Less e ih = refl
    at Equal e ih =
        let same : k ≡ x = int_cmp-IsAntisymmetric k x e in
        let own : is_at (int_cmp n) x ≡ is_at (int_cmp n) k = ap (is_at (int_cmp n)) (sym same) in
        rw own (twice (is_at (int_cmp n) k) (contains int_cmp (record { keys = xs }) n))
    at Greater e ih = ap (λ b. is_at (int_cmp n) x || b) ih ∙ swap (is_at (int_cmp n) x) (is_at (int_cmp n) k) (contains int_cmp (record { keys = xs }) n)

-- ---- entries with the texts of their keys

abbrev pub Seen : Type 0
Seen = List ℕ × Read

abbrev pub reads : List Seen → List Read
reads [] = []
reads (d ∷ ds) = d.1 ∷ reads ds

reads_more : (ds : List Seen) (d : Seen) → reads (ds ++ d ∷ []) ≡ reads ds ++ d.1 ∷ []
reads_more [] d = refl
reads_more (x ∷ ds) d = ap (λ es. x.1 ∷ es) (reads_more ds d)

-- each text is less than this one, and its key was read of it
abbrev pub AreBelow : Kind → List ℕ → List Seen → Type 0
AreBelow kk s [] = Unit {0}
AreBelow kk s (d ∷ ds) = (slice_cmp nat_cmp d.0 s ≡ Less) × (key_read kk d.0 ≡ Ok d.1.0) × AreBelow kk s ds

-- each is another number
abbrev pub NoNumber : ℤ → List Read → Type 0
NoNumber z [] = Unit {0}
NoNumber z (e ∷ es) = ((y : ℤ) → e.0 ≡ number_key y → is_alike (number_key y) (number_key z) ≡ false) × NoNumber z es

is_before : (xs ys : List ℕ) (o : Ordering) → o ≡ slice_cmp nat_cmp xs ys → is_lt o ≡ bytes_before xs ys
is_before = same_from_slice_cmp nat_cmp is_lt bytes_before refl (λ _ _. refl) (λ _ _. refl) (λ x y xs ys o h. grind (arith, nat_tests))

less_before : (a b : List ℕ) → slice_cmp nat_cmp a b ≡ Less → bytes_before a b ≡ true
less_before a b h = sym (is_before a b (slice_cmp nat_cmp a b) refl) ∙ ap is_lt h

abbrev AtLess : Ordering → Type 0
AtLess Less = ⊥
AtLess Equal = Unit {0}
AtLess Greater = Unit {0}

not_itself : (a : List ℕ) → slice_cmp nat_cmp a a ≡ Less → ⊥
not_itself a h =
    let back : Less ≡ Greater = sym h ∙ IsTotalOrder.antisymm nat_list_cmp_total a a ∙ ap ordering_reverse h in
    subst AtLess (sym back) tt

-- the word of a truth value
abbrev word : Bool → List ℕ
word true = codes "true"
word false = codes "false"

is_word : (s : List ℕ) (b : Bool) → word_read s ≡ Ok b → s ≡ word b
is_word s b h = at (bytes_eq s (codes "true")) refl (bytes_eq s (codes "false")) refl h
  where
    at : (p : Bool) → bytes_eq s (codes "true") ≡ p → (q : Bool) → bytes_eq s (codes "false") ≡ q → (if p then Ok true else if q then Ok false else Err fault.WrongKind) ≡ Ok b → s ≡ word b
    at true e q f k = let same : true ≡ b = cc in (bytes_decides s (codes "true")).0 e ∙ ap word same
    at false e true f k = let same : false ≡ b = cc in (bytes_decides s (codes "false")).0 f ∙ ap word same
    at false e false f k = absurd (cc)

truths_apart : (a b : Bool) (s t : List ℕ) → s ≡ word a → t ≡ word b → slice_cmp nat_cmp s t ≡ Less → is_alike (truth_key a) (truth_key b) ≡ false
truths_apart true false s t e f h = refl
truths_apart false true s t e f h = refl
truths_apart true true s t e f h = absurd (not_itself s (subst (λ x. slice_cmp nat_cmp s x ≡ Less) (f ∙ sym e) h))
truths_apart false false s t e f h = absurd (not_itself s (subst (λ x. slice_cmp nat_cmp s x ≡ Less) (f ∙ sym e) h))

texts_apart : (s t : List ℕ) (k l : Key) → ◌≡◌ {A = Result Key JsonKind} (Ok (text_key s)) (Ok k) → ◌≡◌ {A = Result Key JsonKind} (Ok (text_key t)) (Ok l)
    → slice_cmp nat_cmp s t ≡ Less → is_alike k l ≡ false
texts_apart s t k l a b h =
    let ka : text_key s ≡ k = cc in
    let lb : text_key t ≡ l = cc in
    let before : bytes_before s t ≡ true = less_before s t h in
    rw (← ka, ← lb, before) refl

-- keys of two texts that differ are not alike, if they are no numbers or numbers that differ
keys_apart : (f : Family) (s t : List ℕ) (k l : Key) → key_of f s ≡ Ok k → key_of f t ≡ Ok l → slice_cmp nat_cmp s t ≡ Less
    → ((y z : ℤ) → k ≡ number_key y → l ≡ number_key z → is_alike k l ≡ false) → is_alike k l ≡ false
keys_apart (integers min max) s t k l a b h n = at (integer_read min max (string s)) (integer_read min max (string t)) a b
  where
    at : (r q : Result ℤ JsonKind) → if_ok r (λ z. Ok (number_key z)) ≡ Ok k → if_ok q (λ z. Ok (number_key z)) ≡ Ok l → is_alike k l ≡ false
    at (Ok y) (Ok z) c d = let e : number_key y ≡ k = cc in let f : number_key z ≡ l = cc in n y z (sym e) (sym f)
    at (Err x) q c d = absurd (cc)
    at (Ok y) (Err x) c d = absurd (cc)
keys_apart truths s t k l a b h n = at (word_read s) refl (word_read t) refl a b
  where
    at : (r : Result Bool JsonKind) → word_read s ≡ r → (q : Result Bool JsonKind) → word_read t ≡ q
        → if_ok r (λ x. Ok (truth_key x)) ≡ Ok k → if_ok q (λ x. Ok (truth_key x)) ≡ Ok l → is_alike k l ≡ false
    at (Ok x) u (Ok y) v c d =
        let e : truth_key x ≡ k = cc in
        let f : truth_key y ≡ l = cc in
        rw (← e, ← f) (truths_apart x y s t (is_word s x u) (is_word t y v) h)
    at (Err x) u q v c d = absurd (cc)
    at (Ok x) u (Err y) v c d = absurd (cc)
keys_apart texts s t k l a b h n = texts_apart s t k l a b h
keys_apart bytes_texts s t k l a b h n = texts_apart s t k l a b h
keys_apart floats s t k l a b h n = texts_apart s t k l a b h
keys_apart (messages i) s t k l a b h n = texts_apart s t k l a b h
keys_apart (enums i) s t k l a b h n = texts_apart s t k l a b h

-- a key that no number before it is, of a greater text
none_alike : (kk : Kind) (t : List ℕ) (l : Key) (ds : List Seen) → key_read kk t ≡ Ok l → AreBelow kk t ds → ((z : ℤ) → l ≡ number_key z → NoNumber z (reads ds)) → NoneAlike l (reads ds)
none_alike kk t l [] r b n = tt
none_alike kk t l (d ∷ ds) r b n =
    (keys_apart (family kk) d.0 t d.1.0 l b.1 r b.0 (λ y z e f. rw (e, f) ((n z f).0 y e)), none_alike kk t l ds r b.2 (λ z f. (n z f).1))

-- ---- the state

pub record Holds (kk : Kind) (ds : List Seen) (es : Entries) : Type 0 where
  pub used : (k : Key) → is_used k es.numbers ≡ true → SomeAlike k (reads ds)
  pub unused : (z : ℤ) → contains int_cmp es.numbers z ≡ false → NoNumber z (reads ds)
  pub pairs : es.pairs ≡ pairs_in (reads ds)
  pub differ : all_differ (reads ds) ≡ true

some_more : (k : Key) (es : List Read) (e : Read) → SomeAlike k es → SomeAlike k (es ++ e ∷ [])
some_more k [] e h = absurd h
some_more k (x ∷ es) e (inl h) = inl h
some_more k (x ∷ es) e (inr h) = inr (some_more k es e h)

some_last : (k : Key) (es : List Read) (e : Read) → is_alike e.0 k ≡ true → SomeAlike k (es ++ e ∷ [])
some_last k [] e h = inl h
some_last k (x ∷ es) e h = inr (some_last k es e h)

no_more : (z : ℤ) (es : List Read) (e : Read) → NoNumber z es → ((y : ℤ) → e.0 ≡ number_key y → is_alike (number_key y) (number_key z) ≡ false) → NoNumber z (es ++ e ∷ [])
no_more z [] e n h = (h, tt)
no_more z (x ∷ es) e n h = (n.0, no_more z es e n.1 h)

pub below_more : (kk : Kind) (s t : List ℕ) (ds : List Seen) (d : Seen) → AreBelow kk s ds → slice_cmp nat_cmp s t ≡ Less → slice_cmp nat_cmp d.0 t ≡ Less → key_read kk d.0 ≡ Ok d.1.0
    → AreBelow kk t (ds ++ d ∷ [])
below_more kk s t [] d b lt h r = (h, r, tt)
below_more kk s t (x ∷ ds) d b lt h r = (IsTotalOrder.trans nat_list_cmp_total x.0 s t b.0 lt, b.1, below_more kk s t ds d b.2 lt h r)

-- with an entry more
module _ (kk : Kind) (s : List ℕ) (k : Key) (o : Option Val) (ds : List Seen) (es : Entries) (read : key_read kk s ≡ Ok k) (below : AreBelow kk s ds) (holds : Holds kk ds es)
    (free : is_used k es.numbers ≡ false) where
  used_more : (l : Key) (q : Key) → k ≡ q → is_used l (with_used q es.numbers) ≡ true → SomeAlike l (reads ds ++ (k, o) ∷ [])
  used_more (truth_key b) q e h = absurd (cc)
  used_more (text_key t) q e h = absurd (cc)
  used_more (number_key z) (truth_key b) e h = some_more (number_key z) (reads ds) (k, o) (holds.used (number_key z) h)
  used_more (number_key z) (text_key t) e h = some_more (number_key z) (reads ds) (k, o) (holds.used (number_key z) h)
  used_more (number_key z) (number_key y) e h = at (is_at (int_cmp z) y) refl (sym (put_in es.numbers.keys y z) ∙ h)
    where
      at : (b : Bool) → is_at (int_cmp z) y ≡ b → (b || contains int_cmp es.numbers z) ≡ true → SomeAlike (number_key z) (reads ds ++ (k, o) ∷ [])
      at true f g = some_last (number_key z) (reads ds) (k, o)
          (ap (λ x. is_alike x (number_key z)) e ∙ alike_back (number_key y) (number_key z) ∙ sym (at_alike z y) ∙ f)
      at false f g = some_more (number_key z) (reads ds) (k, o) (holds.used (number_key z) g)

  neither : (a b : Bool) → (a || b) ≡ false → (a ≡ false) × (b ≡ false)
  neither true b h = absurd (cc)
  neither false b h = (refl, h)

  number_is : (y x : ℤ) → number_key y ≡ number_key x → y ≡ x
  number_is y x h = cc

  unused_more : (z : ℤ) (q : Key) → k ≡ q → contains int_cmp (with_used q es.numbers) z ≡ false → NoNumber z (reads ds ++ (k, o) ∷ [])
  unused_more z (truth_key b) e h = no_more z (reads ds) (k, o) (holds.unused z h) (λ y f. absurd (let bad : truth_key b ≡ number_key y = sym e ∙ f in cc))
  unused_more z (text_key t) e h = no_more z (reads ds) (k, o) (holds.unused z h) (λ y f. absurd (let bad : text_key t ≡ number_key y = sym e ∙ f in cc))
  unused_more z (number_key x) e h =
      let parts = neither (is_at (int_cmp z) x) (contains int_cmp es.numbers z) (sym (put_in es.numbers.keys x z) ∙ h) in
      no_more z (reads ds) (k, o) (holds.unused z parts.1) (λ y f.
      let same : x ≡ y = number_is x y (sym e ∙ f) in
      ap (λ w. is_alike (number_key w) (number_key z)) (sym same) ∙ alike_back (number_key x) (number_key z) ∙ sym (at_alike z x) ∙ parts.0)

  pub alone : NoneAlike k (reads ds)
  alone = none_alike kk s k ds read below (λ z f. holds.unused z (ap (λ q. is_used q es.numbers) (sym f) ∙ free))

  pub holds_more : Holds kk (ds ++ (s, (k, o)) ∷ []) (with_entry k es o)
  holds_more = record {
    used = λ l h. subst (SomeAlike l) (sym (reads_more ds (s, (k, o)))) (used_more l k refl h);
    unused = λ z h. subst (NoNumber z) (sym (reads_more ds (s, (k, o)))) (unused_more z k refl h);
    pairs = ap (with_pair_of k o) holds.pairs ∙ sym (pairs_more (reads ds) k o) ∙ ap pairs_in (sym (reads_more ds (s, (k, o))));
    differ = ap all_differ (reads_more ds (s, (k, o))) ∙ differ_more k o (reads ds) alone holds.differ;
  }

-- ---- the walk

abbrev pub AboveParts : List ℕ → List Part → Type 0
AboveParts k [] = Unit {0}
AboveParts k (p ∷ ps) = (slice_cmp nat_cmp k p.key ≡ Less) × AboveParts p.key ps

-- the keys ascend
abbrev pub AscendingParts : List Part → Type 0
AscendingParts [] = Unit {0}
AscendingParts (p ∷ ps) = AboveParts p.key ps

-- what was read stands before the keys that are left, which ascend
abbrev Ahead : Kind → List Seen → List Part → Type 0
Ahead kk ds [] = Unit {0}
Ahead kk ds (p ∷ ps) = AreBelow kk p.key ds × AboveParts p.key ps

-- what is said of the entries so far and those that are left
abbrev said_with : List Read → Option (List Read) → Reading
said_with done r = option_and_then if_differ (option_map (λ rest. done ++ rest) r)

-- with one entry before those that are left
abbrev before_rest : Option (List Read) → Option Read → Option (List Read)
before_rest r x = option_and_then (λ y. option_map (λ ys. y ∷ ys) r) x

maps_end : (kk : Kind) (ds : List Seen) (es : Entries) → Holds kk ds es → said_with (reads ds) (Some []) ≡ Some (map_value es)
maps_end kk ds es holds =
    ap if_differ (append-nil (reads ds))
    ∙ rw holds.differ (ap (λ ps. Some (Some (content.keyed ps))) (sorted_pairs (reads ds) ∙ ap by_key (sym holds.pairs)))

used_fault : (k : Key) (done : List Read) (r : Option (List Read)) (o : Option (Option Val)) → SomeAlike k done → said_with done (before_rest r (option_map (λ v. (k, v)) o)) ≡ None
used_fault k done r None h = refl
used_fault k done None (Some o) h = refl
used_fault k done (Some rest) (Some o) h = rw (differ_not k o done rest h) refl

one_on : (ds : List Seen) (s : List ℕ) (k : Key) (o : Option Val) (r : Option (List Read)) → said_with (reads (ds ++ (s, (k, o)) ∷ [])) r ≡ said_with (reads ds) (before_rest r (Some (k, o)))
one_on ds s k o None = refl
one_on ds s k o (Some rest) = ap if_differ (ap (λ es. es ++ rest) (reads_more ds (s, (k, o))) ∙ append_assoc (reads ds) ((k, o) ∷ []) rest)

ahead_more : (kk : Kind) (ds : List Seen) (p : Part) (ps : List Part) (k : Key) (o : Option Val) → Ahead kk ds (p ∷ ps) → key_read kk p.key ≡ Ok k → Ahead kk (ds ++ (p.key, (k, o)) ∷ []) ps
ahead_more kk ds p [] k o a r = tt
ahead_more kk ds p (q ∷ ps) k o a r = (below_more kk p.key q.key ds (p.key, (k, o)) a.0 a.1.0 a.1.0 r, a.1.1)

module _ (kk vk : Kind) (p : Part) (ps : List Part) (ds : List Seen) (st : Entries) (holds : Holds kk ds st) (ahead : Ahead kk ds (p ∷ ps)) (rest : Option (List Read))
    (says : Option (Option Val)) (agree : Agrees says (p.answers (one vk)))
    (ih : (qs : List Seen) (es : Entries) → Holds kk qs es → Ahead kk qs ps → Agrees (said_with (reads qs) rest) (answer_map map_value (walk_entries kk vk ps es))) where
  fresh : (k : Key) → key_read kk p.key ≡ Ok k → is_used k st.numbers ≡ false → (a : Answer (Option Val)) → Agrees says a
      → Agrees (said_with (reads ds) (before_rest rest (option_map (λ v. (k, v)) says))) (answer_map map_value (and_then (at_step (to_key p.key) (answer_map (with_entry k st) a)) (walk_entries kk vk ps)))
  fresh k read free (Err e) (inl n) = inl n
  fresh k read free (Err e) (inr n) = inr (ap (λ x. said_with (reads ds) (before_rest rest (option_map (λ v. (k, v)) x))) n)
  fresh k read free (Ok o) e =
      along (said_with (reads (ds ++ (p.key, (k, o)) ∷ [])) rest) _ (answer_map map_value (walk_entries kk vk ps (with_entry k st o)))
      (one_on ds p.key k o rest ∙ ap (λ x. said_with (reads ds) (before_rest rest (option_map (λ v. (k, v)) x))) (sym e))
      (ih (ds ++ (p.key, (k, o)) ∷ []) (with_entry k st o) (holds_more kk p.key k o ds st read ahead.0 holds free) (ahead_more kk ds p ps k o ahead read))

  by_use : (k : Key) → key_read kk p.key ≡ Ok k → (b : Bool) → is_used k st.numbers ≡ b
      → Agrees (said_with (reads ds) (before_rest rest (option_map (λ v. (k, v)) says)))
      (answer_map map_value (and_then (at_step (to_key p.key) (and_then (or_here (if b then Err fault.DuplicateKey else Ok k)) (value_turn vk p.answers st))) (walk_entries kk vk ps)))
  by_use k read true u = inr (used_fault k (reads ds) rest says (holds.used k u))
  by_use k read false u = fresh k read u (p.answers (one vk)) agree

  by_key_read : (r : Result Key JsonKind) → key_read kk p.key ≡ r
      → Agrees (said_with (reads ds) (before_rest rest (option_and_then (λ k. option_map (λ v. (k, v)) says) (ok_of r))))
      (answer_map map_value (and_then (at_step (to_key p.key) (and_then (or_here (if_ok r (unless_used st))) (value_turn vk p.answers st))) (walk_entries kk vk ps)))
  by_key_read (Err x) e = inr refl
  by_key_read (Ok k) e = by_use k e (is_used k st.numbers) refl

entries_walked : (kk vk : Kind) (es : List Entry) (ps : List Part) → AgreeParts es ps → (ds : List Seen) (st : Entries) → Holds kk ds st → Ahead kk ds ps
    → Agrees (said_with (reads ds) (all_read (entry_read kk vk) es)) (answer_map map_value (walk_entries kk vk ps st))
entries_walked kk vk [] [] h ds st holds ahead = maps_end kk ds st holds
entries_walked kk vk [] (p ∷ ps) h ds st holds ahead = absurd h
entries_walked kk vk (e ∷ es) [] h ds st holds ahead = absurd h
entries_walked kk vk (e ∷ es) (p ∷ ps) h ds st holds ahead =
    subst (λ k. Agrees (said_with (reads ds) (before_rest (all_read (entry_read kk vk) es) (option_and_then (λ l. option_map (λ v. (l, v)) (e.says (one vk))) (ok_of (key_read kk k)))))
    (answer_map map_value (walk_entries kk vk (p ∷ ps) st))) (sym h.0)
    (by_key_read kk vk p ps ds st holds ahead (all_read (entry_read kk vk) es) (e.says (one vk)) (h.1 (one vk)) (λ qs more hold go. entries_walked kk vk es ps h.2 qs more hold go)
    (key_read kk p.key) refl)

pub nothing_read : (kk : Kind) → Holds kk [] no_entries
nothing_read kk = record { used = none; unused = λ z h. tt; pairs = refl; differ = refl }
  where
    none : (k : Key) → is_used k no_entries.numbers ≡ true → SomeAlike k []
    none (truth_key b) h = absurd (cc)
    none (number_key z) h = absurd (cc)
    none (text_key s) h = absurd (cc)

ahead_first : (kk : Kind) (ps : List Part) → AscendingParts ps → Ahead kk [] ps
ahead_first kk [] h = tt
ahead_first kk (p ∷ ps) h = (tt, h)

same_rest : (r : Option (List Read)) → option_and_then if_differ (option_map (λ rest. [] ++ rest) r) ≡ option_and_then if_differ r
same_rest None = refl
same_rest (Some rest) = refl

-- what the walk over entries finds is what the object says
pub entries_agree : (kk vk : Kind) (es : List Entry) (ps : List Part) → AgreeParts es ps → AscendingParts ps
    → Agrees (entries_read kk vk es) (answer_map map_value (walk_entries kk vk ps no_entries))
entries_agree kk vk es ps h ascending =
    along (said_with [] (all_read (entry_read kk vk) es)) (entries_read kk vk es) (answer_map map_value (walk_entries kk vk ps no_entries)) (same_rest (all_read (entry_read kk vk) es))
    (entries_walked kk vk es ps h [] no_entries (nothing_read kk) (ahead_first kk ps ascending))
