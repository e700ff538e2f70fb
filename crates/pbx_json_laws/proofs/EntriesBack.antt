-- An object of entries reads back as the pairs of a map.
use Rattle.std.proofs.Common.{◌≡◌, ℕ, ◌&&◌, ◌||◌, List, [], ◌∷◌, Bool, true, false, Option, Some, None, option_map, option_and_then, Ordering, Less, Equal, Greater, nat_cmp, is_eq, refl, ap, sym, ◌∙◌, subst}
use Rattle.std.specs.Prelude.{not, Ok}
use Rattle.std.specs.Ordering.{match_ordering}
use Rattle.std.specs.Cmp.Lexicographic.{slice_cmp}
use Rattle.std.specs.Str.{bytes_eq}
use Rattle.std.proofs.lemmas.Slice.Eq.{bytes_eq-Decides}
use Rattle.std.proofs.lemmas.Map.Text.{is_eq-slice_cmp}
use Rattle.serde_json.specs.Data.{Data, Members, no_members, member, put}
use Rattle.pbx_content.specs.Content as content
use Rattle.pbx_content.specs.Content.{Val, Pairs, Key, key_before, with_pair}
use Rattle.pbx_content.specs.Sound.{IsBefore}
use Rattle.pbx_content.specs.declared.shape.Kind.{Kind}
use Rattle.pbx_content.specs.declared.shape.Shape.{Shape}
use Rattle.pbx_json_meaning.specs.Asked.{one}
use Rattle.pbx_json_meaning.specs.Canonical.{Line, has_key, with_line, members_of_lines}
use Rattle.pbx_json_meaning.specs.Scalars.{key_read}
use Rattle.pbx_json_meaning.specs.Stands.{Entry, ok_of, all_read, with_entry, pairs_of, is_alike, all_differ, entry_read, said, entries_said}
use Rattle.pbx_json_laws.proofs.KeyOrder.{with_first, alike_swaps, commutes, never_before_itself, Found, any_key, before_through}
use Rattle.pbx_json_laws.proofs.Parts.{neither, nor_of, from_then, from_map, from_ok_of, one_ok}

-- one more entry, somewhere among the others
pub record IsWith (k : Key) (v : Val) (old new : Found) : Type 0 where
  pub pairs : pairs_of new ≡ with_pair k v (pairs_of old)
  pub differ : all_differ new ≡ true
  pub any : (p : Key → Bool) → any_key p new ≡ (p k || any_key p old)

with_both : (k l : Key) (v : Val) (o : Option Val) (ps : Pairs) → is_alike k l ≡ false
    → with_entry (l, o) (with_pair k v ps) ≡ with_pair k v (with_entry (l, o) ps)
with_both k l v None ps h = refl
with_both k l v (Some w) ps h = sym (commutes k l v w ps h)

or_swaps : (a b c : Bool) → (a || (b || c)) ≡ (b || (a || c))
or_swaps true true c = refl
or_swaps true false c = refl
or_swaps false b c = refl

in_front : (k : Key) (v : Val) (es : Found) → all_differ es ≡ true → any_key (is_alike k) es ≡ false → IsWith k v es ((k, Some v) ∷ es)
in_front k v es differ new = record { pairs = refl; differ = rw (new, differ) refl; any = λ p. refl }

tail_differs : (e : Key × Option Val) (es : Found) → all_differ (e ∷ es) ≡ true → (any_key (is_alike e.0) es ≡ false) × (all_differ es ≡ true)
tail_differs e es h = at (any_key (is_alike e.0) es) (all_differ es) h
  where
    at : (a b : Bool) → (not a && b) ≡ true → (a ≡ false) × (b ≡ true)
    at true b k = absurd (cc)
    at false b k = (refl, k)

-- with another entry in front of both
behind : (k : Key) (v : Val) (e : Key × Option Val) (old new : Found) → all_differ (e ∷ old) ≡ true → any_key (is_alike k) (e ∷ old) ≡ false
    → IsWith k v old new → IsWith k v (e ∷ old) (e ∷ new)
behind k v e old new differ fresh it = record {
  pairs = ap (with_entry e) it.pairs ∙ with_both k e.0 v e.1 (pairs_of old) apart.0;
  differ = rw (it.any (is_alike e.0), alike_swaps e.0 k, apart.0, (tail_differs e old differ).0, it.differ) refl;
  any = λ p. ap (λ x. p e.0 || x) (it.any p) ∙ or_swaps (p e.0) (p k) (any_key p old);
}
  where
    apart : (is_alike k e.0 ≡ false) × (any_key (is_alike k) old ≡ false)
    apart = neither (is_alike k e.0) (any_key (is_alike k) old) fresh

module _ (shape : Shape) (allow : Bool) (kk vk : Kind) where
  -- what the entries of an object read as
  abbrev pub found_in : Members → Option Found
  found_in ms = all_read (entry_read kk vk) (entries_said shape allow ms)

  module _ (s : List ℕ) (k : Key) (d : Data) (v : Val) (reads : key_read kk s ≡ Ok k) (says : said shape allow d (one vk) ≡ Some (Some v)) where
    entry_is : entry_read kk vk (record { key = s; says = said shape allow d }) ≡ Some (k, Some v)
    entry_is = rw reads (ap (option_map (λ w. (k, w))) says)

    front_read : (ms : Members) (es : Found) → found_in ms ≡ Some es → found_in (member s d ms) ≡ Some ((k, Some v) ∷ es)
    front_read ms es h =
        ap (option_and_then (λ y. option_map (λ ys. y ∷ ys) (found_in ms))) entry_is ∙ ap (option_map (λ ys. (k, Some v) ∷ ys)) h

    -- a member more is an entry more
    put_read : (ms : Members) (es : Found) → has_key s ms ≡ false → found_in ms ≡ Some es → all_differ es ≡ true → any_key (is_alike k) es ≡ false
        → (new : Found) × (found_in (put s d ms) ≡ Some new) × IsWith k v es new
    put_read no_members es free h differ fresh = ((k, Some v) ∷ es, front_read no_members es h, in_front k v es differ fresh)
    put_read (member l e ms) es free h differ fresh =
        let first = from_then (λ y. option_map (λ ys. y ∷ ys) (found_in ms)) (entry_read kk vk entry) es h in
        let rest = from_map (λ ys. first.0 ∷ ys) (found_in ms) es first.2 in
        at (slice_cmp nat_cmp s l) refl first.0 first.1 rest.0 rest.1 rest.2
        (λ d f. put_read ms rest.0 (neither (bytes_eq l s) (has_key s ms) free).1 rest.1 d f)
      where
        entry : Entry
        entry = record { key = l; says = said shape allow e }

        at : (o : Ordering) → slice_cmp nat_cmp s l ≡ o → (x : Key × Option Val) → entry_read kk vk entry ≡ Some x
            → (xs : Found) → found_in ms ≡ Some xs → x ∷ xs ≡ es
            → (all_differ xs ≡ true → any_key (is_alike k) xs ≡ false → (new : Found) × (found_in (put s d ms) ≡ Some new) × IsWith k v xs new)
            → (new : Found)
            × (found_in (match_ordering o (member s d (member l e ms)) (member l d ms) (member l e (put s d ms))) ≡ Some new) × IsWith k v es new
        at Less q x p xs r same ih = ((k, Some v) ∷ es, front_read (member l e ms) es h, in_front k v es differ fresh)
        at Equal q x p xs r same ih =
            let eq : bytes_eq l s ≡ true = (bytes_eq-Decides l s).1 (sym ((bytes_eq-Decides s l).0 (sym (is_eq-slice_cmp s l) ∙ ap is_eq q))) in
            let bad : bytes_eq l s ≡ false = (neither (bytes_eq l s) (has_key s ms) free).0 in
            absurd (cc)
        at Greater q x p xs r same ih =
            let differ' : all_differ (x ∷ xs) ≡ true = ap all_differ same ∙ differ in
            let fresh' : any_key (is_alike k) (x ∷ xs) ≡ false = ap (any_key (is_alike k)) same ∙ fresh in
            let it = ih (tail_differs x xs differ').1 (neither (is_alike k x.0) (any_key (is_alike k) xs) fresh').1 in
            let P : Found → Type 0 = λ old. IsWith k v old (x ∷ it.0) in (
              x ∷ it.0,
              ap (option_and_then (λ y. option_map (λ ys. y ∷ ys) (found_in (put s d ms)))) p ∙ ap (option_map (λ ys. x ∷ ys)) it.1,
              subst P same (behind k v x xs it.0 differ' fresh' it.2),
            )

  -- a key that is there is one of those that are read
  key_there : (s : List ℕ) (k : Key) → key_read kk s ≡ Ok k → (p : Key → Bool) → p k ≡ true → (ms : Members) (es : Found) → found_in ms ≡ Some es
      → any_key p es ≡ false → has_key s ms ≡ false
  key_there s k reads p here no_members es h none = refl
  key_there s k reads p here (member l e ms) es h none =
      let first = from_then (λ y. option_map (λ ys. y ∷ ys) (found_in ms)) (entry_read kk vk entry) es h in
      let rest = from_map (λ ys. first.0 ∷ ys) (found_in ms) es first.2 in
      let key = from_then (λ x. option_map (λ w. (x, w)) (said shape allow e (one vk))) (ok_of (key_read kk l)) first.0 first.1 in
      let value = from_map (λ w. (key.0, w)) (said shape allow e (one vk)) first.0 key.2 in
      let parts = neither (p first.0.0) (any_key p rest.0) (ap (any_key p) rest.2 ∙ none) in
      at (bytes_eq l s) refl key.0 (from_ok_of (key_read kk l) key.0 key.1) (ap (λ (x : Key × Option Val). p x.0) value.2 ∙ parts.0)
      (key_there s k reads p here ms rest.0 rest.1 parts.1)
    where
      entry : Entry
      entry = record { key = l; says = said shape allow e }

      at : (b : Bool) → bytes_eq l s ≡ b → (x : Key) → key_read kk l ≡ Ok x → p x ≡ false → has_key s ms ≡ false → (b || has_key s ms) ≡ false
      at false q x r n ih = ih
      at true q x r n ih =
          let eq : l ≡ s = (bytes_eq-Decides l s).0 q in
          let same : x ≡ k = one_ok (key_read kk l) x k r (ap (key_read kk) eq ∙ reads) in
          let bad : p x ≡ true = ap p same ∙ here in
          absurd (cc)

  -- ---- all lines

  -- the lines of pairs: each key reads as the pair's, each tree as its value, and the keys ascend
  abbrev pub LinesSay : Pairs → List Line → Type 0
  LinesSay content.no_pairs [] = Unit {0}
  LinesSay (content.pair l v ps) (line ∷ ls) =
      (key_read kk line.0 ≡ Ok l) × ((d : Data) × (line.1 ≡ Some d) × (said shape allow d (one vk) ≡ Some (Some v))) × IsBefore l ps × LinesSay ps ls
  LinesSay _ _ = ⊥

  -- a key does not stand before the other
  abbrev not_before : Key → Key → Bool
  not_before j k = not (key_before j k)

  -- the members read as the pairs
  pub record ReadsAs (ps : Pairs) (ms : Members) : Type 0 where
    pub found : Found
    pub reads : found_in ms ≡ Some found
    pub pairs : pairs_of found ≡ ps
    pub differ : all_differ found ≡ true
    pub later : (j : Key) → IsBefore j ps → any_key (not_before j) found ≡ false

  fresh_from : (l : Key) (es : Found) → any_key (not_before l) es ≡ false → any_key (is_alike l) es ≡ false
  fresh_from l [] h = refl
  fresh_from l (e ∷ es) h =
      let parts = neither (not_before l e.0) (any_key (not_before l) es) h in
      nor_of (is_alike l e.0) (any_key (is_alike l) es) (rw parts.0 refl) (fresh_from l es parts.1)

  pub lines_read : (ps : Pairs) (ls : List Line) → LinesSay ps ls → (ms : Members) × (members_of_lines ls ≡ Some ms) × ReadsAs ps ms
  lines_read content.no_pairs [] h = (no_members, refl, record { found = []; reads = refl; pairs = refl; differ = refl; later = λ j e. refl })
  lines_read content.no_pairs (line ∷ ls) h = absurd h
  lines_read (content.pair l v ps) [] h = absurd h
  lines_read (content.pair l v ps) (line ∷ ls) h = step (lines_read ps ls h.3)
    where
      step : (ms : Members) × (members_of_lines ls ≡ Some ms) × ReadsAs ps ms
          → (ms : Members) × (members_of_lines (line ∷ ls) ≡ Some ms) × ReadsAs (content.pair l v ps) ms
      step it = (
        put line.0 h.1.0 it.0,
        made,
        record {
          found = more.0;
          reads = more.1;
          pairs = more.2.pairs ∙ ap (with_pair l v) it.2.pairs ∙ with_first l v ps h.2;
          differ = more.2.differ;
          later = after;
        },
      )
        where
          later : any_key (not_before l) it.2.found ≡ false
          later = it.2.later l h.2

          free : has_key line.0 it.0 ≡ false
          free = key_there line.0 l h.0 (not_before l) (rw (never_before_itself l) refl) it.0 it.2.found it.2.reads later

          made : members_of_lines (line ∷ ls) ≡ Some (put line.0 h.1.0 it.0)
          made = ap (λ x. with_line line.0 x (members_of_lines ls)) h.1.1 ∙ ap (with_line line.0 (Some h.1.0)) it.1 ∙ rw free refl

          more : (new : Found) × (found_in (put line.0 h.1.0 it.0) ≡ Some new) × IsWith l v it.2.found new
          more = put_read line.0 l h.1.0 v h.0 h.1.2 it.0 it.2.found free it.2.reads it.2.differ (fresh_from l it.2.found later)

          after : (j : Key) → IsBefore j (content.pair l v ps) → any_key (not_before j) more.0 ≡ false
          after j e = more.2.any (not_before j) ∙ nor_of (not_before j l) (any_key (not_before j) it.2.found) (rw e refl) (it.2.later j (before_through j l ps e h.2))
