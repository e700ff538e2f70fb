use Rattle.std.proofs.Common.{◌≡◌, ◌∙◌, ◌||◌, ℕ, List, Bool, Bor, not, nat_cmp, bytes_eq, ap}
use Rattle.std.specs.List.{list_any}
use Rattle.std.specs.BTreeMap.{is_at}
use Rattle.std.specs.BTreeSet.{insert_key}
use Rattle.std.specs.Cmp.Lexicographic.{slice_cmp}
use Rattle.std.proofs.lemmas.Map.Text.{is_eq-slice_cmp}
use Rattle.std.proofs.lemmas.Slice.Eq.{bytes_eq-Decides}
use Rattle.pbx_link_definitions.proofs.Seen.{contains_is, has_inserted}
use Rattle.pbx_link_rules.proofs.Twice.{again_here, none_more, seen_more}
use Rattle.pbx_link_rules.proofs.names.repeated_name.Goals as goal

-- the set of these keys has the name
abbrev has : List (Bor (List ℕ)) → List ℕ → Bool
has keys q = list_any (λ k. bytes_eq q k.now) keys

-- what `insert` says of the names
new : (k : Bor (List ℕ)) (keys : List (Bor (List ℕ))) (name : List ℕ) (added : Bool) → k.now ≡ name
    → added ≡ not (list_any (is_at (λ y. slice_cmp nat_cmp k.now y.now)) keys) → added ≡ not (has keys name)
new k keys name added is e =
    e ∙ ap not (contains_is (λ x y. slice_cmp nat_cmp x.now y.now) (λ k. k.now) bytes_eq (λ x y. is_eq-slice_cmp x.now y.now) bytes_eq-Decides k keys)
    ∙ ap (λ (n : List ℕ). not (has keys n)) is

more : (k : Bor (List ℕ)) (keys after : List (Bor (List ℕ))) (name : List ℕ) → k.now ≡ name → after ≡ insert_key (λ x y. slice_cmp nat_cmp x.now y.now) keys k
    → (q : List ℕ) → has after q ≡ (bytes_eq q name || has keys q)
more k keys after name is e q =
    ap (λ (ks : List (Bor (List ℕ))). has ks q) e
    ∙ has_inserted (λ x y. slice_cmp nat_cmp x.now y.now) (λ k. k.now) bytes_eq (λ x y. is_eq-slice_cmp x.now y.now) bytes_eq-Decides q k keys
    ∙ ap (λ (n : List ℕ). bytes_eq q n || has keys q) is

pub returns-then-not-branch : goal.returns-then-not-branch
returns-then-not-branch c =
    let keys = c.loop-index.seen.keys in
    let name = c.index-names-index.result in
    again_here c.args.names.now c.loop-index.index name c.loop-index-test.true c.index-names-index.is (has keys) c.loop-index.invariant.seen
    c.in_ok-insert.field-0 (new c.as_str.result keys name c.in_ok-insert.field-0 c.as_str.ensures c.in_ok-insert.ensures.added) c.if-not-branch.true

pub loop-index-preserved : goal.loop-index-preserved
loop-index-preserved c =
    let keys = c.loop-index.seen.keys in
    let name = c.index-names-index.result in
    record {
      none = none_more c.args.names.now c.loop-index.index name c.loop-index-test.true c.index-names-index.is (has keys) c.loop-index.invariant.seen
          c.in_ok-insert.field-0 (new c.as_str.result keys name c.in_ok-insert.field-0 c.as_str.ensures c.in_ok-insert.ensures.added) c.if-not-branch.false
          c.loop-index.invariant.none;
      seen = seen_more c.args.names.now c.loop-index.index name c.loop-index-test.true c.index-names-index.is (has keys) c.loop-index.invariant.seen
          (has c.insert.new.self.keys) (more c.as_str.result keys c.insert.new.self.keys name c.as_str.ensures c.in_ok-insert.ensures.keys);
    }
