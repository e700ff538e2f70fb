use Rattle.std.proofs.Common.{◌≡◌, ◌∙◌, ℕ, true, List, not, bytes_eq, nat_cmp, refl, ap, sym, rules, tests}
use Rattle.std.specs.List.{list_any}
use Rattle.std.specs.Cmp.Lexicographic.{slice_cmp}
use Rattle.std.proofs.lemmas.Map.Text.{is_eq-slice_cmp}
use Rattle.std.proofs.lemmas.Slice.Eq.{bytes_eq-Decides}
use Rattle.pbx_link_definitions.specs.Says.{own_name, is_repeated}
use Rattle.pbx_link_definitions.proofs.Seen.{contains_is, has_inserted}
use Rattle.pbx_link_rules_scope.proofs.Entries.{other_fits, other_named, shared_here, entry_fits, entry_named, none_bad}
use Rattle.pbx_link_rules_scope.proofs.maps.bad_field.Goals as goal
use Rattle.pbx_link_rules_scope.proofs.maps.bad_field.Goals.{in-Some+else-not-is_repeated+else-ne+in_ok-insert+else-not-branch, in_default}

pub returns-then-not-branch : goal.returns-then-not-branch
returns-then-not-branch g c =
    let files = g.V.Visible.files c.args.seen.now in
    let x = c.index-fields-index.result in
    let p = c.in-Some.entry in
    let repeated : is_repeated x ≡ true = search (rules, tests) in
    let held : bytes_eq p.scope c.args.scope.now ≡ true = search (rules, tests) in
    shared_here files c.args.scope.now c.args.fields.now c.loop-index.index x c.loop-index-test.true c.index-fields-index.is p
    (sym c.in-Some.is ∙ c.in_ok-entry.ensures)
    (is_repeated x) (bytes_eq p.scope c.args.scope.now) refl repeated refl held c.loop-index.invariant.none
    c.text_or_empty.result.now (c.text_or_empty.ensures ∙ ap own_name c.item.ensures) (λ (q : List ℕ). list_any (λ k. bytes_eq q k.now) c.loop-index.names.keys)
    c.loop-index.invariant.named c.in_ok-insert.field-0
    (c.in_ok-insert.ensures.added
    ∙ ap not (contains_is (λ x y. slice_cmp nat_cmp x.now y.now) (λ k. k.now) bytes_eq (λ x y. is_eq-slice_cmp x.now y.now) bytes_eq-Decides
    c.text_or_empty.result c.loop-index.names.keys))
    c.if-not-branch.true

pub loop-index-preserved : goal.loop-index-preserved
loop-index-preserved g c =
    let files = g.V.Visible.files c.args.seen.now in
    let x = c.index-fields-index.result in
    elim c.match-branch-2.branch [
      | in-Some+else-not-is_repeated+else-ne+in_ok-insert+else-not-branch w ↦
          let p = w.in-Some.entry in
          let repeated : is_repeated x ≡ true = search (rules, tests) in
          let held : bytes_eq p.scope c.args.scope.now ≡ true = search (rules, tests) in
          let added = w.in_ok-insert.ensures.added
          ∙ ap not (contains_is (λ x y. slice_cmp nat_cmp x.now y.now) (λ k. k.now) bytes_eq (λ x y. is_eq-slice_cmp x.now y.now) bytes_eq-Decides
          w.text_or_empty.result c.loop-index.names.keys) in
          record {
            none = entry_fits files c.args.scope.now c.args.fields.now c.loop-index.index x c.loop-index-test.true c.index-fields-index.is p
                (sym w.in-Some.is ∙ c.in_ok-entry.ensures) (is_repeated x) (bytes_eq p.scope c.args.scope.now) refl repeated refl held
                c.loop-index.invariant.none
                w.text_or_empty.result.now (w.text_or_empty.ensures ∙ ap own_name w.item.ensures)
                (λ (q : List ℕ). list_any (λ k. bytes_eq q k.now) c.loop-index.names.keys)
                c.loop-index.invariant.named w.in_ok-insert.field-0 added w.if-not-branch.false;
            named = entry_named files c.args.scope.now c.args.fields.now c.loop-index.index x c.loop-index-test.true c.index-fields-index.is p
                (sym w.in-Some.is ∙ c.in_ok-entry.ensures) (is_repeated x) (bytes_eq p.scope c.args.scope.now) refl repeated refl held
                c.loop-index.invariant.none
                w.text_or_empty.result.now (w.text_or_empty.ensures ∙ ap own_name w.item.ensures)
                (λ (q : List ℕ). list_any (λ k. bytes_eq q k.now) c.loop-index.names.keys)
                c.loop-index.invariant.named (λ (q : List ℕ). list_any (λ k. bytes_eq q k.now) c.match-branch-2.names.keys)
                (λ q. ap (λ ks. list_any (λ k. bytes_eq q k.now) ks) (ap (λ s. s.keys) w.names-is ∙ w.in_ok-insert.ensures.keys)
                ∙ has_inserted (λ x y. slice_cmp nat_cmp x.now y.now) (λ k. k.now) bytes_eq (λ x y. is_eq-slice_cmp x.now y.now) bytes_eq-Decides q
                w.text_or_empty.result c.loop-index.names.keys);
          }
      | in_default w ↦
          let none = sym w.in_default.is ∙ c.in_ok-entry.ensures in
          record {
            none = other_fits files c.args.scope.now c.args.fields.now c.loop-index.index x c.loop-index-test.true c.index-fields-index.is none
                c.loop-index.invariant.none;
            named = λ q. ap (λ s. list_any (λ k. bytes_eq q k.now) s.keys) w.names-is
                ∙ other_named files c.args.scope.now c.args.fields.now c.loop-index.index x c.loop-index-test.true c.index-fields-index.is none
                (λ (r : List ℕ). list_any (λ k. bytes_eq r k.now) c.loop-index.names.keys) c.loop-index.invariant.named q;
          }
    ]

pub returns : goal.returns
returns g c =
    none_bad (g.V.Visible.files c.args.seen.now) c.args.scope.now c.args.fields.now c.loop-index.index c.loop-index-test.false c.loop-index.invariant.none
