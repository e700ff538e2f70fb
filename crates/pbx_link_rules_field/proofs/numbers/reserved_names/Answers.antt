use Rattle.std.proofs.Common.{◌∙◌, ◌||◌, ℕ, Bool, List, bytes_eq, nat_cmp, take, get_or, ap, sym}
use Rattle.std.specs.List.{list_any}
use Rattle.std.specs.Cmp.Lexicographic.{slice_cmp}
use Rattle.std.proofs.lemmas.List.Folds.{list_any_more}
use Rattle.std.proofs.lemmas.Map.Text.{is_eq-slice_cmp}
use Rattle.std.proofs.lemmas.Slice.Eq.{bytes_eq-Decides}
use Rattle.pbx_link_definitions.specs.Names.{among}
use Rattle.pbx_link_definitions.proofs.Seen.{swap, has_inserted, either_way}
use Rattle.pbx_link_rules_field.proofs.numbers.reserved_names.Goals as goal

pub loop-name-preserved : goal.loop-name-preserved
loop-name-preserved c = λ q.
    let names : List (List ℕ) = c.as_slice-name-items.result.now in
    ap (λ ks. list_any (λ k. bytes_eq q k.now) ks) c.in_ok-insert.ensures.keys
    ∙ has_inserted (λ x y. slice_cmp nat_cmp x.now y.now) (λ k. k.now) bytes_eq (λ x y. is_eq-slice_cmp x.now y.now) bytes_eq-Decides q
    c.as_str.result c.loop-name.names.keys
    ∙ swap (bytes_eq q c.as_str.result.now) (list_any (λ k. bytes_eq q k.now) c.loop-name.names.keys)
    ∙ ap (λ (b : Bool). b || bytes_eq q c.as_str.result.now) (c.loop-name.invariant q)
    ∙ ap (λ (n : List ℕ). among (take c.loop-name.name-index names) q || bytes_eq q n) (c.as_str.ensures ∙ c.name-item.is)
    ∙ ap (λ (b : Bool). among (take c.loop-name.name-index names) q || b) (either_way bytes_eq bytes_eq-Decides q (get_or names
    c.loop-name.name-index c.name-item.result))
    ∙ sym (list_any_more (λ (other : List ℕ). bytes_eq other q) names c.loop-name.name-index c.name-item.result c.loop-name-test.true)
