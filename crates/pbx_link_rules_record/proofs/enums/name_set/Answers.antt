use Rattle.std.proofs.Common.{nat_cmp}
use Rattle.std.specs.Cmp.Lexicographic.{slice_cmp}
use Rattle.std.proofs.lemmas.Map.Text.{is_eq-slice_cmp}
use Rattle.pbx_link_rules_record.proofs.Seen.{names_more}
use Rattle.pbx_link_rules_record.proofs.enums.name_set.Goals as goal

pub loop-name-preserved : goal.loop-name-preserved
loop-name-preserved c = λ q.
    names_more (λ x y. slice_cmp nat_cmp x.now y.now) (λ k. k.now) (λ x y. is_eq-slice_cmp x.now y.now) c.args.names.now c.loop-name.name-index c.name-item.result c.as_str.result c.loop-name.set.keys c.insert.new.self.keys q
    c.loop-name-test.true c.name-item.is c.as_str.ensures c.in_ok-insert.ensures.keys (c.loop-name.invariant q)
