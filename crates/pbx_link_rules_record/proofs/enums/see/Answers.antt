use Rattle.std.proofs.Common.{◌≡◌, ◌∙◌, ◌||◌, ℤ, true, not, Option, to_z, of_z, w32, ap, sym, subst, rules}
use Rattle.std.specs.Prelude.{Some}
use Rattle.std.proofs.lemmas.Int.{to_z-of_z}
use Rattle.pbx_link_definitions.specs.Says.{are_equal}
use Rattle.pbx_link_rules_record.specs.Sets.{has_key}
use Rattle.pbx_link_rules_record.proofs.Seen.{number_seen, no_key}
use Rattle.pbx_link_rules_record.proofs.enums.see.Goals as goal

pub returns-in_ok-insert-in-Some-clause-seen : goal.returns-in_ok-insert-in-Some-clause-seen
returns-in_ok-insert-in-Some-clause-seen c = λ q.
    number_seen q (to_z w32 (of_z w32 c.in-Some.number)) c.args.seen.now.keys c.insert.new.self.keys c.in_ok-insert-in-Some.ensures.keys
    ∙ ap (λ (k : ℤ). are_equal (Some q) (Some k) || has_key c.args.seen.now.keys (Some q)) (to_z-of_z w32 c.in-Some.number (search rules))
    ∙ ap (λ (n : Option ℤ). are_equal (Some q) n || has_key c.args.seen.now.keys (Some q)) (sym c.in-Some.is)

pub returns-in-None-clause-is_new : goal.returns-in-None-clause-is_new
returns-in-None-clause-is_new c = subst (λ (n : Option ℤ). true ≡ not (has_key c.args.seen.now.keys n)) (sym c.in-None.is) (ap not (sym (no_key c.args.seen.now.keys)))
