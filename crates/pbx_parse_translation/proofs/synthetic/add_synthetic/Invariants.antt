use Rattle.std.proofs.Common.{◌≡◌, ℕ, List, ◌++◌, drop, map}
use Rattle.pbx_parse_translation.specs.Messages.{oneof_record}
use Rattle.pbx_parse_translation.specs.Synthetic.{synthetic_names}
use Rattle.pbx_parse_translation.specs.Scope.{Holds, BeginsWell}
use Rattle.pbx_parse_translation.proofs.synthetic.add_synthetic.Given as goal

abbrev pub invariant-each : goal.invariant-each
invariant-each l = (taken : List (List ℕ)) → Holds l.fn.scope taken
    → (now : List (List ℕ))
    × Holds l.scope now
    × BeginsWell l.x_counts now
    × (l.oneofs ++ map oneof_record (synthetic_names now (map (λ n. n.now) (drop l.field-index l.fields))) ≡ l.fn.oneofs ++ map oneof_record (synthetic_names taken (map (λ n. n.now) l.fields)))
