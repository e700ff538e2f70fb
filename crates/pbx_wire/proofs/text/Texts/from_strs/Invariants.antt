use Rattle.std.proofs.Common.{◌≡◌, ◌++◌, map, drop}
use Rattle.pbx_wire.proofs.text.Texts.from_strs.Given as goal

abbrev pub invariant-loop-text : goal.invariant-loop-text
invariant-loop-text l = map (λ t. t.now) l.texts ≡ l.list ++ map (λ t. t.now) (drop l.text-index l.texts)
