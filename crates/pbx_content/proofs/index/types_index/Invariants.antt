use Rattle.std.proofs.Common.{map, take}
use Rattle.std.specs.List.{AllByRecursion}
use Rattle.pbx_content.specs.Index.{AreIndexed}
use Rattle.pbx_content.proofs.SchemaTypes.{HasProperFields}
use Rattle.pbx_content.proofs.index.types_index.Given as goal

abbrev pub invariant-loop-message : goal.invariant-loop-message
invariant-loop-message l = record {
  proper : AllByRecursion HasProperFields (take l.message-index l.messages);
  indexed : AreIndexed (take l.message-index l.messages) (map (λ entries. entries.items) l.index.items);
}
