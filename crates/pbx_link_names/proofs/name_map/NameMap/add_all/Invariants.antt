use Rattle.std.proofs.Common.{◌≡◌, ℕ, List, take}
use Rattle.std.specs.Option.{option_or}
use Rattle.pbx_link_names.specs.Names.{without, under, first_under}
use Rattle.pbx_link_names.proofs.name_map.NameMap.add_all.Given as goal

abbrev pub invariant-loop-name : goal.invariant-loop-name
invariant-loop-name g l = record {
  put : (q : List ℕ) → under q l.self ≡ option_or (under q l.initial.self) (first_under q (take l.name-index l.items));
  undone : (q : List ℕ) → without q l.added.items (under q l.self) ≡ under q l.initial.self;
}
