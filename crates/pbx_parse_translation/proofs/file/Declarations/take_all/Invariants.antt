use Rattle.std.proofs.Common.{◌≡◌, ◌++◌, map}
use Rattle.std.specs.List.{flat_map}
use Rattle.pbx_parse_tree.specs.View.{top_of}
use Rattle.pbx_parse_translation.specs.Translation.{messages_in, enums_in, services_in, extensions_in}
use Rattle.pbx_parse_translation.proofs.file.Declarations.take_all.Given as goal

abbrev pub invariant-each : goal.invariant-each
invariant-each l = record {
  messages : l.self.messages ≡ l.fn.self.messages ++ flat_map (messages_in l.version) (map top_of l.yielded);
  enums : l.self.enums ≡ l.fn.self.enums ++ flat_map enums_in (map top_of l.yielded);
  services : l.self.services ≡ l.fn.self.services ++ flat_map services_in (map top_of l.yielded);
  extensions : l.self.extensions ≡ l.fn.self.extensions ++ flat_map (extensions_in l.version) (map top_of l.yielded);
}
