use Rattle.std.proofs.Common.{◌≡◌, ◌++◌, false, string_bytes}
use Rattle.std.specs.Str.Iter.{chars_rest}
use Rattle.pbx_link_record.specs.Linked.{camel_from}
use Rattle.pbx_link_record.proofs.json_names.default_json_name.Given as goal

abbrev pub invariant-loop-c : goal.invariant-loop-c
invariant-loop-c l = camel_from false l.name ≡ string_bytes l.camel ++ camel_from l.behind (chars_rest l.c-iterator)
