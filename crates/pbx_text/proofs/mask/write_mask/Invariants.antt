use Rattle.std.proofs.Common.{drop, string_bytes}
use denote.Shadow.{shadow}
use denote.Text.{Utf8}
use Rattle.pbx_text.proofs.Joins.{HaveWritten}
use Rattle.pbx_text.proofs.mask.write_mask.Given as goal

abbrev pub invariant-loop-path : goal.invariant-loop-path
invariant-loop-path l = HaveWritten l.paths (string_bytes l.text) l.separator (drop l.path-index l.paths) × shadow (Utf8 l.separator)
