use Rattle.std.proofs.Common.{◌≡◌, rules}
use Rattle.std.specs.List.{concat}
use Rattle.protox_file_error.specs.Lines.{before_line, line_of, behind_line}
use Rattle.protox_file_error.proofs.Said.{long}
use Rattle.protox_file_error.proofs.lines.long_line.Goals as goal

pub returns : goal.returns
returns c =
    let before : c.as_str.result.now ≡ concat (before_line c.args.kind.now) = search rules in
    let line : c.as_str-2.result.now ≡ concat (line_of c.args.kind.now) = search rules in
    let behind : c.as_str-3.result.now ≡ concat (behind_line c.args.kind.now) = search rules in
    long c.three.result c.args.kind.now _ _ _ before line behind c.three.ensures
