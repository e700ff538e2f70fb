use Rattle.std.proofs.Common.{◌∙◌, Some, None, ap, sym, arith}
use Rattle.std.proofs.lemmas.Str.Pattern.{split_parts}
use Rattle.pbx_link_definitions.specs.Names.{first_part as first_of}
use Rattle.pbx_link_names.proofs.Starts.{cut_first, whole_first}
use Rattle.pbx_link_names.proofs.package_names.first_part.Goals as goal

pub returns-in-Some : goal.returns-in-Some
returns-in-Some c =
    let cut = split_parts 46 c.args.name.now (Some (c.in-Some.first, c.in-Some.field-0-1)) c.in-Some.ensures.cases (omega arith) in
    cut_first c.in-Some.first.now c.in-Some.field-0-1.now cut.1 ∙ ap first_of (sym cut.0)

pub returns-in-None : goal.returns-in-None
returns-in-None c = whole_first c.args.name.now (split_parts 46 c.args.name.now None c.in-None.ensures.cases (omega arith))
