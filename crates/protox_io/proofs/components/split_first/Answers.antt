use Rattle.std.proofs.Common.{lit<}
use Rattle.std.proofs.lemmas.Str.Pattern.{split_parts}
use Rattle.protox_io.proofs.Split.{parts_some, parts_none}
use Rattle.protox_io.proofs.components.split_first.Goals as goal

pub returns-in-Some-clause-parts : goal.returns-in-Some-clause-parts
returns-in-Some-clause-parts c =
    let (is, none) = rw c.in-Some.is at (split_parts 47 c.args.path.now c.split_once.result c.split_once.ensures.cases (lit< tt)) in
    parts_some c.args.path.now c.in-Some.part.now c.in-Some.rest.now is none

pub returns-in-None-clause-parts : goal.returns-in-None-clause-parts
returns-in-None-clause-parts c =
    let none = rw c.in-None.is at (split_parts 47 c.args.path.now c.split_once.result c.split_once.ensures.cases (lit< tt)) in
    parts_none c.args.path.now none
