use Rattle.std.proofs.Common.{◌≡◌, Ok, Err, [], rules, arith, subst}
use Rattle.pbx_wire.specs.Spelling.{IsVarint}
use Rattle.protox_lines_items.specs.RecordLaws.{length_at, has_length}
use Rattle.protox_lines_items.proofs.Lengths.{chain_is, chain_long}
use Rattle.protox_lines_items.proofs.RecordCuts.{begun_is}
use Rattle.protox_lines_items.proofs.records.RecordCutter.begin_record.Goals as goal

pub returns-then-length-gt-LONGEST-clause-fault : goal.returns-then-length-gt-LONGEST-clause-fault
returns-then-length-gt-LONGEST-clause-fault c chain =
    let read : length_at c.args.self.now.prefix ≡ Ok (c.in-Ok.length, c.in-Ok.field-0-1.now) = search rules in
    (c.in-Ok.length, c.in-Ok.field-0-1.now, has_length c.args.self.now.prefix c.in-Ok.field-0-1.now c.in-Ok.length read, omega arith)

pub returns-else-length-gt-LONGEST-clause-begun : goal.returns-else-length-gt-LONGEST-clause-begun
returns-else-length-gt-LONGEST-clause-begun c chain =
    let read : length_at c.args.self.now.prefix ≡ Ok (c.in-Ok.length, c.in-Ok.field-0-1.now) = search rules in
    let is = chain_is c.args.self.now.prefix c.in-Ok.field-0-1.now c.in-Ok.length chain read in
    let same : c.args.self.now.prefix ≡ c.self.inside.prefix.items = search rules in
    let none : c.shrink_to.new.self.items ≡ [] = search rules in
    begun_is c.self.inside.prefix.items c.shrink_to.new.self.items c.in-Ok.length (subst (λ t. IsVarint t c.in-Ok.length) same is) none (omega arith)

pub returns-in-Err-clause-fault : goal.returns-in-Err-clause-fault
returns-in-Err-clause-fault c chain =
    let read : length_at c.args.self.now.prefix ≡ Err c.in-Err.field-0 = search rules in
    chain_long c.args.self.now.prefix c.in-Err.field-0 chain read
