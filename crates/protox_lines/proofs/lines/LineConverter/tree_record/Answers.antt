use Rattle.std.proofs.Common.{◌≡◌, rules, false, IfErr}
use Rattle.serde_json.specs.View.{view}
use Rattle.pbx_content_codec.specs.View.{content_of}
use Rattle.pbx_json_meaning.specs.Stands.{Stands}
use Rattle.protox_lines.specs.Parts.{IsContentFault}
use Rattle.protox_lines.proofs.Streams.{content_faults}
use Rattle.protox_lines.proofs.lines.LineConverter.tree_record.Goals as goal

pub returns-in-Ok-clause-err : goal.returns-in-Ok-clause-err
returns-in-Ok-clause-err c =
    let stands : Stands c.args.self.now.shape c.args.self.now.place false (view c.args.tree.now) (content_of c.in-Ok.content) = search rules in
    let err : IfErr c.content_record.result (IsContentFault c.args.self.now.shape c.args.self.now.place (content_of c.in-Ok.content)) = search rules in
    content_faults c.args.self.now.shape c.args.self.now.place (view c.args.tree.now) (content_of c.in-Ok.content) c.content_record.result stands err
