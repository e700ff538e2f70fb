use Rattle.std.proofs.Common.{◌≡◌, ◌∙◌, ℕ, List, ap, sym}
use Rattle.pbx_parse_token.specs.View.{tokens_of, FailsNot as lexed}
use Rattle.pbx_parse_tree.specs.View.{file_of}
use Rattle.pbx_parse_reader.specs.View.{FailsNot as spelled}
use Rattle.pbx_parse_tree.specs.Tree.{File}
use Rattle.pbx_desc_records.specs.declared.file.FileDescriptorProto.{FileDescriptorProto}
use Rattle.pbx_parse_locations.specs.declared.file.Extent.{Extent}
use Rattle.pbx_parse_locations.specs.Locations.{extent_of, locations_in}
use Rattle.pbx_parse_translation.specs.Translation.{translate_of}
use Rattle.pbx_parse.specs.Reads.{record_of}
use Rattle.pbx_parse.proofs.Refusals.{refuses_for, only_memory}
use Rattle.pbx_parse.proofs.reading.parse.Goals as goal

abbrev record_in : List ℕ → File → Extent → FileDescriptorProto
record_in name tree whole = translate_of name tree (locations_in whole tree)

pub returns-in-Err-clause-only : goal.returns-in-Err-clause-only
returns-in-Err-clause-only c = λ f r. only_memory f c.args.name.now (lexed c.in-Err.error) c.of_lexing.result (c.in-Err.ensures.only r.0 r.1) c.of_lexing.ensures

pub returns-in-Err-clause-refused : goal.returns-in-Err-clause-refused
returns-in-Err-clause-refused c = refuses_for c.args.name.now _ _ c.of_lexing.result (λ faulty f r. faulty (c.in-Err.ensures.only r.0 r.1)) c.of_lexing.ensures

pub returns-in-Err-read_file-clause-only : goal.returns-in-Err-read_file-clause-only
returns-in-Err-read_file-clause-only c = λ f r.
    let spells = ap tokens_of c.as_slice.ensures.value ∙ c.in-Ok.ensures.only r.0 r.1 ∙ r.3 in
    only_memory f c.args.name.now (spelled c.in-Err-read_file.error) c.of_reading.result (c.in-Err-read_file.ensures.only r.2 r.4 spells) c.of_reading.ensures

pub returns-in-Err-read_file-clause-refused : goal.returns-in-Err-read_file-clause-refused
returns-in-Err-read_file-clause-refused c =
    refuses_for c.args.name.now _ _ c.of_reading.result
    (λ faulty f r. let spells = ap tokens_of c.as_slice.ensures.value ∙ c.in-Ok.ensures.only r.0 r.1 ∙ r.3 in faulty (c.in-Err-read_file.ensures.only r.2 r.4 spells))
    c.of_reading.ensures

pub returns-in-Ok-record-clause-found : goal.returns-in-Ok-record-clause-found
returns-in-Ok-record-clause-found c =
    let tokens = tokens_of c.in-Ok.tokens.items in
    let read = c.in-Ok-read_file.ensures in
    let same : tokens_of c.as_slice.result.now ≡ tokens = ap tokens_of c.as_slice.ensures.value in (
      tokens,
      c.in-Ok.ensures.found,
      file_of c.in-Ok-read_file.file,
      sym same ∙ read.found,
      read.fits,
      c.in-Ok-record.ensures ∙ ap (record_in c.args.name.now (file_of c.in-Ok-read_file.file)) c.whole.ensures,
    )

pub returns-in-Ok-record-clause-only : goal.returns-in-Ok-record-clause-only
returns-in-Ok-record-clause-only c = λ f r.
    let lexed : tokens_of c.as_slice.result.now ≡ r.0 = ap tokens_of c.as_slice.ensures.value ∙ c.in-Ok.ensures.only r.0 r.1 in
    let whole = c.whole.ensures ∙ ap extent_of (c.in-Ok.ensures.only r.0 r.1) in
    let tree = c.in-Ok-read_file.ensures.only r.2 r.4 (lexed ∙ r.3) in
    c.in-Ok-record.ensures ∙ ap (record_in c.args.name.now (file_of c.in-Ok-read_file.file)) whole ∙ ap (record_of c.args.name.now r.0) tree ∙ sym r.5
