use Rattle.pbx_content.specs.Content.{get, fields}
use Rattle.pbx_content_codec.specs.View.{content_of}
use Rattle.pbx_text.specs.Timestamp.{timestamp_written}
use Rattle.pbx_json_meaning.specs.Forms.{number_in}
use Rattle.pbx_json_writing.proofs.forms.timestamp_tree.Goals as goal

pub returns-clause-refused : goal.returns-clause-refused
returns-clause-refused c =
    c.told_text.ensures.refused
    (timestamp_written (number_in (get 1 (fields (content_of c.args.contents.now)))) (number_in (get 2 (fields (content_of c.args.contents.now)))))
    c.timestamp_text-written.ensures
