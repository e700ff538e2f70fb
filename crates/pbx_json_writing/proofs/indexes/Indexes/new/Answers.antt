use Rattle.pbx_json_writing.proofs.OfEnums.{indexes_none}
use Rattle.pbx_json_writing.proofs.indexes.Indexes.new.Goals as goal

pub returns : goal.returns
returns c = record { enums = indexes_none c.args.schema.now c.new.result c.new.ensures.empty; types = c.new-2.ensures }
