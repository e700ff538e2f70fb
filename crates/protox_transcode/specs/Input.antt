-- The tree to be transcoded.
use Rattle.serde_json.specs.Data.{Data}
use Rattle.serde_json.specs.View.{view}
use Rattle.protox_transcode.specs.declared.input_tree.InputTree.{InputTree}
use Rattle.protox_transcode.specs.declared.input_tree.InputTree.TheVariants.{Borrowed, Owned}

abbrev pub data_of : InputTree → Data
data_of (Borrowed tree) = view tree.now
data_of (Owned tree) = view tree
