use Rattle.pbx_text.proofs.PathsBack.{paths_back, texts_back}
use Rattle.pbx_text.proofs.laws.masks_read_back.Goals as goal

pub returns : goal.returns
returns c = (texts_back, paths_back)
