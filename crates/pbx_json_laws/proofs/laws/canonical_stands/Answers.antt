use Rattle.pbx_json_laws.proofs.Rewritten.{canonical_stands, written_stands}
use Rattle.pbx_json_laws.proofs.laws.canonical_stands.Goals as goal

pub returns : goal.returns
returns c = record { canonical = canonical_stands; written = written_stands }
