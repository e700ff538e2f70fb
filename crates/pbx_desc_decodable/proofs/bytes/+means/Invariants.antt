use Rattle.std.proofs.Common.{◌+◌, ◌*◌, length}
use Rattle.pbx_desc_decodable.specs.Fields.{fields_at}
use Rattle.pbx_desc_decodable.proofs.Reading.{HasGone}
use Rattle.pbx_desc_decodable.proofs.bytes.+means.Given as goal

abbrev pub decreases-payload_means : goal.decreases-payload_means
decreases-payload_means l = 5 * l.messages

abbrev pub decreases-field_means : goal.decreases-field_means
decreases-field_means l = 5 * l.messages + 1

abbrev pub decreases-rec_means : goal.decreases-rec_means
decreases-rec_means l = 5 * l.messages + 2

abbrev pub decreases-front_means : goal.decreases-front_means
decreases-front_means l = 5 * l.messages + 3

abbrev pub decreases-bytes_mean : goal.decreases-bytes_mean
decreases-bytes_mean l = 5 * l.messages + 4

abbrev pub invariant-bytes_mean-loop-rest : goal.invariant-bytes_mean-loop-rest
invariant-bytes_mean-loop-rest l = HasGone l.schema l.groups l.messages (fields_at l.schema l.owner) l.bytes l.rest

abbrev pub decreases-bytes_mean-loop-rest : goal.decreases-bytes_mean-loop-rest
decreases-bytes_mean-loop-rest l = length l.rest
