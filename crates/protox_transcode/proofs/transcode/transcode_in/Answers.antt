use Rattle.protox_transcode.specs.Input.{data_of}
use Rattle.protox_transcode.proofs.Transcoding.{not_clear, not_transcoded}
use Rattle.protox_transcode.proofs.transcode.transcode_in.Goals as goal

pub returns-in-Err-check_clear-clause-err : goal.returns-in-Err-check_clear-clause-err
returns-in-Err-check_clear-clause-err c =
    not_clear c.args.type_name.now (data_of c.args.tree) c.args.pool.now c.in-Err-check_clear.error c.in-Ok.ensures.decodable c.in-Err-check_clear.ensures.err

pub returns-in-Err-transcode_named-clause-err : goal.returns-in-Err-transcode_named-clause-err
returns-in-Err-transcode_named-clause-err c =
    not_transcoded c.args.type_name.now (data_of c.args.tree) c.args.pool.now c.in-Err-transcode_named.error c.in-Ok.ensures.decodable
    c.in-Ok-check_clear.ensures.ok.clear (c.in-Err-transcode_named.ensures.err c.in-Ok-check_clear.ensures.ok)

pub returns-in-Ok-transcode_named-clause-ok : goal.returns-in-Ok-transcode_named-clause-ok
returns-in-Ok-transcode_named-clause-ok c =
    record {
      decodable = c.in-Ok.ensures.decodable;
      set_is = c.in-Ok.ensures.bytes;
      clear = c.in-Ok-check_clear.ensures.ok.clear;
      transcodes = c.in-Ok-transcode_named.ensures.ok c.in-Ok-check_clear.ensures.ok;
    }
