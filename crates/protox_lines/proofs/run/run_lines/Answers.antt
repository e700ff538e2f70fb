use Rattle.std.proofs.Common.{ap}
use Rattle.protox_io.specs.Disk.{Volume}
use Rattle.protox_lines.proofs.Ends.{whole}
use Rattle.protox_lines.proofs.run.run_lines.Goals as goal

pub returns : goal.returns
returns g c =
    whole _ c.obey-ended.result c.tell-status.ensures.status (λ all. c.obey-ended.ensures.told all.disk all.input all.out) c.obey-ended.ensures.words
    c.obey-ended.ensures.cause c.tell-status.ensures.said c.obey-ended.ensures.end c.obey-ended.ensures.keeps
    (record {
      disk = (ap (λ (v : Volume). v.tells) c.obey-ended.ensures.keeps, c.obey-ended.ensures.later);
      input = c.obey-ended.ensures.lasts;
      out = c.obey-ended.ensures.out_lasts;
      err = c.tell-status.ensures.lasts;
    })
