use Rattle.protox_run.proofs.Endings.{stopped_told, stopped_path}
use Rattle.protox_run.proofs.carry.write_file.Goals as goal

pub returns-in-Err-Failed-clause-told : goal.returns-in-Err-Failed-clause-told
returns-in-Err-Failed-clause-told g c tells =
    stopped_path c.args.write.now c.in-Some.write (g.D.Disk.volume c.args.disk.now) (g.D.Disk.volume c.write_file.new.self) c.in-Some.is (c.in-Err-Failed.ensures.told tells)

pub returns-clause-told : goal.returns-clause-told
returns-clause-told g c tells =
    stopped_told c.args.write.now c.in-Some.write (g.D.Disk.volume c.args.disk.now) (g.D.Disk.volume c.write_file.new.self) c.in-Some.is (c.in-Err-NoMemory.ensures.told tells)
