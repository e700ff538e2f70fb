use Rattle.protox_transcode.proofs.JsonText.{json_some, json_none, not_memory}
use Rattle.protox_transcode.proofs.text.read_json_text.Goals as goal

pub returns-in-Ok : goal.returns-in-Ok
returns-in-Ok c = json_some _ _ c.in-Ok.ensures.ok.0 c.in-Ok.ensures.ok.1

pub returns-else-is_memory : goal.returns-else-is_memory
returns-else-is_memory c = json_none c.args.text.now (c.in-Err.ensures.err (λ memory. not_memory c.is_memory.result (c.is_memory.ensures.1 memory) c.if-is_memory.false))
