use Rattle.std.proofs.Common.{sym, subst}
use Rattle.pbx_link_definitions.specs.declared.error.DescriptorError.{DescriptorError}
use Rattle.pbx_link.specs.Bytes.{IsSetRefused}
use Rattle.pbx_link.proofs.Added.{undecoded_is, set_refused}
use Rattle.pbx_link.proofs.pool.DescriptorPool.decode_file_descriptor_set.Goals as goal

pub returns-in-Err-clause-refused : goal.returns-in-Err-clause-refused
returns-in-Err-clause-refused c =
    subst (λ (e : DescriptorError). IsSetRefused c.args.self.now c.args.bytes.now e) (sym c.undecoded.ensures)
    (set_refused c.args.self.now c.args.bytes.now _ (undecoded_is _ _ c.in-Err.fault c.in-Err.ensures.fault))
