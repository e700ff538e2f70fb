use Rattle.std.proofs.Common.{List, IfOk, IfErr, OnOk, subst}
use Rattle.protox_compile_walk.specs.Walk.{Done}
use Rattle.protox_compile.specs.State.{State}
use Rattle.protox_compile.specs.Sets.{listed, IsSet, AreDecodable, IsUnencodable}
use Rattle.protox_compile.proofs.Listed.{listed_again}
use Rattle.protox_compile.proofs.compiler.Compiler.encode_file_descriptor_set.Goals as goal

pub returns-clause-ok : goal.returns-clause-ok
returns-clause-ok g c =
    let same = listed_again c.metadata.result.now c.pool-pool.result c.self.inside.finished c.metadata.ensures c.pool-pool.ensures.pool in
    let P : List Done → Type 0 = λ ds. IfOk c.encode_listed.result (λ bytes. IsSet (listed c.self.inside.imports c.self.inside.source_info ds) bytes.items) in
    let W : State g.row.R.Denot → Type 0 = λ s. IfOk c.encode_listed.result (λ bytes. IsSet (listed s.imports s.info s.done) bytes.items) in
    subst W c.self.view_is (subst P same c.encode_listed.ensures.ok)

pub returns-clause-decodable : goal.returns-clause-decodable
returns-clause-decodable g c =
    let same = listed_again c.metadata.result.now c.pool-pool.result c.self.inside.finished c.metadata.ensures c.pool-pool.ensures.pool in
    let P : List Done → Type 0 = λ ds. OnOk c.encode_listed.result (AreDecodable (listed c.self.inside.imports c.self.inside.source_info ds)) in
    let W : State g.row.R.Denot → Type 0 = λ s. OnOk c.encode_listed.result (AreDecodable (listed s.imports s.info s.done)) in
    subst W c.self.view_is (subst P same c.encode_listed.ensures.decodable)

pub returns-clause-err : goal.returns-clause-err
returns-clause-err g c =
    let same = listed_again c.metadata.result.now c.pool-pool.result c.self.inside.finished c.metadata.ensures c.pool-pool.ensures.pool in
    let P : List Done → Type 0 = λ ds. IfErr c.encode_listed.result (IsUnencodable (listed c.self.inside.imports c.self.inside.source_info ds)) in
    let W : State g.row.R.Denot → Type 0 = λ s. IfErr c.encode_listed.result (IsUnencodable (listed s.imports s.info s.done)) in
    subst W c.self.view_is (subst P same c.encode_listed.ensures.err)
