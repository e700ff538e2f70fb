use Rattle.std.proofs.Common.{◌≡◌, IsTrue, ap}
use Rattle.protox_compile.proofs.compiling.open_all.Goals as goal

pub returns-in-Err-open_each-clause-err : goal.returns-in-Err-open_each-clause-err
returns-in-Err-open_each-clause-err g c tells =
    let same : c.in-Ok.compiler.resolver ≡ c.args.resolver = ap (λ s. s.resolver) c.in-Ok.ensures.ok in
    let told : IsTrue (g.R.FileResolver.library c.in-Ok.compiler.resolver).tells = rw same tells in
    rw same at (c.in-Err-open_each.ensures.err told)
