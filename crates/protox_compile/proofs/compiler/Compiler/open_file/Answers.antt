use Rattle.std.proofs.Common.{◌≡◌, ap, refl, IsTrue, true}
use Rattle.protox_compile_walk.specs.Opening.{root_of}
use Rattle.protox_compile_walk.specs.Opens.{is_settled}
use Rattle.protox_compile.proofs.compiler.Compiler.open_file.Goals as goal

pub returns-clause-ok : goal.returns-clause-ok
returns-clause-ok g c tells =
    let same : c.self.inside.resolver ≡ c.args.self.now.resolver = ap (λ s. s.resolver) c.self.view_is in
    let told : IsTrue (g.R.FileResolver.library c.self.inside.resolver).tells = rw same tells in
    rw (← c.self.view_is) (c.open_path.ensures.ok told)

pub returns-clause-err : goal.returns-clause-err
returns-clause-err g c tells =
    let same : c.self.inside.resolver ≡ c.args.self.now.resolver = ap (λ s. s.resolver) c.self.view_is in
    let told : IsTrue (g.R.FileResolver.library c.self.inside.resolver).tells = rw same tells in
    rw (← c.self.view_is) (c.open_path.ensures.err told)

pub returns-clause-again : goal.returns-clause-again
returns-clause-again g c tells settled =
    let same : c.self.inside.resolver ≡ c.args.self.now.resolver = ap (λ s. s.resolver) c.self.view_is in
    let files : c.self.inside.finished ≡ c.args.self.now.done = ap (λ s. s.done) c.self.view_is in
    let told : IsTrue (g.R.FileResolver.library c.self.inside.resolver).tells = rw same tells in
    let there : is_settled (root_of (g.R.FileResolver.library c.self.inside.resolver).resolves c.args.path.now) c.self.inside.finished ≡ true = rw (same, files) settled in
    rw (← c.self.view_is) (c.open_path.ensures.again told there)

pub returns-clause-unread : goal.returns-clause-unread
returns-clause-unread g c = rw (← c.self.view_is) c.open_path.ensures.unread

pub returns-clause-report : goal.returns-clause-report
returns-clause-report g c tells =
    let same : c.self.inside.resolver ≡ c.args.self.now.resolver = ap (λ s. s.resolver) c.self.view_is in
    let told : IsTrue (g.R.FileResolver.library c.self.inside.resolver).tells = rw same tells in
    rw (← c.self.view_is) (c.open_path.ensures.report told)

pub returns-clause-keeps : goal.returns-clause-keeps
returns-clause-keeps g c = record {
  settings = rw (← c.self.view_is) refl;
  files = record { keeps = rw (← c.self.view_is) c.open_path.ensures.keeps; later = rw (← c.self.view_is) c.open_path.ensures.later };
}
