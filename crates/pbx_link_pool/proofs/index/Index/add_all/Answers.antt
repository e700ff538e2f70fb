use Rattle.std.proofs.Common.{refl}
use Rattle.pbx_link_pool.proofs.Maps.{alike_after}
use Rattle.pbx_link_pool.proofs.index.Index.add_all.Goals as goal

pub returns-in_err-add_all-2-clause-alike : goal.returns-in_err-add_all-2-clause-alike
returns-in_err-add_all-2-clause-alike c = record {
  file_names = alike_after c.add_all.result c.args.items.now.file_names c.as_slice.result.now c.args.self.now.file_names c.add_all.new.self c.as_slice.ensures c.add_all.ensures.ok c.add_all.ensures.err;
  definitions = alike_after c.add_all-2.result c.args.items.now.definitions c.as_slice-2.result.now c.args.self.now.definitions c.add_all-2.new.self c.as_slice-2.ensures c.add_all-2.ensures.ok c.add_all-2.ensures.err;
  places = record { messages = λ q. refl; enums = λ q. refl; extensions = λ q. refl; services = λ q. refl };
}

pub returns-in_err-add_all-3-clause-alike : goal.returns-in_err-add_all-3-clause-alike
returns-in_err-add_all-3-clause-alike c = record {
  file_names = alike_after c.add_all.result c.args.items.now.file_names c.as_slice.result.now c.args.self.now.file_names c.add_all.new.self c.as_slice.ensures c.add_all.ensures.ok c.add_all.ensures.err;
  definitions = alike_after c.add_all-2.result c.args.items.now.definitions c.as_slice-2.result.now c.args.self.now.definitions c.add_all-2.new.self c.as_slice-2.ensures c.add_all-2.ensures.ok c.add_all-2.ensures.err;
  places = c.add_all-3.ensures.alike;
}

pub returns-clause-alike : goal.returns-clause-alike
returns-clause-alike c = record {
  file_names = alike_after c.add_all.result c.args.items.now.file_names c.as_slice.result.now c.args.self.now.file_names c.add_all.new.self c.as_slice.ensures c.add_all.ensures.ok c.add_all.ensures.err;
  definitions = alike_after c.add_all-2.result c.args.items.now.definitions c.as_slice-2.result.now c.args.self.now.definitions c.add_all-2.new.self c.as_slice-2.ensures c.add_all-2.ensures.ok c.add_all-2.ensures.err;
  places = c.add_all-3.ensures.alike;
}
