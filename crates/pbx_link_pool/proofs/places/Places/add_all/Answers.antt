use Rattle.std.proofs.Common.{refl}
use Rattle.pbx_link_pool.proofs.Maps.{alike_after}
use Rattle.pbx_link_pool.proofs.places.Places.add_all.Goals as goal

pub returns-in_err-add_all-2-clause-alike : goal.returns-in_err-add_all-2-clause-alike
returns-in_err-add_all-2-clause-alike c = record {
  messages = alike_after c.add_all.result c.args.items.now.messages c.as_slice.result.now c.args.self.now.messages c.add_all.new.self c.as_slice.ensures c.add_all.ensures.ok c.add_all.ensures.err;
  enums = alike_after c.add_all-2.result c.args.items.now.enums c.as_slice-2.result.now c.args.self.now.enums c.add_all-2.new.self c.as_slice-2.ensures c.add_all-2.ensures.ok c.add_all-2.ensures.err;
  extensions = λ q. refl;
  services = λ q. refl;
}

pub returns-in_err-add_all-3-clause-alike : goal.returns-in_err-add_all-3-clause-alike
returns-in_err-add_all-3-clause-alike c = record {
  messages = alike_after c.add_all.result c.args.items.now.messages c.as_slice.result.now c.args.self.now.messages c.add_all.new.self c.as_slice.ensures c.add_all.ensures.ok c.add_all.ensures.err;
  enums = alike_after c.add_all-2.result c.args.items.now.enums c.as_slice-2.result.now c.args.self.now.enums c.add_all-2.new.self c.as_slice-2.ensures c.add_all-2.ensures.ok c.add_all-2.ensures.err;
  extensions = alike_after c.add_all-3.result c.args.items.now.extensions c.as_slice-3.result.now c.args.self.now.extensions c.add_all-3.new.self c.as_slice-3.ensures c.add_all-3.ensures.ok c.add_all-3.ensures.err;
  services = λ q. refl;
}

pub returns-clause-alike : goal.returns-clause-alike
returns-clause-alike c = record {
  messages = alike_after c.add_all.result c.args.items.now.messages c.as_slice.result.now c.args.self.now.messages c.add_all.new.self c.as_slice.ensures c.add_all.ensures.ok c.add_all.ensures.err;
  enums = alike_after c.add_all-2.result c.args.items.now.enums c.as_slice-2.result.now c.args.self.now.enums c.add_all-2.new.self c.as_slice-2.ensures c.add_all-2.ensures.ok c.add_all-2.ensures.err;
  extensions = alike_after c.add_all-3.result c.args.items.now.extensions c.as_slice-3.result.now c.args.self.now.extensions c.add_all-3.new.self c.as_slice-3.ensures c.add_all-3.ensures.ok c.add_all-3.ensures.err;
  services = alike_after c.add_all-4.result c.args.items.now.services c.as_slice-4.result.now c.args.self.now.services c.add_all-4.new.self c.as_slice-4.ensures c.add_all-4.ensures.ok c.add_all-4.ensures.err;
}
