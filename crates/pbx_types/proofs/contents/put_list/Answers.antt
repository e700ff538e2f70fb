use Rattle.pbx_content_codec.specs.View.{content_of}
use Rattle.pbx_types.proofs.Built.{put_many}
use Rattle.pbx_types.proofs.Told.{on_ok}
use Rattle.pbx_types.proofs.contents.put_list.Goals as goal

pub returns : goal.returns
returns c =
    on_ok c.put.result
    (λ e k all. put_many k c.args.number c.args.values (content_of c.args.contents.now) (content_of c.put.new.self) (λ none. let there = c.is_empty.ensures.1 none in absurd cc) e all)
    c.put.ensures.ok
