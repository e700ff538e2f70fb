use Rattle.std.proofs.Common.{◌≡◌, ◌<◌, ◌∷◌, ◌++◌, [], length, lit<, rules}
use Rattle.std.proofs.lemmas.Iterator.Consumers.{YieldsList-at, YieldsList-end, YieldsList-turn}
use Rattle.std.proofs.lemmas.Iterator.Splits.{YieldsList-from_str_split}
use Rattle.std.proofs.lemmas.List.{length_push}
use Rattle.pbx_text.proofs.Paths.{empty_goes, none_read, piece_fails, piece_goes, pieces_end}
use Rattle.pbx_text.proofs.mask.read_mask.Goals as goal

pub loop-piece-init : goal.loop-piece-init
loop-piece-init c = rw c.new-paths.ensures (none_read c.args.text.now)

pub returns-in_err-path-clause-err : goal.returns-in_err-path-clause-err
returns-in_err-path-clause-err c =
    let start = YieldsList-at c.into_iter-piece-iterator.ensures.into_iter_gives
    (YieldsList-from_str_split 44 c.args.text.now (lit< tt) c.split-piece-items.ensures.text c.split-piece-items.ensures.has_more
    c.split-piece-items.ensures.pattern) in
    let t = YieldsList-turn start c.loop-piece.yielded _ c.loop-piece.yielded_by _ _ c.in-Some.piece c.in-Some.is c.next.ensures.steps in
    let some : 0 < length c.in-Some.piece.now = search rules in
    let why = piece_fails c.args.text.now c.loop-piece.paths (length c.loop-piece.yielded) c.in-Some.piece.now c.in_err-path.field-0.0
    c.loop-piece.invariant t.0 t.1 some (search rules) in
    search (rules, why)

pub loop-piece-preserved-in-Continue-branch-2 : goal.loop-piece-preserved-in-Continue-branch-2
loop-piece-preserved-in-Continue-branch-2 c =
    let start = YieldsList-at c.into_iter-piece-iterator.ensures.into_iter_gives
    (YieldsList-from_str_split 44 c.args.text.now (lit< tt) c.split-piece-items.ensures.text c.split-piece-items.ensures.has_more
    c.split-piece-items.ensures.pattern) in
    let t = YieldsList-turn start c.loop-piece.yielded _ c.loop-piece.yielded_by _ _ c.in-Some.piece c.in-Some.is c.next.ensures.steps in
    let some : 0 < length c.in-Some.piece.now = search rules in
    let goes = piece_goes c.args.text.now c.loop-piece.paths (length c.loop-piece.yielded) c.in-Some.piece.now c.in_ok-path.path
    c.loop-piece.invariant t.0 t.1 some (search rules) in
    let added : c.add.new.self ≡ c.loop-piece.paths ++ c.in_ok-path.path ∷ [] = search rules in
    rw (length_push c.loop-piece.yielded c.in-Some.piece, added) goes

pub loop-piece-preserved : goal.loop-piece-preserved
loop-piece-preserved c =
    let start = YieldsList-at c.into_iter-piece-iterator.ensures.into_iter_gives
    (YieldsList-from_str_split 44 c.args.text.now (lit< tt) c.split-piece-items.ensures.text c.split-piece-items.ensures.has_more
    c.split-piece-items.ensures.pattern) in
    let t = YieldsList-turn start c.loop-piece.yielded _ c.loop-piece.yielded_by _ _ c.in-Some.piece c.in-Some.is c.next.ensures.steps in
    let goes = empty_goes c.args.text.now c.loop-piece.paths (length c.loop-piece.yielded) c.in-Some.piece.now c.loop-piece.invariant t.0 t.1 (search rules) in
    rw (length_push c.loop-piece.yielded c.in-Some.piece) goes

pub returns-clause-ok : goal.returns-clause-ok
returns-clause-ok c =
    let start = YieldsList-at c.into_iter-piece-iterator.ensures.into_iter_gives
    (YieldsList-from_str_split 44 c.args.text.now (lit< tt) c.split-piece-items.ensures.text c.split-piece-items.ensures.has_more
    c.split-piece-items.ensures.pattern) in
    let t = YieldsList-end start c.loop-piece.yielded _ c.loop-piece.yielded_by _ _ c.in-None.is c.next.ensures.steps in
    pieces_end c.args.text.now c.loop-piece.paths (length c.loop-piece.yielded) c.loop-piece.invariant t.1
