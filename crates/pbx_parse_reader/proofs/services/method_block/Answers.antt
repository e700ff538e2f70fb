use Rattle.std.proofs.Common.{◌∙◌, ◌∷◌, List, map, refl, sym, ap}
use Rattle.std.proofs.lemmas.Result.{err_from_is_err_and}
use Rattle.pbx_parse_token.specs.declared.token.Span.{Span}
use Rattle.pbx_parse_tree.specs.Tree as tree
use Rattle.pbx_parse_tree.specs.Grammar.{marked, list_then, method_item_then}
use Rattle.pbx_parse_tree.specs.View.{method_item_of}
use Rattle.pbx_parse_reader.specs.View.{left}
use Rattle.pbx_parse_reader.proofs.Judged.{block_of}
use Rattle.pbx_parse_reader.proofs.services.method_block.Goals as goal

pub returns-in_err-items-clause-only : goal.returns-in_err-items-clause-only
returns-in_err-items-clause-only c = λ e rest n fit s.
    let q = err_from_is_err_and c.from_residual-in_err-items.result c.from_residual-in_err-items.ensures.1 in
    let b = block_of e rest (left c.args.cursor.now) n fit s in
    let opened = c.in_ok-open.ensures.only b.opening (list_then method_item_then b.items (marked 125 b.closing ∷ rest)) b.parts in
    rw (q.1, q.2) (c.in_err-items.ensures.only (λ _ _. refl) b.items b.closing rest b.fit opened.1)

pub returns-clause-only : goal.returns-clause-only
returns-clause-only c = λ e rest n fit s.
    let b = block_of e rest (left c.args.cursor.now) n fit s in
    let opened = c.in_ok-open.ensures.only b.opening (list_then method_item_then b.items (marked 125 b.closing ∷ rest)) b.parts in
    let items = c.in_ok-items.ensures.only (λ _ _. refl) b.items b.closing rest b.fit opened.1 in
    let found = map method_item_of c.in_ok-items.items.items in (
      ap (λ (x : Span). tree.method_block x found c.in_ok-items.close) opened.0
          ∙ ap (λ (x : List tree.MethodItem × Span). tree.method_block b.opening x.0 x.1) items.0
          ∙ sym b.is,
      items.1,
    )
