use Rattle.std.proofs.Common.{◌≡◌, ◌∙◌, ◌++◌, [], ℕ, List, Bor, map, sym, ap, append-nil, arith}
use Rattle.std.specs.List.{flat_map}
use Rattle.std.proofs.lemmas.Grind.{common_steps}
use Rattle.std.proofs.lemmas.List.{nil_from_length}
use Rattle.std.proofs.lemmas.Result.{on_ok_weaker}
use Rattle.pbx_parse_tree.specs.View.{item_of}
use Rattle.pbx_parse_translation.specs.Messages.{oneof_record, optional_names_in, names_in}
use Rattle.pbx_parse_translation.specs.Synthetic.{synthetic_names}
use Rattle.pbx_parse_translation.proofs.Lists.{flat_seen}
use Rattle.pbx_parse_translation.proofs.Taken.{synthetic_none}
use Rattle.pbx_parse_translation.proofs.synthetic.add_synthetic_oneofs.Goals as goal

abbrev text_in : Bor (List ℕ) → List ℕ
text_in n = n.now

pub returns-then-is_empty : goal.returns-then-is_empty
returns-then-is_empty c =
    let items = c.args.items.now in
    let v = c.args.version in
    let oneofs = c.args.oneofs.now in
    let taken = flat_map names_in (map item_of items) in
    let none : c.in_ok-names.names.items ≡ [] = nil_from_length _ (grind (arith, common_steps)) in
    let names : flat_map (optional_names_in v) (map item_of items) ≡ [] = sym (flat_seen (optional_names_in v) item_of items) ∙ sym c.in_ok-names.ensures ∙ ap (map text_in) none in
    sym (ap (λ ns. oneofs ++ map oneof_record (synthetic_names taken ns)) names ∙ ap (λ ns. oneofs ++ map oneof_record ns) (synthetic_none taken) ∙ append-nil oneofs)

pub returns : goal.returns
returns c =
    let items = c.args.items.now in
    let v = c.args.version in
    let oneofs = c.args.oneofs.now in
    let taken = flat_map (λ i. names_in (item_of i)) items in
    let names : map text_in c.as_slice.result.now ≡ flat_map (optional_names_in v) (map item_of items) = ap (map text_in) c.as_slice.ensures.value ∙ c.in_ok-names.ensures ∙ flat_seen (optional_names_in v) item_of items in
    on_ok_weaker c.add_named.result
    (λ e. e
    ∙ ap (λ ns. oneofs ++ map oneof_record (synthetic_names taken ns)) names
    ∙ ap (λ ts. oneofs ++ map oneof_record (synthetic_names ts (flat_map (optional_names_in v) (map item_of items)))) (flat_seen names_in item_of items))
    c.add_named.ensures
