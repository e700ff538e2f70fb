use Rattle.std.proofs.Common.{◌++◌, map, sym, ap, ◌∙◌}
use Rattle.std.specs.List.{flat_map}
use Rattle.pbx_parse_tree.specs.View.{item_of, extension_of}
use Rattle.pbx_parse_locations.specs.Locations.{field_at, item_extensions, extension_parts, numbered}
use Rattle.pbx_parse_locations.specs.BodyItems.{of_body_item}
use Rattle.pbx_parse_locations.proofs.Added.{goes_on, skips, is_over}
use Rattle.pbx_parse_locations.proofs.Items.{body_item_of_extend, no_extend, of_body_items}
use Rattle.pbx_parse_locations.proofs.message.add_extension_blocks.Goals as goal
use Rattle.pbx_parse_locations.proofs.message.add_extension_blocks.Goals.{in-Extend+in_ok-index, in_default}

pub each-preserved : goal.each-preserved
each-preserved c =
    let xs = c.args.items.now in
    let x = c.item-item.result in
    elim c.match-item.branch [
      | in-Extend+in_ok-index w ↦
          let here = ap (λ i. of_body_item item_extensions (item_of i)) w.in-Extend.is ∙ ap (of_body_item item_extensions) (body_item_of_extend w.in-Extend.extend) ∙ ap (λ es. flat_map extension_parts (map extension_of es)) (sym w.as_slice-extensions.ensures.value) in
          rw (w.out-is, w.index-is)
          (goes_on (field_at c.args.path.now 6) (of_body_item item_extensions) item_of xs c.each.item-index x _ _ _ _ _ _ _ c.each-test.true c.item-item.is here c.each.invariant w.in_ok-index.ensures)
      | in_default w ↦ rw (w.out-is, w.index-is) (skips (field_at c.args.path.now 6) (of_body_item item_extensions) item_of xs c.each.item-index x _ _ _ _ c.each-test.true c.item-item.is (no_extend x w.in_default.not-Extend) c.each.invariant)
    ]

pub returns : goal.returns
returns c =
    (is_over (field_at c.args.path.now 6) (of_body_item item_extensions) item_of c.args.items.now c.each.item-index _ _ _ _ c.each-test.false c.each.invariant).all
    ∙ ap (λ xs. c.args.out.now ++ numbered (field_at c.args.path.now 6) 0 xs) (of_body_items item_extensions (map item_of c.args.items.now))
