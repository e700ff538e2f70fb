-- The items of a message as items of its body.
use Rattle.std.proofs.Common.{◌≡◌, ℕ, zero, suc, arith, ◌+◌, ◌<◌, ◌≤◌, ℤ, List, [], ◌∷◌, ◌++◌, length, drop, get_or, refl, sym, ap, ◌∙◌, append_assoc, append-nil, add-one, drop-cons}
use Rattle.std.proofs.lemmas.List.{drop_all}
use Rattle.std.specs.List.{flat_map}
use Rattle.std.specs.declared.vec.Vec.{Vec}
use Rattle.std.specs.declared.alloc.Global.{Global}
use Rattle.pbx_parse_token.specs.declared.token.Span.{Span}
use Rattle.pbx_parse_tree.specs.declared.tree.Head as code_head
use Rattle.pbx_parse_tree.specs.declared.tree.MapField as code_map
use Rattle.pbx_parse_tree.specs.declared.tree.Oneof as code_oneof
use Rattle.pbx_parse_tree.specs.declared.tree.Enum as code_enum
use Rattle.pbx_parse_tree.specs.declared.tree.Extend as code_extend
use Rattle.pbx_parse_tree.specs.declared.tree.Item as items
use Rattle.pbx_parse_tree.specs.declared.tree.Item.TheOpen as layers
use Rattle.pbx_parse_tree.specs.declared.tree.Item.{Item, out-Item, roll-Item, roll-out-Item, map-Item, fold_out-Item}
use Rattle.pbx_parse_tree.specs.declared.tree.Item.TheVariants.{rolls-Map, rolls-Oneof, rolls-Message, rolls-Enum, rolls-Extend, outs-Map, outs-Oneof, outs-Message, outs-Enum, outs-Extend}
use Rattle.pbx_parse_tree.specs.Tree.{item_map, item_oneof, item_enum, item_extend, Body, end, item, message}
use Rattle.pbx_parse_tree.specs.Tree as tree
use Rattle.pbx_parse_tree.specs.View.{head_of, map_of, oneof_of, enum_of, extend_of, BodyItem, plain, nested, add, all_before, item_step, item_of, body_of}
use Rattle.pbx_desc_records.specs.declared.source.Location.{Location}
use Rattle.pbx_parse_locations.specs.Locations.{element, of_items, item_enums, item_extensions, item_oneofs, nested_from, message_locations}
use Rattle.pbx_parse_locations.specs.BodyItems.{of_body_item}
use Rattle.pbx_parse_locations.specs.declared.block.Block.{Block}
use Rattle.pbx_parse_locations.specs.Blocks.{IsMessageIn, IsPlain}

-- an item by its outermost layer
abbrev layer : layers.Item-F Item → BodyItem
layer l = item_step (map-Item Item BodyItem item_of l)

layer_of : (x : Item) → item_of x ≡ layer (out-Item x)
layer_of x = fold_out-Item BodyItem item_step x

pub body_item_of_map : (m : code_map.MapField) → item_of (items.Map m) ≡ plain (item_map (map_of m))
body_item_of_map m = layer_of (items.Map m) ∙ ap layer (outs-Map m)

pub body_item_of_oneof : (o : code_oneof.Oneof) → item_of (items.Oneof o) ≡ plain (item_oneof (oneof_of o))
body_item_of_oneof o = layer_of (items.Oneof o) ∙ ap layer (outs-Oneof o)

pub body_item_of_enum : (e : code_enum.Enum) → item_of (items.Enum e) ≡ plain (item_enum (enum_of e))
body_item_of_enum e = layer_of (items.Enum e) ∙ ap layer (outs-Enum e)

pub body_item_of_extend : (e : code_extend.Extend) → item_of (items.Extend e) ≡ plain (item_extend (extend_of e))
body_item_of_extend e = layer_of (items.Extend e) ∙ ap layer (outs-Extend e)

pub body_item_of_message : (h : code_head.Head) (is : Vec Item Global) (close : Span) → item_of (items.Message h is close) ≡ nested (head_of h) (body_of is.items) close
body_item_of_message h is close = layer_of (items.Message h is close) ∙ ap layer (outs-Message h is close)

-- ---- items of other kinds

no_enum_in : (l : layers.Item-F Item) → ((e : code_enum.Enum) → roll-Item l ≡ items.Enum e → ⊥) → of_body_item item_enums (layer l) ≡ []
no_enum_in (layers.Enum e) h = absurd (h e (rolls-Enum e))
no_enum_in _ h = refl

pub no_enum : (x : Item) → ((e : code_enum.Enum) → x ≡ items.Enum e → ⊥) → of_body_item item_enums (item_of x) ≡ []
no_enum x h = ap (of_body_item item_enums) (layer_of x) ∙ no_enum_in (out-Item x) (λ e p. h e (sym (roll-out-Item x) ∙ p))

no_extend_in : (l : layers.Item-F Item) → ((e : code_extend.Extend) → roll-Item l ≡ items.Extend e → ⊥) → of_body_item item_extensions (layer l) ≡ []
no_extend_in (layers.Extend e) h = absurd (h e (rolls-Extend e))
no_extend_in _ h = refl

pub no_extend : (x : Item) → ((e : code_extend.Extend) → x ≡ items.Extend e → ⊥) → of_body_item item_extensions (item_of x) ≡ []
no_extend x h = ap (of_body_item item_extensions) (layer_of x) ∙ no_extend_in (out-Item x) (λ e p. h e (sym (roll-out-Item x) ∙ p))

no_oneof_in : (l : layers.Item-F Item) → ((o : code_oneof.Oneof) → roll-Item l ≡ items.Oneof o → ⊥) → of_body_item item_oneofs (layer l) ≡ []
no_oneof_in (layers.Oneof o) h = absurd (h o (rolls-Oneof o))
no_oneof_in _ h = refl

pub no_oneof : (x : Item) → ((o : code_oneof.Oneof) → x ≡ items.Oneof o → ⊥) → of_body_item item_oneofs (item_of x) ≡ []
no_oneof x h = ap (of_body_item item_oneofs) (layer_of x) ∙ no_oneof_in (out-Item x) (λ o p. h o (sym (roll-out-Item x) ∙ p))

-- what is neither a message nor a map field makes no nested message
plain_in : (l : layers.Item-F Item)
    → ((h : code_head.Head) (is : Vec Item Global) (close : Span) → roll-Item l ≡ items.Message h is close → ⊥) → ((m : code_map.MapField) → roll-Item l ≡ items.Map m → ⊥)
    → IsPlain (layer l) 0
plain_in (layers.Message h is close) p q = absurd (p h is close (rolls-Message h is close))
plain_in (layers.Map m) p q = absurd (q m (rolls-Map m))
plain_in _ p q = record { item = _; is = refl; made = refl }

pub plain_is : (x : Item)
    → ((h : code_head.Head) (is : Vec Item Global) (close : Span) → x ≡ items.Message h is close → ⊥) → ((m : code_map.MapField) → x ≡ items.Map m → ⊥)
    → IsPlain (item_of x) 0
plain_is x p q = rw (layer_of x) (plain_in (out-Item x) (λ h is close e. p h is close (sym (roll-out-Item x) ∙ e)) (λ m e. q m (sym (roll-out-Item x) ∙ e)))

-- what they add to the locations of nested messages
pub plain_nested : (path : List ℤ) (i n : ℕ) (rest : Body) (x : BodyItem) → IsPlain x n → nested_from path i (add x rest) ≡ [] ++ nested_from path (i + n) rest
unfolding nested_from
plain_nested path i n rest x h =
    ap (λ y. nested_from path i (add y rest)) h.is ∙ ap (λ k. nested_from path (i + k) rest) h.made

pub message_nested : (path : List ℤ) (i : ℕ) (rest : Body) (x : BodyItem) (b : Block) → IsMessageIn x b
    → nested_from path i (add x rest) ≡ message_locations (element path 3 i) b.keyword b.name (body_of b.items.now) b.close ++ nested_from path (i + 1) rest
unfolding nested_from
message_nested path i rest x b h =
    ap (λ y. nested_from path i (add y rest)) h.is
    ∙ ap (λ k. message_locations (element path 3 i) k h.head.name.span (body_of b.items.now) b.close ++ nested_from path (i + 1) rest) h.keyword
    ∙ ap (λ n. message_locations (element path 3 i) b.keyword n (body_of b.items.now) b.close ++ nested_from path (i + 1) rest) h.name

-- ---- how much there is in a body

abbrev pub size : Body → ℕ
size end = 0
size (item x b) = suc (size b)
size (message h inner close b) = suc (size inner + size b)

grows : (x : BodyItem) (b : Body) → size b ≤ size (add x b)
grows (plain i) b = omega arith
grows (nested h inner close) b = omega arith

-- a message that is one of these items has less
pub smaller : (xs : List Item) (n : ℕ) (x : Item) (b : Block) → n < length xs → x ≡ get_or xs n x → IsMessageIn (item_of x) b → size (body_of b.items.now) < size (body_of xs)
smaller [] n x b below is h = absurd (omega arith)
smaller (y ∷ ys) zero x b below is h =
    let same : item_of y ≡ nested h.head (body_of b.items.now) b.close = sym (ap item_of is) ∙ h.is in
    let whole : size (body_of (y ∷ ys)) ≡ suc (size (body_of b.items.now) + size (body_of ys)) = ap (λ z. size (add z (body_of ys))) same in
    omega arith
smaller (y ∷ ys) (suc n) x b below is h =
    let fewer : n < length ys = omega arith in
    let less = smaller ys n x b fewer is h in
    let more = grows (item_of y) (body_of ys) in
    omega arith

-- ---- bodies

pub of_body_items : {A : Type 0} (one : tree.Item → List A) (ps : List BodyItem) → flat_map (of_body_item one) ps ≡ of_items one (all_before ps end)
of_body_items one [] = refl
of_body_items {A} one (plain i ∷ ps) = ap (λ (xs : List A). one i ++ xs) (of_body_items one ps)
of_body_items one (nested h inner close ∷ ps) = of_body_items one ps

-- the rest of the items begins with this one
pub rest_is : (xs : List Item) (n : ℕ) (x : Item) → n < length xs → x ≡ get_or xs n x → body_of (drop n xs) ≡ add (item_of x) (body_of (drop (n + 1) xs))
rest_is xs n x below is =
    ap body_of (drop-cons xs n x below)
    ∙ ap (λ k. add (item_of (get_or xs n x)) (body_of (drop k xs))) (sym (add-one n))
    ∙ ap (λ y. add (item_of y) (body_of (drop (n + 1) xs))) (sym is)

-- one more item, of which these are added
pub nested_goes_on : (path : List ℤ) (xs : List Item) (n : ℕ) (x : Item) (i k : ℕ) (a b ls total : List Location) → n < length xs → x ≡ get_or xs n x
    → nested_from path i (add (item_of x) (body_of (drop (n + 1) xs))) ≡ ls ++ nested_from path k (body_of (drop (n + 1) xs)) → b ≡ a ++ ls
    → a ++ nested_from path i (body_of (drop n xs)) ≡ total → b ++ nested_from path k (body_of (drop (n + 1) xs)) ≡ total
nested_goes_on path xs n x i k a b ls total below is e added so_far =
    let rest = body_of (drop (n + 1) xs) in
    ap (λ (l : List Location). l ++ nested_from path k rest) added
    ∙ append_assoc a ls (nested_from path k rest)
    ∙ ap (λ (l : List Location). a ++ l) (sym e ∙ sym (ap (nested_from path i) (rest_is xs n x below is)))
    ∙ so_far

pub nested_is_over : (path : List ℤ) (xs : List Item) (n i : ℕ) (a total : List Location) → length xs ≤ n → a ++ nested_from path i (body_of (drop n xs)) ≡ total → a ≡ total
unfolding nested_from
nested_is_over path xs n i a total past so_far =
    sym (append-nil a) ∙ ap (λ (is : List Item). a ++ nested_from path i (body_of is)) (sym (drop_all n xs past)) ∙ so_far
