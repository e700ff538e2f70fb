-- One item more of a body, as the loop reads it.
use Rattle.std.proofs.Common.{◌≡◌, ℕ, zero, suc, ◌-◌, List, [], ◌∷◌, ◌++◌, Bool, true, false, ◌&&◌, refl, sym, ap, ◌∙◌, arith}
use Rattle.std.proofs.lemmas.Bool.{false≢true}
use Rattle.std.proofs.lemmas.List.{append-nil}
use Rattle.std.specs.List.{cons_option}
use Rattle.pbx_parse_token.specs.declared.token.Span.{Span}
use Rattle.pbx_parse_token.specs.Tokens.{Token}
use Rattle.pbx_parse_tree.specs.declared.tree.Version.{Version}
use Rattle.pbx_parse_tree.specs.declared.options.OptionPlace.TheVariants as places
use Rattle.pbx_parse_tree.specs.Tree.{Setting, Item, empty_item, item_field, item_map, item_oneof, item_enum, item_extend, item_extensions, item_reserved, item_option, Head, Body, end, item, message}
use Rattle.pbx_parse_tree.specs.Grammar.{body_then}
use Rattle.pbx_parse_tree.specs.Conditions.{option_fits, all_fit, item_fits, item_setting, body_settings, body_fits}
use Rattle.pbx_parse_tree.specs.View.{BodyItem, plain, nested, add, all_before, body_item_setting}
use Rattle.pbx_parse_reader.specs.Blocks.{settings_after, item_behind}
use Rattle.pbx_parse_reader.specs.Bodies.{body_item_then, body_item_behind, message_fits}
use Rattle.pbx_parse_reader.specs.View.{ends_block}
use Rattle.pbx_parse_reader.proofs.Lists.{both, and_true}
use Rattle.pbx_parse_reader.proofs.Begin.{item_goes}
use Rattle.pbx_parse_reader.proofs.Judged.{may_set, moved, may_be_set}

pub before_push : (front : List BodyItem) (p : BodyItem) (b : Body) → all_before (front ++ p ∷ []) b ≡ all_before front (add p b)
before_push [] p b = refl
before_push (q ∷ front) p b = ap (add q) (before_push front p b)

pub add_then : (p : BodyItem) (b : Body) (rest : List Token) → body_then (add p b) rest ≡ body_item_then p (body_then b rest)
unfolding body_then
add_then (plain i) b rest = refl
add_then (nested h inner close) b rest = refl

pub end_then : (rest : List Token) → rest ≡ body_then end rest
unfolding body_then
end_then rest = refl

-- a body fits behind these options
abbrev pub body_behind : Version → ℕ → List Setting → Body → Bool
body_behind v levels before b = body_fits v levels b && all_fit (option_fits places.Message) (before ++ body_settings b)

pub end_behind : (v : Version) (levels : ℕ) (before : List Setting) → all_fit (option_fits places.Message) before ≡ true → body_behind v levels before end ≡ true
unfolding body_fits body_settings
end_behind v levels before e = ap (all_fit (option_fits places.Message)) (append-nil before) ∙ e

-- what is set first, and then what follows
settings_added : (p : BodyItem) (b : Body) → body_settings (add p b) ≡ cons_option (body_item_setting p) (body_settings b)
unfolding body_settings
settings_added (plain i) b = refl
settings_added (nested h inner close) b = refl

-- where an item may stand, its setting may be made
sets : (v : Version) (before : List Setting) (i : Item) → item_behind v before i ≡ true → may_set (option_fits places.Message) before (item_setting i) ≡ true
sets v before (empty_item s) e = refl
sets v before (item_field f) e = refl
sets v before (item_map m) e = refl
sets v before (item_oneof o) e = refl
sets v before (item_enum x) e = refl
sets v before (item_extend x) e = refl
sets v before (item_extensions x) e = refl
sets v before (item_reserved r) e = refl
sets v before (item_option s) e = e

pub item_sets : (v : Version) (levels : ℕ) (before : List Setting) (p : BodyItem) → body_item_behind v levels before p ≡ true → may_set (option_fits places.Message) before (body_item_setting p) ≡ true
item_sets v levels before (plain i) e = sets v before i e
item_sets v levels before (nested h inner close) e = refl

item_fit : (v : Version) (before : List Setting) (i : Item) → item_behind v before i ≡ true → item_fits v i ≡ true
item_fit v before (empty_item s) e = e
item_fit v before (item_field f) e = e
item_fit v before (item_map m) e = e
item_fit v before (item_oneof o) e = e
item_fit v before (item_enum x) e = e
item_fit v before (item_extend x) e = e
item_fit v before (item_extensions x) e = e
item_fit v before (item_reserved r) e = e
item_fit v before (item_option s) e = refl

item_back : (v : Version) (before : List Setting) (i : Item) → item_fits v i ≡ true → may_set (option_fits places.Message) before (item_setting i) ≡ true → item_behind v before i ≡ true
item_back v before (empty_item s) e f = e
item_back v before (item_field x) e f = e
item_back v before (item_map m) e f = e
item_back v before (item_oneof o) e f = e
item_back v before (item_enum x) e f = e
item_back v before (item_extend x) e f = e
item_back v before (item_extensions x) e f = e
item_back v before (item_reserved r) e f = e
item_back v before (item_option s) e f = f

added_fits : (v : Version) (levels : ℕ) (before : List Setting) (p : BodyItem) (b : Body) → body_item_behind v levels before p ≡ true → body_fits v levels b ≡ true → body_fits v levels (add p b) ≡ true
unfolding body_fits
added_fits v levels before (plain i) b f g = and_true (item_fit v before i f) g
added_fits v zero before (nested h inner close) b f g = f
added_fits v (suc levels) before (nested h inner close) b f g = and_true f g

-- a body fits where its first item does, and what follows behind it
pub add_behind : (v : Version) (levels : ℕ) (before : List Setting) (p : BodyItem) (b : Body) → body_item_behind v levels before p ≡ true → body_behind v levels (settings_after before (body_item_setting p)) b ≡ true
    → body_behind v levels before (add p b) ≡ true
add_behind v levels before p b f g =
    let fits = all_fit (option_fits places.Message) in
    let h = both (body_fits v levels b) (fits (settings_after before (body_item_setting p) ++ body_settings b)) g in
    let options : fits (before ++ body_settings (add p b)) ≡ true =
    ap (λ (ss : List Setting). fits (before ++ ss)) (settings_added p b) ∙ ap fits (sym (moved before (body_item_setting p) (body_settings b))) ∙ h.1 in
    and_true (added_fits v levels before p b f h.0) options

pub nested_fits : (v : Version) (levels : ℕ) (before : List Setting) (h : Head) (b : Body) (close : Span) → (levels ≡ 0 → ⊥) → body_item_behind v levels before (nested h b close) ≡ message_fits v (levels - 1) b
nested_fits v zero before h b close some = absurd (some refl)
nested_fits v (suc levels) before h b close some = let e : levels ≡ suc levels - 1 = omega arith in ap (λ (n : ℕ). message_fits v n b) e

-- what a body that has not ended begins with
pub record Begins (v : Version) (levels : ℕ) (before : List Setting) (b : Body) (rest ts : List Token) : Type 0 where
  pub body_item : BodyItem
  pub others : Body
  pub is : b ≡ add body_item others
  pub fits : body_item_behind v levels before body_item ≡ true
  pub others_fit : body_behind v levels (settings_after before (body_item_setting body_item)) others ≡ true
  pub parts : ts ≡ body_item_then body_item (body_then others rest)

-- the options behind what is set first
others_set : (v : Version) (before : List Setting) (p : BodyItem) (b : Body) → all_fit (option_fits places.Message) (before ++ body_settings (add p b)) ≡ true
    → all_fit (option_fits places.Message) (settings_after before (body_item_setting p) ++ body_settings b) ≡ true
others_set v before p b e =
    let fits = all_fit (option_fits places.Message) in
    ap fits (moved before (body_item_setting p) (body_settings b)) ∙ ap (λ (ss : List Setting). fits (before ++ ss)) (sym (settings_added p b)) ∙ e

option_set : (before : List Setting) (p : BodyItem) (b : Body) → all_fit (option_fits places.Message) (before ++ body_settings (add p b)) ≡ true → may_set (option_fits places.Message) before (body_item_setting p) ≡ true
option_set before p b e =
    may_be_set (option_fits places.Message) before (body_item_setting p) (body_settings b) (ap (λ (ss : List Setting). all_fit (option_fits places.Message) (before ++ ss)) (sym (settings_added p b)) ∙ e)

pub begins : (v : Version) (levels : ℕ) (before : List Setting) (b : Body) (rest ts : List Token) → body_behind v levels before b ≡ true → ends_block rest ≡ true → ends_block ts ≡ false → ts ≡ body_then b rest → Begins v levels before b rest ts
unfolding body_fits body_then
begins v levels before end rest ts fits stops going e = absurd (false≢true (sym going ∙ ap ends_block e ∙ stops))
begins v levels before (item i b) rest ts fits stops going e =
    let h = both (body_fits v levels (item i b)) (all_fit (option_fits places.Message) (before ++ body_settings (item i b))) fits in
    let f = both (item_fits v i) (body_fits v levels b) h.0 in
    record {
      body_item = plain i;
      others = b;
      is = refl;
      fits = item_back v before i f.0 (option_set before (plain i) b h.1);
      others_fit = and_true f.1 (others_set v before (plain i) b h.1);
      parts = e;
    }
begins v zero before (message h inner close b) rest ts fits stops going e = absurd (false≢true fits)
begins v (suc levels) before (message h inner close b) rest ts fits stops going e =
    let k = both (body_fits v (suc levels) (message h inner close b)) (all_fit (option_fits places.Message) (before ++ body_settings (message h inner close b))) fits in
    let f = both (message_fits v levels inner) (body_fits v (suc levels) b) k.0 in
    record {
      body_item = nested h inner close;
      others = b;
      is = refl;
      fits = f.0;
      others_fit = and_true f.1 (others_set v before (nested h inner close) b k.1);
      parts = e;
    }

-- a body that has ended has nothing more
pub ended : (b : Body) (rest ts : List Token) → ends_block ts ≡ true → ts ≡ body_then b rest → (b ≡ end) × (ts ≡ rest)
unfolding body_then
ended end rest ts stops e = (refl, e)
ended (item i b) rest ts stops e = absurd (false≢true (sym (item_goes i (body_then b rest)) ∙ sym (ap ends_block e) ∙ stops))
ended (message h inner close b) rest ts stops e = absurd (false≢true (sym (ap ends_block e) ∙ stops))
