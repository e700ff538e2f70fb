-- Where each of a block may stand behind those before it, the block fits.
use Rattle.std.proofs.Common.{◌≡◌, ℕ, ◌&&◌, not, List, [], ◌∷◌, ◌++◌, length, nat_le, Bool, true, false, Option, Some, None, refl, sym, ap, ◌∙◌, append_assoc, arith}
use Rattle.std.proofs.lemmas.Bool.{false≢true}
use Rattle.std.proofs.lemmas.Bool.Decides.{nat_tests}
use Rattle.std.proofs.lemmas.List.{append-nil}
use Rattle.std.specs.List.{list_all, filter_map, cons_option}
use Rattle.pbx_parse_tree.specs.declared.tree.Version.{Version}
use Rattle.pbx_parse_tree.specs.declared.options.OptionPlace.TheVariants as places
use Rattle.pbx_parse_tree.specs.Tree.{Setting, EnumItem, empty_in_enum, enum_value, enum_reserved, enum_option, Enum, MethodItem, empty_in_method, method_option, MethodEnd, method_semicolon, method_block, ServiceItem, empty_in_service, service_method, service_option, Service, Package, Top, empty_top, top_package, top_import, top_message, top_enum, top_extend, top_service, top_option}
use Rattle.pbx_parse_tree.specs.Conditions.{option_fits, all_fit, enum_item_fits, enum_setting, enum_fits, method_setting, method_end_fits, service_item_fits, service_setting, service_fits, top_fits, top_setting, top_package_of, packages, tops_fit}
use Rattle.pbx_parse_tree.specs.Fits.{may_follow}
use Rattle.pbx_parse_tree.specs.Grammar.{marked, list_then, method_item_then, method_end_then}
use Rattle.pbx_parse_token.specs.Tokens.{Token}
use Rattle.pbx_parse_token.specs.declared.token.Span.{Span}
use Rattle.pbx_parse_tree.proofs.AllFit.{none_fit, grows, each_fits}
use Rattle.pbx_parse_reader.specs.Blocks.{Before, nothing, settings_after, package_after, all_behind, enum_behind, enum_after, method_behind, method_after, service_behind, service_after, top_behind, top_after}
use Rattle.pbx_parse_reader.specs.View.{sees_mark}
use Rattle.pbx_parse_reader.proofs.Lists.{both, and_true}
use Rattle.pbx_parse_reader.proofs.Begin.{all_names}

-- the option statement may stand behind these, if it is one
abbrev pub may_set : (Setting → Bool) → List Setting → Option Setting → Bool
may_set allowed before None = true
may_set allowed before (Some s) = may_follow allowed before s

abbrev may_name : Bool → Option Package → Bool
may_name named None = true
may_name named (Some p) = not named

-- how many packages may follow
abbrev room : Bool → ℕ
room true = 0
room false = 1

no_packages : (named : Bool) → nat_le 0 (room named) ≡ true
no_packages true = refl
no_packages false = refl

pub moved : (ss : List Setting) (o : Option Setting) (ts : List Setting) → settings_after ss o ++ ts ≡ ss ++ cons_option o ts
moved ss None ts = refl
moved ss (Some s) ts = append_assoc ss (s ∷ []) ts

pub grown : (allowed : Setting → Bool) (ss : List Setting) (o : Option Setting) → all_fit allowed ss ≡ true → may_set allowed ss o ≡ true → all_fit allowed (settings_after ss o) ≡ true
grown allowed ss None e f = e
grown allowed ss (Some s) e f = let h = both _ _ f in grows allowed ss s e h.1 h.0

pub may_be_set : (allowed : Setting → Bool) (ss : List Setting) (o : Option Setting) (ts : List Setting) → all_fit allowed (ss ++ cons_option o ts) ≡ true → may_set allowed ss o ≡ true
may_be_set allowed ss None ts e = refl
may_be_set allowed ss (Some s) ts e = let h = each_fits allowed ss s ts e in and_true h.1 h.0

one_more_package : (named : Bool) (o : Option Package) (ps : List Package) → may_name named o ≡ true → nat_le (length ps) (room (package_after named o)) ≡ true → nat_le (length (cons_option o ps)) (room named) ≡ true
one_more_package named None ps e f = f
one_more_package true (Some p) ps e f = absurd (false≢true e)
one_more_package false (Some p) ps e f = grind (arith, nat_tests, f)

may_be_named : (named : Bool) (o : Option Package) (ps : List Package) → nat_le (length (cons_option o ps)) (room named) ≡ true → may_name named o ≡ true
may_be_named named None ps e = refl
may_be_named true (Some p) ps e = grind (arith, nat_tests, e)
may_be_named false (Some p) ps e = refl

fewer_packages : (named : Bool) (o : Option Package) (ps : List Package) → nat_le (length (cons_option o ps)) (room named) ≡ true → nat_le (length ps) (room (package_after named o)) ≡ true
fewer_packages named None ps e = e
fewer_packages true (Some p) ps e = grind (arith, nat_tests, e)
fewer_packages false (Some p) ps e = grind (arith, nat_tests, e)

module _ {A : Type 0} (fits : A → Bool) (allowed : Setting → Bool) (set : A → Option Setting) (pack : A → Option Package) where
  abbrev after : Before → A → Before
  after b x = record { settings = settings_after b.settings (set x); named = package_after b.named (pack x) }

  record Parts (b : Before) (x : A) : Type 0 where
    pub fit : fits x ≡ true
    pub option : may_set allowed b.settings (set x) ≡ true
    pub one : may_name b.named (pack x) ≡ true

  record Whole (b : Before) (xs : List A) : Type 0 where
    pub fit : list_all fits xs ≡ true
    pub options : all_fit allowed (b.settings ++ filter_map set xs) ≡ true
    pub packages : nat_le (length (filter_map pack xs)) (room b.named) ≡ true

  module _ (behind : Before → A → Bool) where
    judged : ((b : Before) (x : A) → behind b x ≡ true → Parts b x) → (xs : List A) (b : Before) → all_fit allowed b.settings ≡ true → all_behind behind after b xs ≡ true → Whole b xs
    unfolding all_behind
    judged law [] b f e = record { fit = refl; options = ap (all_fit allowed) (append-nil b.settings) ∙ f; packages = no_packages b.named }
    judged law (x ∷ xs) b f e =
        let h = both (behind b x) (all_behind behind after (after b x) xs) e in
        let p = law b x h.0 in
        let w = judged law xs (after b x) (grown allowed b.settings (set x) f p.option) h.1 in
        record {
          fit = and_true p.fit w.fit;
          options = ap (all_fit allowed) (sym (moved b.settings (set x) (filter_map set xs))) ∙ w.options;
          packages = one_more_package b.named (pack x) (filter_map pack xs) p.one w.packages;
        }

    from : ((b : Before) (x : A) → Parts b x → behind b x ≡ true) → (xs : List A) (b : Before) → Whole b xs → all_behind behind after b xs ≡ true
    unfolding all_behind
    from law [] b w = refl
    from law (x ∷ xs) b w =
        let h = both (fits x) (list_all fits xs) w.fit in
        let p : Parts b x = record {
          fit = h.0;
          option = may_be_set allowed b.settings (set x) (filter_map set xs) w.options;
          one = may_be_named b.named (pack x) (filter_map pack xs) w.packages;
        } in
        let rest : Whole (after b x) xs = record {
          fit = h.1;
          options = ap (all_fit allowed) (moved b.settings (set x) (filter_map set xs)) ∙ w.options;
          packages = fewer_packages b.named (pack x) (filter_map pack xs) w.packages;
        } in
        and_true (law b x p) (from law xs (after b x) rest)

-- ---- blocks without packages

abbrev without : {A : Type 0} → A → Option Package
without x = None

none_without : {A : Type 0} (xs : List A) → filter_map without xs ≡ []
none_without [] = refl
none_without (x ∷ xs) = none_without xs

module _ {A : Type 0} (fits : A → Bool) (allowed : Setting → Bool) (set : A → Option Setting) (behind : Before → A → Bool) where
  -- what each that may stand behind others is
  abbrev Law : Type 0
  Law = (b : Before) (x : A) → behind b x ≡ (may_set allowed b.settings (set x) && fits x)

  law_to : Law → (b : Before) (x : A) → behind b x ≡ true → Parts fits allowed set without b x
  law_to law b x e = let h = both (may_set allowed b.settings (set x)) (fits x) (sym (law b x) ∙ e) in record { fit = h.1; option = h.0; one = refl }

  law_from : Law → (b : Before) (x : A) → Parts fits allowed set without b x → behind b x ≡ true
  law_from law b x p = law b x ∙ and_true p.option p.fit

  whole_of : Law → (xs : List A) → all_behind behind (after fits allowed set without) nothing xs ≡ true → (list_all fits xs && all_fit allowed (filter_map set xs)) ≡ true
  whole_of law xs e = let w = judged fits allowed set without behind (law_to law) xs nothing (none_fit allowed) e in and_true w.fit w.options

  each_of : Law → (xs : List A) → (list_all fits xs && all_fit allowed (filter_map set xs)) ≡ true → all_behind behind (after fits allowed set without) nothing xs ≡ true
  each_of law xs e =
      let h = both (list_all fits xs) (all_fit allowed (filter_map set xs)) e in
      let none : nat_le (length (filter_map without xs)) 1 ≡ true = ap (λ (ps : List Package). nat_le (length ps) 1) (none_without xs) in
      from fits allowed set without behind (law_from law) xs nothing (record { fit = h.0; options = h.1; packages = none })

with_true : (b : Bool) → b ≡ (b && true)
with_true true = refl
with_true false = refl

enum_law : (b : Before) (x : EnumItem) → enum_behind b x ≡ (may_set (option_fits places.Enum) b.settings (enum_setting x) && enum_item_fits x)
enum_law b (empty_in_enum s) = refl
enum_law b (enum_value v) = refl
enum_law b (enum_reserved r) = refl
enum_law b (enum_option s) = with_true (may_follow (option_fits places.Enum) b.settings s.setting)

pub enum_judged : (xs : List EnumItem) → all_behind enum_behind enum_after nothing xs ≡ true → (list_all enum_item_fits xs && all_fit (option_fits places.Enum) (filter_map enum_setting xs)) ≡ true
enum_judged xs = whole_of enum_item_fits (option_fits places.Enum) enum_setting enum_behind enum_law xs

pub enum_from : (e : Enum) → enum_fits e ≡ true → all_behind enum_behind enum_after nothing e.items ≡ true
enum_from e = each_of enum_item_fits (option_fits places.Enum) enum_setting enum_behind enum_law e.items

service_law : (b : Before) (x : ServiceItem) → service_behind b x ≡ (may_set (option_fits places.Service) b.settings (service_setting x) && service_item_fits x)
service_law b (empty_in_service s) = refl
service_law b (service_method m) = refl
service_law b (service_option s) = with_true (may_follow (option_fits places.Service) b.settings s.setting)

pub service_judged : (xs : List ServiceItem) → all_behind service_behind service_after nothing xs ≡ true → (list_all service_item_fits xs && all_fit (option_fits places.Service) (filter_map service_setting xs)) ≡ true
service_judged xs = whole_of service_item_fits (option_fits places.Service) service_setting service_behind service_law xs

pub service_from : (s : Service) → service_fits s ≡ true → all_behind service_behind service_after nothing s.items ≡ true
service_from s = each_of service_item_fits (option_fits places.Service) service_setting service_behind service_law s.items

method_law : (b : Before) (x : MethodItem) → method_behind b x ≡ (may_set (option_fits places.Method) b.settings (method_setting x) && true)
method_law b (empty_in_method s) = refl
method_law b (method_option s) = with_true (may_follow (option_fits places.Method) b.settings s.setting)

pub method_judged : (xs : List MethodItem) → all_behind method_behind method_after nothing xs ≡ true → all_fit (option_fits places.Method) (filter_map method_setting xs) ≡ true
method_judged xs e = (both _ _ (whole_of (λ _. true) (option_fits places.Method) method_setting method_behind method_law xs e)).1

pub method_from : (xs : List MethodItem) → all_fit (option_fits places.Method) (filter_map method_setting xs) ≡ true → all_behind method_behind method_after nothing xs ≡ true
method_from xs e = each_of (λ _. true) (option_fits places.Method) method_setting method_behind method_law xs (and_true (all_names xs) e)

-- what ends a method and does not begin with `;`
pub record IsBlock (e : MethodEnd) (rest ts : List Token) : Type 0 where
  pub opening : Span
  pub items : List MethodItem
  pub closing : Span
  pub is : e ≡ method_block opening items closing
  pub fit : all_behind method_behind method_after nothing items ≡ true
  pub parts : ts ≡ marked 123 opening ∷ list_then method_item_then items (marked 125 closing ∷ rest)

pub block_of : (e : MethodEnd) (rest ts : List Token) → sees_mark 59 ts ≡ false → method_end_fits e ≡ true → ts ≡ method_end_then e rest → IsBlock e rest ts
block_of (method_semicolon s) rest ts n fit e = absurd (false≢true (sym n ∙ ap (sees_mark 59) e))
block_of (method_block opening items closing) rest ts n fit e = record { opening = opening; items = items; closing = closing; is = refl; fit = method_from items fit; parts = e }

-- ---- files

top_to : (v : Version) (b : Before) (t : Top) → top_behind v b t ≡ true → Parts (top_fits v) (option_fits places.File) top_setting top_package_of b t
top_to v b (empty_top s) e = record { fit = e; option = refl; one = refl }
top_to v b (top_package p) e = record { fit = refl; option = refl; one = e }
top_to v b (top_import i) e = record { fit = e; option = refl; one = refl }
top_to v b (top_message h body close) e = record { fit = e; option = refl; one = refl }
top_to v b (top_enum x) e = record { fit = e; option = refl; one = refl }
top_to v b (top_extend x) e = record { fit = e; option = refl; one = refl }
top_to v b (top_service s) e = record { fit = e; option = refl; one = refl }
top_to v b (top_option s) e = record { fit = refl; option = e; one = refl }

top_from : (v : Version) (b : Before) (t : Top) → Parts (top_fits v) (option_fits places.File) top_setting top_package_of b t → top_behind v b t ≡ true
top_from v b (empty_top s) p = p.fit
top_from v b (top_package x) p = p.one
top_from v b (top_import i) p = p.fit
top_from v b (top_message h body close) p = p.fit
top_from v b (top_enum x) p = p.fit
top_from v b (top_extend x) p = p.fit
top_from v b (top_service s) p = p.fit
top_from v b (top_option s) p = p.option

pub tops_judged : (v : Version) (ts : List Top) → all_behind (top_behind v) top_after nothing ts ≡ true → tops_fit v ts ≡ true
tops_judged v ts e =
    let w = judged (top_fits v) (option_fits places.File) top_setting top_package_of (top_behind v) (top_to v) ts nothing (none_fit (option_fits places.File)) e in
    and_true (and_true w.fit w.packages) w.options

pub tops_from : (v : Version) (ts : List Top) → tops_fit v ts ≡ true → all_behind (top_behind v) top_after nothing ts ≡ true
tops_from v ts e =
    let h = both (list_all (top_fits v) ts && nat_le (length (packages ts)) 1) (all_fit (option_fits places.File) (filter_map top_setting ts)) e in
    let k = both (list_all (top_fits v) ts) (nat_le (length (packages ts)) 1) h.0 in
    from (top_fits v) (option_fits places.File) top_setting top_package_of (top_behind v) (top_from v) ts nothing (record { fit = k.0; options = h.1; packages = k.1 })
