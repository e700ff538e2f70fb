use Rattle.std.proofs.Common.{◌∙◌, ◌∷◌, ◌&&◌, List, refl, ap}
use Rattle.std.proofs.lemmas.Result.{err_from_is_err_and}
use Rattle.pbx_parse_token.specs.declared.token.Span.{Span}
use Rattle.pbx_parse_token.specs.Tokens.{Token}
use Rattle.pbx_parse_tree.specs.Tree.{Kind, Tail, MapField}
use Rattle.pbx_parse_tree.specs.Grammar.{marked, kind_then, tail_then}
use Rattle.pbx_parse_tree.specs.Conditions.{is_key, kind_fits, tail_fits, map_setting_fits}
use Rattle.pbx_parse_tree.specs.View.{kind_of, tail_of}
use Rattle.pbx_parse_reader.specs.declared.fields.MapFront.{MapFront}
use Rattle.pbx_parse_reader.proofs.Lists.{both}
use Rattle.pbx_parse_reader.proofs.fields.map_field.Goals as goal

abbrev front_of : MapField → MapFront
front_of m = record { keyword = m.keyword; «open» = m.open; key = m.key; key_span = m.key_span; comma = m.comma }

abbrev made : MapFront → Kind → Span → Tail → MapField
made f k s t = record { keyword = f.keyword; «open» = f.open; key = f.key; key_span = f.key_span; comma = f.comma; value = k; close = s; tail = t }

pub returns-in_err-front-clause-only : goal.returns-in_err-front-clause-only
returns-in_err-front-clause-only c = λ m rest fit e.
    let q = err_from_is_err_and c.from_residual.result c.from_residual.ensures.1 in
    let a = both (is_key m.key && kind_fits m.value) (tail_fits map_setting_fits m.tail) fit in
    let b = both (is_key m.key) (kind_fits m.value) a.0 in
    let then : List Token = kind_then m.value (marked 62 m.close ∷ tail_then m.tail rest) in
    rw (q.1, q.2) (c.in_err-front.ensures.only (front_of m) then b.0 e)

pub returns-clause-only : goal.returns-clause-only
returns-clause-only c = λ m rest fit e.
    let a = both (is_key m.key && kind_fits m.value) (tail_fits map_setting_fits m.tail) fit in
    let b = both (is_key m.key) (kind_fits m.value) a.0 in
    let then : List Token = tail_then m.tail rest in
    let f = c.in_ok-front.ensures.only (front_of m) (kind_then m.value (marked 62 m.close ∷ then)) b.0 e in
    let k = c.in_ok-value.ensures.only m.value (marked 62 m.close ∷ then) b.1 refl f.1 in
    let s = c.in_ok-close.ensures.only m.close then k.1 in
    let t = c.in_ok-tail.ensures.only m.tail rest a.1 s.1 in
    let value = kind_of c.in_ok-value.value in
    let tail = tail_of c.in_ok-tail.tail in (
      ap (λ (x : MapFront). made x value c.in_ok-close.close tail) f.0
          ∙ ap (λ (x : Kind). made (front_of m) x c.in_ok-close.close tail) k.0
          ∙ ap (λ (x : Span). made (front_of m) m.value x tail) s.0
          ∙ ap (made (front_of m) m.value m.close) t.0,
      t.1,
    )
