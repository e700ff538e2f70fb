-- Records that are all added in one order are all added in another, and linked alike.
use Rattle.std.proofs.Common.{◌≡◌, ◌∙◌, ◌⊎◌, ℕ, zero, suc, ◌||◌, List, [], ◌∷◌, ◌++◌, Bool, true, false, if◌then◌else◌, Option, Some, None, refl}
use Rattle.std.proofs.Common.{ap, sym, subst}
use Rattle.std.proofs.Common.{inl, inr, append_assoc, append-nil, arith}
use Rattle.std.specs.Prelude.{Contains}
use Rattle.std.specs.List.{list_all}
use Rattle.std.proofs.lemmas.List.Elements.{Contains-append_left, Contains-append_right, Contains-append_cases, Contains-push_cases}
use Rattle.pbx_desc_records.specs.declared.file.FileDescriptorProto.{FileDescriptorProto}
use Rattle.pbx_link_definitions.specs.Names.{text_or_empty, is_named}
use Rattle.pbx_link_scope.specs.Pooled.{has_file}
use Rattle.pbx_link_record.specs.Linked.{linked_record}
use Rattle.pbx_link_rules.specs.Breaches.{keeps_rules}
use Rattle.pbx_link_rules.specs.Pool.{IsLinked, ArePooled, with_file}
use Rattle.pbx_link_rules.specs.PoolLaws.{AreBehind}
use Rattle.pbx_link_rules.proofs.Lists.{here, there}
use Rattle.pbx_link_rules.proofs.Kept.{name_is_new, imports_are_there}
use Rattle.pbx_link.specs.Bytes.{with_files}
use Rattle.pbx_link_order_laws.specs.OrderLaws.{AreAmong, AreAddedWithin, AddedStandBehind, OrderIsFree}
use Rattle.pbx_link_order_laws.proofs.Searched.{no_item}
use Rattle.pbx_link_order_laws.proofs.Behind.{has_joined, behind_joined, behind_alike}
use Rattle.pbx_link_order_laws.proofs.Parts.{parts_link_alike}

abbrev File : Type 0
File = FileDescriptorProto

-- a linked record has the name of the record
same_names : (files : List File) (f g : File) → f.name ≡ g.name → (n : List ℕ) → has_file (files ++ f ∷ []) n ≡ has_file (files ++ g ∷ []) n
same_names files f g e n =
    has_joined files (f ∷ []) n ∙ ap (λ (o : Option (List ℕ)). has_file files n || (is_named o n || false)) e ∙ sym (has_joined files (g ∷ []) n)

-- ---- records that are all added

-- where a record was linked
pub record Placed (start new : List File) (f : File) : Type 0 where
  pub middle : List File
  pub after : List File
  pub linked : File
  pub split : new ≡ middle ++ linked ∷ after
  pub is : IsLinked (start ++ middle) f linked

-- what was added behind the first files
pub record Added (start fs pool : List File) : Type 0 where
  pub new : List File
  pub whole : pool ≡ start ++ new
  pub pooled : ArePooled start new
  pub placed : (f : File) → Contains fs f → Placed start new f

one_more : (start fs pool : List File) (f : File) → keeps_rules start f ≡ true → Added (with_file start f) fs pool → Added start (f ∷ fs) pool
unfolding ArePooled
one_more start fs pool f kept more = record {
  new = g ∷ more.new;
  whole = more.whole ∙ append_assoc start (g ∷ []) more.new;
  pooled = ((f, record { keeps = kept; is = refl }), more.pooled);
  placed = placed;
}
  where
    g : File
    g = linked_record start f

    first : Placed start (g ∷ more.new) f
    first = record {
      middle = [];
      after = more.new;
      linked = g;
      split = refl;
      is = subst (λ (l : List File). IsLinked l f g) (sym (append-nil start)) (record { keeps = kept; is = refl });
    }

    later : (x : File) → Placed (with_file start f) more.new x → Placed start (g ∷ more.new) x
    later x p = record {
      middle = g ∷ p.middle;
      after = p.after;
      linked = p.linked;
      split = ap (λ (l : List File). g ∷ l) p.split;
      is = subst (λ (l : List File). IsLinked l x p.linked) (append_assoc start (g ∷ []) p.middle) p.is;
    }

    placed : (x : File) → Contains (f ∷ fs) x → Placed start (g ∷ more.new) x
    placed x (zero, lt, same) = subst (λ (y : File). Placed start (g ∷ more.new) y) same first
    placed x (suc i, lt, same) = later x (more.placed x (i, omega (arith, lt), same))

all_added : (start fs pool : List File) → with_files start fs ≡ Some pool → Added start fs pool
unfolding ArePooled
all_added start [] pool e = record {
  new = [];
  whole = let same : start ≡ pool = cc in sym same ∙ sym (append-nil start);
  pooled = tt;
  placed = λ f c. absurd (no_item f c);
}
all_added start (f ∷ fs) pool e = by (keeps_rules start f) refl e (all_added (with_file start f) fs pool)
  where
    by : (b : Bool) → keeps_rules start f ≡ b → (if b then with_files (with_file start f) fs else None) ≡ Some pool
        → (with_files (with_file start f) fs ≡ Some pool → Added (with_file start f) fs pool) → Added start (f ∷ fs) pool
    by true w h ih = one_more start fs pool f w (ih h)
    by false w h ih = absurd (cc)

pub added_stand_behind : AddedStandBehind
unfolding AreBehind
added_stand_behind start [] pool e = tt
added_stand_behind start (f ∷ fs) pool e = by (keeps_rules start f) refl e (added_stand_behind (with_file start f) fs pool)
  where
    by : (b : Bool) → keeps_rules start f ≡ b → (if b then with_files (with_file start f) fs else None) ≡ Some pool
        → (with_files (with_file start f) fs ≡ Some pool → AreBehind (with_file start f) fs) → AreBehind start (f ∷ fs)
    by true w h ih = (
      name_is_new start f w,
      imports_are_there start f w,
      behind_alike (with_file start f) (start ++ f ∷ []) fs (same_names start (linked_record start f) f refl) (ih h),
    )
    by false w h ih = absurd (cc)

-- ---- another order

module _ (start fs pool : List File) (behind : AreBehind [] start) (all : Added start fs pool) where
  -- any of them, behind some that are linked
  go : (some gs : List File) → AreAmong some all.new → AreBehind start some → AreAmong gs fs
      → AreBehind (start ++ some) gs → AreAddedWithin (start ++ some) gs pool
  unfolding AreBehind
  go some [] within follow among rest = record { files = start ++ some; added = refl; within = inside }
    where
      inside : AreAmong (start ++ some) pool
      inside x c = subst (λ (l : List File). Contains l x) (sym all.whole) (at (Contains-append_cases start some x c))
        where
          at : Contains start x ⊎ Contains some x → Contains (start ++ all.new) x
          at (inl k) = Contains-append_left start all.new x k
          at (inr k) = Contains-append_right start all.new x (within x k)
  go some (f ∷ gs) within follow among rest =
      next (all.placed f (among f (here f gs))) (λ more h k l. go more gs h k (λ x c. among x (there f x gs c)) l)
    where
      next : Placed start all.new f
          → ((more : List File) → AreAmong more all.new → AreBehind start more → AreBehind (start ++ more) gs → AreAddedWithin (start ++ more) gs pool)
          → AreAddedWithin (start ++ some) (f ∷ gs) pool
      next p ih = record { files = made.files; added = added; within = made.within }
        where
          g : File
          g = p.linked

          is : IsLinked (start ++ some) f g
          is =
              parts_link_alike start p.middle p.after some f g behind (subst (ArePooled start) p.split all.pooled) p.is follow
              (λ x c. subst (λ (l : List File). Contains l x) p.split (within x c)) (rest.0, rest.1, tt)

          more : List File
          more = some ++ g ∷ []

          inside : AreAmong more all.new
          inside x c = at (Contains-push_cases some g x c)
            where
              at : Contains some x ⊎ (g ≡ x) → Contains all.new x
              at (inl k) = within x k
              at (inr same) =
                  subst (Contains all.new) same
                  (subst (λ (l : List File). Contains l g) (sym p.split) (Contains-append_right p.middle (g ∷ p.after) g (here g p.after)))

          name_same : f.name ≡ g.name
          name_same = ap (λ (x : File). x.name) (sym is.is)

          follows : AreBehind start more
          follows =
              behind_joined start some (g ∷ []) follow (
                ap (λ (x : File). has_file (start ++ some) (text_or_empty x.name)) is.is ∙ rest.0,
                ap (λ (x : File). list_all (has_file (start ++ some)) x.dependency) is.is ∙ rest.1,
                tt,
              )

          joined : (start ++ some) ++ g ∷ [] ≡ start ++ more
          joined = append_assoc start some (g ∷ [])

          made : AreAddedWithin (start ++ more) gs pool
          made =
              ih more inside follows
              (subst (λ (l : List File). AreBehind l gs) joined
              (behind_alike ((start ++ some) ++ f ∷ []) ((start ++ some) ++ g ∷ []) gs (same_names (start ++ some) f g name_same) rest.2))

          added : with_files (start ++ some) (f ∷ gs) ≡ Some made.files
          added =
              ap (λ (b : Bool). if b then with_files (with_file (start ++ some) f) gs else None) is.keeps
              ∙ ap (λ (x : File). with_files ((start ++ some) ++ x ∷ []) gs) (sym is.is)
              ∙ ap (λ (l : List File). with_files l gs) joined ∙ made.added

none_behind : (start : List File) → AreBehind start []
unfolding AreBehind
none_behind start = tt

pub order_is_free : OrderIsFree
order_is_free start fs gs pool behind e among rest =
    subst (λ (l : List File). AreAddedWithin l gs pool) (append-nil start)
    (go start fs pool behind (all_added start fs pool e) [] gs (λ x c. absurd (no_item x c)) (none_behind start) among
    (subst (λ (l : List File). AreBehind l gs) (sym (append-nil start)) rest))
