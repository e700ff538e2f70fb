-- What is answered for a message is what its tree stands for.
use Rattle.std.proofs.Common.{◌≡◌, ℕ, Bool, Ok, Err, refl, ap, subst, inl, inr}
use Rattle.serde_json.specs.Data.{Data, null, boolean, number, string, array, object}
use Rattle.pbx_content.specs.Content.{Content}
use Rattle.pbx_content.specs.declared.shape.Shape.{Shape}
use Rattle.pbx_json_meaning.specs.Asked.{root}
use Rattle.pbx_json_meaning.specs.Stands.{said, message_in}
use Rattle.pbx_json_walk.specs.Walk.{Answer, answers, answer_map, shown_as, as_value, message_answer, elements_in, parts_in}
use Rattle.pbx_json_meaning.specs.FirstFaults.{FirstHere, FirstAtKey, FirstBelow}
use Rattle.pbx_json_walk.specs.Laws.{IsTold, MessageIsTold, IsFirstFault, FaultIsFirst}
use Rattle.pbx_json_walk.proofs.Faults.{Tells}
use Rattle.pbx_json_walk.proofs.TreeFaults.{tree_tells}
use Rattle.pbx_json_walk.proofs.Agree.{Agrees}
use Rattle.pbx_json_walk.proofs.Trees.{tree_agrees}

root_answer : (shape : Shape) (t : ℕ) (allow : Bool) (d : Data)
    → answers shape allow d (root t) ≡ answer_map (shown_as shape (root t)) (answer_map as_value (message_answer shape allow t d (elements_in shape allow d) (parts_in shape allow d)))
root_answer shape t allow null = refl
root_answer shape t allow (boolean b) = refl
root_answer shape t allow (number n) = refl
root_answer shape t allow (string s) = refl
root_answer shape t allow (array ds) = refl
root_answer shape t allow (object ms) = refl

told : (shape : Shape) (t : ℕ) (allow : Bool) (d : Data) (a : Answer Content)
    → Agrees (said shape allow d (root t)) (answer_map (shown_as shape (root t)) (answer_map as_value a)) → IsTold shape t allow d a
told shape t allow d (Ok c) h = ap message_in h
told shape t allow d (Err e) (inl n) = inl n
told shape t allow d (Err e) (inr n) = inr (ap message_in n)

pub message_is_told : MessageIsTold
message_is_told shape t allow d proper =
    told shape t allow d (message_answer shape allow t d (elements_in shape allow d) (parts_in shape allow d))
    (subst (λ a. Agrees (said shape allow d (root t)) a) (root_answer shape t allow d) (tree_agrees shape allow proper d (root t)))

first : (shape : Shape) (t : ℕ) (allow : Bool) (d : Data) (a : Answer Content)
    → Tells shape allow d (root t) (answer_map (shown_as shape (root t)) (answer_map as_value a)) → IsFirstFault shape t allow d a
first shape t allow d (Ok c) h = tt
first shape t allow d (Err e) h = h

pub fault_is_first : FirstHere → FirstAtKey → FirstBelow → FaultIsFirst
fault_is_first fh fk fb shape t allow d proper =
    first shape t allow d (message_answer shape allow t d (elements_in shape allow d) (parts_in shape allow d))
    (subst (λ a. Tells shape allow d (root t) a) (root_answer shape t allow d) (tree_tells fh fk fb shape allow proper d (root t)))
