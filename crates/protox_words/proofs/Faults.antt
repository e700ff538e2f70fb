-- A fault stays the fault of all words.
use Rattle.std.proofs.Common.{◌≡◌, ◌∷◌, [], ◌<◌, ℕ, List, suc, drop, length, get_or, fold, Err, refl, sym, ap, subst, ◌∙◌, drop-cons}
use Rattle.protox_words.specs.declared.args.Args.{Args as ArgsHeld}
use Rattle.protox_words.specs.declared.fault.WordsError.{WordsError}
use Rattle.protox_words.specs.declared.fault.WordsError.TheVariants.{Fault, NoMemory}
use Rattle.protox_words.specs.Words.{WordFault, Scan, Reading, Faulty, nothing, step, judged_scan, args_of}
use Rattle.protox_words.specs.Told.{fault_told, Leads, IsCause}

stays : (fault : WordFault) (words : List (List ℕ)) → fold step (Faulty fault) words ≡ Faulty fault
stays fault [] = refl
stays fault (word ∷ words) = stays fault words

refused_at : (words : List (List ℕ)) (i : ℕ) (word : List ℕ) (scan : Scan) (a : ArgsHeld) (e : WordsError)
    → fold step (Reading nothing) words ≡ fold step scan (drop i words) → i < length words → word ≡ get_or words i word
    → Leads (Err e) a (step scan word) → IsCause (args_of words) e
refused_at words i word scan a NoMemory so_far within is leads = tt
refused_at words i word scan a (Fault fault) so_far within is leads =
    ap judged_scan
    (so_far ∙ ap (fold step scan) (drop-cons words i word within) ∙ ap (λ w. fold step (step scan w) (drop (suc i) words)) (sym is)
    ∙ ap (λ s. fold step s (drop (suc i) words)) leads ∙ stays (fault_told fault) (drop (suc i) words))

-- the words end in the fault of one of them, at which the reading of those before it stands
pub refused : (words items : List (List ℕ)) (i : ℕ) (word text : List ℕ) (scan : Scan) (a : ArgsHeld) (e : WordsError)
    → items ≡ words → text ≡ word → fold step (Reading nothing) words ≡ fold step scan (drop i words) → i < length items → word ≡ get_or items i word
    → Leads (Err e) a (step scan text) → IsCause (args_of words) e
refused words items i word text scan a e all same so_far within is leads =
    let F : List (List ℕ) → Type 0 = λ l. i < length l in
    let G : List (List ℕ) → Type 0 = λ l. word ≡ get_or l i word in
    let H : List ℕ → Type 0 = λ w. Leads (Err e) a (step scan w) in
    refused_at words i word scan a e so_far (subst F all within) (subst G all is) (subst H same leads)
