-- Hints that are taken as they are read from the words of a line.
use Rattle.std.proofs.Common.{◌≡◌, ◌∙◌, sym, ap, subst, ℕ, ◌+◌, ◌<◌, ◌≤◌, ◌^◌, Bool, IsTrue, false, nat_eq, ◌↔◌, map, Ok, Err, List, ◌∷◌, ◌++◌, length, get_or, drop, arith}
use Rattle.std.specs.Prelude.{All, IfOk, Result}
use Rattle.std.specs.Fmt.{decimal}
use Rattle.std.specs.List.{flat_map}
use Rattle.std.proofs.lemmas.List.{drop_more}
use Rattle.std.proofs.lemmas.List.Elements.{All-get_or}
use Rattle.hint_refutation.specs.Laws.{AssumedIsSet, RefutersGive, StepsAreForced}
use Rattle.axiom_rules.specs.declared.literal.Literal.{Literal}
use Rattle.axiom_rules.specs.Literals.{negated}
use Rattle.axiom_rules.specs.Sought.{Sought}
use Rattle.proof_log.specs.declared.line.Hint.{Hint}
use Rattle.proof_log.specs.declared.line.Line.{Line}
use Rattle.proof_log.specs.Derivations.{IsLearnt, is_in_range}
use Rattle.proof_log.specs.LinesText.{Word, hint_words}
use Rattle.proof_log.specs.Spelled.{AreSpelledHints, IsSpelledHint}
use Rattle.proof_check.specs.declared.refutation.Taken.TheVariants as taken
use Rattle.proof_check.specs.Judging.{AreRefuting, IsHintTaken}
use Rattle.proof_check.proofs.HintLemmas.{ends_false, ends_none, ends_stuck, goes_on, learnt}
use Rattle.proof_check.proofs.ThoseLemmas.{those_same}

module _ (s : Sought) (lines : List Line) (n : ℕ) (start : List Literal) (words : List Word) (count : ℕ) where
  -- these are hints of which the words are given
  pub record AreGiven (hints : List Hint) : Type 0 where
    pub spelled : AreSpelledHints hints
    pub all : length hints ≡ count
    pub words_are : words ≡ flat_map hint_words hints

  -- if the words are those of hints, the words of the hints from i on follow, and these refute what is assumed now where all refute what was assumed
  pub record HintsTaken (i : ℕ) (rest : List Word) (assumed : List Literal) (hints : List Hint) : Type 0 where
    pub words_left : rest ≡ flat_map hint_words (drop i hints)
    pub so_far : AreRefuting s lines n assumed (drop i hints) ↔ AreRefuting s lines n start hints

  pub hints_end : (i : ℕ) (rest : List Word) (assumed : List Literal) → count ≤ i → ((hints : List Hint) → AreGiven hints → HintsTaken i rest assumed hints)
      → (hints : List Hint) → AreGiven hints → IsTrue false ↔ AreRefuting s lines n start hints
  hints_end i rest assumed past before hints given = ends_none s lines n start hints assumed i (omega (arith, past, given.all)) (before hints given).so_far

  module _ (i : ℕ) (rest : List Word) (assumed : List Literal) (low : i < count) (before : (hints : List Hint) → AreGiven hints → HintsTaken i rest assumed hints) where
    hint_there : (hints : List Hint) → AreGiven hints → (d : Hint)
        → (i < length hints) × IsSpelledHint (get_or hints i d) × (rest ≡ hint_words (get_or hints i d) ++ flat_map hint_words (drop (i + 1) hints))
    hint_there hints given d =
        let below : i < length hints = omega (arith, low, given.all) in
        (below, All-get_or IsSpelledHint hints i d below given.spelled.each, (before hints given).words_left ∙ ap (flat_map hint_words) (drop_more hints i d below))

    pub hints_none : ((h : Hint) (after : List Word) → IsSpelledHint h → rest ≡ hint_words h ++ after → ⊥) → (hints : List Hint) → AreGiven hints → Hint → ⊥
    hints_none none hints given d = let there = hint_there hints given d in none (get_or hints i d) (flat_map hint_words (drop (i + 1) hints)) there.1 there.2

    module _ (giving : RefutersGive Literal) (set : AssumedIsSet Literal) (forced : StepsAreForced Literal) (h : Hint) (later : List Word)
        (read : (k : Hint) (after : List Word) → IsSpelledHint k → rest ≡ hint_words k ++ after → (h ≡ k) × (later ≡ after)) (new : List Literal) where
      found : (hints : List Hint) → AreGiven hints → (h ≡ get_or hints i h) × (later ≡ flat_map hint_words (drop (i + 1) hints))
      found hints given = let there = hint_there hints given h in read (get_or hints i h) (flat_map hint_words (drop (i + 1) hints)) there.1 there.2

      pub hints_more : IsHintTaken s lines n h assumed new taken.Gives → (hints : List Hint) → AreGiven hints → HintsTaken (i + 1) later new hints
      hints_more is hints given =
          let here = found hints given in
          record {
            words_left = here.1;
            so_far =
                goes_on s lines n start hints giving set forced assumed new i h (hint_there hints given h).0 (before hints given).so_far
                (subst (λ k. IsHintTaken s lines n k assumed new taken.Gives) here.0 is);
          }

      pub hints_false : IsHintTaken s lines n h assumed new taken.False → (hints : List Hint) → AreGiven hints → IsTrue (nat_eq (i + 1) count) ↔ AreRefuting s lines n start hints
      hints_false is hints given =
          subst (λ k. IsTrue (nat_eq (i + 1) k) ↔ AreRefuting s lines n start hints) given.all
          (ends_false s lines n start hints giving set forced assumed new i h (hint_there hints given h).0 (before hints given).so_far
          (subst (λ k. IsHintTaken s lines n k assumed new taken.False) (found hints given).0 is))

      pub hints_stuck : IsHintTaken s lines n h assumed new taken.Stuck → (hints : List Hint) → AreGiven hints → IsTrue false ↔ AreRefuting s lines n start hints
      hints_stuck is hints given =
          ends_stuck s lines n start hints giving set forced assumed new i h (hint_there hints given h).0 (before hints given).so_far
          (subst (λ k. IsHintTaken s lines n k assumed new taken.Stuck) (found hints given).0 is)

module _ {E : Type 0} (s : Sought) (lines : List Line) (n : ℕ) (lits pending : List Literal) (words : List Word) where
  -- pending literals in range whose negations the hints refute are learnt
  pub learnt_words : RefutersGive Literal → AssumedIsSet Literal → StepsAreForced Literal → (assumed : List Literal) (count : ℕ) (rest : List Word)
      → All (λ l. IsTrue (is_in_range s l.atom)) lits → lits ≡ pending → assumed ≡ map negated lits
      → ((k : ℕ) (after : List Word) → k < 2 ^ 32 → words ≡ decimal k ∷ after → (count ≡ k) × (rest ≡ after))
      → (r : Result Bool E) → IfOk r (λ b. (hints : List Hint) → AreSpelledHints hints → length hints ≡ count → rest ≡ flat_map hint_words hints → IsTrue b ↔ AreRefuting s lines n assumed hints)
      → IfOk r (λ b. (hints : List Hint) → AreSpelledHints hints → words ≡ decimal (length hints) ∷ flat_map hint_words hints → IsTrue b ↔ IsLearnt s lines n pending hints)
  learnt_words giving set forced assumed count rest range same denied counted (Err e) are = tt
  learnt_words giving set forced assumed count rest range same denied counted (Ok b) are = λ hints spelled is.
      let first = counted (length hints) (flat_map hint_words hints) spelled.count is in
      let one : Result Bool E = Ok b in
      subst (λ ls. IsTrue b ↔ IsLearnt s lines n ls hints) same
      (learnt s lines n giving set forced lits hints assumed range (those_same (map negated lits) assumed denied) one (are hints spelled (sym first.0) first.1))
