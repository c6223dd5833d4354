-- Walks over the bounds of a text.
use Rattle.std.proofs.Common.{◌≡◌, ◌∙◌, sym, ap, subst, ℕ, ◌+◌, ◌<◌, ◌≤◌, List, [], ◌∷◌, ◌++◌, length, get_or, drop, take, arith}
use Rattle.std.specs.List.{flat_map}
use Rattle.std.proofs.lemmas.List.{drop_more, take_all, take_more}
use Rattle.std.proofs.lemmas.List.Elements.{All-get_or}
use Rattle.mt_model.specs.declared.step.Step.{Step}
use Rattle.mt_model.specs.Log.{Logged}
use Rattle.proof_check.specs.declared.cycle_walk.CycleWalk.{CycleWalk}
use Rattle.proof_check.specs.Walking.{HasRoom, HasWalked}
use Rattle.report_text.specs.ReportText.{bound_text}
use Rattle.report_text.specs.Spelled.{IsSpelledBound}
use Rattle.verdict.specs.OfOutlines.{AreBoundsOf}

-- the walk is that of the first i steps, and the rest is the text of the others
pub record AreWalkedTo (log : Logged) (i : ℕ) (rest : List ℕ) (walk : CycleWalk) (steps : List Step) : Type 0 where
  pub walked : HasWalked log (take i steps) walk
  pub left : rest ≡ flat_map bound_text (drop i steps)

-- i bounds were walked, and if the text is that of bounds, they are these
pub record BoundsWalked (log : Logged) (count : ℕ) (text : List ℕ) (i : ℕ) (rest : List ℕ) (walk : CycleWalk) : Type 0 where
  pub count_is : walk.count ≡ i
  pub room : HasRoom walk
  pub each : (steps : List Step) → AreBoundsOf count text steps → AreWalkedTo log i rest walk steps

module _ (log : Logged) (count : ℕ) (text : List ℕ) where
  pub none_walked : (walk : CycleWalk) → walk.count ≡ 0 → HasRoom walk → HasWalked log [] walk → BoundsWalked log count text 0 text walk
  none_walked walk none room walked = record { count_is = none; room = room; each = λ steps are. record { walked = walked; left = sym are.are } }

  module _ (i : ℕ) (rest : List ℕ) (walk : CycleWalk) (low : i < count) (before : BoundsWalked log count text i rest walk) where
    next : (steps : List Step) → AreBoundsOf count text steps → (d : Step)
        → (i < length steps) × IsSpelledBound (get_or steps i d) × (rest ≡ bound_text (get_or steps i d) ++ flat_map bound_text (drop (i + 1) steps))
    next steps are d =
        let below : i < length steps = omega (arith, low, are.full) in
        (below, All-get_or IsSpelledBound steps i d below are.each, (before.each steps are).left ∙ ap (flat_map bound_text) (drop_more steps i d below))

    pub more_walked : (s : Step) (after : List ℕ) → ((t : Step) (later : List ℕ) → IsSpelledBound t → rest ≡ bound_text t ++ later → (s ≡ t) × (after ≡ later))
        → (further : CycleWalk) → further.count ≡ walk.count + 1 → HasRoom further
        → ((steps : List Step) → HasWalked log steps walk → HasWalked log (steps ++ s ∷ []) further) → BoundsWalked log count text (i + 1) after further
    more_walked s after read further counted room goes = record {
      count_is = omega (arith, counted, before.count_is);
      room = room;
      each = λ steps are.
          let there = next steps are s in
          let found = read (get_or steps i s) (flat_map bound_text (drop (i + 1) steps)) there.1 there.2 in
          let one : take (i + 1) steps ≡ take i steps ++ s ∷ [] = take_more steps i s there.0 ∙ ap (λ t. take i steps ++ t ∷ []) (sym found.0) in
          record { walked = subst (λ ss. HasWalked log ss further) (sym one) (goes (take i steps) (before.each steps are).walked); left = found.1 };
    }

    pub no_more : ((t : Step) (later : List ℕ) → IsSpelledBound t → rest ≡ bound_text t ++ later → ⊥) → (steps : List Step) → AreBoundsOf count text steps → Step → ⊥
    no_more none steps are d = let there = next steps are d in none (get_or steps i d) (flat_map bound_text (drop (i + 1) steps)) there.1 there.2

  pub all_walked : (i : ℕ) (rest : List ℕ) (walk : CycleWalk) → count ≤ i → BoundsWalked log count text i rest walk → (steps : List Step) → AreBoundsOf count text steps → HasWalked log steps walk
  all_walked i rest walk past walked steps are = subst (λ ss. HasWalked log ss walk) (take_all i steps (omega (arith, past, are.full))) (walked.each steps are).walked
