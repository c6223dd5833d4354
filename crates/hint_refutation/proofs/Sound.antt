-- Where each hint is met, what the hints refute doesn't all hold.
use Rattle.std.proofs.Common.{◌≡◌, ◌∙◌, ap, sym, inl, inr, Bool, true, false, not, List, [], ◌∷◌}
use Rattle.std.specs.Prelude.{map, IsTrue, IsFalse}
use Rattle.std.specs.List.{All, Contains}
use Rattle.std.proofs.lemmas.List.Elements.{All-head, All-tail}
use Rattle.hint_refutation.specs.Hints.{Refutes}
use Rattle.hint_refutation.specs.Laws.{IsValuation, IsMet, RefutedAssumptionsFail, HintsAreSound}
use Rattle.hint_refutation.proofs.Lists.{contains_cases, contains_unmap, any_found, any_from}
use Rattle.hint_refutation.proofs.Hinted.{left_or_false, is_false}
use Rattle.std.proofs.lemmas.Bool.{not-false}

module _ {L : Type 0} (neg : L → L) (holds : L → Bool) (valuation : IsValuation neg holds) where
  negation_fails : (l : L) → IsTrue (holds l) → IsFalse (holds (neg l))
  negation_fails l is = valuation l ∙ ap not is

  some_fails : (assumed : List L) (hints : List (List L)) → All (IsMet holds) hints → Refutes neg assumed hints → (l : L) × Contains assumed l × IsFalse (holds l)
  some_fails assumed [] met refutes = absurd refutes
  some_fails assumed (hint ∷ later) met (inl last) =
      let (l, has, is) = any_found (λ (k : L). IsTrue (holds k)) hint (All-head (IsMet holds) hint later met) in
      (neg l, is_false neg assumed hint l last.1 has, negation_fails l is)
  some_fails assumed (hint ∷ later) met (inr (u, gives, rest)) =
      let (a, has, fails) = some_fails (u ∷ assumed) later (All-tail (IsMet holds) hint later met) rest in
      elim (contains_cases u a assumed has) [
        | inr old ↦ (a, old, fails)
        | inl same ↦
            let (l, in_, is) = any_found (λ (k : L). IsTrue (holds k)) hint (All-head (IsMet holds) hint later met) in
            elim (left_or_false neg assumed hint u l gives.leaves in_) [
              | inr denied ↦ (neg l, denied, negation_fails l is)
              | inl left ↦ let wrong : true ≡ false = sym is ∙ ap holds (left ∙ same) ∙ fails in absurd cc
            ]
      ]

pub assumptions_fail : (L : Type 0) → RefutedAssumptionsFail L
assumptions_fail L neg holds valuation assumed hints met refutes =
    let (l, has, fails) = some_fails neg holds valuation assumed hints met refutes in
    any_from (λ (k : L). IsFalse (holds k)) assumed l has fails

pub hints-sound : (L : Type 0) → HintsAreSound L
hints-sound L neg holds valuation clause hints met refutes =
    let (a, has, fails) = some_fails neg holds valuation (map neg clause) hints met refutes in
    let (l, in_, is) = contains_unmap neg clause a has in
    any_from (λ (k : L). IsTrue (holds k)) clause l in_ (not-false (holds l) (sym (valuation l) ∙ ap holds is ∙ fails))
