-- What a formula's truth is in a timing doesn't depend on the skews.
use Rattle.std.proofs.Common.{◌≡◌, ◌∙◌, sym, ap, ℕ, Bool, false, List, ℤ, pos}
use Rattle.std.specs.Option.{option_map_or}
use Rattle.mt_model.specs.Form.{Form}
use Rattle.mt_model.specs.Log.{Logged, widened}
use Rattle.mt_model.specs.Positions.{positions_of}
use Rattle.mt_model.specs.State.{state, state_named}
use Rattle.mt_model.specs.Truth.{positions_in, truth}
use Rattle.best_answer.proofs.SameStates.{truths}
use Rattle.least_skew.specs.Laws.{ValuesMayGrow}
use Rattle.least_skew.specs.Least.{wide}
use Rattle.least_skew.proofs.Widenings.{named-at, skews-may-grow}

states-kept : (log : Logged) (z : ℤ) (t : List ℤ) (u : ℤ) (host name : List ℕ) → state_named (widened z log) t u host name ≡ state_named log t u host name
states-kept log z t u host name = ap (λ h. option_map_or (λ x. state log t u x name) h false) (named-at log z host)

truth-kept : (log : Logged) (z : ℤ) (t : List ℤ) (i : ℕ) (f : Form) → truth (widened z log) t i f ≡ truth log t i f
truth-kept log z t i f = ap (λ (p : ℕ → Bool). p i) (truths (widened z log) log t (states-kept log z t) (positions_in (positions_of t)) f)

pub truth-stays : (log : Logged) (r s : ℕ) (t : List ℤ) (i : ℕ) (f : Form) → truth (wide r log) t i f ≡ truth (wide s log) t i f
truth-stays log r s t i f = truth-kept log (pos r) t i f ∙ sym (truth-kept log (pos s) t i f)

pub values-may-grow : ValuesMayGrow
values-may-grow log f v r s less value = record {
  timing = value.timing;
  admissible = skews-may-grow.further log r s value.timing less value.admissible;
  value = truth-stays log s r value.timing 0 f ∙ value.value;
}
