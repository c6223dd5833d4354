-- Where lines are right, their clauses hold.
use Rattle.std.proofs.Common.{◌≡◌, ◌∙◌, sym, subst, ℕ, zero, suc, ◌<◌, Bool, true, List, [], ◌∷◌, length, Some, Ok, Err, inl, inr, ℤ, arith}
use Rattle.std.specs.Prelude.{Result, nat_lt, option_map, All}
use Rattle.std.specs.Result.{result_ok}
use Rattle.std.proofs.lemmas.Bool.{cases_lt, ltb-true}
use Rattle.std.proofs.lemmas.List.Elements.{All-nil, All-cons}
use Rattle.mt_model.specs.Form.{Form}
use Rattle.mt_model.specs.Log.{Logged, IsLog}
use Rattle.mt_model.specs.Timing.{Admissible}
use Rattle.mt_model.specs.Truth.{truth}
use Rattle.formula_arena.specs.Nodes.{nodes_of}
use Rattle.hint_refutation.specs.Laws.{HintsAreSound, IsMet}
use Rattle.axiom_rules.specs.declared.fault.RuleFault.{RuleFault}
use Rattle.axiom_rules.specs.declared.literal.Literal.{Literal}
use Rattle.axiom_rules.specs.Clauses.{clause_of}
use Rattle.axiom_rules.specs.Holds.{clause_holds, holds}
use Rattle.axiom_rules.specs.Laws.{RulesHold}
use Rattle.axiom_rules.specs.Literals.{negated}
use Rattle.axiom_rules.specs.Sought.{sought_of}
use Rattle.proof_log.specs.declared.line.Hint.{Hint}
use Rattle.proof_log.specs.declared.line.Hint.TheVariants as hint
use Rattle.proof_log.specs.declared.line.Line.{Line}
use Rattle.proof_log.specs.declared.line.Line.TheVariants as line
use Rattle.proof_log.specs.Derivations.{HasClauses, IsShown, RightLine, clause_of_hint, clause_of_line, line_at}
use Rattle.proof_check.specs.Laws.{AreRight, RefutedIsNoValue, RightLinesHold}
use Rattle.proof_check.proofs.Standing.{any_met, met_any}
use Rattle.proof_check.proofs.WalksHold.{conflict_clause, valuation}
use Rattle.mt_model.proofs.Conflicts.{guarded_some, mapped_some}

was_ok : (r : Result (List Literal) RuleFault) (c : List Literal) → result_ok r ≡ Some c → r ≡ Ok c
was_ok (Ok d) c is = cc
was_ok (Err fault) c is = absurd (cc)

module _ (rules : RulesHold) (sound : HintsAreSound Literal) (log : Logged) (f : Form) (v : Bool) (lines : List Line) (t : List ℤ) (valid : IsLog log)
    (ok : Admissible log t) (value : truth log t 0 f ≡ v) where
  abbrev Held : List Literal → Type 0
  Held c = clause_holds log t (nodes_of f) c ≡ true

  -- the clauses of the lines before line n hold
  abbrev HeldBefore : ℕ → Type 0
  HeldBefore n = (m : ℕ) (line : Line) → m < n → line_at lines m ≡ Some line → Held (clause_of_line line)

  hint_held : (n : ℕ) → HeldBefore n → (h : Hint) (c : List Literal) → clause_of_hint (sought_of log f v) lines n h ≡ Some c → Held c
  hint_held n before (hint.Line m) c is =
      let g = guarded_some (nat_lt m n) (option_map clause_of_line (line_at lines m)) c is in
      let (l, at, same) = mapped_some clause_of_line (line_at lines m) c g.1 in
      subst Held same (before m l (ltb-true m n g.0) at)
  hint_held n before (hint.Rule r) c is = rules.sought_value log t f v r c valid ok value (was_ok (clause_of (sought_of log f v) r) c is)

  hints_met : (n : ℕ) → HeldBefore n → (hints : List Hint) (clauses : List (List Literal)) → HasClauses (sought_of log f v) lines n hints clauses → All (IsMet (holds log t (nodes_of f))) clauses
  hints_met n before [] [] has = All-nil (IsMet (holds log t (nodes_of f)))
  hints_met n before [] (c ∷ cs) has = absurd (cc)
  hints_met n before (h ∷ hs) [] has = absurd (cc)
  hints_met n before (h ∷ hs) (c ∷ cs) has =
      let here : clause_of_hint (sought_of log f v) lines n h ≡ Some c = cc in
      let others : HasClauses (sought_of log f v) lines n hs cs = cc in
      All-cons (IsMet (holds log t (nodes_of f))) c cs (any_met (holds log t (nodes_of f)) c (hint_held n before h c here)) (hints_met n before hs cs others)

  shown_held : (n : ℕ) → HeldBefore n → (l : Line) → IsShown (sought_of log f v) lines n l → Held (clause_of_line l)
  shown_held n before (line.Cycle steps) shown = conflict_clause log t (nodes_of f) ok steps shown
  shown_held n before (line.Learn lits hints) shown =
      met_any (holds log t (nodes_of f)) lits
      (sound negated (holds log t (nodes_of f)) (valuation log t (nodes_of f)) lits shown.clauses (hints_met n before hints shown.clauses shown.cited) shown.refuted)

  right_held : (n : ℕ) → HeldBefore n → RightLine log f v lines n → (l : Line) → line_at lines n ≡ Some l → Held (clause_of_line l)
  right_held n before right l at =
      let same : right.line ≡ l = let both : Some right.line ≡ Some l = sym right.stands ∙ at in cc in
      subst (λ (k : Line). Held (clause_of_line k)) same (shown_held n before right.line right.shown)

  -- where lines 1 to n are right, the clauses of the lines before line n + 1 hold
  pub right_before : (n : ℕ) → AreRight log f v lines n → HeldBefore (suc n)
  right_before n right zero l below at = absurd (cc)
  right_before zero right (suc m) l below at = absurd (omega (arith, below))
  right_before (suc n) right (suc m) l below at =
      let before = right_before n (λ k least most. right k least (omega (arith, most))) in
      elim (cases_lt (suc m) (suc n)) [
        | inl earlier ↦ before (suc m) l earlier at
        | inr last ↦
            let same : suc m ≡ suc n = omega (arith, last, below) in
            right_held (suc n) before (right (suc n) (omega arith) (omega arith)) l (subst (λ (k : ℕ). line_at lines k ≡ Some l) same at)
      ]

pub lines_hold : RulesHold → HintsAreSound Literal → RightLinesHold
lines_hold rules sound log f v lines n line t valid right at ok value = right_before rules sound log f v lines t valid ok value n right n line (omega arith) at

pub no_value : RightLinesHold → RefutedIsNoValue
no_value law log f v lines valid refutes some =
    let (last, at, empty) = mapped_some clause_of_line (line_at lines (length lines)) [] refutes.last in
    let held = law log f v lines (length lines) last some.timing valid (λ m least most. (refutes.none_wrong m least most).right) at some.admissible some.value in
    let none = subst (λ c. clause_holds log some.timing (nodes_of f) c ≡ true) empty held in
    absurd (cc)
