-- A report has one audit.
use Rattle.std.proofs.Common.{◌≡◌, ◌∙◌, sym, ap, subst, arith, refl, ℕ, zero, suc, ◌-◌, ◌<◌, ◌≤◌, inl, inr, Bool, true, false, List, [], ◌∷◌, take, Some}
use Rattle.std.proofs.lemmas.Bool.{cases_lt}
use Rattle.std.proofs.lemmas.List.{take-map, take-take}
use Rattle.mt_model.specs.declared.step.Step.{Step}
use Rattle.mt_model.specs.Form.{Form}
use Rattle.mt_model.specs.Log.{Logged}
use Rattle.mt_model.specs.Walks.{Edge, LeadsTo}
use Rattle.proof_log.specs.declared.line.Line.{Line}
use Rattle.proof_check.proofs.AnswerLemmas.{no_first, same_first}
use Rattle.proof_check.specs.Cycles.{FollowOneAnother, IsFirstLoose, IsPlace, IsWalk, bound_edge_of}
use Rattle.report_text.specs.declared.report.Section.{Section}
use Rattle.report_text.specs.declared.report.Section.TheVariants as section
use Rattle.report_text.specs.declared.report.Report.{Report}
use Rattle.report_text.specs.declared.report.Report.TheVariants as report
use Rattle.verdict.specs.declared.answer.Audit.TheVariants as audit
use Rattle.verdict.specs.declared.answer.Part.{Part}
use Rattle.verdict.specs.declared.answer.Part.TheVariants as part
use Rattle.verdict.specs.AuditPlace.{AuditPlace, IsAccepted, IsLinesPlace, IsRefusedAt, IsSectionLine, ShowsAll}
use Rattle.verdict.specs.Laws.{AuditsAreExact}

module _ (log : Logged) (f : Form) (v : Bool) (lines : List Line) where
  same_lines : (m n : ℕ) → IsLinesPlace log f v lines m → IsLinesPlace log f v lines n → m ≡ n
  same_lines m n one other = elim one [
    | inl first ↦ elim other [ inl second ↦ same_first log f v lines m n first second | inr whole ↦ absurd (no_first log f v lines whole.none_wrong m first) ]
    | inr whole ↦ elim other [ inl second ↦ absurd (no_first log f v lines whole.none_wrong n second) | inr also ↦ whole.whole ∙ sym also.whole ]
  ]

same_line : (log : Logged) (f : Form) (v : Bool) (s : Section) (m n : ℕ) → IsSectionLine log f v s m → IsSectionLine log f v s n → m ≡ n
same_line log f v (section.Witness t) m n one other = one ∙ sym other
same_line log f v (section.Refuted lines) m n one other = same_lines log f v lines m n one other
same_line log f v (section.Unknown lines) m n one other = same_lines log f v lines m n one other

-- the first edges of a walk are a walk
leads_take : (a b k : ℕ) (xs : List Edge) → LeadsTo a xs b → (c : ℕ) × LeadsTo a (take k xs) c
leads_take a b zero xs leads = (a, refl)
leads_take a b (suc k) [] leads = (a, refl)
leads_take a b (suc k) (x ∷ xs) leads = let rest = leads_take x.to b k xs leads.1 in (rest.0, (leads.0, rest.1))

follow_take : (k : ℕ) (xs : List Edge) → FollowOneAnother xs → FollowOneAnother (take k xs)
follow_take zero xs follow = tt
follow_take (suc k) [] follow = tt
follow_take (suc k) (x ∷ xs) follow = leads_take x.to follow.0 k xs follow.1

module _ (log : Logged) (steps : List Step) where
  walk_take : (ss : List Step) (k : ℕ) → IsWalk log ss → IsWalk log (take k ss)
  walk_take ss k walk = record {
    edges = take k walk.edges;
    found = sym (take-map (bound_edge_of log) k ss) ∙ ap (take k) walk.found ∙ take-map Some k walk.edges;
    joined = follow_take k walk.edges walk.joined;
  }

  -- a walk has no first loose step
  walk_tight : (n : ℕ) → IsWalk log steps → IsFirstLoose log steps n → ⊥
  walk_tight n walk first = first.loose (walk_take steps n walk)

  -- a step before the first loose one isn't loose
  loose_not_before : (m n : ℕ) → IsFirstLoose log steps m → IsFirstLoose log steps n → m < n → ⊥
  loose_not_before m n one other before =
      let least : m ≤ n - 1 = omega (arith, before) in
      one.loose (subst (IsWalk log) (take-take m (n - 1) steps least) (walk_take (take (n - 1) steps) m other.before))

  same_place : (m n : ℕ) → IsPlace log steps m → IsPlace log steps n → m ≡ n
  same_place m n one other = elim one [
    | inl first ↦ elim other [
      | inl second ↦ elim (cases_lt m n) [
        | inl before ↦ absurd (loose_not_before m n first second before)
        | inr from ↦ elim (cases_lt n m) [
          | inl after ↦ absurd (loose_not_before n m second first after)
          | inr to ↦ omega (arith, from, to)
        ]
      ]
      | inr whole ↦ absurd (walk_tight m whole.0 first)
    ]
    | inr whole ↦ elim other [
      | inl second ↦ absurd (walk_tight n whole.0 second)
      | inr also ↦ whole.1 ∙ sym also.1
    ]
  ]

module _ (log : Logged) (f : Form) (conflicts : ℕ) where
  same_refusal : (r : Report) (p q : Part) (m n : ℕ) → IsRefusedAt log f conflicts r p m → IsRefusedAt log f conflicts r q n → audit.Refused p m ≡ audit.Refused q n
  same_refusal (report.Inconsistent events steps) part.Inconsistent part.Inconsistent m n one other = ap (audit.Refused part.Inconsistent) (same_place log steps m n one.place other.place)
  same_refusal (report.Inconsistent events steps) part.Inconsistent part.Events m n one other = absurd other
  same_refusal (report.Inconsistent events steps) part.Inconsistent part.OnTrue m n one other = absurd other
  same_refusal (report.Inconsistent events steps) part.Inconsistent part.OnFalse m n one other = absurd other
  same_refusal (report.Inconsistent events steps) part.Events q m n one other = absurd one
  same_refusal (report.Inconsistent events steps) part.OnTrue q m n one other = absurd one
  same_refusal (report.Inconsistent events steps) part.OnFalse q m n one other = absurd one
  same_refusal (report.Verdicts events on_true on_false) part.OnTrue part.OnTrue m n one other = ap (audit.Refused part.OnTrue) (same_line log f true on_true m n one.line other.line)
  same_refusal (report.Verdicts events on_true on_false) part.OnTrue part.OnFalse m n one other = absurd (one.fails other.true_shows)
  same_refusal (report.Verdicts events on_true on_false) part.OnTrue part.Events m n one other = absurd other
  same_refusal (report.Verdicts events on_true on_false) part.OnTrue part.Inconsistent m n one other = absurd other
  same_refusal (report.Verdicts events on_true on_false) part.OnFalse part.OnFalse m n one other =
      ap (audit.Refused part.OnFalse) (same_line log f false on_false m n one.false_fails.line other.false_fails.line)
  same_refusal (report.Verdicts events on_true on_false) part.OnFalse part.OnTrue m n one other = absurd (other.fails one.true_shows)
  same_refusal (report.Verdicts events on_true on_false) part.OnFalse part.Events m n one other = absurd other
  same_refusal (report.Verdicts events on_true on_false) part.OnFalse part.Inconsistent m n one other = absurd other
  same_refusal (report.Verdicts events on_true on_false) part.Events q m n one other = absurd one
  same_refusal (report.Verdicts events on_true on_false) part.Inconsistent q m n one other = absurd one

  same_audit_place : (r : Report) (p q : Part) (m n : ℕ) → AuditPlace log f conflicts r p m → AuditPlace log f conflicts r q n → audit.Refused p m ≡ audit.Refused q n
  same_audit_place r part.Events part.Events m n one other = ap (audit.Refused part.Events) (one.1 ∙ sym other.1)
  same_audit_place r part.Events part.Inconsistent m n one other = absurd (one.0 other.events)
  same_audit_place r part.Events part.OnTrue m n one other = absurd (one.0 other.events)
  same_audit_place r part.Events part.OnFalse m n one other = absurd (one.0 other.events)
  same_audit_place r part.Inconsistent part.Events m n one other = absurd (other.0 one.events)
  same_audit_place r part.Inconsistent part.Inconsistent m n one other = same_refusal r part.Inconsistent part.Inconsistent m n one.refused other.refused
  same_audit_place r part.Inconsistent part.OnTrue m n one other = same_refusal r part.Inconsistent part.OnTrue m n one.refused other.refused
  same_audit_place r part.Inconsistent part.OnFalse m n one other = same_refusal r part.Inconsistent part.OnFalse m n one.refused other.refused
  same_audit_place r part.OnTrue part.Events m n one other = absurd (other.0 one.events)
  same_audit_place r part.OnTrue part.Inconsistent m n one other = same_refusal r part.OnTrue part.Inconsistent m n one.refused other.refused
  same_audit_place r part.OnTrue part.OnTrue m n one other = same_refusal r part.OnTrue part.OnTrue m n one.refused other.refused
  same_audit_place r part.OnTrue part.OnFalse m n one other = same_refusal r part.OnTrue part.OnFalse m n one.refused other.refused
  same_audit_place r part.OnFalse part.Events m n one other = absurd (other.0 one.events)
  same_audit_place r part.OnFalse part.Inconsistent m n one other = same_refusal r part.OnFalse part.Inconsistent m n one.refused other.refused
  same_audit_place r part.OnFalse part.OnTrue m n one other = same_refusal r part.OnFalse part.OnTrue m n one.refused other.refused
  same_audit_place r part.OnFalse part.OnFalse m n one other = same_refusal r part.OnFalse part.OnFalse m n one.refused other.refused

  -- what shows all that it says isn't refused
  shown_refused : (r : Report) (p : Part) (n : ℕ) → ShowsAll log f conflicts r → IsRefusedAt log f conflicts r p n → ⊥
  shown_refused (report.Inconsistent events steps) part.Inconsistent n shown refused = refused.no_cycle shown
  shown_refused (report.Inconsistent events steps) part.Events n shown refused = refused
  shown_refused (report.Inconsistent events steps) part.OnTrue n shown refused = refused
  shown_refused (report.Inconsistent events steps) part.OnFalse n shown refused = refused
  shown_refused (report.Verdicts events on_true on_false) part.OnTrue n shown refused = refused.fails shown.0
  shown_refused (report.Verdicts events on_true on_false) part.OnFalse n shown refused = refused.false_fails.fails shown.1
  shown_refused (report.Verdicts events on_true on_false) part.Events n shown refused = refused
  shown_refused (report.Verdicts events on_true on_false) part.Inconsistent n shown refused = refused

  accepted_refused : (r : Report) (p : Part) (n : ℕ) → IsAccepted log f conflicts r → AuditPlace log f conflicts r p n → ⊥
  accepted_refused r part.Events n accepted place = place.0 accepted.events
  accepted_refused r part.Inconsistent n accepted place = shown_refused r part.Inconsistent n accepted.shown place.refused
  accepted_refused r part.OnTrue n accepted place = shown_refused r part.OnTrue n accepted.shown place.refused
  accepted_refused r part.OnFalse n accepted place = shown_refused r part.OnFalse n accepted.shown place.refused

pub exact : AuditsAreExact
exact log f conflicts r audit.Accepted audit.Accepted one other = refl
exact log f conflicts r audit.Accepted (audit.Refused q n) one other = absurd (accepted_refused log f conflicts r q n one other)
exact log f conflicts r (audit.Refused p m) audit.Accepted one other = absurd (accepted_refused log f conflicts r p m other one)
exact log f conflicts r (audit.Refused p m) (audit.Refused q n) one other = same_audit_place log f conflicts r p q m n one other
