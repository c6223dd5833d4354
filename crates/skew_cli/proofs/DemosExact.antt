-- What `demo` answers.
use Rattle.std.proofs.Common.{◌≡◌, subst, ℕ, ◌≤◌, length, None, Result, Ok, Err, inl, inr, arith}
use Rattle.std.specs.Prelude.{IfOk}
use Rattle.mt_model.specs.Form.{Form}
use Rattle.mt_model.specs.Log.{Logged}
use Rattle.mt_model.specs.State.{unknown_host}
use Rattle.formula_arena.specs.Nodes.{nodes_of}
use Rattle.formula_arena.specs.declared.arena.TheConstants.{MAX_NODES}
use Rattle.question.specs.Size.{IsSmall}
use Rattle.report_text.specs.declared.report.Report.{Report}
use Rattle.verdict.specs.Claims.{Claims}
use Rattle.verdict.specs.Right.{IsRight}
use Rattle.skew_words.specs.declared.limits.TheConstants.{DEFAULT_CONFLICTS}
use Rattle.skew_answers.specs.declared.status.Status.{Status}
use Rattle.skew_answers.specs.declared.status.Status.TheVariants as status
use Rattle.demo_log.specs.DemoFormula.{demo_formula}
use Rattle.demo_log.specs.DemoLog.{local_times, log_of_seed}
use Rattle.demo_log.proofs.SeedsConsistent.{seeds-consistent}
use Rattle.skew_commands.specs.declared.refusal.Refusal.{Refusal}
use Rattle.skew_commands.specs.declared.reply.Stop.{Stop}
use Rattle.skew_commands.specs.Stops.{RefusesFor}
use Rattle.skew_commands.proofs.Steps.{reason-weaker}
use Rattle.skew_cli.specs.DemoLaws.{DemosAreExact, DemosAreJudged}
use Rattle.skew_cli.specs.Laws.{IsStatusOfValues}
use Rattle.skew_best.specs.SizeTests.{TellsLarge}
use Rattle.skew_cli.proofs.DemoJudged.{demo-few, demo-known, demo-small}
use Rattle.skew_cli.proofs.StatusValues.{exact-status}
use Rattle.skew_cli.proofs.Witnesses.{exact-witnesses}

-- a log and a formula that are those of the demo
module _ (seed : ℕ) (log : Logged) (f : Form) (same_log : log ≡ log_of_seed seed) (same_form : f ≡ demo_formula) where
  pub made-known : unknown_host log f ≡ None
  made-known = rw (same_log, same_form) (demo-known seed)

  never-large : (r : Refusal) → TellsLarge f log r → ⊥
  never-large r told =
      let few : length (nodes_of f) ≤ MAX_NODES = rw same_form demo-few in
      let small : IsSmall log (nodes_of f) = rw (same_log, same_form) (demo-small seed) in
      elim told [
        | inl many ↦ absurd (omega (arith, many.1, few))
        | inr large ↦ let (n, _, is) = large.1 in let low = small n is.size in let high = is.large in absurd (omega (arith, low, high))
      ]

  pub right-made : (result : Result Report Stop) → IfOk result (IsRight log f DEFAULT_CONFLICTS) → IfOk result (IsRight (log_of_seed seed) demo_formula DEFAULT_CONFLICTS)
  right-made result right =
      subst (λ g. IfOk result (IsRight (log_of_seed seed) g DEFAULT_CONFLICTS)) same_form (subst (λ l. IfOk result (IsRight l f DEFAULT_CONFLICTS)) same_log right)

  pub claims-made : (result : Result Report Stop) → IfOk result (Claims log f) → IfOk result (Claims (log_of_seed seed) demo_formula)
  claims-made result claims = subst (λ g. IfOk result (Claims (log_of_seed seed) g)) same_form (subst (λ l. IfOk result (Claims l f)) same_log claims)

  pub never-refused : (result : Result Report Stop) → RefusesFor result (TellsLarge f log) → RefusesFor result (λ r. ⊥)
  never-refused (Ok report) told = tt
  never-refused (Err s) told = reason-weaker s (TellsLarge f log) (λ r. ⊥) never-large told

pub demos-judged : DemosAreJudged
demos-judged seed = record { nodes = record { hosts = demo-known seed; few = demo-few }; small = demo-small seed }

-- the local times are one timing that the log admits
never-inconsistent : (seed : ℕ) (r : Report) (s : Status) → IsStatusOfValues (log_of_seed seed) demo_formula r s → s ≡ status.Inconsistent → ⊥
never-inconsistent seed r s of_values is = of_values.inconsistent.0 is (local_times seed) (seeds-consistent seed)

pub demos-exact : DemosAreExact
demos-exact seed out s demo =
    let of_values = exact-status (log_of_seed seed) demo_formula DEFAULT_CONFLICTS demo.report s demo.right.says demo.claims demo.status in
    record {
      demo = demo;
      witnesses = exact-witnesses (log_of_seed seed) demo_formula demo.report demo.claims;
      status = of_values;
      consistent = never-inconsistent seed demo.report s of_values;
    }
