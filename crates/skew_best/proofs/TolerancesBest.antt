-- What `tolerance` answers of a formula and a log that were read.
use Rattle.std.proofs.Common.{◌≡◌, refl, sym, subst, ℕ, Bool, List, inl, inr}
use Rattle.mt_model.specs.Form.{Form}
use Rattle.mt_model.specs.Log.{Logged}
use Rattle.mtl_parse.specs.Laws.{TextsAreUnambiguous}
use Rattle.least_skew.specs.declared.tolerance.Tolerance.{Tolerance}
use Rattle.least_skew.specs.declared.tolerance.Tolerance.TheVariants as tolerance
use Rattle.least_skew.specs.Least.{LeastRight, wide}
use Rattle.least_skew.specs.Told.{IsInconsistentExactly, Tells}
use Rattle.least_skew.proofs.Widenings.{skews-may-grow}
use Rattle.skew_answers.specs.declared.status.Status.{Status}
use Rattle.skew_commands.specs.Tests.{OnNodes}
use Rattle.skew_best.specs.BestLaws.{IsBestTolerance, TolerancesAreAsked, TolerancesAreBest}
use Rattle.skew_best.specs.SizeTests.{OnSize}
use Rattle.skew_best.specs.ToleranceOutcome.{ToleranceOfLog, Tolerated, tolerance_status}
use Rattle.skew_best.specs.ToleranceText.{tolerance_text}
use Rattle.skew_best.proofs.Passing.{pass-hosts, pass-nodes, pass-question, pass-size}
use Rattle.skew_best.proofs.Reaching.{reach-hosts, reach-nodes, reach-question, reach-size}

module _ (conflicts : ℕ) (v : Bool) (max : ℕ) (f : Form) (log : Logged) (out : List ℕ) where
  -- what a status tells is what the answer of this status tells
  best : (answer : Tolerance) → LeastRight log f v max conflicts answer → Tells log f v max conflicts answer → IsInconsistentExactly log max answer → out ≡ tolerance_text v answer
      → Tolerated conflicts v max f log out (tolerance_status answer) → IsBestTolerance conflicts v max f log out (tolerance_status answer)
  best (tolerance.Least s times below) right tells exactly written tolerated = record {
    tolerated = tolerated;
    zero = λ is. record { s = s; within = right.within; first = (_, written); least = tells };
    one = λ is. absurd (cc);
    unknown = λ is. absurd (cc);
    possible = λ possible. inl refl;
    inconsistent = (λ is. absurd (cc), λ none. absurd (cc (exactly.1 none)));
  }
  best (tolerance.Never lines) right tells exactly written tolerated = record {
    tolerated = tolerated;
    zero = λ is. absurd (cc);
    one = λ is possible. tells possible.s possible.within possible.can;
    unknown = λ is. absurd (cc);
    possible = λ possible. absurd (tells possible.s possible.within possible.can);
    inconsistent = (λ is. absurd (cc), λ none. absurd (cc (exactly.1 none)));
  }
  best (tolerance.Inconsistent steps) right tells exactly written tolerated = record {
    tolerated = tolerated;
    zero = λ is. absurd (cc);
    one = λ is. absurd (cc);
    unknown = λ is. absurd (cc);
    possible = λ possible. let can = possible.can in absurd (tells can.timing (skews-may-grow.further log possible.s max can.timing possible.within can.admissible));
    inconsistent = (λ is. tells, λ none. refl);
  }
  best (tolerance.Unknown s lines) right tells exactly written tolerated = record {
    tolerated = tolerated;
    zero = λ is. absurd (cc);
    one = λ is. absurd (cc);
    unknown = λ is. record { s = s; within = right.within; first = (_, written); spent = tells };
    possible = λ possible. inr refl;
    inconsistent = (λ is. absurd (cc), λ none. absurd (cc (exactly.1 none)));
  }

  tolerated-best : (s : Status) → Tolerated conflicts v max f log out s → IsBestTolerance conflicts v max f log out s
  tolerated-best s t =
      let told : Tolerated conflicts v max f log out (tolerance_status t.answer) = subst (Tolerated conflicts v max f log out) t.status t in
      subst (IsBestTolerance conflicts v max f log out) (sym t.status) (best t.answer t.right t.tells t.inconsistent t.written told)

pub tolerances-best : TextsAreUnambiguous → TolerancesAreBest
tolerances-best texts files conflicts v max formula log text f l out s q h =
    let tolerated = Tolerated conflicts v max f l in
    let asked = q.asked in
    let on_hosts = pass-question out s texts files formula log (ToleranceOfLog conflicts v max) text f l q.question h in
    let on_nodes = pass-hosts out s text f l (OnNodes f (OnSize f (wide max l) tolerated)) asked.hosts on_hosts in
    let on_size = pass-nodes out s f (OnSize f (wide max l) tolerated) asked.few on_nodes in
    tolerated-best conflicts v max f l out s (pass-size out s f (wide max l) tolerated asked.small on_size)

pub tolerances-asked : TolerancesAreAsked
tolerances-asked files conflicts v max formula log out s h verdict =
    let q = reach-question out s verdict files formula log (ToleranceOfLog conflicts v max) h in
    let f = q.form in
    let l = q.logged in
    let tolerated = Tolerated conflicts v max f l in
    let hosts = reach-hosts out s verdict q.text f l (OnNodes f (OnSize f (wide max l) tolerated)) q.next in
    let nodes = reach-nodes out s verdict f (OnSize f (wide max l) tolerated) hosts.1 in
    let small = reach-size out s verdict f (wide max l) tolerated nodes.1 in
    (q.text, f, l, record { question = q.question; asked = record { hosts = hosts.0; few = nodes.0; small = small.0 } })
