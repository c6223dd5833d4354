-- What `span` answers of a formula and a log that were read.
use Rattle.std.proofs.Common.{◌≡◌, refl, sym, subst, ℕ, Bool, List, inl, inr}
use Rattle.mt_model.specs.Form.{Form}
use Rattle.mt_model.specs.Log.{Logged}
use Rattle.mtl_parse.specs.Laws.{TextsAreUnambiguous}
use Rattle.verdict_span.specs.declared.greatest.Widest.{Widest}
use Rattle.verdict_span.specs.declared.greatest.Widest.TheVariants as widest
use Rattle.verdict_span.specs.Told.{IsInconsistentExactly, Tells}
use Rattle.verdict_span.specs.Widest.{WidestRight}
use Rattle.skew_answers.specs.declared.status.Status.{Status}
use Rattle.skew_commands.specs.Tests.{OnNodes}
use Rattle.skew_best.specs.EventTests.{OnEvents}
use Rattle.skew_best.specs.SizeTests.{OnSize}
use Rattle.skew_best.specs.SpanLaws.{IsBestSpan, SpansAreAsked, SpansAreBest}
use Rattle.skew_best.specs.SpanOutcome.{SpanOfLog, Spanned, span_status}
use Rattle.skew_best.specs.SpanText.{span_text}
use Rattle.skew_best.proofs.EventSteps.{pass-events, reach-events}
use Rattle.skew_best.proofs.Passing.{pass-hosts, pass-nodes, pass-question, pass-size}
use Rattle.skew_best.proofs.Reaching.{reach-hosts, reach-nodes, reach-question, reach-size}

module _ (conflicts : ℕ) (v : Bool) (e to : ℕ) (f : Form) (log : Logged) (out : List ℕ) where
  -- what a status tells is what the answer of this status tells
  best : (answer : Widest) → WidestRight log f v e to conflicts answer → Tells log f v e to conflicts answer → IsInconsistentExactly log answer → out ≡ span_text v answer
      → Spanned conflicts v e to f log out (span_status answer) → IsBestSpan conflicts v e to f log out (span_status answer)
  best (widest.Greatest d times beyond) right tells exactly written spanned = record {
    spanned = spanned;
    zero = λ is. record { d = d; first = (_, written); greatest = tells };
    one = λ is. absurd (cc);
    unknown = λ is. absurd (cc);
    possible = λ can. inl refl;
    inconsistent = (λ is. absurd (cc), λ none. absurd (cc (exactly.1 none)));
  }
  best (widest.Never lines) right tells exactly written spanned = record {
    spanned = spanned;
    zero = λ is. absurd (cc);
    one = λ is. tells;
    unknown = λ is. absurd (cc);
    possible = λ can. absurd (tells can);
    inconsistent = (λ is. absurd (cc), λ none. absurd (cc (exactly.1 none)));
  }
  best (widest.Inconsistent steps) right tells exactly written spanned = record {
    spanned = spanned;
    zero = λ is. absurd (cc);
    one = λ is. absurd (cc);
    unknown = λ is. absurd (cc);
    possible = λ can. absurd (tells can.timing can.admissible);
    inconsistent = (λ is. tells, λ none. refl);
  }
  best (widest.Unknown least lines) right tells exactly written spanned = record {
    spanned = spanned;
    zero = λ is. absurd (cc);
    one = λ is. absurd (cc);
    unknown = λ is. record { least = least; first = (_, written); spent = tells };
    possible = λ can. inr refl;
    inconsistent = (λ is. absurd (cc), λ none. absurd (cc (exactly.1 none)));
  }

  spanned-best : (s : Status) → Spanned conflicts v e to f log out s → IsBestSpan conflicts v e to f log out s
  spanned-best s t =
      let told : Spanned conflicts v e to f log out (span_status t.answer) = subst (Spanned conflicts v e to f log out) t.status t in
      subst (IsBestSpan conflicts v e to f log out) (sym t.status) (best t.answer t.right t.tells t.inconsistent t.written told)

pub spans-best : TextsAreUnambiguous → SpansAreBest
spans-best texts files conflicts v e to formula log text f l out s q h =
    let spanned = Spanned conflicts v e to f l in
    let judged = q.judged in
    let on_hosts = pass-question out s texts files formula log (SpanOfLog conflicts v e to) text f l q.question h in
    let on_nodes = pass-hosts out s text f l (OnNodes f (OnEvents e to l (OnSize f l spanned))) judged.nodes.hosts on_hosts in
    let on_events = pass-nodes out s f (OnEvents e to l (OnSize f l spanned)) judged.nodes.few on_nodes in
    let on_size = pass-events e to l (OnSize f l spanned) out s q.rows on_events in
    spanned-best conflicts v e to f l out s (pass-size out s f l spanned judged.small on_size)

pub spans-asked : SpansAreAsked
spans-asked files conflicts v e to formula log out s h verdict =
    let q = reach-question out s verdict files formula log (SpanOfLog conflicts v e to) h in
    let f = q.form in
    let l = q.logged in
    let spanned = Spanned conflicts v e to f l in
    let hosts = reach-hosts out s verdict q.text f l (OnNodes f (OnEvents e to l (OnSize f l spanned))) q.next in
    let nodes = reach-nodes out s verdict f (OnEvents e to l (OnSize f l spanned)) hosts.1 in
    let rows = reach-events e to l (OnSize f l spanned) out s verdict nodes.1 in
    let small = reach-size out s verdict f l spanned rows.1 in
    (q.text, f, l, record { question = q.question; judged = record { nodes = record { hosts = hosts.0; few = nodes.0 }; small = small.0 }; rows = rows.0 })
