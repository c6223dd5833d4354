use Rattle.skew_cli.proofs.program.work.Goals as goal

pub returns-in-Replay-clause-outcome : goal.returns-in-Replay-clause-outcome
returns-in-Replay-clause-outcome g c = rw c.in-Replay.is c.replay.ensures.outcome

pub returns-in-Check-clause-outcome : goal.returns-in-Check-clause-outcome
returns-in-Check-clause-outcome g c = rw c.in-Check.is c.check.ensures.outcome

pub returns-in-Check-clause-possible : goal.returns-in-Check-clause-possible
returns-in-Check-clause-possible g c = rw c.in-Check.is c.check.ensures.possible

pub returns-in-Audit-clause-outcome : goal.returns-in-Audit-clause-outcome
returns-in-Audit-clause-outcome g c = rw c.in-Audit.is c.audit.ensures.outcome

pub returns-in-Audit-clause-possible : goal.returns-in-Audit-clause-possible
returns-in-Audit-clause-possible g c = rw c.in-Audit.is c.audit.ensures.possible

pub returns-in-Trim-clause-outcome : goal.returns-in-Trim-clause-outcome
returns-in-Trim-clause-outcome g c = rw c.in-Trim.is c.trim.ensures.outcome

pub returns-in-Trim-clause-possible : goal.returns-in-Trim-clause-possible
returns-in-Trim-clause-possible g c = rw c.in-Trim.is c.trim.ensures.possible

pub returns-in-Json-clause-outcome : goal.returns-in-Json-clause-outcome
returns-in-Json-clause-outcome g c = rw c.in-Json.is c.json.ensures.outcome

pub returns-in-Json-clause-possible : goal.returns-in-Json-clause-possible
returns-in-Json-clause-possible g c = rw c.in-Json.is c.json.ensures.possible

pub returns-in-Tolerance-clause-outcome : goal.returns-in-Tolerance-clause-outcome
returns-in-Tolerance-clause-outcome g c = rw c.in-Tolerance.is c.tolerance.ensures.outcome

pub returns-in-Tolerance-clause-possible : goal.returns-in-Tolerance-clause-possible
returns-in-Tolerance-clause-possible g c = rw c.in-Tolerance.is c.tolerance.ensures.possible

pub returns-in-Span-clause-outcome : goal.returns-in-Span-clause-outcome
returns-in-Span-clause-outcome g c = rw c.in-Span.is c.span.ensures.outcome

pub returns-in-Span-clause-possible : goal.returns-in-Span-clause-possible
returns-in-Span-clause-possible g c = rw c.in-Span.is c.span.ensures.possible

pub returns-in-Demo-clause-openings : goal.returns-in-Demo-clause-openings
returns-in-Demo-clause-openings g c = rw c.in-Demo.is (0, λ past told. told)

pub returns-in-Times-clause-openings : goal.returns-in-Times-clause-openings
returns-in-Times-clause-openings g c = rw c.in-Times.is (1, c.times.ensures.once)

pub returns-in-Order-clause-openings : goal.returns-in-Order-clause-openings
returns-in-Order-clause-openings g c = rw c.in-Order.is (1, c.order.ensures.once)

pub returns-in-Trim-clause-openings : goal.returns-in-Trim-clause-openings
returns-in-Trim-clause-openings g c = rw c.in-Trim.is (1, c.trim.ensures.once)

pub returns-in-Json-clause-openings : goal.returns-in-Json-clause-openings
returns-in-Json-clause-openings g c = rw c.in-Json.is (1, c.json.ensures.once)

pub returns-in-Span-clause-openings : goal.returns-in-Span-clause-openings
returns-in-Span-clause-openings g c = rw c.in-Span.is c.span.ensures.openings

pub returns-in-Replay-clause-in_turn : goal.returns-in-Replay-clause-in_turn
returns-in-Replay-clause-in_turn g c = rw c.in-Replay.is c.replay.ensures.in_turn

pub returns-in-Check-clause-in_turn : goal.returns-in-Check-clause-in_turn
returns-in-Check-clause-in_turn g c = rw c.in-Check.is c.check.ensures.in_turn

pub returns-in-Audit-clause-in_turn : goal.returns-in-Audit-clause-in_turn
returns-in-Audit-clause-in_turn g c = rw c.in-Audit.is c.audit.ensures.in_turn

pub returns-in-Tolerance-clause-in_turn : goal.returns-in-Tolerance-clause-in_turn
returns-in-Tolerance-clause-in_turn g c = rw c.in-Tolerance.is c.tolerance.ensures.in_turn

pub returns-in-Span-clause-in_turn : goal.returns-in-Span-clause-in_turn
returns-in-Span-clause-in_turn g c = rw c.in-Span.is c.span.ensures.in_turn

pub returns-in-Times-clause-in_turn : goal.returns-in-Times-clause-in_turn
returns-in-Times-clause-in_turn g c = rw c.in-Times.is (λ _. tt)

pub returns-in-Order-clause-in_turn : goal.returns-in-Order-clause-in_turn
returns-in-Order-clause-in_turn g c = rw c.in-Order.is (λ _. tt)

pub returns-in-Trim-clause-in_turn : goal.returns-in-Trim-clause-in_turn
returns-in-Trim-clause-in_turn g c = rw c.in-Trim.is (λ _. tt)

pub returns-in-Json-clause-in_turn : goal.returns-in-Json-clause-in_turn
returns-in-Json-clause-in_turn g c = rw c.in-Json.is (λ _. tt)

pub returns-in-Demo-clause-in_turn : goal.returns-in-Demo-clause-in_turn
returns-in-Demo-clause-in_turn g c = rw c.in-Demo.is (λ _. tt)
