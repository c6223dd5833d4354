use Rattle.verdict.proofs.bounds.audit_of_bounds.Goals as goal

pub returns-in-Some-place : goal.returns-in-Some-place
returns-in-Some-place c = λ steps are f budget events same.
    let log = c.args.log.now in
    let walked = c.in-Some.ensures steps are in
    record {
      events = same;
      refused = record { no_cycle = λ cycle. let none = (c.in-Some-place.ensures.accepted log steps walked).1 cycle in absurd (cc); place = c.in-Some-place.ensures.place log steps walked };
    }
