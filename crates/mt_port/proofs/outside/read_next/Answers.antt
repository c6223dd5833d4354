use Rattle.std.proofs.Common.{rules, arith, refl, Ok, Err}
use Rattle.mt_port.specs.Calls.{Reading, TellsCount}
use Rattle.mt_port.specs.declared.outside.TheConstants.{TRIES}
use Rattle.mt_port.proofs.BrokenOff.{answered, broken_again, given_up}
use Rattle.mt_port.proofs.outside.read_next.Goals as goal

pub returns-in-Ok-clause-answer : goal.returns-in-Ok-clause-answer
returns-in-Ok-clause-answer g c =
    let l = c.loop-broken_off in
    answered (Reading g.R.Inlet.reads) TRIES TellsCount l.broken_off _ (l.reader, l.buf) _ (Ok c.in-Ok.count) _ (search rules) l.invariant.broken c.in-Ok.ensures.call (λ no. no) refl

pub loop-broken_off-preserved : goal.loop-broken_off-preserved
loop-broken_off-preserved g c =
    let l = c.loop-broken_off in
    record {
      size = search rules;
      kept = search rules;
      within = search rules;
      broken = broken_again (Reading g.R.Inlet.reads) l.broken_off _ (l.reader, l.buf) _ (Err c.in-Err.error) l.invariant.broken c.in-Err.ensures.call (search rules);
    }

pub returns-in-Err-2-clause-answer : goal.returns-in-Err-2-clause-answer
returns-in-Err-2-clause-answer g c =
    let l = c.loop-broken_off in
    answered (Reading g.R.Inlet.reads) TRIES TellsCount l.broken_off _ (l.reader, l.buf) _ (Err c.in-Err-2.field-0) _ (search rules) l.invariant.broken c.in-Err-2.ensures.call (search rules) refl

pub returns-clause-answer : goal.returns-clause-answer
returns-clause-answer g c =
    let l = c.loop-broken_off in
    given_up (Reading g.R.Inlet.reads) TRIES TellsCount l.broken_off _ (l.reader, l.buf) _ (omega arith) (search rules) (search rules) l.invariant.broken (search rules)
