use Rattle.std.proofs.Common.{◌∙◌, sym, inr, ◌+◌, [], ◌∷◌, ◌++◌, length, arith}
use Rattle.std.proofs.lemmas.List.{length-set, length_push}
use Rattle.proof_log.specs.declared.line.Hint.TheVariants as hint
use Rattle.proof_log.specs.declared.line.Line.TheVariants as line
use Rattle.skew_bounds.proofs.Settled.{places-of-cycle}
use Rattle.cdcl_core.proofs.Grounds.{order_settled}
use Rattle.cdcl_core.proofs.Settlings.{kept_set, no_lesson}
use Rattle.cdcl_core.proofs.Spending.{spending_settled}
use Rattle.cdcl_core.proofs.settling.record.Goals as goal

pub steps_of-requires-clause-within : goal.steps_of-requires-clause-within
steps_of-requires-clause-within c =
    let (edge, of_literal, is_edge, cycle, visits) = c.requires.refused in
    let g = c.args.ground.now in
    let size = length_push g.edges edge in
    rw (c.cycle.ensures.cycle, c.as_slice-bounds.ensures.items, c.requires.count) (rw size at (places-of-cycle (g.edges ++ edge ∷ []) g.cycle cycle.closed))

pub denied-requires : goal.denied-requires
denied-requires c =
    let (edge, of_literal, is_edge, cycle, visits) = c.requires.refused in
    let g = c.args.ground.now in
    let size = length_push g.edges edge in
    record { within = rw (c.cycle-2.ensures.cycle, c.as_slice-bounds.ensures.items, c.requires.count) (rw size at (places-of-cycle (g.edges ++ edge ∷ []) g.cycle cycle.closed)) }

pub returns-in_ok-settle-clause-settled : goal.returns-in_ok-settle-clause-settled
returns-in_ok-settle-clause-settled c =
    let (edge, of_literal, is_edge, cycle, visits) = c.requires.refused in
    let g = c.args.ground.now in
    let d = c.args.derived.now in
    let theory = c.args.theory.now in
    let made = c.in_ok-settle.ensures in
    let steps = c.in_ok-steps.steps in
    let same = rw (c.cycle.ensures.cycle, c.as_slice-bounds.ensures.items, c.negated.ensures.other) at c.in_ok-steps.ensures.steps in
    let walk = rw (c.cycle-2.ensures.cycle, c.as_slice-bounds.ensures.items, c.negated.ensures.other) at c.in_ok-said.ensures.clause in
    let said = sym walk ∙ sym c.deref.ensures.value ∙ c.is_only.ensures.one c.if-is_only.true in
    record {
      clauses = made.clauses;
      count = rw made.cite (length-set d.cites c.args.clause (hint.Line (length d.lines + 1)));
      kept = λ n settled. rw made.cite (kept_set d.cites c.args.clause (length d.lines) n c.requires.within settled);
      few = inr (rw made.line (omega (arith, c.if-len.true, c.len-then-is_only.ensures.count, length_push d.lines (line.Cycle steps))));
      lesson_count = rw made.line (no_lesson d.lines steps);
      derives = λ log f v are old. rw (made.clauses, made.cite, made.line)
          (order_settled log f v theory.atoms d.db d.cites d.lines theory.bounds g c.args.lit edge steps c.args.clause old c.grounds_are_solved.ensures.solution are
          c.requires.low of_literal is_edge cycle visits same said (omega (arith, c.requires.within, old.cited.count)) c.requires.literal (omega (arith, c.if-len.true, c.len-then-is_only.ensures.count)));
      spending = λ log f v rules table known old. rw (made.cite, made.line) (spending_settled log f v rules table known d.cites d.lines steps c.args.clause (length d.lines + 1) old);
    }
