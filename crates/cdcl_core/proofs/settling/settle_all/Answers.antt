use Rattle.std.proofs.Common.{◌∙◌, sym, subst, ℕ, ◌<◌, length, arith}
use Rattle.std.specs.Prelude.{All}
use Rattle.std.proofs.lemmas.List.{take_all}
use Rattle.std.proofs.lemmas.List.Elements.{All-more, All-weaker}
use Rattle.proof_log.specs.declared.line.Hint.TheVariants as hint
use Rattle.cdcl_core.specs.Recording.{IsSettled, cite_at}
use Rattle.cdcl_core.proofs.Settlings.{settled_more}
use Rattle.cdcl_core.proofs.settling.settle_all.Goals as goal

pub returns-then-not-branch-clause-settled : goal.returns-then-not-branch-clause-settled
returns-then-not-branch-clause-settled c =
    let theory = c.args.theory.now in
    let before = c.loop-clause.invariant in
    settled_more theory.atoms theory.bounds c.args.ground.now.edges c.args.derived.now c.loop-clause.derived c.settle.new.derived before.settled (rw before.edges at c.in_ok-settle.ensures.settled)

pub loop-clause-preserved : goal.loop-clause-preserved
loop-clause-preserved c =
    let theory = c.args.theory.now in
    let before = c.loop-clause.invariant in
    let old = c.loop-clause.derived in
    let new = c.settle.new.derived in
    let n = c.clause-item.result in
    let one = rw before.edges at c.in_ok-settle.ensures.settled in
    let is_old : ℕ → Type 0 = λ m. IsSettled (cite_at old.cites m) in
    let is_new : ℕ → Type 0 = λ m. IsSettled (cite_at new.cites m) in
    record {
      limits = record { nodes = c.settle.ensures.limits.nodes ∙ before.limits.nodes; capacity = c.settle.ensures.limits.capacity ∙ before.limits.capacity };
      edges = c.settle.ensures.edges ∙ before.edges;
      settled = settled_more theory.atoms theory.bounds c.args.ground.now.edges c.args.derived.now old new before.settled one;
      done = All-more is_new c.args.clauses.now c.loop-clause.clause-index n c.loop-clause-test.true
          (All-weaker is_old is_new one.kept _ before.done) (subst is_new c.clause-item.is (c.in_ok-settle.ensures.done c.if-not-branch.false));
      none = λ all.
          let same = before.none all in
          let held = subst (λ m. m < length c.args.derived.now.db) (sym c.clause-item.is) (c.requires.held c.loop-clause.clause-index n c.loop-clause-test.true) in
          let here : IsSettled (cite_at old.cites n) = rw same (all n (hint.Line 0) (omega (arith, held, c.requires.cited))) in
          (c.in_ok-settle.ensures.none here).1 ∙ same;
    }

pub returns-clause-done : goal.returns-clause-done
returns-clause-done c = λ yes.
    let is_settled : ℕ → Type 0 = λ m. IsSettled (cite_at c.loop-clause.derived.cites m) in
    subst (All is_settled) (take_all c.loop-clause.clause-index c.args.clauses.now (omega (arith, c.loop-clause-test.false))) c.loop-clause.invariant.done
