use Rattle.std.proofs.Common.{◌≡◌, IsTrue}
use Rattle.axiom_rules.specs.Sought.{sought_of}
use Rattle.proof_log.specs.Freshness.{Fresh, IsNew}
use Rattle.logic_table.proofs.FreshLines.{answer_follows, fresh_by, line_stands}
use Rattle.logic_table.proofs.fresh.is_fresh.Goals as goal

pub returns : goal.returns
returns c =
    let a = c.args in
    let lines = a.lines.now in
    let at = line_stands lines a.place c.index-lines-place.result c.requires.first c.requires.within c.index-lines-place.is in
    record {
      fresh = answer_follows c.is_new.result (λ b. IsTrue b → IsNew c.deref.result.now c.as_slice.result.now)
          (λ b. IsTrue b → (log : _) (f : _) (v : _) → a.sought.now ≡ sought_of log f v → Fresh log f v a.rules.now lines a.place)
          (λ b new is log f v same. fresh_by log f v a.sought.now a.rules.now lines a.place c.deref.result.now c.as_slice.result.now c.in-Learn.hints same
          (cc (c.in_ok-clauses.ensures, c.deref.ensures.value))
          (cc (at, c.in-Learn.is, c.as_slice.ensures.items)) (new is)) c.is_new.ensures;
    }
