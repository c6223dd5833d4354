use Rattle.std.proofs.Common.{All, IsTrue, length, ◌+◌, rules}
use Rattle.proof_log.specs.Derivations.{is_in_range}
use Rattle.proof_log.specs.Reading.{words_after}
use Rattle.proof_check.specs.Keeping.{lines_with}
use Rattle.proof_check.proofs.HintWords.{learnt_words}
use Rattle.proof_check.proofs.judge.is_learnt.Goals as goal

pub returns : goal.returns
returns c =
    let range : All (λ l. IsTrue (is_in_range c.args.rules.now l.atom)) c.pending-lits.result.now = search rules in
    learnt_words c.args.rules.now (lines_with c.args.kept.now.closed) (length c.args.kept.now.closed + 1) c.pending-lits.result.now c.args.kept.now.pending (words_after c.args.words.now)
    c.refuters_give.ensures.law c.assumed_is_set.ensures.law c.steps_are_forced.ensures.law c.in_ok-assumed.assumed c.read_count-count.result.0 (words_after c.read_count-count.result.1.now)
    range c.pending-lits.ensures.literals c.in_ok-assumed.ensures.denied c.read_count-count.ensures.number c.are_refuting.result c.are_refuting.ensures
