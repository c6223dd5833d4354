use Rattle.std.proofs.Common.{◌∙◌, ap, ℕ, List, [], ◌∷◌, reverse}
use Rattle.std.proofs.lemmas.List.{reverse-append}
use Rattle.analyze.proofs.Order.{reason_assigned}
use Rattle.analyze.proofs.Steps.{set_aside, resolved}
use Rattle.analyze.proofs.resolve.step.Goals as goal

pub mark-requires-clause-assigned : goal.mark-requires-clause-assigned
mark-requires-clause-assigned c =
    rw c.lits.ensures.clause (reason_assigned c.args.trail.now c.args.db.now c.requires.reasons c.args.place c.in-Some.reason c.requires.in_range c.in-Some.ensures.away.0)

pub returns-in_ok-mark-in-Some : goal.returns-in_ok-mark-in-Some
returns-in_ok-mark-in-Some c = record {
  work = λ conflict w.
      let by = rw c.lits.ensures.clause at c.in_ok-mark-in-Some.ensures.marked in
      let front = ap (λ (xs : List ℕ). reverse xs) c.in_ok-push-in-Some.ensures.items ∙ reverse-append c.args.work.now.hints.items (c.in-Some.reason ∷ []) in
      rw front
      (resolved c.args.trail.now c.args.db.now c.requires.trail c.requires.reasons conflict c.args.place c.requires.in_range c.args.work.now.marked.keys _ _
      c.requires.below w c.in-Some.reason c.in-Some.ensures.away c.mark.new.marked.keys by);
}

pub returns-in_ok-push-in-None : goal.returns-in_ok-push-in-None
returns-in_ok-push-in-None c = record {
  work = λ conflict w.
      rw c.in_ok-push-in-None.ensures.items
      (set_aside c.args.trail.now c.args.db.now c.requires.trail c.requires.reasons conflict c.args.place c.requires.in_range c.args.work.now.marked.keys _ _
      c.requires.below w c.in-None.ensures.aside);
}
