use Rattle.std.proofs.Common.{◌≡◌, ◌∙◌, ap, ℕ, List, [], ◌∷◌, ◌++◌, reverse}
use Rattle.analyze.proofs.Order.{falsified_assigned}
use Rattle.analyze.proofs.Begun.{begun}
use Rattle.analyze.proofs.resolve.begin.Goals as goal

pub mark-requires-clause-assigned : goal.mark-requires-clause-assigned
mark-requires-clause-assigned c = rw c.lits.ensures.clause (falsified_assigned c.args.trail.now.entries _ c.requires.falsified)

pub returns : goal.returns
returns c =
    let by = rw (c.new-marked.ensures.empty, c.lits.ensures.clause, c.len.ensures.count) at c.in_ok-mark.ensures.marked in
    let hints : reverse c.push.new.self.items ≡ c.args.conflict ∷ [] =
    ap (λ (xs : List ℕ). reverse xs) (c.in_ok-push.ensures.items ∙ ap (λ (xs : List ℕ). xs ++ c.args.conflict ∷ []) c.new-hints.ensures.items) in
    record {
      work = rw (hints, c.new.ensures.items)
          (begun c.args.trail.now c.args.db.now c.requires.trail c.args.conflict c.requires.held c.requires.falsified c.requires.here c.mark.new.marked.keys by);
    }
