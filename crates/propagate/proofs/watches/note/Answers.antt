use Rattle.std.proofs.Common.{◌∙◌, ap, sym, List, [], ◌∷◌, ◌++◌, ℕ}
use Rattle.propagate.proofs.UnwatchedLemmas.{unwatched_more, unwatched_same}
use Rattle.propagate.proofs.watches.note.Goals as goal

pub returns-in_ok-push-in-None-clause-ok : goal.returns-in_ok-push-in-None-clause-ok
returns-in_ok-push-in-None-clause-ok c =
    rw c.in-None.is (c.in_ok-push-in-None.ensures.items ∙ ap (λ (xs : List ℕ). xs ++ c.args.clause ∷ []) c.requires.listed ∙ sym (unwatched_more c.args.pairs.now c.args.clause c.requires.next))

pub returns-in-Some-clause-ok : goal.returns-in-Some-clause-ok
returns-in-Some-clause-ok c = rw c.in-Some.is (c.requires.listed ∙ sym (unwatched_same c.args.pairs.now _ (λ none. absurd cc)))
