use Rattle.std.proofs.Common.{◌≡◌, ◌∙◌, sym, ap, subst, ◌++◌, false}
use Rattle.std.proofs.lemmas.List.{append-nil}
use Rattle.proof_log.specs.declared.line.Line.{Line}
use Rattle.proof_log.specs.Parts.{AreWordsOf}
use Rattle.proof_log.specs.Reading.{words_after}
use Rattle.proof_log.specs.Spelled.{IsSpelled}
use Rattle.proof_log.proofs.Spacing.{on_ok}
use Rattle.proof_trim.specs.Naming.{named_in, named_of}
use Rattle.proof_trim.proofs.NamedLists.{cycle-adds, learn-adds}
use Rattle.proof_trim.proofs.named.add_line.Goals as goal

pub returns-in-Cycle : goal.returns-in-Cycle
returns-in-Cycle c = λ l is are.
    let none = cycle-adds c.in-Cycle.field-0 l (subst (λ v. AreWordsOf v l) c.in-Cycle.is are) in
    sym (ap (λ t. c.args.numbers.now.items ++ t) none ∙ append-nil c.args.numbers.now.items)

pub returns-in-Learn : goal.returns-in-Learn
returns-in-Learn c =
    let old = c.args.numbers.now.items in
    let new = c.add_named.new.numbers.items in
    on_ok (new ≡ old ++ named_in false (words_after c.in-Learn.words.now)) ((l : Line) → IsSpelled l → AreWordsOf c.args.words l → new ≡ old ++ named_of l) c.add_named.result
    (λ added l is are. added ∙ ap (λ t. old ++ t) (learn-adds c.in-Learn.words l is (subst (λ v. AreWordsOf v l) c.in-Learn.is are))) c.add_named.ensures
