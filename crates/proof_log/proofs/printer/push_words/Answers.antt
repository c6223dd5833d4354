use Rattle.std.proofs.Common.{◌≡◌, ◌∙◌, ap, sym, ◌∷◌, ◌++◌, length, codes}
use Rattle.std.specs.Fmt.{decimal}
use Rattle.std.specs.List.{flat_map, join_with_byte}
use Rattle.proof_log.specs.LinesText.{hint_words, line_words, literal_words, space, spaced, step_words}
use Rattle.proof_log.proofs.Spacing.{joined-after, on_ok, spaced-more}
use Rattle.proof_log.proofs.printer.push_words.Goals as goal

pub returns-in_ok-extend_from_slice-in-Cycle : goal.returns-in_ok-extend_from_slice-in-Cycle
returns-in_ok-extend_from_slice-in-Cycle c =
    let words = decimal (length c.in-Cycle.steps) ∷ flat_map step_words c.in-Cycle.steps in
    let text = c.args.text.now.items in
    let pushed = rw c.as_slice.ensures.items at c.push_steps.ensures in
    on_ok (c.push_steps.new.text.items ≡ c.extend_from_slice.new.self.items ++ spaced words)
    (c.push_steps.new.text.items ≡ text ++ join_with_byte space (line_words c.args.line.now)) c.push_steps.result
    (λ more. joined-after text c.extend_from_slice.new.self.items c.push_steps.new.text.items (codes "cycle") words c.in_ok-extend_from_slice-in-Cycle.ensures.items more ∙ ap (λ l. text ++ join_with_byte space (line_words l)) (sym c.in-Cycle.is)) pushed

pub returns-in_ok-push_literals-in-Learn : goal.returns-in_ok-push_literals-in-Learn
returns-in_ok-push_literals-in-Learn c =
    let lits = c.in-Learn.lits in
    let hints = c.in-Learn.hints in
    let first = decimal (length lits) ∷ flat_map literal_words lits in
    let second = decimal (length hints) ∷ flat_map hint_words hints in
    let text = c.args.text.now.items in
    let begun = c.extend_from_slice-in-Learn.new.self.items in
    let added = rw c.as_slice-in-Learn.ensures.items at c.in_ok-push_literals-in-Learn.ensures in
    let pushed = rw c.as_slice-in-Learn-2.ensures.items at c.push_hints.ensures in
    on_ok (c.push_hints.new.text.items ≡ c.push_literals.new.text.items ++ spaced second) (c.push_hints.new.text.items ≡ text ++ join_with_byte space (line_words c.args.line.now)) c.push_hints.result
    (λ more. joined-after text begun c.push_hints.new.text.items (codes "learn") (first ++ second) (c.in_ok-extend_from_slice-in-Learn.ensures.items) (more ∙ ap (λ t. t ++ spaced second) added ∙ spaced-more begun first second)
    ∙ ap (λ l. text ++ join_with_byte space (line_words l)) (sym c.in-Learn.is)) pushed
