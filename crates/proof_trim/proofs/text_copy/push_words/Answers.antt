use Rattle.std.proofs.Common.{◌≡◌, ◌+◌, ◌-◌, ◌++◌, false, length}
use Rattle.std.specs.Prelude.{slice_index}
use Rattle.std.specs.List.{join_with_byte}
use Rattle.proof_log.specs.declared.line.Line.{Line}
use Rattle.proof_log.specs.LinesText.{line_words, space, spaced}
use Rattle.proof_log.specs.Parts.{AreWordsOf}
use Rattle.proof_log.specs.Reading.{words_after}
use Rattle.proof_log.specs.Spelled.{IsSpelled}
use Rattle.proof_log.proofs.Spacing.{on_ok}
use Rattle.proof_trim.specs.Naming.{renamed_in}
use Rattle.proof_trim.specs.Trimmed.{renumbered}
use Rattle.proof_trim.proofs.TextCopying.{cycle-added, learn-added, learn-earlier, learn-spaced, when_ok}
use Rattle.proof_trim.proofs.text_copy.push_words.Goals as goal

pub push_renamed-requires-clause-earlier : goal.push_renamed-requires-clause-earlier
push_renamed-requires-clause-earlier c =
    let (l, spelled, are, back) = c.requires.line in
    learn-earlier c.args.words c.in-Learn.words l are spelled c.in-Learn.is (length c.args.places.now + 1) back

pub push_renamed-requires-clause-spaced : goal.push_renamed-requires-clause-spaced
push_renamed-requires-clause-spaced c =
    let (l, spelled, are, back) = c.requires.line in
    learn-spaced c.args.words c.in-Learn.words l are spelled c.in-Learn.is c.requires.spaced

pub returns-in_ok-extend_from_slice-in-Cycle : goal.returns-in_ok-extend_from_slice-in-Cycle
returns-in_ok-extend_from_slice-in-Cycle c =
    let old = c.args.left.now.items in
    let one = c.extend_from_slice.new.self.items in
    let two = c.extend_from_slice-in-Cycle.new.self.items in
    on_ok (two ≡ one ++ c.in-Cycle.words.now)
    ((l : Line) → IsSpelled l → AreWordsOf c.args.words l → two ≡ old ++ join_with_byte space (line_words (renumbered (λ n. slice_index c.args.places.now (n - 1)) l)))
    c.extend_from_slice-in-Cycle.result
    (λ added l is are. cycle-added c.args.words c.in-Cycle.words l are
    (λ n. slice_index c.args.places.now (n - 1)) old one two c.in-Cycle.is c.requires.spaced c.in_ok-extend_from_slice-in-Cycle.ensures.items added)
    (when_ok c.extend_from_slice-in-Cycle.result two one c.in-Cycle.words.now c.extend_from_slice-in-Cycle.ensures.items)

pub returns-in_ok-extend_from_slice-in-Learn : goal.returns-in_ok-extend_from_slice-in-Learn
returns-in_ok-extend_from_slice-in-Learn c =
    let old = c.args.left.now.items in
    let one = c.extend_from_slice-in-Learn.new.self.items in
    let two = c.push_renamed.new.left.items in
    on_ok (two ≡ one ++ spaced (renamed_in (λ n. slice_index c.args.places.now (n - 1)) false (words_after c.in-Learn.words.now)))
    ((l : Line) → IsSpelled l → AreWordsOf c.args.words l → two ≡ old ++ join_with_byte space (line_words (renumbered (λ n. slice_index c.args.places.now (n - 1)) l))) c.push_renamed.result
    (λ added l is are. learn-added c.args.words c.in-Learn.words l are is c.in-Learn.is (λ n. slice_index c.args.places.now (n - 1)) old one two c.in_ok-extend_from_slice-in-Learn.ensures.items added)
    c.push_renamed.ensures
