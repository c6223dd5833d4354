use Rattle.std.proofs.Common.{◌≡◌, sym, ap, subst, ℕ, ◌+◌, ◌-◌, ◌++◌, false, List, [], drop, get_or, length, arith, rules}
use Rattle.std.specs.Prelude.{if◌then◌else◌}
use Rattle.std.proofs.lemmas.Option.{slice_get-get_or}
use Rattle.proof_log.specs.LinesText.{line_text}
use Rattle.proof_trim.specs.Needed.{LooksBack}
use Rattle.proof_trim.specs.Trimmed.{renumbered}
use Rattle.proof_trim.proofs.LineTexts.{line-after}
use Rattle.proof_trim.proofs.NamedHints.{looks-at}
use Rattle.proof_trim.proofs.TextCopying.{IsTextLeftTo, all-left, left-few, left-full, left-text, none-text_left, stands-next, text_left-more}
use Rattle.proof_trim.proofs.text_copy.marked_text.Goals as goal

pub loop-words-init : goal.loop-words-init
loop-words-init c = λ lines is full forward.
    let marks = c.args.marks.now in
    let text = c.args.text.now in
    subst (λ ps. IsTextLeftTo marks lines ps c.in_ok-left.left.items 0 text) (sym c.in_ok-places.ensures.items)
    (subst (λ t. IsTextLeftTo marks lines [] t 0 text) (sym c.in_ok-left.ensures.items) (none-text_left marks lines text is))

pub push_marked-requires : goal.push_marked-requires
push_marked-requires c =
    let (lines, is, full, forward) = c.requires.lines in
    let places = c.loop-words.places.items in
    let rest = c.loop-words.rest.now in
    let after = c.in-Some.after.now in
    let so_far = c.loop-words.invariant lines is full forward in
    let head = c.in-Some.ensures.head (drop (length places) lines) so_far.rest_is in
    let next = line-after lines (length places) rest after c.in-Some.words so_far.rest_is head in
    let stands = stands-next c.args.marks.now lines places c.loop-words.left.items c.loop-words.count rest so_far head.line after next in
    let back = looks-at lines forward (length places) head.line stands in
    record { line = (head.line, head.spelled, head.words, subst (λ n. LooksBack (n + 1) head.line) (sym (ap length c.deref.ensures.value)) back); spaced = head.bytes }

pub count_with-count-requires : goal.count_with-count-requires
count_with-count-requires c =
    let (lines, is, full, forward) = c.requires.lines in
    let places = c.loop-words.places.items in
    let so_far = c.loop-words.invariant lines is full forward in
    let low = left-few c.args.marks.now lines (length places) places c.loop-words.left.items c.loop-words.count so_far.left_to in
    let few = c.requires.few in
    omega (arith, low, few, so_far.within, full)

pub loop-words-preserved : goal.loop-words-preserved
loop-words-preserved c = λ lines is full forward.
    let marks = c.args.marks.now in
    let places = c.loop-words.places.items in
    let rest = c.loop-words.rest.now in
    let after = c.in-Some.after.now in
    let so_far = c.loop-words.invariant lines is full forward in
    let head = c.in-Some.ensures.head (drop (length places) lines) so_far.rest_is in
    let next = line-after lines (length places) rest after c.in-Some.words so_far.rest_is head in
    let stands = stands-next marks lines places c.loop-words.left.items c.loop-words.count rest so_far head.line after next in
    let back = looks-at lines forward (length places) head.line stands in
    let mark = slice_get-get_or marks (length places) false (omega (arith, full, next.low)) in
    let size : c.len.result ≡ length places = search rules in
    let left = c.loop-words.left.items in
    let new = c.push_marked.new.left.items in
    let copy = λ (ps : List ℕ). line_text (renumbered (λ n. get_or ps (n - 1) 0) head.line) in
    let pushed = c.in_ok-push_marked.ensures head.line head.spelled head.words in
    let added =
    subst (λ (k : ℕ). new ≡ (if get_or marks k false then left ++ copy places else left)) size
    (subst (λ (ps : List ℕ). new ≡ (if get_or marks c.len.result false then left ++ copy ps else left)) c.deref.ensures.value pushed) in
    text_left-more marks lines places left c.loop-words.count rest so_far head.line after next _ new c.count_with-count.result c.push.new.self.items mark back added
    (rw size at c.count_with-count.ensures) c.in_ok-push.ensures.items

pub loop-words-smaller : goal.loop-words-smaller
loop-words-smaller c =
    let (lines, is, full, forward) = c.requires.lines in
    let n = length c.loop-words.places.items in
    let so_far = c.loop-words.invariant lines is full forward in
    let head = c.in-Some.ensures.head (drop n lines) so_far.rest_is in
    (line-after lines n c.loop-words.rest.now c.in-Some.after.now c.in-Some.words so_far.rest_is head).shorter

pub returns-clause-left : goal.returns-clause-left
returns-clause-left c = λ lines is full forward.
    let marks = c.args.marks.now in
    let places = c.loop-words.places.items in
    let so_far = c.loop-words.invariant lines is full forward in
    let all = all-left marks lines places c.loop-words.left.items c.loop-words.count c.loop-words.rest.now so_far c.in_default.ensures.head full in
    left-text marks lines (length places) places c.loop-words.left.items c.loop-words.count so_far.left_to all

pub returns-clause-full : goal.returns-clause-full
returns-clause-full c = λ lines is full forward.
    let marks = c.args.marks.now in
    let places = c.loop-words.places.items in
    let so_far = c.loop-words.invariant lines is full forward in
    let all = all-left marks lines places c.loop-words.left.items c.loop-words.count c.loop-words.rest.now so_far c.in_default.ensures.head full in
    left-full marks lines (length places) places c.loop-words.left.items c.loop-words.count so_far.left_to all
