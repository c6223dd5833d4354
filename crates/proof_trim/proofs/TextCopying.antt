-- The text of lines that are copied where they are marked, one after another.
use Rattle.std.proofs.Common.{◌≡◌, ◌∙◌, sym, ap, subst, refl, ℕ, ◌+◌, ◌-◌, ◌≤◌, Bool, true, false, List, [], ◌∷◌, ◌++◌, length, length-append, drop, get_or, map, take, Some, Result, Ok, Err, Bor, codes, arith}
use Rattle.std.specs.Prelude.{All, OnOk, is_ok, slice_get, if◌then◌else◌}
use Rattle.std.specs.Fmt.{decimal}
use Rattle.std.specs.List.{flat_map, join_with_byte}
use Rattle.std.proofs.lemmas.List.{append-nil, take_all}
use Rattle.std.proofs.lemmas.List.Concat.{flat_map-append}
use Rattle.std.proofs.lemmas.Option.{slice_get-get_or}
use Rattle.proof_log.specs.declared.line.Line.{Line}
use Rattle.proof_log.specs.declared.line.Line.TheVariants as line
use Rattle.proof_log.specs.declared.parts.LineWords.{LineWords}
use Rattle.proof_log.specs.declared.parts.LineWords.TheVariants as words
use Rattle.proof_log.specs.LinesOf.{IsTextOf}
use Rattle.proof_log.specs.LinesText.{line_text, line_words, lines_text, space, spaced, step_words}
use Rattle.proof_log.specs.Parts.{AreWordsOf, bytes_of}
use Rattle.proof_log.specs.Reading.{words_after}
use Rattle.proof_log.specs.Spelled.{IsSpelled}
use Rattle.proof_log.proofs.Spacing.{joined-after}
use Rattle.proof_trim.specs.Naming.{IsEarlier, named_in, renamed_in}
use Rattle.proof_trim.proofs.NamedHints.{back-earlier}
use Rattle.proof_trim.proofs.NamedLists.{learn-adds}
use Rattle.proof_trim.specs.Needed.{LooksBack}
use Rattle.proof_trim.specs.Placed.{left_of}
use Rattle.proof_log.specs.Marks.{marked}
use Rattle.proof_trim.specs.Trimmed.{hint_renumbered, place_of, renumbered}
use Rattle.proof_trim.proofs.NamedWords.{learn-renamed, learn_words}
use Rattle.proof_trim.proofs.LineTexts.{IsLineAfter, none-after}
use Rattle.proof_trim.proofs.Copying.{CopiedTo, copied-few, copied-more}

-- ---- the text of a line with other numbers

-- what was added where a call succeeded
pub when_ok : {T E : Type 0} (r : Result T E) (new old more : List ℕ) → new ≡ (if is_ok r then old ++ more else old) → OnOk r (new ≡ old ++ more)
when_ok (Ok x) new old more is = is
when_ok (Err e) new old more is = tt

module _ (ws : LineWords) (w : Bor (List ℕ)) (l : Line) (are : AreWordsOf ws l) where
  -- a Cycle line has no number
  pub cycle-added : (place : ℕ → ℕ) (old one two : List ℕ) → ws ≡ words.Cycle w → bytes_of ws ≡ spaced (words_after (bytes_of ws)) → one ≡ old ++ codes "cycle" → two ≡ one ++ w.now → two ≡ old ++ join_with_byte space (line_words (renumbered place l))
  cycle-added place old one two is bytes first second = go l (subst (λ v. AreWordsOf v l) is are)
    where
      spaced_words : w.now ≡ spaced (words_after w.now)
      spaced_words = subst (λ v. bytes_of v ≡ spaced (words_after (bytes_of v))) is bytes

      go : (k : Line) → AreWordsOf (words.Cycle w) k → two ≡ old ++ join_with_byte space (line_words (renumbered place k))
      go (line.Cycle steps) words_are = joined-after old one two (codes "cycle") (decimal (length steps) ∷ flat_map step_words steps) first (second ∙ ap (λ t. one ++ t) (spaced_words ∙ ap spaced words_are))
      go (line.Learn lits hints) words_are = absurd words_are

  module _ (spelled : IsSpelled l) (is : ws ≡ words.Learn w) where
    words-are : AreWordsOf (words.Learn w) l
    words-are = subst (λ v. AreWordsOf v l) is are

    pub learn-earlier : (number : ℕ) → LooksBack number l → All (IsEarlier number) (named_in false (words_after w.now))
    learn-earlier number back = subst (All (IsEarlier number)) (sym (learn-adds w l spelled words-are)) (back-earlier number l back)

    pub learn-spaced : bytes_of ws ≡ spaced (words_after (bytes_of ws)) → w.now ≡ spaced (words_after w.now)
    learn-spaced bytes = subst (λ v. bytes_of v ≡ spaced (words_after (bytes_of v))) is bytes

    pub learn-added : (place : ℕ → ℕ) (old one two : List ℕ) → one ≡ old ++ codes "learn" → two ≡ one ++ spaced (renamed_in place false (words_after w.now)) → two ≡ old ++ join_with_byte space (line_words (renumbered place l))
    learn-added place old one two first second = go l spelled words-are
      where
        go : (k : Line) → IsSpelled k → AreWordsOf (words.Learn w) k → two ≡ old ++ join_with_byte space (line_words (renumbered place k))
        go (line.Cycle steps) k_spelled k_words = absurd k_words
        go (line.Learn lits hints) k_spelled k_words =
            joined-after old one two (codes "learn") (learn_words lits (map (hint_renumbered place) hints)) first (second ∙ ap (λ t. one ++ spaced t) (ap (renamed_in place false) k_words ∙ learn-renamed lits hints k_spelled place))

-- ---- lines one after another

-- the first lines are copied where they are marked, these are their places, and this is their text
pub record IsLeftTo (marks : List Bool) (lines : List Line) (i : ℕ) (places : List ℕ) (text : List ℕ) (count : ℕ) : Type 0 where
  pub left : List Line
  pub copied : CopiedTo marks lines i places left
  pub text_is : text ≡ lines_text left
  pub full : count ≡ length left

pub none-left : (marks : List Bool) (lines : List Line) → IsLeftTo marks lines 0 [] [] 0
none-left marks lines = record { left = []; copied = record { copies = refl; count = refl; each = λ k less. (let never : ⊥ = omega arith in absurd never) }; text_is = refl; full = refl }

module _ (marks : List Bool) (lines : List Line) (i : ℕ) (places : List ℕ) (text : List ℕ) (count : ℕ) (so_far : IsLeftTo marks lines i places text count) where
  abbrev copy_of : Line → Line
  copy_of l = renumbered (λ n. get_or places (n - 1) 0) l

  pub left-more : (mark : Bool) (l : Line) (new : List ℕ) (counted : ℕ) → slice_get marks i ≡ Some mark → slice_get lines i ≡ Some l → LooksBack (length places + 1) l
      → new ≡ (if mark then text ++ line_text (copy_of l) else text) → counted ≡ (if mark then count + 1 else count) → IsLeftTo marks lines (i + 1) (places ++ counted ∷ []) new counted
  left-more true l new counted is stands back added one =
      let more = so_far.left ++ copy_of l ∷ [] in
      let full : counted ≡ length more = omega (arith, one, so_far.full, length-append so_far.left (copy_of l ∷ [])) in
      record {
        left = more;
        copied = subst (λ n. CopiedTo marks lines (i + 1) (places ++ n ∷ []) more) (sym full) (copied-more marks lines i places so_far.left so_far.copied true l more is stands back refl);
        text_is =
            added ∙ ap (λ t. t ++ line_text (copy_of l)) so_far.text_is ∙ ap (λ t. lines_text so_far.left ++ t) (sym (append-nil (line_text (copy_of l))))
            ∙ sym (flat_map-append line_text so_far.left (copy_of l ∷ []));
        full = full;
      }
  left-more false l new counted is stands back added one =
      let full : counted ≡ length so_far.left = one ∙ so_far.full in
      record {
        left = so_far.left;
        copied =
            subst (λ n. CopiedTo marks lines (i + 1) (places ++ n ∷ []) so_far.left) (sym full) (copied-more marks lines i places so_far.left so_far.copied false l so_far.left is stands back refl);
        text_is = added ∙ so_far.text_is;
        full = full;
      }

  pub left-few : count ≤ i
  left-few = omega (arith, so_far.full, copied-few marks lines i places so_far.left so_far.copied)

  module _ (all : length marks ≡ i) where
    left-is : so_far.left ≡ left_of marks lines
    left-is = so_far.copied.copies ∙ ap (λ ms. map (renumbered (place_of marks lines)) (marked ms lines)) (ap (λ n. take n marks) (sym all) ∙ take_all (length marks) marks (omega arith))

    pub left-text : text ≡ lines_text (left_of marks lines)
    left-text = so_far.text_is ∙ ap lines_text left-is

    pub left-full : count ≡ length (left_of marks lines)
    left-full = so_far.full ∙ ap length left-is

-- ---- the same along the text of the lines

-- so many lines are copied as there are places, and the rest is the text of the others
pub record IsTextLeftTo (marks : List Bool) (lines : List Line) (places text : List ℕ) (count : ℕ) (rest : List ℕ) : Type 0 where
  pub left_to : IsLeftTo marks lines (length places) places text count
  pub within : length places ≤ length lines
  pub rest_is : IsTextOf rest (drop (length places) lines)

pub none-text_left : (marks : List Bool) (lines : List Line) (text : List ℕ) → IsTextOf text lines → IsTextLeftTo marks lines [] [] 0 text
none-text_left marks lines text is = record { left_to = none-left marks lines; within = omega arith; rest_is = is }

module _ (marks : List Bool) (lines : List Line) (places text : List ℕ) (count : ℕ) (rest : List ℕ) (so_far : IsTextLeftTo marks lines places text count rest) where
  module _ (l : Line) (after : List ℕ) (next : IsLineAfter lines (length places) l rest after) where
    pub stands-next : slice_get lines (length places) ≡ Some l
    stands-next = slice_get-get_or lines (length places) l next.low ∙ ap Some next.stands

    pub text_left-more : (mark : Bool) (new : List ℕ) (counted : ℕ) (new_places : List ℕ) → slice_get marks (length places) ≡ Some mark → LooksBack (length places + 1) l
        → new ≡ (if mark then text ++ line_text (renumbered (λ n. get_or places (n - 1) 0) l) else text) → counted ≡ (if mark then count + 1 else count)
        → new_places ≡ places ++ counted ∷ [] → IsTextLeftTo marks lines new_places new counted after
    text_left-more mark new counted new_places is back added one pushed =
        let more = left-more marks lines (length places) places text count so_far.left_to mark l new counted is stands-next back added one in
        let size : length new_places ≡ length places + 1 = ap length pushed ∙ length-append places (counted ∷ []) in
        record {
          left_to = subst (λ n. IsLeftTo marks lines n new_places new counted) (sym size) (subst (λ ps. IsLeftTo marks lines (length places + 1) ps new counted) (sym pushed) more);
          within = omega (arith, size, next.low);
          rest_is = subst (λ k. IsTextOf after (drop k lines)) (sym size) next.after_is;
        }

  pub all-left : ((ls : List Line) → IsTextOf rest ls → ls ≡ []) → length marks ≡ length lines → length marks ≡ length places
  all-left none full = omega (arith, full, so_far.within, none-after lines (length places) (none (drop (length places) lines) so_far.rest_is))
