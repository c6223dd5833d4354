-- Lines and their words, and lines and their bytes.
use Rattle.std.proofs.Common.{◌≡◌, ◌∙◌, sym, ap, subst, refl, arith, ℕ, ◌<◌, List, [], ◌∷◌, ◌++◌, append_assoc, length, Some, None, codes}
use Rattle.std.specs.Prelude.{IfSome, option_and_then}
use Rattle.std.specs.Fmt.{decimal}
use Rattle.std.specs.List.{flat_map, join_with_byte, slice_split}
use Rattle.std.proofs.lemmas.List.{append-nil, append_cancel_right}
use Rattle.std.proofs.lemmas.List.Splits.{join_with_byte-slice_split, length-slice_split}
use Rattle.memchr.specs.Find.{is_byte}
use Rattle.axiom_rules.specs.declared.literal.Literal.{Literal}
use Rattle.proof_log.specs.declared.line.Hint.{Hint}
use Rattle.proof_log.specs.declared.line.Line.{Line}
use Rattle.proof_log.specs.declared.line.Line.TheVariants as line
use Rattle.proof_log.specs.LinesOf.{HasAtomsOnce, IsLine}
use Rattle.proof_log.specs.LinesText.{Word, hint_words, line_words, literal_words, newline, space, step_words}
use Rattle.proof_log.specs.Reading.{Reading, counted_in, hint_in, learn_in, line_in, literal_in, made, step_in, whole, words_after}
use Rattle.proof_log.specs.Spelled.{IsSpelled, IsSpelledHint, IsSpelledLiteral, IsSpelledStep}
use Rattle.proof_log.proofs.Giving.{IsRead, gives-after, gives-made, gives-named, gives-then, gives-whole, made-back}
use Rattle.proof_log.proofs.PlainWords.{plain-line, split-joined}
use Rattle.proof_log.proofs.ReadItems.{AreCounted, counted-read, counted_words, hint-read, literal-read, step-read}
use Rattle.proof_log.proofs.WrittenItems.{counted-written, hint-written, literal-written, step-written}

-- what is known of a line that was read before its atoms are compared
abbrev IsReadable : Line → Type 0
IsReadable (line.Cycle steps) = AreCounted step_in step_words IsSpelledStep step-read steps
IsReadable (line.Learn lits hints) = AreCounted literal_in literal_words IsSpelledLiteral literal-read lits × AreCounted hint_in hint_words IsSpelledHint hint-read hints

readable-spelled : (l : Line) → IsReadable l → HasAtomsOnce l → IsSpelled l
readable-spelled (line.Cycle steps) is once = record { count = is.few; each = is.each }
readable-spelled (line.Learn lits hints) is once = record { lit_count = is.0.few; hint_count = is.1.few; each_lit = is.0.each; each_hint = is.1.each; once = once }

pub spelled-once : (l : Line) → IsSpelled l → HasAtomsOnce l
spelled-once (line.Cycle steps) is = tt
spelled-once (line.Learn lits hints) is = is.once

abbrev AreLiterals : List Word → List Literal × List Word → Type 0
AreLiterals ws = IsRead (counted_words literal_in literal_words IsSpelledLiteral literal-read) (AreCounted literal_in literal_words IsSpelledLiteral literal-read) ws

abbrev AreHints : List Word → List Hint × List Word → Type 0
AreHints ws = IsRead (counted_words hint_in hint_words IsSpelledHint hint-read) (AreCounted hint_in hint_words IsSpelledHint hint-read) ws

cycle-read : (ws : List Word) → IfSome (made line.Cycle (counted_in step_in ws)) (IsRead line_words IsReadable (codes "cycle" ∷ ws))
cycle-read ws =
    gives-after (codes "cycle") line.Cycle (counted_words step_in step_words IsSpelledStep step-read) (AreCounted step_in step_words IsSpelledStep step-read) line_words IsReadable (counted_in step_in ws) (codes "cycle") ws (λ steps. refl) (λ steps v. v) refl
    (counted-read step_in step_words IsSpelledStep step-read ws)

regroup : (n m : Word) (f g rest : List Word) → (n ∷ f) ++ ((m ∷ g) ++ rest) ≡ (n ∷ (f ++ m ∷ g)) ++ rest
regroup n m f g rest = ap (λ t. n ∷ t) (sym (append_assoc f (m ∷ g) rest))

learn-read : (ws : List Word) → IfSome (learn_in ws) (IsRead line_words IsReadable (codes "learn" ∷ ws))
learn-read ws =
    gives-then (λ (a : List Literal × List Word). made (λ (hints : List Hint). line.Learn a.0 hints) (counted_in hint_in a.1)) (counted_in literal_in ws) (AreLiterals ws) (IsRead line_words IsReadable (codes "learn" ∷ ws)) second
    (counted-read literal_in literal_words IsSpelledLiteral literal-read ws)
  where
    second : (a : List Literal × List Word) → AreLiterals ws a → IfSome (made (λ (hints : List Hint). line.Learn a.0 hints) (counted_in hint_in a.1)) (IsRead line_words IsReadable (codes "learn" ∷ ws))
    second a r =
        gives-made (λ (hints : List Hint). line.Learn a.0 hints) (counted_in hint_in a.1) (AreHints a.1) (IsRead line_words IsReadable (codes "learn" ∷ ws))
        (λ hints rest q. record {
          valid = (r.valid, q.valid);
          words_are = ap (λ t. codes "learn" ∷ t) (r.words_are ∙ ap (λ t. (decimal (length a.0) ∷ flat_map literal_words a.0) ++ t) q.words_are
              ∙ regroup (decimal (length a.0)) (decimal (length hints)) (flat_map literal_words a.0) (flat_map hint_words hints) rest);
        }) (counted-read hint_in hint_words IsSpelledHint hint-read a.1)

-- the words of a line that was read
record IsOfWords (ws : List Word) (l : Line) : Type 0 where
  readable : IsReadable l
  words_are : ws ≡ line_words l

ended : (all : List Word) (l : Line) → IsRead line_words IsReadable all (l, []) → IsOfWords all l
ended all l r = record { readable = r.valid; words_are = r.words_are ∙ append-nil (line_words l) }

line-read : (ws : List Word) → IfSome (line_in ws) (IsOfWords ws)
line-read [] = tt
line-read (w ∷ ws) =
    gives-named w (codes "cycle") (whole (made line.Cycle (counted_in step_in ws))) _ (IsOfWords (w ∷ ws)) cycle
    (gives-named w (codes "learn") (whole (learn_in ws)) None (IsOfWords (w ∷ ws)) learn tt)
  where
    cycle : w ≡ codes "cycle" → IfSome (whole (made line.Cycle (counted_in step_in ws))) (IsOfWords (w ∷ ws))
    cycle is = subst (λ v. IfSome (whole (made line.Cycle (counted_in step_in ws))) (IsOfWords (v ∷ ws))) (sym is)
        (gives-whole (made line.Cycle (counted_in step_in ws)) (IsRead line_words IsReadable (codes "cycle" ∷ ws)) (IsOfWords (codes "cycle" ∷ ws)) (ended (codes "cycle" ∷ ws)) (cycle-read ws))

    learn : w ≡ codes "learn" → IfSome (whole (learn_in ws)) (IsOfWords (w ∷ ws))
    learn is = subst (λ v. IfSome (whole (learn_in ws)) (IsOfWords (v ∷ ws))) (sym is)
        (gives-whole (learn_in ws) (IsRead line_words IsReadable (codes "learn" ∷ ws)) (IsOfWords (codes "learn" ∷ ws)) (ended (codes "learn" ∷ ws)) (learn-read ws))

-- a line is read from its words
line-written : (l : Line) → IsSpelled l → line_in (line_words l) ≡ Some l
line-written (line.Cycle steps) is =
    let words = flat_map step_words steps in
    let read : counted_in step_in (decimal (length steps) ∷ words) ≡ Some (steps, []) =
    ap (λ t. counted_in step_in (decimal (length steps) ∷ t)) (sym (append-nil words)) ∙ counted-written step_in step_words IsSpelledStep step-written steps [] is.count is.each in
    ap whole (made-back line.Cycle (counted_in step_in (decimal (length steps) ∷ words)) steps [] read)
line-written (line.Learn lits hints) is =
    let words = flat_map hint_words hints in
    let after : List Word = decimal (length hints) ∷ words in
    let read : counted_in hint_in after ≡ Some (hints, []) =
    ap (λ t. counted_in hint_in (decimal (length hints) ∷ t)) (sym (append-nil words)) ∙ counted-written hint_in hint_words IsSpelledHint hint-written hints [] is.hint_count is.each_hint in
    let first = counted-written literal_in literal_words IsSpelledLiteral literal-written lits after is.lit_count is.each_lit in
    ap whole
    (ap (option_and_then (λ (a : List Literal × List Word). made (λ (h : List Hint). line.Learn a.0 h) (counted_in hint_in a.1))) first
    ∙ made-back (λ (h : List Hint). line.Learn lits h) (counted_in hint_in after) hints [] read)

-- the words of a line come apart again
pub split-line : (l : Line) → IsSpelled l → slice_split (is_byte space) (join_with_byte space (line_words l)) ≡ line_words l
split-line (line.Cycle steps) is = split-joined (codes "cycle") _ (plain-line (line.Cycle steps) is)
split-line (line.Learn lits hints) is = split-joined (codes "learn") _ (plain-line (line.Learn lits hints) is)

-- the line of bytes, by their words
pub line-is : (bytes : List ℕ) (l : Line) → IsLine bytes l → line_in (slice_split (is_byte space) bytes) ≡ Some l
line-is bytes l is =
    let same : join_with_byte space (line_words l) ≡ bytes = append_cancel_right (join_with_byte space (line_words l)) bytes (newline ∷ []) is.text in
    ap (λ t. line_in (slice_split (is_byte space) t)) (sym same) ∙ ap line_in (split-line l is.spelled) ∙ line-written l is.spelled

pub line-of : (bytes : List ℕ) (l : Line) → line_in (slice_split (is_byte space) bytes) ≡ Some l → HasAtomsOnce l → IsLine bytes l
line-of bytes l is once =
    let of_words : IsOfWords (slice_split (is_byte space) bytes) l = subst (λ o. IfSome o (IsOfWords (slice_split (is_byte space) bytes))) is (line-read (slice_split (is_byte space) bytes)) in
    record {
      spelled = readable-spelled l of_words.readable once;
      text = ap (λ t. t ++ newline ∷ []) (ap (join_with_byte space) (sym of_words.words_are) ∙ join_with_byte-slice_split space bytes);
    }

pub some_same : (a b : Line) → Some a ≡ Some b → a ≡ b
some_same a b same = cc

-- bytes are at most one line
pub one-line : (bytes : List ℕ) (k l : Line) → IsLine bytes k → IsLine bytes l → k ≡ l
one-line bytes k l first second = some_same k l (sym (line-is bytes k first) ∙ line-is bytes l second)

-- where the words are no line, and where an atom stands twice
pub no-line : (bytes : List ℕ) → line_in (slice_split (is_byte space) bytes) ≡ None → (l : Line) → IsLine bytes l → ⊥
no-line bytes none l is = let some = line-is bytes l is in absurd (cc (none, some))

pub twice : (bytes : List ℕ) (found : Line) → line_in (slice_split (is_byte space) bytes) ≡ Some found → (HasAtomsOnce found → ⊥) → (l : Line) → IsLine bytes l → ⊥
twice bytes found read other l is =
    let same : l ≡ found = some_same l found (sym (line-is bytes l is) ∙ read) in
    other (subst HasAtomsOnce same (spelled-once l is.spelled))

-- what is left after a line's words
pub whole-ended : {X : Type 0} (reading : Reading X) (x : X) (rest : List ℕ) → reading ≡ Some (x, words_after rest) → length rest ≡ 0 → whole reading ≡ Some x
whole-ended reading x [] is empty = ap whole is
whole-ended reading x (b ∷ bs) is empty = absurd (omega arith)

whole-longer : {X : Type 0} (x : X) (ws : List Word) → 0 < length ws → whole (Some (x, ws)) ≡ None
whole-longer x [] some = absurd (omega arith)
whole-longer x (w ∷ ws) some = refl

pub whole-going_on : {X : Type 0} (reading : Reading X) (x : X) (rest : List ℕ) → reading ≡ Some (x, words_after rest) → 0 < length rest → whole reading ≡ None
whole-going_on reading x [] is some = absurd (omega arith)
whole-going_on reading x (b ∷ bs) is some = ap whole is ∙ whole-longer x (slice_split (is_byte space) bs) (omega (arith, length-slice_split (is_byte space) bs))

-- the literals and the hints of a Learn line
pub learn-is : (ws after rest : List Word) (lits : List Literal) (hints : List Hint) → counted_in literal_in ws ≡ Some (lits, after)
    → counted_in hint_in after ≡ Some (hints, rest) → learn_in ws ≡ Some (line.Learn lits hints, rest)
learn-is ws after rest lits hints first second =
    ap (option_and_then (λ (a : List Literal × List Word). made (λ (h : List Hint). line.Learn a.0 h) (counted_in hint_in a.1))) first
    ∙ made-back (λ (h : List Hint). line.Learn lits h) (counted_in hint_in after) hints rest second
