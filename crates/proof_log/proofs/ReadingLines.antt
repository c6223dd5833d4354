-- Bytes of which some lines were read, and bytes as lines in one way.
use Rattle.std.proofs.Common.{◌≡◌, ◌∙◌, sym, ap, subst, refl, arith, ℕ, ◌+◌, ◌-◌, ◌≤◌, List, [], ◌∷◌, ◌++◌, append_assoc, length, length-append, length-drop, take, drop, add-one, get_or, false, Option, Some, None, Result, Ok, Err}
use Rattle.std.specs.Prelude.{All, MatchOption}
use Rattle.std.specs.List.{join_with_byte, slice_split}
use Rattle.std.proofs.Math.Seq.{split_at}
use Rattle.std.proofs.lemmas.Bool.Decides.{nat_tests}
use Rattle.std.proofs.lemmas.List.{append-nil, append_cancel_left}
use Rattle.std.proofs.lemmas.List.Concat.{flat_map-append}
use Rattle.std.proofs.lemmas.List.Elements.{All-head, All-nil, All-push, All-tail}
use Rattle.std.proofs.lemmas.List.Splits.{length-slice_split, slice_split_at, slice_split_none}
use Rattle.memchr.specs.Find.{NoneBefore, Passes, is_byte}
use Rattle.proof_log.specs.declared.fault.LineFault.{LineFault}
use Rattle.proof_log.specs.declared.fault.LineFault.TheVariants as fault
use Rattle.proof_log.specs.declared.line.Line.{Line}
use Rattle.proof_log.specs.LinesOf.{BeginsWithLine, IsFaultyAt, IsLine, IsTextOf, LinesOf}
use Rattle.proof_log.specs.LinesText.{line_text, line_words, lines_text, newline, space}
use Rattle.proof_log.specs.Spelled.{IsSpelled}
use Rattle.proof_log.proofs.Cuts.{cut-at}
use Rattle.proof_log.proofs.LineReading.{one-line}
use Rattle.proof_log.proofs.PlainWords.{joined-lacks, plain-line}

-- these lines were read, and the rest follows
pub record AreReadUpTo (bytes : List ℕ) (lines : List Line) (rest : List ℕ) : Type 0 where
  pub spelled : All IsSpelled lines
  pub text : bytes ≡ lines_text lines ++ rest
  pub room : length lines + length rest ≤ length bytes

abbrev joined : Line → List ℕ
joined l = join_with_byte space (line_words l)

-- a line's text, cut at its newline
pub text-cut : (l : Line) (after : List ℕ) → IsSpelled l → slice_split (is_byte newline) (line_text l ++ after) ≡ joined l ∷ slice_split (is_byte newline) after
text-cut l after is =
    ap (slice_split (is_byte newline)) (append_assoc (joined l) (newline ∷ []) after)
    ∙ slice_split_at (is_byte newline) (joined l) newline after (joined-lacks (line_words l) (plain-line l is)) refl

pub line_some : (l : Line) → 1 ≤ length (line_text l)
line_some l = omega (arith, length-append (join_with_byte space (line_words l)) (newline ∷ []))

pub first_same : (a b : List ℕ) (as_ bs : List (List ℕ)) → a ∷ as_ ≡ b ∷ bs → a ≡ b
first_same a b as_ bs same = cc

later_same : (a b : List ℕ) (as_ bs : List (List ℕ)) → a ∷ as_ ≡ b ∷ bs → as_ ≡ bs
later_same a b as_ bs same = cc

-- what has no newline begins with no line
pub no-newline : (rest : List ℕ) → slice_split (is_byte newline) rest ≡ rest ∷ [] → BeginsWithLine rest → ⊥
no-newline rest cut begins =
    let parts = sym cut ∙ ap (slice_split (is_byte newline)) begins.text ∙ text-cut begins.line begins.after begins.spelled in
    let none : [] ≡ slice_split (is_byte newline) begins.after = later_same rest (joined begins.line) [] (slice_split (is_byte newline) begins.after) parts in
    absurd (omega (arith, ap length none, length-slice_split (is_byte newline) begins.after))

pub nothing-begins : BeginsWithLine [] → ⊥
nothing-begins begins = no-newline [] (slice_split_none (is_byte newline) [] (All-nil (λ b. is_byte newline b ≡ false))) begins

module _ (rest : List ℕ) (end : ℕ) (first : NoneBefore (Passes (is_byte newline) rest) 0 (length rest) end) (here : Passes (is_byte newline) rest end) where
  -- bytes before a newline that are no line
  pub not-begun : ((l : Line) → IsLine (take end rest) l → ⊥) → BeginsWithLine rest → ⊥
  not-begun none begins =
      let parts = sym (cut-at newline rest end first here) ∙ ap (slice_split (is_byte newline)) begins.text ∙ text-cut begins.line begins.after begins.spelled in
      let same : take end rest ≡ joined begins.line =
      first_same (take end rest) (joined begins.line) (slice_split (is_byte newline) (drop (end + 1) rest)) (slice_split (is_byte newline) begins.after) parts in
      none begins.line (record { spelled = begins.spelled; text = ap (λ t. t ++ newline ∷ []) (sym same) })

  pub cut : rest ≡ (take end rest ++ newline ∷ []) ++ drop (end + 1) rest
  cut =
      let is : get_or rest end 0 ≡ newline = grind (arith, nat_tests) in
      rw add-one (split_at rest end 0 first.high) ∙ ap (λ b. take end rest ++ b ∷ drop (end + 1) rest) is ∙ sym (append_assoc (take end rest) (newline ∷ []) (drop (end + 1) rest))

  module _ (bytes : List ℕ) (lines : List Line) (before : AreReadUpTo bytes lines rest) where
    -- one more line was read
    pub line-more : (l : Line) → IsLine (take end rest) l → AreReadUpTo bytes (lines ++ l ∷ []) (drop (end + 1) rest)
    line-more l is =
        let after = drop (end + 1) rest in
        let size : length after ≡ length rest - (end + 1) = length-drop (end + 1) rest in
        record {
          spelled = All-push IsSpelled lines l before.spelled is.spelled;
          text = before.text ∙ ap (λ t. lines_text lines ++ t) (cut ∙ ap (λ t. t ++ after) (sym is.text)) ∙ sym (append_assoc (lines_text lines) (line_text l) after)
              ∙ ap (λ t. (lines_text lines ++ t) ++ after) (sym (append-nil (line_text l))) ∙ ap (λ t. t ++ after) (sym (flat_map-append line_text lines (l ∷ [])));
          room = let room = before.room in let high = first.high in omega (arith, length-append lines (l ∷ []));
        }

    pub faulty-line : ((l : Line) → IsLine (take end rest) l → ⊥) → (n : ℕ) → n ≡ length lines + 1 → IsFaultyAt bytes n
    faulty-line none n place = record { before = lines; rest = rest; split = before.text; spelled = before.spelled; place = place; some = omega (arith, first.high); faulty = not-begun none }

-- two ways of taking bytes apart are one
record AreSame (xs ys : List Line) (a b : List ℕ) : Type 0 where
  lines : xs ≡ ys
  rest : a ≡ b

pub same-first : (x y : Line) (s t : List ℕ) → IsSpelled x → IsSpelled y → line_text x ++ s ≡ line_text y ++ t → x ≡ y
same-first x y s t is_x is_y same =
    let parts = sym (text-cut x s is_x) ∙ ap (slice_split (is_byte newline)) same ∙ text-cut y t is_y in
    let text : joined x ≡ joined y = first_same (joined x) (joined y) (slice_split (is_byte newline) s) (slice_split (is_byte newline) t) parts in
    one-line (joined y) x y (record { spelled = is_x; text = ap (λ u. u ++ newline ∷ []) text }) (record { spelled = is_y; text = refl })

begins-with : (rest : List ℕ) (l : Line) (ls : List Line) (s : List ℕ) → IsSpelled l → rest ≡ (line_text l ++ lines_text ls) ++ s → BeginsWithLine rest
begins-with rest l ls s is text = record { line = l; spelled = is; after = lines_text ls ++ s; text = text ∙ append_assoc (line_text l) (lines_text ls) s }

taken-apart : (xs ys : List Line) (a b : List ℕ) → All IsSpelled xs → All IsSpelled ys → (BeginsWithLine a → ⊥) → (BeginsWithLine b → ⊥) → lines_text xs ++ a ≡ lines_text ys ++ b → AreSame xs ys a b
taken-apart [] [] a b all_x all_y no_a no_b same = record { lines = refl; rest = same }
taken-apart [] (y ∷ ys) a b all_x all_y no_a no_b same = absurd (no_a (begins-with a y ys b (All-head IsSpelled y ys all_y) same))
taken-apart (x ∷ xs) [] a b all_x all_y no_a no_b same = absurd (no_b (begins-with b x xs a (All-head IsSpelled x xs all_x) (sym same)))
taken-apart (x ∷ xs) (y ∷ ys) a b all_x all_y no_a no_b same =
    let s = lines_text xs ++ a in
    let t = lines_text ys ++ b in
    let texts : line_text x ++ s ≡ line_text y ++ t = sym (append_assoc (line_text x) (lines_text xs) a) ∙ same ∙ append_assoc (line_text y) (lines_text ys) b in
    let first = same-first x y s t (All-head IsSpelled x xs all_x) (All-head IsSpelled y ys all_y) texts in
    let later : s ≡ t = append_cancel_left (line_text y) s t (ap (λ l. line_text l ++ s) (sym first) ∙ texts) in
    let rest = taken-apart xs ys a b (All-tail IsSpelled x xs all_x) (All-tail IsSpelled y ys all_y) no_a no_b later in
    record { lines = ap (λ l. l ∷ xs) first ∙ ap (λ ls. y ∷ ls) rest.lines; rest = rest.rest }

whole-text : (bytes : List ℕ) (xs : List Line) → IsTextOf bytes xs → bytes ≡ lines_text xs ++ []
whole-text bytes xs is = is.text ∙ sym (append-nil (lines_text xs))

pub one-reading : (bytes : List ℕ) (r s : Result (List Line) LineFault) → LinesOf bytes r → LinesOf bytes s → r ≡ s
one-reading bytes (Ok xs) (Ok ys) p q = ap Ok (taken-apart xs ys [] [] p.spelled q.spelled nothing-begins nothing-begins (sym (whole-text bytes xs p) ∙ whole-text bytes ys q)).lines
one-reading bytes (Ok xs) (Err (fault.Syntax n)) p q =
    let apart = taken-apart xs q.before [] q.rest p.spelled q.spelled nothing-begins q.faulty (sym (whole-text bytes xs p) ∙ q.split) in
    absurd (omega (arith, q.some, ap length apart.rest))
one-reading bytes (Ok xs) (Err fault.Memory) p q = absurd q
one-reading bytes (Err (fault.Syntax m)) (Ok ys) p q =
    let apart = taken-apart p.before ys p.rest [] p.spelled q.spelled p.faulty nothing-begins (sym p.split ∙ whole-text bytes ys q) in
    absurd (omega (arith, p.some, ap length apart.rest))
one-reading bytes (Err (fault.Syntax m)) (Err (fault.Syntax n)) p q =
    let apart = taken-apart p.before q.before p.rest q.rest p.spelled q.spelled p.faulty q.faulty (sym p.split ∙ q.split) in
    let same : m ≡ n = p.place ∙ ap (λ (ls : List Line). length ls + 1) apart.lines ∙ sym q.place in
    ap (λ k. Err (fault.Syntax k)) same
one-reading bytes (Err (fault.Syntax m)) (Err fault.Memory) p q = absurd q
one-reading bytes (Err fault.Memory) s p q = absurd p

-- what a line of bytes was read as
pub line-found : (bytes : List ℕ) (o : Option Line) (l : Line) → o ≡ Some l → MatchOption o ((k : Line) → IsLine bytes k → ⊥) (λ k. IsLine bytes k) → IsLine bytes l
line-found bytes None l is h = cc
line-found bytes (Some k) l is h =
    let same : k ≡ l = cc in
    subst (IsLine bytes) same h

pub none-found : (bytes : List ℕ) (o : Option Line) → o ≡ None → MatchOption o ((k : Line) → IsLine bytes k → ⊥) (λ k. IsLine bytes k) → (l : Line) → IsLine bytes l → ⊥
none-found bytes None is h = h
none-found bytes (Some k) is h = absurd (cc (is))

-- the lines and the bytes that a turn of the reader leaves
pub up-to : (bytes after rest : List ℕ) (lines pushed : List Line) → AreReadUpTo bytes lines rest → pushed ≡ lines → after ≡ rest → AreReadUpTo bytes pushed after
up-to bytes after rest lines pushed before same left = rw (same, left) before
