-- The numbers that hints of lines name, line by line.
use Rattle.std.proofs.Common.{◌≡◌, ◌∙◌, sym, ap, subst, refl, inl, inr, ℕ, ◌+◌, ◌-◌, ◌<◌, ◌≤◌, List, [], ◌∷◌, ◌++◌, append_assoc, length, length-append, take, drop, get_or, false, Some, Bor, arith}
use Rattle.std.specs.Prelude.{slice_get}
use Rattle.std.specs.List.{flat_map}
use Rattle.std.proofs.Math.Seq.{drop-append_seam, take-append_seam}
use Rattle.std.proofs.lemmas.Bool.{cases_lt}
use Rattle.std.proofs.lemmas.Grind.{common_steps}
use Rattle.std.proofs.lemmas.List.{append-nil, take-append-drop, take_all, take_more}
use Rattle.std.proofs.lemmas.List.Concat.{flat_map-append}
use Rattle.std.proofs.lemmas.Option.{get_or_from_slice_get, slice_get-get_or, slice_get_within}
use Rattle.proof_log.specs.declared.line.Line.{Line}
use Rattle.proof_log.specs.declared.line.Line.TheVariants as line
use Rattle.proof_log.specs.declared.parts.LineWords.TheVariants as words
use Rattle.proof_log.specs.LinesOf.{IsTextOf}
use Rattle.proof_log.specs.Parts.{AreWordsOf}
use Rattle.proof_log.specs.Reading.{words_after}
use Rattle.proof_log.specs.Spelled.{IsSpelled}
use Rattle.proof_trim.specs.Naming.{AreNamed, named_in, named_of}
use Rattle.proof_trim.proofs.LineTexts.{IsLineAfter, none-after}
use Rattle.proof_trim.proofs.NamedWords.{learn-named}

-- ---- the numbers of one line

pub cycle-adds : (ws : Bor (List ℕ)) (l : Line) → AreWordsOf (words.Cycle ws) l → named_of l ≡ []
cycle-adds ws (line.Cycle steps) are = refl
cycle-adds ws (line.Learn lits hints) are = absurd are

pub learn-adds : (ws : Bor (List ℕ)) (l : Line) → IsSpelled l → AreWordsOf (words.Learn ws) l → named_in false (words_after ws.now) ≡ named_of l
learn-adds ws (line.Cycle steps) is are = absurd are
learn-adds ws (line.Learn lits hints) is are = ap (named_in false) are ∙ learn-named lits hints is

-- ---- of lines one after another

-- a list up to an element and with it
named-more : (lines : List Line) (n : ℕ) (l : Line) → n < length lines → get_or lines n l ≡ l → flat_map named_of (take (n + 1) lines) ≡ flat_map named_of (take n lines) ++ named_of l
named-more lines n l low is =
    ap (flat_map named_of) (take_more lines n l low) ∙ flat_map-append named_of (take n lines) (get_or lines n l ∷ [])
    ∙ ap (λ k. flat_map named_of (take n lines) ++ (named_of k ++ [])) is ∙ ap (λ t. flat_map named_of (take n lines) ++ t) (append-nil (named_of l))

-- the numbers of the first lines were found, and the rest is the text of the others
pub record AreNamedTo (lines : List Line) (numbers ends rest : List ℕ) : Type 0 where
  pub within : length ends ≤ length lines
  pub are : numbers ≡ flat_map named_of (take (length ends) lines)
  pub each : (i d : ℕ) → i < length ends → get_or ends i d ≡ length (flat_map named_of (take (i + 1) lines))
  pub rest_is : IsTextOf rest (drop (length ends) lines)

pub none-named : (text : List ℕ) (lines : List Line) → IsTextOf text lines → AreNamedTo lines [] [] text
none-named text lines is = record { within = omega arith; are = refl; each = λ i d within. (let never : ⊥ = omega arith in absurd never); rest_is = is }

module _ (lines : List Line) (numbers ends rest : List ℕ) (so_far : AreNamedTo lines numbers ends rest) where
  -- no line is left
  pub all-named : ((ls : List Line) → IsTextOf rest ls → ls ≡ []) → AreNamed lines numbers ends
  all-named none =
      let empty = none (drop (length ends) lines) so_far.rest_is in
      let count : length ends ≡ length lines = omega (arith, so_far.within, none-after lines (length ends) empty) in
      record { are = so_far.are ∙ ap (flat_map named_of) (ap (λ n. take n lines) count ∙ take_all (length lines) lines (omega arith)); count = count; each = so_far.each }

  module _ (l : Line) (after : List ℕ) (next : IsLineAfter lines (length ends) l rest after) where
    pub one-named : (new new_ends : List ℕ) → new ≡ numbers ++ named_of l → new_ends ≡ ends ++ length new ∷ [] → AreNamedTo lines new new_ends after
    one-named new new_ends added ended =
        let n = length ends in
        let size : length new_ends ≡ n + 1 = ap length ended ∙ length-append ends (length new ∷ []) in
        let more : new ≡ flat_map named_of (take (n + 1) lines) = added ∙ ap (λ t. t ++ named_of l) so_far.are ∙ sym (named-more lines n l next.low next.stands) in
        record {
          within = omega (arith, size, next.low);
          are = more ∙ ap (λ k. flat_map named_of (take k lines)) (sym size);
          each = λ i d within. elim (cases_lt i n) [
            | inl early ↦
                let each = so_far.each i d early in
                let same : get_or new_ends i d ≡ get_or ends i d = rw ended (grind (arith, common_steps, early)) in
                same ∙ each
            | inr late ↦
                let now : i ≡ n = omega (arith, within, late, size) in
                let last : get_or new_ends i d ≡ length new = rw (ended, now) (grind (arith, common_steps)) in
                last ∙ ap length more ∙ ap (λ k. length (flat_map named_of (take (k + 1) lines))) (sym now)
          ];
          rest_is = subst (λ k. IsTextOf after (drop k lines)) (sym size) next.after_is;
        }

-- ---- the numbers of a line among those of all

module _ (lines : List Line) (numbers ends : List ℕ) (are : AreNamed lines numbers ends) where
  -- where those of a line begin
  pub next-start : (i d : ℕ) → 1 ≤ i → i < length ends → get_or ends (i - 1) d ≡ length (flat_map named_of (take i lines))
  next-start i d some within =
      let back : i - 1 + 1 ≡ i = omega (arith, some) in
      are.each (i - 1) d (omega (arith, some, within)) ∙ ap (λ k. length (flat_map named_of (take k lines))) back

  module _ (i : ℕ) (within : i < length ends) where
    abbrev start : ℕ
    start = length (flat_map named_of (take i lines))

    -- the line there
    pub line-here : (l : Line) × (slice_get lines i ≡ Some l)
    line-here = (get_or lines i (line.Cycle []), slice_get-get_or lines i (line.Cycle []) (omega (arith, within, are.count)))

    module _ (l : Line) (stands : slice_get lines i ≡ Some l) (d : ℕ) where
      end-is : get_or ends i d ≡ start + length (named_of l)
      end-is =
          let low = slice_get_within lines i l stands in
          are.each i d within ∙ ap length (named-more lines i l low (get_or_from_slice_get lines i l l stands)) ∙ length-append (flat_map named_of (take i lines)) (named_of l)

      split-there : numbers ≡ flat_map named_of (take i lines) ++ (named_of l ++ flat_map named_of (drop (i + 1) lines))
      split-there =
          let low = slice_get_within lines i l stands in
          are.are ∙ ap (flat_map named_of) (sym (take-append-drop (i + 1) lines)) ∙ flat_map-append named_of (take (i + 1) lines) (drop (i + 1) lines)
          ∙ ap (λ t. t ++ flat_map named_of (drop (i + 1) lines)) (named-more lines i l low (get_or_from_slice_get lines i l l stands))
          ∙ append_assoc (flat_map named_of (take i lines)) (named_of l) (flat_map named_of (drop (i + 1) lines))

      pub start-first : start ≤ get_or ends i d
      start-first = omega (arith, end-is)

      pub end-within : get_or ends i d ≤ length numbers
      end-within =
          omega (
            arith,
            end-is,
            ap length split-there,
            length-append (flat_map named_of (take i lines))
                (named_of l ++ flat_map named_of (drop (i + 1) lines)),
            length-append (named_of l) (flat_map named_of (drop (i + 1) lines)),
          )

      pub those-there : take (get_or ends i d - start) (drop start numbers) ≡ named_of l
      those-there =
          let size : get_or ends i d - start ≡ length (named_of l) = omega (arith, end-is) in
          let left : drop start numbers ≡ named_of l ++ flat_map named_of (drop (i + 1) lines) =
          ap (drop start) split-there ∙ drop-append_seam (flat_map named_of (take i lines)) (named_of l ++ flat_map named_of (drop (i + 1) lines)) in
          ap (λ k. take k (drop start numbers)) size ∙ ap (take (length (named_of l))) left ∙ take-append_seam (named_of l) (flat_map named_of (drop (i + 1) lines))
