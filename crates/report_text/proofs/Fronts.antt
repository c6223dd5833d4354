-- What stands at the front of bytes, and what a line says.
use Rattle.std.proofs.Common.{◌≡◌, ◌∙◌, sym, ap, subst, arith, ℕ, ◌+◌, ◌^◌, Bool, true, List, [], ◌++◌, Option, Some, None, codes, ℤ}
use Rattle.std.specs.Prelude.{IfSome, MatchOption}
use Rattle.std.specs.Fmt.{decimal, signed_decimal}
use Rattle.std.proofs.lemmas.Int.{ints}
use Rattle.std.proofs.lemmas.List.{append_cancel_left}
use Rattle.mt_model.specs.declared.limits.TheConstants.{MAX_TIME}
use Rattle.mt_model.specs.declared.step.Step.TheVariants as step
use Rattle.mt_model.specs.Log.{IsWithin}
use Rattle.decimal.specs.Laws.{WritesNumber, WritesSigned}
use Rattle.decimal.specs.Numbers.{number_below, signed_up_to}
use Rattle.decimal.proofs.Printed.{number-below-printed}
use Rattle.decimal.proofs.Written.{number-sound, signed-sound}
use Rattle.proof_log.proofs.Cuts.{lacks}
use Rattle.report_text.specs.declared.part.Kind.{Kind}
use Rattle.report_text.specs.declared.part.Kind.TheVariants as kind
use Rattle.report_text.specs.declared.part.Opening.{Opening}
use Rattle.report_text.specs.declared.part.Opening.TheVariants as opening
use Rattle.report_text.specs.Parts.{IsCut, IsKind, IsLineOf, IsNumbered, IsOpening, opening_line}
use Rattle.report_text.specs.ReportOf.{LacksNewline}
use Rattle.report_text.specs.ReportText.{ended, kind_line}
use Rattle.report_text.proofs.Cutting.{same-line}
use Rattle.report_text.proofs.LineTexts.{time-printed}

-- a line of some words and a number

module _ (words line digits : List ℕ) (begins : line ≡ words ++ digits) where
  pub no-number : number_below (2 ^ 32) digits ≡ None → (n : ℕ) → IsNumbered words line n → ⊥
  no-number none n is =
      let written : decimal n ≡ digits = append_cancel_left words (decimal n) digits (is.text ∙ begins) in
      let read : Some n ≡ None = sym (number-below-printed (2 ^ 32) n (omega arith) is.number) ∙ ap (number_below (2 ^ 32)) written ∙ none in
      absurd (cc read)

  pub is-number : (n : ℕ) → number_below (2 ^ 32) digits ≡ Some n → IsNumbered words line n
  is-number n read =
      let w : WritesNumber (2 ^ 32) digits n = subst (λ o. IfSome o (WritesNumber (2 ^ 32) digits)) read (number-sound (2 ^ 32) digits (omega arith)) in
      record { number = w.below; text = ap (λ d. words ++ d) (sym w.written) ∙ sym begins }

-- a line of a time, by what was read of it

module _ (line : List ℕ) where
  pub time-line : (o : Option ℤ) → o ≡ signed_up_to MAX_TIME line → MatchOption o ((t : ℤ) → IsLineOf (IsWithin MAX_TIME) signed_decimal line t → ⊥) (IsLineOf (IsWithin MAX_TIME) signed_decimal line)
  time-line None read = λ t is.
      let found : Some t ≡ None = sym (time-printed t is.is) ∙ ap (signed_up_to MAX_TIME) is.text ∙ sym read in
      absurd (cc found)
  time-line (Some t) read =
      let w : WritesSigned MAX_TIME line t = subst (λ o. IfSome o (WritesSigned MAX_TIME line)) (sym read) (signed-sound MAX_TIME (omega (arith, ints)) line) in
      record { is = record { low = w.low; high = w.high }; text = sym w.written }

  -- a line of a bound

  abbrev pub Lacking : List ℕ → Type 0
  Lacking words = (n : ℕ) → IsNumbered words line n → ⊥

  -- the first line of a section

  -- the line after the number of events

  pub no-opening : Lacking (codes "inconsistent ") → ((k : Kind) → IsLineOf IsKind (kind_line true) line k → ⊥) → (o : Opening) → IsLineOf IsOpening opening_line line o → ⊥
  no-opening walk section (opening.Inconsistent n) is = walk n (record { number = is.is; text = is.text })
  no-opening walk section (opening.OnTrue k) is = section k (record { is = is.is; text = is.text })

-- bytes whose first line is another one
pub other-line : (words bytes line rest : List ℕ) → LacksNewline words → IsCut bytes line rest → (line ≡ words → ⊥) → (after : List ℕ) → bytes ≡ ended words ++ after → ⊥
other-line words bytes line rest lacks cut other after begins = other (same-line line words rest after cut.lacks lacks (sym cut.split ∙ begins))
