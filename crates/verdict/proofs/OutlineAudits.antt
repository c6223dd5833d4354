-- What an audit says of a section by its outline.
use Rattle.std.proofs.Common.{◌≡◌, ◌∙◌, ◌↔◌, ap, sym, subst, refl, ℕ, Bool, List, inl, inr, Option, Some, None, Ok, Err}
use Rattle.std.specs.Prelude.{IfOk, Result}
use Rattle.mt_model.specs.Form.{Form}
use Rattle.mt_model.specs.Log.{Logged}
use Rattle.axiom_rules.specs.Sought.{Sought, sought_of}
use Rattle.proof_log.specs.declared.line.Line.{Line}
use Rattle.proof_log.specs.Derivations.{Derives, FirstWrong, Refutes}
use Rattle.proof_log.specs.Freshness.{learn_lines}
use Rattle.proof_log.specs.LinesOf.{IsTextOf}
use Rattle.proof_check.specs.declared.check.Check.{Check}
use Rattle.proof_check.specs.declared.check.Check.TheVariants as check
use Rattle.proof_check.specs.declared.check.TextCheck.{TextCheck}
use Rattle.proof_check.specs.Answering.{IsAnswer, OfSought, right_lines}
use Rattle.report_text.specs.declared.outline.SectionOutline.{SectionOutline}
use Rattle.report_text.specs.declared.part.Kind.TheVariants as kind
use Rattle.report_text.specs.declared.report.Section.{Section}
use Rattle.report_text.specs.declared.report.Section.TheVariants as section
use Rattle.report_text.specs.Outlines.{IsSectionOutline}
use Rattle.report_text.specs.Spelled.{IsSpelledSection}
use Rattle.report_text.proofs.ReadBack.{found-refuted, found-unknown, lines-found, outlined-refuted, outlined-unknown}
use Rattle.verdict.specs.AuditPlace.{IsJudgedAt}
use Rattle.verdict.specs.OfOutlines.{CountsLearnLines}

-- what was answered for the lines of a text
pub text_answer : {E : Type 0} (r : Result TextCheck E) (s : Sought) (log : Logged) (f : Form) (v : Bool) (text : List ℕ) → s ≡ sought_of log f v
    → IfOk r (λ t. (lines : List Line) → IsTextOf text lines → OfSought s (λ log f v. (t.check ≡ check.Refutes) ↔ Refutes log f v lines))
    → IfOk r (λ t. (lines : List Line) → IsTextOf text lines → OfSought s (λ log f v. (t.check ≡ check.Derives) ↔ Derives log f v lines))
    → IfOk r (λ t. (lines : List Line) → IsTextOf text lines → OfSought s (λ log f v. (n : ℕ) → (t.check ≡ check.Wrong n) ↔ FirstWrong log f v lines n))
    → IfOk r (λ t. (lines : List Line) → IsTextOf text lines → IsAnswer log f v lines t.check)
text_answer (Ok t) s log f v text is refutes derives wrong = λ lines of. record { refutes = refutes lines of log f v is; derives = derives lines of log f v is; wrong = wrong lines of log f v is }
text_answer (Err e) s log f v text is refutes derives wrong = tt

-- how many Learn lines a text has that derives
pub text_learn : {E : Type 0} (r : Result TextCheck E) (text : List ℕ) → IfOk r (λ t. (lines : List Line) → IsTextOf text lines → t.learn_lines ≡ learn_lines (right_lines t.check lines))
    → IfOk r (λ t. (lines : List Line) → IsTextOf text lines → CountsLearnLines t lines)
text_learn (Ok t) text counted = λ lines is derives. counted lines is ∙ ap (λ k. learn_lines (right_lines k lines)) derives
text_learn (Err e) text counted = tt

module _ (log : Logged) (f : Form) (budget : ℕ) (v : Bool) (lines : List Line) (c : Check) (answer : IsAnswer log f v lines c) where
  -- of a refuted section
  pub refuted_shows : c ≡ check.Refutes → IsJudgedAt log f budget v (section.Refuted lines) None
  refuted_shows is = record { shows = λ _. answer.refutes.0 is; fails = tt }

  pub refuted_whole : c ≡ check.Derives → IsJudgedAt log f budget v (section.Refuted lines) (Some 0)
  refuted_whole is = record {
    shows = λ no. absurd (cc (no));
    fails = record {
      fails = λ refutes. let both = sym (answer.refutes.1 refutes) ∙ is in absurd (cc (both));
      line = inr (record { none_wrong = (answer.derives.0 is).none_wrong; whole = refl });
    };
  }

  pub refuted_wrong : (n : ℕ) → c ≡ check.Wrong n → IsJudgedAt log f budget v (section.Refuted lines) (Some n)
  refuted_wrong n is = record {
    shows = λ no. absurd (cc (no));
    fails = record { fails = λ refutes. let both = sym (answer.refutes.1 refutes) ∙ is in absurd (cc (both)); line = inl ((answer.wrong n).0 is) };
  }

  -- of an unknown one
  pub unknown_wrong : (n : ℕ) → c ≡ check.Wrong n → IsJudgedAt log f budget v (section.Unknown lines) (Some n)
  unknown_wrong n is = record {
    shows = λ no. absurd (cc (no));
    fails = record { fails = λ shows. let both = sym (answer.derives.1 shows.derives) ∙ is in absurd (cc (both)); line = inl ((answer.wrong n).0 is) };
  }

-- the section of an outline of each kind
module _ (log : Logged) (f : Form) (budget : ℕ) (v : Bool) (events : ℕ) (o : SectionOutline) (line : Option ℕ) where
  abbrev Judged : Section → Type 0
  Judged s = IsJudgedAt log f budget v s line

  pub judged_refuted : (n : ℕ) → o.kind ≡ kind.Refuted n → ((lines : List Line) → IsTextOf o.text.now lines → Judged (section.Refuted lines)) → (s : Section)
      → IsSectionOutline o s → IsSpelledSection events s → Judged s
  judged_refuted n is each s out spelled =
      let lines = outlined-refuted events o s out spelled n is in
      subst Judged (found-refuted events o n is lines.0 (λ ls of. lines-found o.text.now lines.0 lines.1 ls of) s out spelled) (each lines.0 lines.1)

  pub judged_unknown : (n : ℕ) → o.kind ≡ kind.Unknown n → ((lines : List Line) → IsTextOf o.text.now lines → Judged (section.Unknown lines)) → (s : Section)
      → IsSectionOutline o s → IsSpelledSection events s → Judged s
  judged_unknown n is each s out spelled =
      let lines = outlined-unknown events o s out spelled n is in
      subst Judged (found-unknown events o n is lines.0 (λ ls of. lines-found o.text.now lines.0 lines.1 ls of) s out spelled) (each lines.0 lines.1)
