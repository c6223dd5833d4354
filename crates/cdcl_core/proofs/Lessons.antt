-- Of lines that derive, all Learn lines are lessons.
use Rattle.std.proofs.Common.{◌≡◌, ap, refl, ℕ, zero, suc, ◌+◌, Bool, List, [], ◌∷◌, arith}
use Rattle.std.specs.Prelude.{if◌then◌else◌}
use Rattle.std.proofs.lemmas.List.Sums.{sum_by-cons}
use Rattle.proof_log.specs.declared.line.Line.{Line}
use Rattle.proof_log.specs.declared.line.Line.TheVariants as line
use Rattle.proof_log.specs.Derivations.{IsEmptyAt}
use Rattle.proof_log.specs.Freshness.{is_learn, learn_lines}
use Rattle.cdcl_core.specs.Founds.{is_lesson, lessons}

-- the later lines have no empty clause either
later_none : (d : Line) (ds : List Line) → ((n : ℕ) → IsEmptyAt (d ∷ ds) n → ⊥) → (n : ℕ) → IsEmptyAt ds n → ⊥
later_none d ds none zero empty = absurd (cc)
later_none d ds none (suc n) empty = none (suc (suc n)) empty

same_test : (d : Line) (ds : List Line) → (IsEmptyAt (d ∷ ds) 1 → ⊥) → is_lesson d ≡ is_learn d
same_test (line.Cycle steps) ds some = refl
same_test (line.Learn [] hints) ds some = absurd (some refl)
same_test (line.Learn (l ∷ ls) hints) ds some = refl

-- 1 for a line that counts, and 0 for another one
abbrev number : Bool → ℕ
number b = if b then 1 else 0

pub lessons_learn : (lines : List Line) → ((n : ℕ) → IsEmptyAt lines n → ⊥) → lessons lines ≡ learn_lines lines
lessons_learn [] none = refl
lessons_learn (d ∷ ds) none =
    let here = same_test d ds (none 1) in
    let rest = lessons_learn ds (later_none d ds none) in
    let one : lessons (d ∷ ds) ≡ number (is_lesson d) + lessons ds = sum_by-cons (λ (c : Line). number (is_lesson c)) d ds in
    let other : learn_lines (d ∷ ds) ≡ number (is_learn d) + learn_lines ds = sum_by-cons (λ (c : Line). number (is_learn c)) d ds in
    let same : number (is_lesson d) ≡ number (is_learn d) = ap number here in
    omega (arith, rest, one, other, same)
