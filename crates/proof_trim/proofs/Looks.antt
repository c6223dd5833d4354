-- Lines whose hints name earlier ones, one after another.
use Rattle.std.proofs.Common.{◌≡◌, ◌∙◌, ap, ap₂, refl, ℕ, zero, suc, ◌+◌, ◌<◌, ◌≤◌, List, [], ◌∷◌, length, get_or, map, Some, add-one, arith}
use Rattle.std.specs.Prelude.{All}
use Rattle.std.proofs.lemmas.List.Elements.{All-contains}
use Rattle.std.proofs.lemmas.Option.{slice_get-get_or, slice_get_within}
use Rattle.proof_log.specs.declared.line.Hint.{Hint}
use Rattle.proof_log.specs.declared.line.Hint.TheVariants as hint
use Rattle.proof_log.specs.declared.line.Line.{Line}
use Rattle.proof_log.specs.declared.line.Line.TheVariants as line
use Rattle.proof_log.specs.Derivations.{line_at}
use Rattle.proof_trim.specs.Needed.{IsFirstForward, LineNames, LooksBack, NamesEarlier, NoneForward}
use Rattle.proof_trim.specs.Trimmed.{hint_renumbered, renumbered}

pub line-there : (lines : List Line) (i : ℕ) (l : Line) → get_or lines i l ≡ l → i < length lines → line_at lines (i + 1) ≡ Some l
line-there lines i l is within = rw add-one (slice_get-get_or lines i l within ∙ ap Some is)

-- a line that stands is one of the lines
pub stands-within : (lines : List Line) (m : ℕ) (l : Line) → line_at lines m ≡ Some l → (1 ≤ m) × (m ≤ length lines)
stands-within lines zero l stands = let never : ⊥ = cc in absurd never
stands-within lines (suc m) l stands = let within = slice_get_within lines m l stands in (omega arith, omega (arith, within))

-- no line comes first where there is none
pub none-first : (lines : List Line) (n : ℕ) → NoneForward lines → IsFirstForward lines n → ⊥
none-first lines n none first = first.forward (none n first.line (stands-within lines n first.line first.stands).1 first.stands)

-- a line that looks back names earlier ones
pub names-earlier : (number : ℕ) (l : Line) (n : ℕ) → LooksBack number l → LineNames l n → n < number
names-earlier number (line.Cycle steps) n looks names = absurd names
names-earlier number (line.Learn lits hints) n looks names = (All-contains (NamesEarlier number) hints (hint.Line n) looks names).1

-- ---- numbers that agree on earlier lines

module _ (f g : ℕ → ℕ) (number : ℕ) (agree : (n : ℕ) → 1 ≤ n → n < number → f n ≡ g n) where
  hint-agrees : (h : Hint) → NamesEarlier number h → hint_renumbered f h ≡ hint_renumbered g h
  hint-agrees (hint.Line n) is = ap hint.Line (agree n is.0 is.1)
  hint-agrees (hint.Rule r) is = refl

  hints-agree : (hs : List Hint) → All (NamesEarlier number) hs → map (hint_renumbered f) hs ≡ map (hint_renumbered g) hs
  hints-agree [] each = refl
  hints-agree (h ∷ hs) each = ap₂ (λ x xs. x ∷ xs) (hint-agrees h (each 0 h (omega arith))) (hints-agree hs (λ k d within. each (suc k) d (omega arith)))

  pub line-agrees : (l : Line) → LooksBack number l → renumbered f l ≡ renumbered g l
  line-agrees (line.Cycle steps) is = refl
  line-agrees (line.Learn lits hints) is = ap (line.Learn lits) (hints-agree hints is)
