-- Lines that look back, and lines that they name, by the numbers of their hints.
use Rattle.std.proofs.Common.{◌≡◌, sym, subst, inl, inr, ℕ, suc, ◌+◌, ◌-◌, ◌⊎◌, Bool, List, [], ◌∷◌, length, Some, arith}
use Rattle.std.specs.Prelude.{All, Contains}
use Rattle.std.specs.List.{filter_map}
use Rattle.std.proofs.lemmas.List.Elements.{All-cons, All-head, All-nil, All-tail}
use Rattle.hint_refutation.proofs.Lists.{contains_cases, contains_first, contains_later, contains_none}
use Rattle.proof_log.specs.declared.line.Hint.{Hint}
use Rattle.proof_log.specs.declared.line.Hint.TheVariants as hint
use Rattle.proof_log.specs.declared.line.Line.{Line}
use Rattle.proof_log.specs.declared.line.Line.TheVariants as line
use Rattle.proof_log.specs.Derivations.{line_at}
use Rattle.proof_trim.specs.Naming.{IsEarlier, named_by, named_of}
use Rattle.proof_trim.specs.Needed.{LineNames, LooksBack, NamesEarlier, NoneForward}
use Rattle.proof_trim.specs.Trimmed.{IsMarked}
use Rattle.proof_trim.proofs.Looks.{stands-within}
use Rattle.proof_trim.proofs.Marking.{NeededAfter, needed-more}

-- hints that name earlier lines
hints-earlier : (number : ℕ) (hs : List Hint) → All (NamesEarlier number) hs → All (IsEarlier number) (filter_map named_by hs)
hints-earlier number [] all = All-nil (IsEarlier number)
hints-earlier number (hint.Line n ∷ hs) all =
    All-cons (IsEarlier number) n (filter_map named_by hs) (All-head (NamesEarlier number) (hint.Line n) hs all) (hints-earlier number hs (All-tail (NamesEarlier number) (hint.Line n) hs all))
hints-earlier number (hint.Rule r ∷ hs) all = hints-earlier number hs (All-tail (NamesEarlier number) (hint.Rule r) hs all)

earlier-hints : (number : ℕ) (hs : List Hint) → All (IsEarlier number) (filter_map named_by hs) → All (NamesEarlier number) hs
earlier-hints number [] all = All-nil (NamesEarlier number)
earlier-hints number (hint.Line n ∷ hs) all =
    All-cons (NamesEarlier number) (hint.Line n) hs (All-head (IsEarlier number) n (filter_map named_by hs) all) (earlier-hints number hs (All-tail (IsEarlier number) n (filter_map named_by hs) all))
earlier-hints number (hint.Rule r ∷ hs) all = All-cons (NamesEarlier number) (hint.Rule r) hs tt (earlier-hints number hs all)

pub back-earlier : (number : ℕ) (l : Line) → LooksBack number l → All (IsEarlier number) (named_of l)
back-earlier number (line.Cycle steps) back = All-nil (IsEarlier number)
back-earlier number (line.Learn lits hints) back = hints-earlier number hints back

pub earlier-back : (number : ℕ) (l : Line) → All (IsEarlier number) (named_of l) → LooksBack number l
earlier-back number (line.Cycle steps) all = tt
earlier-back number (line.Learn lits hints) all = earlier-hints number hints all

-- hints that name a line
hint-same : (m n : ℕ) → hint.Line m ≡ hint.Line n → m ≡ n
hint-same m n same = cc

other-hint : (r : _) (n : ℕ) → hint.Rule r ≡ hint.Line n → ⊥
other-hint r n same = cc

hints-name : (hs : List Hint) (n : ℕ) → Contains hs (hint.Line n) → Contains (filter_map named_by hs) n
hints-name [] n has = absurd (contains_none (hint.Line n) has)
hints-name (hint.Line m ∷ hs) n has = elim (contains_cases (hint.Line m) (hint.Line n) hs has) [
  | inl here ↦ subst (Contains (m ∷ filter_map named_by hs)) (hint-same m n here) (contains_first m (filter_map named_by hs))
  | inr later ↦ contains_later m n (filter_map named_by hs) (hints-name hs n later)
]
hints-name (hint.Rule r ∷ hs) n has = elim (contains_cases (hint.Rule r) (hint.Line n) hs has) [
  | inl here ↦ absurd (other-hint r n here)
  | inr later ↦ hints-name hs n later
]

name-hints : (hs : List Hint) (n : ℕ) → Contains (filter_map named_by hs) n → Contains hs (hint.Line n)
name-hints [] n has = absurd (contains_none n has)
name-hints (hint.Line m ∷ hs) n has = elim (contains_cases m n (filter_map named_by hs) has) [
  | inl here ↦ subst (λ k. Contains (hint.Line m ∷ hs) (hint.Line k)) here (contains_first (hint.Line m) hs)
  | inr later ↦ contains_later (hint.Line m) (hint.Line n) hs (name-hints hs n later)
]
name-hints (hint.Rule r ∷ hs) n has = contains_later (hint.Rule r) (hint.Line n) hs (name-hints hs n has)

names-number : (l : Line) (n : ℕ) → LineNames l n → Contains (named_of l) n
names-number (line.Cycle steps) n names = absurd names
names-number (line.Learn lits hints) n names = hints-name hints n names

number-names : (l : Line) (n : ℕ) → Contains (named_of l) n → LineNames l n
number-names (line.Cycle steps) n has = absurd (contains_none n has)
number-names (line.Learn lits hints) n has = name-hints hints n has

-- no hint of a line names a line that does not come before it
pub looks-at : (lines : List Line) → NoneForward lines → (i : ℕ) (l : Line) → line_at lines (suc i) ≡ Some l → LooksBack (i + 1) l
looks-at lines forward i l stands =
    let within = stands-within lines (suc i) l stands in
    let same : suc i ≡ i + 1 = omega arith in
    subst (λ n. LooksBack n l) same (forward (suc i) l within.1 stands)

-- the lines that a needed line names are marked, by their numbers
pub needed-named : (lines : List Line) → NoneForward lines → (i j : ℕ) → suc j ≡ i → (l : Line) → line_at lines (suc j) ≡ Some l → (old new : List Bool)
    → NeededAfter lines i old → IsMarked old i → (numbers : List ℕ) → numbers ≡ named_of l
    → ((n : ℕ) → Contains numbers n → IsMarked new n) → ((n : ℕ) → IsMarked old n → IsMarked new n)
    → ((n : ℕ) → IsMarked new n → IsMarked old n ⊎ Contains numbers n) → length new ≡ length old → NeededAfter lines (i - 1) new
needed-named lines forward i j this l stands old new so_far marked numbers are named kept only same =
    let next : j + 1 ≡ i = omega (arith, this) in
    needed-more lines i old so_far new l (subst (λ n. line_at lines n ≡ Some l) this stands) (subst (λ n. LooksBack n l) next (looks-at lines forward j l stands)) marked
    (λ n names. named n (subst (λ ns. Contains ns n) (sym are) (names-number l n names))) kept
    (λ n is. elim (only n is) [ inl was ↦ inl was | inr new_one ↦ inr (number-names l n (subst (λ ns. Contains ns n) are new_one)) ]) same
