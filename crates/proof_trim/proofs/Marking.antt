-- The lines that hints name are marked, one hint after another, and one line after another from the last one back.
use Rattle.std.proofs.Common.{◌≡◌, ◌∙◌, ap, sym, subst, refl, inl, inr, ℕ, suc, ◌-◌, ◌<◌, ◌≤◌, Bool, true, false, List, ◌++◌, length, get_or, set, take, drop, Some, arith}
use Rattle.std.specs.Prelude.{◌⊎◌, Contains, nat_lt, replicate}
use Rattle.std.proofs.lemmas.Bool.Decides.{nat_tests}
use Rattle.std.proofs.Math.Seq.{take-append_seam}
use Rattle.std.proofs.lemmas.List.{length-replicate, length-set}
use Rattle.proof_log.specs.declared.line.Hint.{Hint}
use Rattle.proof_log.specs.declared.line.Hint.TheVariants as hint
use Rattle.proof_log.specs.declared.line.Line.{Line}
use Rattle.proof_log.specs.Derivations.{line_at}
use Rattle.proof_trim.specs.Needed.{IsNeeded, Last, LineNames, LooksBack, Named, Names}
use Rattle.proof_trim.specs.Trimmed.{AreNeeded, IsMarked}
use Rattle.proof_trim.proofs.Looks.{names-earlier, stands-within}
use Rattle.proof_trim.proofs.Marks.{none-marked, set-only, set-there}

-- the lines that the first hints name are marked, beside those that were
pub record MarkedTo (old : List Bool) (hints : List Hint) (j : ℕ) (marks : List Bool) : Type 0 where
  pub named : (k n : ℕ) → k < j → get_or hints k (hint.Line n) ≡ hint.Line n → IsMarked marks n
  pub kept : (n : ℕ) → IsMarked old n → IsMarked marks n
  pub only : (n : ℕ) → IsMarked marks n → IsMarked old n ⊎ Contains hints (hint.Line n)
  pub count : length marks ≡ length old

-- the same of the lines of these numbers
pub record NumbersMarkedTo (old : List Bool) (numbers : List ℕ) (j : ℕ) (marks : List Bool) : Type 0 where
  pub named : (k n : ℕ) → k < j → get_or numbers k n ≡ n → IsMarked marks n
  pub kept : (n : ℕ) → IsMarked old n → IsMarked marks n
  pub only : (n : ℕ) → IsMarked marks n → IsMarked old n ⊎ Contains numbers n
  pub count : length marks ≡ length old

-- the lines after the first ones have been looked at: what is marked is needed, and what a marked one of these names is marked
pub record NeededAfter (lines : List Line) (i : ℕ) (marks : List Bool) : Type 0 where
  pub count : length marks ≡ length lines
  pub sound : (n : ℕ) → IsMarked marks n → IsNeeded lines n
  pub last : IsMarked marks (length lines)
  pub closed : (m n : ℕ) → i < m → IsMarked marks m → Names lines m n → IsMarked marks n

-- a slice that was written is the list again
pub written-back : {X : Type 0} (new old : List X) (len : ℕ) → length new ≡ length old → len ≡ length old → take len (new ++ drop (length new) old) ≡ new
written-back new old len same full = ap (λ n. take n (new ++ drop (length new) old)) (full ∙ sym same) ∙ take-append_seam new (drop (length new) old)

module _ (lines : List Line) where
  pub needed-start : (marks : List Bool) → 1 ≤ length lines → marks ≡ replicate (length lines) false → NeededAfter lines (length lines) (set marks (length lines - 1) true)
  needed-start marks some none =
      let back : suc (length lines - 1) ≡ length lines = omega (arith, some) in
      let long : length marks ≡ length lines = rw none (length-replicate (length lines) false) in
      record {
        count = length-set marks (length lines - 1) true ∙ long;
        sound = λ n is. elim (set-only marks (length lines - 1) n is) [
          | inl was ↦ absurd (none-marked (length lines) n (subst (λ ms. IsMarked ms n) none was))
          | inr new ↦ subst (IsNeeded lines) (sym (new ∙ back)) Last
        ];
        last = subst (IsMarked (set marks (length lines - 1) true)) back (set-there marks (length lines - 1) (omega (arith, some, long)));
        closed = λ m n after is names. (let within = stands-within lines m names.line names.stands in let never : ⊥ = omega (arith, after, within.1) in absurd never);
      }

  module _ (i : ℕ) (marks : List Bool) (so_far : NeededAfter lines i marks) where
    -- a later line, or this one
    this-or-later : (m : ℕ) → i - 1 < m → (m ≡ i) ⊎ (i < m)
    this-or-later m after = go (nat_lt i m) refl
      where
        go : (b : Bool) → nat_lt i m ≡ b → (m ≡ i) ⊎ (i < m)
        go true e = inr (grind (arith, nat_tests))
        go false e = inl (grind (arith, nat_tests))

    -- the line is needed, and the lines that it names are marked now
    pub needed-more : (new : List Bool) (l : Line) → line_at lines i ≡ Some l → LooksBack i l → IsMarked marks i → ((n : ℕ) → LineNames l n → IsMarked new n)
        → ((n : ℕ) → IsMarked marks n → IsMarked new n)
        → ((n : ℕ) → IsMarked new n → IsMarked marks n ⊎ LineNames l n) → length new ≡ length marks → NeededAfter lines (i - 1) new
    needed-more new l stands back marked_i named kept only same = record {
      count = same ∙ so_far.count;
      sound = λ n is. elim (only n is) [
        | inl was ↦ so_far.sound n was
        | inr names ↦ Named i n (so_far.sound i marked_i) (record { line = l; stands = stands; named = names })
      ];
      last = kept (length lines) so_far.last;
      closed = λ m n after is names. elim (this-or-later m after) [
        | inl this ↦ (let there = names.stands in let one : names.line ≡ l = (let there_too = rw this at there in cc) in named n (subst (λ k. LineNames k n) one names.named))
        | inr later ↦ elim (only m is) [
          | inl was ↦ kept n (so_far.closed m n later was names)
          | inr earlier ↦ (let less = names-earlier i l m back earlier in let never : ⊥ = omega (arith, later, less) in absurd never)
        ]
      ];
    }

    -- it is not
    pub needed-less : (IsMarked marks i → ⊥) → NeededAfter lines (i - 1) marks
    needed-less unmarked = record {
      count = so_far.count;
      sound = so_far.sound;
      last = so_far.last;
      closed = λ m n after is names. elim (this-or-later m after) [
        | inl this ↦ absurd (unmarked (subst (IsMarked marks) this is))
        | inr later ↦ so_far.closed m n later is names
      ];
    }

  -- all lines have been looked at
  module _ (marks : List Bool) (all : NeededAfter lines 0 marks) where
    complete : (n : ℕ) → IsNeeded lines n → IsMarked marks n
    complete _ Last = all.last
    complete _ (Named m n needed names) = all.closed m n (stands-within lines m names.line names.stands).0 (complete m needed) names

    pub needed-all : AreNeeded lines marks
    needed-all = record { count = all.count; needed = λ n some. (all.sound n, complete n) }
