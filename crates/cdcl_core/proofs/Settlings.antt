-- Settled orders, from one to the next.
use Rattle.std.proofs.Common.{◌≡◌, ◌∙◌, sym, refl, set, subst, inl, inr, ℕ, suc, ◌+◌, ◌<◌, List, [], ◌∷◌, ◌++◌, length, arith}
use Rattle.std.proofs.lemmas.Bool.{cases_eq}
use Rattle.std.proofs.lemmas.List.{get_or-set_other, get_or-set_same, get_or_default}
use Rattle.std.proofs.lemmas.List.Elements.{All-append, All-cons, All-nil}
use Rattle.std.specs.Prelude.{All}
use Rattle.mt_model.specs.declared.bound.Bound.{Bound}
use Rattle.neg_cycle.specs.declared.system.Edge.{Edge}
use Rattle.axiom_rules.specs.declared.literal.Atom.{Atom}
use Rattle.cdcl_core.specs.declared.derived.Derived.{Derived}
use Rattle.mt_model.specs.declared.step.Step.{Step}
use Rattle.proof_log.specs.declared.line.Hint.{Hint}
use Rattle.proof_log.specs.declared.line.Hint.TheVariants as hint
use Rattle.proof_log.specs.declared.line.Line.{Line}
use Rattle.proof_log.specs.declared.line.Line.TheVariants as line
use Rattle.cdcl_core.specs.Founds.{lessons}
use Rattle.cdcl_core.specs.Recording.{IsSettled, cite_at}
use Rattle.cdcl_core.specs.Settling.{HasSettled}
use Rattle.cdcl_core.proofs.LineGrowth.{lessons_more}

-- a line's hint is settled
pub line_settled : (n : ℕ) → IsSettled (hint.Line (n + 1))
line_settled n = let next : n + 1 ≡ suc n = omega arith in rw next refl

pub cite_set : (cites : List Hint) (at n : ℕ) → at < length cites → IsSettled (cite_at (set cites at (hint.Line (n + 1))) at)
cite_set cites at n within = subst IsSettled (sym (get_or-set_same cites at (hint.Line (n + 1)) (hint.Line 0) within)) (line_settled n)

pub kept_set : (cites : List Hint) (at n c : ℕ) → at < length cites → IsSettled (cite_at cites c) → IsSettled (cite_at (set cites at (hint.Line (n + 1))) c)
kept_set cites at n c within settled = elim (cases_eq c at) [
  | inl is ↦ rw is (cite_set cites at n within)
  | inr other ↦ subst IsSettled (sym (get_or-set_other cites at c (hint.Line (n + 1)) (hint.Line 0) other)) settled
]

-- with one line more all hints are settled still
pub all_more : (cites : List Hint) (n : ℕ) → All IsSettled cites → All IsSettled (cites ++ hint.Line (n + 1) ∷ [])
all_more cites n all = All-append IsSettled cites (hint.Line (n + 1) ∷ []) all (All-cons IsSettled (hint.Line (n + 1)) [] (line_settled n) (All-nil IsSettled))

pub all_kept : (old new : List Hint) → length new ≡ length old → ((c : ℕ) → IsSettled (cite_at old c) → IsSettled (cite_at new c)) → All IsSettled old → All IsSettled new
all_kept old new count kept all = λ k d below.
    subst IsSettled (get_or_default new k (hint.Line 0) d below) (kept k (all k (hint.Line 0) (omega (arith, below, count))))

-- a Cycle line is no lesson
pub no_lesson : (lines : List Line) (steps : List Step) → lessons (lines ++ line.Cycle steps ∷ []) ≡ lessons lines
no_lesson lines steps = let more = lessons_more lines (line.Cycle steps) in omega (arith, more)

module _ (atoms : List Atom) (bounds : List Bound) (edges : List Edge) where
  pub settled_more : (old mid new : Derived) → HasSettled atoms bounds edges old mid → HasSettled atoms bounds edges mid new → HasSettled atoms bounds edges old new
  settled_more old mid new first second = record {
    clauses = second.clauses ∙ first.clauses;
    count = second.count ∙ first.count;
    kept = λ c settled. second.kept c (first.kept c settled);
    few = elim second.few [
      | inl same ↦ elim first.few [ inl before ↦ inl (same ∙ before) | inr few ↦ inr (rw same few) ]
      | inr few ↦ inr few
    ];
    lesson_count = second.lesson_count ∙ first.lesson_count;
    derives = λ log f v are record_. second.derives log f v are (first.derives log f v are record_);
    spending = λ log f v rules table known spending. second.spending log f v rules table known (first.spending log f v rules table known spending);
  }
