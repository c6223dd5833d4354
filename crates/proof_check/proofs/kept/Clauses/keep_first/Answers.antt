use Rattle.std.proofs.Common.{◌≡◌, ◌∙◌, ◌-◌, ap, arith, drop, get_or, length, sym}
use Rattle.std.proofs.lemmas.List.{length-drop}
use Rattle.axiom_rules.specs.Parts.{each_once}
use Rattle.hint_refutation.specs.Pieces.{last_end}
use Rattle.proof_check.specs.Keeping.{Kept}
use Rattle.proof_log.specs.Marks.{marked}
use Rattle.hint_refutation.proofs.Pieces.{last_within}
use Rattle.proof_check.proofs.KeptPieces.{both, kept_else, last_read, rise_else}
use Rattle.proof_check.proofs.kept.Clauses.keep_first.Goals as goal

pub keep_marked-requires : goal.keep_marked-requires
keep_marked-requires c =
    let lits = c.self.inside.literals.items in
    let ends = c.self.inside.ends.items in
    let start = last_read 0 ends c.deref.result.now c.start_of-start.result c.deref.ensures.value (λ none. c.start_of-start.ensures.first (omega (arith, c.len.ensures, none)))
    (λ some. c.start_of-start.ensures.later (omega (arith, c.len.ensures, some)) ∙ ap (λ k. get_or c.deref.result.now (k - 1) 0) (omega (arith, c.len.ensures))) in
    let pending = ap (λ (k : Kept). length k.pending) c.self.view_is in
    omega (
      arith,
      start,
      ap length c.as_slice.ensures.value,
      c.in_ok-first.ensures.0,
      ap length c.pending.ensures.literals,
      pending,
      length-drop
          (last_end 0 ends) lits,
      last_within 0 ends (length lits) c.self.invariant,
    )

pub invariant_of-self : goal.invariant_of-self
invariant_of-self c =
    let lits = c.self.inside.literals.items in
    let ends = c.self.inside.ends.items in
    let start = last_read 0 ends c.deref.result.now c.start_of-start.result c.deref.ensures.value (λ none. c.start_of-start.ensures.first (omega (arith, c.len.ensures, none)))
    (λ some. c.start_of-start.ensures.later (omega (arith, c.len.ensures, some)) ∙ ap (λ k. get_or c.deref.result.now (k - 1) 0) (omega (arith, c.len.ensures))) in
    rw (c.keep_marked.ensures, start) (rise_else lits (marked c.as_slice.result.now (drop (last_end 0 ends) lits)) ends c.self.invariant)

pub returns : goal.returns
returns c =
    let lits = c.self.inside.literals.items in
    let ends = c.self.inside.ends.items in
    let start = last_read 0 ends c.deref.result.now c.start_of-start.result c.deref.ensures.value (λ none. c.start_of-start.ensures.first (omega (arith, c.len.ensures, none)))
    (λ some. c.start_of-start.ensures.later (omega (arith, c.len.ensures, some)) ∙ ap (λ k. get_or c.deref.result.now (k - 1) 0) (omega (arith, c.len.ensures))) in
    let pending = ap (λ (k : Kept). k.pending) c.self.view_is in
    let first : marked c.as_slice.result.now (drop (last_end 0 ends) lits) ≡ each_once c.args.self.now.pending =
    ap (λ bs. marked bs (drop (last_end 0 ends) lits)) c.as_slice.ensures.value ∙ ap (marked c.in_ok-first.first.items) (pending ∙ sym c.pending.ensures.literals) ∙ c.in_ok-first.ensures.1
    ∙ ap each_once c.pending.ensures.literals in
    record {
      ok =
          rw (c.keep_marked.ensures, start)
          (kept_else lits (marked c.as_slice.result.now (drop (last_end 0 ends) lits)) ends c.self.invariant ∙ both _ _ _ _ (ap (λ (k : Kept). k.closed) c.self.view_is) first);
    }
