use Rattle.std.proofs.Common.{◌∙◌, ◌-◌, ap, arith, drop, get_or, length}
use Rattle.std.proofs.lemmas.List.{length-drop, take_all}
use Rattle.hint_refutation.specs.Pieces.{last_end}
use Rattle.proof_check.specs.Keeping.{Kept}
use Rattle.hint_refutation.proofs.Pieces.{last_within}
use Rattle.proof_check.proofs.KeptPieces.{last_read}
use Rattle.proof_check.proofs.kept.Clauses.pending.Goals as goal

pub offset_bounds-deref-start : goal.offset_bounds-deref-start
offset_bounds-deref-start c =
    let lits = c.self.inside.literals.items in
    let ends = c.self.inside.ends.items in
    let start = last_read 0 ends c.deref.result.now c.start_of-start.result c.deref.ensures.value (λ none. c.start_of-start.ensures.first (omega (arith, c.len.ensures, none)))
    (λ some. c.start_of-start.ensures.later (omega (arith, c.len.ensures, some)) ∙ ap (λ k. get_or c.deref.result.now (k - 1) 0) (omega (arith, c.len.ensures))) in
    omega (arith, start, last_within 0 ends (length lits) c.self.invariant, c.deref-2.type_inv.1, ap length c.deref-2.ensures.value)

pub slice_bounds-result-count : goal.slice_bounds-result-count
slice_bounds-result-count c =
    let lits = c.self.inside.literals.items in
    let ends = c.self.inside.ends.items in
    let start = last_read 0 ends c.deref.result.now c.start_of-start.result c.deref.ensures.value (λ none. c.start_of-start.ensures.first (omega (arith, c.len.ensures, none)))
    (λ some. c.start_of-start.ensures.later (omega (arith, c.len.ensures, some)) ∙ ap (λ k. get_or c.deref.result.now (k - 1) 0) (omega (arith, c.len.ensures))) in
    omega (arith, start, last_within 0 ends (length lits) c.self.invariant, c.len-end.ensures)

pub slice_bounds-result-start : goal.slice_bounds-result-start
slice_bounds-result-start c =
    let lits = c.self.inside.literals.items in
    let ends = c.self.inside.ends.items in
    let start = last_read 0 ends c.deref.result.now c.start_of-start.result c.deref.ensures.value (λ none. c.start_of-start.ensures.first (omega (arith, c.len.ensures, none)))
    (λ some. c.start_of-start.ensures.later (omega (arith, c.len.ensures, some)) ∙ ap (λ k. get_or c.deref.result.now (k - 1) 0) (omega (arith, c.len.ensures))) in
    omega (arith, start, last_within 0 ends (length lits) c.self.invariant, c.len-end.ensures)

pub slice_bounds-result-end : goal.slice_bounds-result-end
slice_bounds-result-end c = omega (arith, c.len-end.ensures, ap length c.deref-2.ensures.value)

pub returns : goal.returns
returns c =
    let lits = c.self.inside.literals.items in
    let ends = c.self.inside.ends.items in
    let start = last_read 0 ends c.deref.result.now c.start_of-start.result c.deref.ensures.value (λ none. c.start_of-start.ensures.first (omega (arith, c.len.ensures, none)))
    (λ some. c.start_of-start.ensures.later (omega (arith, c.len.ensures, some)) ∙ ap (λ k. get_or c.deref.result.now (k - 1) 0) (omega (arith, c.len.ensures))) in
    record {
      literals = rw (c.deref-2.ensures.value, start) (
          take_all (c.len-end.result - last_end 0 ends) (drop (last_end 0 ends) lits) (omega (arith, c.len-end.ensures, length-drop (last_end 0 ends) lits))
          ∙ ap (λ (k : Kept). k.pending) c.self.view_is);
    }
