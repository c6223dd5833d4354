use Rattle.std.proofs.Common.{sym, subst}
use Rattle.proof_trim.specs.Trimmed.{AreNeeded}
use Rattle.proof_trim.proofs.TrimmedLines.{trimmed-text}
use Rattle.proof_trim.proofs.WholeTexts.{whole-trimmed}
use Rattle.proof_trim.proofs.text_trimming.left_text.Goals as goal

pub returns-then-are_all_marked : goal.returns-then-are_all_marked
returns-then-are_all_marked c = record {
  trimmed = λ lines is are forward.
      let marks = c.deref.result.now in
      let needed = subst (AreNeeded lines) (sym c.deref.ensures.value) (c.in_ok-marks.ensures.needed lines are forward) in
      whole-trimmed marks lines (c.are_all_marked.ensures.0 c.if-are_all_marked.true) needed forward c.args.text.now is _ (c.in_ok-to_vec.ensures.items_if_clones_equal (λ x y is. is)) _ are.count;
}

pub returns : goal.returns
returns c = record {
  trimmed = λ lines is are forward.
      let needed = subst (AreNeeded lines) (sym c.deref-2.ensures.value) (c.in_ok-marks.ensures.needed lines are forward) in
      trimmed-text c.args.text.now lines is c.deref-2.result.now needed _ (c.in_ok-text.ensures.left lines is needed.count forward) _ (c.in_ok-text.ensures.full lines is needed.count forward);
}
