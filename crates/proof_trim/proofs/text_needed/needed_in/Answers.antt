use Rattle.std.proofs.Common.{◌≡◌, ◌∙◌, sym, ap, subst, suc, ◌+◌, ◌-◌, ◌<◌, false, true, length, set, arith, rules}
use Rattle.std.specs.Prelude.{All, replicate}
use Rattle.std.proofs.lemmas.List.{length-replicate, length-set}
use Rattle.proof_trim.specs.Naming.{IsEarlier}
use Rattle.proof_trim.specs.Trimmed.{IsMarked}
use Rattle.proof_trim.proofs.Marking.{NeededAfter, needed-all, needed-less, needed-start, written-back}
use Rattle.proof_trim.proofs.Marks.{marked-there, not-marked}
use Rattle.proof_trim.proofs.NamedHints.{back-earlier, looks-at, needed-named}
use Rattle.proof_trim.proofs.NamedLists.{line-here}
use Rattle.proof_trim.proofs.text_needed.needed_in.Goals as goal

pub loop-i-init : goal.loop-i-init
loop-i-init c =
    let marks = c.in_ok-marks.marks.items in
    let size = length c.args.ends.now in
    let none : marks ≡ replicate size false = search rules in (
      length-set marks (size - 1) true ∙ ap length none ∙ length-replicate size false,
      λ lines are forward. subst (λ k. NeededAfter lines k (set marks (k - 1) true)) (sym are.count)
          (needed-start lines marks (let some = c.requires.some in let count = are.count in omega (arith, some, count)) (none ∙ ap (λ k. replicate k false) are.count)),
    )

pub mark_numbers-requires-clause-earlier : goal.mark_numbers-requires-clause-earlier
mark_numbers-requires-clause-earlier c =
    let i = c.loop-i.i in
    let (lines, are, forward) = c.requires.named in
    let within : i - 1 < length c.args.ends.now = omega arith in
    let (l, stands) = line-here lines c.args.numbers.now c.args.ends.now are (i - 1) within in
    let same = c.numbers_at.ensures.named lines l are stands in
    subst (All (IsEarlier (i - 1 + 1))) (sym same) (back-earlier (i - 1 + 1) l (looks-at lines forward (i - 1) l stands))

pub loop-i-preserved-then-index : goal.loop-i-preserved-then-index
loop-i-preserved-then-index c =
    let i = c.loop-i.i in
    let items = c.loop-i.marks.items in
    let new = c.mark_numbers.new.marks in
    let full : c.loop-i.marks.len ≡ length items = search rules in
    let value = c.deref_mut.ensures.value in
    let size : length new ≡ length items = c.mark_numbers.ensures.count ∙ ap length value in
    let back = written-back new items c.loop-i.marks.len size full in
    let count = c.loop-i.invariant.0 in
    let within : i - 1 < length c.args.ends.now = omega arith in
    let marked = marked-there items i _ (omega arith) (omega (arith, count)) (sym c.index.ensures ∙ c.if-index.true) in (
      ap length back ∙ size ∙ count,
      λ lines are forward.
          let (l, stands) = line-here lines c.args.numbers.now c.args.ends.now are (i - 1) within in
          let same = c.numbers_at.ensures.named lines l are stands in
          let this : suc (i - 1) ≡ i = omega arith in
          subst (NeededAfter lines (i - 1)) (sym back)
          (needed-named lines forward i (i - 1) this l stands c.deref_mut.result.now new
          (subst (NeededAfter lines i) (sym value) (c.loop-i.invariant.1 lines are forward)) (subst (λ ms. IsMarked ms i) (sym value) marked)
          c.numbers_at.result.now same c.mark_numbers.ensures.named c.mark_numbers.ensures.kept c.mark_numbers.ensures.only c.mark_numbers.ensures.count),
    )

pub loop-i-preserved : goal.loop-i-preserved
loop-i-preserved c = (
  c.loop-i.invariant.0,
  λ lines are forward. needed-less lines c.loop-i.i c.loop-i.marks.items (c.loop-i.invariant.1 lines are forward)
      (not-marked c.loop-i.marks.items c.loop-i.i _ (sym c.index.ensures ∙ c.if-index.false)),
)

pub returns : goal.returns
returns c = record {
  needed = λ lines are forward.
      let none_left : c.loop-i.i ≡ 0 = omega arith in
      needed-all lines c.loop-i.marks.items (subst (λ k. NeededAfter lines k c.loop-i.marks.items) none_left (c.loop-i.invariant.1 lines are forward));
}
