use Rattle.std.proofs.Common.{◌≡◌, ◌∙◌, ◌+◌, ◌-◌, sym, ap, subst, length, rules, arith, Some}
use Rattle.proof_log.specs.Derivations.{line_at}
use Rattle.proof_trim.specs.Needed.{LooksBack}
use Rattle.proof_trim.specs.Trimmed.{IsMarked}
use Rattle.proof_trim.proofs.Looks.{line-there}
use Rattle.proof_trim.proofs.Marking.{NeededAfter, needed-all, needed-less, needed-more, needed-start, written-back}
use Rattle.proof_trim.proofs.Marks.{marked-there, not-marked}
use Rattle.proof_trim.proofs.needed.needed.Goals as goal

pub loop-i-init : goal.loop-i-init
loop-i-init c = needed-start c.args.lines.now c.in_ok-marks.marks.items c.requires.some (search rules)

pub mark_from-requires-clause-earlier : goal.mark_from-requires-clause-earlier
mark_from-requires-clause-earlier c =
    c.requires.back (c.loop-i.i - 1 + 1) c.index-lines-i.result (omega arith) (line-there c.args.lines.now (c.loop-i.i - 1) c.index-lines-i.result (sym c.index-lines-i.is) (omega arith))

pub loop-i-preserved-then-index : goal.loop-i-preserved-then-index
loop-i-preserved-then-index c =
    let lines = c.args.lines.now in
    let i = c.loop-i.i in
    let l = c.index-lines-i.result in
    let old = c.deref_mut.result.now in
    let so_far = subst (NeededAfter lines i) (sym c.deref_mut.ensures.value) c.loop-i.invariant in
    let here : i - 1 + 1 ≡ i = omega arith in
    let there = line-there lines (i - 1) l (sym c.index-lines-i.is) (omega arith) in
    let looks = c.requires.back (i - 1 + 1) l (omega arith) there in
    let marked = marked-there c.loop-i.marks.items i _ (omega arith) (omega (arith, c.loop-i.invariant.count)) (sym c.index.ensures ∙ c.if-index.true) in
    let marked_old = subst (λ ms. IsMarked ms i) (sym c.deref_mut.ensures.value) marked in
    let more = needed-more lines i old so_far c.mark_from.new.marks l (subst (λ n. line_at lines n ≡ Some l) here there) (subst (λ n. LooksBack n l) here looks) marked_old
    c.mark_from.ensures.named c.mark_from.ensures.kept c.mark_from.ensures.only c.mark_from.ensures.count in
    let full : c.loop-i.marks.len ≡ length c.loop-i.marks.items = search rules in
    subst (NeededAfter lines (i - 1)) (sym (written-back c.mark_from.new.marks c.loop-i.marks.items c.loop-i.marks.len (c.mark_from.ensures.count ∙ ap length c.deref_mut.ensures.value) full)) more

pub loop-i-preserved : goal.loop-i-preserved
loop-i-preserved c = needed-less c.args.lines.now c.loop-i.i c.loop-i.marks.items c.loop-i.invariant (not-marked c.loop-i.marks.items c.loop-i.i _ (sym c.index.ensures ∙ c.if-index.false))

pub returns : goal.returns
returns c =
    let none_left : c.loop-i.i ≡ 0 = omega arith in
    needed-all c.args.lines.now c.loop-i.marks.items (subst (λ i. NeededAfter c.args.lines.now i c.loop-i.marks.items) none_left c.loop-i.invariant)
