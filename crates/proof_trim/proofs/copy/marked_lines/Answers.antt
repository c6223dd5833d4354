use Rattle.std.proofs.Common.{◌∙◌, ◌+◌, ◌∷◌, [], ◌++◌, sym, ap, subst, length, arith, Some}
use Rattle.std.proofs.lemmas.Option.{slice_get-get_or}
use Rattle.proof_trim.specs.Needed.{LooksBack}
use Rattle.proof_trim.proofs.Copying.{CopiedTo, copied-few, copied-more}
use Rattle.proof_trim.proofs.Looks.{line-there}
use Rattle.proof_trim.proofs.copy.marked_lines.Goals as goal

pub overflow_cast-len : goal.overflow_cast-len
overflow_cast-len c =
    let lines = c.args.lines.now in
    let marks = c.args.marks.now in
    let i = c.loop-i.i in
    let l = c.index-lines-i.result in
    let there = line-there lines i l (sym c.index-lines-i.is) c.loop-i-test.true in
    let looks = c.requires.back (i + 1) l (omega arith) there in
    let looks_here = subst (λ n. LooksBack (n + 1) l) (sym c.loop-i.invariant.count) looks in
    let mark = slice_get-get_or marks i _ (omega (arith, c.requires.count)) in
    let stands = slice_get-get_or lines i l c.loop-i-test.true ∙ ap Some (sym c.index-lines-i.is) in
    let copied = rw c.deref.ensures.value at c.in_ok-copy_marked.ensures in
    let more = copied-more marks lines i c.loop-i.places.items c.loop-i.left c.loop-i.invariant _ l c.copy_marked.new.left mark stands looks_here copied in
    let few = copied-few marks lines (i + 1) (c.loop-i.places.items ++ length c.copy_marked.new.left ∷ []) c.copy_marked.new.left more in
    omega (arith, few, c.len.ensures.count, c.requires.few)

pub loop-i-preserved : goal.loop-i-preserved
loop-i-preserved c =
    let lines = c.args.lines.now in
    let marks = c.args.marks.now in
    let i = c.loop-i.i in
    let l = c.index-lines-i.result in
    let there = line-there lines i l (sym c.index-lines-i.is) c.loop-i-test.true in
    let looks = c.requires.back (i + 1) l (omega arith) there in
    let looks_here = subst (λ n. LooksBack (n + 1) l) (sym c.loop-i.invariant.count) looks in
    let mark = slice_get-get_or marks i _ (omega (arith, c.requires.count)) in
    let stands = slice_get-get_or lines i l c.loop-i-test.true ∙ ap Some (sym c.index-lines-i.is) in
    let copied = rw c.deref.ensures.value at c.in_ok-copy_marked.ensures in
    let more = copied-more marks lines i c.loop-i.places.items c.loop-i.left c.loop-i.invariant _ l c.copy_marked.new.left mark stands looks_here copied in
    let places = c.in_ok-push.ensures.items ∙ ap (λ n. c.loop-i.places.items ++ n ∷ []) c.len.ensures.count in
    subst (λ ps. CopiedTo marks lines (i + 1) ps c.copy_marked.new.left) (sym places) more
