use Rattle.std.proofs.Common.{◌∙◌, sym, ap, false, [], ◌∷◌, ◌++◌, append_assoc}
use Rattle.std.proofs.lemmas.List.{append-nil}
use Rattle.proof_log.specs.Reading.{words_after}
use Rattle.proof_trim.specs.Naming.{named_in}
use Rattle.proof_trim.proofs.named.add_named.Goals as goal

pub loop-next-preserved : goal.loop-next-preserved
loop-next-preserved c =
    let old = c.loop-next.numbers.items in
    let line = c.in-Some.next.line in
    let left = named_in false (words_after c.in-Some.next.after.now) in
    c.loop-next.invariant ∙ ap (λ t. old ++ t) c.in-Some.ensures.named ∙ sym (append_assoc old (line ∷ []) left) ∙ ap (λ t. t ++ left) (sym c.in_ok-push.ensures.items)

pub loop-next-smaller : goal.loop-next-smaller
loop-next-smaller c = c.in-Some.ensures.shorter

pub returns : goal.returns
returns c = sym (c.loop-next.invariant ∙ ap (λ t. c.loop-next.numbers.items ++ t) c.in_default.ensures.named ∙ append-nil c.loop-next.numbers.items)
