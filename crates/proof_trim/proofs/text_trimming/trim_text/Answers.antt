use Rattle.std.proofs.Common.{sym, subst}
use Rattle.proof_trim.specs.Naming.{AreNamed}
use Rattle.proof_trim.proofs.TrimmedLines.{ends-few}
use Rattle.proof_trim.proofs.text_trimming.trim_text.Goals as goal

pub trim_named-requires-clause-few : goal.trim_named-requires-clause-few
trim_named-requires-clause-few c =
    let (lines, is) = c.requires.lines in
    let are =
    subst (λ es. AreNamed lines c.deref.result.now es) (sym c.deref-2.ensures.value)
    (subst (λ ns. AreNamed lines ns c.in_ok-named.named.ends.items) (sym c.deref.ensures.value) (c.in_ok-named.ensures.named lines is)) in
    ends-few c.args.text.now lines c.deref.result.now c.deref-2.result.now c.requires.few is are

pub returns-clause-hint : goal.returns-clause-hint
returns-clause-hint c = λ n told lines is.
    let are =
    subst (λ es. AreNamed lines c.deref.result.now es) (sym c.deref-2.ensures.value)
    (subst (λ ns. AreNamed lines ns c.in_ok-named.named.ends.items) (sym c.deref.ensures.value) (c.in_ok-named.ensures.named lines is)) in
    c.trim_named.ensures.hint n told lines are
