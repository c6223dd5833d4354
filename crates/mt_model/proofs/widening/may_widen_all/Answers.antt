use Rattle.std.proofs.Common.{rules}
use Rattle.std.proofs.lemmas.Int.{to_z-of_z}
use Rattle.mt_model.proofs.widening.may_widen_all.Goals as goal

pub returns-then-may_widen_hosts : goal.returns-then-may_widen_hosts
returns-then-may_widen_hosts c =
    let declared = simp (to_z-of_z, c.ranges.s) at c.may_widen_hosts.ensures in
    let later = simp (to_z-of_z, c.ranges.s) at c.may_widen_resyncs.ensures in
    (λ t. (declared.0 (search (rules, c.if-may_widen_hosts.true)), later.0 t), λ both. later.1 both.1)

pub returns-else-may_widen_hosts : goal.returns-else-may_widen_hosts
returns-else-may_widen_hosts c =
    let declared = simp (to_z-of_z, c.ranges.s) at c.may_widen_hosts.ensures in
    (λ t. absurd (let no = c.if-may_widen_hosts.false in search (rules, no, t)), λ both. declared.1 both.0)
