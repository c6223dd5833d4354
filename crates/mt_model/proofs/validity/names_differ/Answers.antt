use Rattle.std.proofs.Common.{◌≡◌, rules}
use Rattle.std.proofs.lemmas.List.{take_rest}
use Rattle.mt_model.specs.declared.log.Host.{Host}
use Rattle.mt_model.proofs.Pairs.{pair_found, pairs_more}
use Rattle.mt_model.proofs.validity.names_differ.Goals as goal

pub returns-then-is_named : goal.returns-then-is_named
returns-then-is_named c =
    let found = rw (take_rest, c.bytes.ensures.same) at (c.is_named.ensures.0 (search (rules, c.if-is_named.true))) in
    (λ e. absurd (cc), λ all. absurd (pair_found (λ (h g : Host). g.name ≡ h.name) c.args.hosts.now c.loop-i.i c.index-hosts-i.result c.loop-i-test.true c.index-hosts-i.is found all))

pub loop-i-preserved : goal.loop-i-preserved
loop-i-preserved c = pairs_more (λ (h g : Host). g.name ≡ h.name) c.args.hosts.now c.loop-i.i c.index-hosts-i.result c.loop-i-test.true c.index-hosts-i.is c.loop-i.invariant (λ any. let yes = c.is_named.ensures.1 (rw (take_rest, c.bytes.ensures.same) any) in search (rules, yes, c.if-is_named.false))
