use Rattle.std.proofs.Common.{◌≡◌, ◌∙◌, arith}
use Rattle.std.specs.Prelude.{slice_index}
use Rattle.std.proofs.lemmas.List.{get_or_read}
use Rattle.happened_before.proofs.ProgressLemmas.{progress-set, ready-have}
use Rattle.happened_before.proofs.progress.Progress.finish.Goals as goal

pub clock_after-requires : goal.clock_after-requires
clock_after-requires c =
    let p = c.args.self.now in
    rw c.deref.ensures.value (ready-have c.args.width c.args.hosts.now c.args.table.now p.finished.items p.clocks.items c.requires.progress c.args.e c.requires.ready c.requires.few)

pub returns-clause-progress : goal.returns-clause-progress
returns-clause-progress c =
    let p = c.args.self.now in
    let host : c.get-host.result ≡ slice_index c.args.hosts.now c.args.e =
    c.get-host.ensures.number ∙ get_or_read c.args.hosts.now c.args.e c.index-hosts-e.result (omega (arith, c.requires.ready.within, c.requires.count)) c.index-hosts-e.is 0 in
    let follows = rw (host, c.deref.ensures.value) at c.in_ok-clock.ensures in
    progress-set c.args.width c.args.hosts.now c.args.table.now p.finished.items p.clocks.items c.requires.progress c.args.e c.requires.ready c.in_ok-clock.clock follows
