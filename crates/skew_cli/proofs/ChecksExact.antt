-- What `check` answers of a formula and a log that were read.
use Rattle.mtl_parse.specs.Laws.{TextsAreUnambiguous}
use Rattle.skew_cli.specs.CheckOutcome.{CheckOfLog, Checked}
use Rattle.skew_cli.specs.Laws.{ChecksAreExact, ChecksAreJudged}
use Rattle.skew_best.specs.SizeTests.{OnSize}
use Rattle.skew_commands.specs.Tests.{OnNodes}
use Rattle.skew_best.proofs.Passing.{pass-hosts, pass-nodes, pass-question, pass-size}
use Rattle.skew_best.proofs.Reaching.{reach-hosts, reach-nodes, reach-question, reach-size}
use Rattle.skew_cli.proofs.StatusValues.{exact-status}
use Rattle.skew_cli.proofs.Witnesses.{exact-witnesses}

pub checks-exact : TextsAreUnambiguous → ChecksAreExact
checks-exact texts files conflicts formula log text f l out s q h =
    let on_hosts = pass-question out s texts files formula log (CheckOfLog conflicts) text f l q.question h in
    let on_nodes = pass-hosts out s text f l (OnNodes f (OnSize f l (Checked conflicts f l))) q.judged.nodes.hosts on_hosts in
    let on_size = pass-nodes out s f (OnSize f l (Checked conflicts f l)) q.judged.nodes.few on_nodes in
    let checked = pass-size out s f l (Checked conflicts f l) q.judged.small on_size in
    record {
      checked = checked;
      witnesses = exact-witnesses l f checked.report checked.claims;
      status = exact-status l f conflicts checked.report s checked.right.says checked.claims checked.status;
    }

pub checks-judged : ChecksAreJudged
checks-judged files conflicts formula log out s h verdict =
    let q = reach-question out s verdict files formula log (CheckOfLog conflicts) h in
    let f = q.form in
    let l = q.logged in
    let hosts = reach-hosts out s verdict q.text f l (OnNodes f (OnSize f l (Checked conflicts f l))) q.next in
    let nodes = reach-nodes out s verdict f (OnSize f l (Checked conflicts f l)) hosts.1 in
    let small = reach-size out s verdict f l (Checked conflicts f l) nodes.1 in
    (q.text, f, l, record { question = q.question; judged = record { nodes = record { hosts = hosts.0; few = nodes.0 }; small = small.0 } })
