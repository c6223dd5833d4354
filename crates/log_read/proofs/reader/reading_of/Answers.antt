use Rattle.log_read.proofs.FirstFaults.{read-more}
use Rattle.log_read.proofs.reader.reading_of.Goals as goal

pub loop-i-preserved : goal.loop-i-preserved
loop-i-preserved c =
    read-more c.args.version c.args.records.now c.loop-i.i c.index-records-i.result c.loop-i.reading c.add.new.self c.loop-i-test.true c.index-records-i.is
    c.loop-i.invariant c.in_ok-add.ensures.0 c.in_ok-add.ensures.1
