use Rattle.log_read.proofs.ReadBack.{texts-read-back}
use Rattle.log_read.proofs.writer.texts_read_back.Goals as goal

pub returns : goal.returns
returns c = texts-read-back
