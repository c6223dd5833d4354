use Rattle.log_read.proofs.NoMemory.{no-memory}
use Rattle.log_read.proofs.laws.no_file_lacks_memory.Goals as goal

pub returns : goal.returns
returns c = no-memory
