use Rattle.mtl_parse.proofs.NoMemory.{no-memory}
use Rattle.mtl_parse.proofs.laws.no_text_lacks_memory.Goals as goal

pub returns : goal.returns
returns c = no-memory
