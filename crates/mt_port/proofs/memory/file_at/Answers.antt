use Rattle.std.proofs.Common.{◌∙◌, sym}
use Rattle.mt_port.proofs.Files.{bytes_of_file}
use Rattle.mt_port.proofs.memory.file_at.Goals as goal

pub returns : goal.returns
returns c = c.deref.ensures.value ∙ sym (bytes_of_file c.args.files.now c.args.index c.index-files-index.result c.requires)
