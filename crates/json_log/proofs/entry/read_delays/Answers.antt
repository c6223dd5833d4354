use Rattle.json_log.proofs.Looking.{too-few, too-many}
use Rattle.json_log.proofs.entry.read_delays.Goals as goal

pub returns-in_default : goal.returns-in_default
returns-in_default c = too-few c.args.items.now c.in_default.len_below

pub returns-in_default-2 : goal.returns-in_default-2
returns-in_default-2 c = too-many c.args.items.now c.in_default.len_at_least
