use Rattle.mtl_parse.proofs.Hosts.{hosts-before-dots}
use Rattle.mtl_parse.proofs.laws.hosts_stand_before_dots.Goals as goal

pub returns : goal.returns
returns c = hosts-before-dots
