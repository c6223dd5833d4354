use Rattle.std.proofs.Common.{rules}
use Rattle.propagate.proofs.LinkPlaces.{no_pairs_of}
use Rattle.propagate.proofs.links.Links.new.Goals as goal

pub returns : goal.returns
returns c = record { none = no_pairs_of c.args.vars c.in_ok-vec.field-0.items _ (search rules) }
