use Rattle.std.proofs.Common.{ap, sym, length, take, arith}
use Rattle.std.specs.List.{flat_map}
use Rattle.proof_trim.specs.Naming.{named_of}
use Rattle.proof_trim.proofs.NamedLists.{next-start}
use Rattle.proof_trim.proofs.named.start_of.Goals as goal

pub returns-then-i-eq0 : goal.returns-then-i-eq0
returns-then-i-eq0 c = λ lines numbers are. ap (λ k. length (flat_map named_of (take k lines))) (sym c.if-i-eq0.true)

pub returns-else-i-eq0 : goal.returns-else-i-eq0
returns-else-i-eq0 c = λ lines numbers are. next-start lines numbers c.args.ends.now are c.args.i _ (omega (arith, c.if-i-eq0.false)) c.requires
