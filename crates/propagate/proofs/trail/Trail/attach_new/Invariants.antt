use Rattle.std.proofs.Common.{◌≡◌, length}
use Rattle.propagate.specs.Reach.{IsProgress}
use Rattle.propagate.proofs.trail.Trail.attach_new.Given as goal

abbrev pub invariant-loop-c : goal.invariant-loop-c
invariant-loop-c l = record {
  progress : IsProgress l.clauses (l.fn.self, l.fn.graph) (l.self, l.graph);
  known : length l.self.watching.watches ≡ l.c;
}
