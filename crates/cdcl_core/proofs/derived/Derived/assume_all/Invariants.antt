use Rattle.std.proofs.Common.{◌≡◌, [], ◌∷◌, ◌++◌, map, take}
use Rattle.proof_log.specs.declared.line.Hint.TheVariants as hint
use Rattle.cdcl_core.proofs.derived.Derived.assume_all.Given as goal

abbrev pub invariant-loop-lit : goal.invariant-loop-lit
invariant-loop-lit l = record {
  clauses : l.self.db ≡ l.fn.self.db ++ map (λ m. m ∷ []) (take l.lit-index l.assumed);
  cites : l.self.cites ≡ l.fn.self.cites ++ map (λ m. hint.Line 0) (take l.lit-index l.assumed);
  lines : l.self.lines ≡ l.fn.self.lines;
}
