use Rattle.std.proofs.Common.{inl, refl}
use Rattle.mt_port.proofs.memory.MemShelfShelf.open.Goals as goal

pub returns-then-is_to_fail-clause-fails : goal.returns-then-is_to_fail-clause-fails
returns-then-is_to_fail-clause-fails c =
    let chosen = rw (c.deref-2.ensures.value, c.saturating_add-self-inside.ensures) at (c.is_to_fail.ensures.0 c.if-is_to_fail.true) in
    rw (← c.self.view_is) (λ _. inl chosen, λ _. refl)
