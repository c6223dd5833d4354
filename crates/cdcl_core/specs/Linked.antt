-- The literals that have edges among so many of the first of a trail, where the trail goes back.
use Rattle.std.specs.Prelude.{◌≡◌, ℕ, take}
use Rattle.cdcl_core.specs.declared.linked.LinkedLits.{LinkedLits}

-- they are those among so many of the first literals, so many in all
abbrev pub AreCutTo : ℕ → ℕ → LinkedLits → LinkedLits → Type 0
AreCutTo len held old new = (new.seen ≡ len) × (new.lits.items ≡ take held old.lits.items)
