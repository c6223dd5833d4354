-- Up to where the greatest distance with the value may lie.
use Rattle.std.specs.Prelude.{◌≡◌, ℕ, ◌+◌, ◌<◌, pos, ◌+ℤ◌, ◌≤ℤ◌}
use Rattle.mt_model.specs.declared.limits.TheConstants.{MAX_TIME}
use Rattle.mt_model.specs.Log.{IsWithin}
use Rattle.skew_bounds.specs.Tight.{difference}
use Rattle.best_answer.specs.Aims.{Gives, RefuteWithin, Spend}
use Rattle.verdict_span.specs.declared.climb.Climb.{Climb}
use Rattle.verdict_span.specs.declared.span.Span.{Span}
use Rattle.verdict_span.specs.declared.turn.Turned.{Turned}
use Rattle.verdict_span.specs.declared.turn.Turned.TheVariants as turned
use Rattle.verdict_span.specs.Spans.{distant}

module _ (s : Span) where
  -- the timing gives the value with the distance, and lines refute it beyond the room above; both are within twice the limit of times
  pub record IsClimb (c : Climb) : Type 0 where
    pub gives : Gives s.aim s.aim.log.now c.times
    pub distance : difference c.times s.e s.to ≡ c.distance
    pub near : IsWithin (MAX_TIME +ℤ MAX_TIME) c.distance
    pub top : (c.distance +ℤ pos c.room) ≤ℤ (MAX_TIME +ℤ MAX_TIME)
    pub refuted : RefuteWithin s.aim (distant s (c.distance +ℤ pos (c.room + 1))) c.beyond

  -- there is less room than this, or the budget was spent
  abbrev pub IsTurned : ℕ → Turned → Type 0
  IsTurned room (turned.Narrowed c) = IsClimb c × (c.room < room)
  IsTurned room (turned.Spent c lines) = Spend s.aim (distant s c) lines
