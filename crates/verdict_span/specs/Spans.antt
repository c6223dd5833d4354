-- What is sought of two events.
use Rattle.std.specs.Prelude.{ℤ}
use Rattle.formula_arena.specs.Nodes.{nodes_of}
use Rattle.mt_model.specs.Log.{Logged}
use Rattle.question.specs.Size.{IsSmall}
use Rattle.verdict_span.specs.declared.greatest.Widest.{Widest}
use Rattle.verdict_span.specs.declared.span.Span.{Span}
use Rattle.verdict_span.specs.Spaced.{spaced}
use Rattle.verdict_span.specs.Widest.{WidestRight}

module _ (s : Span) where
  -- the log in which row `to` comes at least c after row e
  abbrev pub distant : ℤ → Logged
  distant c = spaced s.e s.to c s.aim.log.now

  -- however large c is, the problem is small enough
  abbrev pub AreSmall : Type 0
  AreSmall = (c : ℤ) → IsSmall (distant c) (nodes_of s.aim.nodes.now)

  -- the answer is right for what is sought
  abbrev pub IsRight : Widest → Type 0
  IsRight answer = WidestRight s.aim.log.now s.aim.nodes.now s.aim.value s.e s.to s.aim.budget answer
