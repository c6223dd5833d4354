-- What a row does to a proposition.
use Rattle.std.specs.Prelude.{Bool, true, false, Option, Some, None, ℕ, option_map}
use Rattle.mt_model.specs.State.{Change}
use Rattle.witness_replay.specs.declared.states.Effect.{Effect}
use Rattle.witness_replay.specs.declared.states.Effect.TheVariants.{Changes, Pulses}

-- what an effect changes a proposition to, where it changes it
abbrev pub changed_to : Option Effect → Option Bool
changed_to None = None
changed_to (Some (Changes sets)) = Some sets
changed_to (Some Pulses) = None

-- row e as a change, where the effect that it has is one
abbrev pub change_by : ℕ → Option Effect → Option Change
change_by e effect = option_map (λ sets. record { row = e; sets = sets }) (changed_to effect)

-- an effect is a pulse
abbrev pub is_pulsing : Option Effect → Bool
is_pulsing None = false
is_pulsing (Some (Changes sets)) = false
is_pulsing (Some Pulses) = true
