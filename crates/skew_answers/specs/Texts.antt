-- What is written.
use Rattle.std.specs.Prelude.{ℕ, List, [], ◌∷◌, ◌++◌, length, slice_index_or, codes, ℤ}
use Rattle.std.specs.List.{flat_map, range_with_len}
use Rattle.std.specs.Fmt.{decimal, signed_decimal}
use Rattle.mt_model.specs.declared.step.Step.{Step}
use Rattle.mt_model.specs.Texts.{step_text}

-- bytes and the end of their line
abbrev pub line : List ℕ → List ℕ
line bytes = bytes ++ 10 ∷ []

-- a number on each line
abbrev pub times_text : List ℤ → List ℕ
times_text t = flat_map (λ z. line (signed_decimal z)) t

-- how many steps, and then each on its line
abbrev pub inconsistent_text : List Step → List ℕ
inconsistent_text steps = line (codes "inconsistent " ++ decimal (length steps)) ++ flat_map (λ s. line (step_text s)) steps

-- the line of an event: its number, and the numbers of its clock, each after one space
abbrev pub clock_line : ℕ → List ℕ → List ℕ
clock_line e clock = line (decimal e ++ codes ":" ++ flat_map (λ n. codes " " ++ decimal n) clock)

-- the line of each event in order, where these are their clocks
abbrev pub clocks_text : List (List ℕ) → List ℕ
clocks_text clocks = flat_map (λ e. clock_line e (slice_index_or clocks e [])) (range_with_len 0 (length clocks))

-- how many events, and then each on its line
abbrev pub cycle_text : List ℕ → List ℕ
cycle_text events = line (codes "cycle " ++ decimal (length events)) ++ flat_map (λ e. line (decimal e)) events
