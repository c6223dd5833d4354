-- Cycles of events, and the way back along causes that finds one.
use Rattle.std.specs.Prelude.{◌≡◌, ◌≢◌, ℕ, ◌+◌, ◌-◌, ◌<◌, Bool, false, List, [], ◌∷◌, ◌++◌, length, All, AllPairs, slice_index}
use Rattle.std.specs.List.{AllAdjacentBelow}
use Rattle.happened_before.specs.declared.causes.Causes.{Causes}
use Rattle.happened_before.specs.Causes.{IsAmong, causes_at, is_finished}

-- events of the table, one at least and none twice, each a cause of the next and the last a cause of the first
pub record IsCausal (table : List Causes) (events : List ℕ) : Type 0 where
  pub some : 0 < length events
  pub within : All (λ e. e < length table) events
  pub once : AllPairs (λ e f. e ≢ f) events
  pub next : AllAdjacentBelow (λ e f. IsAmong (causes_at table f) e) events (length events)
  pub closed : IsAmong (causes_at table (slice_index events 0)) (slice_index events (length events - 1))

-- events of the table, none twice, each with the next as a cause, and the last with event here, which isn't finished
pub record IsPath (table : List Causes) (finished : List Bool) (path : List ℕ) (here : ℕ) : Type 0 where
  pub once : AllPairs (λ e f. e ≢ f) path
  pub within : All (λ e. e < length table) path
  pub back : AllAdjacentBelow (λ e f. IsAmong (causes_at table e) f) (path ++ here ∷ []) (length path + 1)
  pub last : here < length table
  pub unfinished : is_finished finished here ≡ false
