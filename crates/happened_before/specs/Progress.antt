-- Clocks that are made event by event: an event is finished once all its causes are.
use Rattle.std.specs.Prelude.{◌≡◌, ℕ, ◌+◌, ◌==◌, ◌^◌, ◌<◌, ◌≤◌, max, Bool, true, false, not, List, [], length, Option, Some, None, if◌then◌else◌, count_by, slice_index, slice_index_or}
use Rattle.happened_before.specs.declared.causes.Causes.{Causes}
use Rattle.happened_before.specs.declared.progress.Progress.{Progress}
use Rattle.happened_before.specs.Causes.{AreWithin, IsAmong, causes_at, is_finished}

-- the number of event e for host h
abbrev pub number_at : List (List ℕ) → ℕ → ℕ → ℕ
number_at clocks e h = slice_index (slice_index_or clocks e []) h

-- the number of a cause for host h, and 0 where there is none
abbrev pub number_of : List (List ℕ) → Option ℕ → ℕ → ℕ
number_of clocks None h = 0
number_of clocks (Some e) h = number_at clocks e h

-- the number for host h of an event of this host with these causes: the greatest of theirs, and one more for its own host
abbrev pub number_after : List (List ℕ) → Causes → ℕ → ℕ → ℕ
number_after clocks causes host h = max (number_of clocks causes.previous h) (number_of clocks causes.send h) + (if h == host then 1 else 0)

-- the causes have clocks of this width, whose numbers leave room for one more
pub record HaveClocks (width : ℕ) (clocks : List (List ℕ)) (causes : Causes) : Type 0 where
  pub within : AreWithin (length clocks) causes
  pub wide : (e : ℕ) → IsAmong causes e → length (slice_index_or clocks e []) ≡ width
  pub small : (e h : ℕ) → IsAmong causes e → h < width → number_at clocks e h + 1 < 2 ^ 32

-- the clock of an event of this host with these causes
pub record FollowsClocks (width host : ℕ) (clocks : List (List ℕ)) (causes : Causes) (clock : List ℕ) : Type 0 where
  pub wide : length clock ≡ width
  pub numbers : (h : ℕ) → h < width → slice_index clock h ≡ number_after clocks causes host h

-- how many events aren't finished
abbrev pub waiting_count : List Bool → ℕ
waiting_count finished = count_by not finished

-- event f's causes are finished, and its clock follows theirs; no number is above the count of finished events
pub record IsFinished (width : ℕ) (hosts : List ℕ) (table : List Causes) (finished : List Bool) (clocks : List (List ℕ)) (f : ℕ) : Type 0 where
  pub causes : (e : ℕ) → IsAmong (causes_at table f) e → is_finished finished e ≡ true
  pub follows : FollowsClocks width (slice_index hosts f) clocks (causes_at table f) (slice_index_or clocks f [])
  pub small : (h : ℕ) → h < width → (number_at clocks f h + waiting_count finished) ≤ length finished

-- which events of these hosts, with the causes of the table, are finished, and their clocks
pub record AreClocks (width : ℕ) (hosts : List ℕ) (table : List Causes) (finished : List Bool) (clocks : List (List ℕ)) : Type 0 where
  pub flags : length finished ≡ length table
  pub count : length clocks ≡ length table
  pub each : (f : ℕ) → is_finished finished f ≡ true → IsFinished width hosts table finished clocks f

-- the progress so far is right
abbrev pub IsProgress : ℕ → List ℕ → List Causes → Progress → Type 0
IsProgress width hosts table p = AreClocks width hosts table p.finished.items p.clocks.items

-- none of so many events is finished
pub record IsStart (events : ℕ) (finished : List Bool) (clocks : List (List ℕ)) : Type 0 where
  pub flags : length finished ≡ events
  pub count : length clocks ≡ events
  pub none : (e : ℕ) → is_finished finished e ≡ false
