-- Watched literals: two of each clause that was attached, after Moskewicz, Madigan, Zhao, Zhang and Malik (2001).
use Rattle.std.specs.Prelude.{◌≡◌, ◌≢◌, ◌⊎◌, ℕ, ◌+◌, ◌<◌, List, [], ◌∷◌, ◌++◌, length, set, Bool, true, false, Option, Some, None, Contains, slice_index_or}
use Rattle.std.specs.List.{swap_remove}
use Rattle.clause_db.specs.declared.lit.Lit.{Lit}
use Rattle.propagate.specs.declared.watch.Watch.{Watch}
use Rattle.propagate.specs.declared.watch.Watcher.{Watcher}

-- what is watched: the two literals of each clause that was attached, if it has two, and for each variable the clauses that
-- watch its positive and its negative literal; and how many of the clauses without two, from the first on, count as satisfied
pub record Watching : Type 0 where
  pub watches : List (Option Watch)
  pub watchers : List (List ℕ × List ℕ)
  pub satisfied : ℕ

-- the two watched literals of a clause, if it has any
abbrev pub watch_at : Watching → ℕ → Option Watch
watch_at w c = slice_index_or w.watches c None

-- the clauses of the list, counted from this number, of which no two literals are watched
abbrev pub unwatched_from : ℕ → List (Option Watch) → List ℕ
unwatched_from n [] = []
unwatched_from n (None ∷ watches) = n ∷ unwatched_from (n + 1) watches
unwatched_from n (Some p ∷ watches) = unwatched_from (n + 1) watches

-- the clauses of which no two literals are watched
abbrev pub unwatched : List (Option Watch) → List ℕ
unwatched watches = unwatched_from 0 watches

-- of a variable's lists the first is that of the positive literal, the second that of the negative one
abbrev pub list_in : List ℕ × List ℕ → Bool → List ℕ
list_in both true = both.0
list_in both false = both.1

abbrev pub with_list : List ℕ × List ℕ → Bool → List ℕ → List ℕ × List ℕ
with_list both true cs = (cs, both.1)
with_list both false cs = (both.0, cs)

abbrev pub lists_at : List (List ℕ × List ℕ) → ℕ → List ℕ × List ℕ
lists_at watchers v = slice_index_or watchers v ([], [])

-- the clauses that watch a literal, and perhaps some that did
abbrev pub watchers_of : Watching → Lit → List ℕ
watchers_of w l = list_in (lists_at w.watchers l.var) l.positive

-- the same with these watchers of a literal
abbrev pub listing : Watching → Lit → List ℕ → Watching
listing w l cs = record { watches = w.watches; watchers = set w.watchers l.var (with_list (lists_at w.watchers l.var) l.positive cs); satisfied = w.satisfied }

-- the same with a clause more among the watchers of a literal
abbrev pub with_watcher : Watching → Lit → ℕ → Watching
with_watcher w l c = listing w l (watchers_of w l ++ c ∷ [])

-- the same without the watcher of a literal at a place, where the last one stands then
abbrev pub without_watcher : Watching → Lit → ℕ → Watching
without_watcher w l place = listing w l (swap_remove (watchers_of w l) place 0)

-- the same with these two literals of each clause
abbrev pub watching : Watching → List (Option Watch) → Watching
watching w watches = record { watches = watches; watchers = w.watchers; satisfied = w.satisfied }

-- the same with one more clause, of which these two literals are watched, or none
abbrev pub attaching : Watching → Option Watch → Watching
attaching w p = watching w (w.watches ++ p ∷ [])

-- the same where these two literals of a clause are watched
abbrev pub rewatching : Watching → ℕ → Watch → Watching
rewatching w c p = watching w (set w.watches c (Some p))

-- the same where so many clauses count as satisfied
abbrev pub satisfying : Watching → ℕ → Watching
satisfying w satisfied = record { watches = w.watches; watchers = w.watchers; satisfied = satisfied }

-- the clause is the first one without two watched literals that doesn't count as satisfied
pub record IsNextShort (w : Watching) (c : ℕ) : Type 0 where
  pub within : w.satisfied < length (unwatched w.watches)
  pub is : slice_index_or (unwatched w.watches) w.satisfied 0 ≡ c

-- the clause stands at the place among the watchers of the literal
pub record IsWatcherAt (w : Watching) (l : Lit) (place c : ℕ) : Type 0 where
  pub within : place < length (watchers_of w l)
  pub is : slice_index_or (watchers_of w l) place 0 ≡ c

-- so it is with the watcher's clause, literal and place
abbrev pub IsWatcher : Watching → Watcher → Type 0
IsWatcher w watcher = IsWatcherAt w watcher.lit watcher.place watcher.clause

-- the clause stands among the watchers of the two literals
pub record IsListed (w : Watching) (c : ℕ) (p : Watch) : Type 0 where
  pub first : Contains (watchers_of w p.first) c
  pub second : Contains (watchers_of w p.second) c

-- each clause stands among the watchers of its two watched literals
abbrev pub AreListed : Watching → Type 0
AreListed w = (c : ℕ) (p : Watch) → watch_at w c ≡ Some p → IsListed w c p

-- the literal is none of the two of the clause that are watched
abbrev pub IsUnwatched : Watching → ℕ → Lit → Type 0
IsUnwatched w c l = (p : Watch) → watch_at w c ≡ Some p → (p.first ≢ l) × (p.second ≢ l)

-- of the two literals of the clause that are watched one is l, and the other one is other
abbrev pub AreWatchedOf : Watching → ℕ → Lit → Lit → Type 0
AreWatchedOf w c l other = (p : Watch) × (watch_at w c ≡ Some p) × (((p.first ≡ l) × (p.second ≡ other)) ⊎ ((p.second ≡ l) × (p.first ≡ other)))
