-- What is stored, where what is watched changes.
use Rattle.std.proofs.Common.{◌≡◌, ◌∙◌, ap, refl, ℕ, ◌<◌, ◌≤◌, ◌⊎◌, inl, inr, List, [], ◌∷◌, ◌++◌, length, set, get_or, arith, length-set, Option, Some, Bool, Result, Ok, Err}
use Rattle.std.specs.Prelude.{OnOk, OnErr, IsSome}
use Rattle.std.specs.List.{swap_remove}
use Rattle.std.proofs.lemmas.List.{get_or_read, set-get_or}
use Rattle.clause_db.specs.declared.lit.Lit.{Lit}
use Rattle.propagate.specs.declared.entry.Entry.{Entry}
use Rattle.propagate.specs.declared.entry.Level.{Level}
use Rattle.propagate.specs.declared.watch.Watch.{Watch}
use Rattle.propagate.specs.Watching.{Watching, AreListed, IsListed, IsUnwatched, list_in, with_list, lists_at, unwatched, watch_at, watchers_of, watching}
use Rattle.propagate.specs.Stored.{IsStored}
use Rattle.propagate.proofs.UnwatchedLemmas.{unwatched_longer, unwatched_set}
use Rattle.propagate.proofs.WatchingLemmas.{all_listed_more, all_listed_less, all_listed_up, all_listed_set}

pub either : {T E P Q : Type 0} (r : Result T E) → OnOk r P → OnErr r Q → P ⊎ Q
either (Ok x) p q = inl p
either (Err y) p q = inr q

module _ (xs : List Entry) (places : List (Option ℕ)) (ls : List Level) (w : Watching) (n ec lc : ℕ) (stored : IsStored xs places ls w n ec lc) where
  pub stored_watching : (v : Watching) → length v.watchers ≡ length w.watchers → v.satisfied ≤ length (unwatched v.watches) → AreListed v → IsStored xs places ls v n ec lc
  stored_watching v count satisfied listed = record {
    trail = record {
      below = stored.trail.below;
      once = stored.trail.once;
      levels = stored.trail.levels;
      propagated = stored.trail.propagated;
      lists = count ∙ stored.trail.lists;
      listed = listed;
      satisfied = satisfied;
    };
    table = stored.table;
    few = stored.few;
    entry_room = stored.entry_room;
    level_room = stored.level_room;
  }

  pub stored_propagated : (k : ℕ) → k ≤ length xs → IsStored xs places ls w k ec lc
  stored_propagated k most = record {
    trail = record {
      below = stored.trail.below;
      once = stored.trail.once;
      levels = stored.trail.levels;
      propagated = most;
      lists = stored.trail.lists;
      listed = stored.trail.listed;
      satisfied = stored.trail.satisfied;
    };
    table = stored.table;
    few = stored.few;
    entry_room = stored.entry_room;
    level_room = stored.level_room;
  }

  -- the lists of a variable, as they were read
  read_lists : (i : ℕ) (l : Lit) (now : List ℕ × List ℕ) → l.var < length places → i ≡ l.var → now ≡ get_or w.watchers i now → now ≡ lists_at w.watchers l.var
  read_lists i l now below at is =
      let lists = stored.trail.lists in
      get_or_read w.watchers i now (omega (arith, at, below, lists)) is ([], []) ∙ ap (λ (v : ℕ). lists_at w.watchers v) at

  pub stored_added : (i : ℕ) (l : Lit) (c : ℕ) (b : Bool) (now new : List ℕ × List ℕ) → l.var < length places → i ≡ l.var → b ≡ l.positive → now ≡ get_or w.watchers i now
      → (new ≡ with_list now b (list_in now b ++ c ∷ [])) ⊎ (new ≡ now) → IsStored xs places ls (record { watches = w.watches; watchers = set w.watchers i new; satisfied = w.satisfied }) n ec lc
  stored_added i l c b now new below at sense is put =
      let lists = stored.trail.lists in
      let within : l.var < length w.watchers = omega (arith, below, lists) in
      let read = read_lists i l now below at is in
      stored_watching (record { watches = w.watches; watchers = set w.watchers i new; satisfied = w.satisfied }) (length-set w.watchers i new) stored.trail.satisfied (elim put [
        | inl more ↦ rw (at, more, sense, read) (all_listed_more w l c within stored.trail.listed)
        | inr same ↦ rw (at, same, read, set-get_or w.watchers l.var ([], [])) stored.trail.listed
      ])

  pub stored_dropped : (i : ℕ) (l : Lit) (k : ℕ) (b : Bool) (now new : List ℕ × List ℕ) → l.var < length places → i ≡ l.var → b ≡ l.positive → now ≡ get_or w.watchers i now
      → new ≡ with_list now b (swap_remove (list_in now b) k 0) → k < length (watchers_of w l) → IsUnwatched w (get_or (watchers_of w l) k 0) l
      → IsStored xs places ls (record { watches = w.watches; watchers = set w.watchers i new; satisfied = w.satisfied }) n ec lc
  stored_dropped i l k b now new below at sense is less here unwatched =
      let lists = stored.trail.lists in
      let within : l.var < length w.watchers = omega (arith, below, lists) in
      let read = read_lists i l now below at is in
      stored_watching (record { watches = w.watches; watchers = set w.watchers i new; satisfied = w.satisfied })
      (length-set w.watchers i new) stored.trail.satisfied (rw (at, less, sense, read)
      (all_listed_less w l k within here unwatched stored.trail.listed))

  pub stored_up : (r : Option Watch) (watches : List (Option Watch)) → watches ≡ w.watches ++ r ∷ [] → ((p : Watch) → r ≡ Some p → IsListed w (length w.watches) p)
      → IsStored xs places ls (record { watches = watches; watchers = w.watchers; satisfied = w.satisfied }) n ec lc
  stored_up r watches is new = rw is (stored_watching (watching w (w.watches ++ r ∷ [])) refl (let satisfied = stored.trail.satisfied in omega (arith, satisfied, unwatched_longer w.watches r)) (all_listed_up w r new stored.trail.listed))

  pub stored_attached : (r : Option Watch) (watches : List (Option Watch)) → (watches ≡ w.watches ++ r ∷ []) ⊎ (watches ≡ w.watches) → ((p : Watch) → r ≡ Some p → IsListed w (length w.watches) p)
      → IsStored xs places ls (record { watches = watches; watchers = w.watchers; satisfied = w.satisfied }) n ec lc
  stored_attached r watches (inl more) new = stored_up r watches more new
  stored_attached r watches (inr same) new = rw same stored

  pub stored_set : (c : ℕ) (q : Watch) (watches : List (Option Watch)) → watches ≡ set w.watches c (Some q) → c < length w.watches
      → IsSome (watch_at w c) → IsListed w c q
      → IsStored xs places ls (record { watches = watches; watchers = w.watchers; satisfied = w.satisfied }) n ec lc
  stored_set c q watches is within some new = rw is (stored_watching (watching w (set w.watches c (Some q))) refl (let satisfied = stored.trail.satisfied in omega (arith, satisfied, ap length (unwatched_set w.watches c c q refl some))) (all_listed_set w c q within new stored.trail.listed))
