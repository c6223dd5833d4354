-- Where no row reads a clock, each timing has offsets.
use Rattle.std.proofs.Common.{◌≡◌, ◌∙◌, refl, sym, ap, ℕ, List, [], map, Some, None, ℤ, pos}
use Rattle.std.specs.Prelude.{option_map}
use Rattle.std.proofs.lemmas.List.{length-map}
use Rattle.mt_model.specs.Log.{Logged}
use Rattle.mt_model.specs.Timing.{HasOffsets, clock_of, reading_of}

module _ (log : Logged) (none : log.readings ≡ []) where
  no-reading : (e : ℕ) → reading_of log e ≡ None
  no-reading e = rw none refl

  pub no-clock : (e : ℕ) → clock_of log e ≡ None
  no-clock e = ap (option_map (λ r. r.clock)) (no-reading e)

  pub offsets-unread : (t : List ℤ) → HasOffsets log t
  offsets-unread t = record {
    offsets = map (λ n. pos 0) log.clocks;
    are = record {
      count = length-map log.clocks (λ n. pos 0);
      under = λ e k low is. let none : None ≡ Some k = sym (no-clock e) ∙ is in absurd (cc);
      over = λ e k low is. let none : None ≡ Some k = sym (no-clock e) ∙ is in absurd (cc);
    };
  }
