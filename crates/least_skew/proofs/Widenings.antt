-- What a widening changes of a log: how far its rows may be off, and nothing else.
use Rattle.std.proofs.Common.{◌≡◌, ◌∙◌, sym, ap, refl, subst, arith, ℕ, ◌+◌, ◌<◌, ◌≤◌, ◌-◌, Bool, List, [], ◌∷◌, length, map, reverse, Option, Some, None, get_or, inl, inr, ℤ, pos, ◌+ℤ◌, ◌≤ℤ◌}
use Rattle.std.specs.Prelude.{find, is_none, option_map, option_and_then, slice_get, bytes_eq}
use Rattle.std.specs.List.{position_from, position_or_len}
use Rattle.std.specs.Option.{option_map_or}
use Rattle.std.proofs.lemmas.Bool.{cases_Bool}
use Rattle.std.proofs.lemmas.Int.{ints}
use Rattle.std.proofs.lemmas.List.{ext_get_or, get_or-map, get_or-reverse, length-map, length-reverse}
use Rattle.std.proofs.lemmas.Option.{slice_get-map}
use Rattle.std.proofs.Math.Path.{fun_ext}
use Rattle.mt_model.specs.declared.log.Host.{Host}
use Rattle.mt_model.specs.declared.resync.Resync.{Resync}
use Rattle.mt_model.specs.declared.limits.TheConstants.{MIN_DELAY}
use Rattle.mt_model.specs.Form.{Form, Proposition, propositions_of}
use Rattle.mt_model.specs.Log.{Logged, widened, widened_host, widened_resync}
use Rattle.mt_model.specs.State.{host_named, unknown_host}
use Rattle.mt_model.specs.Timing.{Admissible, applies_to, gap_of, host_of, least_delay, most_delay, resync_of, skew_of, time_of}
use Rattle.least_skew.specs.Laws.{SkewsMayGrow}

find-mapped : {X : Type 0} (test new : X → Bool) (g : X → X) (xs : List X) → ((x : X) → new (g x) ≡ test x) → find new (map g xs) ≡ option_map g (find test xs)
find-mapped test new g [] same = refl
find-mapped test new g (x ∷ xs) same = elim (cases_Bool (test x)) [
  | inl passes ↦ rw (same x, passes) refl
  | inr fails ↦ rw (same x, fails) (find-mapped test new g xs same)
]

reverse-mapped : {X : Type 0} (g : X → X) (xs : List X) → reverse (map g xs) ≡ map g (reverse xs)
reverse-mapped g [] = refl
reverse-mapped g (x ∷ xs) = ext_get_or x (reverse (map g (x ∷ xs))) (map g (reverse (x ∷ xs))) long each
  where
    count : length (map g (x ∷ xs)) ≡ length (x ∷ xs)
    count = length-map (x ∷ xs) g

    turned : length (reverse (x ∷ xs)) ≡ length (x ∷ xs)
    turned = length-reverse (x ∷ xs)

    long : length (reverse (map g (x ∷ xs))) ≡ length (map g (reverse (x ∷ xs)))
    long = length-reverse (map g (x ∷ xs)) ∙ count ∙ sym (length-map (reverse (x ∷ xs)) g ∙ turned)

    each : (i : ℕ) → i < length (reverse (map g (x ∷ xs))) → get_or (reverse (map g (x ∷ xs))) i x ≡ get_or (map g (reverse (x ∷ xs))) i x
    each i less =
        let below : i < length (map g (x ∷ xs)) = rw length-reverse at less in
        let inside : i < length (x ∷ xs) = rw count at below in
        let last : length (x ∷ xs) - 1 - i < length (x ∷ xs) = omega (arith, inside) in
        get_or-reverse (map g (x ∷ xs)) i x below ∙ ap (λ n. get_or (map g (x ∷ xs)) (n - 1 - i) x) count
        ∙ get_or-map g (x ∷ xs) (length (x ∷ xs) - 1 - i) x x last
        ∙ ap g (sym (get_or-reverse (x ∷ xs) i x inside))
        ∙ sym (get_or-map g (reverse (x ∷ xs)) i x x (rw turned inside))

position-mapped : {X : Type 0} (test new : X → Bool) (g : X → X) (xs : List X) → ((x : X) → new (g x) ≡ test x) → position_or_len new (map g xs) ≡ position_or_len test xs
position-mapped test new g [] same = refl
position-mapped test new g (x ∷ xs) same = elim (cases_Bool (test x)) [
  | inl passes ↦ rw (same x, passes) refl
  | inr fails ↦ rw (same x, fails) (ap (λ n. 1 + n) (position-mapped test new g xs same))
]

abbrev skew-from : Option Resync → Option Host → ℤ
skew-from r h = option_map_or (λ x. x.skew) r (option_map_or (λ x. x.skew) h (pos 0))

abbrev gap-from : Option Resync → Option Host → ℤ
gap-from r h = option_map_or (λ x. x.gap) r (option_map_or (λ x. x.gap) h (pos 0))

module _ (y z : ℤ) where
  skew-further : y ≤ℤ z → (r : Option Resync) (h : Option Host)
      → skew-from (option_map (widened_resync y) r) (option_map (widened_host y) h) ≤ℤ skew-from (option_map (widened_resync z) r) (option_map (widened_host z) h)
  skew-further less (Some r) h = omega (arith, ints, less)
  skew-further less None (Some h) = omega (arith, ints, less)
  skew-further less None None = omega (arith, ints)

module _ (z : ℤ) where
  skew-more : pos 0 ≤ℤ z → (r : Option Resync) (h : Option Host) → skew-from r h ≤ℤ skew-from (option_map (widened_resync z) r) (option_map (widened_host z) h)
  skew-more less (Some r) h = omega (arith, ints, less)
  skew-more less None (Some h) = omega (arith, ints, less)
  skew-more less None None = omega (arith, ints)

  gap-kept : (r : Option Resync) (h : Option Host) → gap-from (option_map (widened_resync z) r) (option_map (widened_host z) h) ≡ gap-from r h
  gap-kept (Some r) h = refl
  gap-kept None (Some h) = refl
  gap-kept None None = refl

  least-kept : (h : Option Host) → option_map_or (λ x. pos x.least) (option_map (widened_host z) h) (pos MIN_DELAY) ≡ option_map_or (λ x. pos x.least) h (pos MIN_DELAY)
  least-kept (Some h) = refl
  least-kept None = refl

  most-kept : (h : Option Host) → option_and_then (λ x. option_map pos x.most) (option_map (widened_host z) h) ≡ option_and_then (λ x. option_map pos x.most) h
  most-kept (Some h) = refl
  most-kept None = refl

module _ (log : Logged) (z : ℤ) where
  resync-at : (e : ℕ) → resync_of (widened z log) e ≡ option_map (widened_resync z) (resync_of log e)
  resync-at e =
      ap (find (applies_to (widened z log) e)) (reverse-mapped (widened_resync z) log.resyncs)
      ∙ find-mapped (applies_to log e) (applies_to (widened z log) e) (widened_resync z) (reverse log.resyncs) (λ r. refl)

  host-at : (e : ℕ) → slice_get (map (widened_host z) log.hosts) (host_of log e) ≡ option_map (widened_host z) (slice_get log.hosts (host_of log e))
  host-at e = slice_get-map (widened_host z) log.hosts (host_of log e)

  skew-at : (e : ℕ) → skew_of (widened z log) e ≡ skew-from (option_map (widened_resync z) (resync_of log e)) (option_map (widened_host z) (slice_get log.hosts (host_of log e)))
  skew-at e = ap (λ r. skew-from r (slice_get (map (widened_host z) log.hosts) (host_of log e))) (resync-at e) ∙ ap (skew-from (option_map (widened_resync z) (resync_of log e))) (host-at e)

  gap-at : (e : ℕ) → gap_of (widened z log) e ≡ gap_of log e
  gap-at e =
      ap (λ r. gap-from r (slice_get (map (widened_host z) log.hosts) (host_of log e))) (resync-at e) ∙ ap (gap-from (option_map (widened_resync z) (resync_of log e))) (host-at e)
      ∙ gap-kept z (resync_of log e) (slice_get log.hosts (host_of log e))

  least-at : (e : ℕ) → least_delay (widened z log) e ≡ least_delay log e
  least-at e = ap (λ h. option_map_or (λ x. pos x.least) h (pos MIN_DELAY)) (host-at e) ∙ least-kept z (slice_get log.hosts (host_of log e))

  most-at : (e : ℕ) → most_delay (widened z log) e ≡ most_delay log e
  most-at e = ap (option_and_then (λ x. option_map pos x.most)) (host-at e) ∙ most-kept z (slice_get log.hosts (host_of log e))

  pub named-at : (name : List ℕ) → host_named (widened z log) name ≡ host_named log name
  named-at name =
      let place = position-mapped (λ h. bytes_eq h.name name) (λ h. bytes_eq h.name name) (widened_host z) log.hosts (λ h. refl) in
      let count = length-map log.hosts (widened_host z) in
      rw (place, count) refl

  pub hosts-at : (f : Form) → unknown_host (widened z log) f ≡ unknown_host log f
  hosts-at f = ap (λ (test : Proposition → Bool). position_from test 0 (propositions_of f)) (fun_ext (λ p. ap is_none (named-at p.host)))

module _ (log : Logged) (y z : ℤ) (less : y ≤ℤ z) where
  skews-grow : (e : ℕ) → skew_of (widened y log) e ≤ℤ skew_of (widened z log) e
  skews-grow e = rw (skew-at log y e, skew-at log z e) (skew-further y z less (resync_of log e) (slice_get log.hosts (host_of log e)))

  pub admissible-further : (t : List ℤ) → Admissible (widened y log) t → Admissible (widened z log) t
  admissible-further t ok = record {
    count = ok.count;
    low = λ e within. let low = ok.low e within in let more = skews-grow e in omega (arith, ints, low, more);
    high = λ e within. let high = ok.high e within in let more = skews-grow e in omega (arith, ints, high, more);
    rise = λ e f within before. subst (λ g. (time_of t e +ℤ g) ≤ℤ time_of t f) (gap-at log y f ∙ sym (gap-at log z f)) (ok.rise e f within before);
    message = λ s r within sent. subst (λ d. (time_of t s +ℤ d) ≤ℤ time_of t r) (least-at log y r ∙ sym (least-at log z r)) (ok.message s r within sent);
    late = λ s r most within sent limited. ok.late s r most within sent (most-at log y r ∙ sym (most-at log z r) ∙ limited);
    extra = ok.extra;
    clocks = record { offsets = ok.clocks.offsets; are = record { count = ok.clocks.are.count; under = ok.clocks.are.under; over = ok.clocks.are.over } };
  }

module _ (log : Logged) (z : ℤ) (less : pos 0 ≤ℤ z) where
  skews-more : (e : ℕ) → skew_of log e ≤ℤ skew_of (widened z log) e
  skews-more e = rw (skew-at log z e) (skew-more z less (resync_of log e) (slice_get log.hosts (host_of log e)))

  pub admissible-more : (t : List ℤ) → Admissible log t → Admissible (widened z log) t
  admissible-more t ok = record {
    count = ok.count;
    low = λ e within. let low = ok.low e within in let more = skews-more e in omega (arith, ints, low, more);
    high = λ e within. let high = ok.high e within in let more = skews-more e in omega (arith, ints, high, more);
    rise = λ e f within before. subst (λ g. (time_of t e +ℤ g) ≤ℤ time_of t f) (sym (gap-at log z f)) (ok.rise e f within before);
    message = λ s r within sent. subst (λ d. (time_of t s +ℤ d) ≤ℤ time_of t r) (sym (least-at log z r)) (ok.message s r within sent);
    late = λ s r most within sent limited. ok.late s r most within sent (sym (most-at log z r) ∙ limited);
    extra = ok.extra;
    clocks = record { offsets = ok.clocks.offsets; are = record { count = ok.clocks.are.count; under = ok.clocks.are.under; over = ok.clocks.are.over } };
  }

pos-le : (r s : ℕ) → r ≤ s → pos r ≤ℤ pos s
pos-le r s less = omega (arith, ints, less)

pub skews-may-grow : SkewsMayGrow
skews-may-grow = record {
  from_none = λ log s t ok. admissible-more log (pos s) (pos-le 0 s (omega arith)) t ok;
  further = λ log r s t less ok. admissible-further log (pos r) (pos s) (pos-le r s less) t ok;
}
