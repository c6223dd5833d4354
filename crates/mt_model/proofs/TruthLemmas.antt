-- What each form says at a position, and the values of a formula.
use Rattle.std.proofs.Common.{◌≡◌, ◌↔◌, refl, ℕ, ◌<◌, ◌≤◌, Bool, true, false, not, ◌&&◌, List, ◌⊎◌, inl, inr, Option, Some, None, arith, ℤ, pos, ◌≤ℤ◌}
use Rattle.std.specs.Prelude.{IfSome, int_le}
use Rattle.std.specs.Option.{option_map_or}
use Rattle.std.proofs.lemmas.Int.{ints}
use Rattle.std.proofs.lemmas.Bool.{and_from, and_parts, or_cases, or_left, or_right, not_from_false, not-true, leb-true, le-leb, leb-false, lt-leb}
use Rattle.mt_model.specs.declared.tree.Interval.{Interval}
use Rattle.mt_model.specs.Form.{Form, Or, Until, Since, Eventually, Always, Once, Historically}
use Rattle.mt_model.specs.Log.{Logged}
use Rattle.mt_model.specs.Timing.{Admissible}
use Rattle.mt_model.specs.Positions.{positions_of}
use Rattle.mt_model.specs.Frame.{Frame, turned, implies, span, witness, reaches, sometimes, always, is_ahead, is_behind, is_in}
use Rattle.mt_model.specs.Truth.{IsValue, positions_in, truth}
use Rattle.mt_model.specs.TruthLaws.{IsTrueAt, IsIndex, LiesAhead, LiesBehind, LiesIn, TruthIsTheTable}
use Rattle.mt_model.proofs.Members.{Among, all_each, any_some, each_all, some_any}
use Rattle.mt_model.proofs.PositionLemmas.{below, within_has}

pub values-timing : (log : Logged) (f : Form) (v : Bool) → IsValue log f v ↔ ((t : List ℤ) × Admissible log t × (truth log t 0 f ≡ v))
values-timing log f v = (λ is. (is.timing, is.admissible, is.value), λ h. record { timing = h.0; admissible = h.1; value = h.2 })

pub values-none : (log : Logged) (f : Form) → ((v : Bool) → IsValue log f v → ⊥) ↔ ((t : List ℤ) → Admissible log t → ⊥)
values-none log f = (
  λ none t admissible. none (truth log t 0 f) (record { timing = t; admissible = admissible; value = refl }),
  λ none v is. none is.timing is.admissible,
)

pub implies-then : (a b : Bool) → implies a b ≡ true → a ≡ true → b ≡ true
implies-then true b h is = h
implies-then false b h is = absurd (cc)

pub implies-from : (a b : Bool) → (a ≡ true → b ≡ true) → implies a b ≡ true
implies-from true b h = h refl
implies-from false b h = refl

not-then : (a : Bool) → not a ≡ true → a ≡ true → ⊥
not-then true h is = cc
not-then false h is = cc

not-from : (a : Bool) → (a ≡ true → ⊥) → not a ≡ true
not-from true h = absurd (h refl)
not-from false h = refl

-- the words of a frame, with some point and each point
module _ {X : Type 0} (F : Frame X) (near : X → X → Bool) (f : X → Bool) (x : X) where
  -- a point from x on that is near x
  pub record Lies (y : X) : Type 0 where
    pub among : Among F.points y
    pub from_here : F.not_after x y ≡ true
    pub near_here : near x y ≡ true

  pub sometimes-some : sometimes F near f x ≡ true → (y : X) × Lies y × (f y ≡ true)
  sometimes-some h =
      let (y, among, is) = any_some _ F.points h in
      let (both, here) = and_parts (F.not_after x y && near x y) (f y) is in
      let (from_here, near_here) = and_parts (F.not_after x y) (near x y) both in
      (y, record { among = among; from_here = from_here; near_here = near_here }, here)

  pub some-sometimes : (y : X) → Lies y → f y ≡ true → sometimes F near f x ≡ true
  some-sometimes y lies here = some_any _ F.points y lies.among (and_from (F.not_after x y && near x y) (f y) (and_from (F.not_after x y) (near x y) lies.from_here lies.near_here) here)

  pub always-each : always F near f x ≡ true → (y : X) → Lies y → f y ≡ true
  always-each h y lies = implies-then (F.not_after x y && near x y) (f y) (all_each _ F.points y h lies.among) (and_from (F.not_after x y) (near x y) lies.from_here lies.near_here)

  pub each-always : ((y : X) → Lies y → f y ≡ true) → always F near f x ≡ true
  each-always each = each_all _ F.points (λ y among. implies-from (F.not_after x y && near x y) (f y) (λ both.
      let (from_here, near_here) = and_parts (F.not_after x y) (near x y) both in
      each y (record { among = among; from_here = from_here; near_here = near_here })))

  -- f holds from x on up to y, without y
  abbrev Spans : X → Type 0
  Spans y = (z : X) → Among F.points z → F.not_after x z ≡ true → F.not_after y z ≡ false → f z ≡ true

  span-each : (y : X) → span F f x y ≡ true → Spans y
  span-each y h z among from_here before =
      implies-then (F.not_after x z && not (F.not_after y z)) (f z) (all_each _ F.points z h among)
      (and_from (F.not_after x z) (not (F.not_after y z)) from_here (not_from_false (F.not_after y z) before))

  each-span : (y : X) → Spans y → span F f x y ≡ true
  each-span y each = each_all _ F.points (λ z among. implies-from (F.not_after x z && not (F.not_after y z)) (f z) (λ both.
      let (from_here, before) = and_parts (F.not_after x z) (not (F.not_after y z)) both in
      each z among from_here (not-true (F.not_after y z) before)))

  pub reaches-some : (g : X → Bool) → reaches F near f g x ≡ true → (y : X) × Lies y × (g y ≡ true) × Spans y
  reaches-some g h =
      let (y, among, is) = any_some _ F.points h in
      let (from_here, rest) = and_parts (F.not_after x y) (witness F near f g x y) is in
      let (both, spans) = and_parts (near x y && g y) (span F f x y) rest in
      let (near_here, there) = and_parts (near x y) (g y) both in
      (y, record { among = among; from_here = from_here; near_here = near_here }, there, span-each y spans)

  pub some-reaches : (g : X → Bool) (y : X) → Lies y → g y ≡ true → Spans y → reaches F near f g x ≡ true
  some-reaches g y lies there spans = some_any _ F.points y lies.among
      (and_from (F.not_after x y) (witness F near f g x y) lies.from_here
      (and_from (near x y && g y) (span F f x y) (and_from (near x y) (g y) lies.near_here there) (each-span y spans)))

is_in-then : (I : Interval) (d : ℤ) → is_in I d ≡ true → LiesIn I d
is_in-then I d h = go I.high (and_parts (int_le (pos I.low) d) _ h)
  where
    go : (high : Option ℕ) → (int_le (pos I.low) d ≡ true) × (option_map_or (λ b. int_le d (pos b)) high true ≡ true) → (pos I.low ≤ℤ d) × IfSome high (λ b. d ≤ℤ pos b)
    go None both = (let low = both.0 in omega (arith, ints), tt)
    go (Some b) both = (let low = both.0 in omega (arith, ints), let high = both.1 in omega (arith, ints))

is_in-from : (I : Interval) (d : ℤ) → LiesIn I d → is_in I d ≡ true
is_in-from I d lies = and_from (int_le (pos I.low) d) (option_map_or (λ b. int_le d (pos b)) I.high true) (let low = lies.0 in grind (arith, ints)) (go I.high lies.1)
  where
    go : (high : Option ℕ) → IfSome high (λ b. d ≤ℤ pos b) → option_map_or (λ b. int_le d (pos b)) high true ≡ true
    go None h = refl
    go (Some b) h = grind (arith, ints)

-- the positions from i on, and those up to i
module _ (t : List ℤ) (I : Interval) (f : ℕ → Bool) (i : ℕ) where
  abbrev Ahead : ℕ → Type 0
  Ahead = Lies (positions_in (positions_of t)) (is_ahead (positions_in (positions_of t)) I) f i

  abbrev Behind : ℕ → Type 0
  Behind = Lies (turned (positions_in (positions_of t))) (is_behind (positions_in (positions_of t)) I) f i

  ahead-then : (j : ℕ) → Ahead j → LiesAhead t I i j
  ahead-then j lies = record { index = below _ j lies.among; from_here = leb-true i j lies.from_here; distance = is_in-then I _ lies.near_here }

  ahead-from : (j : ℕ) → LiesAhead t I i j → Ahead j
  ahead-from j lies = record { among = within_has _ j lies.index; from_here = le-leb i j lies.from_here; near_here = is_in-from I _ lies.distance }

  behind-then : (j : ℕ) → Behind j → LiesBehind t I i j
  behind-then j lies = record { index = below _ j lies.among; up_to_here = leb-true j i lies.from_here; distance = is_in-then I _ lies.near_here }

  behind-from : (j : ℕ) → LiesBehind t I i j → Behind j
  behind-from j lies = record { among = within_has _ j lies.index; from_here = le-leb j i lies.up_to_here; near_here = is_in-from I _ lies.distance }

module _ (log : Logged) (t : List ℤ) (i : ℕ) (I : Interval) (f g : Form) where
  abbrev P : Frame ℕ
  P = positions_in (positions_of t)

  abbrev on : Form → ℕ → Bool
  on h j = truth log t j h

  at_until : IsIndex t i → IsTrueAt log t i (Until I f g) ↔ ((j : ℕ) × LiesAhead t I i j × IsTrueAt log t j g × ((k : ℕ) → i ≤ k → k < j → IsTrueAt log t k f))
  at_until index = (
    λ h. let (j, lies, there, spans) = reaches-some P (is_ahead P I) (on f) i (on g) h in
        let ahead = ahead-then t I (on f) i j lies in
        (j, ahead, there, λ k from_here before. spans k (within_has _ k (let high = ahead.index in omega arith)) (le-leb i k from_here) (lt-leb j k before)),
    λ h. some-reaches P (is_ahead P I) (on f) i (on g) h.0 (ahead-from t I (on f) i h.0 h.1) h.2 (λ k among from_here before. h.3 k (leb-true i k from_here) (leb-false h.0 k before)),
  )

  at_since : IsIndex t i → IsTrueAt log t i (Since I f g) ↔ ((j : ℕ) × LiesBehind t I i j × IsTrueAt log t j g × ((k : ℕ) → j < k → k ≤ i → IsTrueAt log t k f))
  at_since index = (
    λ h. let (j, lies, there, spans) = reaches-some (turned P) (is_behind P I) (on f) i (on g) h in
        (j, behind-then t I (on f) i j lies, there, λ k after up_to_here. spans k (within_has _ k (omega arith)) (le-leb k i up_to_here) (lt-leb k j after)),
    λ h. some-reaches (turned P) (is_behind P I) (on f) i (on g) h.0 (behind-from t I (on f) i h.0 h.1) h.2 (λ k among up_to_here after. h.3 k (leb-false k h.0 after) (leb-true k i up_to_here)),
  )

  at_eventually : IsTrueAt log t i (Eventually I f) ↔ ((j : ℕ) × LiesAhead t I i j × IsTrueAt log t j f)
  at_eventually = (
    λ h. let (j, lies, there) = sometimes-some P (is_ahead P I) (on f) i h in (j, ahead-then t I (on f) i j lies, there),
    λ h. some-sometimes P (is_ahead P I) (on f) i h.0 (ahead-from t I (on f) i h.0 h.1) h.2,
  )

  at_always : IsTrueAt log t i (Always I f) ↔ ((j : ℕ) → LiesAhead t I i j → IsTrueAt log t j f)
  at_always = (
    λ h j lies. always-each P (is_ahead P I) (on f) i h j (ahead-from t I (on f) i j lies),
    λ h. each-always P (is_ahead P I) (on f) i (λ j lies. h j (ahead-then t I (on f) i j lies)),
  )

  at_once : IsTrueAt log t i (Once I f) ↔ ((j : ℕ) × LiesBehind t I i j × IsTrueAt log t j f)
  at_once = (
    λ h. let (j, lies, there) = sometimes-some (turned P) (is_behind P I) (on f) i h in (j, behind-then t I (on f) i j lies, there),
    λ h. some-sometimes (turned P) (is_behind P I) (on f) i h.0 (behind-from t I (on f) i h.0 h.1) h.2,
  )

  at_historically : IsTrueAt log t i (Historically I f) ↔ ((j : ℕ) → LiesBehind t I i j → IsTrueAt log t j f)
  at_historically = (
    λ h j lies. always-each (turned P) (is_behind P I) (on f) i h j (behind-from t I (on f) i j lies),
    λ h. each-always (turned P) (is_behind P I) (on f) i (λ j lies. h j (behind-then t I (on f) i j lies)),
  )

at_or : (log : Logged) (t : List ℤ) (i : ℕ) (f g : Form) → IsTrueAt log t i (Or f g) ↔ (IsTrueAt log t i f ⊎ IsTrueAt log t i g)
at_or log t i f g = (
  λ h. or_cases (truth log t i f) (truth log t i g) h,
  λ h. elim h [ inl left ↦ or_left (truth log t i f) (truth log t i g) left | inr right ↦ or_right (truth log t i f) (truth log t i g) right ],
)

pub table : TruthIsTheTable
table = record {
  constant_true = λ log t i. refl;
  constant_false = λ log t i h. cc;
  proposition = λ log t i host name. refl;
  negation = λ log t i f. (not-then (truth log t i f), not-from (truth log t i f));
  conjunction = λ log t i f g. (and_parts (truth log t i f) (truth log t i g), λ h. and_from (truth log t i f) (truth log t i g) h.0 h.1);
  disjunction = at_or;
  implication = λ log t i f g. (implies-then (truth log t i f) (truth log t i g), implies-from (truth log t i f) (truth log t i g));
  until = λ log t i I f g index. at_until log t i I f g index;
  since = λ log t i I f g index. at_since log t i I f g index;
  eventually = λ log t i I f. at_eventually log t i I f f;
  always = λ log t i I f. at_always log t i I f f;
  once = λ log t i I f. at_once log t i I f f;
  historically = λ log t i I f. at_historically log t i I f f;
}

pub and_3 : (a b c : Bool) → (a && b && c) ≡ true → (a ≡ true) × (b ≡ true) × (c ≡ true)
and_3 true true true h = (refl, refl, refl)
and_3 true true false h = absurd (cc)
and_3 true false c h = absurd (cc)
and_3 false b c h = absurd (cc)
