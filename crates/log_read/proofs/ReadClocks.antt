-- How many clocks readings are of, where the clocks stand in the order in which they are first read.
use Rattle.std.proofs.Common.{◌≡◌, ap, refl, arith, ℕ, zero, suc, ◌<◌, ◌≤◌, max, List, [], ◌∷◌, ◌++◌, length, length-append, get_or, take}
use Rattle.std.specs.Prelude.{All}
use Rattle.std.proofs.Math.Seq.{take-append_seam}
use Rattle.std.proofs.lemmas.List.{get_or_append_left, get_or_at, take-append-le}
use Rattle.std.proofs.lemmas.List.Elements.{All-head, All-tail}
use Rattle.mt_model.specs.declared.reading.Reading.{Reading}
use Rattle.mt_model.specs.Log.{AreInTurn, AreReadings, IsRead}

-- one more than the last clock that some reading is of, and 0 for no readings
abbrev pub clocks_read : List Reading → ℕ
clocks_read [] = 0
clocks_read (r ∷ rs) = max (suc r.clock) (clocks_read rs)

pub clocks_read-push : (rs : List Reading) (r : Reading) → clocks_read (rs ++ r ∷ []) ≡ max (clocks_read rs) (suc r.clock)
clocks_read-push [] r = omega arith
clocks_read-push (x ∷ xs) r = let more = clocks_read-push xs r in omega (arith, more)

clock-within : (rs : List Reading) (i : ℕ) (d : Reading) → i < length rs → (get_or rs i d).clock < clocks_read rs
clock-within [] i d within = absurd (omega arith)
clock-within (r ∷ rs) zero d within = omega arith
clock-within (r ∷ rs) (suc i) d within = let more = clock-within rs i d (omega (arith, within)) in omega (arith, more)

-- a clock that is read is one of them
read-within : (rs : List Reading) (k : ℕ) → IsRead k rs → k < clocks_read rs
read-within rs k (i, y, within, at, is) = let low = clock-within rs i y within in let same = ap (λ (r : Reading). r.clock) at in omega (arith, low, same, is)

pub clocks_read-few : (rs : List Reading) (n : ℕ) → All (λ r. r.clock < n) rs → clocks_read rs ≤ n
clocks_read-few [] n all = omega arith
clocks_read-few (r ∷ rs) n all =
    let here = All-head (λ r. r.clock < n) r rs all in
    let more = clocks_read-few rs n (All-tail (λ r. r.clock < n) r rs all) in
    omega (arith, here, more)

all-read : (rs : List Reading) (n : ℕ) → ((k : ℕ) → k < n → IsRead k rs) → n ≤ clocks_read rs
all-read rs zero read = omega arith
all-read rs (suc m) read = let last = read-within rs m (read m (omega arith)) in omega (arith, last)

-- each reading is of a clock that those before it are of, or of the next one
abbrev pub AreTurned : List Reading → Type 0
AreTurned rs = (i : ℕ) (d : Reading) → i < length rs → (get_or rs i d).clock ≤ clocks_read (take i rs)

turned-at : (rs : List Reading) (i : ℕ) (d : Reading) (c : ℕ) → (get_or rs i d).clock ≡ c → AreInTurn rs → i < length rs → c ≤ clocks_read (take i rs)
turned-at rs i d zero is turn within = omega arith
turned-at rs i d (suc k) is turn within = let low = read-within (take i rs) k (turn i k d within (omega (arith, is))) in omega (arith, low)

pub turned : (rs : List Reading) → AreInTurn rs → AreTurned rs
turned rs turn i d within = turned-at rs i d (get_or rs i d).clock refl turn within

pub turned-front : (xs ys : List Reading) → AreTurned (xs ++ ys) → AreTurned xs
turned-front xs ys turn i d within =
    let whole = turn i d (let sum = length-append xs ys in omega (arith, sum, within)) in
    rw (get_or_append_left xs ys d i within, take-append-le i xs ys (let low : i ≤ length xs = omega (arith, within) in low)) at whole

pub turned-here : (xs : List Reading) (r : Reading) (ys : List Reading) → AreTurned (xs ++ r ∷ ys) → r.clock ≤ clocks_read xs
turned-here xs r ys turn =
    let whole = turn (length xs) r (let sum = length-append xs (r ∷ ys) in omega (arith, sum)) in
    rw (get_or_at xs r ys r (length xs) refl, take-append_seam xs (r ∷ ys)) at whole

-- the readings of a log are of all its clocks
pub all-clocks : (hosts rows clocks : ℕ) (rs : List Reading) → AreReadings hosts rows clocks rs → clocks_read rs ≡ clocks
all-clocks hosts rows clocks rs are =
    let few = clocks_read-few rs clocks (λ k d within. (are.each k d within).clock) in
    let all = all-read rs clocks are.read in
    omega (arith, few, all)
