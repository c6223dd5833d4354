-- One more piece of a list that is written from the front.
use Rattle.std.specs.Prelude.{Option, Some}
use Rattle.mt_port.specs.Whole.{GaveAtMost, GaveSoMany, IsLonger}
use Rattle.std.proofs.Common.{◌≡◌, ◌<◌, ◌≤◌, ℕ, ◌+◌, ◌-◌, List, ◌++◌, length, take, drop, arith, append_assoc}
use Rattle.std.proofs.Math.Seq.{take-add}
use Rattle.std.proofs.lemmas.Grind.{common_steps}

pub took_more : (now mid old bytes : List ℕ) (i n : ℕ) → now ≡ mid ++ take n (take (length bytes - i) (drop i bytes)) → mid ≡ old ++ take i bytes → now ≡ old ++ take (i + n) bytes
took_more now mid old bytes i n piece before = grind (arith, common_steps, take-add i n bytes, append_assoc)

-- the piece that goes past the limit
pub gave_too_many : (file : Option (List ℕ)) (before filled left rest : List ℕ) (n limit : ℕ) → file ≡ Some (before ++ left) → left ≡ take n filled ++ rest → n ≤ length filled
    → length before + n ≡ limit + 1 → GaveSoMany file rest (limit + 1)
gave_too_many file before filled left rest n limit told split within count = record {
  given = before ++ take n filled;
  count = grind (arith, common_steps);
  split = grind (arith, common_steps);
}

-- a file that is longer than what went past the limit
pub is_longer : (file : Option (List ℕ)) (before filled left rest : List ℕ) (n limit : ℕ) → file ≡ Some (before ++ left) → left ≡ take n filled ++ rest → n ≤ length filled
    → length before + n ≡ limit + 1 → IsLonger file limit
is_longer file before filled left rest n limit told split within count =
    let long : limit < length (before ++ left) = grind (arith, common_steps) in
    rw told long

-- what was given before, where nothing was given since
pub gave_within : (file : Option (List ℕ)) (before left rest : List ℕ) (limit : ℕ) → file ≡ Some (before ++ left) → rest ≡ left → length before ≤ limit → GaveAtMost file rest limit
gave_within file before left rest limit told same short = record { given = before; count = short; split = rw same told }

-- where no bytes were given, all are left
pub given_none : (left filled rest : List ℕ) (n : ℕ) → n ≡ 0 → left ≡ take n filled ++ rest → rest ≡ left
given_none left filled rest n none split = grind (arith, common_steps)
