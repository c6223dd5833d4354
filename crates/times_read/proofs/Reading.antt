-- What is known of a file of which some lines were read.
use Rattle.std.proofs.Common.{Err, ◌≡◌, ◌∙◌, sym, ap, refl, arith, ℕ, suc, ◌+◌, ◌-◌, ◌<◌, Bool, true, false, List, [], ◌∷◌, ◌++◌, length, length-append, take, Some, None, cond, add-zero, append_assoc, ℤ}
use Rattle.std.specs.Prelude.{is_none}
use Rattle.std.specs.List.{filter_map, position_from}
use Rattle.std.proofs.Math.Seq.{take-append-add}
use Rattle.std.proofs.lemmas.List.Elements.{filter_map-append}
use Rattle.times_read.specs.declared.fault.TimesFault.TheVariants as fault
use Rattle.times_read.specs.TimesOf.{time_in, first_bad, times_in}

-- so many lines were read, and these times, and the rest follows
pub record IsReadUpTo (all rest : List (List ℕ)) (number : ℕ) (times : List ℤ) : Type 0 where
  pub read : List (List ℕ)
  pub all_are : all ≡ read ++ rest
  pub count : length read ≡ number
  pub clear : first_bad read ≡ None
  pub times_are : times ≡ filter_map time_in read
  pub full : length times ≡ number

position_from-append : {K : Type 0} (test : K → Bool) (i : ℕ) (xs ys : List K) → position_from test i xs ≡ None
    → position_from test i (xs ++ ys) ≡ position_from test (i + length xs) ys
position_from-append test i [] ys none = rw add-zero refl
position_from-append test i (x ∷ xs) ys none = by (test x) (position_from-append test (i + 1) xs ys) none
  where
    same : i + 1 + length xs ≡ i + suc (length xs)
    same = omega arith

    by : (b : Bool) → (position_from test (i + 1) xs ≡ None → position_from test (i + 1) (xs ++ ys) ≡ position_from test (i + 1 + length xs) ys)
        → cond b (Some i) (position_from test (i + 1) xs) ≡ None
        → cond b (Some i) (position_from test (i + 1) (xs ++ ys)) ≡ position_from test (i + suc (length xs)) ys
    by true later none = cc
    by false later none = later none ∙ ap (λ k. position_from test k ys) same

first_bad-append : (read ls : List (List ℕ)) → first_bad read ≡ None → first_bad (read ++ ls) ≡ position_from (λ line. is_none (time_in line)) (1 + length read) ls
first_bad-append read ls clear = position_from-append (λ line. is_none (time_in line)) 1 read ls clear

-- one more line was read
pub read-more : (all rest after : List (List ℕ)) (line : List ℕ) (number : ℕ) (times : List ℤ) (t : ℤ) → IsReadUpTo all rest number times
    → rest ≡ line ∷ after → time_in line ≡ Some t → IsReadUpTo all after (number + 1) (times ++ t ∷ [])
read-more all rest after line number times t before next is = record {
  read = before.read ++ line ∷ [];
  all_are = before.all_are ∙ ap (λ ls. before.read ++ ls) next ∙ sym (append_assoc before.read (line ∷ []) after);
  count = let count = before.count in omega (arith, length-append before.read (line ∷ []));
  clear = first_bad-append before.read (line ∷ []) before.clear ∙ rw is refl;
  times_are = rw (filter_map-append time_in before.read (line ∷ []), is, ← before.times_are) refl;
  full = let full = before.full in omega (arith, length-append times (t ∷ []));
}

-- the line after those read writes no time
pub bad-is : (all rest after : List (List ℕ)) (line : List ℕ) (count number : ℕ) (times : List ℤ) → IsReadUpTo all rest number times → number < count
    → rest ≡ line ∷ after → time_in line ≡ None → times_in count all ≡ Err (fault.Number (number + 1))
bad-is all rest after line count number times before more next none =
    let size = before.count in
    let split : count ≡ length before.read + suc (count - number - 1) = omega arith in
    let front : take count all ≡ before.read ++ line ∷ take (count - number - 1) after =
    ap (λ n. take n all) split ∙ ap (λ ls. take (length before.read + suc (count - number - 1)) ls) (before.all_are ∙ ap (λ ls. before.read ++ ls) next)
    ∙ take-append-add before.read (line ∷ after) (suc (count - number - 1)) in
    let place : 1 + length before.read ≡ number + 1 = omega arith in
    let bad : first_bad (take count all) ≡ Some (number + 1) =
    ap first_bad front ∙ first_bad-append before.read (line ∷ take (count - number - 1) after) before.clear ∙ rw none (ap Some place) in
    rw (bad, times_in) refl
