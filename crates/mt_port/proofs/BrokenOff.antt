-- Calls that are made again as long as signals break them off.
use Rattle.std.proofs.Common.{◌<◌, ◌≤◌, ◌+◌, ℕ, zero, suc, Result, arith, add-one}
use Rattle.std.specs.declared.io.Error.{Error}
use Rattle.mt_port.specs.Calls.{BreakOff, IsBrokenOff, IsTold}

-- one more was broken off
pub broken_again : {D : Type 0} (Comes : D → Result ℕ Error → D → Type 0) (n : ℕ) (from mid to : D) (answer : Result ℕ Error)
    → BreakOff Comes n from mid → Comes mid answer to → IsBrokenOff answer → BreakOff Comes (n + 1) from to
broken_again Comes n from mid to answer before called broken = rw add-one (mid, before, record { answer = answer; called = called; broken = broken })

module _ {D T : Type 0} (Comes : D → Result ℕ Error → D → Type 0) (tries : ℕ) (Tells : Result ℕ Error → T → Type 0) where
  -- one wasn't broken off, and is told
  pub answered : (n : ℕ) (from mid to : D) (answer : Result ℕ Error) (told : T) → n < tries → BreakOff Comes n from mid → Comes mid answer to → ¬ IsBrokenOff answer → Tells answer told → IsTold Comes tries Tells from to told
  answered n from mid to answer told within before called whole tells =
      record { before = n; within = within; last = mid; broken = before; answer = answer; called = called; given_up = λ b. absurd (whole b); tells = tells }

  -- all that may be made were broken off
  pub given_up : (n : ℕ) (from to : D) (told : T) → 0 < tries → n ≤ tries → ¬ (n < tries) → BreakOff Comes n from to → ((answer : Result ℕ Error) → IsBrokenOff answer → Tells answer told) → IsTold Comes tries Tells from to told
  given_up zero from to told some within all before tells = absurd (all some)
  given_up (suc n) from to told some within all before tells =
      let last = before.2 in
      record {
        before = n;
        within = omega (arith, within, all);
        last = before.0;
        broken = before.1;
        answer = last.answer;
        called = last.called;
        given_up = λ _. omega (arith, within, all);
        tells = tells last.answer last.broken;
      }
