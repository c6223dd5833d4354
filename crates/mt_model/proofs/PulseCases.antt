-- Small logs with pulses, with what the definitions say of them. The numbers are worked out by hand.
use Rattle.std.proofs.Common.{◌≡◌, refl, List, [], ◌∷◌, true, false, Some, codes, ℤ, pos}
use Rattle.mt_model.specs.declared.log.Act.TheVariants.{Set, Clear, Note, Pulse}
use Rattle.mt_model.specs.Form.{Eventually, Prop}
use Rattle.mt_model.specs.Log.{Logged, plain_log}
use Rattle.mt_model.specs.State.{pulses_of, state}
use Rattle.mt_model.specs.Truth.{truth}
use Rattle.mt_model.proofs.WorkedCases.{host, row}

-- A proposition is pulsed at 10, and a note follows at 11.

abbrev pulsed : Logged
pulsed = plain_log (host (codes "a") (pos 0) (pos 0) ∷ host (codes "b") (pos 0) (pos 0) ∷ []) (row 0 (pos 10) (Pulse (codes "p")) ∷ row 0 (pos 11) (Note (codes "n")) ∷ [])

abbrev exact : List ℤ
exact = pos 10 ∷ pos 11 ∷ []

-- It is true at the instant of the pulse.
at_its_instant : state pulsed exact (pos 10) 0 (codes "p") ≡ true
at_its_instant = refl

-- It isn't after it.
not_after : state pulsed exact (pos 11) 0 (codes "p") ≡ false
not_after = refl

-- Nor before it.
not_before : state pulsed exact (pos 9) 0 (codes "p") ≡ false
not_before = refl

-- Nor is another proposition.
not_another : state pulsed exact (pos 10) 0 (codes "q") ≡ false
not_another = refl

-- Nor that of another host.
not_of_another_host : state pulsed exact (pos 10) 1 (codes "p") ≡ false
not_of_another_host = refl

-- A note of its name is no pulse.
no_note : state pulsed exact (pos 11) 0 (codes "n") ≡ false
no_note = refl

-- So `a.p` is true at the first position.
true_at_first : truth pulsed exact 0 (Prop (codes "a") (codes "p")) ≡ true
true_at_first = refl

-- 1 later it isn't, so `F[1,1] a.p` is false.
false_one_later : truth pulsed exact 0 (Eventually (record { low = 1; high = Some 1 }) (Prop (codes "a") (codes "p"))) ≡ false
false_one_later = refl

-- A pulse neither sets nor clears.

abbrev around : Logged
around = plain_log (host (codes "a") (pos 0) (pos 0) ∷ []) (row 0 (pos 10) (Clear (codes "p")) ∷ row 0 (pos 10) (Pulse (codes "p")) ∷ row 0 (pos 11) (Note (codes "n")) ∷ row 0 (pos 12) (Set (codes "p")) ∷ row 0 (pos 13) (Pulse (codes "p")) ∷ row 0 (pos 14) (Note (codes "n")) ∷ [])

abbrev times : List ℤ
times = pos 10 ∷ pos 10 ∷ pos 11 ∷ pos 12 ∷ pos 13 ∷ pos 14 ∷ []

-- Both pulses, in the order of the log.
both_pulses : pulses_of around 0 (codes "p") ≡ 1 ∷ 4 ∷ []
both_pulses = refl

-- Cleared and pulsed at one instant it is true.
cleared_and_pulsed : state around times (pos 10) 0 (codes "p") ≡ true
cleared_and_pulsed = refl

-- After that instant the clear counts.
cleared_after : state around times (pos 11) 0 (codes "p") ≡ false
cleared_after = refl

-- What was set stays so after a pulse.
set_after : state around times (pos 14) 0 (codes "p") ≡ true
set_after = refl

-- A pulse and then a clear at one instant.

abbrev exchanged : Logged
exchanged = plain_log (host (codes "a") (pos 0) (pos 0) ∷ []) (row 0 (pos 10) (Pulse (codes "p")) ∷ row 0 (pos 10) (Clear (codes "p")) ∷ [])

-- The order of the two plays no part.
pulsed_and_cleared : state exchanged (pos 10 ∷ pos 10 ∷ []) (pos 10) 0 (codes "p") ≡ true
pulsed_and_cleared = refl
