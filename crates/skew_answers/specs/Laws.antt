-- That written times are read.
use Rattle.std.specs.Prelude.{◌≡◌, List, length, All, Ok, ℤ}
use Rattle.mt_model.specs.declared.limits.TheConstants.{MAX_TIME}
use Rattle.mt_model.specs.Log.{IsWithin}
use Rattle.times_read.specs.TimesOf.{times_of}
use Rattle.skew_answers.specs.Texts.{times_text}

-- the text of times, as a file for so many rows, has these times
abbrev pub TimesReadBack : Type 0
TimesReadBack = (t : List ℤ) → All (IsWithin MAX_TIME) t → times_of (length t) (times_text t) ≡ Ok t
