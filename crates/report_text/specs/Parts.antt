-- The lines that say what follows them, and what stands at the front of bytes.
use Rattle.std.specs.Prelude.{◌≡◌, ℕ, Bool, true, List, ◌++◌, codes, Option, MatchOption, ℤ}
use Rattle.std.specs.Borrow.{Bor}
use Rattle.std.specs.Fmt.{decimal, signed_decimal}
use Rattle.mt_model.specs.declared.limits.TheConstants.{MAX_TIME}
use Rattle.mt_model.specs.Log.{IsWithin}
use Rattle.proof_log.specs.declared.line.Line.{Line}
use Rattle.proof_log.specs.LinesText.{line_text}
use Rattle.proof_log.specs.Spelled.{IsNumber, IsSpelled as IsSpelledLine}
use Rattle.report_text.specs.declared.part.Kind.{Kind}
use Rattle.report_text.specs.declared.part.Kind.TheVariants as kind
use Rattle.report_text.specs.declared.part.Opening.{Opening}
use Rattle.report_text.specs.declared.part.Opening.TheVariants as opening
use Rattle.report_text.specs.ReportOf.{LacksNewline}
use Rattle.report_text.specs.ReportText.{ended, events_line, kind_line}

-- bytes cut at their first newline
pub record IsCut (bytes line rest : List ℕ) : Type 0 where
  pub lacks : LacksNewline line
  pub split : bytes ≡ ended line ++ rest

-- the line is these words and this number, which is below 2^32
pub record IsNumbered (words line : List ℕ) (n : ℕ) : Type 0 where
  pub number : IsNumber n
  pub text : words ++ decimal n ≡ line

-- the line is the spelling of a value by its text without the newline
pub record IsLineOf {X : Type 0} (Is : X → Type 0) (spelling : X → List ℕ) (line : List ℕ) (x : X) : Type 0 where
  pub is : Is x
  pub text : spelling x ≡ line

-- the bytes begin with the text of this value, and the rest follows
pub record IsFront {X : Type 0} (Is : X → Type 0) (text : X → List ℕ) (bytes : List ℕ) (x : X) (rest : List ℕ) : Type 0 where
  pub is : Is x
  pub split : bytes ≡ text x ++ rest

-- the bytes begin with the text of no value
abbrev pub NoFront : {X : Type 0} → (X → Type 0) → (X → List ℕ) → List ℕ → Type 0
NoFront Is text bytes = (x : _) (rest : List ℕ) → Is x → bytes ≡ text x ++ rest → ⊥

-- where the bytes begin with the text of a value, that is read, and what follows its text
abbrev pub ReadsFront : {X : Type 0} → (X → Type 0) → (X → List ℕ) → List ℕ → Option (X × Bor (List ℕ)) → Type 0
ReadsFront Is text bytes found = (x : _) (after : List ℕ) → Is x → bytes ≡ text x ++ after → MatchOption found ⊥ (λ r. (r.0 ≡ x) × (r.1.now ≡ after))

-- the number of lines that a section's first line states, if it states one, is below 2^32
abbrev pub IsKind : Kind → Type 0
IsKind kind.Witness = Unit {0}
IsKind (kind.Refuted n) = IsNumber n
IsKind (kind.Unknown n) = IsNumber n

-- the first line of a section of this kind, with its newline
abbrev pub kind_text : Bool → Kind → List ℕ
kind_text v k = ended (kind_line v k)

-- the number that the line after the number of events states, if it states one, is below 2^32
abbrev pub IsOpening : Opening → Type 0
IsOpening (opening.Inconsistent n) = IsNumber n
IsOpening (opening.OnTrue k) = IsKind k

-- that line, which begins a walk or the true section
abbrev pub opening_line : Opening → List ℕ
opening_line (opening.Inconsistent n) = codes "inconsistent " ++ decimal n
opening_line (opening.OnTrue k) = kind_line true k

-- that line with its newline
abbrev pub opening_text : Opening → List ℕ
opening_text o = ended (opening_line o)

-- the line with the number of events, with its newline
abbrev pub events_text : ℕ → List ℕ
events_text n = ended (events_line n)

-- the line is the spelling of a time without the newline
abbrev pub IsTimeLine : List ℕ → ℤ → Type 0
IsTimeLine line t = IsLineOf (IsWithin MAX_TIME) signed_decimal line t

-- the bytes begin with a line of a derivation, and the rest follows
abbrev pub BeginWithLine : List ℕ → List ℕ → Type 0
BeginWithLine bytes rest = (line : Line) × IsFront IsSpelledLine line_text bytes line rest
