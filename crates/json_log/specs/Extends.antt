-- What it means that records were added for entries.
use Rattle.std.specs.Prelude.{◌≡◌, ◌⊎◌, ◌++◌, ℕ, ℤ, List, [], ◌∷◌, codes, Option, Some, None, MatchResult, Result}
use Rattle.std.specs.Fmt.{signed_decimal}
use Rattle.log_read.specs.Records.{Record}
use Rattle.json_log.specs.declared.entry.Delays.{Delays}
use Rattle.json_log.specs.declared.entry.Entry.{Entry}
use Rattle.json_log.specs.declared.entry.Part.{Part}
use Rattle.json_log.specs.declared.entry.Part.TheVariants as part
use Rattle.json_log.specs.declared.fault.JsonFault.{JsonFault}
use Rattle.json_log.specs.declared.fault.JsonFault.TheVariants as fault

-- a part of a record, as a field
abbrev pub part_text : Part → List ℕ
part_text (part.Word text) = text.now
part_text (part.Number n) = signed_decimal n
part_text part.Infinite = codes "inf"

-- an entry as a record
abbrev pub record_in : Entry → Record
record_in e = e.kind.now ∷ part_text e.subject ∷ signed_decimal e.number ∷ part_text e.last ∷ []

-- a greatest delay, as a field
abbrev pub most_text : Option ℤ → List ℕ
most_text None = codes "inf"
most_text (Some n) = signed_decimal n

-- delays, as fields
abbrev pub delays_in : Delays → List ℕ × List ℕ
delays_in d = (signed_decimal d.least, most_text d.most)

-- a call ended early: memory ran out, or nothing is due since the shape isn't right
abbrev pub Stops : {X : Type 0} → Option X → JsonFault → Type 0
Stops due f = (f ≡ fault.Memory) ⊎ ((f ≡ fault.Shape) × (due ≡ None))

-- a call added the records that are due behind those that were there, or ended early
abbrev pub Extends : Result (Unit {0}) JsonFault → Option (List Record) → List Record → List Record → Type 0
Extends result due old now = MatchResult result (λ _. (rs : List Record) × (due ≡ Some rs) × (now ≡ old ++ rs)) (Stops due)
