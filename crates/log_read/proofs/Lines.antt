-- The records of a text of lines of plain fields are those fields, line by line.
use Rattle.std.proofs.Common.{◌≡◌, ◌∙◌, sym, ap, refl, arith, ℕ, ◌≤◌, false, List, [], ◌∷◌, ◌++◌, length, Some}
use Rattle.std.specs.Prelude.{All}
use Rattle.std.specs.List.{flat_map, join_with_byte, list_any}
use Rattle.std.proofs.lemmas.List.{append-nil}
use Rattle.std.proofs.lemmas.List.Elements.{All-head, All-tail}
use Rattle.csv.specs.Machine.{next_record}
use Rattle.csv.specs.Reading.{Reached, default_config, records}
use Rattle.csv.specs.Writing.{default_writer, field_text, fields_text, is_blank, needs_byte, read_back, row_text}
use Rattle.csv.specs.declared.parser.State.TheVariants as st
use Rattle.csv.proofs.RoundTrip.{read-write}
use Rattle.log_read.specs.Records.{Record}
use Rattle.log_read.specs.LogText.{comma, newline, line_of}
use Rattle.log_read.proofs.AllRecords.{all-records}

-- a field without a comma, a quote or the end of a line
abbrev pub IsPlainField : List ℕ → Type 0
IsPlainField field = list_any (needs_byte default_writer) field ≡ false

-- two fields or more, all of them plain
pub record IsLine (r : Record) : Type 0 where
  pub some : 2 ≤ length r
  pub fields : All IsPlainField r

plain-text : (x : List ℕ) → IsPlainField x → field_text default_writer x ≡ x
plain-text x plain = rw plain refl

-- a field, and those after it with their commas
joined : (x : List ℕ) (ys : List (List ℕ)) → All IsPlainField (x ∷ ys) → join_with_byte comma (x ∷ ys) ≡ field_text default_writer x ++ fields_text default_writer ys
unfolding fields_text
joined x [] plain = sym (append-nil (field_text default_writer x) ∙ plain-text x (All-head IsPlainField x [] plain))
joined x (y ∷ ys) plain =
    let more = joined y ys (All-tail IsPlainField x (y ∷ ys) plain) in
    rw (plain-text x (All-head IsPlainField x (y ∷ ys) plain), more) refl

-- a line of plain fields is what `csv` writes of them
line-row_text : (r : Record) → IsLine r → line_of r ≡ row_text default_writer r
unfolding is_blank
line-row_text [] line = absurd (omega (arith, line.some))
line-row_text (x ∷ []) line = absurd (omega (arith, line.some))
line-row_text (x ∷ y ∷ ys) line = ap (λ t. t ++ newline ∷ []) (joined x (y ∷ ys) line.fields)

read_back-line : (r : Record) → IsLine r → read_back r ≡ r
read_back-line [] line = absurd (omega (arith, line.some))
read_back-line (x ∷ xs) line = refl

-- a line is read as its fields
line-read : (r : Record) (rest : List ℕ) → IsLine r → next_record default_config st.StartRecord [] [] (line_of r ++ rest) ≡ Some (r, st.StartRecord, rest)
line-read r rest line = rw (line-row_text r line) (read-write r rest ∙ rw (read_back-line r line) refl)

-- lines are read one after the other
lines-reached : (rs : List Record) → All IsLine rs → Reached default_config st.StartRecord (flat_map line_of rs) rs st.StartRecord []
unfolding Reached
lines-reached [] lines = (refl, refl)
lines-reached (r ∷ rs) lines =
    ((r, st.StartRecord, flat_map line_of rs), line-read r (flat_map line_of rs) (All-head IsLine r rs lines), refl, lines-reached rs (All-tail IsLine r rs lines))

-- the records of a text of lines
pub records-lines : (rs : List Record) → All IsLine rs → records default_config (flat_map line_of rs) ≡ rs
unfolding next_record
records-lines rs lines = all-records (flat_map line_of rs) rs (st.StartRecord, [], lines-reached rs lines, refl)
