-- Operands that are those of a row make a command, but for two events that are the same.
use Rattle.std.proofs.Common.{◌≡◌, ◌∙◌, sym, refl, ℕ, true, false, Bool, Option, Some, None, List, [], ◌∷◌}
use Rattle.std.specs.Prelude.{IsSome, is_some, option_map, option_and_then, slice_index_or}
use Rattle.std.proofs.lemmas.Bool.{and_parts}
use Rattle.skew_words.specs.declared.table.Verb.{Verb}
use Rattle.skew_words.specs.declared.table.Verb.TheVariants as verb
use Rattle.skew_words.specs.Table.{are_operands, row_of, value_of}
use Rattle.skew_words.specs.Words.{Command, Demo, Given, Span, Tolerance, Word, command_after, command_from, command_with, conflicts_in, events_of, given_to, seed_of, widening_of}
use Rattle.skew_words.proofs.TableLemmas.{fits-length, five-is, four-is, one-is, three-is, two-is}

mapped-some : {X Y : Type 0} (g : X → Y) (o : Option X) → is_some (option_map g o) ≡ is_some o
mapped-some g (Some x) = refl
mapped-some g None = refl

then-some : {X Y : Type 0} (g : X → Option Y) (o : Option X) (b : Bool) → IsSome o → ((x : X) → is_some (g x) ≡ b) → is_some (option_and_then g o) ≡ b
then-some g (Some x) b some each = each x
then-some g None b some each = absurd (cc)

tolerance-some : (n : ℕ) (value max formula log : Word) → are_operands (row_of verb.Tolerance).operands (value ∷ max ∷ formula ∷ log ∷ []) ≡ true
    → is_some (command_from verb.Tolerance n (value ∷ max ∷ formula ∷ log ∷ [])) ≡ true
tolerance-some n value max formula log fits =
    let first = and_parts _ _ fits in
    let second = and_parts _ _ first.1 in
    then-some (λ v. option_map (λ m. Tolerance n v m formula log) (widening_of max)) (value_of value) true first.0 (λ v. mapped-some (λ m. Tolerance n v m formula log) (widening_of max) ∙ second.0)

demo-some : (n : ℕ) (seed : Word) → are_operands (row_of verb.Demo).operands (seed ∷ []) ≡ true → is_some (command_from verb.Demo n (seed ∷ [])) ≡ true
demo-some n seed fits = mapped-some Demo (seed_of seed) ∙ (and_parts _ _ fits).0

span-some : (n : ℕ) (value from to formula log : Word) → are_operands (row_of verb.Span).operands (value ∷ from ∷ to ∷ formula ∷ log ∷ []) ≡ true
    → is_some (command_from verb.Span n (value ∷ from ∷ to ∷ formula ∷ log ∷ [])) ≡ is_some (events_of from to)
span-some n value from to formula log fits =
    then-some (λ v. option_map (λ events. Span n v events.0 events.1 formula log) (events_of from to)) (value_of value) (is_some (events_of from to)) (and_parts _ _ fits).0
    (λ v. mapped-some (λ events. Span n v events.0 events.1 formula log) (events_of from to))

pub command-some : (v : Verb) (n : ℕ) (ws : List Word) → are_operands (row_of v).operands ws ≡ true → (v ≡ verb.Span → ⊥) → true ≡ is_some (command_from v n ws)
command-some verb.Times n ws fits other = let (log, is) = one-is ws (fits-length (row_of verb.Times).operands ws fits) in rw is refl
command-some verb.Replay n ws fits other = let (formula, log, times, is) = three-is ws (fits-length (row_of verb.Replay).operands ws fits) in rw is refl
command-some verb.Order n ws fits other = let (log, is) = one-is ws (fits-length (row_of verb.Order).operands ws fits) in rw is refl
command-some verb.Check n ws fits other = let (formula, log, is) = two-is ws (fits-length (row_of verb.Check).operands ws fits) in rw is refl
command-some verb.Audit n ws fits other = let (formula, log, report, is) = three-is ws (fits-length (row_of verb.Audit).operands ws fits) in rw is refl
command-some verb.Trim n ws fits other = let (report, is) = one-is ws (fits-length (row_of verb.Trim).operands ws fits) in rw is refl
command-some verb.Json n ws fits other = let (json, is) = one-is ws (fits-length (row_of verb.Json).operands ws fits) in rw is refl
command-some verb.Tolerance n ws fits other = let (value, max, formula, log, is) = four-is ws (fits-length (row_of verb.Tolerance).operands ws fits) in
    rw is (sym (tolerance-some n value max formula log (rw is at fits)))
command-some verb.Span n ws fits other = absurd (other refl)
command-some verb.Demo n ws fits other = let (seed, is) = one-is ws (fits-length (row_of verb.Demo).operands ws fits) in rw is (sym (demo-some n seed (rw is at fits)))

-- of operands of `span` the two events decide
pub span-decided : (n : ℕ) (ws : List Word) → are_operands (row_of verb.Span).operands ws ≡ true
    → is_some (events_of (slice_index_or ws 1 []) (slice_index_or ws 2 [])) ≡ is_some (command_from verb.Span n ws)
span-decided n ws fits = let (value, from, to, formula, log, is) = five-is ws (fits-length (row_of verb.Span).operands ws fits) in rw is (sym (span-some n value from to formula log (rw is at fits)))

-- words that give no command
pub none-after : (v : Verb) (g : Given) (words : List Word) → Some g ≡ given_to v words → is_some (command_with v (conflicts_in g) g.operands) ≡ false → None ≡ command_after v words
none-after v g words given fails = rw (sym given) (go (command_with v (conflicts_in g) g.operands) fails)
  where
    go : (o : Option Command) → is_some o ≡ false → None ≡ o
    go None e = refl
    go (Some command) e = let never : ⊥ = cc in absurd never
