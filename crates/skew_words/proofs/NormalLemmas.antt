-- What clap makes of the normal list of a command.
use Rattle.std.proofs.Common.{◌≡◌, ◌∙◌, ap, ap₂, refl, sym, true, Bool, false, List, Option, Some, None, [], ◌∷◌}
use Rattle.std.specs.Prelude.{IsSome}
use Rattle.clap.specs.Words.{App, HasMatchesOf, Row, first_of, found_of, matches_of, rows_of, takes}
use Rattle.clap.specs.declared.parser.matches.ArgMatches.{ArgMatches}
use Rattle.clap.proofs.OnLiterals.{clap_on_literals}
use Rattle.clap.proofs.WalkLemmas.{both, first_value-rows}
use Rattle.skew_words.specs.declared.words.Spoken.{Spoken}
use Rattle.skew_words.specs.declared.table.Verb.{Verb}
use Rattle.skew_words.specs.declared.table.Verb.TheVariants as verb
use Rattle.skew_words.specs.Called.{words_in}
use Rattle.skew_words.specs.NormalWords.{IsNormal, command_given, command_said, normal_list, normal_words, option_of, verb_of}
use Rattle.skew_words.specs.Matched.{GivesSpoken, app_for, command_matched}
use Rattle.skew_words.specs.Table.{are_operands, row_of}
use Rattle.skew_words.specs.Words.{Word}
use Rattle.skew_words.proofs.TableLemmas.{fits-length, five-is, four-is, one-is, three-is, two-is}

-- the list is taken, and each value is found under its name
record IsRead (v : Verb) (conflicts : Option Word) (operands : List Word) : Type 0 where
  pub taken : takes (app_for v) (normal_list conflicts operands) ≡ true
  pub found : command_matched v (λ id. first_of id (matches_of (app_for v) (normal_list conflicts operands))) ≡ command_given v conflicts operands

read-times : (log : Word) → IsRead verb.Times None (log ∷ [])
unfolding clap_on_literals
read-times log = record { taken = refl; found = refl }

read-replay : (formula log times : Word) → IsRead verb.Replay None (formula ∷ log ∷ times ∷ [])
unfolding clap_on_literals
read-replay formula log times = record { taken = refl; found = refl }

read-order : (log : Word) → IsRead verb.Order None (log ∷ [])
unfolding clap_on_literals
read-order log = record { taken = refl; found = refl }

read-check : (conflicts : Option Word) (formula log : Word) → IsRead verb.Check conflicts (formula ∷ log ∷ [])
unfolding clap_on_literals
read-check None formula log = record { taken = refl; found = refl }
read-check (Some text) formula log = record { taken = refl; found = refl }

read-audit : (conflicts : Option Word) (formula log report : Word) → IsRead verb.Audit conflicts (formula ∷ log ∷ report ∷ [])
unfolding clap_on_literals
read-audit None formula log report = record { taken = refl; found = refl }
read-audit (Some text) formula log report = record { taken = refl; found = refl }

read-trim : (report : Word) → IsRead verb.Trim None (report ∷ [])
unfolding clap_on_literals
read-trim report = record { taken = refl; found = refl }

read-json : (json : Word) → IsRead verb.Json None (json ∷ [])
unfolding clap_on_literals
read-json json = record { taken = refl; found = refl }

read-tolerance : (conflicts : Option Word) (value max formula log : Word) → IsRead verb.Tolerance conflicts (value ∷ max ∷ formula ∷ log ∷ [])
unfolding clap_on_literals
read-tolerance None value max formula log = record { taken = refl; found = refl }
read-tolerance (Some text) value max formula log = record { taken = refl; found = refl }

read-span : (conflicts : Option Word) (value from to formula log : Word) → IsRead verb.Span conflicts (value ∷ from ∷ to ∷ formula ∷ log ∷ [])
unfolding clap_on_literals
read-span None value from to formula log = record { taken = refl; found = refl }
read-span (Some text) value from to formula log = record { taken = refl; found = refl }

read-demo : (seed : Word) → IsRead verb.Demo None (seed ∷ [])
unfolding clap_on_literals
read-demo seed = record { taken = refl; found = refl }

-- as the row of the first word has it
read-row : (v : Verb) (conflicts : Option Word) (ws : List Word) → are_operands (row_of v).operands ws ≡ true → IsSome (command_given v conflicts ws) → IsRead v conflicts ws
read-row verb.Times None ws fits some = let (log, is) = one-is ws (fits-length (row_of verb.Times).operands ws fits) in rw is (read-times log)
read-row verb.Replay None ws fits some = let (formula, log, times, is) = three-is ws (fits-length (row_of verb.Replay).operands ws fits) in rw is (read-replay formula log times)
read-row verb.Order None ws fits some = let (log, is) = one-is ws (fits-length (row_of verb.Order).operands ws fits) in rw is (read-order log)
read-row verb.Check conflicts ws fits some = let (formula, log, is) = two-is ws (fits-length (row_of verb.Check).operands ws fits) in rw is (read-check conflicts formula log)
read-row verb.Audit conflicts ws fits some = let (formula, log, report, is) = three-is ws (fits-length (row_of verb.Audit).operands ws fits) in rw is (read-audit conflicts formula log report)
read-row verb.Trim None ws fits some = let (report, is) = one-is ws (fits-length (row_of verb.Trim).operands ws fits) in rw is (read-trim report)
read-row verb.Json None ws fits some = let (json, is) = one-is ws (fits-length (row_of verb.Json).operands ws fits) in rw is (read-json json)
read-row verb.Tolerance conflicts ws fits some = let (value, max, formula, log, is) = four-is ws (fits-length (row_of verb.Tolerance).operands ws fits) in
    rw is (read-tolerance conflicts value max formula log)
read-row verb.Span conflicts ws fits some = let (value, from, to, formula, log, is) = five-is ws (fits-length (row_of verb.Span).operands ws fits) in
    rw is (read-span conflicts value from to formula log)
read-row verb.Demo None ws fits some = let (seed, is) = one-is ws (fits-length (row_of verb.Demo).operands ws fits) in rw is (read-demo seed)
read-row verb.Times (Some text) ws fits some = let never : ⊥ = cc in absurd never
read-row verb.Replay (Some text) ws fits some = let never : ⊥ = cc in absurd never
read-row verb.Order (Some text) ws fits some = let never : ⊥ = cc in absurd never
read-row verb.Trim (Some text) ws fits some = let never : ⊥ = cc in absurd never
read-row verb.Json (Some text) ws fits some = let never : ⊥ = cc in absurd never
read-row verb.Demo (Some text) ws fits some = let never : ⊥ = cc in absurd never

-- what is spoken fits its row
fits-row : (s : Spoken) → IsSome (command_said s) → are_operands (row_of s.verb).operands (words_in s.operands) ≡ true
fits-row s some = go (are_operands (row_of s.verb).operands (words_in s.operands)) refl
  where
    go : (b : Bool) → are_operands (row_of s.verb).operands (words_in s.operands) ≡ b → are_operands (row_of s.verb).operands (words_in s.operands) ≡ true
    go true e = e
    go false e = let never : ⊥ = (let none = rw e at some in cc) in absurd never

read-said : (s : Spoken) → IsSome (command_said s) → IsRead s.verb (option_of s) (words_in s.operands)
read-said s some = let fits = fits-row s some in read-row s.verb (option_of s) (words_in s.operands) fits (rw fits at some)

-- ---- one list is not normal in two ways

same-list : (v : Verb) (c d : Option Word) (os ps : List Word) → normal_list c os ≡ normal_list d ps → (c ≡ d) × (os ≡ ps)
same-list v None None os ps same = (refl, cc)
same-list v None (Some t) os ps same = let never : ⊥ = cc in absurd never
same-list v (Some t) None os ps same = let never : ⊥ = cc in absurd never
same-list v (Some t) (Some u) os ps same = (cc, cc)

same-said : (s t : Spoken) → verb_of s ≡ verb_of t → normal_words s ≡ normal_words t → command_said s ≡ command_said t
same-said s t verbs lists =
    let alike = same-list s.verb (option_of s) (option_of t) (words_in s.operands) (words_in t.operands) lists in
    let options : option_of s ≡ option_of t = alike.0 in
    let operands : words_in s.operands ≡ words_in t.operands = alike.1 in
    rw (verbs, options, operands) refl

module _ (v : Verb) (app : App) (list : List Word) (app_is : app ≡ app_for v) (normal : IsNormal v list) where
  said : Spoken
  said = normal.0

  pub normal-taken : takes app list ≡ true
  unfolding said
  normal-taken = ap₂ takes (app_is ∙ ap app_for (sym normal.1)) normal.2 ∙ (read-said said normal.3).taken

  pub normal-found : (m : ArgMatches) → HasMatchesOf app list m → GivesSpoken v list m
  unfolding said
  normal-found m has s first_word list_is =
      let rows : rows_of (found_of m) ≡ matches_of (app_for (verb_of said)) (normal_words said) =
      (has (both _ _ normal-taken).0).0 ∙ ap₂ matches_of (app_is ∙ ap app_for (sym normal.1)) normal.2 in
      let found : command_given said.verb (option_of said) (words_in said.operands) ≡ command_said said = rw (fits-row said normal.3) refl in
      (λ i. command_matched v (λ id. first_value-rows (found_of m) id i)) ∙ ap (λ (r : List Row). command_matched v (λ id. first_of id r)) rows
      ∙ ap (λ (w : Verb). command_matched w (λ id. first_of id (matches_of (app_for (verb_of said)) (normal_words said)))) (sym normal.1)
      ∙ (read-said said normal.3).found ∙ found ∙ same-said said s (normal.1 ∙ sym first_word) (sym normal.2 ∙ list_is)
