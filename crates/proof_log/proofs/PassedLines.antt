-- Lines that are passed over: what a reading of which only the atoms are kept says of its line.
use Rattle.std.proofs.Common.{◌≡◌, ◌∙◌, sym, ap, subst, refl, arith, ℕ, ◌<◌, ◌≤◌, ◌==◌, ◌↔◌, Bool, true, false, List, [], ◌∷◌, ◌++◌, length, map, Some, None}
use Rattle.std.specs.Prelude.{IsTrue, option_and_then}
use Rattle.std.specs.List.{slice_split}
use Rattle.std.proofs.lemmas.Bool.Decides.{nat_tests}
use Rattle.std.proofs.lemmas.List.{length-map, map-append}
use Rattle.memchr.specs.Find.{is_byte}
use Rattle.axiom_rules.specs.declared.literal.Atom.{Atom}
use Rattle.axiom_rules.specs.declared.literal.Literal.{Literal}
use Rattle.proof_log.specs.declared.line.Hint.{Hint}
use Rattle.proof_log.specs.declared.line.Line.{Line}
use Rattle.proof_log.specs.declared.line.Line.TheVariants as line
use Rattle.proof_log.specs.LinesOf.{GivesLine, HasAtomsOnce, IsLine}
use Rattle.proof_log.specs.LinesText.{Word, space}
use Rattle.proof_log.specs.Reading.{Reading, counted_in, hint_in, learn_in, line_in, literal_in, made, number_in, step_in, whole, words_after}
use Rattle.proof_log.proofs.AtomsApart.{AreApart, atom_of, decided}
use Rattle.proof_log.proofs.Items.{AreReadUpTo, all-read, counted, none-read, one-read, stopped}
use Rattle.proof_log.proofs.LineReading.{learn-is, line-is, some_same, spelled-once, whole-ended, whole-going_on}

-- ---- atoms that were kept

-- after a number of literals these were read, of which the atoms are kept, and the words that are left follow them
pub record AreKept (words left : List Word) (count : ℕ) (atoms : List Atom) : Type 0 where
  pub first : List Word
  pub number : number_in words ≡ Some (count, first)
  pub lits : List Literal
  pub held : atoms ≡ map atom_of lits
  pub read_to : AreReadUpTo literal_in first count lits left

pub none-kept : (words first : List Word) (count : ℕ) (atoms : List Atom) → atoms ≡ [] → number_in words ≡ Some (count, first) → AreKept words first count atoms
none-kept words first count atoms none is = record { first = first; number = is; lits = []; held = none; read_to = none-read literal_in first count }

module _ (words left : List Word) (count : ℕ) (atoms : List Atom) (before : AreKept words left count atoms) where
  size : length atoms ≡ length before.lits
  size = ap length before.held ∙ length-map before.lits atom_of

  pub one-kept : (l : Literal) (rest : List Word) (new : List Atom) → length atoms < count → literal_in left ≡ Some (l, rest) → new ≡ atoms ++ l.atom ∷ [] → AreKept words rest count new
  one-kept l rest new more is pushed = record {
    first = before.first;
    number = before.number;
    lits = before.lits ++ l ∷ [];
    held = pushed ∙ ap (λ as_. as_ ++ l.atom ∷ []) before.held ∙ sym (map-append atom_of before.lits (l ∷ []));
    read_to = one-read literal_in before.first count before.lits left l rest before.read_to (omega (arith, more, size)) is;
  }

  pub all-kept : count ≤ length atoms → (lits : List Literal) × (counted_in literal_in words ≡ Some (lits, left)) × (atoms ≡ map atom_of lits)
  all-kept full = (
    before.lits,
    counted literal_in words before.first count (Some (before.lits, left)) before.number
        (all-read literal_in before.first count before.lits left before.read_to (omega (arith, full, size))),
    before.held,
  )

  pub no-more_kept : length atoms < count → literal_in left ≡ None → counted_in literal_in words ≡ None
  no-more_kept more none = counted literal_in words before.first count None before.number (stopped literal_in before.first count before.lits left before.read_to (omega (arith, more, size)) none)

-- ---- whether a line was read

-- nothing was
pub none-given : (reading : Reading Line) → reading ≡ None → GivesLine (whole reading) → ⊥
none-given reading none gives =
    let gone : whole reading ≡ None = ap whole none in
    let is = gives.is in
    cc

module _ (reading : Reading Line) (l : Line) (rest : List ℕ) (is : reading ≡ Some (l, words_after rest)) where
  -- a line and nothing after it
  pub given : length rest ≡ 0 → HasAtomsOnce l → GivesLine (whole reading)
  given empty once = record { line = l; is = whole-ended reading l rest is empty; once = once }

  given-once : length rest ≡ 0 → GivesLine (whole reading) → HasAtomsOnce l
  given-once empty gives = subst HasAtomsOnce (some_same gives.line l (sym gives.is ∙ whole-ended reading l rest is empty)) gives.once

  -- more follows it
  pub longer-given : 0 < length rest → GivesLine (whole reading) → ⊥
  longer-given some gives =
      let none = whole-going_on reading l rest is some in
      let found = gives.is in
      cc

  -- what follows decides
  pub by-rest : HasAtomsOnce l → (b : Bool) → b ≡ (length rest == 0) → IsTrue b ↔ GivesLine (whole reading)
  by-rest once true test = (λ yes. given (grind (arith, nat_tests)) once, λ gives. refl)
  by-rest once false test = (λ no. absurd (cc), λ gives. absurd (longer-given (grind (arith, nat_tests)) gives))

module _ (ws : List Word) where
  -- no steps, no literals, or no hints
  pub no-steps : counted_in step_in ws ≡ None → made line.Cycle (counted_in step_in ws) ≡ None
  no-steps none = ap (made line.Cycle) none

  pub no-literals : counted_in literal_in ws ≡ None → learn_in ws ≡ None
  no-literals none = ap (option_and_then (λ (a : List Literal × List Word). made (λ (h : List Hint). line.Learn a.0 h) (counted_in hint_in a.1))) none

  pub no-hints_after : (lits : List Literal) (after : List Word) → counted_in literal_in ws ≡ Some (lits, after) → counted_in hint_in after ≡ None → learn_in ws ≡ None
  no-hints_after lits after first none =
      ap (option_and_then (λ (a : List Literal × List Word). made (λ (h : List Hint). line.Learn a.0 h) (counted_in hint_in a.1))) first ∙ ap (made (λ (h : List Hint). line.Learn lits h)) none

  -- the atoms decide
  pub by-atoms : (after : List Word) (rest : List ℕ) (lits : List Literal) (hints : List Hint) (atoms : List Atom) (b : Bool)
      → counted_in literal_in ws ≡ Some (lits, after) → counted_in hint_in after ≡ Some (hints, words_after rest) → atoms ≡ map atom_of lits → length rest ≡ 0
      → IsTrue b ↔ AreApart atoms → IsTrue b ↔ GivesLine (whole (learn_in ws))
  by-atoms after rest lits hints atoms b first second held empty apart =
      let is = learn-is ws after (words_after rest) lits hints first second in
      let once = decided atoms lits b held apart in (
        λ yes. given (learn_in ws) (line.Learn lits hints) rest is empty (once.0 yes),
        λ gives. once.1 (given-once (learn_in ws) (line.Learn lits hints) rest is empty gives),
      )

-- bytes that are a line
pub line-given : (bytes : List ℕ) (l : Line) → IsLine bytes l → GivesLine (line_in (slice_split (is_byte space) bytes))
line-given bytes l is = record { line = l; is = line-is bytes l is; once = spelled-once l is.spelled }
