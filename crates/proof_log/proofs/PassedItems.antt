-- Items that are passed over, of which none is kept.
use Rattle.std.proofs.Common.{◌≡◌, refl, arith, ℕ, ◌+◌, ◌-◌, ◌<◌, ◌≤◌, List, [], ◌∷◌, ◌++◌, length, length-append, Some, None}
use Rattle.proof_log.specs.declared.line.Line.{Line}
use Rattle.proof_log.specs.declared.line.Line.TheVariants as line
use Rattle.proof_log.specs.LinesText.{Word}
use Rattle.proof_log.specs.Reading.{Reading, counted_in, number_in}
use Rattle.proof_log.proofs.Items.{AreReadUpTo, all-read, counted, none-read, one-read, stopped}

module _ {X : Type 0} (read : List Word → Reading X) where
  -- after a number of items so many of them were passed, and the words that are left follow these
  pub record ArePassed (words left : List Word) (count passed : ℕ) : Type 0 where
    pub first : List Word
    pub number : number_in words ≡ Some (count, first)
    pub items : List X
    pub size : length items ≡ passed
    pub read_to : AreReadUpTo read first count items left

  pub none-passed : (words first : List Word) (count : ℕ) → number_in words ≡ Some (count, first) → ArePassed words first count 0
  none-passed words first count is = record { first = first; number = is; items = []; size = refl; read_to = none-read read first count }

  module _ (words left : List Word) (count passed : ℕ) (before : ArePassed words left count passed) where
    pub one-passed : (x : X) (rest : List Word) → passed < count → read left ≡ Some (x, rest) → ArePassed words rest count (passed + 1)
    one-passed x rest more is = record {
      first = before.first;
      number = before.number;
      items = before.items ++ x ∷ [];
      size = omega (arith, length-append before.items (x ∷ []), before.size);
      read_to = one-read read before.first count before.items left x rest before.read_to (omega (arith, before.size)) is;
    }

    pub all-passed : count ≤ passed → (items : List X) × (counted_in read words ≡ Some (items, left))
    all-passed full =
        (before.items, counted read words before.first count (Some (before.items, left)) before.number (all-read read before.first count before.items left before.read_to (omega (arith, before.size))))

    pub none-left : passed < count → read left ≡ None → counted_in read words ≡ None
    none-left more none = counted read words before.first count None before.number (stopped read before.first count before.items left before.read_to (omega (arith, before.size)) none)
