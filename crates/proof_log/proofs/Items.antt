-- Lists of items of which some were read.
use Rattle.std.proofs.Common.{◌≡◌, ◌∙◌, sym, ap, refl, arith, ℕ, suc, ◌+◌, ◌-◌, ◌<◌, ◌≤◌, List, [], ◌∷◌, ◌++◌, append_assoc, length, length-append, Some, None}
use Rattle.std.specs.Prelude.{option_and_then}
use Rattle.std.proofs.lemmas.List.{append-nil}
use Rattle.proof_log.specs.LinesText.{Word}
use Rattle.proof_log.specs.Reading.{Reading, counted_in, items_in, made, number_in}

module _ {X : Type 0} (read : List Word → Reading X) where
  -- items that stand before others
  abbrev after : List X → Reading (List X) → Reading (List X)
  after xs reading = made (λ ys. xs ++ ys) reading

  -- of so many items these were read, and the words that are left follow them
  pub record AreReadUpTo (all : List Word) (count : ℕ) (items : List X) (left : List Word) : Type 0 where
    pub within : length items ≤ count
    pub same : items_in read count all ≡ after items (items_in read (count - length items) left)

  after-none : (reading : Reading (List X)) → after [] reading ≡ reading
  after-none None = refl
  after-none (Some r) = refl

  pub none-read : (all : List Word) (count : ℕ) → AreReadUpTo all count [] all
  none-read all count =
      let whole : count - length {A = X} [] ≡ count = omega arith in
      record { within = omega arith; same = sym (after-none (items_in read count all)) ∙ ap (λ n. after [] (items_in read n all)) (sym whole) }

  after-more : (xs : List X) (x : X) (reading : Reading (List X)) → after xs (made (λ ys. x ∷ ys) reading) ≡ after (xs ++ x ∷ []) reading
  after-more xs x None = refl
  after-more xs x (Some r) = ap (λ (ys : List X). Some (ys, r.1)) (sym (append_assoc xs (x ∷ []) r.0))

  -- what is left begins with an item
  opened : (count : ℕ) (items : List X) (left : List Word) → length items < count
      → items_in read (count - length items) left ≡ option_and_then (λ x. made (λ xs. x.0 ∷ xs) (items_in read (count - length items - 1) x.1)) (read left)
  opened count items left more =
      let one : count - length items ≡ suc (count - length items - 1) = omega arith in
      ap (λ n. items_in read n left) one

  pub one-read : (all : List Word) (count : ℕ) (items : List X) (left : List Word) (x : X) (rest : List Word) → AreReadUpTo all count items left → length items < count → read left ≡ Some (x, rest)
      → AreReadUpTo all count (items ++ x ∷ []) rest
  one-read all count items left x rest before more is =
      let size : length (items ++ x ∷ []) ≡ length items + 1 = length-append items (x ∷ []) in
      let fewer : count - length items - 1 ≡ count - length (items ++ x ∷ []) = omega arith in
      record {
        within = omega arith;
        same = before.same ∙ ap (after items) (opened count items left more ∙ rw is refl) ∙ after-more items x (items_in read (count - length items - 1) rest)
            ∙ ap (λ n. after (items ++ x ∷ []) (items_in read n rest)) fewer;
      }

  pub stopped : (all : List Word) (count : ℕ) (items : List X) (left : List Word) → AreReadUpTo all count items left → length items < count → read left ≡ None → items_in read count all ≡ None
  stopped all count items left before more none =
      let gone : items_in read (count - length items) left ≡ None = opened count items left more ∙ rw none refl in
      before.same ∙ ap (after items) gone

  pub all-read : (all : List Word) (count : ℕ) (items : List X) (left : List Word) → AreReadUpTo all count items left → count ≤ length items → items_in read count all ≡ Some (items, left)
  all-read all count items left before full =
      let none : count - length items ≡ 0 = omega arith in
      before.same ∙ ap (λ n. after items (items_in read n left)) none ∙ ap (λ (xs : List X). Some (xs, left)) (append-nil items)

  -- a number, and then so many items
  pub counted : (all first : List Word) (count : ℕ) (reading : Reading (List X)) → number_in all ≡ Some (count, first) → items_in read count first ≡ reading → counted_in read all ≡ reading
  counted all first count reading number items = ap (option_and_then (λ n. items_in read n.0 n.1)) number ∙ items

  pub uncounted : (all : List Word) → number_in all ≡ None → counted_in read all ≡ None
  uncounted all none = ap (option_and_then (λ n. items_in read n.0 n.1)) none
