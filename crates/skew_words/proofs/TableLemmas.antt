-- The table of commands, read one row or one operand after another.
use Rattle.std.proofs.Common.{◌≡◌, ◌∙◌, sym, ap, refl, ℕ, suc, ◌+◌, ◌<◌, Bool, true, false, List, [], ◌∷◌, length, get_or, map, drop, add-one, drop-cons, arith, true≢false}
use Rattle.std.specs.Prelude.{fold, nat_eq}
use Rattle.std.specs.List.{find}
use Rattle.std.proofs.lemmas.Bool.Decides.{nat_tests}
use Rattle.skew_words.specs.declared.table.Operand.{Operand}
use Rattle.skew_words.specs.Table.{are_operands, is_of_kind, kind_of}
use Rattle.skew_words.specs.Words.{Word}

-- an element that does not pass is gone past
pub find-next : {X : Type 0} (p : X → Bool) (xs : List X) (i : ℕ) (d : X) → i < length xs → p (get_or xs i d) ≡ false → find p (drop i xs) ≡ find p (drop (i + 1) xs)
find-next p xs i d within fails = rw (drop-cons xs i d within, fails, add-one) refl

-- a fold takes one element more
pub fold-next : {X Y Z : Type 0} (f : Z → Y → Z) (r : X → Y) (z : Z) (xs : List X) (i : ℕ) (d : X) → i < length xs
    → fold f z (map r (drop i xs)) ≡ fold f (f z (r (get_or xs i d))) (map r (drop (i + 1) xs))
fold-next f r z xs i d within = rw (drop-cons xs i d within, add-one) refl

-- the operands from here on are still to be read
abbrev pub FitsFrom : List Operand → List Word → ℕ → Type 0
FitsFrom os ws i = are_operands os ws ≡ are_operands (drop i os) (drop i ws)

-- a word more on both sides
fits-more : (o : Operand) (os : List Operand) (w : Word) (ws : List Word) → are_operands os ws ≡ false → are_operands (o ∷ os) (w ∷ ws) ≡ false
fits-more o os w ws differ = go (is_of_kind (kind_of o) w) refl
  where
    go : (b : Bool) → is_of_kind (kind_of o) w ≡ b → are_operands (o ∷ os) (w ∷ ws) ≡ false
    go false e = rw e refl
    go true e = rw e differ

pub fits-count : (os : List Operand) (ws : List Word) → (length os ≡ length ws → ⊥) → are_operands os ws ≡ false
fits-count [] [] differ = absurd (differ refl)
fits-count [] (w ∷ ws) differ = refl
fits-count (o ∷ os) [] differ = refl
fits-count (o ∷ os) (w ∷ ws) differ = fits-more o os w ws (fits-count os ws (λ same. differ (ap suc same)))

-- operands that are those of a row are as many
pub fits-length : (os : List Operand) (ws : List Word) → are_operands os ws ≡ true → length ws ≡ length os
fits-length os ws fits = go (nat_eq (length ws) (length os)) refl
  where
    go : (b : Bool) → nat_eq (length ws) (length os) ≡ b → length ws ≡ length os
    go true e = grind (arith, nat_tests)
    go false e = let other : length os ≡ length ws → ⊥ = grind (arith, nat_tests) in absurd (true≢false (sym fits ∙ fits-count os ws other))

-- a list by its length
pub some-more : (ws : List Word) (n : ℕ) → length ws ≡ suc n → (w : Word) × (rest : List Word) × (ws ≡ w ∷ rest) × (length rest ≡ n)
some-more [] n is = let never : ⊥ = cc in absurd never
some-more (w ∷ ws) n is = (w, ws, refl, omega arith)

pub none-more : (ws : List Word) → length ws ≡ 0 → ws ≡ []
none-more [] is = refl
none-more (w ∷ ws) is = let never : ⊥ = cc in absurd never

pub one-is : (ws : List Word) → length ws ≡ 1 → (a : Word) × (ws ≡ a ∷ [])
one-is ws is = let (a, rest, first, left) = some-more ws 0 is in (a, first ∙ ap (λ r. a ∷ r) (none-more rest left))

pub two-is : (ws : List Word) → length ws ≡ 2 → (a b : Word) × (ws ≡ a ∷ b ∷ [])
two-is ws is =
    let (a, rest, first, left) = some-more ws 1 is in
    let (b, last) = one-is rest left in
    (a, b, first ∙ ap (λ r. a ∷ r) last)

pub three-is : (ws : List Word) → length ws ≡ 3 → (a b c : Word) × (ws ≡ a ∷ b ∷ c ∷ [])
three-is ws is =
    let (a, rest, first, left) = some-more ws 2 is in
    let (b, c, last) = two-is rest left in
    (a, b, c, first ∙ ap (λ r. a ∷ r) last)

pub four-is : (ws : List Word) → length ws ≡ 4 → (a b c d : Word) × (ws ≡ a ∷ b ∷ c ∷ d ∷ [])
four-is ws is =
    let (a, rest, first, left) = some-more ws 3 is in
    let (b, c, d, last) = three-is rest left in
    (a, b, c, d, first ∙ ap (λ r. a ∷ r) last)

pub five-is : (ws : List Word) → length ws ≡ 5 → (a b c d e : Word) × (ws ≡ a ∷ b ∷ c ∷ d ∷ e ∷ [])
five-is ws is =
    let (a, rest, first, left) = some-more ws 4 is in
    let (b, c, d, e, last) = four-is rest left in
    (a, b, c, d, e, first ∙ ap (λ r. a ∷ r) last)
