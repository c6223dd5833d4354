-- Words with a space before each.
use Rattle.std.proofs.Common.{◌≡◌, ◌∙◌, sym, ap, ℕ, List, [], ◌∷◌, ◌++◌, append_assoc, Result, Ok, Err}
use Rattle.std.specs.Prelude.{OnOk}
use Rattle.std.specs.List.{join_with_byte}
use Rattle.std.proofs.lemmas.List.{append-nil}
use Rattle.std.proofs.lemmas.List.Concat.{flat_map-append}
use Rattle.proof_log.specs.LinesText.{Word, space, spaced}

-- more words
pub spaced-append : (xs ys : List Word) → spaced (xs ++ ys) ≡ spaced xs ++ spaced ys
spaced-append xs ys = flat_map-append (λ (w : Word). space ∷ w) xs ys

-- words after words that were added to a text
pub spaced-more : (old : List ℕ) (xs ys : List Word) → (old ++ spaced xs) ++ spaced ys ≡ old ++ spaced (xs ++ ys)
spaced-more old xs ys = append_assoc old (spaced xs) (spaced ys) ∙ ap (λ t. old ++ t) (sym (spaced-append xs ys))

-- a word that has others after it
pub joined-spaced : (w : Word) (ws : List Word) → join_with_byte space (w ∷ ws) ≡ w ++ spaced ws
joined-spaced w [] = sym (append-nil w)
joined-spaced w (x ∷ xs) = ap (λ t. w ++ space ∷ t) (joined-spaced x xs)

-- a text, a word, and others that were added after spaces
pub joined-after : (text first all : List ℕ) (w : Word) (ws : List Word) → first ≡ text ++ w → all ≡ first ++ spaced ws → all ≡ text ++ join_with_byte space (w ∷ ws)
joined-after text first all w ws added more =
    more ∙ ap (λ t. t ++ spaced ws) added ∙ append_assoc text w (spaced ws) ∙ ap (λ t. text ++ t) (sym (joined-spaced w ws))

-- what holds of a call that succeeded
pub on_ok : {T E : Type 0} (P Q : Type 0) (r : Result T E) → (P → Q) → OnOk r P → OnOk r Q
on_ok P Q (Ok x) weaker h = weaker h
on_ok P Q (Err e) weaker h = tt
