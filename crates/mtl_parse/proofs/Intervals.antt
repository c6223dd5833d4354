-- Empty intervals, token by token.
use Rattle.std.proofs.Common.{◌≡◌, ◌∙◌, sym, ap, refl, arith, ℕ, ◌+◌, ◌<◌, false, List, [], ◌∷◌, length, drop, drop-cons, add-one, get_or, Some}
use Rattle.std.specs.Prelude.{map, if◌then◌else◌}
use Rattle.mtl_parse.specs.FormulaOf.{begins_with_empty_interval, first_empty_interval, tokens_in}
use Rattle.mtl_parse.specs.States.{placed_in}
use Rattle.mtl_parse.specs.declared.token.Placed.{Placed as ScannedPlaced}

passed : (zs ys : List ScannedPlaced) (y : ScannedPlaced) → zs ≡ y ∷ ys → begins_with_empty_interval (tokens_in (map placed_in zs)) ≡ false
    → first_empty_interval (map placed_in ys) ≡ first_empty_interval (map placed_in zs)
passed zs ys y is none =
    let here : begins_with_empty_interval (tokens_in (map placed_in (y ∷ ys))) ≡ false = ap (λ xs. begins_with_empty_interval (tokens_in (map placed_in xs))) (sym is) ∙ none in
    sym (ap (λ xs. first_empty_interval (map placed_in xs)) is ∙ ap (λ v. if v then Some y.byte else first_empty_interval (map placed_in ys)) here)

-- a token at which no empty interval begins
pub no-interval : (tokens : List ScannedPlaced) (i : ℕ) → i < length tokens → begins_with_empty_interval (tokens_in (map placed_in (drop i tokens))) ≡ false
    → first_empty_interval (map placed_in (drop (i + 1) tokens)) ≡ first_empty_interval (map placed_in (drop i tokens))
no-interval [] i h none = absurd (omega arith)
no-interval (x ∷ xs) i h none = passed (drop i (x ∷ xs)) (drop (i + 1) (x ∷ xs)) (get_or (x ∷ xs) i x) (drop-cons (x ∷ xs) i x h ∙ rw add-one refl) none
