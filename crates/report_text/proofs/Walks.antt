-- The texts of items that are added one at a time, after a line.
use Rattle.std.proofs.Common.{◌≡◌, ◌∙◌, sym, ap, ℕ, ◌+◌, ◌<◌, List, [], ◌∷◌, ◌++◌, append_assoc, length, get_or, take}
use Rattle.std.specs.List.{flat_map}
use Rattle.std.proofs.lemmas.List.{append-nil, take_more}
use Rattle.std.proofs.lemmas.List.Concat.{flat_map-append}

-- one more
pub item-more : {X : Type 0} (text : X → List ℕ) (old now pushed line : List ℕ) (items : List X) (i : ℕ) (d : X) → i < length items
    → now ≡ old ++ (line ++ flat_map text (take i items)) → pushed ≡ now ++ text (get_or items i d)
    → pushed ≡ old ++ (line ++ flat_map text (take (i + 1) items))
item-more text old now pushed line items i d within before more =
    let so_far = flat_map text (take i items) in
    let next = text (get_or items i d) in
    let longer : flat_map text (take (i + 1) items) ≡ so_far ++ next =
    ap (flat_map text) (take_more items i d within) ∙ flat_map-append text (take i items) (get_or items i d ∷ []) ∙ ap (λ t. so_far ++ t) (append-nil next) in
    more ∙ ap (λ t. t ++ next) before ∙ append_assoc old (line ++ so_far) next ∙ ap (λ t. old ++ t) (append_assoc line so_far next ∙ ap (λ t. line ++ t) (sym longer))
