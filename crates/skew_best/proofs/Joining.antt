-- Texts that were added one after another.
use Rattle.std.proofs.Common.{◌≡◌, ◌∙◌, ap, ℕ, List, ◌++◌, append_assoc}

-- a first line and a section, then a derivation, and then the last line
pub joined : (begun more whole first section lines last : List ℕ) → begun ≡ first ++ section → more ≡ begun ++ lines → whole ≡ more ++ last → whole ≡ first ++ (section ++ (lines ++ last))
joined begun more whole first section lines last a b d =
    d ∙ ap (λ t. t ++ last) (b ∙ ap (λ t. t ++ lines) a) ∙ append_assoc (first ++ section) lines last ∙ append_assoc first section (lines ++ last)
