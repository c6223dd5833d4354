-- Bytes cut at the first place of a byte.
use Rattle.std.proofs.Common.{◌≡◌, ◌∙◌, ap, arith, ℕ, ◌+◌, ◌-◌, ◌<◌, ◌≤◌, false, List, [], ◌∷◌, ◌++◌, length, get_or, take, drop, drop-cons, add-one, subst}
use Rattle.std.specs.Prelude.{All}
use Rattle.std.specs.List.{slice_split}
use Rattle.std.proofs.Math.Seq.{split_at}
use Rattle.std.proofs.lemmas.Bool.{false_from_ne_true}
use Rattle.std.proofs.lemmas.List.{get_or-take, length-take-le, take_all, take_rest}
use Rattle.std.proofs.lemmas.List.Elements.{All-from_get_or}
use Rattle.std.proofs.lemmas.List.Splits.{slice_split_at, slice_split_none}
use Rattle.memchr.specs.Find.{Nowhere, NoneBefore, Passes, is_byte}
use Rattle.proof_log.specs.LinesText.{space}
use Rattle.proof_log.specs.Reading.{words_after}

module _ (byte : ℕ) where
  abbrev pub Lacks : List ℕ → Type 0
  Lacks w = All (λ b. is_byte byte b ≡ false) w

  -- the bytes before the first such byte
  lacks-before : (w : List ℕ) (n : ℕ) → n ≤ length w → Nowhere (Passes (is_byte byte) w) 0 n → Lacks (take n w)
  lacks-before w n within nowhere =
      let size : length (take n w) ≡ n = length-take-le n w within in
      All-from_get_or (λ b. is_byte byte b ≡ false) (take n w) 0 (λ k below.
      let under : k < n = omega arith in
      ap (is_byte byte) (get_or-take n w k 0 under) ∙ false_from_ne_true (is_byte byte (get_or w k 0)) (nowhere k (omega arith) under))

  -- at the first such byte
  pub cut-at : (w : List ℕ) (n : ℕ) → NoneBefore (Passes (is_byte byte) w) 0 (length w) n → Passes (is_byte byte) w n
      → slice_split (is_byte byte) w ≡ take n w ∷ slice_split (is_byte byte) (drop (n + 1) w)
  cut-at w n first here =
      let rest = drop (n + 1) w in
      let cut : w ≡ take n w ++ get_or w n 0 ∷ rest = rw add-one (split_at w n 0 first.high) in
      ap (slice_split (is_byte byte)) cut ∙ slice_split_at (is_byte byte) (take n w) (get_or w n 0) rest (lacks-before w n (omega (arith, first.high)) first.before) here

  -- where there is none
  pub lacks : (w : List ℕ) → Nowhere (Passes (is_byte byte) w) 0 (length w) → Lacks w
  lacks w nowhere = subst Lacks (take_all (length w) w (omega arith)) (lacks-before w (length w) (omega arith) nowhere)

  pub cut-none : (w : List ℕ) → Nowhere (Passes (is_byte byte) w) 0 (length w) → slice_split (is_byte byte) w ≡ w ∷ []
  cut-none w nowhere = slice_split_none (is_byte byte) w (lacks w nowhere)

-- the words after a place
pub after-place : (w : List ℕ) (n : ℕ) → n < length w → words_after (take (length w - n) (drop n w)) ≡ slice_split (is_byte space) (drop (n + 1) w)
after-place w n within =
    let whole : take (length w - n) (drop n w) ≡ drop n w = take_rest w n in
    let next : drop n w ≡ get_or w n 0 ∷ drop (n + 1) w = rw add-one (drop-cons w n 0 within) in
    ap words_after (whole ∙ next)
