-- Lines are copied where they are marked, one after another.
use Rattle.std.proofs.Common.{◌≡◌, ◌∙◌, sym, ap, refl, ℕ, ◌+◌, ◌-◌, ◌<◌, ◌≤◌, Bool, true, false, List, [], ◌∷◌, ◌++◌, length, get_or, map, take, Some, add-one, arith}
use Rattle.std.specs.Prelude.{if◌then◌else◌, nat_lt, slice_get}
use Rattle.std.proofs.lemmas.Bool.Decides.{nat_tests}
use Rattle.std.proofs.lemmas.Grind.{common_steps}
use Rattle.std.proofs.lemmas.List.{length-map, map-append}
use Rattle.proof_log.specs.declared.line.Line.{Line}
use Rattle.proof_trim.specs.Needed.{LooksBack}
use Rattle.proof_log.specs.Marks.{marked}
use Rattle.proof_trim.specs.Trimmed.{place_of, renumbered}
use Rattle.proof_trim.proofs.Looks.{line-agrees}
use Rattle.proof_trim.proofs.Marks.{before, before-le, marked-no, marked-yes}

-- the first lines are copied where they are marked, and these are their places
pub record CopiedTo (marks : List Bool) (lines : List Line) (i : ℕ) (places : List ℕ) (left : List Line) : Type 0 where
  pub copies : left ≡ map (renumbered (place_of marks lines)) (marked (take i marks) lines)
  pub count : length places ≡ i
  pub each : (k : ℕ) → k < i → get_or places k 0 ≡ place_of marks lines (k + 1)

module _ (marks : List Bool) (lines : List Line) (i : ℕ) (places : List ℕ) (left : List Line) (so_far : CopiedTo marks lines i places left) where
  -- the place of the next line is how many are left with it
  place-next : (more : List Line) → more ≡ map (renumbered (place_of marks lines)) (marked (take (i + 1) marks) lines) → CopiedTo marks lines (i + 1) (places ++ length more ∷ []) more
  place-next more is = record {
    copies = is;
    count = let count = so_far.count in grind (arith, common_steps, count);
    each = λ k less. go k less (nat_lt k i) refl;
  }
    where
      long : length more ≡ place_of marks lines (i + 1)
      long = ap length is ∙ length-map (marked (take (i + 1) marks) lines) (renumbered (place_of marks lines))

      go : (k : ℕ) → k < i + 1 → (b : Bool) → nat_lt k i ≡ b → get_or (places ++ length more ∷ []) k 0 ≡ place_of marks lines (k + 1)
      go k less true e =
          let early : k < i = grind (arith, nat_tests) in
          let each = so_far.each k early in
          let count = so_far.count in
          grind (arith, common_steps, each, count, early)
      go k less false e =
          let now : k ≡ i = grind (arith, nat_tests) in
          let count = so_far.count in
          rw now (let last : get_or (places ++ length more ∷ []) i 0 ≡ length more = grind (arith, common_steps, count) in last ∙ long)

  agree : (n : ℕ) → 1 ≤ n → n < length places + 1 → get_or places (n - 1) 0 ≡ place_of marks lines n
  agree n some less =
      let count = so_far.count in
      let back : n - 1 + 1 ≡ n = omega (arith, some) in
      so_far.each (n - 1) (omega (arith, some, less, count)) ∙ ap (place_of marks lines) back

  pub copied-more : (mark : Bool) (l : Line) (more : List Line) → slice_get marks i ≡ Some mark → slice_get lines i ≡ Some l → LooksBack (length places + 1) l
      → more ≡ (if mark then left ++ renumbered (λ n. get_or places (n - 1) 0) l ∷ [] else left) → CopiedTo marks lines (i + 1) (places ++ length more ∷ []) more
  copied-more true l more is stands back copied =
      let same = line-agrees (λ n. get_or places (n - 1) 0) (place_of marks lines) (length places + 1) agree l back in
      let yes = marked-yes marks lines i l is stands in
      place-next more (copied ∙ rw (same, so_far.copies, add-one, yes) (sym (map-append (renumbered (place_of marks lines)) (marked (take i marks) lines) (l ∷ []))))
  copied-more false l more is stands back copied =
      let no = marked-no marks lines i is in
      place-next more (copied ∙ so_far.copies ∙ rw (add-one, no) refl)

-- no more are left than there were
pub copied-few : (marks : List Bool) (lines : List Line) (i : ℕ) (places : List ℕ) (left : List Line) → CopiedTo marks lines i places left → length left ≤ i
copied-few marks lines i places left so_far =
    let long : length left ≡ before marks lines i = ap length so_far.copies ∙ length-map (marked (take i marks) lines) (renumbered (place_of marks lines)) in
    let low = before-le marks lines i in
    omega (arith, long, low)
