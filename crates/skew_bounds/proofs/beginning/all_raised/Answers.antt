use Rattle.std.proofs.Common.{◌≡◌, ◌∙◌, sym, subst, rules, ℕ, ◌+◌, ◌<◌, ◌≤◌, List, [], ◌∷◌, ◌++◌, length, map, take, get_or, All, ℤ, pos, ◌+ℤ◌}
use Rattle.std.specs.Int.{w128}
use Rattle.std.proofs.lemmas.Int.{to_z-of_z}
use Rattle.std.proofs.lemmas.List.{map_more, take_all}
use Rattle.mt_model.specs.Log.{IsWithin}
use Rattle.skew_bounds.specs.declared.latest.TheConstants.{UNREACHED}
use Rattle.skew_bounds.specs.declared.column.TheConstants.{FAR}
use Rattle.skew_bounds.proofs.beginning.all_raised.Goals as goal
use mir.Val.{SFits, of_z, to_z}

-- a number as it is read from its bits
abbrev read : ℤ → ℤ
read x = to_z w128 (of_z w128 x)

same : (x : ℤ) → IsWithin FAR x → read x ≡ x
same x near = let fits : SFits w128 x = search rules in to_z-of_z w128 x fits

same-raise : (x : ℤ) → IsWithin (UNREACHED +ℤ FAR) x → read x ≡ x
same-raise x near = let fits : SFits w128 x = search rules in to_z-of_z w128 x fits

near-read : (x : ℤ) → IsWithin FAR x → IsWithin FAR (read x)
near-read x near = subst (IsWithin FAR) (sym (same x near)) near

near-raise : (x : ℤ) → IsWithin (UNREACHED +ℤ FAR) x → IsWithin (UNREACHED +ℤ FAR) (read x)
near-raise x near = subst (IsWithin (UNREACHED +ℤ FAR)) (sym (same-raise x near)) near

raised-fits : (raise x : ℤ) → IsWithin (UNREACHED +ℤ FAR) raise → IsWithin FAR x → SFits w128 (x +ℤ raise)
raised-fits raise x near-raise near = search rules

raised-more : (raise r : ℤ) (numbers all new : List ℤ) (i : ℕ) → IsWithin (UNREACHED +ℤ FAR) raise → All (IsWithin FAR) numbers → i < length numbers
    → all ≡ map (λ x. x +ℤ read raise) (take i numbers) → r ≡ read (get_or numbers i (pos 0)) +ℤ read raise → new ≡ all ++ read r ∷ []
    → new ≡ map (λ x. x +ℤ read raise) (take (i + 1) numbers)
raised-more raise r numbers all new i near-raise near below so_far is pushed =
    let x = get_or numbers i (pos 0) in
    let same-x = same x (near i (pos 0) below) in
    let same-by = same-raise raise near-raise in
    let r-is : r ≡ x +ℤ raise = is ∙ (λ j. same-x j +ℤ same-by j) in
    let same-r : read r ≡ r = to_z-of_z w128 r (subst (SFits w128) (sym r-is) (raised-fits raise x near-raise (near i (pos 0) below))) in
    let r-by : read r ≡ x +ℤ read raise = same-r ∙ is ∙ (λ j. same-x j +ℤ read raise) in
    pushed ∙ (λ j. so_far j ++ r-by j ∷ []) ∙ sym (map_more (λ y. y +ℤ read raise) numbers i (pos 0) below)

raised-all : (raise : ℤ) (numbers all : List ℤ) (i : ℕ) → IsWithin (UNREACHED +ℤ FAR) raise → length numbers ≤ i → all ≡ map (λ x. x +ℤ read raise) (take i numbers)
    → all ≡ map (λ x. x +ℤ raise) numbers
raised-all raise numbers all i near low so_far =
    let same-by = same-raise raise near in so_far ∙ (λ j. map (λ x. x +ℤ same-by j) (take_all i numbers low j))

pub loop-number-init : goal.loop-number-init
loop-number-init c = c.in_ok-all.ensures.items

pub raised-requires : goal.raised-requires
raised-requires c = record {
  number = near-read _ (c.requires.numbers c.loop-number.number-index (pos 0) c.loop-number-test.true);
  raise = near-raise c.args.raise c.requires.raise;
}

pub loop-number-preserved : goal.loop-number-preserved
loop-number-preserved c =
    raised-more c.args.raise c.raised.result c.args.numbers.now c.loop-number.all.items c.push.new.self.items c.loop-number.number-index c.requires.raise c.requires.numbers c.loop-number-test.true
    c.loop-number.invariant c.raised.ensures c.in_ok-push.ensures.items

pub returns : goal.returns
returns c = raised-all c.args.raise c.args.numbers.now c.loop-number.all.items c.loop-number.number-index c.requires.raise c.loop-number-test.false c.loop-number.invariant
