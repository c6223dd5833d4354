-- Which steps and literals of a log have a spelling.
use Rattle.std.proofs.Common.{◌≡◌, ◌≢◌, refl, ℕ, ◌<◌, ◌≤◌, Bool, true, false, List, [], ◌∷◌, length, map, Option, Some, None, arith, ℤ, neg_ℤ}
use Rattle.std.specs.Prelude.{◌==◌, ◌&&◌, not, int_le, if◌then◌else◌, option_and_then, option_map, slice_get, All}
use Rattle.std.proofs.lemmas.Bool.{and_parts}
use Rattle.std.proofs.lemmas.Bool.Decides.{nat_tests}
use Rattle.std.proofs.lemmas.Int.{ints}
use Rattle.std.proofs.lemmas.List.Elements.{All-nil, All-cons}
use Rattle.std.proofs.lemmas.Option.{slice_get_within}
use Rattle.mt_model.specs.declared.limits.TheConstants.{MAX_ORDER}
use Rattle.mt_model.specs.declared.log.Row.{Row}
use Rattle.mt_model.specs.declared.step.Step.{Step}
use Rattle.mt_model.specs.declared.step.Step.TheVariants as step
use Rattle.mt_model.specs.Log.{IsLog, IsWithin, Logged, received_by}
use Rattle.mt_model.specs.Timing.{received_in, send_of}
use Rattle.mt_model.specs.Walks.{Edge, HasEdges, edge_of, is_order, is_row}
use Rattle.axiom_rules.specs.declared.literal.Atom.{Atom}
use Rattle.axiom_rules.specs.declared.literal.Atom.TheVariants.{Order, Node, First, Same, Wit, Span, Gap}
use Rattle.axiom_rules.specs.declared.literal.Literal.{Literal}
use Rattle.proof_log.specs.Spelled.{IsNumber, IsOrder, IsSpelledAtom, IsSpelledLiteral, IsSpelledStep}
use Rattle.cdcl_core.specs.Orders.{IsOrderAmong}
use Rattle.cdcl_core.specs.Recording.{HasNumbers}
use Rattle.mt_list.proofs.Lists.{parts_same}

-- so has a literal whose numbers are in range
atom_spelled : (nodes : ℕ) (b : Bool) (a : Atom) → IsOrderAmong nodes a → HasNumbers a → IsSpelledAtom b a
atom_spelled nodes true (Order e f c) among numbers = record { smaller_first = among.smaller_first; second = numbers.1; bound = among.bound }
atom_spelled nodes false (Order e f c) among numbers = record { smaller_first = among.smaller_first; second = numbers.1; bound = among.negated }
atom_spelled nodes b (Node k e) among numbers = numbers
atom_spelled nodes b (First e) among numbers = numbers
atom_spelled nodes b (Same e x) among numbers = record { smaller_first = among; second = numbers.1 }
atom_spelled nodes b (Wit k i j) among numbers = numbers
atom_spelled nodes b (Span k i j) among numbers = numbers
atom_spelled nodes b (Gap k i m) among numbers = numbers

pub literal_spelled : (nodes : ℕ) (l : Literal) → IsOrderAmong nodes l.atom → HasNumbers l.atom → IsSpelledLiteral l
literal_spelled nodes l among numbers = atom_spelled nodes l.positive l.atom among numbers

-- a test that gave something was passed
passed : {X : Type 0} (b : Bool) (o : Option X) (x : X) → (if b then o else None) ≡ Some x → b ≡ true
passed true o x is = refl
passed false o x is = absurd (cc)

mapped : {X Y : Type 0} (f : X → Y) (o : Option X) (y : Y) → option_map f o ≡ Some y → (x : X) × (o ≡ Some x)
mapped f None y is = absurd (cc)
mapped f (Some x) y is = (x, refl)

chained : {X Y : Type 0} (f : X → Option Y) (o : Option X) (y : Y) → option_and_then f o ≡ Some y → (x : X) × (o ≡ Some x)
chained f None y is = absurd (cc)
chained f (Some x) y is = (x, refl)

apart : (e f : ℕ) → not (e == f) ≡ true → e ≢ f
apart e f is same = grind (arith, nat_tests)

within : (n c : ℤ) → int_le (neg_ℤ n) c ≡ true → int_le c n ≡ true → IsWithin n c
within n c low high = record { low = omega (arith, ints, low); high = omega (arith, ints, high) }

module _ (log : Logged) (valid : IsLog log) where
  row_number : (e : ℕ) → is_row log e ≡ true → IsNumber e
  row_number e is = let few = valid.few_rows in grind (arith, nat_tests)

  few_number : (n k : ℕ) → k < n → n ≤ 1048576 → IsNumber k
  few_number n k below few = omega arith

  received_number : (r s : ℕ) → send_of log r ≡ Some s → IsNumber r
  received_number r s is =
      let (message, received) = chained _ (received_in log r) s is in
      let (row, there) = chained (λ (x : Row). received_by x.act) (slice_get log.rows r) message received in
      let few = valid.few_rows in
      few_number (length log.rows) r (slice_get_within log.rows r row there) (omega (arith, few))

  order_spelled : (e f : ℕ) (c : ℤ) → is_order log e f c ≡ true → IsOrder e f c
  order_spelled e f c is =
      let (rest, high) = and_parts (is_row log e && is_row log f && not (e == f) && int_le (neg_ℤ MAX_ORDER) c) (int_le c MAX_ORDER) is in
      let (ends, low) = and_parts (is_row log e && is_row log f && not (e == f)) (int_le (neg_ℤ MAX_ORDER) c) rest in
      let (rows, differ) = and_parts (is_row log e && is_row log f) (not (e == f)) ends in
      let (first, second) = and_parts (is_row log e) (is_row log f) rows in
      record { first = row_number e first; second = row_number f second; apart = apart e f differ; bound = within MAX_ORDER c low high }

  -- and a step that the log has
  pub step_spelled : (s : Step) (x : Edge) → edge_of log s ≡ Some x → IsSpelledStep s
  step_spelled (step.Low e) x is = row_number e (passed (is_row log e) _ x is)
  step_spelled (step.High e) x is = row_number e (passed (is_row log e) _ x is)
  step_spelled (step.Rise f) x is = row_number f (passed (is_row log f) _ x is)
  step_spelled (step.Message r) x is = let (s, sent) = mapped _ (send_of log r) x is in received_number r s sent
  step_spelled (step.Late r) x is = let (s, sent) = chained _ (send_of log r) x is in received_number r s sent
  step_spelled (step.Under e) x is = row_number e (passed (is_row log e) _ x is)
  step_spelled (step.Over e) x is = row_number e (passed (is_row log e) _ x is)
  step_spelled (step.Extra k) x is =
      let (extra, there) = chained _ (slice_get log.extras k) x is in
      let few = valid.few_extras in
      few_number (length log.extras) k (slice_get_within log.extras k extra there) (omega (arith, few))
  step_spelled (step.Order e f c) x is = order_spelled e f c (passed (is_order log e f c) _ x is)

  pub steps_spelled : (steps : List Step) (edges : List Edge) → HasEdges log steps edges → All IsSpelledStep steps
  steps_spelled [] edges has = All-nil IsSpelledStep
  steps_spelled (s ∷ ss) [] has = absurd (cc)
  steps_spelled (s ∷ ss) (x ∷ xs) has =
      let both = parts_same (edge_of log s) (Some x) (map (edge_of log) ss) (map Some xs) has in
      All-cons IsSpelledStep s ss (step_spelled s x both.0) (steps_spelled ss xs both.1)
