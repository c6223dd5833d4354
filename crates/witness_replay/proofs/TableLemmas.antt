-- Columns of a table, and until and since over columns.
use borrow.Author.Count.{below_more}
use Rattle.std.proofs.Common.{◌≡◌, ◌∙◌, sym, subst, refl, ℕ, ◌+◌, ◌*◌, ◌<◌, ◌≤◌, Bool, false, List, ◌++◌, length, drop, arith, ℤ, length-drop}
use Rattle.std.proofs.lemmas.List.{get_or-take, get_or-drop, take-append-le, drop-append-le, take_at, drop_at}
use Rattle.std.proofs.lemmas.Nat.{rows}
use Rattle.mt_model.specs.declared.tree.Interval.{Interval}
use Rattle.mt_model.specs.Form.{Form}
use Rattle.mt_model.specs.Frame.{Frame, reaches}
use Rattle.mt_model.specs.Log.{Logged}
use Rattle.mt_model.specs.Truth.{truth_of}
use Rattle.mt_model.proofs.FrameLemmas.{Carries, reaches_same}
use Rattle.mt_model.proofs.Members.{Among}
use Rattle.mt_model.proofs.PositionLemmas.{below, within_has}
use Rattle.formula_arena.specs.Nodes.{tree_at}
use Rattle.formula_arena.specs.declared.direction.Direction.{Direction}
use Rattle.witness_replay.specs.Columns.{IsColumn, reaches_from, value_at}
use Rattle.witness_replay.specs.Directions.{is_near, rows_from}
use Rattle.witness_replay.specs.Tables.{ColumnsAreTruths, column_at}
use Rattle.witness_replay.proofs.GapLemmas.{points}

-- a column ends before a later one begins
pub ends-before : (j k rows : ℕ) → j < k → j * rows + rows ≤ k * rows
ends-before j k n less = grind (arith, rows)

-- what follows the columns before node k plays no part in them
pub column-before : (j k rows : ℕ) (xs ys : List Bool) → length xs ≡ k * rows → j < k → column_at rows (xs ++ ys) j ≡ column_at rows xs j
column-before j k n xs ys len less =
    let ends = ends-before j k n less in
    let start : j * n ≤ length xs = omega arith in
    let room : n ≤ length (drop (j * n) xs) = omega (arith, length-drop (j * n) xs) in
    rw (drop-append-le (j * n) xs ys start) (take-append-le n (drop (j * n) xs) ys room)

-- the columns before node n alone
pub columns-before : (log : Logged) (t : List ℤ) (trees : List Form) (n : ℕ) (xs rest : List Bool) → length xs ≡ n * length t
    → ColumnsAreTruths log t trees n (xs ++ rest) → ColumnsAreTruths log t trees n xs
columns-before log t trees n xs rest len truths =
    λ k less. subst (IsColumn (length t) (λ e. truth_of log t e (tree_at trees k))) (column-before k n (length t) xs rest len less) (truths k less)

-- the column of node k follows them
pub column-here : (k rows : ℕ) (xs ys zs : List Bool) → length xs ≡ k * rows → length ys ≡ rows → column_at rows (xs ++ (ys ++ zs)) k ≡ ys
column-here k n xs ys zs before here = rw (drop_at xs (ys ++ zs) (k * n) before) (take_at ys zs n here)

-- until and since ask only the values of the rows
module _ (d : Direction) (t : List ℤ) (I : Interval) (f g : ℕ → Bool) (left right : List Bool) (is_left : IsColumn (length t) f left) (is_right : IsColumn (length t) g right) where
  abbrev F : Frame ℕ
  F = rows_from d t

  among : (m : ℕ) → Among F.points m → m < length t
  among m in_ = below (length t) m (rw (points d t) at in_)

  itself : Carries F F (λ m. m)
  itself = record { into = λ m a. a; onto = λ m a. (m, a, refl); not_after = λ m n a b. refl; instant = λ m a. refl }

  reaches-sides : (e : ℕ) → e < length t → reaches_from d t I left right e ≡ reaches F (is_near d t I) f g e
  reaches-sides e within =
      reaches_same F F (λ m. m) itself (is_near d t I) (is_near d t I) (λ m n a b. refl) (value_at left) f (λ m a. is_left.each m (among m a))
      (value_at right) g (λ m a. is_right.each m (among m a)) e (rw (points d t) (within_has (length t) e within))

  column-reaches : (target : List Bool) → IsColumn (length t) (reaches_from d t I left right) target → IsColumn (length t) (reaches F (is_near d t I) f g) target
  column-reaches target is = record { full = is.full; each = λ e within. is.each e within ∙ reaches-sides e within }

-- the nodes of until and since, from the columns of their children
module _ (log : Logged) (t : List ℤ) (trees : List Form) (n : ℕ) (table : List Bool) (before : ColumnsAreTruths log t trees n table) where
  abbrev truths : ℕ → ℕ → Bool
  truths k e = truth_of log t e (tree_at trees k)

  side : (k : ℕ) (column : List Bool) → k < n → column ≡ column_at (length t) table k → IsColumn (length t) (truths k) column
  side k column less is = subst (IsColumn (length t) (truths k)) (sym is) (before k less)

  pub node-reaches : (d : Direction) (I : Interval) (f g : ℕ) (left right target : List Bool) → f < n → g < n → left ≡ column_at (length t) table f → right ≡ column_at (length t) table g
      → IsColumn (length t) (reaches_from d t I left right) target → IsColumn (length t) (reaches (rows_from d t) (is_near d t I) (truths f) (truths g)) target
  node-reaches d I f g left right target f_in g_in is_left is_right is = column-reaches d t I (truths f) (truths g) left right (side f left f_in is_left) (side g right g_in is_right) target is

-- a table in which the column of one more node is filled
pub columns-more : (log : Logged) (t : List ℤ) (trees : List Form) (n : ℕ) (xs rest ys zs : List Bool) → length xs ≡ n * length t → ColumnsAreTruths log t trees n (xs ++ rest)
    → IsColumn (length t) (λ e. truth_of log t e (tree_at trees n)) ys → ColumnsAreTruths log t trees (n + 1) (xs ++ (ys ++ zs))
columns-more log t trees n xs rest ys zs len before is =
    let P : ℕ → List Bool → Type 0 = λ k. IsColumn (length t) (λ e. truth_of log t e (tree_at trees k)) in
    below_more (λ k. P k (column_at (length t) (xs ++ (ys ++ zs)) k)) n
    (λ k less. subst (P k) (column-before k n (length t) xs rest len less ∙ sym (column-before k n (length t) xs (ys ++ zs) len less)) (before k less))
    (subst (P n) (sym (column-here n (length t) xs ys zs len is.full)) is)

-- the value of a node at a row, by its place in the table
pub value-in-table : (log : Logged) (t : List ℤ) (trees : List Form) (n : ℕ) (table : List Bool) → ColumnsAreTruths log t trees n table → (k e : ℕ) → k < n → e < length t
    → value_at table (k * length t + e) ≡ truth_of log t e (tree_at trees k)
value-in-table log t trees n table truths k e k_in e_in =
    sym (get_or-take (length t) (drop (k * length t) table) e false e_in ∙ get_or-drop (k * length t) table e false) ∙ (truths k k_in).each e e_in
