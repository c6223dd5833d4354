use Rattle.std.proofs.Common.{◌≡◌, ◌∙◌, ap, refl, sym, ℕ, zero, suc, ◌-◌, map, option_map, slice_get, arith}
use Rattle.std.proofs.lemmas.Option.{slice_get-map}
use Rattle.axiom_rules.proofs.Lookups.{got-item}
use Rattle.axiom_rules.specs.declared.rule.Columns.{Columns}
use Rattle.axiom_rules.specs.declared.rule.TheConstants.{TABLE}
use Rattle.axiom_rules.specs.Clauses.{arguments_in, Schema, rows, row_of, schema_of, table}
use Rattle.axiom_rules.proofs.rule.columns_of.Goals as goal

-- the constant lists a column of the table
listed : {X : Type 0} (column : Columns → X) (of : Schema → X) → map column TABLE ≡ map of table → (n : ℕ) → (n ≡ 0 → ⊥) → option_map column (slice_get TABLE (n - 1)) ≡ option_map of (schema_of n)
listed column of same zero nonzero = absurd (nonzero refl)
listed column of same (suc n) nonzero =
    let e : suc n - 1 ≡ n = omega arith in
    rw e (sym (slice_get-map column TABLE n) ∙ ap (λ xs. slice_get xs n) same ∙ slice_get-map of table n)

row-listed : (n : ℕ) → option_map (λ (rule : Schema). rule.row.arguments) (schema_of n) ≡ option_map (λ row. row.arguments) (row_of n)
row-listed zero = refl
row-listed (suc n) = sym (slice_get-map (λ (rule : Schema). rule.row.arguments) table n) ∙ slice_get-map (λ row. row.arguments) rows n

pub returns-else-number-eq0 : goal.returns-else-number-eq0
returns-else-number-eq0 c =
    let got = c.copied.ensures ∙ got-item TABLE (c.args.number - 1) c.get.result (c.get.ensures.lookup.0, c.get.ensures.lookup.1) in
    record {
      subject = ap (option_map (λ (columns : Columns). columns.0)) got ∙ listed (λ columns. columns.0) (λ rule. rule.subject) refl c.args.number c.if-number-eq0.false;
      arguments =
          ap (option_map (λ (columns : Columns). arguments_in columns.1)) got ∙ listed (λ columns. arguments_in columns.1) (λ rule. rule.row.arguments) refl c.args.number c.if-number-eq0.false
          ∙ row-listed c.args.number;
      needless = ap (option_map (λ (columns : Columns). columns.2)) got ∙ listed (λ columns. columns.2) (λ rule. rule.needless) refl c.args.number c.if-number-eq0.false;
    }
