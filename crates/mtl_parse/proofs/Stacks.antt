-- What is pending, as the code keeps it.
use Rattle.std.proofs.Common.{◌≡◌, ◌∙◌, sym, ap, refl, ℕ, Bool, true, false, List, [], ◌∷◌, ◌++◌, None}
use Rattle.std.specs.Prelude.{◌||◌, map, not, is_some, if◌then◌else◌}
use Rattle.std.specs.List.{list_any}
use Rattle.std.proofs.lemmas.List.{reverse-append}
use Rattle.mt_model.specs.Form.{Form}
use Rattle.mtl_parse.specs.declared.fault.FormulaFault.TheVariants as fault
use Rattle.mtl_parse.specs.Machine.{Pending, Completed, capped, closed, complete, finished, has_opened, is_opened, refusal_behind}
use Rattle.mtl_parse.specs.States.{pending_in, stack_in}
use Rattle.mtl_parse.specs.declared.pending.Pending.{Pending as KeptPending}
use Rattle.mtl_parse.proofs.Viability.{nothing_open}

opened_append : (xs ys : List Pending) → has_opened (xs ++ ys) ≡ (has_opened xs || has_opened ys)
opened_append [] ys = refl
opened_append (p ∷ ps) ys = by (is_opened p) (opened_append ps ys)
  where
    by : (v : Bool) → has_opened (ps ++ ys) ≡ (has_opened ps || has_opened ys) → (v || has_opened (ps ++ ys)) ≡ ((v || has_opened ps) || has_opened ys)
    by true h = refl
    by false h = h

exchanged : (a b : Bool) → (a || (b || false)) ≡ (b || a)
exchanged true true = refl
exchanged true false = refl
exchanged false true = refl
exchanged false false = refl

pub opened_any : (items : List KeptPending) → list_any (λ p. is_opened (pending_in p)) items ≡ has_opened (stack_in items)
opened_any [] = refl
opened_any (p ∷ ps) = sym (
    ap has_opened (reverse-append (pending_in p ∷ []) (map pending_in ps))
    ∙ opened_append (stack_in ps) (pending_in p ∷ [])
    ∙ exchanged (has_opened (stack_in ps)) (is_opened (pending_in p))
    ∙ ap (λ v. is_opened (pending_in p) || v) (sym (opened_any ps)))

none_finished : (c : Completed) → closed c ≡ None → is_some (finished c) ≡ true
none_finished c = by c.stack c.form
  where
    by : (stack : List Pending) (f : Form) → closed (record { stack = stack; form = f }) ≡ None → is_some (finished (record { stack = stack; form = f })) ≡ true
    by [] f h = refl
    by (p ∷ ps) f h = absurd (cc)

-- where no parenthesis can be closed, none was open
pub none_opened : (stack : List Pending) (f : Form) (byte : ℕ) → closed (complete capped 1 stack f) ≡ None → fault.Trailing byte ≡ refusal_behind stack byte
none_opened stack f byte h = by (has_opened stack) (sym (none_finished (complete capped 1 stack f) h) ∙ nothing_open capped stack f)
  where
    by : (v : Bool) → true ≡ not v → fault.Trailing byte ≡ (if not v then fault.Trailing byte else fault.Expected byte)
    by true e = absurd (cc)
    by false e = refl
