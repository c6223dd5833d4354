-- A rule's hint is not open, so a clause whose hint is has its place among the lines.
use Rattle.std.proofs.Common.{◌≡◌, ◌∙◌, sym, ap, set, subst, ℕ, ◌-◌, ◌<◌, ◌≤◌, List, [], ◌++◌, IsTrue, length, map, get_or, arith}
use Rattle.std.proofs.lemmas.Bool.{false≢true}
use Rattle.std.proofs.lemmas.List.{get_or_append_left, get_or-map, length-map, map-set, set-append_right}
use Rattle.axiom_rules.specs.declared.rule.Rule.{Rule}
use Rattle.proof_log.specs.declared.line.Hint.{Hint}
use Rattle.proof_log.specs.declared.line.Hint.TheVariants as hint
use Rattle.cdcl_core.specs.Recording.{cite_at, is_open}
use Rattle.cdcl_core.proofs.cites.Cites.settle.Goals as goal

abbrev view : List Rule → List ℕ → List Hint
view rules lines = map hint.Rule rules ++ map hint.Line lines

set_line : (rules : List Rule) (lines : List ℕ) (at m : ℕ) → length rules ≤ at → view rules (set lines (at - length rules) m) ≡ set (view rules lines) at (hint.Line m)
set_line rules lines at m past =
    ap (λ hs. map hint.Rule rules ++ hs) (map-set hint.Line lines (at - length rules) m)
    ∙ sym (set-append_right (map hint.Rule rules) (map hint.Line lines) (length rules) at (hint.Line m) (length-map rules hint.Rule) past)

rule_closed : (rules : List Rule) (lines : List ℕ) (at : ℕ) → at < length rules → IsTrue (is_open (cite_at (view rules lines) at)) → ⊥
rule_closed rules lines at low unwritten =
    let d : Rule = record { number = 0; args = [] } in
    let left : cite_at (view rules lines) at ≡ cite_at (map hint.Rule rules) at =
    get_or_append_left (map hint.Rule rules) (map hint.Line lines) (hint.Line 0) at (let count = length-map rules hint.Rule in omega (arith, low, count)) in
    let cite : cite_at (view rules lines) at ≡ hint.Rule (get_or rules at d) = left ∙ get_or-map hint.Rule rules at d (hint.Line 0) low in
    false≢true (subst (λ h. IsTrue (is_open h)) cite unwritten)

pub returns-then-place-many : goal.returns-then-place-many
returns-then-place-many c =
    let inside = c.self.inside in
    let many = c.as_slice-many.ensures.items in
    let place = c.get-place.ensures.place in
    let past : length inside.rules ≤ c.args.clause = let more = c.if-place-many.true in let same = ap length many in omega (arith, more, same, place) in
    record {
      settled = rw (← c.self.view_is, ap length many, place) (set_line inside.rules inside.lines.items c.args.clause c.args.line past);
    }

pub returns-else-place-many : goal.returns-else-place-many
returns-else-place-many c =
    let inside = c.self.inside in
    let low : c.args.clause < length inside.rules = let less = c.if-place-many.false in let same = ap length c.as_slice-many.ensures.items in let place = c.get-place.ensures.place in omega (arith, less, same, place) in
    absurd (rule_closed inside.rules inside.lines.items c.args.clause low (subst (λ hs. IsTrue (is_open (cite_at hs c.args.clause))) (sym c.self.view_is) c.requires.open))
