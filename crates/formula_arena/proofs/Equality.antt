-- The comparisons of nodes and propositions decide equality.
use Rattle.std.proofs.Common.{◌≡◌, ℕ, true, false, ◌&&◌, ◌==◌, refl, sym, ap, true≢false, Option, Some, None, bytes_eq}
use Rattle.std.specs.Cmp.Lexicographic.{same_text}
use Rattle.std.proofs.lemmas.Bool.{and_parts, eqb-true}
use Rattle.mt_model.specs.declared.tree.Interval.{Interval}
use Rattle.mt_model.specs.contracts.tree.IntervalPartialEq.TheImpl.{eq-value as interval_eq}
use Rattle.formula_arena.specs.declared.node.Core.{Core}
use Rattle.formula_arena.specs.declared.node.Core.TheVariants as core
use Rattle.formula_arena.specs.declared.node.Proposition.{Proposition}
use Rattle.formula_arena.specs.contracts.node.CorePartialEq.TheImpl.{eq-value as core_eq}
use Rattle.formula_arena.specs.contracts.node.PropositionPartialEq.TheImpl.{eq-value as prop_eq}

interval_of : ℕ → Option ℕ → Interval
interval_of low high = record { low = low; high = high }

interval_parts : (l m : ℕ) (g h : Option ℕ) → interval_eq.it (interval_of l g) (interval_of m h) ≡ true → interval_of l g ≡ interval_of m h
unfolding interval_of
interval_parts l m None None e = ap (λ n. interval_of n None) (eqb-true l m (and_parts (l == m) true e).0)
interval_parts l m (Some x) (Some y) e =
    let both = and_parts (l == m) (x == y) e in
    let p : l ≡ m = eqb-true l m both.0 in
    let q : x ≡ y = eqb-true x y both.1 in
    cc
interval_parts l m None (Some y) e = absurd (true≢false (sym (and_parts (l == m) false e).1))
interval_parts l m (Some x) None e = absurd (true≢false (sym (and_parts (l == m) false e).1))

pub interval_same : (I J : Interval) → interval_eq.it I J ≡ true → I ≡ J
unfolding interval_of
interval_same I J h = interval_parts I.low J.low I.high J.high h

pub core_same : (a b : Core) → core_eq.it a b ≡ true → a ≡ b
core_same core.True core.True h = refl
core_same (core.Prop p) (core.Prop q) h = ap core.Prop (eqb-true p q h)
core_same (core.Not a) (core.Not b) h = ap core.Not (eqb-true a b h)
core_same (core.And a b) (core.And c d) h =
    let both = and_parts (a == c) (b == d) h in
    let p : a ≡ c = eqb-true a c both.0 in
    let q : b ≡ d = eqb-true b d both.1 in
    cc
core_same (core.Until I a b) (core.Until J c d) h =
    let both = and_parts (interval_eq.it I J) ((a == c) && (b == d)) h in
    let rest = and_parts (a == c) (b == d) both.1 in
    let e : I ≡ J = interval_same I J both.0 in
    let p : a ≡ c = eqb-true a c rest.0 in
    let q : b ≡ d = eqb-true b d rest.1 in
    cc
core_same (core.Since I a b) (core.Since J c d) h =
    let both = and_parts (interval_eq.it I J) ((a == c) && (b == d)) h in
    let rest = and_parts (a == c) (b == d) both.1 in
    let e : I ≡ J = interval_same I J both.0 in
    let p : a ≡ c = eqb-true a c rest.0 in
    let q : b ≡ d = eqb-true b d rest.1 in
    cc
core_same a b h = absurd (true≢false (sym h))

pub prop_same : (p q : Proposition) → prop_eq.it p q ≡ true → p ≡ q
prop_same p q h =
    let both = and_parts (bytes_eq p.host q.host) (bytes_eq p.name q.name) h in
    let host : p.host ≡ q.host = same_text p.host q.host (sym both.0) in
    let name : p.name ≡ q.name = same_text p.name q.name (sym both.1) in
    λ i. record { host = host i; name = name i }
