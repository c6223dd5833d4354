-- Where the walk begins: at the trail's end, with the false clause's literals marked.
use Rattle.std.proofs.Common.{◌≡◌, ◌∙◌, ap, sym, subst, refl, ℕ, ◌<◌, inl, inr, List, [], ◌∷◌, length, arith}
use Rattle.std.specs.List.{Contains}
use Rattle.std.proofs.lemmas.List.Elements.{All-cons, All-nil}
use Rattle.hint_refutation.proofs.Lists.{all_from, any_from, contains_first}
use Rattle.clause_db.specs.declared.lit.Lit.{Lit}
use Rattle.clause_db.specs.Literals.{negation}
use Rattle.clause_db.specs.Clauses.{clause_at, clauses_at}
use Rattle.propagate.specs.Trails.{Assigned, entry_at, IsTrail}
use Rattle.propagate.specs.Clauses.{IsFalsified}
use Rattle.analyze.specs.Asserting.{HasHere}
use Rattle.analyze.specs.Marks.{HasMarkHere, IsMarkedBy}
use Rattle.analyze.specs.Resolving.{denied, IsLeft, IsWork}
use Rattle.analyze.proofs.Order.{distinct, false_at, since_at}
use Rattle.propagate.proofs.PlaceLemmas.{undone}

module _ (t : Assigned) (db : List (List Lit)) (trail : IsTrail t) (conflict : ℕ) (held : conflict < length db) (falsified : IsFalsified t.entries (clause_at db conflict))
    (here : 0 < length t.levels → HasHere t (clause_at db conflict)) (marked : List ℕ) (by : IsMarkedBy t.entries (length t.entries) (clause_at db conflict) [] marked) where
  from_conflict : (k : ℕ) → IsLeft marked [] k → Contains (clause_at db conflict) (denied t.entries k)
  from_conflict k (inl m) = elim (by.only k m) [
    | inl old ↦ absurd (omega (arith, old.1))
    | inr new ↦
        let l = new.2.0 in
        let f = false_at t.entries (clause_at db conflict) falsified l new.2.1 in
        let at : f.0 ≡ k = distinct t trail f.0 k f.1 new.1 (ap (λ (y : Lit). y.var) f.2 ∙ sym new.2.2) in
        let is : (entry_at t.entries k).lit ≡ negation l = ap (λ (i : ℕ). (entry_at t.entries i).lit) (sym at) ∙ f.2 in
        subst (λ (y : Lit). Contains (clause_at db conflict) y) (sym (ap negation is ∙ undone l)) new.2.1
  ]
  from_conflict k (inr has) = absurd (omega (arith, has.1))

  -- the conflict has a literal of the present level, so that is marked
  many : HasHere t (clause_at db conflict) → HasMarkHere t marked
  many (i, l, below, at, since) =
      let has : Contains (clause_at db conflict) l = (i, below, at) in
      let f = since_at t.entries (λ n. n ≡ length t.levels) l since in
      (f.0, by.added f.0 l f.1 f.1 has (ap (λ (y : Lit). y.var) f.2), f.3)

  pub begun : IsWork t db conflict (length t.entries) marked [] (conflict ∷ [])
  begun = record {
    below = λ k has. elim (by.only k has) [ inl old ↦ absurd (omega (arith, old.1)) | inr new ↦ new.0 ];
    within = omega arith;
    are_aside = record {
      within = λ j below. absurd (omega (arith, below));
      falling = λ i j less below. absurd (omega (arith, below));
      first = λ some. absurd (omega (arith, some));
      above = λ some. absurd (omega (arith, some));
      lower = λ j pos below. absurd (omega (arith, below));
    };
    phase = λ pos. inl (refl, many (here pos));
    held = All-cons (λ (h : ℕ). h < length db) conflict [] held (All-nil (λ (h : ℕ). h < length db));
    ends = ([], refl);
    given = [];
    refutes = λ assumed all only. (
      refl,
      all_from (λ (l : Lit). Contains assumed (negation l)) (clause_at db conflict) (λ l has.
          let f = false_at t.entries (clause_at db conflict) falsified l has in
          let is_marked = by.added f.0 l f.1 f.1 has (ap (λ (y : Lit). y.var) f.2) in
          subst (λ (a : Lit). Contains assumed a) f.2 (all f.0 (inl is_marked))),
    );
    spent = tt;
    stands =
        λ k left. any_from (λ clause. Contains clause (denied t.entries k)) (clauses_at db (conflict ∷ [])) (clause_at db conflict) (contains_first (clause_at db conflict) []) (from_conflict k left);
    two = inr (λ k left pos. from_conflict k left);
  }
