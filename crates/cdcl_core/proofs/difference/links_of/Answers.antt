use Rattle.std.proofs.Common.{◌≡◌, ◌∙◌, ℕ, ◌+◌, ◌<◌, ◌≤◌, ◌⊎◌, inl, inr, ap, refl, subst, sym, List, [], length, replicate, set, Option, Some, None, arith}
use Rattle.std.proofs.lemmas.Bool.{cases_lt}
use Rattle.std.proofs.lemmas.List.{get_or-replicate, get_or-set_other, get_or-set_same, get_or_past, length-replicate, length-set, set-get_or}
use Rattle.std.proofs.lemmas.Option.{get_or_from_slice_get, slice_get_within}
use Rattle.neg_cycle.specs.declared.system.Edge.{Edge}
use Rattle.neg_cycle.specs.declared.system.TheConstants.{MAX_NODES}
use Rattle.clause_db.specs.declared.lit.Lit.{Lit}
use Rattle.propagate.specs.Links.{edges_at}
use Rattle.axiom_rules.specs.declared.literal.Atom.{Atom}
use Rattle.axiom_rules.specs.Atoms.{IsVar}
use Rattle.cdcl_core.specs.Orders.{IsOrderAmong, atom_at, order_edges}
use Rattle.cdcl_core.proofs.Pairs.{atom_there}
use Rattle.cdcl_core.proofs.difference.links_of.Goals.{then-is_next, else-is_next+in-Some, else-is_next+in_default}
use Rattle.cdcl_core.proofs.difference.links_of.Goals as goal

-- new links have no edges
new_none : (n k : ℕ) → edges_at (replicate n None) k ≡ None
new_none n k = elim (cases_lt k n) [
  | inl within ↦ get_or-replicate n k None None within
  | inr past ↦ get_or_past (replicate n None) k None (omega (arith, length-replicate {A = Option (Edge × Edge)} n None))
]

-- the links of one variable more, which gets these edges, if any
module _ (atoms : List Atom) (links : List (Option (Edge × Edge))) (v : ℕ) (within : v < length links) (a : Atom) (here : IsVar atoms v a) (o : Option (Edge × Edge)) where
  done_more : ((k : ℕ) (b : Atom) (both : Edge × Edge) → k < v → IsVar atoms k b → edges_at links k ≡ Some both → order_edges b ≡ Some both)
      → ((o ≡ None) ⊎ (o ≡ order_edges a))
      → (k : ℕ) (b : Atom) (both : Edge × Edge) → k < v + 1 → IsVar atoms k b → edges_at (set links v o) k ≡ Some both → order_edges b ≡ Some both
  done_more done gets k b both below var is = elim (cases_lt k v) [
    | inl less ↦ done k b both less var (sym (get_or-set_other links v k o None (λ (e : k ≡ v). omega arith)) ∙ is)
    | inr most ↦
        let same : k ≡ v = omega arith in
        let atom : a ≡ b = cc in
        let got : o ≡ Some both = sym (get_or-set_same links v o None within) ∙ rw same at is in
        elim gets [
          | inl none ↦ absurd (cc)
          | inr edges ↦ ap order_edges (sym atom) ∙ sym edges ∙ got
        ]
  ]

  all_more : ((k : ℕ) (b : Atom) → k < v → IsVar atoms k b → edges_at links k ≡ order_edges b) → o ≡ order_edges a
      → (k : ℕ) (b : Atom) → k < v + 1 → IsVar atoms k b → edges_at (set links v o) k ≡ order_edges b
  all_more all edges k b below var = elim (cases_lt k v) [
    | inl less ↦ get_or-set_other links v k o None (λ (e : k ≡ v). omega arith) ∙ all k b less var
    | inr most ↦
        let same : k ≡ v = omega arith in
        let atom : a ≡ b = cc in
        rw same (get_or-set_same links v o None within ∙ edges ∙ ap order_edges atom)
  ]

  left_more : ((k : ℕ) → v ≤ k → edges_at links k ≡ None) → (k : ℕ) → v + 1 ≤ k → edges_at (set links v o) k ≡ None
  left_more left k past = get_or-set_other links v k o None (λ (e : k ≡ v). omega arith) ∙ left k (omega arith)

pub loop-v-init : goal.loop-v-init
loop-v-init c =
    let new = c.in_ok-links.ensures.none in
    record {
      count = ap length new ∙ length-replicate {A = Option (Edge × Edge)} c.len.result None ∙ c.len.ensures.atoms;
      done = λ k a both below var is. absurd (omega (arith, below));
      all = λ none k a below var. absurd (omega (arith, below));
      left = λ k past. rw new (new_none c.len.result k);
    }

pub order_edges-requires : goal.order_edges-requires
order_edges-requires c =
    let atoms = c.args.atoms.now in
    let v = c.new-var.result in
    let here = c.atom.ensures.atom in
    record {
      order = subst (IsOrderAmong MAX_NODES) (get_or_from_slice_get atoms v c.atom.result c.atom.result here) (c.requires.orders v c.atom.result (slice_get_within atoms v c.atom.result here));
    }

-- the variable gets no edges, or those of its atom; where nothing is assumed it gets those
record Gets (atoms : List Atom) (assumed : List Lit) (old new : List (Option (Edge × Edge))) (v : ℕ) : Type 0 where
  gets : Option (Edge × Edge)
  is : new ≡ set old v gets
  own : (gets ≡ None) ⊎ (gets ≡ order_edges (atom_at atoms v))
  all : assumed ≡ [] → gets ≡ order_edges (atom_at atoms v)

got_here : (c : goal.Joined-is_next) → Gets c.args.atoms.now c.args.assumed.now c.loop-v.links c.if-is_next.links c.loop-v.v
got_here c =
    let unset = c.loop-v.invariant.left c.loop-v.v (omega arith) in
    let kept = set-get_or c.loop-v.links c.loop-v.v None in
    elim c.if-is_next.branch [
      | then-is_next w ↦ record {
        gets = None;
        is = cc (w.links-is);
        own = inl refl;
        all = λ none. let no = c.is_next.ensures.some none in let yes = w.if-is_next.true in absurd (cc);
      }
      | else-is_next+in-Some w ↦
          let atom : atom_at c.args.atoms.now c.loop-v.v ≡ w.atom.result = get_or_from_slice_get c.args.atoms.now c.loop-v.v w.atom.result _ (rw c.new-var.ensures.number at w.atom.ensures.atom) in
          record {
            gets = order_edges w.atom.result;
            is = cc (w.links-is, w.set.ensures.edges, w.in-Some.ensures.edges, c.new-var.ensures.number);
            own = inr (ap order_edges (sym atom));
            all = λ none. ap order_edges (sym atom);
          }
      | else-is_next+in_default w ↦
          let none = w.in_default.ensures.edges in
          let atom : atom_at c.args.atoms.now c.loop-v.v ≡ w.atom.result = get_or_from_slice_get c.args.atoms.now c.loop-v.v w.atom.result _ (rw c.new-var.ensures.number at w.atom.ensures.atom) in
          record {
            gets = order_edges w.atom.result;
            is = cc (w.links-is);
            own = inr (ap order_edges (sym atom));
            all = λ none. ap order_edges (sym atom);
          }
    ]

pub loop-v-preserved : goal.loop-v-preserved
loop-v-preserved c =
    let got = got_here c in
    let before = c.loop-v.invariant in
    let atoms = c.args.atoms.now in
    let v = c.loop-v.v in
    let within : v < length c.loop-v.links = omega (arith, before.count, c.loop-v-test.true, c.len-v-end.ensures.atoms) in
    let here = atom_there atoms v (omega (arith, c.loop-v-test.true, c.len-v-end.ensures.atoms)) in
    record {
      count = ap length got.is ∙ length-set c.loop-v.links v got.gets ∙ before.count;
      done = rw got.is (done_more atoms c.loop-v.links v within (atom_at atoms v) here got.gets before.done got.own);
      all = λ none. rw got.is (all_more atoms c.loop-v.links v within (atom_at atoms v) here got.gets (before.all none) (got.all none));
      left = rw got.is (left_more atoms c.loop-v.links v within (atom_at atoms v) here got.gets before.left);
    }

pub returns : goal.returns
returns c =
    let loop = c.loop-v.invariant in
    record {
      links = record { count = loop.count; each = λ v a both var. loop.done v a both (omega (arith, slice_get_within c.args.atoms.now v a var, c.loop-v-test.false, c.len-v-end.ensures.atoms)) var };
      all = λ none v a var. loop.all none v a (omega (arith, slice_get_within c.args.atoms.now v a var, c.loop-v-test.false, c.len-v-end.ensures.atoms)) var;
    }
