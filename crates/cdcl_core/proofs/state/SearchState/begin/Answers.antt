-- Where the search is before the first conflict.
use Rattle.std.proofs.Common.{◌≡◌, ◌∙◌, ap, refl, [], ◌++◌, length, arith}
use Rattle.std.specs.Prelude.{IsTrue}
use Rattle.std.proofs.lemmas.Bool.Decides.{nat_tests}
use Rattle.std.proofs.lemmas.List.{nil_from_length}
use Rattle.cdcl_core.specs.declared.state.SearchState.{SearchState}
use Rattle.cdcl_core.proofs.Starts.{ones, started, unwritten}
use Rattle.cdcl_core.proofs.state.SearchState.begin.Goals as goal

pub returns : goal.returns
returns c =
    let p = c.args.problem in
    let assumed = c.args.assumed.now in
    let start = c.in_ok-start.start in
    let made = c.in_ok-start.ensures in
    let grown = c.in_ok-assume_all.ensures in
    let begun = c.begin-derived.ensures in
    let s : SearchState = record {
      theory = record { bounds = p.bounds; atoms = p.atoms; links = start.links; nodes = p.nodes; whole = c.is_empty.result };
      trail = start.trail;
      graph = start.graph;
      ground = start.ground;
      linked = c.new-2.result;
      derived = c.assume_all.new.self;
      strategy = start.strategy;
    } in
    let empty : IsTrue c.is_empty.result → assumed ≡ [] = λ test.
    nil_from_length assumed (let is = c.is_empty.ensures in grind (arith, nat_tests)) in
    record {
      begun = started c.cores_are_cores.ensures c.nodes_are_subtrees.ensures p c.requires.posed s assumed refl refl refl made.links
          empty made.all_links c.new-2.ensures.none c.new-2.ensures.unseen made.vars made.nodes made.room made.ground
          (grown.clauses ∙ ap (λ db. db ++ ones assumed) begun.clauses) (grown.cites ∙ ap (λ hs. hs ++ unwritten assumed) begun.cites) (grown.lines ∙ begun.none)
          begun.in_range c.requires.within c.requires.few made.run;
      whole = λ none. let size : length assumed ≡ 0 = ap length none in let is = c.is_empty.ensures in grind (arith, nat_tests);
    }
