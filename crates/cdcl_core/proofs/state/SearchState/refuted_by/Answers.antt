use Rattle.std.proofs.Common.{◌≡◌, ◌+◌, ◌<◌, length, subst, map}
use Rattle.std.specs.Prelude.{All}
use Rattle.std.proofs.lemmas.List.{length_push}
use Rattle.clause_db.specs.declared.lit.Lit.{Lit}
use Rattle.cdcl_core.specs.Founds.{lessons}
use Rattle.cdcl_core.specs.Recording.{cite_at}
use Rattle.cdcl_core.proofs.Endings.{refutation}
use Rattle.cdcl_core.proofs.Learning.{no_lesson, record_refuted}
use Rattle.cdcl_core.proofs.Progress.{cites_count, conflict_reasons, few_atoms, trail_vars}
use Rattle.cdcl_core.proofs.state.SearchState.refuted_by.Goals as goal

pub learnt-requires-clause-refs : goal.learnt-requires-clause-refs
learnt-requires-clause-refs c = let w = c.requires.conflicted in rw (cites_count w.problem c.args.self.now w.midway.search_for) c.requires.refute.held

pub returns : goal.returns
returns c = record {
  refuted = λ p n mid.
      let s = c.args.self.now in
      let own = mid.search_for in
      let reasons = conflict_reasons s.derived.db s.theory.links p.edges s.trail s.graph c.args.conflict mid.conflicted in
      let same = own.theory_of.atoms in
      let lines : c.take_lines.result ≡ c.push.new.self = c.take_lines.ensures.lines in
      let count : length c.take_lines.result ≡ length s.derived.lines + 1 = rw (lines, c.in_ok-push.ensures.ok) (length_push s.derived.lines c.in_ok-line.line) in
      let lessons_are : lessons c.take_lines.result ≡ lessons s.derived.lines =
      rw (lines, c.in_ok-push.ensures.ok) (no_lesson s.derived.lines (map (cite_at s.derived.cites) c.args.hints.now) c.in_ok-line.line c.in_ok-line.ensures.line) in
      refutation p s n c.args.conflict c.take_lines.result mid count lessons_are (λ log f v old.
      rw (lines, c.in_ok-push.ensures.ok)
      (record_refuted log f v s.theory.atoms s.derived.db s.derived.cites s.derived.lines (rw same old) c.len.ensures.once (few_atoms p s own)
      (subst (λ n. All (All (λ (l : Lit). l.var < n)) s.derived.db) (trail_vars p s own) reasons.variables)
      c.args.hints.now c.in_ok-line.line c.requires.refute c.requires.settled c.in_ok-line.ensures.line));
}
