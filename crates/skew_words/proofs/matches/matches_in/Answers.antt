use Rattle.std.proofs.Common.{◌≡◌, ◌∙◌, sym, true, true≢false}
use Rattle.skew_words.proofs.NormalLemmas.{normal-found, normal-taken}
use Rattle.skew_words.proofs.matches.matches_in.Goals as goal

pub prove-unreachable-requires : goal.prove-unreachable-requires
prove-unreachable-requires c =
    let taken = normal-taken c.args.verb _ _ c.in_ok-command.ensures c.requires in
    let kind = c.kind.ensures ∙ c.in-Err.ensures.passes taken in
    let same : c.eq.result ≡ true = rw kind at c.eq.ensures in
    true≢false (sym same ∙ c.if-prove.true)

pub returns-in-Ok : goal.returns-in-Ok
returns-in-Ok c = normal-found c.args.verb _ _ c.in_ok-command.ensures c.requires c.in-Ok.matches c.in-Ok.ensures.matches
