use Rattle.std.proofs.Common.{◌∙◌, ap, sym}
use Rattle.std.specs.Prelude.{codes, map, string_bytes}
use Rattle.skew_answers.specs.declared.status.Status.TheVariants as status
use Rattle.skew_answers.specs.Texts.{line}
use Rattle.skew_words.specs.Called.{command_in}
use Rattle.skew_cli.proofs.Outcomes.{Ends-weaker, HasOutcome-answer, HasPossible-answer, IsPossible-command, IsPossible-words, Outcome-command, Outcome-words, refused-written}
use Rattle.skew_cli.proofs.Turns.{none-in_turn}
use Rattle.skew_cli.proofs.program.run.Goals as goal

pub call_of-requires : goal.call_of-requires
call_of-requires g c = (c.in-Some.spoken, sym c.verb.ensures, ap (map string_bytes) c.deref-2.ensures.value ∙ c.in-Ok.ensures, c.in-Some.ensures.said)

pub returns-in-Ok-reply-clause-outcome : goal.returns-in-Ok-reply-clause-outcome
returns-in-Ok-reply-clause-outcome g c = λ tells told files agree.
    let list = ap (map string_bytes) c.deref-2.ensures.value ∙ c.in-Ok.ensures in
    let called = c.in-Ok-call_of.ensures.command c.in-Some.spoken (sym c.verb.ensures) list in
    let command = rw c.deref.ensures.value at (sym c.in-Some.ensures.command ∙ called) in
    let outcome = c.in-Ok-reply.ensures.outcome tells in
    Ends-weaker _ _ _ _ _
    (λ b s due. rw (due.0, due.1, c.deref-in-Ok-reply.ensures.value)
    (Outcome-command (map string_bytes c.args.words.now.items) (command_in c.in-Ok-call_of.call)
    (g.S.Shelf.files c.args.shelf.now) files c.in-Ok-reply.reply.text.items c.in-Ok-reply.reply.status command agree outcome))
    (c.finish-in-Ok-reply.ensures.ends told)

pub returns-in-Ok-reply-clause-status : goal.returns-in-Ok-reply-clause-status
returns-in-Ok-reply-clause-status g c = λ tells answer files agree.
    let list = ap (map string_bytes) c.deref-2.ensures.value ∙ c.in-Ok.ensures in
    let called = c.in-Ok-call_of.ensures.command c.in-Some.spoken (sym c.verb.ensures) list in
    let command = rw c.deref.ensures.value at (sym c.in-Some.ensures.command ∙ called) in
    let reply = c.in-Ok-reply.reply in
    let outcome =
    Outcome-command (map string_bytes c.args.words.now.items) (command_in c.in-Ok-call_of.call)
    (g.S.Shelf.files c.args.shelf.now) files reply.text.items reply.status command agree (c.in-Ok-reply.ensures.outcome tells) in
    HasOutcome-answer (map string_bytes c.args.words.now.items) files reply.text.items reply.status c.finish-in-Ok-reply.result c.finish-in-Ok-reply.ensures.status answer outcome

pub returns-in-Ok-reply-clause-possible : goal.returns-in-Ok-reply-clause-possible
returns-in-Ok-reply-clause-possible g c = λ told.
    let list = ap (map string_bytes) c.deref-2.ensures.value ∙ c.in-Ok.ensures in
    let called = c.in-Ok-call_of.ensures.command c.in-Some.spoken (sym c.verb.ensures) list in
    let command = rw c.deref.ensures.value at (sym c.in-Some.ensures.command ∙ called) in
    let reply = c.in-Ok-reply.reply in
    let possible = IsPossible-command (map string_bytes c.args.words.now.items) (command_in c.in-Ok-call_of.call) reply.text.items reply.status command c.in-Ok-reply.ensures.possible in
    Ends-weaker _ _ _ _ _ (λ b s due. rw (due.0, due.1, c.deref-in-Ok-reply.ensures.value) possible) (c.finish-in-Ok-reply.ensures.ends told)

pub returns-in-Ok-reply-clause-possible_status : goal.returns-in-Ok-reply-clause-possible_status
returns-in-Ok-reply-clause-possible_status g c = λ answer.
    let list = ap (map string_bytes) c.deref-2.ensures.value ∙ c.in-Ok.ensures in
    let called = c.in-Ok-call_of.ensures.command c.in-Some.spoken (sym c.verb.ensures) list in
    let command = rw c.deref.ensures.value at (sym c.in-Some.ensures.command ∙ called) in
    let reply = c.in-Ok-reply.reply in
    let possible = IsPossible-command (map string_bytes c.args.words.now.items) (command_in c.in-Ok-call_of.call) reply.text.items reply.status command c.in-Ok-reply.ensures.possible in
    HasPossible-answer (map string_bytes c.args.words.now.items) reply.text.items reply.status c.finish-in-Ok-reply.result c.finish-in-Ok-reply.ensures.status answer possible

pub returns-in-Ok-reply-clause-refused : goal.returns-in-Ok-reply-clause-refused
returns-in-Ok-reply-clause-refused g c = λ told refused.
    let reply = c.in-Ok-reply.reply in
    refused-written reply.text.items _ _ reply.status c.finish-in-Ok-reply.result c.finish-in-Ok-reply.ensures.status
    (rw c.deref-in-Ok-reply.ensures.value at (c.finish-in-Ok-reply.ensures.ends told)) c.in-Ok-reply.ensures.answer
    c.in-Ok-reply.ensures.refused refused

pub returns-in_default-clause-status : goal.returns-in_default-clause-status
returns-in_default-clause-status g c = λ tells answer files agree.
    let words = map string_bytes c.args.words.now.items in
    let none = rw c.deref.ensures.value at (sym c.in_default.ensures.command) in
    HasOutcome-answer words files (line (codes "refused words")) status.Words c.finish.result c.finish.ensures.status answer (Outcome-words words files none)

pub returns-in_default-clause-possible_status : goal.returns-in_default-clause-possible_status
returns-in_default-clause-possible_status g c = λ answer.
    let words = map string_bytes c.args.words.now.items in
    let none = rw c.deref.ensures.value at (sym c.in_default.ensures.command) in
    HasPossible-answer words (line (codes "refused words")) status.Words c.finish.result c.finish.ensures.status answer (IsPossible-words words none)

pub returns-in_default-normal_list-clause-in_turn : goal.returns-in_default-normal_list-clause-in_turn
returns-in_default-normal_list-clause-in_turn g c = λ _. none-in_turn (map string_bytes c.args.words.now.items) (g.S.Shelf.files c.args.shelf.now) (g.S.Shelf.openings c.args.shelf.now)

pub returns-in_default-call_of-clause-in_turn : goal.returns-in_default-call_of-clause-in_turn
returns-in_default-call_of-clause-in_turn g c = λ _. none-in_turn (map string_bytes c.args.words.now.items) (g.S.Shelf.files c.args.shelf.now) (g.S.Shelf.openings c.args.shelf.now)
