-- That what opens no file opens none before its turn.
use Rattle.std.proofs.Common.{List, Option, Some, None, inl}
use Rattle.std.specs.Prelude.{MatchOption}
use Rattle.mt_port.specs.Port.{Files, Openings}
use Rattle.skew_words.specs.Words.{Audit, Check, Command, Demo, Json, Order, Replay, Span, Times, Tolerance, Trim, Word, command_of}
use Rattle.skew_commands.proofs.Opening.{none-opened}
use Rattle.skew_cli.specs.Outcome.{OpensFilesInTurn, OpensNamedInTurn}

none-of : (files : Files) (a : Openings) (command : Command) → OpensFilesInTurn files command a a
none-of files a (Times log) = tt
none-of files a (Replay formula log times) = record { second = inl (none-opened _ a); third = inl (none-opened _ a) }
none-of files a (Order log) = tt
none-of files a (Check conflicts formula log) = inl (none-opened _ a)
none-of files a (Audit conflicts formula log report) = record { second = inl (none-opened _ a); third = inl (none-opened _ a) }
none-of files a (Trim name) = tt
none-of files a (Json name) = tt
none-of files a (Tolerance conflicts value max formula log) = inl (none-opened _ a)
none-of files a (Span conflicts value from to formula log) = inl (none-opened _ a)
none-of files a (Demo seed) = tt

none-said : (files : Files) (a : Openings) (said : Option Command) → MatchOption said (Unit {0}) (λ command. OpensFilesInTurn files command a a)
none-said files a None = tt
none-said files a (Some command) = none-of files a command

pub none-in_turn : (words : List Word) (files : Files) (a : Openings) → OpensNamedInTurn words files a a
none-in_turn words files a = none-said files a (command_of words)
