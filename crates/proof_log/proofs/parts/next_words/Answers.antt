use Rattle.std.proofs.Common.{◌≡◌, ◌≢◌, ◌+◌, take, codes, rules}
use Rattle.std.proofs.lemmas.List.{take_rest}
use Rattle.proof_log.specs.LinesText.{newline}
use Rattle.proof_log.proofs.Cuts.{cut-none}
use Rattle.proof_log.proofs.HeadLines.{head-at, none-head}
use Rattle.proof_log.proofs.HandedWords.{cycle-handed, learn-handed, words-spaced}
use Rattle.proof_log.proofs.ReadingLines.{no-newline}
use Rattle.proof_log.proofs.parts.next_words.Goals as goal

pub returns-in_default : goal.returns-in_default
returns-in_default c = record { head = none-head c.args.bytes.now (no-newline c.args.bytes.now (cut-none newline c.args.bytes.now c.in_default.ensures)) }

pub returns-then-eq : goal.returns-then-eq
returns-then-eq c = record {
  head = λ lines is.
      let bytes = c.args.bytes.now in
      let end = c.in-Some.end in
      let found = c.in-Some.ensures in
      let h = head-at bytes end found.0 found.1 lines is in
      let cycle : c.cut_word.result.0.now ≡ codes "cycle" = search rules in
      record {
        line = h.line;
        others = h.others;
        split = h.split;
        text = rw (take_rest bytes (end + 1)) h.text;
        spelled = h.spelled;
        words = cycle-handed (take end bytes) c.cut_word.result.0.now c.cut_word.result.1 c.cut_word.ensures.words cycle h.line h.spelled h.words;
        bytes = words-spaced (take end bytes) c.cut_word.result.0.now c.cut_word.result.1.now c.cut_word.ensures.words c.cut_word.ensures.bytes;
      };
}

pub returns-else-eq : goal.returns-else-eq
returns-else-eq c = record {
  head = λ lines is.
      let bytes = c.args.bytes.now in
      let end = c.in-Some.end in
      let found = c.in-Some.ensures in
      let h = head-at bytes end found.0 found.1 lines is in
      let other : c.cut_word.result.0.now ≢ codes "cycle" = search rules in
      record {
        line = h.line;
        others = h.others;
        split = h.split;
        text = rw (take_rest bytes (end + 1)) h.text;
        spelled = h.spelled;
        words = learn-handed (take end bytes) c.cut_word.result.0.now c.cut_word.result.1 c.cut_word.ensures.words other h.line h.spelled h.words;
        bytes = words-spaced (take end bytes) c.cut_word.result.0.now c.cut_word.result.1.now c.cut_word.ensures.words c.cut_word.ensures.bytes;
      };
}
