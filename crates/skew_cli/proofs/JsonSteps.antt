-- From what was found of a JSON file to what is asked for.
use Rattle.std.proofs.Common.{◌≡◌, refl, ℕ, ◌≤◌, List, [], length, Some, Ok, Err}
use Rattle.std.specs.Prelude.{Result}
use Rattle.mt_model.specs.Log.{Logged}
use Rattle.mt_port.specs.Port.{Files, file_of}
use Rattle.json_log.specs.declared.fault.JsonFault.{JsonFault}
use Rattle.json_log.specs.declared.fault.JsonFault.TheVariants as fault
use Rattle.json_log.specs.JsonLogOf.{json_log_of}
use Rattle.skew_answers.specs.declared.status.Status.{Status}
use Rattle.skew_answers.specs.Texts.{line}
use Rattle.skew_words.specs.Words.{Word}
use Rattle.skew_commands.specs.declared.refusal.Named.TheVariants as named
use Rattle.skew_commands.specs.declared.refusal.Refusal.{Refusal}
use Rattle.skew_commands.specs.declared.refusal.Refusal.TheVariants as refusal
use Rattle.skew_commands.specs.declared.reply.Stop.{Stop}
use Rattle.skew_commands.specs.Possible.{OfSomeFile}
use Rattle.skew_commands.specs.Refusals.{status_of, text_of}
use Rattle.skew_commands.specs.Stops.{HasReason}
use Rattle.skew_commands.proofs.Possible.{length-refused, longer, only}
use Rattle.skew_commands.proofs.Steps.{At, file-read, reason-weaker}
use Rattle.skew_cli.specs.declared.limits.TheConstants.{JSON_LIMIT}
use Rattle.skew_cli.specs.JsonOutcome.{Converted, JsonOutcome, OnJson, TellsJsonFault}

module _ (file : List ℕ) where
  json-refused : (r : Refusal) → TellsJsonFault (json_log_of file) r → At (OnJson file Converted) r
  json-refused r h = go (json_log_of file) refl h
    where
      go : (due : Result Logged JsonFault) → json_log_of file ≡ due → TellsJsonFault due r → At (OnJson file Converted) r
      go (Ok log) is told = absurd told
      go (Err fault.Syntax) is told = rw (is, told) (refl, refl)
      go (Err fault.Shape) is told = rw (is, told) (refl, refl)
      go (Err (fault.Log f)) is told = rw (is, told) (refl, refl)
      go (Err fault.Memory) is told = absurd told

  json-read : (log : Logged) (out : List ℕ) (s : Status) → json_log_of file ≡ Ok log → Converted log out s → OnJson file Converted out s
  json-read log out s is h = rw is h

module _ (files : Files) (name : Word) (file : List ℕ) (held : file_of files name ≡ Some file) (within : length file ≤ JSON_LIMIT) where
  with-file : (out : List ℕ) (s : Status) → OnJson file Converted out s → JsonOutcome files name out s
  with-file out s = file-read files name JSON_LIMIT named.Json (λ bytes. OnJson bytes Converted) file out s held within

  pub json-faulty : (s : Stop) → HasReason s (TellsJsonFault (json_log_of file)) → HasReason s (At (JsonOutcome files name))
  json-faulty s =
      reason-weaker s (TellsJsonFault (json_log_of file)) (At (JsonOutcome files name)) (λ r told. with-file (line (text_of r)) (status_of r) (json-refused file r told))

  pub json-converted : (log : Logged) (out : List ℕ) (s : Status) → json_log_of file ≡ Ok log → Converted log out s → JsonOutcome files name out s
  json-converted log out s is h = with-file out s (json-read file log out s is h)

-- ---- some JSON file, where none is told

some-json : (files : Files) (s : Stop) → HasReason s (At (JsonOutcome files [])) → HasReason s (At (OfSomeFile JsonOutcome))
some-json files s = reason-weaker s (At (JsonOutcome files [])) (At (OfSomeFile JsonOutcome)) (λ r due. record { files = files; name = []; due = due })

pub some-json-long : (s : Stop) → HasReason s (λ r. r ≡ refusal.Length named.Json) → HasReason s (At (OfSomeFile JsonOutcome))
some-json-long s h =
    let long = longer JSON_LIMIT in
    some-json (only long.0) s (length-refused (only long.0) [] JSON_LIMIT named.Json (λ bytes. OnJson bytes Converted) long.0 refl long.1 s h)

module _ (file : List ℕ) (within : length file ≤ JSON_LIMIT) where
  pub some-json-faulty : (s : Stop) → HasReason s (TellsJsonFault (json_log_of file)) → HasReason s (At (OfSomeFile JsonOutcome))
  some-json-faulty s h = some-json (only file) s (json-faulty (only file) [] file refl within s h)

  pub some-json-converted : (log : Logged) (out : List ℕ) (s : Status) → json_log_of file ≡ Ok log → Converted log out s → OfSomeFile JsonOutcome out s
  some-json-converted log out s is h = record { files = only file; name = []; due = json-converted (only file) [] file refl within log out s is h }
