-- From what a command found to what its files ask for.
use Rattle.std.proofs.Common.{◌≡◌, sym, refl, ℕ, ◌+◌, ◌<◌, ◌≤◌, Bool, true, false, cond, List, [], ◌∷◌, length, Option, Some, None, Ok, Err, arith, ℤ}
use Rattle.std.specs.List.{position_from}
use Rattle.std.specs.Prelude.{IsSomeAnd, Result, nat_lt}
use Rattle.std.specs.Bool.{MatchBool}
use Rattle.std.proofs.lemmas.Bool.Decides.{nat_tests}
use Rattle.mt_model.specs.Form.{Form, propositions_of}
use Rattle.mt_model.specs.Log.{Logged}
use Rattle.mt_model.specs.State.{unknown_host}
use Rattle.mt_port.specs.Port.{Files, file_of}
use Rattle.mt_port.specs.Whole.{IsLonger}
use Rattle.log_read.specs.declared.fault.LogFault.{LogFault}
use Rattle.log_read.specs.LogOf.{log_of}
use Rattle.formula_arena.specs.Nodes.{nodes_of}
use Rattle.formula_arena.specs.declared.arena.TheConstants.{MAX_NODES}
use Rattle.mtl_parse.specs.FormulaOf.{FormulaOf}
use Rattle.times_read.specs.declared.fault.TimesFault.{TimesFault}
use Rattle.times_read.specs.declared.fault.TimesFault.TheVariants as times
use Rattle.times_read.specs.TimesOf.{times_of}
use Rattle.skew_answers.specs.declared.status.Status.{Status}
use Rattle.skew_answers.specs.Texts.{line}
use Rattle.skew_words.specs.Words.{Word}
use Rattle.skew_commands.specs.declared.limits.TheConstants.{FORMULA_LIMIT, LOG_LIMIT}
use Rattle.skew_commands.specs.declared.refusal.Named.{Named}
use Rattle.skew_commands.specs.declared.refusal.Named.TheVariants as named
use Rattle.skew_commands.specs.declared.refusal.Refusal.{Refusal}
use Rattle.skew_commands.specs.declared.refusal.Refusal.TheVariants as refusal
use Rattle.skew_commands.specs.declared.reply.Reply.{Reply}
use Rattle.skew_commands.specs.declared.reply.Stop.{Stop}
use Rattle.skew_commands.specs.declared.reply.Stop.TheVariants as stop
use Rattle.skew_commands.specs.Refusals.{Refuses, status_of, text_of}
use Rattle.skew_commands.specs.Reads.{IsQuestion}
use Rattle.skew_commands.specs.Stops.{Gives, HasReason, NamesHost, TellsFormulaFault, TellsLogFault, TellsTimesFault}
use Rattle.skew_commands.specs.Tests.{OnFile, OnFormula, OnHosts, OnLog, OnNodes, OnQuestion, OnTimes}

-- a reason may be said in a weaker way
pub reason-weaker : (s : Stop) (P Q : Refusal → Type 0) → ((r : Refusal) → P r → Q r) → HasReason s P → HasReason s Q
reason-weaker (stop.Refused r) P Q weaker h = weaker r h
reason-weaker stop.NoMemory P Q weaker h = tt
reason-weaker stop.ReadFailed P Q weaker h = tt

-- what a refusal has to be, at its own line and status
abbrev pub At : (List ℕ → Status → Type 0) → Refusal → Type 0
At Due r = Due (line (text_of r)) (status_of r)

-- what was given may be said in a weaker way
pub gives-weaker : (result : Result Reply Stop) (P Q : List ℕ → Status → Type 0) → ((out : List ℕ) (s : Status) → P out s → Q out s) → Gives P result → Gives Q result
gives-weaker (Ok reply) P Q weaker h = weaker reply.text.items reply.status h
gives-weaker (Err s) P Q weaker h = reason-weaker s (At P) (At Q) (λ r. weaker (line (text_of r)) (status_of r)) h

module _ (files : Files) (name : Word) (limit : ℕ) (named : Named) (next : List ℕ → List ℕ → Status → Type 0) where
  pub file-refused : (r : Refusal) → (r ≡ refusal.Length named) × IsLonger (file_of files name) limit → At (OnFile files name limit named next) r
  file-refused r h = go (file_of files name) h.1
    where
      go : (file : Option (List ℕ)) → IsLonger file limit
          → IsSomeAnd file (λ bytes. MatchBool (nat_lt limit (length bytes)) (Refuses (refusal.Length named) (line (text_of r)) (status_of r)) (next bytes (line (text_of r)) (status_of r)))
      go None longer = absurd longer
      go (Some bytes) longer = let more : nat_lt limit (length bytes) ≡ true = grind (arith, nat_tests) in rw (more, h.0) (refl, refl)

  pub file-read : (bytes out : List ℕ) (s : Status) → file_of files name ≡ Some bytes → length bytes ≤ limit → next bytes out s → OnFile files name limit named next out s
  file-read bytes out s is within h = let less : nat_lt limit (length bytes) ≡ false = grind (arith, nat_tests) in rw (is, less) h

  -- what stops the reading of it
  pub file-stopped : {Tells : Type 0} → Tells → (s : Stop) → HasReason s (λ r. (r ≡ refusal.Length named) × (Tells → IsLonger (file_of files name) limit))
      → HasReason s (At (OnFile files name limit named next))
  file-stopped {Tells} tells s =
      reason-weaker s (λ r. (r ≡ refusal.Length named) × (Tells → IsLonger (file_of files name) limit)) (At (OnFile files name limit named next)) (λ r why. file-refused r (why.0, why.1 tells))

  -- what is given for it, once it was read
  pub file-given : (file : List ℕ) (result : Result Reply Stop) → file_of files name ≡ Some file → length file ≤ limit → Gives (next file) result → Gives (OnFile files name limit named next) result
  file-given file result is within = gives-weaker result (next file) (OnFile files name limit named next) (λ out s. file-read file out s is within)

module _ (text : List ℕ) (next : Form → List ℕ → Status → Type 0) where
  pub formula-refused : (r : Refusal) → TellsFormulaFault text r → At (OnFormula text next) r
  formula-refused r h = (Err h.fault, h.found, rw h.told (refl, refl))

  pub formula-read : (f : Form) (out : List ℕ) (s : Status) → FormulaOf text (Ok f) → next f out s → OnFormula text next out s
  formula-read f out s is h = (Ok f, is, h)

module _ (file : List ℕ) (next : Logged → List ℕ → Status → Type 0) where
  pub log-refused : (r : Refusal) → TellsLogFault (log_of file) r → At (OnLog file next) r
  log-refused r h = go (log_of file) refl h
    where
      go : (due : Result Logged LogFault) → log_of file ≡ due → TellsLogFault due r → At (OnLog file next) r
      go (Ok log) is told = absurd told
      go (Err fault) is told = rw (is, told) (refl, refl)

  pub log-read : (log : Logged) (out : List ℕ) (s : Status) → log_of file ≡ Ok log → next log out s → OnLog file next out s
  log-read log out s is h = rw is h

-- a stop for a log's fault, told of the file of a name
pub log-stopped : (files : Files) (name : Word) (next : Logged → List ℕ → Status → Type 0) (file : List ℕ) (s : Stop) → file_of files name ≡ Some file → length file ≤ LOG_LIMIT
    → HasReason s (TellsLogFault (log_of file)) → HasReason s (At (OnFile files name LOG_LIMIT named.Log (λ bytes. OnLog bytes next)))
log-stopped files name next file s is within =
    reason-weaker s (TellsLogFault (log_of file)) (At (OnFile files name LOG_LIMIT named.Log (λ bytes. OnLog bytes next)))
    (λ r told. file-read files name LOG_LIMIT named.Log (λ bytes. OnLog bytes next) file (line (text_of r)) (status_of r) is within (log-refused file next r told))

module _ (text : List ℕ) (f : Form) (log : Logged) (next : List ℕ → Status → Type 0) where
  pub hosts-refused : (r : Refusal) → NamesHost text (unknown_host log f) r → At (OnHosts text f log next) r
  hosts-refused r h = rw (h.unknown, h.place, h.told) (refl, refl)

  pub hosts-known : (out : List ℕ) (s : Status) → unknown_host log f ≡ None → next out s → OnHosts text f log next out s
  hosts-known out s none h = rw none h

module _ (f : Form) (next : List ℕ → Status → Type 0) where
  pub nodes-refused : (r : Refusal) → (r ≡ refusal.Nodes) × (MAX_NODES < length (nodes_of f)) → At (OnNodes f next) r
  nodes-refused r h = let more : nat_lt MAX_NODES (length (nodes_of f)) ≡ true = grind (arith, nat_tests) in rw (more, h.0) (refl, refl)

  pub nodes-few : (out : List ℕ) (s : Status) → length (nodes_of f) ≤ MAX_NODES → next out s → OnNodes f next out s
  nodes-few out s few h = let less : nat_lt MAX_NODES (length (nodes_of f)) ≡ false = grind (arith, nat_tests) in rw less h

module _ (file : List ℕ) (log : Logged) (next : List ℤ → List ℕ → Status → Type 0) where
  pub times-refused : (r : Refusal) → TellsTimesFault (times_of (length log.rows) file) r → At (OnTimes file log next) r
  times-refused r h = go (times_of (length log.rows) file) refl h
    where
      go : (due : Result (List ℤ) TimesFault) → times_of (length log.rows) file ≡ due → TellsTimesFault due r → At (OnTimes file log next) r
      go (Ok t) is told = absurd told
      go (Err (times.Number number)) is told = rw (is, told) (refl, refl)
      go (Err (times.Count number)) is told = rw (is, told) (refl, refl)
      go (Err times.Memory) is told = absurd told

  pub times-read : (t : List ℤ) (out : List ℕ) (s : Status) → times_of (length log.rows) file ≡ Ok t → next t out s → OnTimes file log next out s
  times-read t out s is h = rw is h

-- a third file, which is read where the formula's hosts are known and its nodes are few
module _ (held : Files) (name : Word) (limit : ℕ) (named : Named) (text : List ℕ) (f : Form) (log : Logged) (next : List ℕ → List ℕ → Status → Type 0)
    (known : unknown_host log f ≡ None) (few : length (nodes_of f) ≤ MAX_NODES) where
  third-reached : (out : List ℕ) (s : Status) → OnFile held name limit named next out s → OnHosts text f log (OnNodes f (OnFile held name limit named next)) out s
  third-reached out s h =
      let file = OnFile held name limit named next in
      hosts-known text f log (OnNodes f file) out s known (nodes-few f file out s few h)

  -- what stops the reading of it
  pub third-too_long : {Tells : Type 0} → Tells → (s : Stop) → HasReason s (λ r. (r ≡ refusal.Length named) × (Tells → IsLonger (file_of held name) limit))
      → HasReason s (At (OnHosts text f log (OnNodes f (OnFile held name limit named next))))
  third-too_long {Tells} tells s =
      reason-weaker s (λ r. (r ≡ refusal.Length named) × (Tells → IsLonger (file_of held name) limit)) (At (OnHosts text f log (OnNodes f (OnFile held name limit named next))))
      (λ r why. third-reached (line (text_of r)) (status_of r) (file-refused held name limit named next r (why.0, why.1 tells)))

  -- what is answered for it
  pub third-answered : (result : Result Reply Stop) → Gives (OnFile held name limit named next) result → Gives (OnHosts text f log (OnNodes f (OnFile held name limit named next))) result
  third-answered result = gives-weaker result (OnFile held name limit named next) (OnHosts text f log (OnNodes f (OnFile held name limit named next))) third-reached

  -- what is given for it, once it was read
  pub third-given : (file : List ℕ) (result : Result Reply Stop) → file_of held name ≡ Some file → length file ≤ limit → Gives (next file) result
      → Gives (OnHosts text f log (OnNodes f (OnFile held name limit named next))) result
  third-given file result is within =
      gives-weaker result (next file) (OnHosts text f log (OnNodes f (OnFile held name limit named next)))
      (λ out s h. third-reached out s (file-read held name limit named next file out s is within h))

-- a place that is found is in the list
position_from-below : {X : Type 0} (test : X → Bool) (xs : List X) (i k : ℕ) → position_from test i xs ≡ Some k → k < i + length xs
position_from-below test [] i k found = absurd (cc)
position_from-below test (x ∷ xs) i k found = go (test x) refl found (position_from-below test xs (i + 1) k)
  where
    go : (passes : Bool) → test x ≡ passes → cond passes (Some i) (position_from test (i + 1) xs) ≡ Some k → (position_from test (i + 1) xs ≡ Some k → k < i + 1 + length xs) → k < i + length (x ∷ xs)
    go true is here rest = let same : i ≡ k = cc in omega arith
    go false is later rest = let below = rest later in omega arith

-- the number of an unknown host is that of a proposition
pub unknown-below : (log : Logged) (f : Form) (number : ℕ) → Some number ≡ unknown_host log f → number < length (propositions_of f)
unknown-below log f number is = let below = position_from-below _ (propositions_of f) 0 number (sym is) in omega arith

-- what a formula and a log come to, and what is answered before that
module _ (files : Files) (formula log : Word) (next : List ℕ → Form → Logged → List ℕ → Status → Type 0) where
  with-text : (text out : List ℕ) (s : Status) → file_of files formula ≡ Some text → length text ≤ FORMULA_LIMIT
      → OnFormula text (λ f. OnFile files log LOG_LIMIT named.Log (λ file. OnLog file (next text f))) out s → OnQuestion files formula log next out s
  with-text text out s = file-read files formula FORMULA_LIMIT named.Formula (λ text. OnFormula text (λ f. OnFile files log LOG_LIMIT named.Log (λ file. OnLog file (next text f)))) text out s

  pub question-read : (text : List ℕ) (f : Form) (l : Logged) (out : List ℕ) (s : Status) → IsQuestion files formula log text f l → next text f l out s → OnQuestion files formula log next out s
  question-read text f l out s q h =
      with-text text out s q.text_held q.text_within (formula-read text (λ f. OnFile files log LOG_LIMIT named.Log (λ file. OnLog file (next text f))) f out s q.formula_read
      (file-read files log LOG_LIMIT named.Log (λ file. OnLog file (next text f)) q.file out s q.file_held q.file_within (log-read q.file (next text f) l out s q.log_read h)))

  module _ (text : List ℕ) (held : file_of files formula ≡ Some text) (within : length text ≤ FORMULA_LIMIT) where
    pub question-formula_faulty : (s : Stop) → HasReason s (TellsFormulaFault text) → HasReason s (At (OnQuestion files formula log next))
    question-formula_faulty s =
        reason-weaker s (TellsFormulaFault text) (At (OnQuestion files formula log next))
        (λ r told. with-text text (line (text_of r)) (status_of r) held within (formula-refused text (λ f. OnFile files log LOG_LIMIT named.Log (λ file. OnLog file (next text f))) r told))

    module _ (f : Form) (reads : FormulaOf text (Ok f)) where
      with-formula : (out : List ℕ) (s : Status) → OnFile files log LOG_LIMIT named.Log (λ file. OnLog file (next text f)) out s → OnQuestion files formula log next out s
      with-formula out s h = with-text text out s held within (formula-read text (λ f. OnFile files log LOG_LIMIT named.Log (λ file. OnLog file (next text f))) f out s reads h)

      pub question-log_long : (s : Stop) → HasReason s (λ r. (r ≡ refusal.Length named.Log) × IsLonger (file_of files log) LOG_LIMIT) → HasReason s (At (OnQuestion files formula log next))
      question-log_long s =
          reason-weaker s (λ r. (r ≡ refusal.Length named.Log) × IsLonger (file_of files log) LOG_LIMIT) (At (OnQuestion files formula log next))
          (λ r why. with-formula (line (text_of r)) (status_of r) (file-refused files log LOG_LIMIT named.Log (λ file. OnLog file (next text f)) r why))

      pub question-log_faulty : (file : List ℕ) (s : Stop) → file_of files log ≡ Some file → length file ≤ LOG_LIMIT → HasReason s (TellsLogFault (log_of file))
          → HasReason s (At (OnQuestion files formula log next))
      question-log_faulty file s is fits h =
          reason-weaker s (At (OnFile files log LOG_LIMIT named.Log (λ bytes. OnLog bytes (next text f)))) (At (OnQuestion files formula log next))
          (λ r. with-formula (line (text_of r)) (status_of r))
          (log-stopped files log (next text f) file s is fits h)
