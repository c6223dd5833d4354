use Rattle.std.proofs.Common.{◌≡◌, ◌≤◌, ◌∙◌, sym, refl, ℕ, length, Result, Err, rules, arith}
use Rattle.std.proofs.lemmas.Bool.{false≢true}
use Rattle.std.proofs.lemmas.Grind.{common_steps}
use Rattle.std.proofs.lemmas.Result.{err_from_is_err_and}
use Rattle.mt_port.specs.Port.{Rose}
use Rattle.mt_port.specs.declared.whole.ReadFault.{ReadFault}
use Rattle.mt_port.specs.declared.whole.ReadFault.TheVariants.{Failed, Memory, TooLong}
use Rattle.mt_port.proofs.Pieces.{gave_too_many, gave_within, given_none, is_longer}
use Rattle.mt_port.proofs.whole.read_all.Goals as goal

-- want of memory is no other fault
memory_not_long : {T : Type 0} → (let r : Result T ReadFault = Err Memory in r ≡ Err TooLong) → ⊥
memory_not_long same = cc

memory_not_failed : {T : Type 0} → (let r : Result T ReadFault = Err Memory in r ≡ Err Failed) → ⊥
memory_not_failed same = cc

rose_later : (first mid last : ℕ) → mid ≡ first → Rose mid last → Rose first last
rose_later first mid last same rose = rw same at rose

pub returns-in-Ok-read-clause-given : goal.returns-in-Ok-read-clause-given
returns-in-Ok-read-clause-given g c = λ _ told.
    let inv = c.loop-bytes.invariant in
    let gives = c.in-Ok-read.ensures.bytes (inv.telling ∙ told) in
    let count = c.in-Ok-read.ensures.count in
    gave_too_many _ c.loop-bytes.bytes.items c.read.new.buf _ _ c.in-Ok-read.count c.args.limit (inv.bytes told) gives.split (grind (arith, common_steps, count)) (grind (arith, common_steps, count))

pub returns-in-Err-clause-at_most : goal.returns-in-Err-clause-at_most
returns-in-Err-clause-at_most g c = λ _ opened _. absurd (false≢true (sym c.in-Err.ensures.closed ∙ opened))

pub returns-in-Err-clause-failed : goal.returns-in-Err-clause-failed
returns-in-Err-clause-failed g c = λ _. c.in-Err.ensures.cause.failed

pub returns-in-Err-clause-never : goal.returns-in-Err-clause-never
returns-in-Err-clause-never g c = λ steady told held _. false≢true (c.in-Err.ensures.never steady told held)

pub returns-in-Ok-eq0-clause-at_most : goal.returns-in-Ok-eq0-clause-at_most
returns-in-Ok-eq0-clause-at_most g c = λ told _ _.
    let inv = c.loop-bytes.invariant in
    let short : length c.loop-bytes.bytes.items ≤ c.args.limit = search (rules, inv.within) in
    let gives = c.in-Ok-eq0.ensures.bytes (inv.telling ∙ told) in
    gave_within _ c.loop-bytes.bytes.items _ _ c.args.limit (inv.bytes told) (given_none _ c.read.new.buf _ c.in-Ok-eq0.field-0 c.in-Ok-eq0.field-0-test gives.split) short

pub returns-in-Ok-read-clause-at_most : goal.returns-in-Ok-read-clause-at_most
returns-in-Ok-read-clause-at_most g c = λ _ _ other. absurd (other refl)

pub returns-in-Ok-read-clause-too_long : goal.returns-in-Ok-read-clause-too_long
returns-in-Ok-read-clause-too_long g c = λ _ told.
    let inv = c.loop-bytes.invariant in
    let gives = c.in-Ok-read.ensures.bytes (inv.telling ∙ told) in
    let count = c.in-Ok-read.ensures.count in
    is_longer _ c.loop-bytes.bytes.items c.read.new.buf _ _ c.in-Ok-read.count c.args.limit (inv.bytes told) gives.split (grind (arith, common_steps, count)) (grind (arith, common_steps, count))

pub returns-in-Err-read-clause-at_most : goal.returns-in-Err-read-clause-at_most
returns-in-Err-read-clause-at_most g c = λ told _ _.
    let inv = c.loop-bytes.invariant in
    let short : length c.loop-bytes.bytes.items ≤ c.args.limit = search (rules, inv.within) in
    gave_within _ c.loop-bytes.bytes.items _ _ c.args.limit (inv.bytes told) (c.in-Err-read.ensures.place (inv.telling ∙ told)) short

pub returns-in-Err-read-clause-failed : goal.returns-in-Err-read-clause-failed
returns-in-Err-read-clause-failed g c = λ _. rose_later _ _ _ c.loop-bytes.invariant.quiet c.in-Err-read.ensures.cause.failed

pub returns-in-Err-read-clause-never : goal.returns-in-Err-read-clause-never
returns-in-Err-read-clause-never g c = λ steady _ _ _. false≢true (c.in-Err-read.ensures.never (c.loop-bytes.invariant.steady steady))

pub returns-in_err-extend_from_slice-in-Ok-2-clause-whole : goal.returns-in_err-extend_from_slice-in-Ok-2-clause-whole
returns-in_err-extend_from_slice-in-Ok-2-clause-whole g c =
    let p = err_from_is_err_and c.from_residual.result c.from_residual.ensures.1 in
    rw p.1 tt

pub returns-in_err-extend_from_slice-in-Ok-2-clause-within : goal.returns-in_err-extend_from_slice-in-Ok-2-clause-within
returns-in_err-extend_from_slice-in-Ok-2-clause-within g c =
    let p = err_from_is_err_and c.from_residual.result c.from_residual.ensures.1 in
    rw p.1 tt

pub returns-in_err-extend_from_slice-in-Ok-2-clause-ended : goal.returns-in_err-extend_from_slice-in-Ok-2-clause-ended
returns-in_err-extend_from_slice-in-Ok-2-clause-ended g c =
    let p = err_from_is_err_and c.from_residual.result c.from_residual.ensures.1 in
    rw p.1 tt

pub returns-in_err-extend_from_slice-in-Ok-2-clause-too_long : goal.returns-in_err-extend_from_slice-in-Ok-2-clause-too_long
returns-in_err-extend_from_slice-in-Ok-2-clause-too_long g c =
    let p = err_from_is_err_and c.from_residual.result c.from_residual.ensures.1 in
    λ long _. absurd (memory_not_long (rw (p.1, p.2) at long))

pub returns-in_err-extend_from_slice-in-Ok-2-clause-given : goal.returns-in_err-extend_from_slice-in-Ok-2-clause-given
returns-in_err-extend_from_slice-in-Ok-2-clause-given g c =
    let p = err_from_is_err_and c.from_residual.result c.from_residual.ensures.1 in
    λ long _. absurd (memory_not_long (rw (p.1, p.2) at long))

pub returns-in_err-extend_from_slice-in-Ok-2-clause-failed : goal.returns-in_err-extend_from_slice-in-Ok-2-clause-failed
returns-in_err-extend_from_slice-in-Ok-2-clause-failed g c =
    let p = err_from_is_err_and c.from_residual.result c.from_residual.ensures.1 in
    λ failed. absurd (memory_not_failed (rw (p.1, p.2) at failed))

pub returns-in_err-extend_from_slice-in-Ok-2-clause-never : goal.returns-in_err-extend_from_slice-in-Ok-2-clause-never
returns-in_err-extend_from_slice-in-Ok-2-clause-never g c =
    let p = err_from_is_err_and c.from_residual.result c.from_residual.ensures.1 in
    λ _ _ _ failed. memory_not_failed (rw (p.1, p.2) at failed)
