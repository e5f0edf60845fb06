-- What is answered of a day, and the reply that it makes.
-- Assumes nothing.
use Rattle.std.specs.Prelude.{Result, Ok, Err}
use Prim.Native.Nat.{ℕ, ◌*◌, ◌/◌, ◌≤◌}
use mathlib.Core.Path.{◌≡◌, refl, ap}
use mathlib.Core.List.{List}
use native.Mathlib.Omega.{arith}
use lib.ListN.{length}
use Rattle.lists.proofs.Tabulate.{length_tabulate}
use Rattle.job.specs.declared.refusal.Refusal.{Refusal}
use Rattle.job.specs.Refusal.{reply_of, verdict_of, Verdict}
use Rattle.job.specs.Refusal.{pass}
use Rattle.job.specs.Job.{Job}
use Rattle.job.specs.Refusal.{reply_by}
use Rattle.timeline.specs.Step.{Step, steps_in}
use Rattle.timeline.specs.Timeline.{end, peaks}
use Rattle.timeline.specs.declared.Day.{Day}
use Rattle.timeline.specs.Day.{told_of, day_of, told}

-- the verdict of a day is that of the tests that it was made by
pub verdict_of_day : (v : Verdict) (J : Job) (P : List Step) (day : Result Day Refusal) → day ≡ day_of v J P → verdict_of day ≡ v
verdict_of_day (Ok _) J P day h = ap (λ (d : Result Day Refusal). verdict_of d) h
verdict_of_day (Err why) J P day h = ap (λ (d : Result Day Refusal). verdict_of d) h

-- an answer that refuses tells of no plan
pub refused_not_passed : (answer : Result Day Refusal) (why : Refusal) → answer ≡ Err why → verdict_of answer ≡ pass → ⊥
refused_not_passed answer why told h = let e = rw told at h in cc

-- where there is no day there are no steps
pub few_without_day : (why : Refusal) (answer : Result Day Refusal) → answer ≡ Err why → (told answer).steps ≤ 32
few_without_day why answer e = rw e (omega arith)

pub reply_of_day : (v : Verdict) (J : Job) (P : List Step) → reply_of (day_of v J P) ≡ reply_by v (told_of J P)
reply_of_day (Ok _) J P = refl
reply_of_day (Err why) J P = refl

-- the bytes of n steps hold n steps
pub steps_in_bytes : (J : Job) (bytes : List ℕ) (n : ℕ) → length bytes ≡ 3 * n → length (steps_in J bytes) ≡ n
unfolding steps_in
steps_in_bytes J bytes n whole =
    let count : length (steps_in J bytes) ≡ length bytes / 3 = length_tabulate _ _ in
    omega arith

-- what is told of the bytes of n steps that end at e with these peaks
pub told_of_bytes : (J : Job) (bytes : List ℕ) (e n : ℕ) (most : List ℕ) → length bytes ≡ 3 * n
    → end (steps_in J bytes) ≡ e → peaks J (steps_in J bytes) ≡ most
    → told_of J (steps_in J bytes) ≡ record { end = e; steps = n; peaks = most }
told_of_bytes J bytes e n most whole ends peak = rw (ends, steps_in_bytes J bytes n whole, peak)
