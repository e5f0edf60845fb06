-- The bytes of a plan: steps of a job written as bytes are read back, and an accepted plan has at most 32 steps.
-- Assumes nothing.
use Prim.Native.Nat.{ℕ, ◌*◌, ◌/◌, ◌%◌, ◌<◌, ◌≤◌}
use mathlib.Core.Path.{◌≡◌, sym, ap, ap₂, ◌∙◌}
use mathlib.Core.Bool.{false, not}
use mathlib.Core.List.{List}
use native.Mathlib.Omega.{arith}
use lib.Dec.{eqb}
use lib.ListN.{length, take, length-append}
use lib.Seq.{take_at, drop_at, take_all}
use borrow.Author.Tests.{eq-eqb, le-ltb, ltb-false}
use Rattle.lists.proofs.Bools.{or_right}
use Rattle.lists.proofs.Tabulate.{length_tabulate, each_all}
use Rattle.encoding.specs.Bytes.{from_bytes, to_bytes, part}
use Rattle.encoding.proofs.Numbers.{length_bytes, number_bytes}
use Rattle.encoding.proofs.Pieces.{length_joined, split_joined}
use Rattle.job.specs.Job.{Job}
use Rattle.job.specs.Refusal.{first}
use Rattle.job.specs.Passed.{Passed}
use Rattle.job.specs.Refusal.{pass}
use Rattle.job.proofs.Table.{first_next, first_pass}
use Rattle.timeline.specs.Step.{Step, step_of, step_in, steps_in, step_bytes, plan_bytes}
use Rattle.timeline.specs.Accepted.{Accepted, wrong_size, step_rows, plan_rows}
use Rattle.timeline.specs.Places.{EachStep}
use Rattle.timeline.specs.Keeps.{OfJob}
use Rattle.timeline.proofs.Tests.{or_neither}
use Rattle.timeline.proofs.Places.{each_of_steps}
use Rattle.timeline.proofs.AcceptedSteps.{accepted_steps}
use Rattle.timeline.proofs.JobSteps.{lasting_of_known}

pub length_step_bytes : (x : Step) → length (step_bytes x) ≡ 3
length_step_bytes x =
    let a = length_bytes 1 x.number in
    let b = length_bytes 2 x.start in
    length-append (to_bytes 1 x.number) (to_bytes 2 x.start) ∙ omega arith

-- three bytes a step
pub length_plan_bytes : (P : List Step) → length (plan_bytes P) ≡ 3 * length P
unfolding plan_bytes
length_plan_bytes P = let e = length_joined step_bytes 3 P (each_all length_step_bytes P) in omega arith

-- a step of the job whose number fits a byte and whose start fits two
step_read_back : (J : Job) (x : Step) → OfJob J x → x.number < 256 → x.start < 65536 → step_in J (step_bytes x) ≡ x
step_read_back J x own number start =
    let a = to_bytes 1 x.number in
    let b = to_bytes 2 x.start in
    let m = length_bytes 1 x.number in
    let n = length_bytes 2 x.start in
    let p : part (step_bytes x) 0 1 ≡ a = take_at a b 1 m in
    let q : part (step_bytes x) 1 2 ≡ b = ap (take 2) (drop_at a b 1 m) ∙ take_all 2 b (omega arith) in
    ap₂ (step_of J) (ap from_bytes p ∙ number_bytes 1 x.number number)
    (ap from_bytes q ∙ number_bytes 2 x.start start)
    ∙ sym own

-- the steps that a plan's bytes were written from are the steps in them
pub bytes_of_steps : (J : Job) (P : List Step) → EachStep (OfJob J) P → EachStep (λ x. x.number < 256) P
    → EachStep (λ x. x.start < 65536) P → steps_in J (plan_bytes P) ≡ P
unfolding steps_in plan_bytes
bytes_of_steps J P own numbers starts =
    split_joined 3 (step_in J) step_bytes P (omega arith) (each_all length_step_bytes P)
    (each_of_steps (λ x. step_in J (step_bytes x) ≡ x) P
    (λ x Q i. step_read_back J x (own x Q i) (numbers x Q i) (starts x Q i)))

-- steps that pass, at most 32 of them, are an accepted plan in bytes
pub accepted_bytes_of_steps : (J : Job) (goal : ℕ) (P : List Step) → Passed J → EachStep (OfJob J) P → length P ≤ 32
    → first (step_rows J goal P) ≡ pass → Accepted J goal (plan_bytes P) × (steps_in J (plan_bytes P) ≡ P)
unfolding plan_rows
accepted_bytes_of_steps J goal P passed own few pass =
    let steps = accepted_steps J goal P pass in
    let lasting = lasting_of_known J P passed own steps.known in
    let actions = passed.few_actions in
    let deadline = passed.deadline in
    let same = bytes_of_steps J P own (λ x Q i. let a = steps.known x Q i in omega arith)
    (λ x Q i. let a = steps.before_deadline x Q i in let b = lasting x Q i in omega arith) in
    let l = length_plan_bytes P in
    let size : wrong_size (plan_bytes P) ≡ false =
    or_neither (ap not (eq-eqb (length (plan_bytes P) % 3) 0 (omega arith)))
    (le-ltb 96 (length (plan_bytes P)) (omega arith)) in
    (first_next _ _ _ size ∙ ap (λ (Q : List Step). first (step_rows J goal Q)) same ∙ pass, same)

-- an accepted plan has at most 32 steps
pub few_steps_of_accepted : (J : Job) (goal : ℕ) (bytes : List ℕ) → Accepted J goal bytes
    → length (steps_in J bytes) ≤ 32
unfolding plan_rows steps_in
few_steps_of_accepted J goal bytes accepted =
    let size = (first_pass _ _ _ accepted).0 in
    let bound = ltb-false 96 (length bytes) (or_right (not (eqb (length bytes % 3) 0)) _ size) in
    let count : length (steps_in J bytes) ≡ length bytes / 3 = length_tabulate _ _ in
    omega arith
