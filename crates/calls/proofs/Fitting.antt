-- Every number that a call packs fits its bits: files are short, plans have few steps.
-- Assumes nothing.
use mathlib.Core.Path.{subst}
use Rattle.std.specs.Prelude.{Result, Ok, Err}
use Prim.Native.Nat.{ℕ, suc, ◌*◌, ◌≤◌}
use mathlib.Core.Path.{◌≡◌, refl, sym, ap, ◌∙◌}
use mathlib.Core.Bool.{Bool, true, false, cond}
use mathlib.Core.List.{List, [], ◌∷◌, ◌++◌}
use native.Mathlib.Omega.{arith}
use lib.ListN.{length}
use lib.Dec.{ltb}
use borrow.Author.Tests.{ltb-false}
use Rattle.lists.proofs.Bools.{or_right}
use Rattle.job.specs.Job.{Job, job_in}
use Rattle.job.specs.Refusal.{verdict_of, first}
use Rattle.job.specs.Valid.{over, job_rows}
use Rattle.job.specs.declared.Job as held
use Rattle.job.specs.declared.refusal.Refusal.{Refusal}
use Rattle.job.specs.declared.refusal.Refusal.TheVariants.{NoPlan, NoPlanWithKept}
use Rattle.job.specs.Refusal.{Verdict}
use Rattle.job.specs.Refusal.{pass}
use Rattle.job.proofs.Passed.{passed}
use Rattle.job.proofs.Table.{first_pass, pass_of_append}
use Rattle.job.proofs.Values.{job_in_shape}
use Rattle.jobfile.specs.Answers.{Written}
use Rattle.jobfile.specs.File.{file_of, entries_in, decoded, file_rows}
use Rattle.jobfile.specs.Answers.{read_rows, reading_of, read_file, write_rows, written_of, write_file}
use Rattle.jobfile.proofs.Lengths.{file_fits}
use Rattle.timeline.specs.declared.Day.{Day}
use Rattle.timeline.specs.Step.{Step, steps_in}
use Rattle.timeline.specs.Accepted.{plan_rows, run_rows}
use Rattle.timeline.specs.Day.{day_of, told}
use Rattle.timeline.specs.TrueLengths.{with_lengths}
use Rattle.timeline.proofs.DayLaws.{few_without_day}
use Rattle.timeline.proofs.PlanBytes.{few_steps_of_accepted}
use Rattle.timeline.proofs.RunRows.{run_rows_lem}
use Rattle.checker.specs.Check.{check_rows}
use Rattle.true_day.specs.TrueDay.{true_rows, true_steps, true_day}
use Rattle.makespan.specs.Makespan.{Makespan, ends_at, no_plan, begun, passes, makespan_from, makespan}
use Rattle.planner.specs.Plan.{plan_refusals, PlansFor, PlansBy, Plans}
use Rattle.replanner.specs.Replan.{replan_rows, kept_steps, ReplansWith, ReplansBy, Replans}
use Rattle.packing.specs.Answer.{ShortFile, FewSteps}

-- a file that is accepted passes test 1
pub accepted_file_is_short : (file : List ℕ) (job : held.Job) → read_file file ≡ Ok job → length file ≤ 4096
unfolding read_file read_rows file_rows
accepted_file_is_short file job h =
    let size = (first_pass _ _ _ (passed_when_read (first (read_rows file)) h)).0 in
    ltb-false 4096 (length file) (or_right (ltb (length file) (4 * entries_in file)) (over 4096 (length file)) size)
  where
    passed_when_read : (v : Verdict) → reading_of v (decoded file) ≡ Ok job → v ≡ pass
    passed_when_read (Ok _) e = refl
    passed_when_read (Err why) e = cc

length_told : (v : Verdict) (J : Job) (n : ℕ) → written_of v J ≡ Ok n
    → (v ≡ pass) × (length (file_of J) ≡ n)
length_told (Ok _) J n h = (refl, cc)
length_told (Err why) J n h = (cc, cc)

pub written_file_is_short : (job : held.Job) (slice : List ℕ) (answer : Written) → answer ≡ write_file (job_in job) slice
    → ShortFile answer
unfolding write_file write_rows
written_file_is_short job slice answer told n same =
    let J = job_in job in
    let w = length_told (first (write_rows J slice)) J n (sym told ∙ same) in
    let fits = file_fits J (job_in_shape job) (passed J (pass_of_append (job_rows J) _ w.0).0) in
    let size = w.1 in
    omega arith

same_count_lem : (P : List Step) (lengths : List ℕ) → length (with_lengths P lengths) ≡ length P
same_count_lem [] lengths = refl
same_count_lem (x ∷ P) [] = refl
same_count_lem (x ∷ P) (n ∷ lengths) = ap suc (same_count_lem P lengths)

-- a plan that is run with true lengths has as many steps as the plan
pub true_steps_are_few : (J : Job) (bytes lengths : List ℕ) (answer : Result Day Refusal) → answer ≡ true_day J bytes lengths
    → (told answer).steps ≤ 32
unfolding true_day true_rows check_rows
true_steps_are_few J bytes lengths answer same = by_verdict (first (true_rows J bytes lengths)) refl same
  where
    by_verdict : (v : Verdict) → first (true_rows J bytes lengths) ≡ v
        → answer ≡ day_of v J (true_steps J bytes lengths) → (told answer).steps ≤ 32
    by_verdict (Ok _) e h =
        let checks = pass_of_append (job_rows J ++ plan_rows J J.goal bytes) _ e in
        let accepted = (pass_of_append (job_rows J) (plan_rows J J.goal bytes) checks.0).1 in
        let few = few_steps_of_accepted J J.goal bytes accepted in
        let count = ap (λ (d : Result Day Refusal). (told d).steps) h in
        let same = same_count_lem (steps_in J bytes) lengths in
        omega arith
    by_verdict (Err why) e h = few_without_day why answer h

-- a shortest plan that is handed out has at most 32 steps
few_when_planned : (m : Makespan) (none : Refusal) (J : Job) (goal minute : ℕ) (K : List Step) (slice : List ℕ)
    (answer : Result Day Refusal) (after : List ℕ) → PlansFor m none J goal minute K slice answer after → (told answer).steps ≤ 32
few_when_planned (ends_at e) none J goal minute K slice answer after p =
    let count = ap (λ (d : Result Day Refusal). (told d).steps) p.answers in
    let few = few_steps_of_accepted J goal p.bytes p.accepted in
    omega arith
few_when_planned no_plan none J goal minute K slice answer after p = few_without_day none answer p.answers

pub planned_steps_are_few : (J : Job) (slice : List ℕ) (answer : Result Day Refusal) (after : List ℕ) → Plans J slice answer after
    → (told answer).steps ≤ 32
planned_steps_are_few J slice answer after plans = by_verdict (first (plan_refusals J slice)) plans
  where
    by_verdict : (v : Verdict) → PlansBy v J slice answer after → (told answer).steps ≤ 32
    by_verdict (Ok _) p =
        few_when_planned (makespan J J.goal) NoPlan J J.goal 0 [] slice answer after p
    by_verdict (Err why) p = few_without_day why answer p.answers

begun_no_more : (minute : ℕ) (P : List Step) → length (begun minute P) ≤ length P
begun_no_more minute [] = omega arith
begun_no_more minute (x ∷ P) = go (ltb x.start minute) (begun_no_more minute P)
  where
    go : (b : Bool) → length (begun minute P) ≤ length P
        → length (cond b (x ∷ begun minute P) (begun minute P)) ≤ length (x ∷ P)
    go true h = omega arith
    go false h = omega arith

module _ (J : Job) (current : List ℕ) (minute goal : ℕ) (slice : List ℕ) where
  abbrev K : List Step
  K = kept_steps J minute current

  -- a current plan that passes 12 to 19 has at most 32 steps
  kept_steps_are_few : first (replan_rows J current goal slice) ≡ pass → length K ≤ 32
  kept_steps_are_few passes =
      let behind_job = (pass_of_append (job_rows J) _ passes).1 in
      let behind_goal = (first_pass _ _ _ behind_job).1 in
      let runs = (pass_of_append (run_rows J current) _ behind_goal).0 in
      let few = few_steps_of_accepted J 0 current (run_rows_lem J current ∙ runs) in
      let no_more = begun_no_more minute (steps_in J current) in
      omega arith

  -- a shortest plan with the kept steps, and these alone
  pub replanned_steps_are_few : (answer : Result Day Refusal) (after : List ℕ) → Replans J current minute goal slice answer after
      → (told answer).steps ≤ 32
  replanned_steps_are_few answer after replans = by_verdict (first (replan_rows J current goal slice)) refl replans
    where
      with_kept : (alone : Bool) → length K ≤ 32 → ReplansWith alone J goal minute K slice answer after
          → (told answer).steps ≤ 32
      with_kept true few p = let count = ap (λ (d : Result Day Refusal). (told d).steps) p.answers in omega arith
      with_kept false few p =
          few_when_planned (makespan_from J goal minute K) NoPlanWithKept J goal minute K slice answer after p

      by_verdict : (v : Verdict) → first (replan_rows J current goal slice) ≡ v
          → ReplansBy v J goal minute K slice answer after → (told answer).steps ≤ 32
      by_verdict (Ok _) e p = with_kept (passes J goal K) (kept_steps_are_few e) p
      by_verdict (Err why) e p = few_without_day why answer p.answers

-- what is told of few steps is told of the day
pub few_steps : (answer : Result Day Refusal) → (told answer).steps ≤ 32 → FewSteps answer
few_steps answer few day same = subst (λ (d : Result Day Refusal). (told d).steps ≤ 32) same few
