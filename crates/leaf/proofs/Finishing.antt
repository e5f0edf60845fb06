-- The end of the search at the first minute: a plan that is found is accepted, and otherwise the steps are a dead end.
-- Assumes nothing.
use Prim.Native.Nat.{ℕ, ◌≤◌, ◌<◌}
use mathlib.Core.Path.{◌≡◌, sym, ap, subst, ◌∙◌}
use mathlib.Core.List.{List}
use native.Mathlib.Omega.{arith}
use lib.ListN.{length, get_or}
use Rattle.lists.proofs.Tabulate.{length_tabulate}
use Rattle.job.specs.declared.Job as held
use Rattle.job.specs.declared.refusal.Refusal.{Refusal}
use Rattle.std.specs.Prelude.{Option, Some, None, Ok, Err}
use Rattle.job.specs.Refusal.{pass}
use Rattle.job.specs.Job.{Job, job_in}
use Rattle.job.specs.Refusal.{first}
use Rattle.job.specs.Resumed.{resumed, resumed_value}
use Rattle.job.specs.Valid.{limit_rows}
use Rattle.std.specs.Result.{result_ok}
use Rattle.job.proofs.Table.{some_is_answered, none_is_refused}
use Rattle.job.proofs.Passed.{within_limits}
use Rattle.job.proofs.Resuming.{job_in_resumed}
use Rattle.jobfile.specs.Answers.{Reading}
use Rattle.jobfile.specs.Answers.{read_file}
use Rattle.timeline.specs.Step.{Step, steps_in, plan_bytes}
use Rattle.timeline.specs.From.{From}
use Rattle.timeline.specs.Timeline.{end}
use Rattle.timeline.specs.Accepted.{step_rows}
use Rattle.timeline.specs.Day.{told_of}
use Rattle.timeline.specs.Places.{EachStep, Permutation}
use Rattle.timeline.proofs.Permutations.{permutation_trans, permutation_each}
use Rattle.timeline.proofs.PlanBytes.{accepted_bytes_of_steps, bytes_of_steps}
use Rattle.regression.specs.DeadEnd.{Until, Dead}
use Rattle.regression.proofs.NoPlan.{dead_when_refused}
use Rattle.tables.specs.Tables.{chosen, Known}
use Rattle.tables.specs.declared.Frame.{Frame}
use Rattle.tables.specs.declared.Steps.{Steps}
use Rattle.leaf.specs.declared.Answer.{Answer}
use Rattle.leaf.specs.Order.{placed, in_order, Reordered, Ordered}
use Rattle.leaf.specs.Answer.{Answers, FileOf, Asked, Finishes, bytes_in}
use Rattle.leaf.proofs.InOrder.{in_order_permutes, in_order_own, in_order_rising, each_chosen, permutation_apart}
use Rattle.leaf.proofs.Checks.{accepted_passes, answer_found, answer_bytes, answer_not_found}

-- the file has no job
pub finishes_unread : (file : List ℕ) (frame : Frame) (steps : Steps) (reading : Reading)
    → reading ≡ read_file file → result_ok reading ≡ None → Finishes file frame steps None
finishes_unread file frame steps reading e h =
    record {
      found = λ a f. cc;
      same = λ a f. cc;
      bytes = λ a f. cc;
      dead = λ f J have asked b t l. unread (sym (none_is_refused reading h).1 ∙ e ∙ have.read);
    }
  where
    unread : {A : Type 0} {why : Refusal} {j : held.Job} → ◌≡◌ {A = Reading} (Err why) (Ok j) → A
    unread p = cc

-- s is the chosen steps in order
module _ (J : Job) (frame : Frame) (steps s : Steps) (same : Reordered steps s) (ordered : Ordered s s.count) where
  order : Permutation (in_order J s) (chosen J steps)
  order = permutation_trans (in_order_permutes J s) (same.order J)

  -- the plan that is found has them in order, and its bytes are theirs
  module _ (pass : first (limit_rows J) ≡ pass) (known : Known (length J.actions) steps)
      (starts : (k : ℕ) → k < steps.count → get_or steps.starts k 0 < 65536) (r : Option Answer)
      (told : Answers J frame.goal frame.horizon s r) (a : Answer) (h : r ≡ Some a) where
    steps_in_order : steps_in J (bytes_in a) ≡ in_order J s
    steps_in_order =
        let few = (within_limits J pass).few_actions in
        let number = permutation_each (λ x. x.number < 256) order
        (each_chosen (λ x. x.number < 256) J steps steps.count (λ k l. let m = known.known k l in omega arith)) in
        let start = permutation_each (λ x. x.start < 65536) order
        (each_chosen (λ x. x.start < 65536) J steps steps.count starts) in
        ap (steps_in J) (answer_bytes J frame.goal frame.horizon s r told a h)
        ∙ bytes_of_steps J (in_order J s) (in_order_own J s) number start

    found_steps : Permutation (steps_in J (bytes_in a)) (chosen J steps)
    found_steps = subst (λ (P : List Step). Permutation P (chosen J steps)) (sym steps_in_order) order

    found_bytes : bytes_in a ≡ plan_bytes (steps_in J (bytes_in a))
    found_bytes = answer_bytes J frame.goal frame.horizon s r told a h ∙ ap plan_bytes (sym steps_in_order)

  dead : first (limit_rows J) ≡ pass → Asked J frame steps → (r : Option Answer)
      → Answers J frame.goal frame.horizon s r → r ≡ None → (b : From) (t : ℕ)
      → t ≤ b.minute
      → Dead J b frame.goal frame.horizon (Until b t) (chosen J steps)
  dead within asked r a h b t l =
      dead_when_refused J b frame.goal frame.horizon asked.in_time t l (chosen J steps) (in_order J s) order
      (λ apart. in_order_rising J s ordered small (permutation_apart order apart)) refused
    where
      few_actions : length J.actions ≤ 64
      few_actions = (within_limits J within).few_actions

      small : EachStep (λ x. x.number < 256) (in_order J s)
      small =
          permutation_each (λ x. x.number < 256) order
          (each_chosen (λ x. x.number < 256) J steps steps.count
          (λ k l. let m = asked.known.known k l in let n = few_actions in omega arith))

      few : length (in_order J s) ≤ 32
      few =
          let n = length_tabulate s.count (placed J s) in
          let m = same.count in
          let q = asked.known.few in
          omega arith

      refused : first (step_rows J frame.goal (in_order J s)) ≡ pass → end (in_order J s) ≤ frame.horizon → ⊥
      refused p in_time =
          let plan = accepted_bytes_of_steps J frame.goal (in_order J s) (within_limits J within) (in_order_own J s) few p in
          let bytes = plan_bytes (in_order J s) in
          let passes = accepted_passes J frame.goal bytes within asked.goal plan.0 in
          let same_end = ap end plan.1 in
          answer_not_found J frame.goal frame.horizon s r a h (told_of J (steps_in J bytes)) passes
          (omega arith)

-- the file has a job
pub finishes_read : (file : List ℕ) (frame : Frame) (steps s : Steps) (reading : Reading) (read : held.Job) (r : Option Answer)
    → reading ≡ read_file file → result_ok reading ≡ Some read → (job : held.Job) → job ≡ resumed_value read frame.start frame.supplies
    → steps.count ≤ 32 → Reordered steps s → Ordered s s.count
    → Answers (job_in job) frame.goal frame.horizon s r → Finishes file frame steps r
finishes_read file frame steps s reading read r e ok job begun few same ordered told =
    record {
      found = λ a f J have.
          let n = same.count in
          answer_found J frame.goal frame.horizon s (omega arith) r (answers J have) a f;
      same = λ a f J have known starts.
          found_steps J frame steps s same ordered have.passes known starts r (answers J have) a f;
      bytes = λ a f J have known starts.
          found_bytes J frame steps s same ordered have.passes known starts r (answers J have) a f;
      dead = λ f J have asked b t l.
          dead J frame steps s same ordered have.passes asked r (answers J have) f b t l;
    }
  where
    answers : (J : Job) → FileOf J file frame.start frame.supplies → Answers J frame.goal frame.horizon s r
    answers J have =
        let mine : read ≡ have.value = let z = sym (some_is_answered reading read ok) ∙ e ∙ have.read in cc in
        let q : job_in job ≡ J =
        ap job_in begun
        ∙ job_in_resumed read frame.start frame.supplies
        ∙ ap (λ (j : held.Job). resumed (job_in j) frame.start frame.supplies) mine
        ∙ have.same in
        subst (λ (K : Job). Answers K frame.goal frame.horizon s r) q told
