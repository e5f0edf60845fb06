-- The kept steps of a plan, one after the other; and that they fit, where the plan passes tests 12 to 19.
-- Assumes nothing.
use Prim.Native.Nat.{ℕ, zero, suc, ◌+◌, ◌≤◌, ◌<◌}
use mathlib.Core.Path.{◌≡◌, refl, sym, ap, ap₂, ◌∙◌, subst}
use mathlib.Core.Bool.{Bool, true, false, cond}
use mathlib.Core.Logic.{⊎_elim}
use mathlib.Core.List.{List, [], ◌∷◌, ◌++◌, append-nil}
use native.Mathlib.Omega.{arith}
use lib.Dec.{ltb}
use lib.ListN.{length, get_or, length-set}
use lib.Seq.{get_or-set_same, get_or-set_other}
use borrow.Author.Tests.{lt-ltb, le-ltb}
use Rattle.lists.specs.Lists.{tabulate}
use Rattle.lists.proofs.Tabulate.{length_tabulate, tabulate_snoc, tabulate_same, get_d_tabulate}
use Rattle.job.specs.declared.Job as held
use Rattle.job.specs.Refusal.{pass}
use Rattle.job.specs.Job.{Job, job_in, no_action}
use Rattle.job.specs.Refusal.{first}
use Rattle.job.specs.Valid.{job_rows}
use Rattle.job.proofs.Passed.{passed}
use Rattle.timeline.specs.declared.Plan.{Plan}
use Rattle.timeline.specs.Step.{Step, step_of, steps_in, strictly_rising}
use Rattle.timeline.specs.Value.{step_at}
use Rattle.timeline.specs.Accepted.{Accepted}
use Rattle.timeline.specs.Places.{here, EachStep}
use Rattle.timeline.proofs.Places.{each_rest}
use Rattle.timeline.proofs.AcceptedSteps.{AcceptedSteps, accepted_steps}
use Rattle.timeline.specs.Keeps.{OfJob}
use Rattle.timeline.proofs.JobSteps.{lasting_of_known, steps_in_bytes, steps_of_accepted}
use Rattle.timeline.proofs.Tests.{le_or_lt}
use Rattle.makespan.specs.Makespan.{begun}
use Rattle.makespan.proofs.Search.{begun_are_begun}
use Rattle.checker.specs.Check.{Decodes}
use Rattle.tables.specs.declared.Steps.{Steps}
use Rattle.tables.specs.Tables.{no_steps, pushed}
use Rattle.leaf.specs.Order.{placed, in_order}
use Rattle.replanner.specs.Replan.{kept_steps}
use Rattle.replanner.specs.Kept.{Keeps, KeptFit}
use Rattle.replanner.proofs.Begun.{begun_snoc, each_begun, begun_rise}

-- ---- one more step of the plan
in_order_pushed : (J : Job) (steps : Steps) (number start : ℕ) → steps.count < length steps.numbers
    → steps.count < length steps.starts
    → in_order J (pushed steps number start) ≡ in_order J steps ++ (step_of J number start ∷ [])
in_order_pushed J steps number start room more =
    let n = steps.count in
    tabulate_snoc n (placed J (pushed steps number start))
    ∙ ap₂ {C = List Step} ◌++◌
    (tabulate_same n (placed J (pushed steps number start)) (placed J steps)
    (λ k l.
    let apart : k ≡ n → ⊥ = λ e. omega arith in
    ap₂ (step_of J) (get_or-set_other steps.numbers n k number 0 apart)
    (get_or-set_other steps.starts n k start 0 apart)))
    (ap (λ (x : Step). x ∷ [])
    (ap₂ (step_of J) (get_or-set_same steps.numbers n number 0 room) (get_or-set_same steps.starts n start 0 more)))

module _ (plan : Plan) (minute : ℕ) where
  pub keeps_none : Keeps plan 0 minute no_steps
  unfolding tabulate
  keeps_none = record { few = omega arith; numbers = refl; starts = refl; same = λ J own. refl }

  module _ (i : ℕ) (kept : Steps) (keeps : Keeps plan i minute kept) where
    -- the plan's first i + 1 steps, by whether the last of them starts before the minute
    more_begun : (b : Bool) → ltb (step_at plan i).start minute ≡ b
        → begun minute (tabulate (i + 1) (step_at plan))
        ≡ begun minute (tabulate i (step_at plan)) ++ cond b (step_at plan i ∷ []) []
    more_begun b e =
        ap (begun minute) (tabulate_snoc i (step_at plan))
        ∙ begun_snoc minute (tabulate i (step_at plan)) (step_at plan i)
        ∙ ap (λ (c : Bool). begun minute (tabulate i (step_at plan)) ++ cond c (step_at plan i ∷ []) []) e

    keeps_more : i < 32 → (step_at plan i).start < minute
        → Keeps plan (i + 1) minute (pushed kept (step_at plan i).number (step_at plan i).start)
    keeps_more room early =
        let x = step_at plan i in
        let few = keeps.few in
        let n = keeps.numbers in
        let s = keeps.starts in
        record {
          few = omega arith;
          numbers = length-set kept.numbers kept.count x.number ∙ n;
          starts = length-set kept.starts kept.count x.start ∙ s;
          same = λ J own.
              in_order_pushed J kept x.number x.start (omega arith) (omega arith)
              ∙ ap₂ {C = List Step} ◌++◌ (keeps.same J (λ k l. own k (omega arith)))
              (ap (λ (y : Step). y ∷ []) (sym (own i (omega arith))))
              ∙ sym (more_begun true (lt-ltb x.start minute early));
        }

    keeps_later : minute ≤ (step_at plan i).start → Keeps plan (i + 1) minute kept
    keeps_later late =
        let few = keeps.few in
        record {
          few = omega arith;
          numbers = keeps.numbers;
          starts = keeps.starts;
          same = λ J own.
              keeps.same J (λ k l. own k (omega arith))
              ∙ sym (append-nil (begun minute (tabulate i (step_at plan))))
              ∙ sym (more_begun false (le-ltb (step_at plan i).start minute late));
        }

    -- r is kept with that step, where it starts before the minute
    pub keeps_next : i < 32 → (r : Steps)
        → ((step_at plan i).start < minute → r ≡ pushed kept (step_at plan i).number (step_at plan i).start)
        → (minute ≤ (step_at plan i).start → r ≡ kept) → Keeps plan (i + 1) minute r
    keeps_next room r more same =
        ⊎_elim (λ late. subst (Keeps plan (i + 1) minute) (sym (same late)) (keeps_later late))
        (λ early. subst (Keeps plan (i + 1) minute) (sym (more early)) (keeps_more room early))
        (le_or_lt minute (step_at plan i).start)

-- ---- that they fit
step_at_place : (F : Step → Type 0) (P : List Step) (d : Step) → EachStep F P → (k : ℕ) → k < length P → F (get_or P k d)
step_at_place F [] d h k l = absurd (omega arith)
step_at_place F (x ∷ P) d h zero l = h x P here
step_at_place F (x ∷ P) d h (suc k) l = step_at_place F P d (each_rest F x P h) k (omega arith)

each_placed : (F : Step → Type 0) (n : ℕ) (f : ℕ → Step) → EachStep F (tabulate n f) → (k : ℕ) → k < n → F (f k)
each_placed F n f h k l =
    let none : Step = record { number = 0; action = no_action; start = 0; stop = 0 } in
    let size = length_tabulate n f in
    subst F (get_d_tabulate n f k none l) (step_at_place F (tabulate n f) none h k (omega arith))

-- the plan in the bytes passes tests 12 to 19
module _ (job : held.Job) (current : List ℕ) (plan : Plan) (decodes : Decodes job current plan)
    (valid : first (job_rows (job_in job)) ≡ pass) (runs : Accepted (job_in job) 0 current) where
  abbrev J : Job
  J = job_in job

  steps : AcceptedSteps J 0 (steps_in J current)
  steps = accepted_steps J 0 (steps_in J current) (steps_of_accepted J 0 current runs)

  each_of_plan : (F : Step → Type 0) → EachStep F (steps_in J current) → (k : ℕ) → k < plan.length → F (step_at plan k)
  each_of_plan F h = each_placed F plan.length (step_at plan) (subst (EachStep F) (sym decodes.steps) h)

  starts_in_day : EachStep (λ x. x.start < 65536) (steps_in J current)
  starts_in_day x Q i =
      let lasts = lasting_of_known J (steps_in J current) (passed J valid) (steps_in_bytes J current) steps.known
      x Q i in
      let stops = steps.before_deadline x Q i in
      let day = (passed J valid).deadline in
      omega arith

  pub small_starts : (k : ℕ) → k < plan.length → (step_at plan k).start < 65536
  small_starts = each_of_plan (λ x. x.start < 65536) starts_in_day

  module _ (minute : ℕ) (kept : Steps) (keeps : Keeps plan plan.length minute kept) where
    pub kept_in_order : in_order J kept ≡ kept_steps J minute current
    kept_in_order =
        keeps.same J (each_of_plan (OfJob J) (steps_in_bytes J current))
        ∙ ap (begun minute) decodes.steps

    each_kept : (F : Step → Type 0) → EachStep F (kept_steps J minute current)
        → (k : ℕ) → k < kept.count → F (placed J kept k)
    each_kept F h = each_placed F kept.count (placed J kept) (subst (EachStep F) (sym kept_in_order) h)

    pub kept_fit : KeptFit J minute kept
    kept_fit =
        let few = keeps.few in
        let most = decodes.few in
        record {
          known = record {
            few = omega arith;
            numbers = keeps.numbers;
            starts = keeps.starts;
            known = each_kept (λ x. x.number < length J.actions)
                (each_begun (λ x. x.number < length J.actions) minute (steps_in J current) steps.known);
          };
          early = each_kept (λ x. x.start < minute) (begun_are_begun minute (steps_in J current));
          small = each_kept (λ x. x.start < 65536)
              (each_begun (λ x. x.start < 65536) minute (steps_in J current) starts_in_day);
          rising = subst (λ (P : List Step). strictly_rising P ≡ true) (sym kept_in_order)
              (begun_rise minute (steps_in J current) steps.rising);
        }
