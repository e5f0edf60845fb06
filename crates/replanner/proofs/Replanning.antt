-- The ways out of the replanner: each refusal in its turn, and the answer handed out.
-- Assumes nothing.
use Rattle.std.specs.Prelude.{Option}
use Rattle.std.specs.Prelude.{Result, Ok, Err}
use Prim.Native.Nat.{ℕ, ◌≤◌, ◌<◌}
use mathlib.Core.Path.{◌≡◌, sym, ap, ◌∙◌, subst}
use mathlib.Core.Bool.{Bool, true, false}
use mathlib.Core.Logic.{⊎_elim}
use mathlib.Core.List.{List, [], ◌∷◌, ◌++◌}
use lib.Dec.{ltb}
use lib.ListN.{length}
use borrow.Author.Tests.{lt-ltb, le-ltb}
use Rattle.encoding.specs.Bytes.{overwrite}
use Rattle.facts.specs.FactSet.{foreign}
use Rattle.job.specs.declared.refusal.Refusal.{Refusal}
use Rattle.job.specs.declared.refusal.Refusal.TheVariants.{ForeignAskedFact, PlanSlice, NoPlanWithKept}
use Rattle.job.specs.Refusal.{reply_of, Verdict}
use Rattle.job.specs.Refusal.{pass}
use Rattle.job.specs.Job.{Job}
use Rattle.job.specs.Refusal.{Row, ◌when◌, first}
use Rattle.job.specs.Valid.{job_rows}
use Rattle.job.proofs.Table.{first_here, first_next, first_append_pass, first_append_refused, first_none}
use Rattle.timeline.specs.declared.Day.{Day}
use Rattle.timeline.specs.Step.{Step}
use Rattle.timeline.specs.Accepted.{plan_rows, run_rows}
use Rattle.timeline.specs.Day.{told_of}
use Rattle.timeline.proofs.Tests.{decided}
use Rattle.timeline.proofs.DayLaws.{told_of_bytes}
use Rattle.timeline.proofs.RunRows.{run_rows_lem}
use Rattle.makespan.specs.Makespan.{passes}
use Rattle.leaf.specs.declared.Answer.{Answer}
use Rattle.leaf.specs.Answer.{bytes_in}
use Rattle.planner.specs.Plan.{Whole, HandedOut}
use Rattle.planner.proofs.HandingOut.{refused_with_lem, whole_when_solved, plans_when_solved}
use Rattle.replanner.specs.Replan.{replan_rows, kept_steps, HandsOutKept, ReplansWith, ReplansBy, Replans}
use Rattle.replanner.specs.Kept.{Replanned}

module _ (J : Job) (current : List ℕ) (minute goal : ℕ) (slice : List ℕ) where
  abbrev K : List Step
  K = kept_steps J minute current

  abbrev slice_row : Row
  slice_row = PlanSlice when ltb (length slice) 96

  by_verdict : (v : Verdict) (r : Result Day Refusal) (after : List ℕ) → first (replan_rows J current goal slice) ≡ v
      → ReplansBy v J goal minute K slice r after → Replans J current minute goal slice r after
  by_verdict v r after e h = subst (λ (w : Verdict). ReplansBy w J goal minute K slice r after) (sym e) h

  refused_by : (why : Refusal) (r : Result Day Refusal) → r ≡ Err why → first (replan_rows J current goal slice) ≡ Err why
      → Replans J current minute goal slice r slice
  refused_by why r told e = by_verdict (Err why) r slice e (refused_with_lem slice why r told)

  -- a job that fails its tests
  pub replans_refused : (why : Refusal) (r : Result Day Refusal) → r ≡ Err why → first (job_rows J) ≡ Err why
      → Replans J current minute goal slice r slice
  replans_refused why r told e = refused_by why r told (first_append_refused (job_rows J) _ why e)

  module _ (valid : first (job_rows J) ≡ pass) where
    -- a goal with a foreign fact
    pub replans_foreign : (r : Result Day Refusal) → r ≡ Err ForeignAskedFact → foreign J.facts goal ≡ true
        → Replans J current minute goal slice r slice
    replans_foreign r told e =
        refused_by ForeignAskedFact r told (first_append_pass (job_rows J) _ valid ∙ first_here ForeignAskedFact _ _ e)

    module _ (own : foreign J.facts goal ≡ false) where
      -- what stands behind the goal's row
      plan_rows_lem : first (replan_rows J current goal slice) ≡ first (run_rows J current ++ (slice_row ∷ []))
      plan_rows_lem = first_append_pass (job_rows J) _ valid ∙ first_next ForeignAskedFact _ _ own

      -- a current plan that fails one of 12 to 19
      pub replans_plan_refused : (why : Refusal) (r : Result Day Refusal) → r ≡ Err why → first (plan_rows J 0 current) ≡ Err why
          → Replans J current minute goal slice r slice
      replans_plan_refused why r told e =
          refused_by why r told
          (plan_rows_lem ∙ first_append_refused (run_rows J current) _ why (sym (run_rows_lem J current) ∙ e))

      module _ (runs : first (plan_rows J 0 current) ≡ pass) where
        slice_rows : first (replan_rows J current goal slice) ≡ first (slice_row ∷ [])
        slice_rows = plan_rows_lem ∙ first_append_pass (run_rows J current) _ (sym (run_rows_lem J current) ∙ runs)

        -- a slice that is too short
        pub replans_short : (r : Result Day Refusal) → r ≡ Err PlanSlice → length slice < 96
            → Replans J current minute goal slice r slice
        replans_short r told short =
            refused_by PlanSlice r told
            (slice_rows ∙ first_here PlanSlice _ [] (lt-ltb (length slice) 96 short))

        module _ (room : 96 ≤ length slice) (found : Option Answer) (replanned : Replanned J goal minute K found) (r : Result Day Refusal)
            (after : List ℕ) (handed : HandedOut found NoPlanWithKept slice r after) where
          kept_handed_out : passes J goal K ≡ true → HandsOutKept J K slice r after
          kept_handed_out e =
              let alone = replanned.alone e in
              let plan = alone.plan in
              let a = alone.answer in
              let told = told_of_bytes J (bytes_in a) a.end a.count a.peaks plan.whole plan.end
              plan.peaks in
              let out = subst (λ (x : Option Answer). HandedOut x NoPlanWithKept slice r after) alone.found handed in
              let answers = out.0 ∙ ap Ok (sym told ∙ ap (told_of J) alone.steps) in
              record {
                answers = answers;
                replies = ap reply_of answers;
                leaves = out.1 ∙ ap (overwrite slice 0) alone.bytes;
              }

          -- what was found with the kept steps, or that nothing was
          pub replans_answered : Replans J current minute goal slice r after
          replans_answered =
              by_verdict pass r after
              (slice_rows ∙ first_next PlanSlice _ [] (le-ltb (length slice) 96 room) ∙ first_none)
              (⊎_elim (λ e. by_pass true e (kept_handed_out e))
              (λ e.
              by_pass false e
              (plans_when_solved J goal minute K found (replanned.solved e) NoPlanWithKept slice r after handed))
              (decided (passes J goal K)))
            where
              by_pass : (b : Bool) → passes J goal K ≡ b → ReplansWith b J goal minute K slice r after
                  → ReplansWith (passes J goal K) J goal minute K slice r after
              by_pass b e h = subst (λ (c : Bool). ReplansWith c J goal minute K slice r after) (sym e) h

-- an answer with the kept steps can be handed out
pub whole_when_replanned : (J : Job) (goal minute : ℕ) (K : List Step) (r : Option Answer) → Replanned J goal minute K r
    → Whole r
whole_when_replanned J goal minute K r replanned a e =
    ⊎_elim
    (λ h.
    let alone = replanned.alone h in
    let same : alone.answer ≡ a = let z = sym alone.found ∙ e in cc in
    rw (← same) (alone.plan.few, alone.plan.whole))
    (λ h. whole_when_solved J goal minute K r (replanned.solved h) a e)
    (decided (passes J goal K))

pub replanned_with : (J : Job) (goal minute : ℕ) (a : Option Answer) (P Q : List Step) → P ≡ Q → Replanned J goal minute P a
    → Replanned J goal minute Q a
replanned_with J goal minute a P Q e = subst (λ (K : List Step). Replanned J goal minute K a) e
