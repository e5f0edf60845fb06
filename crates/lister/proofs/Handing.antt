-- The ways out of `list`: a job or a slice that is refused, no plan, and the plan at the place handed out.
-- Assumes nothing.
use mathlib.Core.Path.{refl}
use Rattle.std.specs.Prelude.{Option, Some, None}
use Rattle.std.specs.Prelude.{Result, Ok, Err}
use Prim.Native.Nat.{ℕ, ◌≤◌, ◌<◌}
use mathlib.Core.Path.{◌≡◌, sym, ap, ◌∙◌, subst}
use mathlib.Core.Bool.{true, false}
use mathlib.Core.Logic.{inl, inr, ⊎_elim}
use mathlib.Core.List.{List, []}
use lib.ListN.{length}
use borrow.Author.Tests.{lt-ltb, le-ltb}
use Rattle.encoding.specs.Bytes.{overwrite}
use Rattle.job.specs.declared.refusal.Refusal.{Refusal}
use Rattle.job.specs.declared.refusal.Refusal.TheVariants.{PlanSlice, NoPlan, ListEnded}
use Rattle.job.specs.Refusal.{reply_of, Verdict}
use Rattle.job.specs.Refusal.{pass}
use Rattle.job.specs.Job.{Job}
use Rattle.job.specs.Refusal.{first}
use Rattle.job.specs.Valid.{job_rows}
use Rattle.job.proofs.Table.{first_here, first_next, first_append_pass, first_append_refused, first_none}
use Rattle.timeline.specs.Step.{Step, steps_in}
use Rattle.timeline.specs.declared.Day.{Day}
use Rattle.timeline.specs.Day.{told_of}
use Rattle.timeline.proofs.Tests.{decided}
use Rattle.timeline.proofs.DayLaws.{told_of_bytes}
use Rattle.makespan.specs.Makespan.{Makespan, makespan}
use Rattle.leaf.specs.Answer.{bytes_in}
use Rattle.planner.specs.Plan.{plan_refusals, RefusedWith, Whole, HandedOut}
use Rattle.planner.proofs.HandingOut.{refused_with_lem}
use Rattle.leaf.specs.declared.Answer.{Answer}
use Rattle.listing.specs.Place.{EndsBefore}
use mathlib.Core.Logic.{◌⊎◌}
use Rattle.walker.specs.Page.{Page, PageOf}
use Rattle.lister.specs.List.{HandsOutPlace, ListsFor, ListsBy, Lists}

module _ (J : Job) (place : ℕ) (slice : List ℕ) where
  by_verdict : (v : Verdict) (answer : Result Day Refusal) (after : List ℕ) → first (plan_refusals J slice) ≡ v
      → ListsBy v J place slice answer after → Lists J place slice answer after
  by_verdict v answer after e h = subst (λ (w : Verdict). ListsBy w J place slice answer after) (sym e) h

  -- a job that fails its tests
  pub lists_refused : (why : Refusal) (r : Result Day Refusal) → r ≡ Err why → first (job_rows J) ≡ Err why
      → Lists J place slice r slice
  lists_refused why r told e =
      by_verdict (Err why) r slice (first_append_refused (job_rows J) _ why e) (refused_with_lem slice why r told)

  -- a slice that is too short
  pub lists_short : (r : Result Day Refusal) → r ≡ Err PlanSlice → first (job_rows J) ≡ pass → length slice < 96
      → Lists J place slice r slice
  lists_short r told passes short =
      by_verdict (Err PlanSlice) r slice
      (first_append_pass (job_rows J) _ passes ∙ first_here PlanSlice _ [] (lt-ltb (length slice) 96 short))
      (refused_with_lem slice PlanSlice r told)

  module _ (passes : first (job_rows J) ≡ pass) (room : 96 ≤ length slice) where
    answered : (m : Makespan) → makespan J J.goal ≡ m → (r : Result Day Refusal) (after : List ℕ)
        → ListsFor m J J.goal place slice r after → Lists J place slice r after
    answered m e r after h =
        by_verdict pass r after
        (first_append_pass (job_rows J) _ passes
        ∙ first_next PlanSlice _ [] (le-ltb (length slice) 96 room)
        ∙ first_none)
        (subst (λ (k : Makespan). ListsFor k J J.goal place slice r after) (sym e) h)

    module _ (page : Page) (of : PageOf J J.goal place page) where
      -- no plan at all
      pub lists_none : page ≡ None → (r : Result Day Refusal) → r ≡ Err NoPlan → Lists J place slice r slice
      lists_none e r told = answered _ (of.none e) r slice (refused_with_lem slice NoPlan r told)

      module _ (at : Option Answer) (e : page ≡ Some at) where
        pub whole_page : Whole at
        whole_page a f = let found = (of.found a (e ∙ ap Some f)).2.found in (found.few, found.whole)

        module _ (r : Result Day Refusal) (after : List ℕ) (handed : HandedOut at ListEnded slice r after) where
          hands_out : (a : Answer) → at ≡ Some a → HandsOutPlace J J.goal place slice r after
          hands_out a f =
              let h = of.found a (e ∙ ap Some f) in
              let out = subst (λ (x : Option Answer). HandedOut x ListEnded slice r after) f handed in
              let tells_of = h.2 in
              let plan = tells_of.found in
              let P : List Step = h.0 in
              let told = told_of_bytes J (bytes_in a) a.end a.count a.peaks plan.whole plan.end
              plan.peaks in
              let same : steps_in J (bytes_in a) ≡ P = tells_of.steps in
              let answers = out.0 ∙ ap Ok (sym told) ∙ ap (λ (Q : List Step). Ok (told_of J Q)) same in
              record {
                plan = P;
                at = h.1;
                answers = answers;
                replies = ap reply_of answers;
                leaves = out.1 ∙ ap (overwrite slice 0) tells_of.bytes;
              }

          ends : at ≡ None → RefusedWith ListEnded slice r after
          ends f =
              let h = subst (λ (x : Option Answer). HandedOut x ListEnded slice r after) f handed in
              subst (λ (bytes : List ℕ). RefusedWith ListEnded slice r bytes) (sym h.1)
              (refused_with_lem slice ListEnded r h.0)

          pub lists_answered : Lists J place slice r after
          lists_answered = answered _ (of.some at e).1 r after (by_place at refl)
            where
              by_place : (x : Option Answer) → at ≡ x
                  → HandsOutPlace J J.goal place slice r after
                  ⊎ (EndsBefore J J.goal place × RefusedWith ListEnded slice r after)
              by_place (Some a) f = inl (hands_out a f)
              by_place None f = inr (of.ended (e ∙ ap Some f), ends f)
