-- Two tables of landmarks that serve a begun day: those of what is left, and those of the whole day.
-- Assumes nothing.
use Prim.Native.Nat.{ℕ, ◌<◌, ◌≤◌}
use mathlib.Core.Logic.{⊎_elim}
use mathlib.Core.List.{List, [], ◌++◌, append-nil}
use native.Mathlib.Nat.{le_refl}
use native.Mathlib.Omega.{arith}
use Rattle.facts.specs.FactSet.{Subset}
use Rattle.facts.proofs.SetLaws.{in_union_left, in_union_right}
use Rattle.job.specs.Job.{Job}
use Rattle.timeline.specs.Step.{Step, union_of}
use Rattle.timeline.specs.Timeline.{held}
use Rattle.timeline.specs.Places.{EachStep}
use Rattle.timeline.specs.Keeps.{PlanOf}
use Rattle.timeline.proofs.Tests.{not_both}
use Rattle.timeline.proofs.Places.{each_step, append_cases, place_append}
use Rattle.regression.proofs.Gathered.{in_union_of}
use Rattle.begun.specs.RestOfDay.{running, at_hand}
use Rattle.begun.proofs.Running.{member_of_running}
use Rattle.begun.proofs.HeldInRest.{held_by_kept}
use Rattle.landmarks.specs.Landmarks.{Landmarks}
use Rattle.landmarks.specs.Bounds.{AddedByNew}
use Rattle.landmarks.proofs.AddedOnTheWay.{AtHand, landmarks_added}

-- of what is left: what the kept steps give is at hand
pub added_by_new_rest : (J : Job) (M : ℕ) (K : List Step) (n : ℕ) (marks : ℕ → ℕ) → Landmarks J (at_hand J M K) n marks
    → AddedByNew J M K 0 (at_hand J M K) n marks
added_by_new_rest J M K n marks landmarks T goal N new plan set t after holds p mark free =
    let lasting : EachStep (λ x. (M ≤ x.start) × (x.start < x.stop)) N =
    λ x Q i. (new x Q i, plan.keeps.lasting x (Q ++ K) (place_append K i)) in
    let runs : EachStep (λ x. M < x.stop) N =
    λ x Q i. let a = new x Q i in let b = plan.keeps.lasting x (Q ++ K) (place_append K i) in omega arith in
    let base : AtHand J M t (at_hand J M K) N K =
    record {
      begun = λ q h.
          in_union_left (held J.start K M) (union_of (λ x. x.action.adds) (running M K)) q
          (rw (held_by_kept J.start M K N runs M (le_refl M)) at h);
      given = λ x Q i later early q h.
          in_union_right (held J.start K M) (union_of (λ x. x.action.adds) (running M K)) q
          (in_union_of (λ x. x.action.adds) q (member_of_running M i later).1 h);
    } in
    let a = landmarks_added J M t (at_hand J M K) goal T N K plan lasting base n marks landmarks set after holds p
    mark in
    ((a.0.by, a.0.rest, a.0.place, a.0.stops, a.0.adds), a.1)

-- of the whole day: what the kept steps add is given
pub added_by_new_whole : (J : Job) (b : ℕ) (K : List Step) (n : ℕ) (marks : ℕ → ℕ) → Landmarks J J.start n marks
    → AddedByNew J b K (union_of (λ x. x.action.adds) K) J.start n marks
added_by_new_whole J b K n marks landmarks T goal N new plan set t after holds p mark free =
    let P : List Step = N ++ K in
    let same = append-nil P in
    let whole : PlanOf J T goal (P ++ []) = rw same plan in
    let base : AtHand J 0 t J.start P [] =
    record {
      begun = λ q h. h;
      given = each_step (λ x. 0 < x.stop → x.stop ≤ t → Subset x.action.adds J.start) [] tt;
    } in
    let lasting : EachStep (λ x. (0 ≤ x.start) × (x.start < x.stop)) P =
    λ x Q i. (omega arith, plan.keeps.lasting x Q i) in
    let a = landmarks_added J 0 t J.start goal T P [] whole lasting base n marks landmarks set (omega arith)
    (rw same holds) p mark in (
      ⊎_elim (λ r. (a.0.by, r.0, r.1, a.0.stops, a.0.adds))
          (λ r. not_both (in_union_of (λ x. x.action.adds) p r.1 a.0.adds) free)
          (append_cases N K a.0.place),
      a.1,
    )
