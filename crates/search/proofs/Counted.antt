-- An accepted plan that counts is the kept steps, and new ones.
-- Assumes nothing.
use Rattle.std.specs.Prelude.{Option, Some, None, is_some}
use Prim.Native.Nat.{ℕ, ◌<◌}
use mathlib.Core.Bool.{true, false}
use mathlib.Core.Path.{◌≡◌, refl, sym, ap, subst, ◌∙◌}
use mathlib.Core.Logic.{⊎_elim}
use mathlib.Core.List.{List, [], ◌∷◌, ◌++◌}
use lib.ListN.{length, get_or}
use Rattle.lists.proofs.Bools.{and_left, and_right}
use Rattle.job.specs.Job.{Job}
use Rattle.timeline.specs.Step.{Step, steps_in, before, strictly_rising}
use Rattle.timeline.specs.From.{IsNew, IsKept}
use Rattle.timeline.specs.Accepted.{Accepted}
use Rattle.timeline.specs.Places.{Place, EachStep, Permutation}
use Rattle.timeline.proofs.Tests.{and_both}
use Rattle.timeline.proofs.Places.{append_cases, place_append, place_after}
use Rattle.timeline.proofs.AcceptedSteps.{accepted_steps}
use Rattle.timeline.proofs.JobSteps.{steps_of_accepted}
use Rattle.timeline.proofs.Permutations.{permutation_sym, permutation_trans, permutation_swap}
use Rattle.timeline.proofs.Permutations.{permutation_append, permutation_each, permutation_member}
use Rattle.timeline.proofs.Rising.{rising_same_members}
use Rattle.timeline.proofs.NewSteps.{not_new_and_kept}
use Rattle.makespan.specs.Makespan.{begun, Counts}
use Rattle.tables.specs.Tables.{Known, kept_of, from_of, KeepsKept}
use Rattle.tables.specs.declared.Steps.{Steps}
use Rattle.tables.specs.declared.Frame.{Frame}
use Rattle.leaf.specs.Order.{in_order}
use Rattle.leaf.proofs.InOrder.{in_order_permutes}
use Rattle.leaf.specs.declared.Answer.{Answer}
use Rattle.leaf.specs.Answer.{FileOf, Finishes, bytes_in}
use Rattle.search.specs.Search.{steps_before, CountsFor, FoundFor}
use Rattle.states.proofs.Chosen.{chosen_splits, since_new}
use Rattle.search.proofs.StepsBefore.{rising_splits, before_are_kept, before_minute_begun}

-- the plan's steps are new ones and the kept ones
pub record Split (J : Job) (frame : Frame) (P : List Step) : Type 0 where
  pub new : List Step
  pub same : Permutation P (new ++ kept_of J frame)
  pub after : EachStep (IsNew (from_of frame)) new
  pub early : EachStep (IsKept (from_of frame)) (kept_of J frame)

pub split_of_counted : (J : Job) (frame : Frame) (bytes : List ℕ) → Accepted J frame.goal bytes
    → CountsFor J frame bytes → Split J frame (steps_in J bytes)
split_of_counted J frame bytes accepted counts =
    let P : List Step = steps_in J bytes in
    let K : List Step = in_order J frame.kept in
    let r = rising_splits (from_of frame) P
    (accepted_steps J frame.goal P (steps_of_accepted J frame.goal bytes accepted)).rising in
    let o = in_order_permutes J frame.kept in
    let is : P ≡ K ++ r.0 = r.1 ∙ ap (λ (Q : List Step). Q ++ r.0) counts in
    record {
      new = r.0;
      same = subst (λ (Q : List Step). Permutation Q (r.0 ++ kept_of J frame)) (sym is)
          (permutation_trans (permutation_append r.0 o) (permutation_swap (kept_of J frame) r.0));
      after = r.2;
      early = permutation_each (IsKept (from_of frame)) (permutation_sym o)
          (subst (EachStep (IsKept (from_of frame))) counts (before_are_kept (from_of frame) P));
    }

-- what is not some is none
pub none_of : (r : Option Answer) → is_some r ≡ false → r ≡ None
none_of None h = refl
none_of (Some a) h = cc

pub some_of : (r : Option Answer) → is_some r ≡ true → (a : Answer) × (r ≡ Some a)
some_of None h = cc
some_of (Some a) h = (a, refl)

-- a plan that the leaf finds has the kept steps, and else new ones
pub found_when_finished : (J : Job) (file : List ℕ) (frame : Frame) (steps : Steps) (r : Option Answer) → KeepsKept frame steps
    → Known frame.actions steps → ((k : ℕ) → k < steps.count → get_or steps.starts k 0 < 65536)
    → Finishes file frame steps r → (a : Answer) → r ≡ Some a → FileOf J file frame.start frame.supplies
    → length J.actions ≡ frame.actions
    → FoundFor J frame a
found_when_finished J file frame steps r keeps known starts finishes a e have count =
    let split = chosen_splits J frame steps keeps in
    record {
      plan = finishes.found a e J have;
      new = split.0;
      same = subst (λ (P : List Step). Permutation (steps_in J (bytes_in a)) P) split.1
          (finishes.same a e J have (rw count known) starts);
      after = since_new J frame steps keeps split.0 split.2;
    }

-- ---- where a minute alone tells new steps from kept ones, a plan counts as it does for the makespan
module _ (J : Job) (frame : Frame) (plain : frame.least ≡ 0) (bytes : List ℕ) where
  begun_before : steps_before (from_of frame) (steps_in J bytes) ≡ begun frame.first (steps_in J bytes)
  begun_before =
      ap (λ (n : ℕ). steps_before (record { minute = frame.first; number = n }) (steps_in J bytes)) plain
      ∙ before_minute_begun frame.first (steps_in J bytes)

  pub counts_by_minute : CountsFor J frame bytes → Counts J frame.first (in_order J frame.kept) bytes
  counts_by_minute counts = sym begun_before ∙ counts

  pub counts_by_place : Counts J frame.first (in_order J frame.kept) bytes → CountsFor J frame bytes
  counts_by_place counts = begun_before ∙ counts

-- ---- a plan that is found counts
rising_front : (P N : List Step) → strictly_rising (P ++ N) ≡ true → strictly_rising P ≡ true
rising_front [] N h = refl
rising_front (x ∷ []) N h = refl
rising_front (x ∷ y ∷ P) N h =
    and_both (and_left (before x y) (strictly_rising (y ∷ (P ++ N))) h)
    (rising_front (y ∷ P) N (and_right (before x y) (strictly_rising (y ∷ (P ++ N))) h))

-- its steps before the frame's place are the kept ones, and both stand in rising order
pub found_counts : (J : Job) (frame : Frame) (r : Answer) → FoundFor J frame r
    → EachStep (IsKept (from_of frame)) (kept_of J frame) → strictly_rising (in_order J frame.kept) ≡ true
    → CountsFor J frame (bytes_in r)
found_counts J frame r found early rising =
    let P : List Step = steps_in J (bytes_in r) in
    let front : List Step = steps_before (from_of frame) P in
    let order = (accepted_steps J frame.goal P
    (steps_of_accepted J frame.goal (bytes_in r) found.plan.accepted)).rising in
    let split = rising_splits (from_of frame) P order in
    let kept = in_order_permutes J frame.kept in
    rising_same_members front (in_order J frame.kept) (rising_front front split.0 (rw split.1 at order))
    rising
    (λ x Q i.
    let in_plan = place_append split.0 i in
    let m = permutation_member found.same (subst (Place x (Q ++ split.0)) (sym split.1) in_plan) in
    ⊎_elim
    (λ n.
    let kept = before_are_kept (from_of frame) P x Q i in
    absurd (not_new_and_kept (from_of frame) x (found.after x n.0 n.1) kept))
    (λ k. permutation_member (permutation_sym kept) k.1)
    (append_cases found.new (kept_of J frame) m.1))
    (λ x Q i.
    let k = permutation_member kept i in
    let m = permutation_member (permutation_sym found.same) (place_after found.new k.1) in
    ⊎_elim (λ b. b)
    (λ n. absurd (not_new_and_kept (from_of frame) x (split.2 x n.0 n.1) (early x k.0 k.1)))
    (append_cases front split.0 (subst (Place x m.0) split.1 m.1)))
