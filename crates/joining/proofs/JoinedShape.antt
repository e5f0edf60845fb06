-- Plans that pass 12 to 15, read as facts and back; a join of two such plans that is not too long is one.
-- Assumes nothing.
use Prim.Native.Nat.{ℕ, ◌+◌, ◌/◌, ◌%◌, ◌<◌, ◌≤◌}
use mathlib.Core.Path.{◌≡◌, ap, ap₂, ◌∙◌}
use mathlib.Core.Bool.{true, false, not}
use mathlib.Core.Logic.{inl}
use mathlib.Core.List.{List, [], ◌∷◌, ◌++◌, map}
use native.Mathlib.Omega.{arith}
use lib.Dec.{eqb}
use lib.ListN.{length}
use borrow.Author.Tests.{ltb-false, le-ltb, leb-false, lt-leb, not-false, eqb-true, eq-eqb}
use Rattle.lists.proofs.Bools.{or_left, or_right}
use Rattle.lists.proofs.Tabulate.{length_tabulate}
use Rattle.encoding.specs.Bytes.{part}
use Rattle.encoding.proofs.Parts.{Bytes, length_part, part_bytes}
use Rattle.encoding.proofs.Numbers.{bytes_from_bytes}
use Rattle.encoding.proofs.Pieces.{joined_split}
use Rattle.job.specs.Job.{Job}
use Rattle.job.specs.Passed.{Passed}
use Rattle.job.specs.Refusal.{first}
use Rattle.job.specs.Valid.{over}
use Rattle.job.specs.Refusal.{pass}
use Rattle.job.proofs.Table.{first_next, first_pass, first_none}
use Rattle.timeline.specs.Step.{Step, step_in, steps_in, step_bytes, plan_bytes, before, strictly_rising}
use Rattle.timeline.specs.Timeline.{end}
use Rattle.timeline.specs.Accepted.{wrong_size, unknown, order_rows, shape_rows}
use Rattle.timeline.specs.Places.{EachStep}
use Rattle.timeline.specs.Keeps.{Lasting, OfJob}
use Rattle.timeline.proofs.Tests.{or_neither}
use Rattle.timeline.proofs.Places.{each_append, each_map, any_of_none, none_of_any, largest_at_least, largest_at_most}
use Rattle.timeline.proofs.JobSteps.{lasting_of_known, steps_in_bytes}
use Rattle.timeline.proofs.PlanBytes.{bytes_of_steps, length_plan_bytes}
use Rattle.timeline.proofs.Rising.{before_when}
use Rattle.joining.specs.Join.{later_by, join_steps, too_long}
use Rattle.joining.proofs.LaterSteps.{rising_later, rising_append, owns_joined}

-- ---- not too long
pub few_unless_too_long : (J : Job) (P : List Step) → too_long J P ≡ false → length P ≤ 32
few_unless_too_long J P h = ltb-false 32 (length P) (or_left (over 32 (length P)) _ h)

pub ends_unless_too_long : (J : Job) (P : List Step) → too_long J P ≡ false → end P ≤ J.deadline
ends_unless_too_long J P h = ltb-false J.deadline (end P) (or_right (over 32 (length P)) _ h)

-- what the steps of a plan that passes 13 to 15 keep
pub record OrderedSteps (J : Job) (P : List Step) : Type 0 where
  pub known : EachStep (λ x. x.number < length J.actions) P
  pub rising : strictly_rising P ≡ true
  pub before_deadline : EachStep (λ x. x.stop ≤ J.deadline) P

pub ordered_steps : (J : Job) (P : List Step) → first (order_rows J P) ≡ pass → OrderedSteps J P
ordered_steps J P h =
    let t13 = first_pass _ _ _ h in
    let t14 = first_pass _ _ _ t13.1 in
    let t15 = first_pass _ _ _ t14.1 in
    record {
      known = λ x Q i. leb-false (length J.actions) x.number (none_of_any (unknown J) P t13.0 x Q i);
      rising = not-false (strictly_rising P) t14.0;
      before_deadline = λ x Q i. ltb-false J.deadline x.stop (none_of_any _ P t15.0 x Q i);
    }

pub order_passes : (J : Job) (P : List Step) → OrderedSteps J P → first (order_rows J P) ≡ pass
order_passes J P k =
    first_next _ _ _ (any_of_none (unknown J) P (λ x Q i. lt-leb (length J.actions) x.number (k.known x Q i)))
    ∙ first_next _ _ _ (ap not k.rising)
    ∙ first_next _ _ _ (any_of_none _ P (λ x Q i. le-ltb J.deadline x.stop (k.before_deadline x Q i)))
    ∙ first_none

-- ---- bytes that pass 12 to 15
module _ (J : Job) (bytes : List ℕ) (pass : first (shape_rows J bytes) ≡ pass) where
  pub size_passes : wrong_size bytes ≡ false
  unfolding shape_rows
  size_passes = (first_pass _ _ _ pass).0

  pub steps_of_shape : OrderedSteps J (steps_in J bytes)
  unfolding shape_rows
  steps_of_shape = ordered_steps J (steps_in J bytes) (first_pass _ _ _ pass).1

  pub lasting_of_shape : Passed J → Lasting (steps_in J bytes)
  lasting_of_shape passed =
      lasting_of_known J (steps_in J bytes) passed (steps_in_bytes J bytes) steps_of_shape.known

  -- whole steps, at most 32, which end by the deadline
  pub whole_steps : length bytes % 3 ≡ 0
  whole_steps =
      eqb-true (length bytes % 3) 0
      (not-false (eqb (length bytes % 3) 0) (or_left (not (eqb (length bytes % 3) 0)) _ size_passes))

  pub few_of_shape : length (steps_in J bytes) ≤ 32
  unfolding steps_in
  few_of_shape =
      let bound = ltb-false 96 (length bytes) (or_right (not (eqb (length bytes % 3) 0)) _ size_passes) in
      let count : length (steps_in J bytes) ≡ length bytes / 3 = length_tabulate _ _ in
      omega arith

  pub ends_of_shape : end (steps_in J bytes) ≤ J.deadline
  ends_of_shape = largest_at_most (λ x. x.stop) J.deadline (steps_in J bytes) steps_of_shape.before_deadline

  -- a plan by itself is not too long
  pub not_too_long : too_long J (steps_in J bytes) ≡ false
  not_too_long =
      or_neither (le-ltb 32 (length (steps_in J bytes)) few_of_shape)
      (le-ltb J.deadline (end (steps_in J bytes)) ends_of_shape)

  -- the plan written again has the same bytes
  pub written_again : Bytes bytes → plan_bytes (steps_in J bytes) ≡ bytes
  unfolding steps_in plan_bytes
  written_again small =
      let whole = whole_steps in
      joined_split 3 (step_in J) step_bytes bytes (omega arith) whole
      (λ at l. step_again (part bytes at 3) (length_part bytes at 3 l) (part_bytes bytes at 3 small))
    where
      step_again : (bs : List ℕ) → length bs ≡ 3 → Bytes bs → step_bytes (step_in J bs) ≡ bs
      step_again (a ∷ b ∷ c ∷ []) l small =
          ap₂ {C = List ℕ} ◌++◌ (bytes_from_bytes (a ∷ []) (part_bytes (a ∷ b ∷ c ∷ []) 0 1 small))
          (bytes_from_bytes (b ∷ c ∷ []) (part_bytes (a ∷ b ∷ c ∷ []) 1 2 small))
      step_again [] l small = absurd (omega arith)
      step_again (a ∷ []) l small = absurd (omega arith)
      step_again (a ∷ b ∷ []) l small = absurd (omega arith)
      step_again (a ∷ b ∷ c ∷ d ∷ bs) l small = absurd (omega arith)

-- ---- steps that pass 13 to 15, at most 32 of them, in bytes
pub shape_of_steps : (J : Job) (P : List Step) → Passed J → EachStep (OfJob J) P → OrderedSteps J P → length P ≤ 32
    → (first (shape_rows J (plan_bytes P)) ≡ pass) × (steps_in J (plan_bytes P) ≡ P)
unfolding shape_rows
shape_of_steps J P passed own k few =
    let lasting = lasting_of_known J P passed own k.known in
    let actions = passed.few_actions in
    let deadline = passed.deadline in
    let same = bytes_of_steps J P own (λ x Q i. let a = k.known x Q i in omega arith)
    (λ x Q i. let a = k.before_deadline x Q i in let b = lasting x Q i in omega arith) in
    let l = length_plan_bytes P in
    let size : wrong_size (plan_bytes P) ≡ false =
    or_neither (ap not (eq-eqb (length (plan_bytes P) % 3) 0 (omega arith)))
    (le-ltb 96 (length (plan_bytes P)) (omega arith)) in
    (first_next _ _ _ size ∙ ap (λ (Q : List Step). first (order_rows J Q)) same ∙ order_passes J P k, same)

-- ---- joined
joined_ordered : (J : Job) (h : ℕ) (A B : List Step) → Lasting A → OrderedSteps J A → OrderedSteps J B
    → too_long J (join_steps h A B) ≡ false → OrderedSteps J (join_steps h A B)
unfolding join_steps
joined_ordered J h [] B lasting a b short = b
joined_ordered J h (x ∷ A) [] lasting a b short = a
joined_ordered J h (x ∷ A) (y ∷ B) lasting a b short =
    let M : ℕ = end (x ∷ A) + h in
    let ends = ends_unless_too_long J (join_steps h (x ∷ A) (y ∷ B)) short in
    record {
      known = each_append (λ z. z.number < length J.actions) (x ∷ A) (map (later_by M) (y ∷ B)) a.known
          (each_map (λ z. z.number < length J.actions) (later_by M) (y ∷ B) b.known);
      rising = rising_append (x ∷ A) (map (later_by M) (y ∷ B)) a.rising (rising_later M (y ∷ B) b.rising)
          (λ z Q i.
          each_map (λ w. before z w ≡ true) (later_by M) (y ∷ B)
          (λ w R j.
          let l = lasting z Q i in
          let s = largest_at_least (λ v. v.stop) i in
          before_when z (later_by M w) (inl (omega arith))));
      before_deadline = λ z Q i. let l = largest_at_least (λ v. v.stop) i in omega arith;
    }

-- a join of plans that pass 12 to 15 passes 12 to 15, and its bytes mean the joined steps
pub joined_passes_shape : (J : Job) (h : ℕ) (a b : List ℕ) → Passed J → first (shape_rows J a) ≡ pass
    → first (shape_rows J b) ≡ pass → too_long J (join_steps h (steps_in J a) (steps_in J b)) ≡ false
    → (first (shape_rows J (plan_bytes (join_steps h (steps_in J a) (steps_in J b)))) ≡ pass)
    × (steps_in J (plan_bytes (join_steps h (steps_in J a) (steps_in J b))) ≡ join_steps h (steps_in J a) (steps_in J b))
joined_passes_shape J h a b passed IsFirst-passes second_passes short =
    let A = steps_in J a in
    let B = steps_in J b in
    shape_of_steps J (join_steps h A B) passed (owns_joined J h A B (steps_in_bytes J a) (steps_in_bytes J b))
    (joined_ordered J h A B (lasting_of_shape J a IsFirst-passes passed) (steps_of_shape J a IsFirst-passes)
    (steps_of_shape J b second_passes) short)
    (few_unless_too_long J (join_steps h A B) short)
