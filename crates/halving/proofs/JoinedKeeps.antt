-- A plan for a halfway goal and a plan for the goal from the facts and stores left, joined, pass tests 13 to 20 of the
-- whole job, where the joined plan is not too long.
-- Assumes nothing.
use Prim.Native.Nat.{ℕ, ◌+◌, ◌-◌, ◌<◌, ◌≤◌}
use mathlib.Core.Path.{◌≡◌, ap, ◌∙◌}
use mathlib.Core.Bool.{true, false}
use mathlib.Core.Logic.{inl}
use mathlib.Core.List.{List, [], ◌∷◌, ◌++◌, map}
use native.Mathlib.Omega.{arith}
use lib.ListN.{length, get_or}
use Rattle.lists.proofs.Tabulate.{length_tabulate}
use Rattle.facts.specs.FactSet.{has, Subset}
use Rattle.job.specs.Job.{Job}
use Rattle.job.specs.Refusal.{first}
use Rattle.job.specs.Resources.{handover, store_cap}
use Rattle.job.specs.Refusal.{pass}
use Rattle.timeline.specs.Step.{Step, strictly_rising, any_pair}
use Rattle.timeline.specs.Timeline.{end, held, in_use, store_use, used_up}
use Rattle.timeline.specs.Accepted.{clashing, step_rows}
use Rattle.timeline.specs.Places.{EachStep}
use Rattle.timeline.specs.Keeps.{Lasting}
use Rattle.timeline.proofs.Places.{each_append, each_map, largest_at_least, total_append}
use Rattle.timeline.proofs.Clashes.{not_clashing, no_clash_append}
use Rattle.timeline.proofs.HeldFacts.{held_after_end}
use Rattle.timeline.proofs.AcceptedSteps.{AcceptedSteps, accepted_steps, steps_accepted}
use Rattle.timeline.proofs.Rising.{before_when}
use Rattle.joining.specs.Join.{later_by, largest_handover, join_steps, too_long}
use Rattle.joining.proofs.Associates.{end_joined}
use Rattle.joining.proofs.JoinedPeaks.{joined_in_use, handover_at_most}
use Rattle.joining.proofs.JoinedShape.{ends_unless_too_long}
use Rattle.joining.proofs.LaterSteps.{rising_later, rising_append}
use Rattle.halving.specs.Afternoon.{afternoon}
use Rattle.halving.proofs.Afternoons.{afternoon_in_use, afternoon_used_up, afternoon_cap}
use Rattle.halving.proofs.JoinedFacts.{held_in_first, held_in_second}
use Rattle.halving.proofs.LaterSteps.{no_clash_later, used_later}

-- ---- what the afternoon's plan keeps of the whole job
module _ (J : Job) (goal : ℕ) (A B : List Step) (second : AcceptedSteps (afternoon J A) goal B) where
  pools_in_afternoon : (pool t : ℕ) → pool < length J.pools → in_use J pool t B ≤ get_or J.pools pool 0
  pools_in_afternoon pool t l =
      let same = afternoon_in_use J A pool t B in
      let within = second.pools pool t l in
      omega arith

  stores_in_afternoon : (store : ℕ) → store < length J.stores
      → used_up J store B ≤ store_cap J store - used_up J store A
  stores_in_afternoon store l =
      let n : length (afternoon J A).stores ≡ length J.stores = length_tabulate (length J.stores) _ in
      let used = afternoon_used_up J A store B in
      let cap = afternoon_cap J A store l in
      let within = second.stores store (omega arith) in
      omega arith

-- ---- an empty half
first_empty : (J : Job) (goal : ℕ) (B : List Step) → AcceptedSteps (afternoon J []) goal B → AcceptedSteps J goal B
first_empty J goal B b =
    record {
      known = b.known;
      rising = b.rising;
      before_deadline = b.before_deadline;
      no_clash = b.no_clash;
      pools = pools_in_afternoon J goal [] B b;
      stores = λ store l. let s = stores_in_afternoon J goal [] B b store l in omega arith;
      needs_hold = b.needs_hold;
      goal_holds = b.goal_holds;
    }

second_empty : (J : Job) (halfway goal : ℕ) (A : List Step) → AcceptedSteps J halfway A
    → AcceptedSteps (afternoon J A) goal [] → AcceptedSteps J goal A
second_empty J halfway goal A a b =
    record {
      known = a.known;
      rising = a.rising;
      before_deadline = a.before_deadline;
      no_clash = a.no_clash;
      pools = a.pools;
      stores = a.stores;
      needs_hold = a.needs_hold;
      goal_holds = b.goal_holds;
    }

-- ---- two halves, the second M minutes later: M is at least the end of the first plus each handover
module _ (J : Job) (halfway goal M : ℕ) (A B : List Step) (lasting_a : Lasting A) (lasting_b : Lasting B)
    (a : AcceptedSteps J halfway A) (b : AcceptedSteps (afternoon J A) goal B)
    (late : end A ≤ M) (free_by : (pool : ℕ) → pool < length J.pools → end A + handover J pool ≤ M) where
  abbrev day : List Step
  day = A ++ map (later_by M) B

  stops_by : EachStep (λ x. x.stop ≤ M) A
  stops_by x Q i = let l = largest_at_least (λ y. y.stop) i in omega arith

  starts_from : EachStep (λ y. M ≤ y.start) (map (later_by M) B)
  starts_from = each_map (λ y. M ≤ y.start) (later_by M) B (λ x Q i. omega arith)

  -- at the offset the facts are those that the first half leaves
  held_later : (t : ℕ) → held J.start day (M + t) ≡ held (afternoon J A).start B t
  held_later t =
      held_in_second J.start M A B stops_by lasting_b t
      ∙ ap (λ (S : ℕ). held S B t) (held_after_end J.start A M late)

  joined_rising : strictly_rising day ≡ true
  joined_rising =
      rising_append A (map (later_by M) B) a.rising (rising_later M B b.rising)
      (λ x Q i y R j.
      let l = lasting_a x Q i in
      let s = stops_by x Q i in
      let m = starts_from y R j in
      before_when x y (inl (omega arith)))

  joined_no_clash : any_pair clashing day ≡ false
  joined_no_clash =
      no_clash_append A (map (later_by M) B) a.no_clash (no_clash_later M B b.no_clash)
      (λ x Q i y R j.
      let s = stops_by x Q i in let m = starts_from y R j in not_clashing x y (λ p q. absurd (omega arith)))

  joined_pools : (pool t : ℕ) → pool < length J.pools → in_use J pool t day ≤ get_or J.pools pool 0
  joined_pools pool t l =
      let f = free_by pool l in
      joined_in_use J pool M A B
      (λ x Q i. let s = largest_at_least (λ y. y.stop) i in omega arith)
      (get_or J.pools pool 0) (λ m. a.pools pool m l) (λ m. pools_in_afternoon J goal A B b pool m l) t

  joined_stores : (store : ℕ) → store < length J.stores → used_up J store day ≤ store_cap J store
  joined_stores store l =
      let sum = total_append (store_use J store) A (map (later_by M) B) in
      let same = used_later J store M B in
      let p = a.stores store l in
      let q = stores_in_afternoon J goal A B b store l in
      omega arith

  joined_needs : EachStep (λ x. Subset x.action.needs (held J.start day x.start)) day
  joined_needs =
      each_append (λ x. Subset x.action.needs (held J.start day x.start)) A (map (later_by M) B)
      (λ x Q i n h.
      let l = lasting_a x Q i in
      let s = stops_by x Q i in
      ap (λ (set : ℕ). has set n) (held_in_first J.start M A B stops_by lasting_b x.start (omega arith))
      ∙ a.needs_hold x Q i n h)
      (each_map (λ x. Subset x.action.needs (held J.start day x.start)) (later_by M) B
      (λ x Q i n h. ap (λ (set : ℕ). has set n) (held_later x.start) ∙ b.needs_hold x Q i n h))

  joined_steps_lem : end day ≤ J.deadline → end day ≡ M + end B → AcceptedSteps J goal day
  joined_steps_lem early ends =
      record {
        known = each_append (λ x. x.number < length J.actions) A (map (later_by M) B) a.known
            (each_map (λ x. x.number < length J.actions) (later_by M) B b.known);
        rising = joined_rising;
        before_deadline = λ x Q i. let l = largest_at_least (λ y. y.stop) i in omega arith;
        no_clash = joined_no_clash;
        pools = joined_pools;
        stores = joined_stores;
        needs_hold = joined_needs;
        goal_holds = λ n h.
            ap (λ (t : ℕ). has (held J.start day t) n) ends
            ∙ ap (λ (set : ℕ). has set n) (held_later (end B)) ∙ b.goal_holds n h;
      }

joined_accepted : (J : Job) (halfway goal : ℕ) (A B : List Step) → Lasting A → Lasting B → AcceptedSteps J halfway A
    → AcceptedSteps (afternoon J A) goal B → too_long J (join_steps (largest_handover J) A B) ≡ false
    → AcceptedSteps J goal (join_steps (largest_handover J) A B)
unfolding join_steps
joined_accepted J halfway goal [] B lasting_a lasting_b a b short = first_empty J goal B b
joined_accepted J halfway goal (x ∷ A) [] lasting_a lasting_b a b short = second_empty J halfway goal (x ∷ A) a b
joined_accepted J halfway goal (x ∷ A) (y ∷ B) lasting_a lasting_b a b short =
    let h = largest_handover J in
    joined_steps_lem J halfway goal (end (x ∷ A) + h) (x ∷ A) (y ∷ B) lasting_a lasting_b a b (omega arith)
    (λ pool l. let m = handover_at_most J pool l in omega arith)
    (ends_unless_too_long J (join_steps h (x ∷ A) (y ∷ B)) short) (end_joined h x y A B)

-- the two halves joined pass tests 13 to 20
pub joined_keeps : (J : Job) (halfway goal : ℕ) (A B : List Step) → Lasting A → Lasting B
    → first (step_rows J halfway A) ≡ pass → first (step_rows (afternoon J A) goal B) ≡ pass
    → too_long J (join_steps (largest_handover J) A B) ≡ false
    → first (step_rows J goal (join_steps (largest_handover J) A B)) ≡ pass
joined_keeps J halfway goal A B lasting_a lasting_b first second short =
    steps_accepted J goal (join_steps (largest_handover J) A B)
    (joined_accepted J halfway goal A B lasting_a lasting_b (accepted_steps J halfway A first)
    (accepted_steps (afternoon J A) goal B second) short)
