-- The bounds of the least horizon: what a search for one horizon says of them.
-- Assumes nothing.
use Rattle.std.specs.Prelude.{Option, Some, None, is_some}
use Prim.Native.Nat.{ℕ, ◌+◌, ◌<◌, ◌≤◌, min, max}
use mathlib.Core.Path.{◌≡◌, sym, ap, subst}
use mathlib.Core.Bool.{true, false}
use mathlib.Core.Logic.{⊎_elim}
use mathlib.Core.List.{List}
use native.Mathlib.Nat.{le_refl}
use native.Mathlib.Omega.{arith}
use Rattle.job.specs.Job.{Job}
use Rattle.job.specs.Passed.{Passed}
use Rattle.timeline.specs.Step.{Step, steps_in}
use Rattle.timeline.specs.Timeline.{end}
use Rattle.timeline.specs.Accepted.{Accepted}
use Rattle.timeline.specs.Places.{EachStep}
use Rattle.timeline.proofs.Tests.{not_both}
use Rattle.timeline.proofs.Places.{append_cases, place_after, largest_at_least, largest_at_most}
use Rattle.timeline.proofs.Permutations.{permutation_sym, permutation_member, plan_permuted}
use Rattle.timeline.proofs.NewSteps.{new_from_minute}
use Rattle.times.proofs.PlanSteps.{plan_of_accepted}
use Rattle.earliest.specs.Numbers.{set_number, SameTime}
use Rattle.makespan.proofs.LeastEnds.{ends_by_deadline}
use Rattle.tables.specs.Tables.{kept_of, from_of}
use Rattle.tables.specs.declared.Frame.{Frame}
use Rattle.leaf.specs.declared.Answer.{Answer}
use Rattle.leaf.specs.Answer.{bytes_in}
use Rattle.search.specs.Search.{TaskOf, CountsFor, FoundFor}
use Rattle.search.specs.Horizons.{until, Whole, NoneBefore, NoneBy, Solves, Shortest, Raised, FoundBy}
use Rattle.search.proofs.Counted.{split_of_counted}

-- ---- another horizon
module _ (file sets numbers times : List ℕ) (frame : Frame) (T : ℕ) (within : T ≤ frame.horizon) where
  pub whole_until : Whole sets numbers times frame → Whole sets numbers times (until frame T)
  whole_until whole =
      let horizon = whole.horizon in
      record {
        lent = whole.lent;
        time_count = whole.time_count;
        facts = whole.facts;
        pools = whole.pools;
        stores = whole.stores;
        horizon = omega arith;
        kept = whole.kept;
        starts = whole.starts;
        origin = whole.origin;
      }

  task_until : (J : Job) → TaskOf J file sets numbers times frame → TaskOf J file sets numbers times (until frame T)
  task_until J task =
      let in_time = task.described.in_time in
      record {
        in_file = task.in_file;
        described = record {
          facts = task.described.facts;
          actions = task.described.actions;
          pools = task.described.pools;
          stores = task.described.stores;
          available = task.described.available;
          stocks = task.described.stocks;
          handovers = task.described.handovers;
          in_time = omega arith;
          each = task.described.each;
        };
        timely = task.timely;
        goal = task.goal;
        marked = record {
          hand = task.marked.hand;
          landmarks = task.marked.landmarks;
          stores = task.marked.stores;
          pools = task.marked.pools;
          steps = task.marked.steps;
          opens = task.marked.opens;
          cliques = task.marked.cliques;
        };
      }

  module _ (r : Option Answer) (solves : Solves file sets numbers times (until frame T) r) where
    -- a plan by T is one by the frame's horizon
    pub found_by_horizon : (a : Answer) → r ≡ Some a → FoundBy file sets numbers times frame a
    found_by_horizon a e J task passed =
        let found = solves.found a e J task.in_file task.described.actions in
        let f = found.plan in
        let in_time = f.in_time in
        record {
          plan = record {
            few = f.few;
            whole = f.whole;
            accepted = f.accepted;
            end = f.end;
            peaks = f.peaks;
            in_time = omega arith;
          };
          new = found.new;
          same = found.same;
          after = found.after;
        }

    pub found_in_time : (a : Answer) → r ≡ Some a → (J : Job) → TaskOf J file sets numbers times frame → a.end ≤ T
    found_in_time a e J task = (solves.found a e J task.in_file task.described.actions).plan.in_time

    -- no plan by T: none ends before the minute after
    pub raised_past : r ≡ None → (from : ℕ) → Raised file sets numbers times frame from (T + 1)
    raised_past e from J task passed before bytes accepted counts =
        let later = solves.none e J (task_until J task) passed bytes accepted counts in omega arith

-- ---- lower bounds
-- where no plan ends by the first free minute, none ends before the earliest time of the goal
pub none_before_goal : (J : Job) (file sets numbers times : List ℕ) (frame : Frame)
    → TaskOf J file sets numbers times frame → Passed J → NoneBefore J frame (frame.first + 1)
    → NoneBefore J frame (set_number times frame.goal frame.facts + frame.origin)
none_before_goal J file sets numbers times frame task passed after bytes accepted counts =
    let last : ℕ = end (steps_in J bytes) in
    let begun = after bytes accepted counts in
    let late : frame.first ≤ last = omega arith in
    let split = split_of_counted J frame bytes accepted counts in
    let plan = plan_permuted J last frame.goal (permutation_sym split.same)
    (plan_of_accepted J frame.goal bytes last passed accepted (le_refl last)) in
    let by = (task.timely last frame.goal late split.new
    (λ x Q i. new_from_minute (from_of frame) x (split.after x Q i)) plan frame.goal last late
    plan.keeps.goal_holds).0 in
    let facts = ap (set_number times frame.goal) task.described.facts in
    omega arith

-- a time beyond all horizons is no bound that a plan could keep
pub raised_to_goal : (file sets numbers times : List ℕ) (frame : Frame) (time : ℕ)
    → SameTime time (set_number times frame.goal frame.facts) → 530400 < time
    → Raised file sets numbers times frame (frame.first + 1) time
raised_to_goal file sets numbers times frame time same late J task passed after bytes accepted counts =
    let bound = none_before_goal J file sets numbers times frame task passed after bytes accepted counts in
    let in_time = ends_by_deadline J frame.goal bytes accepted in
    let deadline = passed.deadline in
    ⊎_elim (λ e. omega arith) (λ never. let n = never.1 in absurd (omega arith)) same

pub raised_to_lowest : (file sets numbers times : List ℕ) (frame : Frame) (time low : ℕ)
    → SameTime time (set_number times frame.goal frame.facts) → time ≤ 530400
    → low ≡ max (time + frame.origin) (frame.first + 1)
    → Raised file sets numbers times frame (frame.first + 1) low
raised_to_lowest file sets numbers times frame time low same early is J task passed after bytes accepted counts =
    let bound = none_before_goal J file sets numbers times frame task passed after bytes accepted counts in
    let begun = after bytes accepted counts in
    ⊎_elim (λ e. omega arith) (λ never. let n = never.0 in absurd (omega arith)) same

-- ---- the kept steps alone
-- a kept step stops by the end of every plan that counts
kept_stop : (J : Job) (frame : Frame) (bytes : List ℕ) → Accepted J frame.goal bytes → CountsFor J frame bytes
    → EachStep (λ x. x.stop ≤ end (steps_in J bytes)) (kept_of J frame)
kept_stop J frame bytes accepted counts x Q i =
    let split = split_of_counted J frame bytes accepted counts in
    let m = permutation_member (permutation_sym split.same) (place_after split.new i) in
    largest_at_least (λ y. y.stop) m.1

-- a plan that ends by the first free minute has no other steps, so no plan that counts ends earlier
pub least_when_begun : (J : Job) (frame : Frame) (r : Answer) → Passed J → FoundFor J frame r → r.end ≤ frame.first
    → NoneBefore J frame r.end
least_when_begun J frame r passed found early bytes accepted counts =
    let P : List Step = steps_in J (bytes_in r) in
    let last = found.plan.end in
    let plan = plan_of_accepted J frame.goal (bytes_in r) (end P) passed found.plan.accepted (le_refl (end P)) in
    let most = largest_at_most (λ x. x.stop) (end (steps_in J bytes)) P
    (λ x Q i.
    let m = permutation_member found.same i in
    ⊎_elim
    (λ n.
    let a = new_from_minute (from_of frame) x (found.after x n.0 n.1) in
    let b = plan.keeps.lasting x Q i in
    let c = plan.keeps.in_time x Q i in
    absurd (omega arith))
    (λ k. kept_stop J frame bytes accepted counts x k.0 k.1)
    (append_cases found.new (kept_of J frame) m.1)) in
    omega arith

-- begun is the frame up to the first free minute, or to the horizon where that is earlier
module _ (file sets numbers times : List ℕ) (frame : Frame) (T : ℕ) (is : T ≡ min frame.first frame.horizon)
    (begun : Frame) (same : begun ≡ until frame T) where
  within : T ≤ frame.horizon
  within = omega arith

  pub whole_when_begun : Whole sets numbers times frame → Whole sets numbers times begun
  whole_when_begun whole =
      subst (Whole sets numbers times) (sym same) (whole_until file sets numbers times frame T within whole)

  module _ (r : Option Answer) (answer : Solves file sets numbers times begun r) where
    solves : Solves file sets numbers times (until frame T) r
    solves = subst (λ (f : Frame). Solves file sets numbers times f r) same answer

    pub shortest_when_begun : is_some r ≡ true → Shortest file sets numbers times frame r
    shortest_when_begun e =
        record {
          found = λ a f J task passed.
              let found = found_by_horizon file sets numbers times frame T within r solves a f J task passed in
              let early = found_in_time file sets numbers times frame T within r solves a f J task in
              (found, least_when_begun J frame a passed found (omega arith));
          none = λ n. let z = rw n at e in cc;
        }

    none_by_then : r ≡ None → (J : Job) → TaskOf J file sets numbers times frame → Passed J
        → NoneBefore J frame (T + 1)
    none_by_then e J task passed =
        raised_past file sets numbers times frame T within r solves e 0 J task passed (λ bytes a c. omega arith)

    pub none_by_first : r ≡ None → frame.first < frame.horizon → (J : Job)
        → TaskOf J file sets numbers times frame → Passed J → NoneBefore J frame (frame.first + 1)
    none_by_first e later J task passed =
        λ bytes accepted counts. let begun = none_by_then e J task passed bytes accepted counts in omega arith

    pub none_when_no_minute_is_free : r ≡ None → frame.horizon ≤ frame.first → (J : Job)
        → TaskOf J file sets numbers times frame → Passed J → NoneBy J frame
    none_when_no_minute_is_free e early J task passed =
        λ bytes accepted counts. let begun = none_by_then e J task passed bytes accepted counts in omega arith
