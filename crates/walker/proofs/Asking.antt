-- What the tests of a beginning say, where they say no: no listed plan begins so.
-- Assumes nothing.
use Rattle.std.specs.Prelude.{Option, Some, None, is_some}
use Rattle.search.proofs.Counted.{none_of, some_of}
use Prim.Native.Nat.{ℕ, ◌<◌, ◌≤◌}
use mathlib.Core.Path.{◌≡◌, subst}
use mathlib.Core.Bool.{true, false, cond, ◌&&◌}
use mathlib.Core.List.{List, ◌++◌}
use native.Mathlib.Omega.{arith}
use lib.ListN.{get_or}
use lib.Dec.{leb, ltb}
use borrow.Author.Tests.{not-true, lt-ltb, le-leb}
use Rattle.facts.specs.FactSet.{foreign, Subset}
use Rattle.facts.proofs.Membership.{has_zero, foreign_decides}
use Rattle.job.specs.Job.{Job}
use Rattle.timeline.specs.Step.{Step, strictly_rising}
use Rattle.timeline.specs.Places.{EachStep}
use Rattle.timeline.specs.Keeps.{PlanOf}
use Rattle.timeline.proofs.Tests.{and_both}
use Rattle.timeline.proofs.Permutations.{permutation_sym, plan_permuted}
use Rattle.regression.specs.Wanted.{added_between}
use Rattle.regression.proofs.Gathered.{in_cond, in_union_of}
use Rattle.tables.specs.Tables.{Describes, DescribesEach, chosen}
use Rattle.tables.specs.declared.Frame.{Frame}
use Rattle.tables.specs.declared.Steps.{Steps}
use Rattle.leaf.specs.declared.Answer.{Answer}
use Rattle.leaf.specs.Answer.{Finishes}
use Rattle.leaf.specs.Order.{in_order}
use Rattle.leaf.proofs.InOrder.{in_order_permutes, each_chosen}
use Rattle.search.specs.Horizons.{Whole, Solves}
use Rattle.listing.proofs.ListedPlans.{listed_by_steps}
use Rattle.listing.proofs.Prefixes.{plan_of_first_steps}
use Rattle.walker.specs.Walk.{for_rules, behind, Kept, RulesAllow}
use Rattle.walker.specs.Walk.{SearchAllows}
use Rattle.walker.proofs.Leaves.{no_plan_when_none}
use Rattle.walker.proofs.Behind.{task_behind, none_begins_by_search}

-- no fact is foreign in the empty set
foreign_of_nothing : (facts : ℕ) → foreign facts 0 ≡ false
foreign_of_nothing facts = not-true _ ((foreign_decides facts 0).complete (λ n h. has_zero n))

pub rules_refuse : (file : List ℕ) (frame : Frame) (steps : Steps) (r : Option Answer) (f : Frame) → f ≡ for_rules frame
    → Finishes file f steps r → RulesAllow file frame steps (is_some r)
rules_refuse file frame steps r f is finishes e J asked kept P listed begins =
    let of_rules = subst (λ (g : Frame). Finishes file g steps r) is finishes in
    let T = frame.horizon in
    let by = listed_by_steps J frame.goal T asked.passed asked.shortest P listed in
    let N : List Step = begins.0 in
    let K : List Step = in_order J steps in
    let plan : PlanOf J T frame.goal (K ++ N) = subst (PlanOf J T frame.goal) begins.1 by.plan in
    let rising : strictly_rising (K ++ N) ≡ true
    = subst (λ (Q : List Step). strictly_rising Q ≡ true) begins.1 by.rising in
    no_plan_when_none J file (for_rules frame) asked.in_file asked.actions asked.passed steps
    (record { known = kept.known; starts = kept.starts }) r of_rules (foreign_of_nothing J.facts) asked.in_time (none_of r e)
    (plan_permuted J T 0 (permutation_sym (in_order_permutes J steps))
    (plan_of_first_steps J T frame.goal K N plan rising))

-- ---- the search
module _ (J : Job) (sets numbers : List ℕ) (frame : Frame) (described : Describes J sets numbers frame) (steps : Steps)
    (kept : Kept frame steps) where
  -- every step stops after minute 0 and by minute 66,000
  all_between : EachStep (λ x. (0 < x.stop) × (x.stop ≤ 66000)) (chosen J steps)
  all_between =
      each_chosen (λ x. (0 < x.stop) × (x.stop ≤ 66000)) J steps steps.count
      (λ k l.
      let d = described.each (get_or steps.numbers k 0) (kept.known.known k l) in
      let a = d.positive in
      let b = d.byte in
      let s = kept.starts k l in
      (omega arith, omega arith))

  pub all_given : (given : ℕ) → given ≡ added_between 0 66000 (chosen J steps)
      → EachStep (λ x. Subset x.action.adds given) (chosen J steps)
  all_given given e x Q i n h =
      let b = all_between x Q i in
      rw e
      (in_union_of (λ y. cond (ltb 0 y.stop && leb y.stop 66000) y.action.adds 0) n i
      (in_cond (ltb 0 x.stop && leb x.stop 66000) x.action.adds n
      (and_both (lt-ltb 0 x.stop b.0) (le-leb x.stop 66000 b.1)) h))

pub whole_behind : (sets numbers times : List ℕ) (frame : Frame) (steps : Steps) → Kept frame steps
    → Whole sets numbers times frame → frame.origin ≡ 0 → (given start number : ℕ)
    → Whole sets numbers times (behind frame steps given start number)
whole_behind sets numbers times frame steps kept whole origin given start number =
    record {
      lent = whole.lent;
      time_count = whole.time_count;
      facts = whole.facts;
      pools = whole.pools;
      stores = whole.stores;
      horizon = whole.horizon;
      kept = kept.known;
      starts = kept.starts;
      origin = omega arith;
    }

pub search_refuses : (file sets numbers times : List ℕ) (frame : Frame) (steps : Steps) → Kept frame steps
    → (given start number : ℕ)
    → ((J : Job) → DescribesEach J sets numbers frame.actions → given ≡ added_between 0 66000 (chosen J steps))
    → (r : Option Answer) (f : Frame) → f ≡ behind frame steps given start number → Solves file sets numbers times f r
    → SearchAllows file sets numbers times frame steps start number (is_some r)
search_refuses file sets numbers times frame steps kept given start number gone r f is solves e J day rising ends =
    let of_behind = subst (λ (g : Frame). Solves file sets numbers times g r) is solves in
    let described = day.task.described in
    let adds = all_given J sets numbers frame described steps kept given (gone J described.each) in
    none_begins_by_search J file sets numbers times frame day steps given start number
    (of_behind.none (none_of r e) J (task_behind J file sets numbers times frame day steps given start number adds)
    day.asked.passed)
    rising ends
