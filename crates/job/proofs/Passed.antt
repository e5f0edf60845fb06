-- What a job that passes tests 3 to 11, 27, 29 and 31 is like.
-- Assumes nothing.
use Prim.Native.Nat.{ℕ, ◌≤◌, ◌<◌}
use mathlib.Core.Path.{◌≡◌}
use mathlib.Core.Bool.{Bool, false, ◌||◌}
use mathlib.Core.List.{List, [], ◌∷◌, ◌++◌}
use native.Mathlib.Omega.{arith}
use lib.Dec.{eqb}
use lib.ListN.{length}
use borrow.Author.Tests.{ltb-false, eqb-false}
use Rattle.lists.specs.Lists.{any, Each}
use Rattle.lists.proofs.Any.{any_append, any_none}
use Rattle.lists.proofs.Below.{below_none}
use Rattle.lists.proofs.Bools.{or_left, or_right}
use Rattle.lists.proofs.Tabulate.{each_map}
use Rattle.facts.specs.FactSet.{foreign}
use Rattle.facts.proofs.Membership.{within_word}
use Rattle.job.specs.Refusal.{pass}
use Rattle.job.specs.Job.{Action, Job, job_value}
use Rattle.job.specs.Refusal.{first}
use Rattle.job.specs.Lengths.{longest_of, shortest_of}
use Rattle.job.specs.Valid.{ActionRule, Duration, Facts, Effects, Uses, over, breaks, has_wrong_range}
use Rattle.job.specs.Valid.{action_rows, limit_rows, job_rows}
use Rattle.job.specs.Passed.{Amounts, WithinFacts, PassedAction, Passed}
use Rattle.job.proofs.Table.{first_pass}
use Rattle.job.proofs.Rows.{fits_of_counts, limits_of_pass}

within_facts : (facts set : ℕ) → facts ≤ 64 → foreign facts set ≡ false → WithinFacts facts set
within_facts facts set l h = record { within = h; word = within_word facts set h l }

amounts : (xs : List ℕ) → any (over 1000000) xs ≡ false → Amounts xs
amounts xs h = each_map (λ x e. ltb-false 1000000 x e) xs (any_none (over 1000000) xs h)

-- of two lists one after the other
both_amounts : (xs ys : List ℕ) → any (over 1000000) (xs ++ ys) ≡ false → Amounts xs × Amounts ys
both_amounts xs ys h =
    let x = any (over 1000000) xs in
    let y = any (over 1000000) ys in
    let e : (x || y) ≡ false = rw (any_append (over 1000000) xs ys) at h in
    (amounts xs (or_left x y e), amounts ys (or_right x y e))

passed_action : (facts : ℕ) → facts ≤ 64 → (a : Action) → ((rule : ActionRule) → breaks rule facts a ≡ false)
    → PassedAction facts a
passed_action facts l a h =
    let n = foreign facts a.needs in
    let d = foreign facts a.adds in
    let e = foreign facts a.deletes in
    let nd = or_left (n || d) e (h Facts) in
    let uses = both_amounts a.pools a.stores (h Uses) in
    let none = eqb-false a.duration 0 (h Duration) in
    record {
      duration = omega arith;
      needs = within_facts facts a.needs l (or_left n d nd);
      adds = within_facts facts a.adds l (or_right n d nd);
      deletes = within_facts facts a.deletes l (or_right (n || d) e (h Facts));
      effects = h Effects;
      pools = uses.0;
      stores = uses.1;
    }

passed_actions : (facts : ℕ) → facts ≤ 64 → (actions : List Action)
    → ((rule : ActionRule) → Each (λ a. breaks rule facts a ≡ false) actions) → Each (PassedAction facts) actions
passed_actions facts l [] h = tt
passed_actions facts l (a ∷ actions) h =
    (passed_action facts l a (λ rule. (h rule).0), passed_actions facts l actions (λ rule. (h rule).1))

abbrev any_breaks : Job → ActionRule → Bool
any_breaks J rule = any (breaks rule J.facts) J.actions

-- one answer for each rule
rules : (broken : ActionRule → Bool) → broken Duration ≡ false → broken Facts ≡ false → broken Effects ≡ false
    → broken Uses ≡ false → (rule : ActionRule) → broken rule ≡ false
rules broken d f e u Duration = d
rules broken d f e u Facts = f
rules broken d f e u Effects = e
rules broken d f e u Uses = u

right_range : (J : Job) (i : ℕ) → has_wrong_range J i ≡ false → (0 < shortest_of J i) × (shortest_of J i ≤ longest_of J i)
right_range J i h =
    let zero = eqb (shortest_of J i) 0 in
    let none = eqb-false (shortest_of J i) 0 (or_left zero _ h) in
    (omega arith, ltb-false (longest_of J i) (shortest_of J i) (or_right zero _ h))

-- what the limits say of a job; test 26 adds nothing to it
pub within_limits : (J : Job) → first (limit_rows J) ≡ pass → Passed J
unfolding limit_rows action_rows
within_limits J h =
    let t3 = first_pass _ _ _ h in
    let t4 = first_pass _ _ _ t3.1 in
    let t5 = first_pass _ _ _ t4.1 in
    let t31 = first_pass _ _ _ t5.1 in
    let t6 = first_pass _ _ _ t31.1 in
    let t7 = first_pass _ _ _ t6.1 in
    let t27 = first_pass _ _ _ t7.1 in
    let t8 = first_pass _ _ _ t27.1 in
    let t29 = first_pass _ _ _ t8.1 in
    let t9 = first_pass _ _ _ t29.1 in
    let t10 = first_pass _ _ _ t9.1 in
    let t11 = first_pass _ _ _ t10.1 in
    let counts = fits_of_counts (job_value J).counts t3.0 in
    let few : J.facts ≤ 64 = ltb-false 64 J.facts t4.0 in
    let s = foreign J.facts J.start in
    let g = foreign J.facts J.goal in
    let available = both_amounts J.pools J.stores t7.0 in
    let kept = rules (any_breaks J) t8.0 t9.0 t10.0 t11.0 in
    record {
      few_pools = counts.0;
      few_stores = counts.1;
      few_actions = counts.2;
      facts = few;
      deadline = ltb-false 1440 J.deadline t5.0;
      reserve = ltb-false 50 J.reserve t31.0;
      start = within_facts J.facts J.start few (or_left s g t6.0);
      goal = within_facts J.facts J.goal few (or_right s g t6.0);
      pools = available.0;
      stores = available.1;
      handovers = each_map (λ x e. ltb-false 30 x e) J.handovers (any_none (over 30) J.handovers t27.0);
      actions = passed_actions J.facts few J.actions
          (λ rule. any_none (breaks rule J.facts) J.actions (kept rule));
      ranges = λ i l. right_range J i (below_none (length J.actions) (has_wrong_range J) t29.0 i l);
    }

pub passed : (J : Job) → first (job_rows J) ≡ pass → Passed J
passed J h = within_limits J (limits_of_pass J h)
