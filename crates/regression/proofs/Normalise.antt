-- Every plan has a normal form: steps are dropped and started later, until each adds a critical fact and is blocked.
-- Assumes nothing.
use Prim.Native.Nat.{ℕ, zero, suc, ◌-◌, ◌<◌, ◌≤◌}
use mathlib.Core.Path.{◌≡◌}
use mathlib.Core.Bool.{Bool, true, false, not}
use mathlib.Core.Logic.{⊎_elim}
use mathlib.Core.List.{List, ◌∷◌, ◌++◌}
use native.Mathlib.Omega.{arith}
use lib.ListN.{length}
use borrow.Author.Tests.{not-true, not-false}
use Rattle.lists.specs.Lists.{any}
use Rattle.job.specs.Job.{Job}
use Rattle.timeline.specs.Step.{Step, total}
use Rattle.timeline.specs.Places.{Place, here, EachStep}
use Rattle.timeline.specs.Keeps.{Keeps}
use Rattle.timeline.proofs.Tests.{decided}
use Rattle.timeline.proofs.Places.{place_append, length_place, each_cons, each_wider}
use Rattle.timeline.proofs.Places.{find_any, none_of_any, total_place}
use Rattle.timeline.proofs.Shift.{later}
use Rattle.regression.specs.Normal.{critical, blocked}
use Rattle.regression.proofs.CriticalFacts.{drop_when_nothing_critical}
use Rattle.regression.proofs.BlockedSteps.{shift_when_free}

-- A normal form of the plan P beside the kept steps K: a plan of no more steps, all of which are X, from which no step
-- but a kept one can be dropped, or started a minute later.
pub record NormalForm (J : Job) (goal T : ℕ) (K : List Step) (X : Step → Type 0) (P : List Step) : Type 0 where
  pub steps : List Step
  pub keeps : Keeps J T goal (steps ++ K)
  pub critical_facts : EachStep (λ x. critical J goal T (steps ++ K) x ≡ true) steps
  pub blocked_steps : EachStep (λ x. blocked J T (steps ++ K) x ≡ true) steps
  pub each : EachStep X steps
  pub no_more : length steps ≤ length P

module _ (J : Job) (goal T : ℕ) (K : List Step) (X : Step → Type 0) (moves : (x : Step) → X x → X (later x)) where
  form_of_more : (P R : List Step) → length P ≤ length R → NormalForm J goal T K X P → NormalForm J goal T K X R
  form_of_more P R l f =
      let m = f.no_more in
      record {
        steps = f.steps;
        keeps = f.keeps;
        critical_facts = f.critical_facts;
        blocked_steps = f.blocked_steps;
        each = f.each;
        no_more = omega arith;
      }

  -- what falls whenever a step is dropped, or started later
  abbrev slack : List Step → ℕ
  slack P = total (λ x. suc T - x.stop) P

  abbrev can_drop : List Step → Step → Bool
  can_drop P x = not (critical J goal T (P ++ K) x)

  abbrev can_move : List Step → Step → Bool
  can_move P x = not (blocked J T (P ++ K) x)

  -- what is wanted of every plan with less slack
  abbrev Smaller : List Step → Type 0
  Smaller P =
      (R : List Step) → slack R < slack P → Keeps J T goal (R ++ K) → EachStep X R → NormalForm J goal T K X R

  module _ (P : List Step) (keeps : Keeps J T goal (P ++ K)) (each : EachStep X P) (smaller : Smaller P) where
    dropped : (x : Step) (Q : List Step) → Place x Q P → critical J goal T (P ++ K) x ≡ false
        → NormalForm J goal T K X P
    dropped x Q i h =
        let in_plan = place_append K i in
        let in_time = keeps.in_time x (Q ++ K) in_plan in
        let fewer = length_place i in
        let less = total_place (λ y. suc T - y.stop) i in
        form_of_more Q P (omega arith)
        (smaller Q (omega arith) (drop_when_nothing_critical J goal T in_plan keeps h) (each_wider X i each))

    moved : (x : Step) (Q : List Step) → Place x Q P → blocked J T (P ++ K) x ≡ false → NormalForm J goal T K X P
    moved x Q i h =
        let after = shift_when_free J goal T (place_append K i) keeps h in
        let in_time = after.in_time (later x) (Q ++ K) here in
        let same = length_place i in
        let less = total_place (λ y. suc T - y.stop) i in
        form_of_more (later x ∷ Q) P (omega arith)
        (smaller (later x ∷ Q) (omega arith) after
        (each_cons X (later x) Q (moves x (each x Q i)) (each_wider X i each)))

    one_change : NormalForm J goal T K X P
    one_change =
        ⊎_elim (λ e. let r = find_any (can_drop P) P e in dropped r.0 r.1 r.2 (not-true _ r.3))
        (λ none.
        ⊎_elim (λ e. let r = find_any (can_move P) P e in moved r.0 r.1 r.2 (not-true _ r.3))
        (λ still.
        record {
          steps = P;
          keeps = keeps;
          critical_facts = λ x Q i. not-false _ (none_of_any (can_drop P) P none x Q i);
          blocked_steps = λ x Q i. not-false _ (none_of_any (can_move P) P still x Q i);
          each = each;
          no_more = omega arith;
        })
        (decided (any (can_move P) P)))
        (decided (any (can_drop P) P))

  -- by induction on the slack
  within : (fuel : ℕ) (P : List Step) → slack P < fuel → Keeps J T goal (P ++ K) → EachStep X P
      → NormalForm J goal T K X P
  within zero P l keeps each = absurd (omega arith)
  within (suc fuel) P l keeps each = one_change P keeps each (λ R less. within fuel R (omega arith))

  pub normalise : (P : List Step) → Keeps J T goal (P ++ K) → EachStep X P → NormalForm J goal T K X P
  normalise P = within (suc (slack P)) P (omega arith)
