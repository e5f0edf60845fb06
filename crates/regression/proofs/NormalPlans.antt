-- Normal plans: one for every plan of the job, the same in every order, and accepted in rising order.
-- Assumes nothing.
use Prim.Native.Nat.{ℕ, suc, ◌+◌, ◌<◌, ◌≤◌}
use mathlib.Core.Path.{◌≡◌, ap, ◌∙◌}
use mathlib.Core.Bool.{true, false}
use mathlib.Core.Logic.{⊎_elim}
use mathlib.Core.List.{List, ◌++◌}
use native.Mathlib.Omega.{arith}
use lib.ListN.{length, length-append}
use Rattle.lists.proofs.Tabulate.{each_at}
use Rattle.facts.specs.FactSet.{meets}
use Rattle.job.specs.Job.{Job, no_action}
use Rattle.job.specs.Refusal.{first}
use Rattle.job.specs.Passed.{Passed, PassedAction}
use Rattle.job.specs.Refusal.{pass}
use Rattle.timeline.specs.Step.{Step, strictly_rising}
use Rattle.timeline.specs.From.{From, IsNew, IsKept}
use Rattle.timeline.specs.Timeline.{end}
use Rattle.timeline.specs.Accepted.{step_rows}
use Rattle.timeline.specs.Places.{EachStep, Permutation}
use Rattle.timeline.specs.Keeps.{OfJob, PlanOf}
use Rattle.timeline.proofs.Places.{append_cases, place_append, place_after}
use Rattle.timeline.proofs.Clashes.{no_clash_of_test}
use Rattle.timeline.proofs.Keeps.{accepted_of_keeps}
use Rattle.timeline.proofs.Shift.{later}
use Rattle.timeline.proofs.NewSteps.{not_new_and_kept, new_later}
use Rattle.timeline.proofs.Permutations.{permutation_member, permutation_each, permutation_length}
use Rattle.timeline.proofs.Permutations.{permutation_keeps}
use Rattle.timeline.proofs.Rising.{AllApart}
use Rattle.timeline.proofs.Sorting.{apart_of_no_clash}
use Rattle.times.specs.Earliest.{action_of}
use Rattle.regression.specs.DeadEnd.{NormalPlan}
use Rattle.regression.proofs.Normalise.{NormalForm, normalise}
use Rattle.regression.proofs.Reordered.{permutation_critical, permutation_blocked}

each_append : (X : Step → Type 0) (P K : List Step) → EachStep X P → EachStep X K → EachStep X (P ++ K)
each_append X P K p k x Q i =
    ⊎_elim (λ r. p x r.0 r.1) (λ r. k x r.0 r.1) (append_cases P K i)

each_right : (X : Step → Type 0) (P K : List Step) → EachStep X (P ++ K) → EachStep X K
each_right X P K h x Q i = h x (P ++ Q) (place_after P i)

-- what holds of each step of P holds of each new step, where those of K are kept ones
each_new : (b : From) (X : Step → Type 0) (P K : List Step) → EachStep (IsKept b) K → EachStep X P
    → EachStep (λ x. IsNew b x → X x) (P ++ K)
each_new b X P K kept h =
    each_append (λ x. IsNew b x → X x) P K (λ x Q i new. h x Q i)
    (λ x Q i new. absurd (not_new_and_kept b x new (kept x Q i)))

-- ---- every plan of the job has a normal one
-- a new step of an action of the job
abbrev NewStep : Job → From → Step → Type 0
NewStep J b x = OfJob J x × (x.number < length J.actions) × IsNew b x

pub own_later : (J : Job) (x : Step) → OfJob J x → OfJob J (later x)
own_later J x own =
    let d = (action_of J x.number).duration in
    let e : suc (x.start + d) ≡ suc x.start + d = omega arith in
    ap later own
    ∙ ap {B = Step}
    (λ m. record { number = x.number; action = action_of J x.number; start = suc x.start; stop = m }) e

new_step_later : (J : Job) (b : From) (x : Step) → NewStep J b x → NewStep J b (later x)
new_step_later J b x new = (own_later J x new.0, new.1, new_later b x new.2)

-- no action of a job that passes its tests adds what it deletes
pub own_effects : (J : Job) → Passed J → (x : Step) → OfJob J x → x.number < length J.actions
    → meets x.action.adds x.action.deletes ≡ false
own_effects J passed x own known =
    let a = each_at (PassedAction J.facts) J.actions no_action passed.actions x.number known in
    ap (λ (y : Step). meets y.action.adds y.action.deletes) own ∙ a.effects

module _ (J : Job) (b : From) (goal T : ℕ) where
  -- a plan of new steps P and kept steps K, which stay as they are
  pub normal_plan_exists : Passed J → (P K : List Step) → PlanOf J T goal (P ++ K) → EachStep (IsNew b) P
      → EachStep (IsKept b) K → length (P ++ K) ≤ 32
      → (F : List Step) × EachStep (IsNew b) F × NormalPlan J b goal T (F ++ K)
  normal_plan_exists passed P K plan new kept few =
      let Known : Step → Type 0 = λ x. x.number < length J.actions in
      let form : NormalForm J goal T K (NewStep J b) P
      = normalise J goal T K (NewStep J b) (new_step_later J b) P plan.keeps
      (λ x Q i.
      let j = place_append K i in
      (plan.own x (Q ++ K) j, plan.known x (Q ++ K) j, new x Q i)) in
      let F : List Step = form.steps in
      let own : EachStep (OfJob J) (F ++ K)
      = each_append (OfJob J) F K (λ x Q i. (form.each x Q i).0) (each_right (OfJob J) P K plan.own) in
      let known : EachStep Known (F ++ K)
      = each_append Known F K (λ x Q i. (form.each x Q i).1) (each_right Known P K plan.known) in
      let fewer = form.no_more in
      let before = length-append P K in
      let after = length-append F K in (
        F,
        λ x Q i. (form.each x Q i).2,
        record {
          plan = record { keeps = form.keeps; own = own; known = known };
          critical_facts = each_new b _ F K kept form.critical_facts;
          blocked_steps = each_new b _ F K kept form.blocked_steps;
          effects = λ x Q i. own_effects J passed x (own x Q i) (known x Q i);
          few_steps = omega arith;
        },
      )

  -- ---- in any order
  pub normal_plan_permuted : {R P : List Step} → Permutation R P → NormalPlan J b goal T P → NormalPlan J b goal T R
  normal_plan_permuted o p =
      record {
        plan = record {
          keeps = permutation_keeps J T goal o p.plan.keeps;
          own = permutation_each (OfJob J) o p.plan.own;
          known = permutation_each (λ x. x.number < length J.actions) o p.plan.known;
        };
        critical_facts = λ x Q i new.
            let r = permutation_member o i in
            permutation_critical J goal T o x ∙ p.critical_facts x r.0 r.1 new;
        blocked_steps = λ x Q i new.
            let r = permutation_member o i in
            permutation_blocked J T o x ∙ p.blocked_steps x r.0 r.1 new;
        effects = permutation_each (λ x. meets x.action.adds x.action.deletes ≡ false) o p.effects;
        few_steps = let same = permutation_length o in let few = p.few_steps in omega arith;
      }

  -- no two of its steps have the same start and number
  pub normal_plan_apart : {P : List Step} → NormalPlan J b goal T P → AllApart P
  normal_plan_apart {P} p =
      let keeps = p.plan.keeps in apart_of_no_clash P keeps.lasting (no_clash_of_test P keeps.no_clash)

  -- in rising order it is accepted
  pub normal_plan_accepted : T ≤ J.deadline → {R P : List Step} → Permutation R P → strictly_rising R ≡ true
      → NormalPlan J b goal T P → (first (step_rows J goal R) ≡ pass) × (end R ≤ T)
  normal_plan_accepted l {R} o rising p =
      let q = normal_plan_permuted o p in
      accepted_of_keeps J goal R T l q.plan.known rising q.plan.keeps
