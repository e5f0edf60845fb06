-- Every list of steps, no two of the same start and number, has a strictly rising list with the same steps.
-- Assumes nothing.
use Prim.Native.Nat.{ℕ, ◌<◌, ◌≤◌}
use mathlib.Core.Path.{◌≡◌, refl}
use mathlib.Core.Bool.{true}
use mathlib.Core.Logic.{⊎_elim}
use mathlib.Core.List.{List, [], ◌∷◌}
use native.Mathlib.Omega.{arith}
use lib.ListN.{length}
use Rattle.job.specs.Job.{Job}
use Rattle.job.specs.Refusal.{first}
use Rattle.job.specs.Refusal.{pass}
use Rattle.timeline.specs.Step.{Step, before, strictly_rising}
use Rattle.timeline.specs.Timeline.{end}
use Rattle.timeline.specs.Accepted.{step_rows}
use Rattle.timeline.specs.Places.{Place, here, there, EachStep, Permutation, empty, next_step}
use Rattle.timeline.specs.Keeps.{Lasting, Keeps}
use Rattle.timeline.proofs.Places.{place_wider, split_place}
use Rattle.timeline.proofs.Clashes.{NoClash, no_clash_of_test}
use Rattle.timeline.proofs.Keeps.{accepted_of_keeps}
use Rattle.timeline.proofs.Permutations.{permutation_sym, permutation_member}
use Rattle.timeline.proofs.Permutations.{permutation_each, permutation_keeps}
use Rattle.timeline.proofs.Rising.{Apart, AllApart, before_trans, before_or_after}
use Rattle.timeline.proofs.Rising.{rising_rest, rising_before, rising_cons}

-- a rising list that is P in another order
pub record Sorted (P : List Step) : Type 0 where
  pub steps : List Step
  pub rising : strictly_rising steps ≡ true
  pub order : Permutation steps P

-- P with x put in where it belongs
record Inserted (x : Step) (P : List Step) : Type 0 where
  steps : List Step
  rising : strictly_rising steps ≡ true
  place : Place x P steps

insert : (x : Step) (P : List Step) → EachStep (Apart x) P → strictly_rising P ≡ true → Inserted x P
insert x [] apart h = record { steps = x ∷ []; rising = refl; place = here }
insert x (y ∷ P) apart h =
    let rest = insert x P (λ z Q i. apart z (y ∷ Q) (there i)) (rising_rest y P h) in
    ⊎_elim
    (λ e.
    record {
      steps = x ∷ y ∷ P;
      rising = rising_cons x (y ∷ P) (first_before e) h;
      place = here;
    })
    (λ e.
    record {
      steps = y ∷ rest.steps;
      rising =
          rising_cons y rest.steps
          (λ z Q i.
          ⊎_elim (λ q. rw q e) (λ r. rising_before y P h z r.0 r.1) (split_place rest.place i))
          rest.rising;
      place = there rest.place;
    })
    (before_or_after x y (apart y P here))
  where
    first_before : before x y ≡ true → EachStep (λ z. before x z ≡ true) (y ∷ P)
    first_before e z Q here = e
    first_before e z Q (there {Q = R} i) = before_trans x y z e (rising_before y P h z R i)

pub sorted : (P : List Step) → AllApart P → Sorted P
sorted [] apart = record { steps = []; rising = refl; order = empty }
sorted (x ∷ P) apart =
    let rest = sorted P (λ y Q i z R j. apart y (x ∷ Q) (there i) z (x ∷ R) (there j)) in
    let put = insert x rest.steps
    (λ y Q i. let r = permutation_member rest.order i in apart x P here y r.0 r.1) rest.rising in
    record {
      steps = put.steps;
      rising = put.rising;
      order = permutation_sym (next_step put.place (permutation_sym rest.order));
    }

-- two steps of one start and number would share a minute and clash
pub apart_of_no_clash : (P : List Step) → Lasting P → NoClash P → AllApart P
apart_of_no_clash P lasting no_clash x Q i y R j e f =
    let w = place_wider i j in
    let l = lasting x Q i in
    let m = lasting y w.0 w.1 in
    (no_clash x Q i y R j (omega arith) (omega arith)).different f

-- a plan that keeps the rules is accepted once it is sorted
pub accepted_when_sorted : (J : Job) (goal : ℕ) (P : List Step) (T : ℕ) → T ≤ J.deadline
    → EachStep (λ x. x.number < length J.actions) P → Keeps J T goal P
    → (R : List Step) × Permutation R P × (first (step_rows J goal R) ≡ pass) × (end R ≤ T)
accepted_when_sorted J goal P T d known keeps =
    let s = sorted P (apart_of_no_clash P keeps.lasting (no_clash_of_test P keeps.no_clash)) in
    let in_order = permutation_keeps J T goal s.order keeps in
    let known' = permutation_each (λ x. x.number < length J.actions) s.order known in
    let accepted = accepted_of_keeps J goal s.steps T d known' s.rising in_order in
    (s.steps, s.order, accepted.0, accepted.1)
