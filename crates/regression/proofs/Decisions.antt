-- Dead ends within a minute t: for one action after the other it is decided whether a step of it stops then.
-- Assumes nothing.
use Prim.Native.Nat.{ℕ, suc, ◌+◌, ◌-◌, ◌<◌, ◌≤◌}
use mathlib.Core.Path.{◌≡◌, refl, sym, ap, ap₂, ◌∙◌}
use mathlib.Core.Bool.{Bool, true, false, ◌&&◌, ◌||◌}
use mathlib.Core.Logic.{inl, inr, ⊎_elim}
use mathlib.Core.List.{List, ◌∷◌, ◌++◌}
use native.Mathlib.Nat.{eq-or-lt_of_le}
use native.Mathlib.Omega.{arith}
use lib.Dec.{eqb}
use lib.ListN.{length}
use borrow.Author.Tests.{eqb-true, eq-eqb}
use Rattle.lists.specs.Lists.{any}
use Rattle.lists.proofs.Bools.{and_left, and_right}
use Rattle.job.specs.Job.{Job}
use Rattle.timeline.specs.Step.{Step, step_of}
use Rattle.timeline.specs.From.{From, FitsFrom}
use Rattle.timeline.specs.Places.{Place, here, EachStep, Permutation, next_step}
use Rattle.timeline.specs.Keeps.{OfJob}
use Rattle.timeline.proofs.Tests.{decided, not_both, false_unless, and_both, or_neither}
use Rattle.timeline.proofs.Places.{place_wider, place_append, place_after, find_any, none_of_any}
use Rattle.timeline.proofs.Clashes.{no_clash_of_test}
use Rattle.timeline.proofs.NewSteps.{fits_of_new}
use Rattle.timeline.proofs.Permutations.{permutation_refl, permutation_sym, permutation_trans}
use Rattle.times.specs.Earliest.{action_of}
use Rattle.regression.specs.DeadEnd.{NormalPlan, Until, Open, Dead, step_stopping}
use Rattle.regression.proofs.NormalPlans.{normal_plan_permuted}
use Rattle.regression.proofs.DeadEnds.{dead_weaker}

-- action i is decided, too
abbrev pub also_decided : (ℕ → Bool) → ℕ → ℕ → Bool
also_decided done i a = eqb a i || done a

own_is_stopping : (J : Job) (x : Step) (i t : ℕ) → OfJob J x → x.number ≡ i → x.stop ≡ t
    → (x ≡ step_stopping J i t) × (x.start + (action_of J i).duration ≡ t)
own_is_stopping J x i t own e s =
    let stop : x.stop ≡ x.start + (action_of J x.number).duration = ap (λ (y : Step). y.stop) own in
    let same : (action_of J x.number).duration ≡ (action_of J i).duration = ap (λ a. (action_of J a).duration) e in
    let start : x.start ≡ t - (action_of J i).duration = omega arith in
    (own ∙ ap₂ (step_of J) e start, omega arith)

-- a step taken from the others and put before the tail
taken : {x : Step} {R E : List Step} (L : List Step) → Place x R E → Permutation (R ++ (x ∷ L)) (E ++ L)
taken {x} {R} L i =
    permutation_trans
    (permutation_sym (next_step (place_after R (here {Q = L})) (permutation_refl (R ++ L))))
    (next_step (place_append L i) (permutation_refl (R ++ L)))

module _ (J : Job) (b : From) (goal T t : ℕ) where
  -- ---- the step of action i that stops at t
  module _ (done : ℕ → Bool) (i : ℕ) where
    abbrev is_it : Step → Bool
    is_it x = eqb x.stop t && eqb x.number i

    other_open : (x : Step) → is_it x ≡ false → Open b t done x → Open b t (also_decided done i) x
    other_open x other o = (
      o.0,
      o.1,
      ⊎_elim (λ l. inl l)
          (λ at.
          let another = false_unless (eqb x.number i)
          (λ e. not_both (and_both (eq-eqb x.stop t at.0) e) other) in
          inr (at.0, or_neither another at.1))
          o.2,
    )

    -- two steps of one action do not stop together
    only_one : (E L : List Step) → NormalPlan J b goal T (E ++ L) → {x : Step} {R : List Step} → Place x R E
        → is_it x ≡ true → EachStep (λ y. is_it y ≡ false) R
    only_one E L p {x} {R} j it y Q k =
        false_unless (is_it y)
        (λ too.
        let w = place_wider j k in
        let keeps = p.plan.keeps in
        let lasts = keeps.lasting x (R ++ L) (place_append L j) in
        let lasts_too = keeps.lasting y (w.0 ++ L) (place_append L w.1) in
        let stops = eqb-true x.stop t (and_left (eqb x.stop t) _ it) in
        let stops_too = eqb-true y.stop t (and_left (eqb y.stop t) _ too) in
        let number = eqb-true x.number i (and_right (eqb x.stop t) _ it) in
        let number_too = eqb-true y.number i (and_right (eqb y.stop t) _ too) in
        (no_clash_of_test (E ++ L) keeps.no_clash x (R ++ L) (place_append L j) y (Q ++ L) (place_append L k)
        (omega arith) (omega arith)).different (number ∙ sym number_too))

    -- it is in the plan, or it is not
    pub dead_choose : (L : List Step)
        → (FitsFrom b i (action_of J i).duration t
        → Dead J b goal T (Open b t (also_decided done i)) (step_stopping J i t ∷ L))
        → Dead J b goal T (Open b t (also_decided done i)) L → Dead J b goal T (Open b t done) L
    dead_choose L with without E h p =
        ⊎_elim
        (λ e.
        let r = find_any is_it E e in
        let x = r.0 in
        let R : List Step = r.1 in
        let j : Place x R E = r.2 in
        let stops = eqb-true x.stop t (and_left (eqb x.stop t) _ r.3) in
        let number = eqb-true x.number i (and_right (eqb x.stop t) _ r.3) in
        let is = own_is_stopping J x i t (p.plan.own x (R ++ L) (place_append L j)) number stops in
        let q : NormalPlan J b goal T (R ++ (x ∷ L)) = normal_plan_permuted J b goal T (taken L j) p in
        with (fits_of_new b i (action_of J i).duration t x number is.1 (h x R j).0) R
        (λ y Q k.
        let w = place_wider j k in
        other_open y (only_one E L p j r.3 y Q k) (h y w.0 w.1))
        (rw is.0 at q))
        (λ e. without E (λ x Q j. other_open x (none_of_any is_it E e x Q j) (h x Q j)) p)
        (decided (any is_it E))

  -- ---- which actions are decided
  pub dead_decided : (done known : ℕ → Bool) (L : List Step) → ((a : ℕ) → known a ≡ false → done a ≡ false)
      → Dead J b goal T (Open b t done) L → Dead J b goal T (Open b t known) L
  dead_decided done known L f =
      dead_weaker J b goal T (Open b t done) (Open b t known) L
      (λ x o. (o.0, o.1, ⊎_elim (λ l. inl l) (λ at. inr (at.0, f x.number at.1)) o.2))

  -- more are decided: those of which no step stops at t in any plan
  pub dead_when_barred : (done more : ℕ → Bool) (L : List Step)
      → ((a : ℕ) → a < length J.actions → done a ≡ false → more a ≡ true
      → FitsFrom b a (action_of J a).duration t
      → Dead J b goal T (Until b t) (step_stopping J a t ∷ L))
      → Dead J b goal T (Open b t more) L → Dead J b goal T (Open b t done) L
  dead_when_barred done more L barred dead E h p =
      dead E
      (λ x R j.
      let o = h x R j in (
        o.0,
        o.1,
        ⊎_elim (λ l. inl l)
            (λ at.
            ⊎_elim
            (λ e.
            let in_plan = place_append L j in
            let is = own_is_stopping J x x.number t (p.plan.own x (R ++ L) in_plan) refl at.0 in
            let fits = fits_of_new b x.number (action_of J x.number).duration t x refl is.1 o.0 in
            let q : NormalPlan J b goal T (R ++ (x ∷ L)) = normal_plan_permuted J b goal T (taken L j) p in
            absurd
            (barred x.number (p.plan.known x (R ++ L) in_plan) at.1 e fits R
            (λ y Q k.
            let w = place_wider j k in
            open_until y (h y w.0 w.1))
            (ap_normal R is.0 q)))
            (λ e. inr (at.0, e))
            (decided (more x.number)))
            o.2,
      ))
      p
    where
      open_until : (y : Step) → Open b t done y → Until b t y
      open_until y o = (o.0, o.1, ⊎_elim (λ l. omega arith) (λ at. let e = at.0 in omega arith) o.2)

      ap_normal : {x y : Step} (R : List Step) → x ≡ y → NormalPlan J b goal T (R ++ (x ∷ L))
          → NormalPlan J b goal T (R ++ (y ∷ L))
      ap_normal R e q = rw e at q

  -- nothing found with any step that stops by t
  pub dead_open : (done : ℕ → Bool) (L : List Step) → Dead J b goal T (Until b t) L → Dead J b goal T (Open b t done) L
  dead_open done L =
      dead_weaker J b goal T (Until b t) (Open b t done) L
      (λ x o. (o.0, o.1, ⊎_elim (λ l. omega arith) (λ at. let e = at.0 in omega arith) o.2))

  -- before the first action: none is decided
  pub dead_when_none_decided : (done : ℕ → Bool) (L : List Step) → ((a : ℕ) → a < length J.actions → done a ≡ false)
      → Dead J b goal T (Open b t done) L → Dead J b goal T (Until b t) L
  dead_when_none_decided done L none dead E h p =
      dead E
      (λ x Q i.
      let u = h x Q i in
      let known = p.plan.known x (Q ++ L) (place_append L i) in
      (u.0, u.1, ⊎_elim (λ e. inr (e, none x.number known)) (λ l. inl l) (eq-or-lt_of_le u.2)))
      p

  -- after the last one: all are, so every other step stops earlier
  pub dead_when_all_decided : (s : ℕ) → t ≤ suc s → (done : ℕ → Bool) (L : List Step)
      → ((a : ℕ) → a < length J.actions → done a ≡ true) → Dead J b goal T (Until b s) L
      → Dead J b goal T (Open b t done) L
  dead_when_all_decided s l done L all dead E h p =
      dead E
      (λ x Q i.
      let o = h x Q i in
      let known = p.plan.known x (Q ++ L) (place_append L i) in
      (o.0, o.1, ⊎_elim (λ before. omega arith) (λ at. not_both (all x.number known) at.1) o.2))
      p
