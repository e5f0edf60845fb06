-- A walk over the plans that begin with the steps k meets the listed ones in the list's order, each once: k itself
-- first, then, step by step in rising order of start and action, those that go on with that step.
-- Assumes nothing.
use Prim.Native.Nat.{ℕ, suc, ◌<◌}
use mathlib.Core.Path.{◌≡◌, refl, sym, ap, ◌∙◌, subst}
use mathlib.Core.Bool.{true}
use mathlib.Core.Logic.{◌⊎◌, inl, inr, ⊎_elim}
use mathlib.Core.List.{List, [], ◌∷◌, ◌++◌, append-nil}
use native.Mathlib.Nat.{eq-or-lt_of_le}
use native.Mathlib.Omega.{arith}
use lib.ListN.{length}
use lib.Seq.{append_snoc}
use Rattle.job.specs.Passed.{Passed}
use Rattle.timeline.specs.Places.{Place, here, EachStep}
use Rattle.timeline.specs.Keeps.{OfJob}
use Rattle.job.specs.Job.{Job}
use Rattle.timeline.specs.Step.{Step, step_of, before, strictly_rising, plan_bytes}
use Rattle.timeline.proofs.Places.{place_after}
use Rattle.timeline.proofs.JobSteps.{steps_in_bytes, steps_of_accepted}
use Rattle.timeline.proofs.AcceptedSteps.{accepted_steps}
use Rattle.timeline.proofs.Rising.{before_reads, before_when}
use Rattle.listing.specs.Shortest.{ShortestEnd}
use Rattle.listing.specs.Listed.{Listed, comes_first}
use Rattle.listing.specs.Place.{ListOf}
use Rattle.listing.specs.Begins.{Begins, GoesOn, BeforePlace}
use Rattle.listing.proofs.Order.{begun_comes_first, earlier_next_step_first}
use Rattle.listing.proofs.Lists.{list_of_same, list_of_none, list_of_either}
use Rattle.listing.proofs.ListedPlans.{listed_by_steps}
use Rattle.listing.proofs.RisingParts.{rising_after}

-- ---- the steps of a listed plan
module _ (J : Job) (goal : ℕ) {P : List Step} (listed : Listed J goal P) where
  pub listed_own : EachStep (OfJob J) P
  listed_own = subst (EachStep (OfJob J)) listed.in_bytes (steps_in_bytes J (plan_bytes P))

  pub listed_known : EachStep (λ x. x.number < length J.actions) P
  listed_known =
      subst (EachStep (λ x. x.number < length J.actions)) listed.in_bytes
      (accepted_steps J goal _ (steps_of_accepted J goal (plan_bytes P) listed.accepted)).known

  pub listed_rising : strictly_rising P ≡ true
  listed_rising =
      subst (λ (Q : List Step). strictly_rising Q ≡ true) listed.in_bytes
      (accepted_steps J goal _ (steps_of_accepted J goal (plan_bytes P) listed.accepted)).rising

module _ (J : Job) (goal : ℕ) (k : List Step) where
  -- ---- k, and what goes on
  begins_cases : (P : List Step) → Begins k P → (P ≡ k) ⊎ GoesOn k (λ x. Unit) P
  begins_cases P b = go b.0 b.1
    where
      go : (N : List Step) → P ≡ k ++ N → (P ≡ k) ⊎ GoesOn k (λ x. Unit) P
      go [] e = inl (e ∙ append-nil k)
      go (x ∷ N) e = inr (record { step = x; rest = N; whole = e; each = tt })

  pub list_of_begins : (A B : List (List Step)) → ListOf J goal (λ P. P ≡ k) A
      → ListOf J goal (GoesOn k (λ x. Unit)) B → ListOf J goal (Begins k) (A ++ B)
  list_of_begins A B a b =
      list_of_same J goal (λ P. (P ≡ k) ⊎ GoesOn k (λ x. Unit) P) (Begins k) (A ++ B)
      (λ P listed.
      ⊎_elim (λ e. ([], e ∙ sym (append-nil k))) (λ g. (g.step ∷ g.rest, g.whole)))
      (λ P listed. begins_cases P)
      (list_of_either J goal (λ P. P ≡ k) (GoesOn k (λ x. Unit)) A B
      (λ P R e g.
      subst (λ (Q : List Step). comes_first Q R ≡ true) (sym e)
      (subst (λ (Q : List Step). comes_first k Q ≡ true) (sym g.whole) (begun_comes_first k g.step g.rest)))
      a b)

  -- ---- one step more
  begun_with : (y : Step) (P : List Step) → (b : Begins (k ++ (y ∷ [])) P) → P ≡ k ++ (y ∷ b.0)
  begun_with y P b = b.1 ∙ append_snoc k y b.0

  goes_on_as_begins : (y : Step) (P : List Step) → GoesOn k (λ x. x ≡ y) P → Begins (k ++ (y ∷ [])) P
  goes_on_as_begins y P g = (
    g.rest,
    g.whole ∙ ap (λ (x : Step). k ++ (x ∷ g.rest)) g.each ∙ sym (append_snoc k y g.rest),
  )

  -- the plans that go on with y come after those that go on with a step before y
  pub list_of_next_step : (y : Step) (X : Step → Type 0) → ((x : Step) → X x → before x y ≡ true)
      → (A B : List (List Step)) → ListOf J goal (GoesOn k X) A → ListOf J goal (Begins (k ++ (y ∷ []))) B
      → ListOf J goal (GoesOn k (λ x. X x ⊎ (x ≡ y))) (A ++ B)
  list_of_next_step y X earlier A B a b =
      list_of_same J goal (λ P. GoesOn k X P ⊎ Begins (k ++ (y ∷ [])) P) (GoesOn k (λ x. X x ⊎ (x ≡ y))) (A ++ B)
      (λ P listed.
      ⊎_elim (λ g. record { step = g.step; rest = g.rest; whole = g.whole; each = inl g.each })
      (λ b. record { step = y; rest = b.0; whole = begun_with y P b; each = inr refl }))
      (λ P listed g.
      ⊎_elim (λ x. inl (record { step = g.step; rest = g.rest; whole = g.whole; each = x }))
      (λ e.
      inr (goes_on_as_begins y P (record { step = g.step; rest = g.rest; whole = g.whole; each = e })))
      g.each)
      (list_of_either J goal (GoesOn k X) (Begins (k ++ (y ∷ []))) A B
      (λ P R g b.
      subst (λ (Q : List Step). comes_first Q R ≡ true) (sym g.whole)
      (subst (λ (Q : List Step). comes_first (k ++ (g.step ∷ g.rest)) Q ≡ true) (sym (begun_with y R b))
      (earlier_next_step_first k g.step y g.rest b.0 (earlier g.step g.each))))
      a b)

  -- the same plans, where the next steps of listed plans are the same
  pub goes_on_same : (X Y : Step → Type 0) (L : List (List Step))
      → ((P : List Step) → Listed J goal P → (x : Step) (Q : List Step) → Place x Q P → X x → Y x)
      → ((P : List Step) → Listed J goal P → (x : Step) (Q : List Step) → Place x Q P → Y x → X x)
      → ListOf J goal (GoesOn k X) L → ListOf J goal (GoesOn k Y) L
  goes_on_same X Y L to from l =
      list_of_same J goal (GoesOn k X) (GoesOn k Y) L (change X Y to) (change Y X from) l
    where
      change : (X Y : Step → Type 0)
          → ((P : List Step) → Listed J goal P → (x : Step) (Q : List Step) → Place x Q P → X x → Y x)
          → (P : List Step) → Listed J goal P → GoesOn k X P → GoesOn k Y P
      change X Y f P listed g =
          record {
            step = g.step;
            rest = g.rest;
            whole = g.whole;
            each =
                f P listed g.step (k ++ g.rest)
                (subst (λ (Q : List Step). Place g.step (k ++ g.rest) Q) (sym g.whole) (place_after k here))
                g.each;
          }

  -- ---- by minutes and actions
  -- no plan goes on with a step at or before a step of k
  pub list_of_none_yet : (w : Step) (Q : List Step) → Place w Q k
      → ListOf J goal (GoesOn k (BeforePlace w.start (suc w.number))) []
  list_of_none_yet w Q i =
      list_of_none J goal (GoesOn k (BeforePlace w.start (suc w.number)))
      (λ P listed g.
      let x = g.step in
      let rising : strictly_rising (k ++ (x ∷ g.rest)) ≡ true
      = subst (λ (R : List Step). strictly_rising R ≡ true) g.whole (listed_rising J goal listed) in
      ⊎_elim
      (λ a. ⊎_elim (λ b. omega arith) (λ b. let e = b.0 in omega arith) g.each)
      (λ a.
      let s = a.0 in
      let l = a.1 in
      ⊎_elim (λ b. omega arith) (λ b. let m = b.1 in omega arith) g.each)
      (before_reads w x (rising_after k (x ∷ g.rest) rising x g.rest here w Q i)))

  pub list_of_nothing_first : ListOf J goal (GoesOn k (BeforePlace 0 0)) []
  list_of_nothing_first =
      list_of_none J goal (GoesOn k (BeforePlace 0 0))
      (λ P listed g. ⊎_elim (λ b. omega arith) (λ b. let l = b.1 in omega arith) g.each)

  -- the next action in the same minute
  pub list_of_next_action : (u a : ℕ) (A B : List (List Step)) → ListOf J goal (GoesOn k (BeforePlace u a)) A
      → ListOf J goal (Begins (k ++ (step_of J a u ∷ []))) B → ListOf J goal (GoesOn k (BeforePlace u (suc a))) (A ++ B)
  list_of_next_action u a A B l m =
      goes_on_same (λ x. BeforePlace u a x ⊎ (x ≡ step_of J a u)) (BeforePlace u (suc a)) (A ++ B)
      (λ P listed x Q i.
      ⊎_elim (⊎_elim (λ b. inl b) (λ b. let c = b.1 in inr (b.0, omega arith)))
      (λ e.
      let s : x.start ≡ u = ap (λ (z : Step). z.start) e in
      let n : x.number ≡ a = ap (λ (z : Step). z.number) e in
      inr (s, omega arith)))
      (λ P listed x Q i.
      ⊎_elim (λ b. inl (inl b))
      (λ b.
      let c = b.1 in
      ⊎_elim
      (λ e.
      let n : x.number ≡ a = omega arith in
      inr (listed_own J goal listed x Q i ∙ ap (λ (z : ℕ). step_of J z x.start) n ∙ ap (step_of J a) b.0))
      (λ d. inl (inr (b.0, omega arith)))
      (eq-or-lt_of_le c)))
      (list_of_next_step (step_of J a u) (BeforePlace u a) (λ x b. before_when x (step_of J a u) b) A B l m)

  -- an action with which no listed plan goes on
  pub list_of_barren_action : (u a : ℕ) (A : List (List Step))
      → ((P : List Step) → Listed J goal P → Begins (k ++ (step_of J a u ∷ [])) P → ⊥)
      → ListOf J goal (GoesOn k (BeforePlace u a)) A → ListOf J goal (GoesOn k (BeforePlace u (suc a))) A
  list_of_barren_action u a A none l =
      subst (ListOf J goal (GoesOn k (BeforePlace u (suc a)))) (append-nil A)
      (list_of_next_action u a A [] l (list_of_none J goal (Begins (k ++ (step_of J a u ∷ []))) none))

  -- the next minute
  pub list_of_next_minute : (u : ℕ) (A : List (List Step))
      → ListOf J goal (GoesOn k (BeforePlace u (length J.actions))) A
      → ListOf J goal (GoesOn k (BeforePlace (suc u) 0)) A
  list_of_next_minute u A l =
      goes_on_same (BeforePlace u (length J.actions)) (BeforePlace (suc u) 0) A
      (λ P listed x Q i.
      ⊎_elim (λ b. inl (omega arith)) (λ b. let e = b.0 in inl (omega arith)))
      (λ P listed x Q i.
      ⊎_elim
      (λ b.
      ⊎_elim (λ e. inr (omega arith, listed_known J goal listed x Q i)) (λ c. inl (omega arith)) (eq-or-lt_of_le b))
      (λ b. let n = b.1 in absurd (omega arith)))
      l

  -- all minutes up to the least end
  pub list_of_all_minutes : (T : ℕ) → Passed J → ShortestEnd J goal T → (A : List (List Step))
      → ListOf J goal (GoesOn k (BeforePlace T 0)) A → ListOf J goal (GoesOn k (λ x. Unit)) A
  list_of_all_minutes T passed least A l =
      goes_on_same (BeforePlace T 0) (λ x. Unit) A (λ P listed x Q i b. tt)
      (λ P listed x Q i b.
      let keeps = (listed_by_steps J goal T passed least P listed).plan.keeps in
      let lasts = keeps.lasting x Q i in
      let in_time = keeps.in_time x Q i in
      inl (omega arith))
      l
