-- Trying every plan finds one whose steps stop by a minute exactly if an accepted plan ends by then.
-- Assumes nothing.
use Prim.Native.Nat.{ℕ, zero, suc, ◌-◌, ◌<◌, ◌≤◌}
use mathlib.Core.Path.{◌≡◌, refl, sym, ap, ◌∙◌, subst}
use mathlib.Core.Bool.{Bool, true, false, cond, not, ◌||◌}
use mathlib.Core.Logic.{◌⊎◌, inl, inr, ⊎_elim}
use mathlib.Core.List.{List, [], ◌∷◌, ◌++◌, append-nil}
use native.Mathlib.Omega.{arith}
use lib.Dec.{leb, ltb}
use lib.ListN.{length, length-append}
use lib.Seq.{append_snoc}
use borrow.Author.Tests.{le-leb, leb-true, le-ltb, lt-ltb, ltb-true, ltb-false}
use Rattle.lists.proofs.Below.{below_some, below_found}
use Rattle.lists.proofs.Bools.{and_left, and_right}
use Rattle.job.specs.Job.{Job}
use Rattle.job.specs.Refusal.{first}
use Rattle.job.specs.Passed.{Passed}
use Rattle.job.specs.Refusal.{Verdict}
use Rattle.std.specs.Prelude.{Ok, Err}
use Rattle.job.specs.Refusal.{pass}
use Rattle.timeline.specs.Step.{Step, step_of, steps_in, before, strictly_rising, plan_bytes}
use Rattle.timeline.specs.Timeline.{end}
use Rattle.timeline.specs.Accepted.{Accepted, clashing, step_rows}
use Rattle.timeline.specs.Places.{here, there, EachStep}
use Rattle.timeline.specs.Keeps.{Lasting, OfJob}
use Rattle.timeline.proofs.Tests.{not_both, and_both, or_neither}
use Rattle.timeline.proofs.Places.{each_step, each_cons, each_rest, any_of_none}
use Rattle.timeline.proofs.Places.{append_cases}
use Rattle.timeline.proofs.Places.{place_append, place_after, pair_none, largest_at_least, largest_at_most}
use Rattle.timeline.proofs.Clashes.{clashing_sym}
use Rattle.timeline.proofs.AcceptedSteps.{accepted_steps}
use Rattle.timeline.proofs.JobSteps.{lasting_of_known, steps_in_bytes, steps_of_accepted}
use Rattle.timeline.proofs.PlanBytes.{accepted_bytes_of_steps, few_steps_of_accepted}
use Rattle.timeline.proofs.Rising.{rising_rest, rising_before, before_reads}
use Rattle.makespan.specs.Makespan.{begun, Counts}
use Rattle.makespan.specs.Makespan.{is_pass, passes, can_follow, follows_with, some_next, completable, solvable}

-- ---- a test that is made only where another passes, or only where another fails
both_pass : (x y : Bool) → x ≡ true → y ≡ true → ◌≡◌ {A = Bool} (elim x [ true ↦ y | false ↦ false ]) true
both_pass true y p q = q
both_pass false y p q = p

both_passed : (x y : Bool) → ◌≡◌ {A = Bool} (elim x [ true ↦ y | false ↦ false ]) true → (x ≡ true) × (y ≡ true)
both_passed true y h = (refl, h)
both_passed false y h = not_both h refl

either_passes : (x y : Bool) → (x ≡ true) ⊎ (y ≡ true) → ◌≡◌ {A = Bool} (elim x [ true ↦ true | false ↦ y ]) true
either_passes true y h = refl
either_passes false y (inl h) = not_both h refl
either_passes false y (inr h) = h

either_passed : (x y : Bool) → ◌≡◌ {A = Bool} (elim x [ true ↦ true | false ↦ y ]) true → (x ≡ true) ⊎ (y ≡ true)
either_passed true y h = inl refl
either_passed false y h = inr h

pub pass_of_test : (v : Verdict) → is_pass v ≡ true → v ≡ pass
pass_of_test (Ok _) h = refl
pass_of_test (Err why) h = not_both h refl

-- ---- the next step
-- in steps that pass, each step that stops by T can follow those before it
can_follow_lem : (J : Job) (goal minute T : ℕ) (P : List Step) (x : Step) (F : List Step) → minute ≤ x.start → x.stop ≤ T
    → first (step_rows J goal (P ++ (x ∷ F))) ≡ pass → can_follow minute T P x ≡ true
can_follow_lem J goal minute T P x F late in_time pass =
    let steps = accepted_steps J goal (P ++ (x ∷ F)) pass in
    and_both (le-leb minute x.start late)
    (and_both (le-leb x.stop T in_time)
    (ap not
    (any_of_none (λ y. not (before y x) || clashing y x) P
    (λ y Q i.
    or_neither (ap not (earlier P steps.rising y Q i))
    (pair_none clashing clashing_sym (place_append (x ∷ F) i) (place_after Q here) steps.no_clash)))))
  where
    earlier : (P : List Step) → strictly_rising (P ++ (x ∷ F)) ≡ true → EachStep (λ y. before y x ≡ true) P
    earlier (z ∷ P) h y Q here = rising_before z (P ++ (x ∷ F)) h x _ (place_after P here)
    earlier (z ∷ P) h y Q (there {Q = R} i) = earlier P (rising_rest z (P ++ (x ∷ F)) h) y R i
    earlier [] h y Q x4 = elim x4 [ ]

-- a step of the job that passes a test is found, and what is found is a step of the job
module _ (J : Job) (minute T : ℕ) (P : List Step) (test : Step → Bool) where
  next_found : (x : Step) → OfJob J x → x.number < length J.actions → x.start < T → can_follow minute T P x ≡ true
      → test x ≡ true → some_next J minute T P test ≡ true
  next_found x own known early follows passed =
      below_found T _ x.start early
      (below_found (length J.actions) _ x.number known
      (subst (λ (y : Step). follows_with minute T P test y ≡ true) own
      (both_pass (can_follow minute T P x) (test x) follows passed)))

  some_next_lem : some_next J minute T P test ≡ true
      → (x : Step) × OfJob J x × (x.stop ≤ T) × (minute ≤ x.start) × (test x ≡ true)
  some_next_lem h =
      let s = below_some T _ h in
      let n = below_some (length J.actions) _ s.2 in
      let x = step_of J n.0 s.0 in
      let b = both_passed (can_follow minute T P x) (test x) n.2 in (
        x,
        refl,
        leb-true x.stop T (and_left (leb x.stop T) _ (and_right (leb minute x.start) _ b.0)),
        leb-true minute x.start (and_left (leb minute x.start) _ b.0),
        b.1,
      )

-- ---- all steps behind P
-- steps of the job that each stop by T, at most n of them, with which P passes
record Completion (J : Job) (goal minute T n : ℕ) (P : List Step) : Type 0 where
  steps : List Step
  few : length steps ≤ n
  own : EachStep (OfJob J) steps
  in_time : EachStep (λ x. x.stop ≤ T) steps
  late : EachStep (λ x. minute ≤ x.start) steps
  pass : first (step_rows J goal (P ++ steps)) ≡ pass

module _ (J : Job) (goal minute T : ℕ) where
  -- where P passes alone, and back
  completion_of_pass : (n : ℕ) (P : List Step) → passes J goal P ≡ true → Completion J goal minute T n P
  completion_of_pass n P h =
      record {
        steps = [];
        few = omega arith;
        own = each_step (OfJob J) [] tt;
        in_time = each_step (λ x. x.stop ≤ T) [] tt;
        late = each_step (λ x. minute ≤ x.start) [] tt;
        pass = ap (λ (Q : List Step). first (step_rows J goal Q)) (append-nil P) ∙ pass_of_test _ h;
      }

  passes_alone : (P : List Step) → first (step_rows J goal (P ++ [])) ≡ pass → passes J goal P ≡ true
  passes_alone P pass = ap (passes J goal) (sym (append-nil P)) ∙ ap is_pass pass

  -- what the search finds completes P, and the search finds whatever completes P
  completion_of_completable : (n : ℕ) (P : List Step) → completable J goal minute T n P ≡ true
      → Completion J goal minute T n P
  completion_of_completable zero P h = completion_of_pass 0 P h
  completion_of_completable (suc n) P h =
      ⊎_elim (λ now. completion_of_pass (suc n) P now)
      (λ more.
      let next = some_next_lem J minute T P (λ x. completable J goal minute T n (P ++ (x ∷ []))) more in
      let x : Step = next.0 in
      let rest = completion_of_completable n (P ++ (x ∷ [])) next.4 in
      let few = rest.few in
      record {
        steps = x ∷ rest.steps;
        few = omega arith;
        own = each_cons (OfJob J) x rest.steps next.1 rest.own;
        in_time = each_cons (λ y. y.stop ≤ T) x rest.steps next.2 rest.in_time;
        late = each_cons (λ y. minute ≤ y.start) x rest.steps next.3 rest.late;
        pass = ap (λ (Q : List Step). first (step_rows J goal Q)) (sym (append_snoc P x rest.steps)) ∙ rest.pass;
      })
      (either_passed (passes J goal P) _ h)

  completable_of_completion : (n : ℕ) (P F : List Step) → length F ≤ n → EachStep (OfJob J) F → Lasting F
      → EachStep (λ x. x.stop ≤ T) F → EachStep (λ x. minute ≤ x.start) F → first (step_rows J goal (P ++ F)) ≡ pass
      → completable J goal minute T n P ≡ true
  completable_of_completion zero P [] few own lasting in_time late pass = passes_alone P pass
  completable_of_completion zero P (x ∷ F) few own lasting in_time late pass = absurd (omega arith)
  completable_of_completion (suc n) P [] few own lasting in_time late pass =
      either_passes (passes J goal P) _ (inl (passes_alone P pass))
  completable_of_completion (suc n) P (x ∷ F) few own lasting in_time late pass =
      let steps = accepted_steps J goal (P ++ (x ∷ F)) pass in
      let l = lasting x F here in
      let m = in_time x F here in
      let rest = completable_of_completion n (P ++ (x ∷ [])) F (omega arith) (each_rest (OfJob J) x F own)
      (each_rest (λ y. y.start < y.stop) x F lasting)
      (each_rest (λ y. y.stop ≤ T) x F in_time) (each_rest (λ y. minute ≤ y.start) x F late)
      (ap (λ (Q : List Step). first (step_rows J goal Q)) (append_snoc P x F) ∙ pass) in
      let next = next_found J minute T P (λ y. completable J goal minute T n (P ++ (y ∷ []))) x (own x F here)
      (steps.known x (P ++ F) (place_after P here)) (omega arith)
      (can_follow_lem J goal minute T P x F (late x F here) m pass) rest in
      either_passes (passes J goal P) _ (inr next)

-- ---- begun steps
-- of steps in rising order the begun ones come first
pub none_begun : (minute : ℕ) (P : List Step) → EachStep (λ x. minute ≤ x.start) P → begun minute P ≡ []
none_begun minute [] h = refl
none_begun minute (x ∷ P) h =
    rw (le-ltb x.start minute (h x P here)) (none_begun minute P (each_rest (λ y. minute ≤ y.start) x P h))

pub begun_of_append : (minute : ℕ) (K N : List Step) → EachStep (λ x. x.start < minute) K
    → EachStep (λ x. minute ≤ x.start) N → begun minute (K ++ N) ≡ K
begun_of_append minute [] N kept new = none_begun minute N new
begun_of_append minute (x ∷ K) N kept new =
    rw (lt-ltb x.start minute (kept x K here))
    (ap (λ (P : List Step). x ∷ P) (begun_of_append minute K N (each_rest (λ y. y.start < minute) x K kept) new))

pub rising_begun : (minute : ℕ) (P : List Step) → strictly_rising P ≡ true
    → (N : List Step) × (P ≡ begun minute P ++ N) × EachStep (λ x. minute ≤ x.start) N
rising_begun minute [] h = ([], refl, each_step (λ x. minute ≤ x.start) [] tt)
rising_begun minute (x ∷ P) h = go (ltb x.start minute) refl (rising_begun minute P (rising_rest x P h))
  where
    go : (b : Bool) → ltb x.start minute ≡ b
        → (N : List Step) × (P ≡ begun minute P ++ N) × EachStep (λ y. minute ≤ y.start) N
        → (N : List Step) × (x ∷ P ≡ cond b (x ∷ begun minute P) (begun minute P) ++ N)
        × EachStep (λ y. minute ≤ y.start) N
    go true e r =
        (r.0, ap (λ (Q : List Step). x ∷ Q) r.1, r.2)
    go false e r =
        let l = ltb-false x.start minute e in
        let new : EachStep (λ y. minute ≤ y.start) P =
        λ y Q i. let c = before_reads x y (rising_before x P h y Q i) in
        ⊎_elim (λ a. omega arith) (λ a. let z = a.0 in omega arith) c in (
          x ∷ P,
          sym (ap (λ (Q : List Step). Q ++ (x ∷ P)) (none_begun minute P new)),
          each_cons (λ y. minute ≤ y.start) x P l new,
        )

pub begun_are_begun : (minute : ℕ) (P : List Step) → EachStep (λ x. x.start < minute) (begun minute P)
begun_are_begun minute [] = each_step (λ x. x.start < minute) [] tt
begun_are_begun minute (x ∷ P) = go (ltb x.start minute) refl (begun_are_begun minute P)
  where
    go : (b : Bool) → ltb x.start minute ≡ b → EachStep (λ y. y.start < minute) (begun minute P)
        → EachStep (λ y. y.start < minute) (cond b (x ∷ begun minute P) (begun minute P))
    go true e r = each_cons (λ y. y.start < minute) x (begun minute P) (ltb-true x.start minute e) r
    go false e r = r

-- ---- accepted plans
-- where an accepted plan that counts ends by minute T, the search finds a plan
pub solvable_of_accepted : (J : Job) (goal minute T : ℕ) (K : List Step) (bytes : List ℕ) → Passed J
    → Accepted J goal bytes
    → Counts J minute K bytes → end (steps_in J bytes) ≤ T → solvable J goal minute K T ≡ true
solvable_of_accepted J goal minute T K bytes passed accepted counts by =
    let P : List Step = steps_in J bytes in
    let own = steps_in_bytes J bytes in
    let pass = steps_of_accepted J goal bytes accepted in
    let steps = accepted_steps J goal P pass in
    let split = rising_begun minute P steps.rising in
    let N : List Step = split.0 in
    let same : P ≡ K ++ N = split.1 ∙ ap (λ (Q : List Step). Q ++ N) counts in
    let few = few_steps_of_accepted J goal bytes accepted in
    let sum = length-append K N in
    let all = ap length same in
    let stops : EachStep (λ x. x.stop ≤ T) (K ++ N) =
    subst (EachStep (λ x. x.stop ≤ T)) same
    (λ x Q i. let l = largest_at_least (λ y. y.stop) i in omega arith) in
    both_pass (leb (end K) T) _
    (le-leb (end K) T (largest_at_most (λ x. x.stop) T K (λ x Q i. stops x (Q ++ N) (place_append N i))))
    (completable_of_completion J goal minute T (32 - length K) K N (omega arith)
    (λ x Q i. subst (EachStep (OfJob J)) same own x (K ++ Q) (place_after K i))
    (λ x Q i. subst Lasting same (lasting_of_known J P passed own steps.known) x (K ++ Q) (place_after K i))
    (λ x Q i. stops x (K ++ Q) (place_after K i))
    split.2
    (ap (λ (Q : List Step). first (step_rows J goal Q)) (sym same) ∙ pass))

-- where the search finds a plan, an accepted plan that counts ends by minute T; K are steps of the job
pub accepted_of_solvable : (J : Job) (goal minute T : ℕ) (K : List Step) → Passed J → EachStep (OfJob J) K
    → EachStep (λ x. x.start < minute) K → length K ≤ 32 → solvable J goal minute K T ≡ true
    → (bytes : List ℕ) × Accepted J goal bytes × Counts J minute K bytes × (end (steps_in J bytes) ≤ T)
accepted_of_solvable J goal minute T K passed own kept fits h =
    let both = both_passed (leb (end K) T) _ h in
    let c = completion_of_completable J goal minute T (32 - length K) K both.1 in
    let N : List Step = c.steps in
    let P : List Step = K ++ N in
    let few = c.few in
    let sum = length-append K N in
    let all : EachStep (OfJob J) P = λ x Q i.
    ⊎_elim (λ r. own x r.0 r.1) (λ r. c.own x r.0 r.1) (append_cases K N i) in
    let a = accepted_bytes_of_steps J goal P passed all (omega arith) c.pass in
    let at_k = leb-true (end K) T both.0 in
    let l : end P ≤ T = largest_at_most (λ x. x.stop) T P (λ x Q i.
    ⊎_elim (λ r. let m = largest_at_least (λ y. y.stop) r.1 in omega arith) (λ r. c.in_time x r.0 r.1)
    (append_cases K N i)) in (
      plan_bytes P,
      a.0,
      ap (begun minute) a.1 ∙ begun_of_append minute K N kept c.late,
      subst (λ (Q : List Step). end Q ≤ T) (sym a.1) l,
    )
