-- The order of plans: strict, and total on plans of the job's steps; a plan comes before those it begins, and of two
-- that go on differently behind the same steps the one whose next step is earlier.
-- Assumes nothing.
use mathlib.Core.Path.{◌≡◌, refl, sym, ap₂}
use mathlib.Core.Bool.{true, or-true}
use mathlib.Core.Logic.{◌⊎◌, inl, inr, ⊎_elim}
use mathlib.Core.List.{List, [], ◌∷◌, ◌++◌}
use native.Mathlib.Omega.{arith}
use lib.Dec.{eqb}
use borrow.Author.Tests.{eqb-true, eq-eqb}
use Rattle.timeline.specs.Places.{here, EachStep}
use Rattle.timeline.specs.Keeps.{OfJob}
use Rattle.lists.proofs.Bools.{and_left, and_right}
use Rattle.job.specs.Job.{Job}
use Rattle.timeline.specs.Step.{Step, before}
use Rattle.timeline.proofs.Tests.{not_both, and_both, or_cases, trichotomy}
use Rattle.timeline.proofs.Places.{each_rest}
use Rattle.timeline.proofs.JobSteps.{same_step_lem}
use Rattle.timeline.proofs.Rising.{before_reads, before_when, before_trans, before_irreflexive}
use Rattle.listing.specs.Listed.{same_step, comes_first}

-- ---- two steps
abbrev pub Same : Step → Step → Type 0
Same x y = (x.start ≡ y.start) × (x.number ≡ y.number)

pub same_reads : (x y : Step) → same_step x y ≡ true → Same x y
same_reads x y h = (
  eqb-true x.start y.start (and_left _ _ h),
  eqb-true x.number y.number (and_right (eqb x.start y.start) _ h),
)

pub same_when : (x y : Step) → Same x y → same_step x y ≡ true
same_when x y s = and_both (eq-eqb x.start y.start s.0) (eq-eqb x.number y.number s.1)

pub same_or_before : (x y : Step) → Same x y ⊎ ((before x y ≡ true) ⊎ (before y x ≡ true))
same_or_before x y =
    ⊎_elim
    (λ e.
    ⊎_elim (λ f. inl (e, f))
    (⊎_elim (λ l. inr (inl (before_when x y (inr (e, l))))) (λ l. inr (inr (before_when y x (inr (sym e, l))))))
    (trichotomy x.number y.number))
    (⊎_elim (λ l. inr (inl (before_when x y (inl l)))) (λ l. inr (inr (before_when y x (inl l)))))
    (trichotomy x.start y.start)

pub before_same : (x y z : Step) → before x y ≡ true → Same y z → before x z ≡ true
before_same x y z h s =
    let a = s.0 in
    let b = s.1 in
    before_when x z
    (⊎_elim (λ l. inl (omega arith)) (λ l. let e = l.0 in let m = l.1 in inr (omega arith, omega arith))
    (before_reads x y h))

pub same_before : (x y z : Step) → Same x y → before y z ≡ true → before x z ≡ true
same_before x y z s h =
    let a = s.0 in
    let b = s.1 in
    before_when x z
    (⊎_elim (λ l. inl (omega arith)) (λ l. let e = l.0 in let m = l.1 in inr (omega arith, omega arith))
    (before_reads y z h))

same_same : (x y z : Step) → Same x y → Same y z → Same x z
same_same x y z s t =
    let a = s.0 in let b = s.1 in let c = t.0 in let d = t.1 in (omega arith, omega arith)

-- ---- two plans
module _ (x y : Step) (P R : List Step) where
  pub first_by_step : before x y ≡ true → comes_first (x ∷ P) (y ∷ R) ≡ true
  first_by_step h = rw h

  pub first_by_rest : Same x y → comes_first P R ≡ true → comes_first (x ∷ P) (y ∷ R) ≡ true
  first_by_rest s h = rw (and_both (same_when x y s) h) (or-true (before x y))

  pub first_reads : comes_first (x ∷ P) (y ∷ R) ≡ true
      → (before x y ≡ true) ⊎ (Same x y × (comes_first P R ≡ true))
  first_reads h =
      ⊎_elim (λ b. inl b)
      (λ b. inr (same_reads x y (and_left (same_step x y) _ b), and_right (same_step x y) _ b))
      (or_cases (before x y) _ h)

pub first_irreflexive : (P : List Step) → comes_first P P ≡ true → ⊥
first_irreflexive [] h = not_both h refl
first_irreflexive (x ∷ P) h =
    ⊎_elim (λ b. before_irreflexive x b) (λ s. first_irreflexive P s.1) (first_reads x x P P h)

pub first_trans : (P R K : List Step) → comes_first P R ≡ true → comes_first R K ≡ true → comes_first P K ≡ true
first_trans [] [] K h k = not_both h refl
first_trans [] (y ∷ R) [] h k = not_both k refl
first_trans [] (y ∷ R) (z ∷ K) h k = refl
first_trans (x ∷ P) [] K h k = not_both h refl
first_trans (x ∷ P) (y ∷ R) [] h k = not_both k refl
first_trans (x ∷ P) (y ∷ R) (z ∷ K) h k =
    let rest = first_trans P R K in
    ⊎_elim
    (λ a.
    ⊎_elim (λ b. first_by_step x z P K (before_trans x y z a b))
    (λ b. first_by_step x z P K (before_same x y z a b.0))
    (first_reads y z R K k))
    (λ a.
    ⊎_elim (λ b. first_by_step x z P K (same_before x y z a.0 b))
    (λ b. first_by_rest x z P K (same_same x y z a.0 b.0) (rest a.1 b.1))
    (first_reads y z R K k))
    (first_reads x y P R h)

pub first_total : (J : Job) (P R : List Step) → EachStep (OfJob J) P → EachStep (OfJob J) R
    → (P ≡ R) ⊎ ((comes_first P R ≡ true) ⊎ (comes_first R P ≡ true))
first_total J [] [] p r = inl refl
first_total J [] (y ∷ R) p r = inr (inl refl)
first_total J (x ∷ P) [] p r = inr (inr refl)
first_total J (x ∷ P) (y ∷ R) p r =
    let rest = first_total J P R (each_rest (OfJob J) x P p) (each_rest (OfJob J) y R r) in
    ⊎_elim
    (λ s.
    ⊎_elim (λ e. inl (ap₂ ◌∷◌ (same_step_lem J x y (p x P here) (r y R here) s.1 s.0) e))
    (⊎_elim (λ f. inr (inl (first_by_rest x y P R s f)))
    (λ f. inr (inr (first_by_rest y x R P (sym s.0, sym s.1) f))))
    rest)
    (⊎_elim (λ b. inr (inl (first_by_step x y P R b))) (λ b. inr (inr (first_by_step y x R P b))))
    (same_or_before x y)

-- ---- behind the same steps
pub begun_comes_first : (k : List Step) (x : Step) (N : List Step) → comes_first k (k ++ (x ∷ N)) ≡ true
begun_comes_first [] x N = refl
begun_comes_first (y ∷ k) x N = first_by_rest y y k (k ++ (x ∷ N)) (refl, refl) (begun_comes_first k x N)

pub earlier_next_step_first : (k : List Step) (x y : Step) (N M : List Step) → before x y ≡ true
    → comes_first (k ++ (x ∷ N)) (k ++ (y ∷ M)) ≡ true
earlier_next_step_first [] x y N M h = first_by_step x y N M h
earlier_next_step_first (z ∷ k) x y N M h =
    first_by_rest z z (k ++ (x ∷ N)) (k ++ (y ∷ M)) (refl, refl) (earlier_next_step_first k x y N M h)
