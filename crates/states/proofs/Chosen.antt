-- The chosen steps as a list: its members, and one step more.
-- Assumes nothing.
use Prim.Native.Nat.{ℕ, zero, suc, ◌+◌, ◌-◌, ◌≤◌, ◌<◌}
use mathlib.Core.Path.{◌≡◌, refl, ap, ap₂, ◌∙◌}
use mathlib.Core.Logic.{⊎_elim}
use mathlib.Core.List.{List, [], ◌∷◌, ◌++◌}
use native.Mathlib.Nat.{eq-or-lt_of_le, le_refl}
use native.Mathlib.Omega.{arith}
use lib.ListN.{length, get_or, length-set}
use lib.Seq.{get_or-set_same, get_or-set_other}
use Rattle.job.specs.Job.{Job}
use Rattle.timeline.specs.Step.{Step, step_of}
use Rattle.timeline.specs.From.{IsNew}
use Rattle.timeline.specs.Places.{Place, here, there, Member, EachStep}
use Rattle.timeline.specs.Keeps.{OfJob}
use Rattle.tables.specs.Tables.{chosen_to, chosen, Known, pushed, kept_of, from_of, KeepsKept}
use Rattle.tables.specs.declared.Frame.{Frame}
use Rattle.tables.specs.declared.Steps.{Steps}

-- the step chosen at place k
abbrev pub step_at : Job → Steps → ℕ → Step
step_at J steps k = step_of J (get_or steps.numbers k 0) (get_or steps.starts k 0)

module _ (J : Job) (steps : Steps) where
  pub length_chosen : (n : ℕ) → length (chosen_to J steps n) ≡ n
  length_chosen zero = refl
  length_chosen (suc n) = ap suc (length_chosen n)

  -- a chosen step has a place, and a place a chosen step
  pub place_of_chosen : (n : ℕ) {x : Step} {Q : List Step} → Place x Q (chosen_to J steps n)
      → (k : ℕ) × (k < n) × (x ≡ step_at J steps k)
  place_of_chosen (suc n) here = (n, le_refl (suc n), refl)
  place_of_chosen (suc n) (there i) = let r = place_of_chosen n i in let l = r.1 in (r.0, omega arith, r.2)
  place_of_chosen zero {Q = Q} x3 = elim x3 [ ]

  pub chosen_at_place : (n k : ℕ) → k < n → Member (step_at J steps k) (chosen_to J steps n)
  chosen_at_place zero k l = absurd (omega arith)
  chosen_at_place (suc n) k l =
      ⊎_elim
      (λ e. let same : k ≡ n = omega arith in rw same (chosen_to J steps n, here))
      (λ m. let r = chosen_at_place n k (omega arith) in (step_at J steps n ∷ r.0, there r.1))
      (eq-or-lt_of_le l)

  pub chosen_of_job : (n : ℕ) → EachStep (OfJob J) (chosen_to J steps n)
  chosen_of_job n x Q i = let r = place_of_chosen n i in rw r.2 refl

  pub chosen_known : (actions n : ℕ) → Known actions steps → n ≤ steps.count
      → EachStep (λ x. x.number < actions) (chosen_to J steps n)
  chosen_known actions n known l x Q i =
      let r = place_of_chosen n i in let m = r.1 in rw r.2 (known.known r.0 (omega arith))

-- ---- one step more
module _ (J : Job) (steps : Steps) (actions number start : ℕ) (known : Known actions steps)
    (room : steps.count < 32) where
  others : (n : ℕ) → n ≤ steps.count → chosen_to J (pushed steps number start) n ≡ chosen_to J steps n
  others zero l = refl
  others (suc n) l =
      let apart : n ≡ steps.count → ⊥ = λ e. omega arith in
      ap₂ {C = List Step} ◌∷◌
      (ap₂ (step_of J) (get_or-set_other steps.numbers steps.count n number 0 apart)
      (get_or-set_other steps.starts steps.count n start 0 apart))
      (others n (omega arith))

  pub chosen_pushed : chosen J (pushed steps number start) ≡ step_of J number start ∷ chosen J steps
  chosen_pushed =
      let n = known.numbers in
      let s = known.starts in
      let e : steps.count + 1 ≡ suc steps.count = omega arith in
      ap (chosen_to J (pushed steps number start)) e
      ∙ ap₂ {C = List Step} ◌∷◌
      (ap₂ (step_of J) (get_or-set_same steps.numbers steps.count number 0 (omega arith))
      (get_or-set_same steps.starts steps.count start 0 (omega arith)))
      (others steps.count (le_refl steps.count))

module _ (steps : Steps) (actions number start : ℕ) (known : Known actions steps) (room : steps.count < 32) where
  pub known_pushed : number < actions → Known actions (pushed steps number start)
  known_pushed l =
      record {
        few = omega arith;
        numbers = length-set steps.numbers steps.count number ∙ known.numbers;
        starts = length-set steps.starts steps.count start ∙ known.starts;
        known = λ k m. at k m;
      }
    where
      at : (k : ℕ) → k < steps.count + 1 → get_or (pushed steps number start).numbers k 0 < actions
      at k m =
          let n = known.numbers in
          ⊎_elim
          (λ e.
          let same : k ≡ steps.count = omega arith in
          rw (same, get_or-set_same steps.numbers steps.count number 0 (omega arith)) l)
          (λ less.
          rw (get_or-set_other steps.numbers steps.count k number 0 (λ e. omega arith))
          (known.known k (omega arith)))
          (eq-or-lt_of_le m)

-- ---- the kept steps
module _ (J : Job) (frame : Frame) (steps : Steps) (keeps : KeepsKept frame steps) where
  kept_first : (n : ℕ) → n ≤ frame.kept.count → chosen_to J steps n ≡ chosen_to J frame.kept n
  kept_first zero l = refl
  kept_first (suc n) l =
      ap₂ {C = List Step} ◌∷◌ (ap₂ (step_of J) (keeps.numbers n l) (keeps.starts n l)) (kept_first n (omega arith))

  -- the steps chosen since, before the kept ones
  since_to : ℕ → ℕ → List Step
  since_to k zero = []
  since_to k (suc n) = step_at J steps (k + n) ∷ since_to k n

  since_then : (k n : ℕ) → chosen_to J steps (k + n) ≡ since_to k n ++ chosen_to J steps k
  unfolding since_to
  since_then k zero = let e : k + 0 ≡ k = omega arith in ap (chosen_to J steps) e
  since_then k (suc n) =
      let e : k + suc n ≡ suc (k + n) = omega arith in
      ap (chosen_to J steps) e ∙ ap (λ (P : List Step). step_at J steps (k + n) ∷ P) (since_then k n)

  place_of_since : (k n : ℕ) {x : Step} {Q : List Step} → Place x Q (since_to k n)
      → (m : ℕ) × (k ≤ m) × (m < k + n) × (x ≡ step_at J steps m)
  unfolding since_to
  place_of_since k (suc n) here = (k + n, omega arith, omega arith, refl)
  place_of_since k (suc n) (there i) =
      let r = place_of_since k n i in let l = r.2 in (r.0, r.1, omega arith, r.3)
  place_of_since k zero {Q = Q} x3 = elim x3 [ ]

  -- C are the chosen steps beside the kept ones; each stands at a place behind them
  pub chosen_splits : (C : List Step) × (chosen J steps ≡ C ++ kept_of J frame)
      × EachStep (λ x. (m : ℕ) × (frame.kept.count ≤ m) × (m < steps.count) × (x ≡ step_at J steps m)) C
  chosen_splits =
      let k : ℕ = frame.kept.count in
      let n : ℕ = steps.count - k in
      let l = keeps.count in
      let e : steps.count ≡ k + n = omega arith in (
        since_to k n,
        ap (chosen_to J steps) e ∙ since_then k n
            ∙ ap (λ (P : List Step). since_to k n ++ P) (kept_first k (omega arith)),
        λ x Q i. let r = place_of_since k n i in let a = r.2 in (r.0, r.1, omega arith, r.3),
      )

  pub since_new : (C : List Step)
      → EachStep (λ x. (m : ℕ) × (frame.kept.count ≤ m) × (m < steps.count) × (x ≡ step_at J steps m)) C
      → EachStep (IsNew (from_of frame)) C
  since_new C places x Q i = let r = places x Q i in rw r.3 (keeps.new J r.0 r.1 r.2)

pub keeps_pushed : (frame : Frame) (steps : Steps) (actions number start : ℕ) → Known actions steps → steps.count < 32
    → KeepsKept frame steps → ((J : Job) → IsNew (from_of frame) (step_of J number start))
    → KeepsKept frame (pushed steps number start)
keeps_pushed frame steps actions number start known room keeps new =
    let l = keeps.count in
    let n = known.numbers in
    let s = known.starts in
    record {
      count = omega arith;
      numbers = λ k m.
          get_or-set_other steps.numbers steps.count k number 0 (λ e. omega arith) ∙ keeps.numbers k m;
      starts = λ k m. get_or-set_other steps.starts steps.count k start 0 (λ e. omega arith) ∙ keeps.starts k m;
      new = λ J k m inside.
          ⊎_elim
          (λ e.
          let same : k ≡ steps.count = omega arith in
          rw (
            same,
            get_or-set_same steps.numbers steps.count number 0 (omega arith),
            get_or-set_same steps.starts steps.count start 0 (omega arith),
          )
          (new J))
          (λ less.
          let other : k ≡ steps.count → ⊥ = λ e. omega arith in
          rw (
            get_or-set_other steps.numbers steps.count k number 0 other,
            get_or-set_other steps.starts steps.count k start 0 other,
          )
          (keeps.new J k m (omega arith)))
          (eq-or-lt_of_le inside);
    }

pub starts_pushed : (steps : Steps) (actions number start : ℕ) → Known actions steps → steps.count < 32
    → ((k : ℕ) → k < steps.count → get_or steps.starts k 0 < 65536) → start < 65536 → (k : ℕ)
    → k < (pushed steps number start).count → get_or (pushed steps number start).starts k 0 < 65536
starts_pushed steps actions number start known room small new k inside =
    let n = known.starts in
    ⊎_elim
    (λ e.
    let same : k ≡ steps.count = omega arith in
    rw (same, get_or-set_same steps.starts steps.count start 0 (omega arith)) new)
    (λ less.
    rw (get_or-set_other steps.starts steps.count k start 0 (λ e. omega arith)) (small k (omega arith)))
    (eq-or-lt_of_le inside)
