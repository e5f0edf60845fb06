-- The peaks of a joined plan: when the second plan starts no share of the first is in use, so that in each minute as
-- much is in use as by one of the two plans, and the larger peak is the peak of both.
-- Assumes nothing.
use Prim.Native.Nat.{ℕ, zero, suc, ◌+◌, ◌-◌, ◌<◌, ◌≤◌, max}
use mathlib.Core.Path.{◌≡◌, refl, sym, ap, ap₂, ◌∙◌}
use mathlib.Core.Bool.{Bool, cond}
use mathlib.Core.Logic.{⊎_elim}
use mathlib.Core.List.{List, [], ◌∷◌, ◌++◌, map}
use native.Mathlib.Omega.{arith}
use lib.ListN.{length, get_or, replicate, length-append, length-replicate, get_or-append}
use lib.Seq.{get_or-append-add}
use Rattle.lists.specs.Lists.{tabulate, filled, firsts}
use Rattle.lists.proofs.Tabulate.{length_tabulate, get_d_tabulate, tabulate_same, firsts_all}
use Rattle.job.specs.Job.{Job}
use Rattle.job.specs.Resources.{handover}
use Rattle.timeline.specs.Step.{Step}
use Rattle.timeline.specs.Timeline.{end, has_share, in_use, peak, peaks}
use Rattle.timeline.specs.Places.{EachStep}
use Rattle.timeline.proofs.Tests.{same_test, le_or_lt}
use Rattle.timeline.proofs.Places.{each_map, total_append, total_zero, largest_at_least}
use Rattle.timeline.proofs.Shares.{use_at, share_reads, share_when, use_without_share, nothing_in_use}
use Rattle.timeline.proofs.Peaks.{below_at_least, use_by_minutes, peak_at_most}
use Rattle.joining.specs.Join.{later_by, largest_handover, join_steps}
use Rattle.joining.specs.Inner.{larger_peaks}

-- ---- two plans, the second M minutes later: all shares of the first are free again by M
module _ (J : Job) (pool M : ℕ) (A B : List Step)
    (free_by : EachStep (λ x. x.stop + handover J pool ≤ M) A) where
  use_later : (t : ℕ) (P : List Step) → in_use J pool (M + t) (map (later_by M) P) ≡ in_use J pool t P
  use_later t [] = refl
  use_later t (x ∷ P) =
      let rest = use_later t P in
      let here = same (has_share J pool (M + t) (later_by M x)) (has_share J pool t x)
      (same_test _ _
      (λ s. let r = share_reads J pool (M + t) (later_by M x) s in let a = r.0 in let b = r.1 in
      share_when J pool t x (omega arith) (omega arith))
      (λ s. let r = share_reads J pool t x s in let a = r.0 in let b = r.1 in
      share_when J pool (M + t) (later_by M x) (omega arith) (omega arith))) in
      omega arith
    where
      same : (b c : Bool) → b ≡ c
          → cond b (get_or x.action.pools pool 0) 0 ≡ cond c (get_or x.action.pools pool 0) 0
      same b c e = ap (λ (d : Bool). cond d (get_or x.action.pools pool 0) 0) e

  pub joined_in_use : (most : ℕ) → ((t : ℕ) → in_use J pool t A ≤ most) → ((t : ℕ) → in_use J pool t B ≤ most)
      → (t : ℕ) → in_use J pool t (A ++ map (later_by M) B) ≤ most
  joined_in_use most first second t =
      let sum = total_append (use_at J pool t) A (map (later_by M) B) in
      ⊎_elim
      (λ late.
      let none = nothing_in_use J pool t A (λ x Q i. let f = free_by x Q i in omega arith) in
      let e : t ≡ M + (t - M) = omega arith in
      let same = use_later (t - M) B in
      let there = ap (λ (m : ℕ). in_use J pool m (map (later_by M) B)) e in
      let within = second (t - M) in
      omega arith)
      (λ early.
      let none = total_zero (use_at J pool t) (map (later_by M) B)
      (each_map (λ x. use_at J pool t x ≡ 0) (later_by M) B
      (λ x Q i. use_without_share J pool t (later_by M x)
      (λ s. let r = (share_reads J pool t (later_by M x) s).0 in omega arith))) in
      let within = first t in
      omega arith)
      (le_or_lt M t)

  peak_of_both : peak J pool (A ++ map (later_by M) B) ≡ max (peak J pool A) (peak J pool B)
  peak_of_both =
      let day = A ++ map (later_by M) B in
      let most = max (peak J pool A) (peak J pool B) in
      let all = peak_at_most J pool day most
      (joined_in_use most (λ t. let u = use_by_minutes J pool A t in omega arith)
      (λ t. let u = use_by_minutes J pool B t in omega arith)) in
      let a = peak_at_most J pool A (peak J pool day)
      (λ t.
      let sum = total_append (use_at J pool t) A (map (later_by M) B) in
      let u = use_by_minutes J pool day t in
      omega arith) in
      let b = peak_at_most J pool B (peak J pool day)
      (λ t.
      let sum = total_append (use_at J pool (M + t)) A (map (later_by M) B) in
      let same = use_later t B in
      let u = use_by_minutes J pool day (M + t) in
      omega arith) in
      omega arith

-- ---- the largest handover
pub handover_at_most : (J : Job) (pool : ℕ) → pool < length J.pools → handover J pool ≤ largest_handover J
handover_at_most J pool l = below_at_least (length J.pools) pool (handover J) l

no_peak : (J : Job) (pool : ℕ) → peak J pool [] ≡ 0
unfolding peak
no_peak J pool = refl

peak_joined : (J : Job) (pool wait : ℕ) → handover J pool ≤ wait → (A B : List Step)
    → peak J pool (join_steps wait A B) ≡ max (peak J pool A) (peak J pool B)
unfolding join_steps
peak_joined J pool wait l [] B = let none = no_peak J pool in omega arith
peak_joined J pool wait l (x ∷ A) [] = let none = no_peak J pool in omega arith
peak_joined J pool wait l (x ∷ A) (y ∷ B) =
    peak_of_both J pool (end (x ∷ A) + wait) (x ∷ A) (y ∷ B)
    (λ z Q i. let s = largest_at_least (λ v. v.stop) i in omega arith)

-- ---- all four
zeros : (n k : ℕ) → get_or {A = ℕ} (replicate n 0) k 0 ≡ 0
zeros zero k = refl
zeros (suc n) zero = refl
zeros (suc n) (suc k) = zeros n k

-- at the place of a pool that the job lacks there is 0
module _ (n : ℕ) (f : ℕ → ℕ) where
  filled_inside : (k : ℕ) → k < n → get_or (filled 4 0 (tabulate n f)) k 0 ≡ f k
  filled_inside k l =
      let count = length_tabulate n f in
      get_or-append (tabulate n f) _ 0 k (omega arith) ∙ get_d_tabulate n f k 0 l

  filled_past : (k : ℕ) → n ≤ k → get_or (filled 4 0 (tabulate n f)) k 0 ≡ 0
  filled_past k l =
      let count = length_tabulate n f in
      let at : k ≡ length (tabulate n f) + (k - n) = omega arith in
      ap (λ (i : ℕ). get_or (filled 4 0 (tabulate n f)) i 0) at
      ∙ get_or-append-add (tabulate n f) (replicate (4 - length (tabulate n f)) 0) (k - n) 0
      ∙ zeros (4 - length (tabulate n f)) (k - n)

  filled_length : n ≤ 4 → length (filled 4 0 (tabulate n f)) ≡ 4
  filled_length l =
      let count = length_tabulate n f in
      let rest = length-replicate {A = ℕ} (4 - length (tabulate n f)) 0 in
      length-append (tabulate n f) (replicate (4 - length (tabulate n f)) 0) ∙ omega arith

pub peaks_joined : (J : Job) → length J.pools ≤ 4 → (A B : List Step)
    → peaks J (join_steps (largest_handover J) A B) ≡ larger_peaks (peaks J A) (peaks J B)
peaks_joined J few A B =
    let n = length J.pools in
    let P = join_steps (largest_handover J) A B in
    let four = filled_length n (λ pool. peak J pool P) few in
    sym (firsts_all (peaks J P) 0)
    ∙ ap (λ (m : ℕ). firsts m 0 (peaks J P)) four
    ∙ tabulate_same 4 _ _ (λ k l. ⊎_elim (past k) (inside k) (le_or_lt n k))
  where
    past : (k : ℕ) → length J.pools ≤ k
        → get_or (peaks J (join_steps (largest_handover J) A B)) k 0 ≡ max (get_or (peaks J A) k 0) (get_or (peaks J B) k 0)
    past k l =
        let n = length J.pools in
        let p = filled_past n (λ pool. peak J pool (join_steps (largest_handover J) A B)) k l in
        let a = filled_past n (λ pool. peak J pool A) k l in
        let b = filled_past n (λ pool. peak J pool B) k l in
        omega arith

    inside : (k : ℕ) → k < length J.pools
        → get_or (peaks J (join_steps (largest_handover J) A B)) k 0 ≡ max (get_or (peaks J A) k 0) (get_or (peaks J B) k 0)
    inside k l =
        let n = length J.pools in
        filled_inside n (λ pool. peak J pool (join_steps (largest_handover J) A B)) k l
        ∙ peak_joined J k (largest_handover J) (handover_at_most J k l) A B
        ∙ sym (ap₂ max (filled_inside n (λ pool. peak J pool A) k l) (filled_inside n (λ pool. peak J pool B) k l))
