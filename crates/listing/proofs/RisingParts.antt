-- Rising steps in two parts: k, and the steps N behind them.
-- Assumes nothing.
use Prim.Native.Nat.{◌≤◌}
use mathlib.Core.Path.{◌≡◌}
use mathlib.Core.Bool.{true}
use mathlib.Core.Logic.{⊎_elim}
use mathlib.Core.List.{List, [], ◌∷◌, ◌++◌}
use native.Mathlib.Omega.{arith}
use Rattle.timeline.specs.Places.{here, there, EachStep}
use Rattle.timeline.specs.Step.{Step, before, strictly_rising}
use Rattle.timeline.proofs.Places.{append_cases, place_after}
use Rattle.timeline.proofs.Rising.{before_reads, rising_rest, rising_before, rising_cons}

-- x comes after each step of k
abbrev pub After : List Step → Step → Type 0
After k x = EachStep (λ w. before w x ≡ true) k

pub not_after_start : (w x : Step) → before w x ≡ true → w.start ≤ x.start
not_after_start w x h = ⊎_elim (λ a. omega arith) (λ a. let e = a.0 in omega arith) (before_reads w x h)

pub rising_after : (k N : List Step) → strictly_rising (k ++ N) ≡ true → EachStep (After k) N
rising_after (z ∷ k) N h x Q i w W here = rising_before z (k ++ N) h x _ (place_after k i)
rising_after (z ∷ k) N h x Q i w W (there {Q = V'} j) = rising_after k N (rising_rest z (k ++ N) h) x Q i w V' j
rising_after [] N h x Q i w W x6 = elim x6 [ ]

pub rising_second_part : (k N : List Step) → strictly_rising (k ++ N) ≡ true → strictly_rising N ≡ true
rising_second_part [] N h = h
rising_second_part (z ∷ k) N h = rising_second_part k N (rising_rest z (k ++ N) h)

pub rising_joined : (k N : List Step) → strictly_rising k ≡ true → strictly_rising N ≡ true → EachStep (After k) N
    → strictly_rising (k ++ N) ≡ true
rising_joined [] N h g after = g
rising_joined (z ∷ k) N h g after =
    rising_cons z (k ++ N)
    (λ w W j.
    ⊎_elim (λ r. rising_before z k h w r.0 r.1) (λ r. after w r.0 r.1 z k here) (append_cases k N j))
    (rising_joined k N (rising_rest z k h) g (λ x Q i w W j. after x Q i w (z ∷ W) (there j)))
