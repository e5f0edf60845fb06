-- No less of a pool is in use where the last step with a share starts.
-- Assumes nothing.
use Prim.Native.Nat.{ℕ, ◌<◌, ◌≤◌}
use mathlib.Core.Path.{◌≡◌, refl}
use mathlib.Core.Bool.{Bool, true, false}
use mathlib.Core.Logic.{⊎_elim}
use mathlib.Core.List.{List, [], ◌∷◌}
use native.Mathlib.Omega.{arith}
use borrow.Author.Tests.{ltb-true}
use Rattle.lists.specs.Lists.{any}
use Rattle.job.specs.Job.{Job}
use Rattle.job.specs.Valid.{over}
use Rattle.timeline.specs.Step.{Step, largest}
use Rattle.timeline.specs.Timeline.{free, has_share, in_use}
use Rattle.timeline.specs.Places.{Place, here, there, EachStep}
use Rattle.timeline.proofs.Tests.{decided, not_both, or_cases, le_or_lt}
use Rattle.timeline.proofs.Places.{each_cons, find_any}
use Rattle.timeline.proofs.Places.{none_of_any, total_mono, total_zero, largest_at_least}
use Rattle.timeline.proofs.Shares.{free_is, share_reads, share_when, use_at, use_of_share, use_without_share}

-- ---- of the steps that pass a test, one that starts last
-- if x passes the test, it starts by minute t
abbrev pub StartedBy : (Step → Bool) → ℕ → Step → Type 0
StartedBy test t x = test x ≡ true → x.start ≤ t

-- a step of P that passes the test, and none that passes starts later
abbrev pub LastToStart : (Step → Bool) → List Step → Type 0
LastToStart test P =
    (x : Step) × (Q : List Step) × Place x Q P × (test x ≡ true) × EachStep (StartedBy test x.start) P

module _ (test : Step → Bool) where
  -- the first step, where the others that pass start no later
  last_is_first : (x : Step) (P : List Step) → test x ≡ true → EachStep (StartedBy test x.start) P
      → LastToStart test (x ∷ P)
  last_is_first x P e h = (x, P, here, e, each_cons (StartedBy test x.start) x P (λ p. omega arith) h)

  -- the last of the others, where the first step starts no later if it passes
  last_of_rest : (x : Step) (P : List Step) (z : LastToStart test P) → StartedBy test z.0.start x
      → LastToStart test (x ∷ P)
  last_of_rest x P z e =
      (z.0, x ∷ z.1, there z.2, z.3, each_cons (StartedBy test z.0.start) x P e z.4)

  last_with_rest : (x : Step) (P : List Step) → LastToStart test P → LastToStart test (x ∷ P)
  last_with_rest x P z =
      ⊎_elim
      (λ e.
      ⊎_elim (λ l. last_of_rest x P z (λ p. l))
      (λ l. last_is_first x P e (λ y Q i p. let before = z.4 y Q i p in omega arith))
      (le_or_lt x.start z.0.start))
      (λ e. last_of_rest x P z (λ p. not_both p e))
      (decided (test x))

  pub last_to_start : (P : List Step) → any test P ≡ true → LastToStart test P
  unfolding any
  last_to_start [] h = not_both h refl
  last_to_start (x ∷ P) h =
      ⊎_elim (λ e. last_with_rest x P (last_to_start P e))
      (λ e.
      let first : test x ≡ true = ⊎_elim (λ p. p) (λ p. not_both p e) (or_cases (test x) (any test P) h) in
      last_is_first x P first (λ y Q i p. not_both p (none_of_any test P e y Q i)))
      (decided (any test P))

-- ---- shares and use
pub nothing_without_shares : (J : Job) (pool t : ℕ) (P : List Step) → any (has_share J pool t) P ≡ false
    → in_use J pool t P ≡ 0
nothing_without_shares J pool t P h =
    total_zero (use_at J pool t) P
    (λ x Q i. use_without_share J pool t x (λ e. not_both e (none_of_any (has_share J pool t) P h x Q i)))

exceeded_by_shares : (J : Job) (pool cap t : ℕ) (P : List Step) → over cap (in_use J pool t P) ≡ true
    → any (has_share J pool t) P ≡ true
exceeded_by_shares J pool cap t P h =
    ⊎_elim (λ e. e)
    (λ e.
    let exceeds = ltb-true cap (in_use J pool t P) h in
    let nothing = nothing_without_shares J pool t P e in
    absurd (omega arith))
    (decided (any (has_share J pool t) P))

-- a step that, if it has its share at t, has it at s too, uses no less at s
use_no_less : (J : Job) (pool t s : ℕ) (x : Step) → (has_share J pool t x ≡ true → has_share J pool s x ≡ true)
    → use_at J pool t x ≤ use_at J pool s x
use_no_less J pool t s x h =
    ⊎_elim
    (λ e. let a = use_of_share J pool t x e in let b = use_of_share J pool s x (h e) in omega arith)
    (λ e. let a = use_without_share J pool t x (λ p. not_both p e) in omega arith)
    (decided (has_share J pool t x))

-- no less is in use at an earlier minute by which every step with a share has started
pub in_use_no_less : (J : Job) (pool t s : ℕ) (P : List Step) → s ≤ t → EachStep (StartedBy (has_share J pool t) s) P
    → in_use J pool t P ≤ in_use J pool s P
in_use_no_less J pool t s P l h =
    total_mono (use_at J pool t) (use_at J pool s) P
    (λ x Q i.
    use_no_less J pool t s x
    (λ e.
    let until = (share_reads J pool t x e).1 in
    share_when J pool s x (h x Q i e) (omega arith)))

-- the pool is exceeded only before all its shares are free again
pub exceeded_before_free : (J : Job) (pool cap t : ℕ) (P : List Step) → over cap (in_use J pool t P) ≡ true
    → t < largest (free J pool) P
exceeded_before_free J pool cap t P h =
    let y = find_any (has_share J pool t) P (exceeded_by_shares J pool cap t P h) in
    let until = (share_reads J pool t y.0 y.3).1 in
    let f = free_is J pool y.0 in
    let l = largest_at_least (free J pool) y.2 in
    omega arith
