-- The tail L of a plan E ++ L, whose other steps E stop by minute t: from t on, the tail is all that counts.
-- Assumes nothing.
use Prim.Native.Nat.{ℕ, ◌+◌, ◌<◌, ◌≤◌}
use mathlib.Core.Path.{◌≡◌, refl, ◌∙◌}
use mathlib.Core.Logic.{◌⊎◌, inl, inr, ⊎_elim}
use mathlib.Core.List.{List, [], ◌∷◌, ◌++◌}
use native.Mathlib.Omega.{arith}
use Rattle.job.specs.Resources.{handover}
use Rattle.job.specs.Job.{Job}
use Rattle.timeline.specs.Step.{Step}
use Rattle.timeline.specs.Timeline.{in_use}
use Rattle.timeline.specs.Places.{Place, here, Member, EachStep}
use Rattle.timeline.specs.Keeps.{Lasting}
use Rattle.timeline.proofs.Places.{append_cases, each_here, each_rest, total_append}
use Rattle.timeline.proofs.Shares.{use_at, nothing_in_use}
use Rattle.regression.specs.Wanted.{wanted_at}
use Rattle.regression.proofs.WantedFacts.{wanted_from_stop_on}

-- each step of E stops by minute t
abbrev pub StopBy : ℕ → List Step → Type 0
StopBy t E = EachStep (λ x. x.stop ≤ t) E

module _ (t : ℕ) where
  -- a step of the plan is in the tail, or stops by t
  pub in_tail_or_before : (E L : List Step) → StopBy t E → {x : Step} {Q : List Step} → Place x Q (E ++ L)
      → Member x L ⊎ (x.stop ≤ t)
  in_tail_or_before E L stops {x} i =
      ⊎_elim (λ r. inr (stops x r.0 r.1)) (λ r. inl r) (append_cases E L i)

  -- from t on the tail wants the same
  pub tail_wants : (goal T : ℕ) (E L : List Step) → StopBy t E → Lasting (E ++ L) → (m : ℕ) → t ≤ m → m ≤ T
      → wanted_at goal (E ++ L) T m ≡ wanted_at goal L T m
  tail_wants goal T [] L stops lasting m a b = refl
  tail_wants goal T (x ∷ E) L stops lasting m a b =
      let by = each_here (λ y. y.stop ≤ t) x E stops in
      wanted_from_stop_on goal T {x = x} here (lasting x (E ++ L) here) m (omega arith) b
      ∙ tail_wants goal T E L (each_rest (λ y. y.stop ≤ t) x E stops)
      (each_rest (λ y. y.start < y.stop) x (E ++ L) lasting) m a b

  -- where the shares of the other steps are free again, the tail has the same in use
  pub tail_in_use : (J : Job) (pool : ℕ) (E L : List Step) → StopBy t E → (m : ℕ) → t + handover J pool ≤ m
      → in_use J pool m (E ++ L) ≡ in_use J pool m L
  tail_in_use J pool E L stops m l =
      let both = total_append (use_at J pool m) E L in
      let none = nothing_in_use J pool m E (λ x Q i. let by = stops x Q i in omega arith) in
      omega arith
