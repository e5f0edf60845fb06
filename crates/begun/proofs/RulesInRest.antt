-- What is left of steps has no clash that the steps have not, and uses no more of pools than they.
-- Assumes nothing.
use Prim.Native.Nat.{ℕ, ◌+◌, ◌≤◌}
use mathlib.Core.Path.{◌≡◌, refl, sym, ap, ◌∙◌}
use mathlib.Core.Bool.{false, ◌||◌}
use mathlib.Core.Logic.{⊎_elim}
use mathlib.Core.List.{List}
use native.Mathlib.Omega.{arith}
use lib.Dec.{eqb}
use borrow.Author.Tests.{eqb-false, ne_eqb}
use Rattle.lists.specs.Lists.{any}
use Rattle.lists.proofs.Bools.{or_left, or_right}
use Rattle.job.specs.Resources.{handover}
use Rattle.job.specs.Job.{Job}
use Rattle.timeline.specs.Step.{Step, any_pair}
use Rattle.timeline.specs.Timeline.{clash, overlap, hinders, has_share, in_use}
use Rattle.timeline.specs.Accepted.{clashing}
use Rattle.timeline.proofs.Tests.{decided, not_both, and_other_false, or_neither}
use Rattle.timeline.proofs.Places.{any_of_none, none_of_any}
use Rattle.timeline.proofs.Clashes.{not_clashing, overlap_when}
use Rattle.timeline.proofs.Shares.{use_at, share_reads, share_when}
use Rattle.timeline.proofs.Shares.{use_at_most, use_of_share, use_without_share}
use Rattle.begun.specs.RestOfDay.{rest_step, rest_of_job}
use Rattle.begun.proofs.Rests.{LeftAs, Rest, none, done, left, each_of_rest, rest_total}

-- ---- clashes: what is left of two steps shares a minute only where the steps do
module _ {J : Job} {M : ℕ} {was : ℕ → ℕ} where
  left_no_clash : (x y : Step) (n d m e : ℕ) → LeftAs J M was n d x → LeftAs J M was m e y → clashing x y ≡ false
      → clashing (rest_step M n d x) (rest_step M m e y) ≡ false
  left_no_clash x y n d m e l k h =
      not_clashing (rest_step M n d x) (rest_step M m e y)
      (λ a b.
      let runs = l.runs in
      let runs_too = k.runs in
      let same = eqb x.number y.number in
      let hinder = hinders x.action y.action || hinders y.action x.action in
      let able = and_other_false (overlap x y) (clash x y) (overlap_when x y (omega arith) (omega arith)) h in
      or_neither
      (ne_eqb n m
      (λ q. eqb-false x.number y.number (or_left same hinder able) (sym l.number ∙ ap was q ∙ k.number)))
      (or_right same hinder able))

  pub rest_no_clash : {P R : List Step} → Rest J M was P R → any_pair clashing P ≡ false → any_pair clashing R ≡ false
  rest_no_clash none h = refl
  rest_no_clash (done {x} {P} l r) h = rest_no_clash r (or_right (any (clashing x) P) (any_pair clashing P) h)
  rest_no_clash (left {x} {P} {R} n d l r) h =
      or_neither
      (any_of_none (clashing (rest_step M n d x)) R
      (each_of_rest (λ y. clashing (rest_step M n d x) y ≡ false) r
      (λ y Q i m e k.
      left_no_clash x y n d m e l k
      (none_of_any (clashing x) P (or_left (any (clashing x) P) (any_pair clashing P) h) y Q i))))
      (rest_no_clash r (or_right (any (clashing x) P) (any_pair clashing P) h))

module _ (J : Job) (M : ℕ) (K : List Step) where
  -- ---- pools: what is left has its share no longer than the step has
  handover_of_rest : (pool : ℕ) → handover (rest_of_job J M K) pool ≡ handover J pool
  unfolding handover
  handover_of_rest pool = refl

  left_use : {was : ℕ → ℕ} (pool t : ℕ) (x : Step) (n d : ℕ) → LeftAs (rest_of_job J M K) M was n d x
      → use_at (rest_of_job J M K) pool t (rest_step M n d x) ≤ use_at J pool (M + t) x
  left_use pool t x n d l =
      let y : Step = rest_step M n d x in
      let same = handover_of_rest pool in
      let runs = l.runs in
      ⊎_elim
      (λ s.
      let minutes = share_reads (rest_of_job J M K) pool t y s in
      let most = use_at_most (rest_of_job J M K) pool t y in
      let uses = use_of_share J pool (M + t) x (share_when J pool (M + t) x (omega arith) (omega arith)) in
      omega arith)
      (λ s. let nothing = use_without_share (rest_of_job J M K) pool t y (λ e. not_both e s) in omega arith)
      (decided (has_share (rest_of_job J M K) pool t y))

  pub rest_in_use : (pool t : ℕ) {was : ℕ → ℕ} {P R : List Step} → Rest (rest_of_job J M K) M was P R
      → in_use (rest_of_job J M K) pool t R ≤ in_use J pool (M + t) P
  rest_in_use pool t r = rest_total (use_at (rest_of_job J M K) pool t) (use_at J pool (M + t)) r (left_use pool t)
