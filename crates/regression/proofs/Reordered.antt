-- What is wanted, which steps add a critical fact and which are blocked is the same in every order of a plan's steps.
-- Assumes nothing.
use Prim.Native.Nat.{ℕ, zero, suc, ◌+◌, ◌-◌, pred}
use mathlib.Core.Path.{◌≡◌, refl, ap, ap₂}
use mathlib.Core.Bool.{Bool, ◌||◌}
use mathlib.Core.List.{List}
use lib.Dec.{eqb}
use lib.ListN.{length, get_or}
use Rattle.lists.proofs.Below.{below_same}
use Rattle.facts.specs.FactSet.{union, difference, meets}
use Rattle.job.specs.Job.{Job}
use Rattle.job.specs.Valid.{over}
use Rattle.timeline.specs.Step.{Step}
use Rattle.timeline.specs.Timeline.{if_stops, free}
use Rattle.timeline.specs.Places.{Permutation}
use Rattle.timeline.proofs.Shares.{use_at}
use Rattle.timeline.proofs.Permutations.{permutation_any, permutation_total, permutation_held}
use Rattle.regression.specs.Wanted.{if_starts, wanted}
use Rattle.regression.specs.Normal.{added_beside, critical, blocks, blocked}
use Rattle.regression.proofs.Gathered.{permutation_union_of}

pub permutation_wanted : (goal T : ℕ) {R P : List Step} → Permutation R P → (k : ℕ)
    → wanted goal R T k ≡ wanted goal P T k
unfolding wanted
permutation_wanted goal T o zero = refl
permutation_wanted goal T o (suc k) =
    ap₂ union
    (ap₂ difference (permutation_wanted goal T o k)
    (permutation_union_of (λ x. if_stops (T - k) x.action.adds x) o))
    (permutation_union_of (λ x. if_starts (T - suc k) x.action.needs x) o)

pub permutation_critical : (J : Job) (goal T : ℕ) {R P : List Step} → Permutation R P → (x : Step)
    → critical J goal T R x ≡ critical J goal T P x
unfolding critical
permutation_critical J goal T o x =
    ap₂ meets
    (ap₂ difference (ap (difference x.action.adds) (permutation_held J.start o (pred x.stop)))
    (permutation_union_of (added_beside x) o))
    (permutation_wanted goal T o (T - x.stop))

pub permutation_blocked : (J : Job) (T : ℕ) {R P : List Step} → Permutation R P → (x : Step)
    → blocked J T R x ≡ blocked J T P x
unfolding blocked
permutation_blocked J T o x =
    ap₂ (λ (b c : Bool). eqb x.stop T || (b || c)) (permutation_any (blocks x) o)
    (below_same (length J.pools) _ _
    (λ pool l.
    ap (λ (n : ℕ). over (get_or J.pools pool 0) (n + get_or x.action.pools pool 0))
    (permutation_total (use_at J pool (free J pool x)) o)))
