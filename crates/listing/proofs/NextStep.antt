-- The next step of a plan applies to the steps before it: these alone give what it needs, and have room for it.
-- Assumes nothing.
use Prim.Native.Nat.{ℕ, ◌+◌, ◌<◌, ◌≤◌}
use mathlib.Core.Path.{◌≡◌, sym, ap, ◌∙◌}
use mathlib.Core.Bool.{true, false}
use mathlib.Core.Logic.{⊎_elim}
use mathlib.Core.List.{List, ◌∷◌, ◌++◌}
use native.Mathlib.Omega.{arith}
use lib.ListN.{length, get_or}
use Rattle.job.specs.Resources.{store_cap}
use Rattle.timeline.specs.Places.{here, there, EachStep}
use Rattle.timeline.specs.Keeps.{Keeps}
use Rattle.facts.specs.FactSet.{has, Subset}
use Rattle.job.specs.Job.{Job}
use Rattle.timeline.specs.Step.{Step, strictly_rising}
use Rattle.timeline.specs.Timeline.{held, in_use, store_use, used_up}
use Rattle.timeline.specs.Accepted.{clashing}
use Rattle.timeline.proofs.Places.{place_after, pair_none}
use Rattle.timeline.proofs.Clashes.{clashing_sym}
use Rattle.timeline.proofs.Shares.{share_when, use_of_share}
use Rattle.timeline.proofs.Parts.{Part, one_more, part_left, part_in_use, part_used_up, part_no_clash}
use Rattle.timeline.proofs.Permutations.{permutation_held, permutation_sym, permutation_swap}
use Rattle.timeline.proofs.Rising.{before_reads, rising_before}
use Rattle.begun.proofs.HeldInRest.{held_by_kept}
use Rattle.listing.proofs.RisingParts.{rising_second_part}

-- x can be the next step behind the steps k, as far as these say at its start
pub record Applies (J : Job) (T : ℕ) (k : List Step) (x : Step) : Type 0 where
  pub in_time : x.stop ≤ T
  pub needs : Subset x.action.needs (held J.start k x.start)
  pub no_clash : EachStep (λ y. clashing x y ≡ false) k
  pub pools : (pool : ℕ) → pool < length J.pools
      → in_use J pool x.start k + get_or x.action.pools pool 0 ≤ get_or J.pools pool 0
  pub stores : (store : ℕ) → store < length J.stores → used_up J store k + store_use J store x ≤ store_cap J store

-- up to minute M the steps k alone say what holds, where all others stop later
pub held_by_first_steps : (S M : ℕ) (k N : List Step) → EachStep (λ y. M < y.stop) N
    → held S (k ++ N) M ≡ held S k M
held_by_first_steps S M k N later =
    permutation_held S (permutation_sym (permutation_swap N k)) M ∙ held_by_kept S M k N later M (omega arith)

module _ (J : Job) (goal T : ℕ) (k : List Step) (x : Step) (N : List Step) (keeps : Keeps J T goal (k ++ (x ∷ N)))
    (rising : strictly_rising (k ++ (x ∷ N)) ≡ true) where
  -- x and the steps behind it stop after x starts
  pub stop_later : EachStep (λ y. x.start < y.stop) (x ∷ N)
  stop_later y Q here = keeps.lasting x _ (place_after k here)
  stop_later y Q (there j) =
      let lasts = keeps.lasting y _ (place_after k (there j)) in
      ⊎_elim (λ a. omega arith) (λ a. let e = a.0 in omega arith)
      (before_reads x y (rising_before x N (rising_second_part k (x ∷ N) rising) y _ j))

  pub next_step_applies : Applies J T k x
  next_step_applies =
      let at = place_after k here in
      let part : Part (x ∷ k) (k ++ (x ∷ N)) = one_more at (part_left k N) in
      let same = held_by_first_steps J.start x.start k (x ∷ N) stop_later in
      record {
        in_time = keeps.in_time x _ at;
        needs = λ n h. sym (ap (λ (set : ℕ). has set n) same) ∙ keeps.needs_hold x _ at n h;
        no_clash = λ y Q j. pair_none clashing clashing_sym {x = x} here j (part_no_clash part keeps.no_clash);
        pools = λ pool l.
            let a = keeps.pools pool x.start l in
            let b = part_in_use J pool x.start part in
            let lasts = keeps.lasting x _ at in
            let c = use_of_share J pool x.start x (share_when J pool x.start x (omega arith) (omega arith)) in
            omega arith;
        stores = λ store l.
            let a = keeps.stores store l in let b = part_used_up J store part in omega arith;
      }
