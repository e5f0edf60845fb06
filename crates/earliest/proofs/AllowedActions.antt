-- The tests of actions by their values are the tests of the equations.
-- Assumes nothing.
use Prim.Native.Nat.{ℕ, ◌+◌, ◌≤◌, ◌<◌}
use mathlib.Core.Path.{◌≡◌, sym, ap, ap₂, ◌∙◌}
use mathlib.Core.Bool.{Bool, true, false, not, ◌||◌, and-false}
use mathlib.Core.List.{List}
use native.Mathlib.Omega.{arith}
use lib.ListN.{length, get_or, get_or-replicate}
use Rattle.lists.specs.Lists.{any_below}
use Rattle.lists.proofs.Below.{below_same}
use Rattle.lists.proofs.Tabulate.{length_tabulate, get_d_tabulate}
use Rattle.job.specs.declared.Action as value
use Rattle.job.specs.declared.Counts.{Counts}
use Rattle.job.specs.Job.{Job, action_in, unused_action}
use Rattle.job.specs.Valid.{over}
use Rattle.timeline.specs.Timeline.{hinders}
use Rattle.times.specs.Earliest.{action_of, fits_alone, fit_together}
use Rattle.earliest.specs.Sweep.{fits_alone_in, fit_together_in, HasPools, is_longer, may_join}

module _ (J : Job) (n : Counts) (pools : ℕ) (available : List ℕ) (has : HasPools J n pools available) where
  count : length J.pools ≡ pools
  count = ap length has.same ∙ length_tabulate pools (λ k. get_or available k 0)

  available_at : (k : ℕ) → k < pools → get_or J.pools k 0 ≡ get_or available k 0
  available_at k l =
      ap (λ (xs : List ℕ). get_or xs k 0) has.same ∙ get_d_tabulate pools (λ k. get_or available k 0) k 0 l

  use_at_lem : (a : value.Action) (k : ℕ) → k < pools → get_or (action_in n a).pools k 0 ≡ get_or a.pools k 0
  use_at_lem a k l = get_d_tabulate n.pools (λ k. get_or a.pools k 0) k 0 (rw has.same_count l)

  pub fits_alone_in_lem : (a : value.Action) → fits_alone_in pools available a ≡ fits_alone J (action_in n a)
  fits_alone_in_lem a =
      ap not
      (sym (ap (λ m. any_below m (λ k. over (get_or J.pools k 0) (get_or (action_in n a).pools k 0))) count
      ∙ below_same pools _ _ (λ k l. ap₂ over (available_at k l) (use_at_lem a k l))))

  pub fit_together_in_lem : (a b : value.Action)
      → fit_together_in pools available a b ≡ fit_together J (action_in n a) (action_in n b)
  fit_together_in_lem a b =
      ap not
      (sym (ap (λ m. any_below m (λ k. over (get_or J.pools k 0)
      (get_or (action_in n a).pools k 0 + get_or (action_in n b).pools k 0))) count
      ∙ below_same pools _ _ (λ k l. ap₂ over (available_at k l) (ap₂ ◌+◌ (use_at_lem a k l) (use_at_lem b k l)))))

-- an action fits alone exactly if it fits together with one that uses nothing
pub fits_with_unused : (pools : ℕ) (available : List ℕ) (a : value.Action) → pools ≤ 4
    → fit_together_in pools available a unused_action ≡ fits_alone_in pools available a
fits_with_unused pools available a few =
    ap not
    (below_same pools _ _
    (λ k l.
    let none : get_or unused_action.pools k 0 ≡ 0 = get_or-replicate 4 k 0 0 (omega arith) in
    ap (over (get_or available k 0)) (omega arith)))

-- ---- the tests one after the other
module _ (J : Job) (i j : ℕ) where
  abbrev clashing : Bool
  clashing = hinders (action_of J i) (action_of J j) || hinders (action_of J j) (action_of J i)

  abbrev longer : Bool
  longer = is_longer (action_of J i).duration (action_of J j).duration i j

  pub not_joined_shorter : longer ≡ false → may_join J i j ≡ false
  not_joined_shorter e = rw e

  pub not_joined_clashing : clashing ≡ true → may_join J i j ≡ false
  not_joined_clashing e = rw e (and-false longer)

  pub joined_when_fitting : longer ≡ true → clashing ≡ false
      → may_join J i j ≡ fit_together J (action_of J i) (action_of J j)
  joined_when_fitting e f = rw (e, f)
