-- Sweeps over a job: two actions where they are a choice, and all choices with one action.
-- Assumes nothing.
use Prim.Native.Nat.{ℕ}
use mathlib.Core.Path.{◌≡◌, sym, ap, ◌∙◌}
use mathlib.Core.Bool.{Bool, true, false, ◌||◌, true≢false}
use mathlib.Core.List.{List}
use Rattle.job.specs.declared.Action as value
use Rattle.job.specs.declared.Counts.{Counts}
use Rattle.job.specs.Job.{Job}
use Rattle.times.specs.Earliest.{action_of, fits_alone}
use Rattle.times.specs.Numbers.{none}
use Rattle.earliest.specs.Numbers.{set_number}
use Rattle.earliest.specs.Sweep.{BothSettled, OneSettled, EachSettled, ActionDone}
use Rattle.earliest.specs.Sweep.{HasPools, IsAction, MayJoin, JoinedSettled, LowersJoined, LowersPair}
use Rattle.earliest.specs.Sweep.{fits_alone_in, EndsAt, LowersBoth, LowersOne, LowersEach, LowersAction}
use Rattle.earliest.proofs.SetTimes.{late_of_after}
use Rattle.earliest.proofs.AllowedActions.{fits_alone_in_lem}
use Rattle.earliest.proofs.Lowers.{byte_duration}
use Rattle.earliest.proofs.Unreachable.{action_unreachable}
use Rattle.earliest.proofs.LoweringLaws.{lowering_none, lowering_then, lowering_weaker, lowerable_on}

-- ---- two actions, where they are a choice
module _ (facts pools : ℕ) (available : List ℕ) (i j : ℕ) (a b : value.Action) (joins : Bool)
    (test : MayJoin pools available i j a b joins) where
  pub not_joined_lowers : joins ≡ false → (xs : List ℕ) → LowersJoined facts pools available i j a b xs xs false
  not_joined_lowers e xs J n able has is_a is_b =
      lowering_none J (JoinedSettled J i j) xs able.kept
      (λ joined. absurd (true≢false (sym joined ∙ sym (test J n has is_a.same is_b.same) ∙ e)))

  pub joined_lowers : joins ≡ true → (xs ys : List ℕ) (r : Bool) → LowersPair facts a b xs ys r
      → LowersJoined facts pools available i j a b xs ys r
  joined_lowers e xs ys r lowers J n able has is_a is_b =
      lowering_weaker J _ (JoinedSettled J i j) xs ys r
      (lowers J i j n able is_a is_b (sym (test J n has is_a.same is_b.same) ∙ e))
      (λ settled joined. settled)

-- ---- all choices with one action
module _ (J : Job) (facts i : ℕ) (n : Counts) (action : value.Action) (is : IsAction J facts i n action) where
  -- the test of the value is that of the action
  pub fits_as_tested : (pools : ℕ) (available : List ℕ) → HasPools J n pools available → (fits : Bool)
      → fits ≡ fits_alone_in pools available action → fits_alone J (action_of J i) ≡ fits
  fits_as_tested pools available has fits tested =
      ap (fits_alone J) is.same ∙ sym (fits_alone_in_lem J n pools available has action) ∙ sym tested

  pub misfit_lowers : (xs : List ℕ) → fits_alone J (action_of J i) ≡ false → LowersAction J i xs xs false
  misfit_lowers xs e able = lowering_none J (ActionDone J i) xs able.kept (λ f. absurd (true≢false (sym f ∙ e)))

  -- the needs are unreachable
  pub late_lowers : (xs : List ℕ) (time : ℕ) → EndsAt facts action xs time → time ≡ none
      → LowersAction J i xs xs false
  late_lowers xs time ends late able =
      let short = byte_duration J facts i n action is ends.1 in
      let number = late_of_after _ (set_number xs action.needs facts) ends.1 (sym ends.0 ∙ late) in
      lowering_none J (ActionDone J i) xs able.kept
      (λ fits. action_unreachable J xs able i short (rw (is.same, is.same_facts) number))

  pub action_lowers : (ws xs ys zs : List ℕ) (b c d : Bool) → fits_alone J (action_of J i) ≡ true
      → LowersBoth facts action ws xs b → LowersOne facts action xs ys c → LowersEach J i ys zs d
      → LowersAction J i ws zs (d || (c || b))
  action_lowers ws xs ys zs b c d fits both one each able =
      let first = both J i n able is fits in
      let able_next = lowerable_on J _ ws xs b able first in
      let second = one J i n able_next is fits in
      let both_and_one = lowering_then J (BothSettled J i) (OneSettled J i)
      (λ xs. BothSettled J i xs × OneSettled J i xs) ws xs ys b c first second (λ x y. (x, y)) in
      let third = each (lowerable_on J _ ws ys (c || b) able both_and_one) in
      lowering_then J (λ xs. BothSettled J i xs × OneSettled J i xs) (EachSettled J i) (ActionDone J i) ws ys zs
      (c || b) d
      both_and_one third (λ x y f. record { both = x.0; one = x.1; each = y })
