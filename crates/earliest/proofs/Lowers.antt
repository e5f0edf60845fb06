-- What is computed from an action's value lowers the entries that the choice is about.
-- Assumes nothing.
use Prim.Native.Nat.{ℕ, ◌≤◌, ◌<◌, max}
use mathlib.Core.Path.{◌≡◌, refl, sym, ap, ap₂, ◌∙◌}
use mathlib.Core.Bool.{Bool, true, false, ◌||◌, true≢false}
use mathlib.Core.Logic.{inl, ⊎_elim}
use mathlib.Core.List.{List}
use native.Mathlib.Omega.{arith}
use lib.Dec.{eqb}
use borrow.Author.Tests.{eqb-true}
use Rattle.facts.specs.FactSet.{has, union, difference, single}
use Rattle.facts.proofs.Membership.{has_zero}
use Rattle.job.specs.declared.Action as value
use Rattle.job.specs.declared.Counts.{Counts}
use Rattle.job.specs.Job.{Action, Job}
use Rattle.timeline.proofs.Tests.{or_cases}
use Rattle.times.specs.Earliest.{action_of}
use Rattle.earliest.specs.Numbers.{set_number, after_number, SameTime}
use Rattle.earliest.specs.Lowering.{LowersRow, LowersAll}
use Rattle.earliest.specs.Sweep.{end_number, both_end_number, IsAction, EndsAt}
use Rattle.earliest.specs.Sweep.{BothSettled, CarriedSettled, PairSettled}
use Rattle.earliest.specs.Sweep.{LowersBoth, LowersCarried, LowersPair}
use Rattle.earliest.proofs.SetTimes.{same_after, same_time_as}
use Rattle.earliest.proofs.LoweringLaws.{lowering_none, lowering_weaker}
use Rattle.earliest.proofs.ChoiceLaws.{both_offered, carried_offered, pair_offered}

row_as : (xs ys : List ℕ) (q : ℕ) (r : Bool) (facts facts' set set' t t' : ℕ) → facts ≡ facts' → set ≡ set' → t ≡ t'
    → LowersRow facts xs ys q set t r → LowersRow facts' xs ys q set' t' r
row_as xs ys q r facts facts' set set' t t' e f g l = rw (← e, ← f, ← g) l

all_as : (xs ys : List ℕ) (r : Bool) (facts facts' set set' other other' t t' : ℕ) → facts ≡ facts' → set ≡ set'
    → other ≡ other' → t ≡ t' → LowersAll facts xs ys set other t r → LowersAll facts' xs ys set' other' t' r
all_as xs ys r facts facts' set set' other other' t t' e f g h l = rw (← e, ← f, ← g, ← h) l

-- the end computed from the value is the end of the action
end_of_value : (J : Job) (facts i : ℕ) (n : Counts) (action : value.Action) (xs : List ℕ) (set ready time : ℕ)
    → IsAction J facts i n action → SameTime ready (set_number xs set facts)
    → time ≡ after_number action.duration ready
    → time ≡ end_number J xs (action_of J i) set
end_of_value J facts i n action xs set ready time is e f =
    rw (is.same, is.same_facts) (f ∙ same_after ready (set_number xs set facts) e action.duration)

-- the duration of a value is a byte
pub byte_duration : (J : Job) (facts i : ℕ) (n : Counts) (action : value.Action) → IsAction J facts i n action
    → action.duration < 256 → (action_of J i).duration ≤ 255
byte_duration J facts i n action is byte =
    let same : (action_of J i).duration ≡ action.duration = ap (λ (a : Action). a.duration) is.same in omega arith

-- a fact that the action adds or deletes is not carried
pub carries_nothing : (facts : ℕ) (xs : List ℕ) (action : value.Action) (q : ℕ)
    → has (union action.adds action.deletes) q ≡ true → LowersCarried facts action q xs xs false
carries_nothing facts xs action q touched J i n able is fits here =
    lowering_none J (CarriedSettled J i q) xs able.kept
    (λ untouched. absurd (true≢false (sym touched ∙ (rw is.same at untouched))))

-- where one of two actions adds all that the other does, nothing is left for them together
pub nothing_apart : (facts : ℕ) (xs : List ℕ) (a b : value.Action) (only_a only_b : ℕ)
    → only_a ≡ difference a.adds b.adds → only_b ≡ difference b.adds a.adds
    → (eqb only_a 0 || eqb only_b 0) ≡ true → LowersPair facts a b xs xs false
nothing_apart facts xs a b only_a only_b x y none J i j n able is_a is_b joined =
    let adds_a : (action_of J i).adds ≡ a.adds = ap (λ (a : Action). a.adds) is_a.same in
    let adds_b : (action_of J j).adds ≡ b.adds = ap (λ (a : Action). a.adds) is_b.same in
    lowering_none J (PairSettled J i j) xs able.kept
    (λ p l hp q k hq.
    absurd
    (⊎_elim (λ z. empty p only_a (eqb-true only_a 0 z) (ap₂ difference adds_a adds_b ∙ sym x) hp)
    (λ z. empty q only_b (eqb-true only_b 0 z) (ap₂ difference adds_b adds_a ∙ sym y) hq)
    (or_cases (eqb only_a 0) (eqb only_b 0) none)))
  where
    empty : (p only : ℕ) → only ≡ 0 → {set : ℕ} → set ≡ only → has set p ≡ true → ⊥
    empty p only e f h = true≢false (sym h ∙ ap (λ (s : ℕ). has s p) (f ∙ e) ∙ has_zero p)

module _ (facts : ℕ) (xs ys : List ℕ) (r : Bool) where
  -- (i)
  pub both_lowers : (action : value.Action) (time : ℕ) → EndsAt facts action xs time
      → LowersAll facts xs ys action.adds action.adds time r → LowersBoth facts action xs ys r
  both_lowers action time at lowers J i n able is fits =
      let short = byte_duration J facts i n action is at.1 in
      let needs : action.needs ≡ (action_of J i).needs = ap (λ (a : Action). a.needs) (sym is.same) in
      let adds : action.adds ≡ (action_of J i).adds = ap (λ (a : Action). a.adds) (sym is.same) in
      let ends = end_of_value J facts i n action xs (action_of J i).needs (set_number xs action.needs facts) time is
      (inl (ap (λ (set : ℕ). set_number xs set facts) needs)) at.0 in
      lowering_weaker J _ (BothSettled J i) xs ys r
      (all_as xs ys r _ _ _ _ _ _ _ _ (sym is.same_facts) adds adds ends lowers J able refl
      (both_offered J xs able i is.known fits short))
      (λ settled. (short, settled))

  -- (ii)
  pub carried_lowers : (action : value.Action) (q ready time : ℕ)
      → has (union action.adds action.deletes) q ≡ false
      → SameTime ready (set_number xs (union action.needs (single q)) facts)
      → time ≡ after_number action.duration ready
      → action.duration < 256 → LowersRow facts xs ys q action.adds time r → LowersCarried facts action q xs ys r
  carried_lowers action q ready time untouched e f byte lowers J i n able is fits here =
      let needs : action.needs ≡ (action_of J i).needs = ap (λ (a : Action). a.needs) (sym is.same) in
      let adds : action.adds ≡ (action_of J i).adds = ap (λ (a : Action). a.adds) (sym is.same) in
      let deletes : action.deletes ≡ (action_of J i).deletes = ap (λ (a : Action). a.deletes) (sym is.same) in
      let ends = end_of_value J facts i n action xs (union (action_of J i).needs (single q)) ready time is
      (same_time_as xs facts _ _ ready (ap (λ (set : ℕ). union set (single q)) needs) e) f in
      lowering_weaker J _ (CarriedSettled J i q) xs ys r
      (row_as xs ys q r _ _ _ _ _ _ (sym is.same_facts) adds ends lowers J able refl (rw is.same_facts here)
      (carried_offered J xs able i q is.known fits (byte_duration J facts i n action is byte)
      (sym (ap₂ (λ (a d : ℕ). has (union a d) q) adds deletes) ∙ untouched)))
      (λ settled other. settled)

  -- (iii)
  pub pair_lowers : (a b : value.Action) (only_a only_b both_ready first second time : ℕ)
      → only_a ≡ difference a.adds b.adds → only_b ≡ difference b.adds a.adds → EndsAt facts a xs first
      → SameTime both_ready (set_number xs (union a.needs b.needs) facts)
      → second ≡ after_number b.duration both_ready → time ≡ max first second
      → LowersAll facts xs ys only_a only_b time r → LowersPair facts a b xs ys r
  pair_lowers a b only_a only_b both_ready first second time x y at f h k lowers J i j n able is_a is_b joined =
      let needs_a : a.needs ≡ (action_of J i).needs = ap (λ (a : Action). a.needs) (sym is_a.same) in
      let needs_b : b.needs ≡ (action_of J j).needs = ap (λ (a : Action). a.needs) (sym is_b.same) in
      let adds_a : a.adds ≡ (action_of J i).adds = ap (λ (a : Action). a.adds) (sym is_a.same) in
      let adds_b : b.adds ≡ (action_of J j).adds = ap (λ (a : Action). a.adds) (sym is_b.same) in
      let ends_a = end_of_value J facts i n a xs (action_of J i).needs (set_number xs a.needs facts) first is_a
      (inl (ap (λ (set : ℕ). set_number xs set facts) needs_a)) at.0 in
      let ends_b = end_of_value J facts j n b xs (union (action_of J i).needs (action_of J j).needs) both_ready
      second is_b
      (same_time_as xs facts _ _ both_ready (ap₂ union needs_a needs_b) f) h in
      let ends : time ≡ both_end_number J xs (action_of J i) (action_of J j) = k ∙ ap₂ max ends_a ends_b in
      lowering_weaker J _ (PairSettled J i j) xs ys r
      (all_as xs ys r _ _ _ _ _ _ _ _ (sym is_a.same_facts) (x ∙ ap₂ difference adds_a adds_b)
      (y ∙ ap₂ difference adds_b adds_a) ends lowers J able refl
      (pair_offered J xs able i j is_a.known is_b.known joined (byte_duration J facts i n a is_a at.1)))
      (λ settled. settled)
