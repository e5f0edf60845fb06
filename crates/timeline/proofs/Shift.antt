-- A step that nothing blocks at its stop can start and stop one minute later.
-- Assumes nothing.
use Prim.Native.Nat.{ℕ, zero, suc, ◌+◌, ◌<◌, ◌≤◌, suc-le-suc}
use mathlib.Core.Path.{◌≡◌, refl, sym, ap, ◌∙◌}
use mathlib.Core.Bool.{true, false}
use mathlib.Core.Logic.{⊎_elim}
use mathlib.Core.List.{List}
use native.Mathlib.Nat.{eq-or-lt_of_le}
use native.Mathlib.Omega.{arith}
use lib.ListN.{length, get_or}
use Rattle.facts.specs.FactSet.{has, meets, Subset}
use Rattle.facts.proofs.SetLaws.{not_in_both}
use Rattle.job.specs.Resources.{handover}
use Rattle.job.specs.Job.{Job}
use Rattle.timeline.specs.Step.{Step, any_pair}
use Rattle.timeline.specs.Timeline.{held, clash, in_use}
use Rattle.timeline.specs.Accepted.{clashing}
use Rattle.timeline.specs.Places.{Place, EachStep}
use Rattle.timeline.specs.Keeps.{Lasting, NeedsHold, Keeps}
use Rattle.timeline.proofs.Tests.{trichotomy, and_other_false}
use Rattle.timeline.proofs.Places.{place_wider, split_place}
use Rattle.timeline.proofs.Places.{pair_none, pairs_of_rest, pairs_with}
use Rattle.timeline.proofs.HeldFacts.{NotDeleted, held_when_added, held_when_kept, held_comes_from}
use Rattle.timeline.proofs.HeldFacts.{added_wider, added_by}
use Rattle.timeline.proofs.Replaced.{each_replaced, added_still, added_elsewhere, not_deleted_still}
use Rattle.timeline.proofs.Clashes.{NoClash, clashing_sym, no_clash_of_test}
use Rattle.timeline.proofs.Clashes.{not_clashing, overlap_when}
use Rattle.timeline.proofs.Shares.{share_reads, share_when, use_at_most, use_mono}
use Rattle.timeline.proofs.Shares.{in_use_place, used_up_place, store_use_of_action}

-- the step one minute later
abbrev pub later : Step → Step
later x = record { number = x.number; action = x.action; start = suc x.start; stop = suc x.stop }

-- Nothing blocks x at its stop, beside the steps of Q: the horizon is later, no step that starts then clashes with x or
-- needs what x adds, and each pool has room for one more minute of x's share.
pub record NotBlocked (J : Job) (T : ℕ) (x : Step) (Q : List Step) : Type 0 where
  pub before_horizon : x.stop < T
  pub starts : EachStep (λ y. y.start ≡ x.stop
      → (clash x y ≡ false) × (meets x.action.adds y.action.needs ≡ false)) Q
  pub pools : (pool : ℕ) → pool < length J.pools
      → in_use J pool (x.stop + handover J pool) Q + get_or x.action.pools pool 0 ≤ get_or J.pools pool 0

-- ---- what holds with x a minute later
module _ (S : ℕ) {x : Step} {Q P P' : List Step} (i : Place x Q P) (i' : Place (later x) Q P')
    (lasting : Lasting P) (no_clash : NoClash P) where
  pub held_before_stop : (t : ℕ) → t < x.stop → Subset (held S P t) (held S P' t)
  held_before_stop zero l n h = h
  held_before_stop (suc t) l n h =
      ⊎_elim (λ a. added_elsewhere i i' S t n a (λ e. omega arith))
      (λ c.
      held_when_kept S P' t n (held_before_stop t (omega arith) n c.0)
      (not_deleted_still i i' (suc t) n c.1 (λ e d. omega arith)))
      (held_comes_from S P t n h)

  -- at its stop only what x adds is missing
  pub held_at_stop : (t : ℕ) → x.stop ≡ suc t → (n : ℕ) → (has x.action.adds n ≡ true → ⊥)
      → has (held S P (suc t)) n ≡ true → has (held S P' (suc t)) n ≡ true
  held_at_stop t e n missing h =
      ⊎_elim (λ a. added_still i i' S t n a (λ q. absurd (missing (rw q at a.adds))))
      (λ c.
      held_when_kept S P' t n (held_before_stop t (omega arith) n c.0)
      (not_deleted_still i i' (suc t) n c.1 (λ q d. omega arith)))
      (held_comes_from S P t n h)

  -- a fact that held at x's stop and is not deleted the minute after
  held_on_from_stop : (t : ℕ) → x.stop ≡ suc t → (n : ℕ) → has (held S P (suc t)) n ≡ true
      → NotDeleted P (suc (suc t)) n → has (held S P' (suc (suc t))) n ≡ true
  held_on_from_stop t e n h kept =
      ⊎_elim
      (λ a.
      ⊎_elim
      (λ q.
      held_when_added S P' (suc t) n
      (record { by = later x; rest = Q; place = i'; stops = ap suc e; adds = rw q at a.adds }))
      (λ other.
      let w = place_wider i other.place in
      let l = lasting other.by w.0 w.1 in
      let k = lasting x Q i in
      let s = other.stops in
      held_when_kept S P' (suc t) n (held_when_added S P' t n (added_wider i' (suc t) n other))
      (not_deleted_still i i' (suc (suc t)) n kept
      (λ q d.
      (no_clash x Q i other.by other.rest other.place (omega arith) (omega arith)
      ).spares.adds n d
      other.adds)))
      (added_by i (suc t) n a))
      (λ c.
      held_when_kept S P' (suc t) n
      (held_when_kept S P' t n (held_before_stop t (omega arith) n c.0)
      (not_deleted_still i i' (suc t) n c.1 (λ q d. omega arith)))
      (not_deleted_still i i' (suc (suc t)) n kept (λ q d. c.1 x Q i e d)))
      (held_comes_from S P t n h)

  pub held_after_stop : (t : ℕ) → x.stop < t → Subset (held S P t) (held S P' t)
  held_after_stop zero l n h = absurd (omega arith)
  held_after_stop (suc zero) l n h = let k = lasting x Q i in absurd (omega arith)
  held_after_stop (suc (suc t)) l n h =
      ⊎_elim (λ a. added_elsewhere i i' S (suc t) n a (λ e. omega arith))
      (λ c.
      ⊎_elim (λ e. held_on_from_stop t (omega arith) n c.0 c.1)
      (λ b.
      held_when_kept S P' (suc t) n (held_after_stop (suc t) (omega arith) n c.0)
      (not_deleted_still i i' (suc (suc t)) n c.1 (λ q d. omega arith)))
      (eq-or-lt_of_le l))
      (held_comes_from S P (suc t) n h)

  -- ---- needs
  -- of the moved step: no step that stops in its first minute deletes them
  needs_of_moved : NeedsHold S P → Subset x.action.needs (held S P' (suc x.start))
  needs_of_moved needs_hold n h =
      let k = lasting x Q i in
      held_when_kept S P' x.start n (held_before_stop x.start k n (needs_hold x Q i n h))
      (λ y R j e d.
      ⊎_elim (λ q. let z : y.stop ≡ suc x.stop = ap (λ (s : Step). s.stop) q in omega arith)
      (λ r.
      let w = place_wider i r.1 in
      let l = lasting y w.0 w.1 in
      (no_clash x Q i y r.0 r.1 (omega arith) (omega arith)).spared.needs n d h)
      (split_place i' j))

  needs_of_other : NeedsHold S P → (y : Step) (R : List Step) → Place y R Q
      → (y.start ≡ x.stop → meets x.action.adds y.action.needs ≡ false)
      → Subset y.action.needs (held S P' y.start)
  needs_of_other needs_hold y R j apart n h =
      let w = place_wider i j in
      let held_there = needs_hold y w.0 w.1 n h in
      ⊎_elim (λ e. at_stop_lem x.stop refl e held_there)
      (⊎_elim (λ l. held_before_stop y.start l n held_there) (λ l. held_after_stop y.start l n held_there))
      (trichotomy y.start x.stop)
    where
      at_stop_lem : (t : ℕ) → x.stop ≡ t → y.start ≡ t → has (held S P y.start) n ≡ true
          → has (held S P' y.start) n ≡ true
      at_stop_lem zero p q k = let l = lasting x Q i in absurd (omega arith)
      at_stop_lem (suc t) p q k =
          let disjoint = apart (q ∙ sym p) in
          rw q
          (held_at_stop t p n (λ a. not_in_both x.action.adds y.action.needs n disjoint a h) (rw q at k))

  pub needs_hold_later : NeedsHold S P
      → EachStep (λ y. y.start ≡ x.stop → meets x.action.adds y.action.needs ≡ false) Q → NeedsHold S P'
  needs_hold_later needs_hold apart y R j n h =
      ⊎_elim (λ q. rw q (needs_of_moved needs_hold n (rw q at h)))
      (λ r. needs_of_other needs_hold y r.0 r.1 (apart y r.0 r.1) n h)
      (split_place i' j)

-- ---- what is in use, and the whole
module _ (J : Job) (T goal : ℕ) {x : Step} {Q P P' : List Step} (i : Place x Q P) (i' : Place (later x) Q P')
    (keeps : Keeps J T goal P) (not_blocked : NotBlocked J T x Q) where
  pools_later : (pool t : ℕ) → pool < length J.pools → in_use J pool t P' ≤ get_or J.pools pool 0
  pools_later pool t l =
      let after = in_use_place J pool t i' in
      ⊎_elim
      (λ e.
      let more = get_or x.action.pools pool 0 in
      let room : in_use J pool t Q + more ≤ get_or J.pools pool 0 = rw e (not_blocked.pools pool l) in
      let share = use_at_most J pool t (later x) in
      omega arith)
      (λ d.
      let was = keeps.pools pool t l in
      let before = in_use_place J pool t i in
      let share = use_mono J pool t (later x) x refl
      (λ s.
      let r = share_reads J pool t (later x) s in
      let a = r.0 in
      let b = r.1 in
      share_when J pool t x (omega arith) (⊎_elim (λ c. c) (λ c. absurd (omega arith)) d)) in
      omega arith)
      (trichotomy t (x.stop + handover J pool))

  no_clash_later : any_pair clashing P' ≡ false
  no_clash_later =
      pairs_with clashing clashing_sym i'
      (λ y R j.
      not_clashing (later x) y
      (λ a b.
      ⊎_elim (λ e. (not_blocked.starts y R j e).0)
      (λ d.
      let c : y.start < x.stop = ⊎_elim (λ l. l) (λ l. absurd (omega arith)) d in
      and_other_false _ (clash x y) (overlap_when x y (omega arith) c)
      (pair_none clashing clashing_sym i j keeps.no_clash))
      (trichotomy y.start x.stop)))
      (pairs_of_rest clashing clashing_sym i keeps.no_clash)

  pub shift_when_not_blocked : Keeps J T goal P'
  shift_when_not_blocked =
      let lasting = keeps.lasting in
      let no_clash = no_clash_of_test P keeps.no_clash in
      let before = not_blocked.before_horizon in
      record {
        lasting = each_replaced i i' (λ y. y.start < y.stop) (suc-le-suc (lasting x Q i)) lasting;
        in_time = each_replaced i i' (λ y. y.stop ≤ T) before keeps.in_time;
        no_clash = no_clash_later;
        pools = pools_later;
        stores = λ store l.
            let a = keeps.stores store l in
            let b = used_up_place J store i in
            let c = used_up_place J store i' in
            let d = store_use_of_action J store (later x) x refl in
            omega arith;
        needs_hold =
            needs_hold_later J.start i i' lasting no_clash keeps.needs_hold
            (λ y R j e. (not_blocked.starts y R j e).1);
        goal_holds = λ n g. held_after_stop J.start i i' lasting no_clash T before n (keeps.goal_holds n g);
      }
