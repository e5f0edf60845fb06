-- A step that stops earlier than planned does no harm: the plan still keeps the rules.
-- Assumes nothing.
use Prim.Native.Nat.{ℕ, zero, suc, ◌+◌, ◌-◌, ◌<◌, ◌≤◌}
use mathlib.Core.Path.{◌≡◌, refl, ap}
use mathlib.Core.Bool.{true, false}
use mathlib.Core.Logic.{⊎_elim}
use mathlib.Core.List.{List, ◌∷◌}
use native.Mathlib.Nat.{eq-or-lt_of_le}
use native.Mathlib.Omega.{arith}
use lib.ListN.{length, get_or}
use Rattle.facts.specs.FactSet.{has, Subset}
use Rattle.job.specs.Job.{Job}
use Rattle.timeline.specs.Step.{Step, any_pair}
use Rattle.timeline.specs.Timeline.{held, clash, in_use}
use Rattle.timeline.specs.Accepted.{clashing}
use Rattle.timeline.specs.Places.{Place, here}
use Rattle.timeline.specs.Keeps.{Lasting, NeedsHold, Keeps}
use Rattle.timeline.proofs.Tests.{and_other_false, le_or_lt}
use Rattle.timeline.proofs.Places.{place_wider, split_place}
use Rattle.timeline.proofs.Places.{pair_none, pairs_of_rest, pairs_with}
use Rattle.timeline.proofs.HeldFacts.{NotDeleted, held_when_added, held_when_kept, held_comes_from}
use Rattle.timeline.proofs.Replaced.{each_replaced, added_still, added_elsewhere, not_deleted_still}
use Rattle.timeline.proofs.Clashes.{NoClash, clashing_sym, no_clash_of_test}
use Rattle.timeline.proofs.Clashes.{not_clashing, overlap_when}
use Rattle.timeline.proofs.Shares.{share_reads, share_when, use_mono}
use Rattle.timeline.proofs.Shares.{in_use_place, used_up_place, store_use_of_action}

-- the step, with its stop at minute m
abbrev pub until : ℕ → Step → Step
until m x = record { number = x.number; action = x.action; start = x.start; stop = m }

-- ---- what holds with the stop of x one minute earlier
module _ (S : ℕ) {x : Step} {Q P P' : List Step} {m : ℕ} (i : Place x Q P) (i' : Place (until m x) Q P')
    (lasting : Lasting P) (no_clash : NoClash P) (stops : x.stop ≡ suc m) (left : x.start < m) where
  -- before the old stop, what x does not delete at its new stop
  held_to_new_stop : (t n : ℕ) → t ≤ m → (m ≡ t → has x.action.deletes n ≡ true → ⊥)
      → has (held S P t) n ≡ true → has (held S P' t) n ≡ true
  held_to_new_stop zero n l own h = h
  held_to_new_stop (suc t) n l own h =
      ⊎_elim (λ a. added_elsewhere i i' S t n a (λ e. omega arith))
      (λ c.
      held_when_kept S P' t n (held_to_new_stop t n (omega arith) (λ e d. omega arith) c.0)
      (not_deleted_still i i' (suc t) n c.1 own))
      (held_comes_from S P t n h)

  -- what x adds is there a minute earlier
  added_at_new_stop : (n : ℕ) → has x.action.adds n ≡ true → has (held S P' m) n ≡ true
  added_at_new_stop n a = go m refl
    where
      go : (t : ℕ) → m ≡ t → has (held S P' t) n ≡ true
      go zero e = absurd (omega arith)
      go (suc t) e =
          held_when_added S P' t n (record { by = until m x; rest = Q; place = i'; stops = e; adds = a })

  -- and no step that stops at the old stop deletes it
  not_deleted_at_old_stop : (n : ℕ) → has x.action.adds n ≡ true → NotDeleted P' (suc m) n
  not_deleted_at_old_stop n a y R j e d =
      ⊎_elim (λ q. let z : y.stop ≡ m = ap (λ (s : Step). s.stop) q in omega arith)
      (λ r.
      let w = place_wider i r.1 in
      let l = lasting y w.0 w.1 in
      (no_clash x Q i y r.0 r.1 (omega arith) (omega arith)).spared.adds n d a)
      (split_place i' j)

  held_at_old_stop : Subset (held S P (suc m)) (held S P' (suc m))
  held_at_old_stop n h =
      ⊎_elim
      (λ a.
      added_still i i' S m n a
      (λ e.
      let adds : has x.action.adds n ≡ true = rw e at a.adds in
      held_when_kept S P' m n (added_at_new_stop n adds) (not_deleted_at_old_stop n adds)))
      (λ c.
      held_when_kept S P' m n (held_to_new_stop m n (omega arith) (λ e d. c.1 x Q i stops d) c.0)
      (not_deleted_still i i' (suc m) n c.1 (λ e d. omega arith)))
      (held_comes_from S P m n h)

  held_from_old_stop : (t : ℕ) → m < t → Subset (held S P t) (held S P' t)
  held_from_old_stop zero l n h = absurd (omega arith)
  held_from_old_stop (suc t) l n h =
      ⊎_elim (λ e. let z : t ≡ m = omega arith in rw z (held_at_old_stop n (rw z at h)))
      (λ b.
      ⊎_elim (λ a. added_elsewhere i i' S t n a (λ e. omega arith))
      (λ c.
      held_when_kept S P' t n (held_from_old_stop t (omega arith) n c.0)
      (not_deleted_still i i' (suc t) n c.1 (λ e d. omega arith)))
      (held_comes_from S P t n h))
      (eq-or-lt_of_le l)

  needs_of_other : NeedsHold S P → (y : Step) (R : List Step) → Place y R Q
      → Subset y.action.needs (held S P' y.start)
  needs_of_other needs_hold y R j n h =
      let w = place_wider i j in
      let held_there = needs_hold y w.0 w.1 n h in
      let l = lasting y w.0 w.1 in
      ⊎_elim
      (λ b.
      held_to_new_stop y.start n b
      (λ e d. (no_clash x Q i y R j (omega arith) (omega arith)).spares.needs n d h)
      held_there)
      (λ b. held_from_old_stop y.start b n held_there)
      (le_or_lt y.start m)

  needs_hold_shorter : NeedsHold S P → NeedsHold S P'
  needs_hold_shorter needs_hold y R j n h =
      ⊎_elim
      (λ q.
      rw q (held_to_new_stop x.start n (omega arith) (λ e d. absurd (omega arith)) (needs_hold x Q i n (rw q at h))))
      (λ r. needs_of_other needs_hold y r.0 r.1 n h)
      (split_place i' j)

module _ (J : Job) (T goal : ℕ) {x : Step} {Q P P' : List Step} {m : ℕ} (i : Place x Q P) (i' : Place (until m x) Q P')
    (keeps : Keeps J T goal P) (stops : x.stop ≡ suc m) (left : x.start < m) where
  no_clash_shorter : any_pair clashing P' ≡ false
  no_clash_shorter =
      pairs_with clashing clashing_sym i'
      (λ y R j.
      not_clashing (until m x) y
      (λ a b.
      and_other_false _ (clash x y) (overlap_when x y a (omega arith))
      (pair_none clashing clashing_sym i j keeps.no_clash)))
      (pairs_of_rest clashing clashing_sym i keeps.no_clash)

  pools_shorter : (pool t : ℕ) → pool < length J.pools → in_use J pool t P' ≤ get_or J.pools pool 0
  pools_shorter pool t l =
      let was = keeps.pools pool t l in
      let before = in_use_place J pool t i in
      let after = in_use_place J pool t i' in
      let share = use_mono J pool t (until m x) x refl
      (λ s.
      let r = share_reads J pool t (until m x) s in
      let b = r.1 in
      share_when J pool t x r.0 (omega arith)) in
      omega arith

  pub shorter_by_a_minute : Keeps J T goal P'
  shorter_by_a_minute =
      let lasting = keeps.lasting in
      let no_clash = no_clash_of_test P keeps.no_clash in
      let b = keeps.in_time x Q i in
      record {
        lasting = each_replaced i i' (λ y. y.start < y.stop) left lasting;
        in_time = each_replaced i i' (λ y. y.stop ≤ T) (omega arith) keeps.in_time;
        no_clash = no_clash_shorter;
        pools = pools_shorter;
        stores = λ store l.
            let a = keeps.stores store l in
            let e = used_up_place J store i in
            let f = used_up_place J store i' in
            let g = store_use_of_action J store (until m x) x refl in
            omega arith;
        needs_hold = needs_hold_shorter J.start i i' lasting no_clash stops left keeps.needs_hold;
        goal_holds = λ n g.
            held_from_old_stop J.start i i' lasting no_clash stops left T (omega arith) n (keeps.goal_holds n g);
      }

-- by any number of minutes that leaves one
pub shorter_step : (J : Job) (T goal : ℕ) {x : Step} {Q P P' : List Step} {m : ℕ} → Place x Q P
    → Place (until m x) Q P' → Keeps J T goal P → x.start < m → m < x.stop → Keeps J T goal P'
shorter_step J T goal {x} {Q} {P} {P'} {m} i i' keeps left less = go (x.stop - suc m) m P' i' left (omega arith)
  where
    go : (more m : ℕ) (P' : List Step) → Place (until m x) Q P' → x.start < m → x.stop ≡ suc (more + m)
        → Keeps J T goal P'
    go zero m P' i' l e = shorter_by_a_minute J T goal i i' keeps (omega arith) l
    go (suc more) m P' i' l e =
        let between : Place (until (suc m) x) Q (until (suc m) x ∷ Q) = here in
        shorter_by_a_minute J T goal between i' (go more (suc m) _ between (omega arith) (omega arith)) refl l
