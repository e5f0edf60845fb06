-- A step that is not blocked can start a minute later, and a step that stops where no event is is not blocked.
-- Assumes nothing.
use Prim.Native.Nat.{ℕ, zero, suc, ◌+◌, ◌<◌, ◌≤◌}
use mathlib.Core.Path.{◌≡◌, sym, ap, ◌∙◌}
use mathlib.Core.Bool.{true, false, ◌||◌, or-true}
use mathlib.Core.Logic.{◌⊎◌, inl, inr, ⊎_elim}
use mathlib.Core.List.{List, ◌∷◌}
use native.Mathlib.Nat.{eq-or-lt_of_le}
use native.Mathlib.Omega.{arith}
use lib.Dec.{eqb}
use lib.ListN.{length, get_or}
use borrow.Author.Tests.{eqb-true, eq-eqb, eqb-false, ne_eqb, ltb-false, le-ltb}
use Rattle.lists.proofs.Below.{below_none, none_below, below_some, below_found}
use Rattle.lists.specs.Lists.{any}
use Rattle.lists.proofs.Bools.{and_left, or_left, or_right}
use Rattle.job.specs.Resources.{handover}
use Rattle.job.specs.Job.{Job}
use Rattle.timeline.specs.Step.{Step}
use Rattle.timeline.specs.Timeline.{clash, free, has_share, in_use}
use Rattle.timeline.specs.Places.{Place, here}
use Rattle.timeline.specs.Keeps.{Keeps}
use Rattle.timeline.proofs.Tests.{decided, not_both, false_unless, and_other_false, or_cases, or_neither}
use Rattle.timeline.proofs.Places.{place_wider, none_of_any, any_of_none}
use Rattle.timeline.proofs.Places.{total_mono}
use Rattle.timeline.proofs.Shares.{free_is, share_reads, share_when, use_at, use_of_share, use_without_share}
use Rattle.timeline.proofs.Shares.{in_use_place}
use Rattle.timeline.proofs.Shift.{later, NotBlocked, shift_when_not_blocked}
use Rattle.regression.specs.Normal.{blocks, blocked, touches_at}

-- ---- not blocked
module _ (J : Job) (goal T : ℕ) {x : Step} {Q P : List Step} (i : Place x Q P) (keeps : Keeps J T goal P)
    (unblocked : blocked J T P x ≡ false) where
  pub not_blocked_lem : NotBlocked J T x Q
  unfolding blocked
  not_blocked_lem =
      let at_horizon = eqb x.stop T in
      let before = eqb-false x.stop T (or_left at_horizon _ unblocked) in
      let rest = or_right at_horizon _ unblocked in
      let starts = or_left (any (blocks x) P) _ rest in
      let room = or_right (any (blocks x) P) _ rest in
      record {
        before_horizon = ⊎_elim (λ e. absurd (before e)) (λ l. l) (eq-or-lt_of_le (keeps.in_time x Q i));
        starts = λ y R j e.
            let w = place_wider i j in
            let hinders = and_other_false (eqb y.start x.stop) _ (eq-eqb y.start x.stop e)
            (none_of_any (blocks x) P starts y w.0 w.1) in
            (or_left (clash x y) _ hinders, or_right (clash x y) _ hinders);
        pools = λ pool l.
            let more = get_or x.action.pools pool 0 in
            let within = ltb-false (get_or J.pools pool 0) (in_use J pool (free J pool x) P + more)
            (below_none (length J.pools) _ room pool l) in
            let uses = in_use_place J pool (free J pool x) i in
            let fits : in_use J pool (free J pool x) Q + more ≤ get_or J.pools pool 0 = omega arith in
            rw (free_is J pool x) at fits;
      }

  pub shift_when_free : Keeps J T goal (later x ∷ Q)
  shift_when_free = shift_when_not_blocked J T goal i here keeps not_blocked_lem

-- ---- event minutes
touches_at_start : (J : Job) (t : ℕ) (y : Step) → y.start ≡ t → touches_at J t y ≡ true
touches_at_start J t y e = rw (eq-eqb y.start t e)

touches_after_handover : (J : Job) (t : ℕ) (y : Step) (pool : ℕ) → pool < length J.pools
    → y.start ≡ t + handover J pool → touches_at J t y ≡ true
touches_after_handover J t y pool l e =
    ap (λ b. eqb y.start t || b)
    (below_found (length J.pools) (λ k. eqb y.start (t + handover J k)) pool l (eq-eqb _ _ e))
    ∙ or-true (eqb y.start t)

-- y starts at minute t, or the handover of some pool later
abbrev pub Touches : Job → ℕ → Step → Type 0
Touches J t y =
    (y.start ≡ t) ⊎ ((pool : ℕ) × (pool < length J.pools) × (y.start ≡ t + handover J pool))

pub touches_reads : (J : Job) (t : ℕ) (y : Step) → touches_at J t y ≡ true → Touches J t y
touches_reads J t y h =
    ⊎_elim (λ e. inl (eqb-true y.start t e))
    (λ e.
    let r = below_some (length J.pools) (λ k. eqb y.start (t + handover J k)) e in
    inr (r.0, r.1, eqb-true y.start (t + handover J r.0) r.2))
    (or_cases (eqb y.start t) _ h)

pub touches_not_before : (J : Job) (t : ℕ) (y : Step) → touches_at J t y ≡ true → t ≤ y.start
touches_not_before J t y h =
    ⊎_elim (λ e. omega arith) (λ r. let e = r.2 in omega arith) (touches_reads J t y h)

module _ (J : Job) (goal T : ℕ) {x : Step} {Q P : List Step} (i : Place x Q P) (keeps : Keeps J T goal P)
    (untouched : any (touches_at J x.stop) P ≡ false) where
  nothing_blocks : any (blocks x) P ≡ false
  nothing_blocks =
      any_of_none (blocks x) P
      (λ y R j.
      false_unless (blocks x y)
      (λ b.
      let starts = eqb-true y.start x.stop (and_left _ _ b) in
      not_both (touches_at_start J x.stop y starts) (none_of_any _ P untouched y R j)))

  -- what has its share of a pool where x has its own no longer, had it a minute before
  no_more_in_use : (pool : ℕ) → pool < length J.pools → (t : ℕ) → x.stop + handover J pool ≡ suc t
      → in_use J pool (suc t) Q ≤ in_use J pool t Q
  no_more_in_use pool l t e =
      total_mono (use_at J pool (suc t)) (use_at J pool t) Q
      (λ y R j.
      let w = place_wider i j in
      use_mono_minute y
      (λ s.
      let r = share_reads J pool (suc t) y s in
      let until = r.1 in
      ⊎_elim
      (λ q.
      let touches = touches_after_handover J x.stop y pool l (q ∙ sym e) in
      not_both touches (none_of_any _ P untouched y w.0 w.1))
      (λ q. share_when J pool t y (omega arith) (omega arith))
      (eq-or-lt_of_le r.0)))
    where
      use_mono_minute : (y : Step) → (has_share J pool (suc t) y ≡ true → has_share J pool t y ≡ true)
          → use_at J pool (suc t) y ≤ use_at J pool t y
      use_mono_minute y h =
          ⊎_elim
          (λ s. let a = use_of_share J pool (suc t) y s in let b = use_of_share J pool t y (h s) in omega arith)
          (λ s. let a = use_without_share J pool (suc t) y (λ p. not_both p s) in omega arith)
          (decided (has_share J pool (suc t) y))

  room : (pool : ℕ) → pool < length J.pools → (t : ℕ) → x.stop + handover J pool ≡ t
      → in_use J pool t P + get_or x.action.pools pool 0 ≤ get_or J.pools pool 0
  room pool l zero e = let lasts = keeps.lasting x Q i in absurd (omega arith)
  room pool l (suc t) e =
      let lasts = keeps.lasting x Q i in
      let within = keeps.pools pool t l in
      let before = in_use_place J pool t i in
      let after = in_use_place J pool (suc t) i in
      let own = use_of_share J pool t x (share_when J pool t x (omega arith) (omega arith)) in
      let gone = use_without_share J pool (suc t) x
      (λ s. let r = (share_reads J pool (suc t) x s).1 in omega arith) in
      let others = no_more_in_use pool l t e in
      omega arith

  pub not_blocked_when_untouched : (x.stop ≡ T → ⊥) → blocked J T P x ≡ false
  unfolding blocked
  not_blocked_when_untouched before =
      or_neither (ne_eqb x.stop T before)
      (or_neither nothing_blocks
      (none_below (length J.pools) _
      (λ pool l.
      le-ltb (get_or J.pools pool 0) (in_use J pool (free J pool x) P + get_or x.action.pools pool 0)
      (room pool l (free J pool x) (sym (free_is J pool x))))))
