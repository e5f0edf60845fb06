-- Earliest times are admissible: what holds together at a minute of a plan has a time of at most that minute.
-- Assumes nothing.
use Prim.Native.Nat.{ℕ, zero, suc, ◌<◌, ◌≤◌, max}
use mathlib.Core.Path.{◌≡◌, sym, ap, ◌∙◌}
use mathlib.Core.Bool.{true, false}
use mathlib.Core.Logic.{⊎_elim}
use mathlib.Core.List.{List}
use native.Mathlib.Omega.{arith}
use Rattle.facts.specs.FactSet.{has, union, Subset, single}
use Rattle.facts.proofs.SetLaws.{in_union_cases}
use Rattle.job.specs.Job.{Action, Job}
use Rattle.timeline.specs.Step.{Step}
use Rattle.timeline.specs.Timeline.{held}
use Rattle.timeline.specs.Places.{Place}
use Rattle.timeline.specs.Keeps.{PlanOf}
use Rattle.timeline.proofs.Tests.{decided, not_both, false_unless, le_or_lt}
use Rattle.timeline.proofs.Places.{split_place}
use Rattle.timeline.proofs.HeldFacts.{Added, held_comes_from}
use Rattle.timeline.proofs.Clashes.{no_clash_of_test}
use Rattle.times.specs.Time.{unreachable}
use Rattle.times.specs.Earliest.{Table, time_of, action_of, Solves}
use Rattle.times.specs.Choices.{By, Alone, Together, Reached, at_start, both, one, each, each_other}
use Rattle.times.proofs.Times.{by_same, by_later_minute, time_of_by}
use Rattle.times.proofs.Singles.{in_with_cases}
use Rattle.times.proofs.Choices.{right_side_of_reached, reached_swap}
use Rattle.times.proofs.PlanSteps.{Paired, paired_swap, own_action, own_stop, needs_at_lem, fits_alone_lem}
use Rattle.times.proofs.PlanSteps.{paired_when_shared, held_since}

-- every two facts that hold together at minute t have a time of at most t
abbrev TimelyPairs : Job → Table → List Step → ℕ → Type 0
TimelyPairs J T P t =
    (p q : ℕ) → p ≤ q → q < J.facts → has (held J.start P t) p ≡ true → has (held J.start P t) q ≡ true
    → By (T p q) t

timely_set : (J : Job) (T : Table) (P : List Step) (t : ℕ) → TimelyPairs J T P t
    → (set : ℕ) → Subset set (held J.start P t) → By (time_of J T set) t
timely_set J T P t pairs set inside =
    time_of_by J T set t (λ p q a b hp hq. pairs p q a b (inside p hp) (inside q hq))

module _ (J : Job) (T : Table) (horizon goal : ℕ) (P : List Step) (plan : PlanOf J horizon goal P) (t : ℕ)
    (before : (u : ℕ) → u < suc t → TimelyPairs J T P u) where
  ready_at : (u : ℕ) → u < suc t → (set : ℕ) → Subset set (held J.start P u) → By (time_of J T set) u
  ready_at u l = timely_set J T P u (before u l)

  -- a step that stops by the minute, as a choice by itself
  alone_step : {x : Step} {Q : List Step} → Place x Q P → x.stop ≤ suc t
      → (set : ℕ) → Subset set (held J.start P x.start) → Alone J T (suc t) set x.number
  alone_step {x} {Q} i l set inside =
      let lasts = plan.keeps.lasting x Q i in
      let stop = own_stop J horizon goal P plan i in
      record {
        known = plan.known x Q i;
        fits = fits_alone_lem J horizon goal P plan i;
        from = x.start;
        ready = ready_at x.start (omega arith) set inside;
        ends = omega arith;
      }

  -- two steps that share a minute and stop by the minute, x the longer one, as a choice together
  together_steps : {x y : Step} {Q R : List Step} → Place x Q P → Place y R P → x.start < y.stop → y.start < x.stop
      → x.stop ≤ suc t → y.stop ≤ suc t → Paired J x y
      → (action_of J y.number).duration ≤ (action_of J x.number).duration
      → Together J T (suc t) x.number y.number
  together_steps {x} {y} {Q} {R} i j a b l m pair longer =
      let x_lasts = plan.keeps.lasting x Q i in
      let y_lasts = plan.keeps.lasting y R j in
      let x_stop = own_stop J horizon goal P plan i in
      let y_stop = own_stop J horizon goal P plan j in
      let u : ℕ = max x.start y.start in
      let x_needs = needs_at_lem J horizon goal P plan i in
      let y_needs = needs_at_lem J horizon goal P plan j in
      let c : Action = action_of J x.number in
      let d : Action = action_of J y.number in
      record {
        known = plan.known x Q i;
        known_too = plan.known y R j;
        different = pair.different;
        spares = pair.spares;
        spared = pair.spared;
        fits = pair.fits;
        longer = longer;
        from = x.start;
        ready = ready_at x.start (omega arith) c.needs (x_needs x.start (omega arith) (omega arith));
        ends = omega arith;
        both_from = u;
        both_ready = ready_at u (omega arith) (union c.needs d.needs)
            (λ n h.
            ⊎_elim (x_needs u (omega arith) (omega arith) n) (y_needs u (omega arith) (omega arith) n)
            (in_union_cases c.needs d.needs n h));
        both_end = omega arith;
      }

  -- p is added at the minute, and q holds then
  module _ (p q : ℕ) (g : Added P (suc t) p) (hq : has (held J.start P (suc t)) q ≡ true) where
    abbrev adder : Step
    adder = g.by

    adds_p : has (action_of J adder.number).adds p ≡ true
    adds_p = ap (λ (c : Action). has c.adds p) (sym (own_action J horizon goal P plan g.place)) ∙ g.adds

    ends_now : adder.stop ≤ suc t
    ends_now = let s = g.stops in omega arith

    starts_before : adder.start < suc t
    starts_before = let s = g.stops in let l = plan.keeps.lasting adder g.rest g.place in omega arith

    needs_held : Subset (action_of J adder.number).needs (held J.start P adder.start)
    needs_held =
        let l = plan.keeps.lasting adder g.rest g.place in
        needs_at_lem J horizon goal P plan g.place adder.start (omega arith) (omega arith)

    -- (i) the step adds q too
    by_both : has adder.action.adds q ≡ true → Reached J T p q (suc t)
    by_both e =
        both adder.number (alone_step g.place ends_now (action_of J adder.number).needs needs_held) adds_p
        (ap (λ (c : Action). has c.adds q) (sym (own_action J horizon goal P plan g.place)) ∙ e)

    module _ (not_q : has adder.action.adds q ≡ false) where
      apart : p ≡ q → ⊥
      apart e = not_both (rw e at g.adds) not_q

      -- the step does not delete q, which holds when it stops
      keeps_q_lem : has adder.action.deletes q ≡ true → ⊥
      keeps_q_lem d =
          ⊎_elim
          (λ h.
          ⊎_elim (λ c. not_both (rw c at h.adds) not_q)
          (λ r.
          let s = g.stops in
          let z = h.stops in
          let l = plan.keeps.lasting adder g.rest g.place in
          let m = plan.keeps.lasting h.by h.rest h.place in
          let no_clash = no_clash_of_test P plan.keeps.no_clash adder g.rest g.place in
          let able = no_clash h.by r.0 r.1 (omega arith) (omega arith) in
          able.spares.adds q d h.adds)
          (split_place g.place h.place))
          (λ c. c.1 adder g.rest g.place g.stops d)
          (held_comes_from J.start P t q hq)

      -- (ii) q held when the step started
      by_one : has (held J.start P adder.start) q ≡ true → Reached J T p q (suc t)
      by_one r =
          one adder.number apart
          (alone_step g.place ends_now (union (action_of J adder.number).needs (single q))
          (λ n h. ⊎_elim (needs_held n) (λ e. rw e r) (in_with_cases (action_of J adder.number).needs q n h)))
          adds_p
          (ap (λ (c : Action). has c.deletes q) (sym (own_action J horizon goal P plan g.place))
          ∙ false_unless _ keeps_q_lem)

      -- (iii) q was added while the step ran, by another one
      by_two : (e : ℕ) → adder.start < e → e ≤ suc t → (h : Added P e q) → (R : List Step)
          → Place h.by R g.rest → Reached J T p q (suc t)
      by_two e a b h R j =
          let s = g.stops in
          let z = h.stops in
          let l = plan.keeps.lasting adder g.rest g.place in
          let m = plan.keeps.lasting h.by h.rest h.place in
          let u : ℕ = max adder.start h.by.start in
          let pair : Paired J adder h.by
          = paired_when_shared J horizon goal P plan g.place j u (omega arith) (omega arith) (omega arith)
          (omega arith) in
          let adds_q : has (action_of J h.by.number).adds q ≡ true
          = ap (λ (c : Action). has c.adds q) (sym (own_action J horizon goal P plan h.place)) ∙ h.adds in
          ⊎_elim
          (λ longer.
          each adder.number h.by.number apart
          (together_steps g.place h.place (omega arith) (omega arith) ends_now (omega arith) pair longer)
          adds_p adds_q)
          (λ shorter.
          each_other h.by.number adder.number apart
          (together_steps h.place g.place (omega arith) (omega arith) (omega arith) ends_now
          (paired_swap J adder h.by pair) (omega arith))
          adds_q adds_p)
          (le_or_lt (action_of J h.by.number).duration (action_of J adder.number).duration)

      by_others : Reached J T p q (suc t)
      by_others =
          let l = starts_before in
          ⊎_elim by_one
          (λ r.
          ⊎_elim (λ c. not_both (rw c at r.3.adds) not_q)
          (λ w. by_two r.0 r.1 r.2 r.3 w.0 w.1)
          (split_place g.place r.3.place))
          (held_since J.start P q (suc t) adder.start (omega arith) hq)

    reached_when_added : Reached J T p q (suc t)
    reached_when_added = ⊎_elim by_both by_others (decided (has adder.action.adds q))

module _ (J : Job) (T : Table) (solves : Solves J T) (horizon goal : ℕ) (P : List Step)
    (plan : PlanOf J horizon goal P) where
  of_reached : (p q t : ℕ) → p ≤ q → q < J.facts → Reached J T p q t → By (T p q) t
  of_reached p q t a b r = by_same t (sym (solves p q a b)) (right_side_of_reached J T p q t r)

  -- by strong induction on the minute
  timely : (fuel t : ℕ) → t < fuel → TimelyPairs J T P t
  timely zero t l p q a b hp hq = absurd (omega arith)
  timely (suc fuel) zero l p q a b hp hq = of_reached p q 0 a b (at_start hp hq)
  timely (suc fuel) (suc t) l p q a b hp hq =
      let before : (u : ℕ) → u < suc t → TimelyPairs J T P u = λ u m. timely fuel u (omega arith) in
      ⊎_elim (λ g. of_reached p q (suc t) a b (reached_when_added J T horizon goal P plan t before p q g hq))
      (λ c.
      ⊎_elim
      (λ g.
      of_reached p q (suc t) a b (reached_swap (reached_when_added J T horizon goal P plan t before q p g hp)))
      (λ d. by_later_minute (T p q) t (suc t) (omega arith) (timely fuel t (omega arith) p q a b c.0 d.0))
      (held_comes_from J.start P t q hq))
      (held_comes_from J.start P t p hp)

  -- a set of facts that holds together at minute t has a time of at most t
  pub held_set_not_before_its_time : (set t : ℕ) → Subset set (held J.start P t) → By (time_of J T set) t
  held_set_not_before_its_time set t = timely_set J T P t (timely (suc t) t (omega arith)) set

  -- an unreachable set never holds together
  pub unreachable_set_never_holds : (set t : ℕ) → time_of J T set ≡ unreachable
      → Subset set (held J.start P t) → ⊥
  unreachable_set_never_holds set t e h = by_same t e (held_set_not_before_its_time set t h)
