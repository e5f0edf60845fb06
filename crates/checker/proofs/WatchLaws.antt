-- The clock's run: up to its minute, every step that has started had its needs.
-- Assumes nothing.
use Prim.Native.Nat.{ℕ, ◌+◌, ◌≤◌, ◌<◌}
use mathlib.Core.Path.{◌≡◌, refl, ap, ap₂, ◌∙◌}
use mathlib.Core.Bool.{Bool, true, false, not}
use native.Mathlib.Decide.{dec_lt}
use native.Mathlib.Numerals.{add-one}
use native.Mathlib.Omega.{arith}
use lib.Dec.{eqb}
use borrow.Author.Tests.{eq-eqb, eqb-true}
use Rattle.lists.specs.Lists.{any, Each}
use Rattle.lists.proofs.Bools.{absurd, and_left, and_right}
use Rattle.lists.proofs.Tabulate.{length_tabulate, get_d_tabulate, each_at, each_tabulate}
use Rattle.lists.proofs.Any.{any_none, none_any}
use Rattle.facts.specs.FactSet.{subset}
use Rattle.timeline.specs.declared.Plan.{Plan}
use Rattle.timeline.specs.Step.{Step}
use Rattle.timeline.specs.Timeline.{end, next, held}
use Rattle.timeline.specs.Value.{step_at, steps_of}
use Rattle.timeline.proofs.Places.{find_any, any_at}
use Rattle.checker.specs.declared.clock.Clock.{Clock}
use Rattle.checker.specs.Watch.{lacks_at}
use Rattle.checker.proofs.Loops.{largest_at}

module _ (start : ℕ) (plan : Plan) where
  -- the step lacks a need at its start
  abbrev pub lacks : Step → Bool
  lacks x = not (subset x.action.needs (held start (steps_of plan) x.start))

  -- the clock is right, and no step that started before its minute lacked a need
  pub record Watching (clock : Clock) : Type 0 where
    pub facts : clock.facts ≡ held start (steps_of plan) clock.minute
    pub passed : (k : ℕ) → k < plan.length → (step_at plan k).start < clock.minute → lacks (step_at plan k) ≡ false

  pub watching_none : Watching (record { minute = 0; facts = start })
  watching_none = record { facts = refl; passed = λ k h l. absurd (omega arith) }

  module _ (clock : Clock) (w : Watching clock) where
    -- a step that starts now lacks at the clock what it lacks at its start
    lacks_now : (x : Step) → x.start ≡ clock.minute → lacks x ≡ not (subset x.action.needs clock.facts)
    lacks_now x e = rw (e, w.facts)

    pub watching_missing : any (lacks_at clock) (steps_of plan) ≡ true → any lacks (steps_of plan) ≡ true
    watching_missing h =
        let r = find_any (lacks_at clock) (steps_of plan) h in
        let x = r.0 in
        let e = eqb-true x.start clock.minute (and_left _ _ r.3) in
        any_at lacks r.2 (lacks_now x e ∙ and_right (eqb x.start clock.minute) _ r.3)

    pub watching_next : any (lacks_at clock) (steps_of plan) ≡ false
        → (next : Clock) → next.minute ≡ clock.minute + 1 → next.facts
        ≡ held start (steps_of plan) (clock.minute + 1)
        → Watching next
    watching_next h next m f =
        record {
          facts = rw m f;
          passed = λ k l b.
              elim (dec_lt (step_at plan k).start clock.minute) [
                | yes c ↦ w.passed k l c
                | no c ↦
                    let e : (step_at plan k).start ≡ clock.minute = omega arith in
                    let n = length_tabulate plan.length (step_at plan) in
                    let all = any_none (lacks_at clock) (steps_of plan) h in
                    let here = each_at (λ x. lacks_at clock x ≡ false) (steps_of plan) (step_at plan k) all k
                    (omega arith) in
                    let at : lacks_at clock (step_at plan k) ≡ false
                    = rw (get_d_tabulate plan.length (step_at plan) k (step_at plan k) l) at here in
                    lacks_now (step_at plan k) e ∙ (rw (eq-eqb (step_at plan k).start clock.minute e) at at)
              ];
        }

  -- at the plan's end every step has started
  pub watching_end : (clock : Clock) → Watching clock → end (steps_of plan) ≤ clock.minute
      → Each (λ x. x.start < x.stop) (steps_of plan) → any lacks (steps_of plan) ≡ false
  watching_end clock w l lasting =
      none_any lacks (steps_of plan)
      (each_tabulate (λ x. lacks x ≡ false) plan.length (step_at plan)
      (λ k h.
      let n = length_tabulate plan.length (step_at plan) in
      let b = each_at (λ x. x.start < x.stop) (steps_of plan) (step_at plan k) lasting k (omega arith) in
      let runs : (step_at plan k).start < (step_at plan k).stop
      = rw (get_d_tabulate plan.length (step_at plan) k (step_at plan k) h) at b in
      let last = largest_at (step_at plan) (λ x. x.stop) plan.length k h in
      w.passed k h (omega arith)))

  -- one minute forward
  pub held_tick : (t : ℕ) → next (steps_of plan) (t + 1) (held start (steps_of plan) t)
      ≡ held start (steps_of plan) (t + 1)
  held_tick t = rw (add-one t)

  -- the clock at the plan's end
  pub watching_clock : (clock : Clock) → Watching clock → clock.minute ≡ end (steps_of plan)
      → clock ≡ record { minute = end (steps_of plan); facts = held start (steps_of plan) (end (steps_of plan)) }
  watching_clock clock w e =
      ap₂ (λ (m f : ℕ). clock_of m f) e (w.facts ∙ ap (held start (steps_of plan)) e)
    where
      clock_of : ℕ → ℕ → Clock
      clock_of m f = record { minute = m; facts = f }
