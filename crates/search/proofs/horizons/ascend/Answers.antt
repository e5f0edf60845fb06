-- `ascend` meets its contract: no plan ends before `bound`.
use Rattle.std.specs.Prelude.{Option, Some, None, is_some}
use Prim.Native.Nat.{ℕ, ◌+◌}
use mathlib.Core.Path.{◌≡◌, sym, ap, ◌∙◌}
use mathlib.Core.Bool.{true≢false}
use mathlib.Core.List.{List}
use Rattle.tables.specs.declared.Frame.{Frame}
use Rattle.leaf.specs.declared.Answer.{Answer}
use Rattle.search.specs.Horizons.{Solves, Raised}
use Rattle.search.proofs.HorizonBounds.{whole_until, found_by_horizon, raised_past}
use native.Mathlib.Omega.{arith}
use Rattle.search.proofs.horizons.ascend.Goals as goal

raised-as : (file sets numbers times : List ℕ) (frame : Frame) (from low low' : ℕ) → low ≡ low'
    → Raised file sets numbers times frame from low → Raised file sets numbers times frame from low'
raised-as file sets numbers times frame from low low' e h = rw (← e) h

solves-as : (file sets numbers times : List ℕ) (frame frame' : Frame) (r : Option Answer) → frame ≡ frame'
    → Solves file sets numbers times frame r → Solves file sets numbers times frame' r
solves-as file sets numbers times frame frame' r e h = rw (← e) h

pub loop-horizon-init : goal.loop-horizon-init
loop-horizon-init c =
    let h = c.requires in
    (h.1, omega arith, raised-as _ _ _ _ _ _ _ _ (sym c.wide-bound.ensures.0) (λ J task passed before. before))

pub solve-requires : goal.solve-requires
solve-requires c =
    rw c.until.ensures
    (whole_until c.args.file.now _ _ _ c.args.frame c.loop-horizon.horizon c.loop-horizon.invariant.0 c.requires.0)

pub returns-in-Some : goal.returns-in-Some
returns-in-Some c =
    let inv = c.loop-horizon.invariant in
    let solves = solves-as _ _ _ _ _ _ _ c.until.ensures c.solve.ensures in
    record {
      found = λ x e. let same : c.in-Some.answer ≡ x.answer = cc in
          rw (← same) (found_by_horizon _ _ _ _ c.args.frame c.loop-horizon.horizon inv.0 _ solves _ c.in-Some.is);
      raised = λ x e. let same : c.loop-horizon.bound ≡ x.low = cc in raised-as _ _ _ _ _ _ _ _ same inv.2;
      none = λ e. cc;
    }

pub overflow_add-bound : goal.overflow_add-bound
overflow_add-bound c =
    let w = c.wide-bound-in-loop-horizon.ensures.0 in let h = c.requires.0.horizon in omega arith

pub next_horizon-horizon-requires : goal.next_horizon-horizon-requires
next_horizon-horizon-requires c =
    let h = c.requires.0.horizon in let inv = c.loop-horizon.invariant in (omega arith, inv.1, h)

pub longer-stride-requires : goal.longer-stride-requires
longer-stride-requires c =
    c.loop-horizon.invariant.1

pub loop-horizon-smaller : goal.loop-horizon-smaller
loop-horizon-smaller c = let n = c.next_horizon-horizon.ensures in let a = n.0 in let b = n.1 in omega arith

pub loop-horizon-preserved : goal.loop-horizon-preserved
loop-horizon-preserved c =
    let inv = c.loop-horizon.invariant in
    let solves = solves-as _ _ _ _ _ _ _ c.until.ensures c.solve.ensures in (
      c.next_horizon-horizon.ensures.1,
      c.longer-stride.ensures,
      raised-as _ _ _ _ _ _ _ _ (ap (λ (n : ℕ). n + 1) (sym c.wide-bound-in-loop-horizon.ensures.0))
          (raised_past _ _ _ _ c.args.frame c.loop-horizon.horizon inv.0 _ solves c.in_default.is c.args.low),
    )

pub solve-requires-2 : goal.solve-requires-2
solve-requires-2 c =
    c.requires.0

pub returns-in_err-answer : goal.returns-in_err-answer
returns-in_err-answer c =
    rw c.from_residual.ensures
    (record { found = λ x e. cc; raised = λ x e. cc; none = λ e. c.solve-2.ensures.none c.in_err-answer.was })

pub returns : goal.returns
returns c =
    record {
      found = λ x e J task passed. let same : c.in_ok-answer.answer ≡ x.answer = cc in
          rw (← same) (c.solve-2.ensures.found _ c.in_ok-answer.was J task.in_file task.described.actions);
      raised = λ x e. let same : c.loop-horizon.bound ≡ x.low = cc in
          raised-as _ _ _ _ _ _ _ _ same c.loop-horizon.invariant.2;
      none = λ e. cc;
    }
