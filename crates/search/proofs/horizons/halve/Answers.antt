-- `halve` meets its contract: the middle is below the plan's end and not below the bound.
use Rattle.std.specs.Prelude.{Option, Some, None, is_some}
use Prim.Native.Nat.{ℕ, ◌+◌, ◌-◌, ◌/◌, ◌%◌, ◌≤◌, ◌<◌}
use mathlib.Core.Path.{◌≡◌, ap, ◌∙◌}
use mathlib.Core.List.{List}
use Rattle.tables.specs.declared.Frame.{Frame}
use Rattle.leaf.specs.declared.Answer.{Answer}
use Rattle.search.specs.Horizons.{until, Solves}
use Rattle.search.proofs.HorizonBounds.{whole_until, found_by_horizon, found_in_time, raised_past}
use native.Mathlib.Omega.{arith}
use Rattle.search.proofs.horizons.halve.Goals as goal
use Rattle.search.proofs.horizons.halve.Goals.{in_default-via-in-Some+else-answer-middle, in_default-via-in_default}

solves-as : (file sets numbers times : List ℕ) (frame frame' : Frame) (r : Option Answer) → frame ≡ frame'
    → Solves file sets numbers times frame r → Solves file sets numbers times frame' r
solves-as file sets numbers times frame frame' r e h = rw (← e) h

pub solve-requires : goal.solve-requires
solve-requires c =
    let h = c.requires in
    let l = h.1 in
    let u = h.2 in
    let t = h.0.horizon in
    let low = c.args.low in
    let last = c.args.best.end in
    let m = low + (last - low) / 2 in
    let same : m % 65536 ≡ m = omega arith in
    rw (c.until.ensures ∙ ap (until c.args.frame) same)
    (whole_until c.args.file.now _ _ _ c.args.frame m (omega arith) h.0)

pub overflow_add-result : goal.overflow_add-result
overflow_add-result c =
    let h = c.requires in let l = h.1 in let u = h.2 in let t = h.0.horizon in omega arith

-- a plan that ends by the middle
pub returns-in-Some : goal.returns-in-Some
returns-in-Some c =
    let h = c.requires in
    let t = h.0.horizon in
    let low = c.args.low in
    let last = c.args.best.end in
    let m = low + (last - low) / 2 in
    let same : m % 65536 ≡ m = omega arith in
    let early : c.in-Some.answer.end ≤ m = c.if-answer-middle.true in
    let solves = solves-as _ _ _ _ _ _ _ (c.until.ensures ∙ ap (until c.args.frame) same) c.solve.ensures in
    record {
      found = λ f. found_by_horizon _ _ _ _ c.args.frame m (omega arith) _ solves _ c.in-Some.is;
      raised = λ J task passed before. before;
      closer = (omega arith, omega arith, omega arith);
    }

-- none ends by then: a plan that did would be told
pub returns-in_default : goal.returns-in_default
returns-in_default c =
    let h = c.requires in
    let t = h.0.horizon in
    let low = c.args.low in
    let last = c.args.best.end in
    let m = low + (last - low) / 2 in
    let same : m % 65536 ≡ m = omega arith in
    let solves = solves-as _ _ _ _ _ _ _ (c.until.ensures ∙ ap (until c.args.frame) same) c.solve.ensures in
    record {
      found = λ f. f;
      raised = λ J task passed before.
          elim c.in_default.branch [
            | in_default-via-in-Some+else-answer-middle w ↦
                let late = w.if-answer-middle.false in
                let early = found_in_time _ _ _ _ c.args.frame m (omega arith) _ solves _ w.in-Some.is J task in
                absurd (omega arith)
            | in_default-via-in_default w ↦
                raised_past _ _ _ _ c.args.frame m (omega arith) _ solves w.in_default.is low J task passed before
          ];
      closer = (omega arith, omega arith, omega arith);
    }
