-- `left` meets its contract: the first k places hold what is left.
use Prim.Native.Nat.{ℕ, ◌-◌}
use mathlib.Core.Path.{◌≡◌, refl, ap, ap₂, ◌∙◌}
use mathlib.Core.List.{List}
use lib.ListN.{get_or, length-set}
use Rattle.job.specs.Job.{job_in}
use Rattle.job.proofs.ResourceLaws.{allowed_is}
use Rattle.timeline.specs.Value.{steps_of}
use Rattle.checker.proofs.PlanBytes.{one_more}
use Rattle.halving.specs.Afternoon.{left_of}
use native.Mathlib.Omega.{arith}
use Rattle.halving.proofs.left.Goals as goal

pub loop-k-init : goal.loop-k-init
loop-k-init c = (refl, λ store l. absurd (omega arith))

pub used_up-requires : goal.used_up-requires
used_up-requires c =
    let fits = c.requires.2.1 in
    (c.requires.0, c.requires.1, omega arith, omega arith)

pub overflow_sub-out : goal.overflow_sub-out
overflow_sub-out c =
    let k = c.loop-k.k in
    let fits = c.requires.2.1 in
    let cap = c.wide.ensures.0
    ∙ ap (λ (l : List ℕ). get_or l k 0) c.allowed-limits.ensures
    ∙ allowed_is c.args.job k (omega arith) (omega arith) in
    let used = c.used_up.ensures in
    let enough = c.requires.3 k (omega arith) in
    omega arith

pub overflow_cast-out : goal.overflow_cast-out
overflow_cast-out c =
    let small = c.wide.ensures.1 in
    record { fits = omega arith }

pub loop-k-preserved : goal.loop-k-preserved
loop-k-preserved c =
    let k = c.loop-k.k in
    let fits = c.requires.2.1 in
    let J = job_in c.args.job in
    let cap = c.wide.ensures.0
    ∙ ap (λ (l : List ℕ). get_or l k 0) c.allowed-limits.ensures
    ∙ allowed_is c.args.job k (omega arith) (omega arith) in (
      simp length-set c.loop-k.invariant.0,
      one_more (λ (n : ℕ). n) (left_of J (steps_of c.args.plan)) 0 c.loop-k.out k _ (omega arith) c.loop-k.invariant.1
          (ap₂ ◌-◌ cap c.used_up.ensures),
    )

pub returns : goal.returns
returns c =
    λ store l. c.loop-k.invariant.1 store (omega arith)
