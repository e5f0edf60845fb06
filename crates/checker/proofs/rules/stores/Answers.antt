-- `stores` meets its contract: none of the first k stores is exceeded.
use Prim.Native.Nat.{ℕ}
use mathlib.Core.Path.{◌≡◌, refl, sym, ap, ◌∙◌}
use mathlib.Core.Bool.{true, false}
use mathlib.Core.List.{List, []}
use lib.ListN.{length, get_or}
use borrow.Author.Tests.{lt-ltb, le-ltb}
use Rattle.lists.specs.Lists.{any_below}
use Rattle.lists.proofs.Below.{below_more, below_found}
use Rattle.lists.proofs.Tabulate.{length_tabulate}
use Rattle.job.specs.declared.refusal.Refusal.TheVariants.{StoreExceeded}
use Rattle.job.specs.Job.{job_in}
use Rattle.job.specs.Refusal.{first}
use Rattle.job.proofs.ResourceLaws.{allowed_is}
use Rattle.job.proofs.Table.{first_here, first_next}
use Rattle.timeline.specs.Accepted.{exceeds_store}
use Rattle.timeline.specs.Value.{steps_of}
use native.Mathlib.Omega.{arith}
use Rattle.checker.proofs.rules.stores.Goals as goal

pub loop-k-init : goal.loop-k-init
loop-k-init c = refl

pub used_up-requires : goal.used_up-requires
used_up-requires c =
    (c.requires.0, c.requires.1, omega arith, omega arith)

pub returns-then-from-used_up : goal.returns-then-from-used_up
returns-then-from-used_up c =
    let j = c.args.job in
    let test = exceeds_store (job_in j) (steps_of c.args.plan) in
    let k = c.loop-k.k in
    let cap = c.from.ensures ∙ ap (λ (l : List ℕ). get_or l k 0) c.allowed-limits.ensures
    ∙ allowed_is j k c.loop-k-test.true (omega arith) in
    let e : test k ≡ true = lt-ltb _ _ (rw (c.used_up.ensures, cap) at c.if-from-used_up.true) in
    sym (first_here StoreExceeded _ []
    (rw length_tabulate (below_found j.counts.stores test k c.loop-k-test.true e)))

pub loop-k-preserved : goal.loop-k-preserved
loop-k-preserved c =
    let j = c.args.job in
    let test = exceeds_store (job_in j) (steps_of c.args.plan) in
    let k = c.loop-k.k in
    let cap = c.from.ensures ∙ ap (λ (l : List ℕ). get_or l k 0) c.allowed-limits.ensures
    ∙ allowed_is j k c.loop-k-test.true (omega arith) in
    let e : test k ≡ false = le-ltb _ _ (rw (c.used_up.ensures, cap) at c.if-from-used_up.false) in
    below_more k test ∙ rw (e, c.loop-k.invariant)

pub returns : goal.returns
unfolding first
returns c =
    let j = c.args.job in
    let q : c.loop-k.k ≡ j.counts.stores = omega arith in
    let none : any_below (length (job_in j).stores) (exceeds_store (job_in j) (steps_of c.args.plan)) ≡ false =
    rw length_tabulate (rw q at c.loop-k.invariant) in
    sym (first_next StoreExceeded _ [] none)
