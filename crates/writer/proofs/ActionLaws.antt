-- The bytes of the actions of a job value.
-- Assumes nothing.
use Prim.Native.Nat.{ℕ, ◌*◌, ◌≤◌}
use mathlib.Core.Path.{◌≡◌}
use native.Mathlib.Nat.{mul-le-mul}
use native.Mathlib.Omega.{arith}
use lib.ListN.{length, get_or}
use Rattle.lists.proofs.Tabulate.{length_tabulate}
use Rattle.job.specs.declared.Counts.{Counts}
use Rattle.job.specs.declared.Job as held
use Rattle.job.specs.Job.{action_at, beyond, Fits}
use Rattle.jobfile.specs.File.{action_bytes, action_size}
use Rattle.jobfile.proofs.Lengths.{length_action}

pub length_action_at : (j : held.Job) (k : ℕ)
    → length (action_bytes (action_at j k)) ≡ action_size j.counts.pools j.counts.stores
length_action_at j k =
    let a = get_or j.actions k beyond in
    length_action j.counts.pools j.counts.stores (action_at j k)
    (record {
      pools = length_tabulate j.counts.pools (λ i. get_or a.pools i 0);
      stores = length_tabulate j.counts.stores (λ i. get_or a.stores i 0);
    })

-- 64 actions of 57 bytes at the most
pub few_action_bytes : (n : Counts) → Fits n → n.actions * action_size n.pools n.stores ≤ 3648
few_action_bytes n h = mul-le-mul {n₂ = 64} {m₂ = 57} h.2 (omega arith)
