-- Steps of one job clash in the pooled job as in their own; steps of different jobs never do.
-- Assumes nothing.
use Prim.Native.Nat.{ℕ, ◌-◌}
use mathlib.Core.Path.{◌≡◌, refl, sym, ap, ◌∙◌}
use mathlib.Core.Bool.{true, false}
use mathlib.Core.List.{List, map}
use native.Mathlib.Omega.{arith}
use Rattle.facts.specs.FactSet.{has, Within}
use Rattle.timeline.specs.Step.{Step, any_pair}
use Rattle.timeline.specs.Accepted.{clashing}
use Rattle.timeline.proofs.Tests.{not_both}
use Rattle.pooling.specs.Pooled.{behind}
use Rattle.pooling.proofs.Steps.{in_pool}
use Rattle.pooling.proofs.Behind.{behind_zero, behind_member}
use Rattle.pooling.proofs.Renamed.{renamed_no_clash}

pub no_clash_in_pool : (k n p s : ℕ) (P : List Step) → any_pair clashing P ≡ false
    → any_pair clashing (map (in_pool k n p s) P) ≡ false
no_clash_in_pool k n p s P =
    renamed_no_clash (λ m. m - k) (in_pool k n p s) P
    (λ x Q i.
    record {
      start = refl;
      stop = refl;
      needs = member x.action.needs;
      adds = member x.action.adds;
      deletes = member x.action.deletes;
    })
    (λ x Q i y R j e. omega arith)
  where
    member : (set m : ℕ) → has (behind k set) m ≡ true → has set (m - k) ≡ true
    member set m h =
        let w = behind_member k set m h in
        let e = w.1 in
        let same : m - k ≡ w.0 = omega arith in
        ap (has set) same ∙ w.2

-- a set of the first job and one of the second have no fact in common
pub sides_apart : (facts u v i : ℕ) → Within facts u → has (behind 0 u) i ≡ true → has (behind facts v) i ≡ true → ⊥
sides_apart facts u v i within d m =
    let e = (behind_member facts v i m).1 in
    not_both (ap (λ (s : ℕ). has s i) (sym (behind_zero u)) ∙ d) (within i (omega arith))
