-- Sets of facts numbered behind others.
-- Assumes nothing.
use Prim.Native.Nat.{ℕ, zero, suc, ◌+◌, ◌-◌, ◌*◌, ◌^◌, ◌/◌, ◌%◌, ◌<◌, ◌≤◌}
use mathlib.Core.Path.{◌≡◌, sym, ap, ◌∙◌}
use mathlib.Core.Bool.{true, false}
use mathlib.Core.Logic.{⊎_elim}
use native.Mathlib.Omega.{arith}
use native.Mathlib.Nat.{add-mul, mul-one, mul_assoc, mul_comm, pow-succ'}
use lib.Dec.{eqb}
use lib.Pow.{pow_mono}
use borrow.Author.Tests.{not-true}
use Rattle.facts.specs.FactSet.{has, Within, foreign}
use Rattle.facts.proofs.Membership.{foreign_decides}
use Rattle.timeline.proofs.Tests.{not_both, le_or_lt}
use Rattle.pooling.specs.Pooled.{behind}

-- twice a set has each fact one higher
twice_low : (s : ℕ) → has (2 * s) 0 ≡ false
unfolding has
twice_low s = let e : 2 * s % 2 ≡ 0 = omega arith in ap (λ (x : ℕ). eqb x 1) e

twice_high : (s n : ℕ) → has (2 * s) (suc n) ≡ has s n
unfolding has
twice_high s n = let e : 2 * s / 2 ≡ s = omega arith in ap (λ (x : ℕ). has x n) e

double : (s k : ℕ) → s * 2 ^ suc k ≡ 2 * (s * 2 ^ k)
double s k =
    let e : 2 ^ suc k ≡ 2 * 2 ^ k = pow-succ' 2 k in
    ap (λ (x : ℕ). s * x) e ∙ sym (mul_assoc s 2 (2 ^ k))
    ∙ ap (λ (x : ℕ). x * 2 ^ k) (mul_comm s 2) ∙ mul_assoc 2 s (2 ^ k)

pub behind_low : (k s n : ℕ) → n < k → has (behind k s) n ≡ false
unfolding behind
behind_low zero s n l = absurd (omega arith)
behind_low (suc k) s zero l = ap (λ (x : ℕ). has x 0) (double s k) ∙ twice_low (s * 2 ^ k)
behind_low (suc k) s (suc n) l =
    ap (λ (x : ℕ). has x (suc n)) (double s k) ∙ twice_high (s * 2 ^ k) n ∙ behind_low k s n (omega arith)

pub behind_high : (k s n : ℕ) → has (behind k s) (k + n) ≡ has s n
unfolding behind
behind_high zero s n =
    let e : 0 + n ≡ n = omega arith in
    ap (λ (m : ℕ). has (s * 1) m) e ∙ ap (λ (x : ℕ). has x n) (mul-one s)
behind_high (suc k) s n =
    let e : suc k + n ≡ suc (k + n) = omega arith in
    ap (has (s * 2 ^ suc k)) e
    ∙ ap (λ (x : ℕ). has x (suc (k + n))) (double s k) ∙ twice_high (s * 2 ^ k) (k + n) ∙ behind_high k s n

-- ---- members of a set behind others
pub behind_zero : (s : ℕ) → behind 0 s ≡ s
unfolding behind
behind_zero s = mul-one s

-- a member is a member of the set, so much higher
pub behind_member : (k s n : ℕ) → has (behind k s) n ≡ true → (m : ℕ) × (n ≡ k + m) × (has s m ≡ true)
behind_member k s n h =
    ⊎_elim
    (λ l.
    let e : n ≡ k + (n - k) = omega arith in
    (n - k, e, sym (behind_high k s (n - k)) ∙ ap (has (behind k s)) (sym e) ∙ h))
    (λ l. not_both h (behind_low k s n l))
    (le_or_lt k n)

pub behind_within : (k facts s : ℕ) → Within facts s → Within (k + facts) (behind k s)
behind_within k facts s within n l =
    let e : n ≡ k + (n - k) = omega arith in
    ap (has (behind k s)) e ∙ behind_high k s (n - k) ∙ within (n - k) (omega arith)

pub within_more : (facts more s : ℕ) → facts ≤ more → Within facts s → Within more s
within_more facts more s l within n m = within n (omega arith)

pub not_foreign : (facts s : ℕ) → Within facts s → foreign facts s ≡ false
not_foreign facts s within = not-true (foreign facts s) ((foreign_decides facts s).complete within)

-- behind all the bits of a word there is room for no fact
pub behind_nothing : (k s : ℕ) → 64 ≤ k → behind k s < 2 ^ 64 → 0 ≡ behind k s
unfolding behind
behind_nothing k zero l h = omega arith
behind_nothing k (suc s) l h =
    let more : 2 ^ 64 ≤ 2 ^ k = pow_mono l in
    let one : suc s ≡ s + 1 = omega arith in
    let times : suc s * 2 ^ k ≡ s * 2 ^ k + 1 * 2 ^ k = ap (λ (n : ℕ). n * 2 ^ k) one ∙ add-mul s 1 (2 ^ k) in
    absurd (omega arith)
