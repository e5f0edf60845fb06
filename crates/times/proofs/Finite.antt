-- A finite entry of a solution is at most the longest duration times the number of entries: at most 530,400.
-- Assumes nothing.
use Prim.Native.Nat.{ℕ, zero, suc, ◌+◌, ◌*◌, ◌<◌, ◌≤◌}
use mathlib.Core.Path.{◌≡◌, sym}
use mathlib.Core.Logic.{◌⊎◌, inl, inr, ⊎_elim}
use native.Mathlib.Nat.{le_refl, mul-suc}
use native.Mathlib.Omega.{arith}
use lib.ListN.{length}
use Rattle.job.specs.Job.{Job}
use Rattle.timeline.proofs.Tests.{le_or_lt}
use Rattle.times.specs.Time.{at}
use Rattle.times.specs.Earliest.{Table, time_of, action_of, Solves}
use Rattle.times.specs.Choices.{By}
use Rattle.times.proofs.Times.{by_same, by_later_minute, by_time_of, time_of_by}
use Rattle.times.proofs.Monotone.{PositiveDurations, right_side_moves}
use Rattle.times.proofs.Counting.{entries, entries_by, same_entries, all_entries}
use Rattle.times.proofs.Counting.{entries_mono, entries_64}

-- no action of the job lasts longer
abbrev pub LongestDuration : Job → ℕ → Type 0
LongestDuration J longest = (i : ℕ) → i < length J.actions → (action_of J i).duration ≤ longest

module _ (J : Job) (positive : PositiveDurations J) (longest : ℕ) (durations : LongestDuration J longest)
    (T : Table) (solves : Solves J T) where
  -- every finite entry is at most c
  abbrev Capped : ℕ → Type 0
  Capped c = (t p q : ℕ) → p ≤ q → q < J.facts → By (T p q) t → By (T p q) c

  -- if no entry lies between c and a duration later, none lies after c
  capped_when_none_follows : (c : ℕ)
      → ((p q : ℕ) → p ≤ q → q < J.facts → By (T p q) (longest + c) → By (T p q) c) → Capped c
  capped_when_none_follows c none t = go (suc t) t (le_refl (suc t))
    where
      go : (fuel t : ℕ) → t < fuel → (p q : ℕ) → p ≤ q → q < J.facts → By (T p q) t → By (T p q) c
      go zero t l p q a b h = absurd (omega arith)
      go (suc fuel) t l p q a b h =
          none p q a b
          (by_same (longest + c) (sym (solves p q a b))
          (right_side_moves J T T t (longest + c)
          (λ set i u k e r.
          let some = positive i k in
          let most = durations i k in
          let before : u < fuel = omega arith in (
            c,
            time_of_by J T set c
                (λ x y v w hx hy. go fuel u before x y v w (by_time_of J T set u r x y v w hx hy)),
            omega arith,
          ))
          p q (by_same t (solves p q a b) h)))

  -- with each duration the number of entries grows, until all finite ones are there
  capped_or_more : (k : ℕ) → Capped (longest * k) ⊎ (k ≤ entries_by T J.facts (longest * k))
  capped_or_more zero = inr (omega arith)
  capped_or_more (suc k) =
      let c : ℕ = longest * k in
      let e : longest * suc k ≡ longest + longest * k = let m = mul-suc longest k in omega arith in
      rw e
      (⊎_elim (λ cap. inl (λ t p q a b h. by_later_minute (T p q) c (longest + c) (omega arith) (cap t p q a b h)))
      (λ some.
      ⊎_elim
      (λ same.
      let cap =
      capped_when_none_follows c
      (same_entries T J.facts c (longest + c) (omega arith) same) in
      inl (λ t p q a b h. by_later_minute (T p q) c (longest + c) (omega arith) (cap t p q a b h)))
      (λ more. inr (omega arith))
      (le_or_lt (entries_by T J.facts (longest + c)) (entries_by T J.facts c)))
      (capped_or_more k))

  capped : Capped (longest * entries J.facts)
  capped t p q a b h =
      ⊎_elim (λ cap. cap t p q a b h)
      (λ all. all_entries T J.facts (longest * entries J.facts) all p q a b)
      (capped_or_more (entries J.facts))

  pub finite_entry_at_most : (p q x : ℕ) → p ≤ q → q < J.facts → T p q ≡ at x → x ≤ longest * entries J.facts
  finite_entry_at_most p q x a b e =
      by_same (longest * entries J.facts) e (capped x p q a b (by_same x (sym e) (le_refl x)))

  pub finite_set_at_most : (set x : ℕ) → time_of J T set ≡ at x → x ≤ longest * entries J.facts
  finite_set_at_most set x e =
      by_same (longest * entries J.facts) e
      (time_of_by J T set (longest * entries J.facts)
      (λ p q a b hp hq.
      capped x p q a b (by_time_of J T set x (by_same x (sym e) (le_refl x)) p q a b hp hq)))

-- of a job with at most 64 facts and durations of one byte
module _ (J : Job) (positive : PositiveDurations J) (durations : LongestDuration J 255) (few : J.facts ≤ 64)
    (T : Table) (solves : Solves J T) where
  limit : 255 * entries J.facts ≤ 530400
  limit = let more = entries_mono J.facts 64 few in let all = entries_64 in omega arith

  pub finite_entry_at_most_530400 : (p q x : ℕ) → p ≤ q → q < J.facts → T p q ≡ at x → x ≤ 530400
  finite_entry_at_most_530400 p q x a b e =
      let l = limit in let m = finite_entry_at_most J positive 255 durations T solves p q x a b e in omega arith

  pub finite_set_at_most_530400 : (set x : ℕ) → time_of J T set ≡ at x → x ≤ 530400
  finite_set_at_most_530400 set x e =
      let l = limit in let m = finite_set_at_most J positive 255 durations T solves set x e in omega arith
