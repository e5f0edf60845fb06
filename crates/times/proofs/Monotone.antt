-- The right side of an equation is monotone in the table, and reads only entries before its own minute.
-- Assumes nothing.
use Prim.Native.Nat.{ℕ, ◌+◌, ◌<◌, ◌≤◌}
use native.Mathlib.Omega.{arith}
use lib.ListN.{length}
use Rattle.lists.proofs.Tabulate.{each_at}
use Rattle.job.specs.Job.{Job, no_action}
use Rattle.job.specs.Passed.{Passed, PassedAction}
use Rattle.times.specs.Earliest.{Table, time_of, action_of, right_side}
use Rattle.times.specs.Choices.{By, Alone, Together, Reached, at_start, both, one, other, each, each_other}
use Rattle.times.proofs.Times.{by_time_of, time_of_by}
use Rattle.times.proofs.Choices.{reached_of_right_side, right_side_of_reached}

-- every action of the job lasts at least a minute
abbrev pub PositiveDurations : Job → Type 0
PositiveDurations J = (i : ℕ) → i < length J.actions → 0 < (action_of J i).duration

pub durations_of_passed : (J : Job) → Passed J → PositiveDurations J
durations_of_passed J passed i l =
    (each_at (PassedAction J.facts) J.actions no_action passed.actions i l).duration

-- an action that can start when a set is there by T, and end by minute t, can by U end by minute v
abbrev pub Moves : Job → Table → Table → ℕ → ℕ → Type 0
Moves J T U t v =
    (set i u : ℕ) → i < length J.actions → (action_of J i).duration + u ≤ t → By (time_of J T set) u
    → (w : ℕ) × By (time_of J U set) w × ((action_of J i).duration + w ≤ v)

module _ (J : Job) (T U : Table) (t v : ℕ) (moves : Moves J T U t v) where
  alone_moves : (set i : ℕ) → Alone J T t set i → Alone J U v set i
  alone_moves set i a =
      let r = moves set i a.from a.known a.ends a.ready in
      record { known = a.known; fits = a.fits; from = r.0; ready = r.1; ends = r.2 }

  together_moves : (i j : ℕ) → Together J T t i j → Together J U v i j
  together_moves i j c =
      let r = moves _ i c.from c.known c.ends c.ready in
      let s = moves _ j c.both_from c.known_too c.both_end c.both_ready in
      record {
        known = c.known;
        known_too = c.known_too;
        different = c.different;
        spares = c.spares;
        spared = c.spared;
        fits = c.fits;
        longer = c.longer;
        from = r.0;
        ready = r.1;
        ends = r.2;
        both_from = s.0;
        both_ready = s.1;
        both_end = s.2;
      }

  reached_moves : (p q : ℕ) → Reached J T p q t → Reached J U p q v
  reached_moves p q (at_start hp hq) = at_start hp hq
  reached_moves p q (both i a hp hq) = both i (alone_moves _ i a) hp hq
  reached_moves p q (one i apart a hp hq) = one i apart (alone_moves _ i a) hp hq
  reached_moves p q (other i apart a hq hp) = other i apart (alone_moves _ i a) hq hp
  reached_moves p q (each i j apart c hp hq) = each i j apart (together_moves i j c) hp hq
  reached_moves p q (each_other i j apart c hq hp) = each_other i j apart (together_moves i j c) hq hp

  pub right_side_moves : (p q : ℕ) → By (right_side J T p q) t → By (right_side J U p q) v
  right_side_moves p q h = right_side_of_reached J U p q v (reached_moves p q (reached_of_right_side J T p q t h))

-- a table that is nowhere later has right sides that are nowhere later
pub right_side_mono : (J : Job) (T U : Table)
    → ((p q t : ℕ) → p ≤ q → q < J.facts → By (T p q) t → By (U p q) t)
    → (p q t : ℕ) → By (right_side J T p q) t → By (right_side J U p q) t
right_side_mono J T U down p q t =
    right_side_moves J T U t t
    (λ set i u l e k.
    (u, time_of_by J U set u (λ x y a b hx hy. down x y u a b (by_time_of J T set u k x y a b hx hy)), e))
    p q

-- with positive durations only the entries before minute t count
pub right_side_mono_before : (J : Job) → PositiveDurations J → (T U : Table) (t : ℕ)
    → ((p q u : ℕ) → u < t → p ≤ q → q < J.facts → By (T p q) u → By (U p q) u)
    → (p q : ℕ) → By (right_side J T p q) t → By (right_side J U p q) t
right_side_mono_before J durations T U t down =
    right_side_moves J T U t t
    (λ set i u l e k.
    let d = durations i l in
    let earlier : u < t = omega arith in
    (u, time_of_by J U set u (λ x y a b hx hy. down x y u earlier a b (by_time_of J T set u k x y a b hx hy)), e))

-- a finite right side is at most one duration above the largest finite entry
pub right_side_capped : (J : Job) (T : Table) (cap longest : ℕ)
    → ((i : ℕ) → i < length J.actions → (action_of J i).duration ≤ longest)
    → ((p q t : ℕ) → p ≤ q → q < J.facts → By (T p q) t → By (T p q) cap)
    → (p q t : ℕ) → By (right_side J T p q) t → By (right_side J T p q) (longest + cap)
right_side_capped J T cap longest durations capped p q t =
    right_side_moves J T T t (longest + cap)
    (λ set i u l e k.
    let d = durations i l in (
      cap,
      time_of_by J T set cap (λ x y a b hx hy. capped x y u a b (by_time_of J T set u k x y a b hx hy)),
      omega arith,
    ))
    p q
