-- A sweep in which no entry fell: the table solves the equations.
-- Assumes nothing.
use Prim.Native.Nat.{ℕ, ◌+◌, ◌≤◌, ◌<◌}
use mathlib.Core.Path.{◌≡◌, ap, sym, ◌∙◌}
use mathlib.Core.Bool.{true, false, not}
use mathlib.Core.Logic.{⊎_elim}
use mathlib.Core.List.{List}
use native.Mathlib.Omega.{arith}
use lib.ListN.{length, get_or}
use Rattle.facts.specs.FactSet.{has, union, difference, single}
use Rattle.facts.proofs.Membership.{has_union}
use Rattle.facts.proofs.SetLaws.{in_union_left, in_union_right, in_difference}
use Rattle.job.specs.Job.{Job}
use Rattle.pairs.specs.Pairs.{entry_of}
use Rattle.timeline.proofs.Tests.{decided, and_both, or_neither}
use Rattle.times.specs.Earliest.{time_of, action_of, fits_alone, Solves}
use Rattle.times.specs.Numbers.{none, table_in}
use Rattle.times.specs.Choices.{By, Alone, Together, Reached, at_start, both, one, other, each, each_other}
use Rattle.times.proofs.Times.{time_of_part}
use Rattle.times.proofs.Choices.{reached_of_right_side}
use Rattle.times.proofs.Sentinel.{time_in_by}
use Rattle.times.proofs.Iteration.{solves_when_settled}
use Rattle.earliest.specs.Lowering.{entry_at, Lowerable}
use Rattle.earliest.specs.Sweep.{is_longer, Settled}
use Rattle.earliest.proofs.Entries.{entry_in_order, entry_swapped}
use Rattle.earliest.proofs.Longer.{longer_or_equal, equal_longer, fit_swapped, together_swapped}
use Rattle.earliest.proofs.ChoiceLaws.{fits_alone_of_together, number_by_alone, number_by_together}

module _ (J : Job) (xs : List ℕ) (able : Lowerable J xs) (settled : Settled J xs) where
  -- an entry that is at most the number of a choice is at most the minute at which it ends
  by_entry : (p q ends t : ℕ) → p ≤ q → entry_at xs p q ≤ ends → (ends ≤ t) × (ends < none) → By (table_in xs p q) t
  by_entry p q ends t a l m =
      let same : get_or xs (entry_of p q) none ≡ entry_at xs p q = ap (λ (k : ℕ). get_or xs k none) (entry_in_order p q a) in
      let m1 = m.0 in
      let m2 = m.1 in
      time_in_by (get_or xs (entry_of p q) none) t (omega arith) (omega arith)

  -- the entry of two facts is at most the number of a choice that ends by minute t
  abbrev Ends : ℕ → ℕ → ℕ → Type 0
  Ends p q t = (ends : ℕ) × (entry_at xs p q ≤ ends) × ((ends ≤ t) × (ends < none))

  ends_swapped : (p q t : ℕ) → Ends q p t → Ends p q t
  ends_swapped p q t r =
      let l = r.1 in
      let e : entry_at xs q p ≡ entry_at xs p q = ap (λ (k : ℕ). get_or xs k none) (entry_swapped p q) in
      (r.0, omega arith, r.2)

  -- (i)
  both_end : (p q t i from : ℕ) → p < J.facts → q < J.facts → i < length J.actions
      → fits_alone J (action_of J i) ≡ true → By (time_of J (table_in xs) (action_of J i).needs) from
      → (action_of J i).duration + from ≤ t → has (action_of J i).adds p ≡ true → has (action_of J i).adds q ≡ true
      → Ends p q t
  both_end p q t i from a b known fits ready ends hp hq =
      let acts = settled.actions i known fits in (
        _,
        acts.both.1 p a hp q b hq,
        number_by_alone J xs able i (action_of J i).needs known acts.both.0 from t ready ends,
      )

  -- (ii): action i adds p and carries q; where it adds q too, (i) is no later
  carried : (p q t i : ℕ) → p < J.facts → q < J.facts
      → Alone J (table_in xs) t (union (action_of J i).needs (single q)) i
      → has (action_of J i).adds p ≡ true → has (action_of J i).deletes q ≡ false → Ends q p t
  carried p q t i a b alone hp hq =
      let needs : ℕ = (action_of J i).needs in
      let acts = settled.actions i alone.known alone.fits in
      ⊎_elim
      (λ e.
      both_end q p t i alone.from b a alone.known alone.fits
      (time_of_part J (table_in xs) needs (union needs (single q)) alone.from (in_union_left needs (single q))
      alone.ready)
      alone.ends e hp)
      (λ e. (
        _,
        acts.one q b (has_union (action_of J i).adds (action_of J i).deletes q ∙ or_neither e hq) p a hp,
        number_by_alone J xs able i (union needs (single q)) alone.known acts.both.0 alone.from t
            alone.ready alone.ends,
      ))
      (decided (has (action_of J i).adds q))

  -- (iii)
  abbrev only : ℕ → ℕ → ℕ
  only i j = difference (action_of J i).adds (action_of J j).adds

  longer_first : (p q t i j : ℕ) → p < J.facts → q < J.facts → Together J (table_in xs) t i j
      → is_longer (action_of J i).duration (action_of J j).duration i j ≡ true → has (only i j) p ≡ true
      → has (only j i) q ≡ true → Ends p q t
  longer_first p q t i j a b c longer hp hq =
      let fits = fits_alone_of_together J (action_of J i) (action_of J j) c.fits in
      let allowed = and_both longer (and_both (ap not (or_neither c.spares c.spared)) c.fits) in (
        _,
        (settled.actions i c.known fits).each j c.known_too allowed p a hp q b hq,
        number_by_together J xs able i j c.known c.known_too allowed
            (settled.actions i c.known fits).both.0 t c,
      )

  -- two equally long actions are tried in one order
  in_one_order : (p q t i j : ℕ) → p < J.facts → q < J.facts → Together J (table_in xs) t i j
      → has (only i j) p ≡ true → has (only j i) q ≡ true → Ends p q t
  in_one_order p q t i j a b c hp hq =
      let d : ℕ = (action_of J i).duration in
      let e : ℕ = (action_of J j).duration in
      ⊎_elim (λ longer. longer_first p q t i j a b c longer hp hq)
      (λ equal.
      ends_swapped p q t
      (longer_first q p t j i b a (together_swapped J (table_in xs) t i j equal.0 c)
      (equal_longer e d j i (sym equal.0) equal.1) hq hp))
      (longer_or_equal d e i j c.longer c.different)

  -- where one of the two adds both facts, (i) is no later
  pair_ends : (p q t i j : ℕ) → p < J.facts → q < J.facts → Together J (table_in xs) t i j
      → has (action_of J i).adds p ≡ true → has (action_of J j).adds q ≡ true → Ends p q t
  pair_ends p q t i j a b c hp hq =
      let needs_i : ℕ = (action_of J i).needs in
      let needs_j : ℕ = (action_of J j).needs in
      ⊎_elim
      (λ more.
      both_end p q t j c.both_from a b c.known_too
      (fits_alone_of_together J (action_of J j) (action_of J i) (fit_swapped J (action_of J j) (action_of J i) ∙ c.fits))
      (time_of_part J (table_in xs) needs_j (union needs_i needs_j) c.both_from (in_union_right needs_i needs_j)
      c.both_ready)
      c.both_end more hq)
      (λ no_more.
      ⊎_elim
      (λ more.
      both_end p q t i c.from a b c.known
      (fits_alone_of_together J (action_of J i) (action_of J j) c.fits) c.ready c.ends hp more)
      (λ no_other. in_one_order p q t i j a b c (in_difference _ _ p hp no_more) (in_difference _ _ q hq no_other))
      (decided (has (action_of J i).adds q)))
      (decided (has (action_of J j).adds p))

  settled_entry : (p q t : ℕ) → p ≤ q → q < J.facts → Reached J (table_in xs) p q t → By (table_in xs p q) t
  settled_entry p q t a b (at_start hp hq) =
      by_entry p q 0 t a (settled.start p (omega arith) hp q b hq) (omega arith, omega arith)
  settled_entry p q t a b (both i alone hp hq) =
      let r = both_end p q t i alone.from (omega arith) b alone.known alone.fits alone.ready alone.ends
      hp hq in
      by_entry p q r.0 t a r.1 r.2
  settled_entry p q t a b (one i apart alone hp hq) =
      let r = ends_swapped p q t (carried p q t i (omega arith) b alone hp hq) in
      by_entry p q r.0 t a r.1 r.2
  settled_entry p q t a b (other i apart alone hq hp) =
      let r = carried q p t i b (omega arith) alone hq hp in by_entry p q r.0 t a r.1 r.2
  settled_entry p q t a b (each i j apart c hp hq) =
      let r = pair_ends p q t i j (omega arith) b c hp hq in by_entry p q r.0 t a r.1 r.2
  settled_entry p q t a b (each_other i j apart c hq hp) =
      let r = ends_swapped p q t (pair_ends q p t i j b (omega arith) c hq hp) in
      by_entry p q r.0 t a r.1 r.2

  pub solves_when_swept : Solves J (table_in xs)
  solves_when_swept =
      solves_when_settled J (table_in xs) able.kept.least
      (λ p q t a b h. settled_entry p q t a b (reached_of_right_side J (table_in xs) p q t h))
