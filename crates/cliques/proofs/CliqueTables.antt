-- What the tables of cliques say of the job that the tables describe.
-- Assumes nothing.
use Prim.Native.Nat.{ℕ, ◌<◌}
use mathlib.Core.Path.{sym, ap, ◌∙◌}
use mathlib.Core.Logic.{inl, inr, ⊎_elim}
use mathlib.Core.List.{List}
use native.Mathlib.Omega.{arith}
use lib.ListN.{length}
use Rattle.facts.specs.FactSet.{has, union}
use Rattle.job.specs.Job.{Job}
use Rattle.timeline.specs.Step.{Step}
use Rattle.times.specs.Earliest.{action_of}
use Rattle.earliest.specs.Numbers.{set_number}
use Rattle.tables.specs.declared.Frame.{Frame}
use Rattle.tables.specs.Tables.{Describes}
use Rattle.landmarks.specs.Bounds.{TimesBound}
use Rattle.cliques.specs.Cliques.{NeverHolds, NeverOverlap, Cliques, apart_at, least_at, Exclude, CliquesAt}
use Rattle.cliques.specs.Cliques.{Unreached}

module _ (J : Job) (sets numbers times : List ℕ) (frame : Frame) (described : Describes J sets numbers frame)
    (b : ℕ) (K : List Step) (origin : ℕ) (bounds : TimesBound J b K origin times) where
  unreached_never_holds : (i j : ℕ) → i < frame.actions → j < frame.actions → Unreached sets times frame i j
      → NeverHolds J b K (union (action_of J i).needs (action_of J j).needs)
  unreached_never_holds i j first second late T goal in_time N new plan m after holds =
      let reached = (bounds T goal in_time N new plan both m after holds).1 in
      let beyond = later in
      omega arith
    where
      both : ℕ
      both = union (action_of J i).needs (action_of J j).needs

      later : 530400 < set_number times both J.facts
      later =
          rw (← (described.each i first).needs, ← (described.each j second).needs, described.facts) late

  never_when_excluded : (i j : ℕ) → i < frame.actions → j < frame.actions → Exclude sets numbers times frame i j
      → NeverOverlap J b K i j
  never_when_excluded i j first second exclude =
      record {
        different = exclude.different;
        why = ⊎_elim (λ clash. inl (sym ((described.each i first).clash j (rw described.actions second)) ∙ clash))
            (⊎_elim
            (λ exceeds.
            let inside = exceeds.1 in
            let more = exceeds.2 in
            let known : exceeds.0 < length J.pools = rw described.pools inside in
            let use_first = (described.each i first).pools exceeds.0 known in
            let use_second = (described.each j second).pools exceeds.0 known in
            let amount = described.available exceeds.0 inside in
            inr (inl (exceeds.0, known, omega arith)))
            (λ late. inr (inr (unreached_never_holds i j first second late))))
            exclude.why;
      }

  pub cliques_of_tables : CliquesAt sets numbers times frame → Cliques J b K 64 (apart_at sets) (least_at numbers)
  cliques_of_tables tables =
      record {
        exclusive = λ q p i j below member first second adds adds_too.
            let known : i < frame.actions = rw described.actions at first in
            let known_too : j < frame.actions = rw described.actions at second in
            let adds_q = ap (λ (set : ℕ). has set q) (described.each i known).adds ∙ adds in
            let adds_p = ap (λ (set : ℕ). has set p) (described.each j known_too).adds ∙ adds_too in
            let exclude = tables.exclusive i q p j known below adds_q member known_too adds_p in
            never_when_excluded i j known known_too exclude;
        shortest = λ q i below first adds.
            let known : i < frame.actions = rw described.actions at first in
            let adds_q = ap (λ (set : ℕ). has set q) (described.each i known).adds ∙ adds in
            let least = tables.shortest q below i known adds_q in
            let lasts = (described.each i known).duration in
            omega arith;
      }
