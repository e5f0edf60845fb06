-- How the tables of cliques are filled: fact after fact, action after action, behind landmarks, shares and openings.
-- Assumes nothing.
use Prim.Native.Nat.{ℕ, ◌+◌, ◌*◌, ◌≤◌, ◌<◌}
use mathlib.Core.Path.{◌≡◌, sym, ap, ◌∙◌}
use mathlib.Core.Bool.{true, false}
use mathlib.Core.Logic.{inl, inr, ⊎_elim}
use mathlib.Core.List.{List}
use native.Mathlib.Nat.{eq-or-lt_of_le}
use native.Mathlib.Omega.{arith}
use lib.ListN.{length, set}
use lib.Seq.{get_or-set_same, get_or-set_other}
use Rattle.facts.specs.FactSet.{has, difference, NextFact}
use Rattle.facts.proofs.SetLaws.{in_difference_parts}
use Rattle.timeline.proofs.Tests.{not_both, trichotomy, le_or_lt}
use Rattle.tables.specs.declared.Frame.{Frame}
use Rattle.tables.specs.Tables.{adds_at}
use Rattle.landmarks.specs.Tables.{KeptBefore}
use Rattle.landmarks.specs.Marked.{WithinLimits, LandmarkTables}
use Rattle.landmarks.proofs.TableLaws.{kept_at_first, kept_when_set, kept_again}
use Rattle.landmarks.proofs.ShareLaws.{kept_less}
use Rattle.landmarks.proofs.KeptTables.{landmarks_stay}
use Rattle.cliques.specs.Cliques.{apart_at, Exclude, CliquesAt, ApartTo, Outside, Lessened, LeastPut}
use Rattle.cliques.specs.Marked.{MarkedTables}

-- ---- a set put for a fact, others stay
module _ (ys : List ℕ) (q k v : ℕ) (below : q < 64) where
  put_here : length ys ≡ 384 → k ≡ q → apart_at (set ys (320 + q) v) k ≡ v
  put_here size e = rw e (get_or-set_same ys (320 + q) v 0 (omega arith))

  put_elsewhere : (k ≡ q → ⊥) → apart_at (set ys (320 + q) v) k ≡ apart_at ys k
  put_elsewhere e =
      let other : 320 + k ≡ 320 + q → ⊥ = λ same. e (omega arith) in get_or-set_other ys (320 + q) (320 + k) v 0 other

-- ---- taking facts away
pub lessened_at_first : (from away n : ℕ) (xs : List ℕ) → length xs ≡ 384 → n ≡ 0 → Lessened n from away xs xs
lessened_at_first from away n xs size none =
    record { kept = kept_at_first 320 384 xs size; inside = λ k l p h. h; gone = λ k p l. absurd (omega arith) }

-- no fact of the set is left from n on
pub lessened_rest : (from away n : ℕ) (xs ys : List ℕ) → NextFact from n 64 → Lessened n from away xs ys
    → Lessened 64 from away xs ys
lessened_rest from away n xs ys next before =
    record {
      kept = before.kept;
      inside = before.inside;
      gone = λ k p l member.
          ⊎_elim (λ other. not_both member (next.skipped k other l)) (λ lower. before.gone k p lower member)
          (le_or_lt n k);
    }

module _ (from away : ℕ) (xs ys : List ℕ) (n q v : ℕ) (below : q < 64) (less : v ≡ difference (apart_at ys q) away)
    (before : Lessened n from away xs ys) where
  -- what is apart from a fact now was so before, and is not of the set if the fact is q
  entry_less : (k p : ℕ) → has (apart_at (set ys (320 + q) v) k) p ≡ true
      → (has (apart_at ys k) p ≡ true) × (k ≡ q → has away p ≡ false)
  entry_less k p h =
      ⊎_elim
      (λ e.
      let there = ap (λ (s : ℕ). has s p) (sym (put_here ys q k v below before.kept.size e ∙ less)) ∙ h in
      let parts = in_difference_parts (apart_at ys q) away p there in
      (rw e parts.0, λ same. parts.1))
      (λ unlike.
      let other : k ≡ q → ⊥ = λ e. ⊎_elim (λ l. omega arith) (λ l. omega arith) unlike in
      (ap (λ (s : ℕ). has s p) (sym (put_elsewhere ys q k v below other)) ∙ h, λ e. absurd (other e)))
      (trichotomy k q)

  -- the next fact of the set from n on is q
  pub lessened_on : NextFact from n q → Lessened (q + 1) from away xs (set ys (320 + q) v)
  lessened_on next =
      record {
        kept = kept_when_set 320 384 xs ys (320 + q) v (omega arith) before.kept;
        inside = λ k l p h. before.inside k l p (entry_less k p h).0;
        gone = λ k p l member h.
            let entry = entry_less k p h in
            ⊎_elim (λ e. entry.1 (omega arith))
            (λ unlike.
            ⊎_elim (λ other. not_both member (next.skipped k other (omega arith)))
            (λ lower. before.gone k p lower member entry.0)
            (le_or_lt n k))
            (eq-or-lt_of_le l);
      }

-- ---- action after action
exclude_kept : (xs ys numbers times : List ℕ) (frame : Frame) (i j : ℕ) → i < 64 → j < 64 → KeptBefore 320 384 xs ys
    → Exclude xs numbers times frame i j → Exclude ys numbers times frame i j
exclude_kept xs ys numbers times frame i j few few_too kept exclude =
    let first = kept.same (i * 4) (omega arith) in
    let second = kept.same (j * 4) (omega arith) in
    record {
      different = exclude.different;
      why = ⊎_elim (λ clash. inl (ap (λ (s : ℕ). has s j) (kept.same (i * 4 + 3) (omega arith)) ∙ clash))
          (⊎_elim (λ exceeds. inr (inl exceeds)) (λ late. inr (inr (rw (first, second) late)))) exclude.why;
    }

pub apart_on : (xs ys numbers times : List ℕ) (frame : Frame) (i away : ℕ) → i < frame.actions
    → frame.actions ≤ 64 → Outside xs numbers times frame i frame.actions away
    → Lessened 64 (adds_at xs i) away xs ys → ApartTo xs numbers times frame i → ApartTo ys numbers times frame (i + 1)
apart_on xs ys numbers times frame i away known few outside lessened before k q p j l below adds member known_too
    adds_too =
    let kept = lessened.kept in
    let first = ap (λ (s : ℕ). has s q) (sym (kept.same (k * 4 + 1) (omega arith))) ∙ adds in
    let second = ap (λ (s : ℕ). has s p) (sym (kept.same (j * 4 + 1) (omega arith))) ∙ adds_too in
    exclude_kept xs ys numbers times frame k j (omega arith) (omega arith) kept
    (⊎_elim
    (λ e.
    let same : k ≡ i = omega arith in
    rw same (outside j p known_too second (lessened.gone q p below (rw same at first) member)))
    (λ less. before k q p j (omega arith) below first (lessened.inside q below p member) known_too second)
    (eq-or-lt_of_le l))

-- both tables
cliques_filled : (sets xs ys times : List ℕ) (frame : Frame) → frame.actions ≤ 64 → frame.pools ≤ 4
    → ApartTo sets xs times frame frame.actions → LeastPut sets frame.actions 64 xs ys
    → CliquesAt sets ys times frame
cliques_filled sets xs ys times frame few few_pools apart put =
    record {
      exclusive = λ i q p j known below adds member known_too adds_too.
          let exclude = apart i q p j known below adds member known_too adds_too in
          record {
            different = exclude.different;
            why = ⊎_elim (λ clash. inl clash)
                (⊎_elim
                (λ exceeds.
                let inside = exceeds.1 in
                let more = exceeds.2 in
                let first = put.kept.same (i * 9 + 1 + exceeds.0) (omega arith) in
                let second = put.kept.same (j * 9 + 1 + exceeds.0) (omega arith) in
                inr (inl (exceeds.0, inside, rw (first, second) more)))
                (λ late. inr (inr late)))
                exclude.why;
          };
      shortest = put.put;
    }

-- landmarks are put first, then the facts that are apart, then the least minutes, each behind what is there
pub marked_tables : (sets sets' sets'' numbers numbers' numbers'' times : List ℕ) (frame : Frame) (start : ℕ)
    → WithinLimits times frame → KeptBefore 256 384 sets sets' → KeptBefore 576 1220 numbers numbers'
    → LandmarkTables sets' numbers' times frame start → KeptBefore 320 384 sets' sets''
    → ApartTo sets'' numbers' times frame frame.actions → LeastPut sets'' frame.actions 64 numbers' numbers''
    → KeptBefore 256 384 sets sets'' × KeptBefore 576 1220 numbers numbers''
    × MarkedTables sets'' numbers'' times frame start
marked_tables sets sets' sets'' numbers numbers' numbers'' times frame start limits kept_sets kept_numbers landmarks behind
    apart put = (
      kept_again 256 384 sets sets' sets'' kept_sets (kept_less 256 320 384 sets' sets'' (omega arith) behind),
      kept_again 576 1220 numbers numbers' numbers'' kept_numbers
          (kept_less 576 1156 1220 numbers' numbers'' (omega arith) put.kept),
      record {
        landmarks = landmarks_stay times frame start limits.actions sets' sets'' numbers' numbers'' behind put.kept
            landmarks;
        cliques = cliques_filled sets'' numbers' numbers'' times frame limits.actions limits.pools apart put;
      },
    )
