-- Landmarks, shares and openings stay in the tables while more is filled behind them.
-- Assumes nothing.
use Prim.Native.Nat.{ℕ, zero, suc, ◌+◌, ◌*◌, ◌≤◌, ◌<◌}
use mathlib.Core.Path.{◌≡◌, refl, sym, ap, ap₂, ◌∙◌}
use mathlib.Core.Bool.{cond}
use mathlib.Core.List.{List}
use native.Mathlib.Omega.{arith}
use lib.ListN.{length}
use Rattle.facts.specs.FactSet.{has, union}
use Rattle.tables.specs.Tables.{needs_at}
use Rattle.landmarks.specs.Landmarks.{marks_of}
use Rattle.tables.specs.declared.Frame.{Frame}
use Rattle.landmarks.specs.Tables.{KeptBefore, mark_at, Closed, WithinAll}
use Rattle.landmarks.specs.Openings.{OpeningsPut}
use Rattle.landmarks.specs.Marked.{LandmarkTables}
use Rattle.landmarks.proofs.TableLaws.{kept_at_first, kept_again}
use Rattle.landmarks.proofs.ShareLaws.{kept_less, within_kept}
use Rattle.landmarks.proofs.OpeningLaws.{openings_kept}

marks_same : (f g : ℕ → ℕ) (n set : ℕ) → ((p : ℕ) → p < n → f p ≡ g p) → marks_of f n set ≡ marks_of g n set
unfolding marks_of
marks_same f g zero set h = refl
marks_same f g (suc n) set h =
    ap₂ union (ap (λ (k : ℕ). cond (has set n) k 0) (h n (omega arith)))
    (marks_same f g n set (λ p l. h p (omega arith)))

module _ (actions start : ℕ) (few : actions ≤ 64) (xs ys : List ℕ) (kept : KeptBefore 320 384 xs ys) where
  closed_kept : Closed xs actions start → Closed ys actions start
  closed_kept closed q below =
      let mine = kept.same (256 + q) (omega arith) in
      record {
        at_hand = λ here. mine ∙ (closed q below).at_hand here;
        others = λ i known adds n h.
            let needs = kept.same (i * 4) (omega arith) in
            let adds_q = ap (λ (s : ℕ). has s q) (sym (kept.same (i * 4 + 1) (omega arith))) ∙ adds in
            let marks = marks_same (mark_at ys) (mark_at xs) 64 (needs_at xs i)
            (λ p l. kept.same (256 + p) (omega arith)) in
            rw (needs, marks) ((closed q below).others i known adds_q n (ap (λ (s : ℕ). has s n) (sym mine) ∙ h));
      }

  within_all_kept : (numbers more : List ℕ) → KeptBefore 1152 1220 numbers more
      → WithinAll xs numbers actions start → WithinAll ys more actions start
  within_all_kept numbers more same within row inside i known =
      let adds = kept.same (i * 4 + 1) (omega arith) in
      rw adds
      (within_kept xs start numbers more actions 1152 row few inside (omega arith) same (within row inside) i known)

module _ (times : List ℕ) (frame : Frame) (start : ℕ) (few : frame.actions ≤ 64) where
  -- landmarks are put first, then shares, then openings, each behind what is there
  pub landmarks_filled : (sets numbers numbers' numbers'' : List ℕ) → length sets ≡ 384
      → Closed sets frame.actions start → KeptBefore 576 1220 numbers numbers'
      → WithinAll sets numbers' frame.actions start → OpeningsPut sets times frame 4 numbers' numbers''
      → KeptBefore 576 1220 numbers numbers'' × LandmarkTables sets numbers'' times frame start
  landmarks_filled sets numbers numbers' numbers'' size closed shares within put = (
    kept_again 576 1220 numbers numbers' numbers'' shares
        (kept_less 576 1152 1220 numbers' numbers'' (omega arith) put.kept),
    record {
      closed = closed;
      within = within_all_kept _ start few sets sets (kept_at_first 320 384 sets size) numbers' numbers'' put.kept
          within;
      openings = put.put;
    },
  )

  -- they stay while cliques are put behind them
  pub landmarks_stay : (sets sets' numbers numbers' : List ℕ) → KeptBefore 320 384 sets sets'
      → KeptBefore 1156 1220 numbers numbers' → LandmarkTables sets numbers times frame start
      → LandmarkTables sets' numbers' times frame start
  landmarks_stay sets sets' numbers numbers' apart least tables =
      record {
        closed = closed_kept _ start few sets sets' apart tables.closed;
        within = within_all_kept _ start few sets sets' apart numbers numbers'
            (kept_less 1152 1156 1220 numbers numbers' (omega arith) least) tables.within;
        openings = openings_kept sets sets' numbers numbers' times frame few apart least tables.openings;
      }
