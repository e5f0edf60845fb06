-- A fresh state for whose landmarks a store or a pool has too little left, or the minutes are too few, is a dead end.
-- Assumes nothing.
use Prim.Native.Nat.{ℕ, ◌+◌, ◌*◌, ◌-◌, ◌≤◌, ◌<◌}
use mathlib.Core.Path.{◌≡◌, sym, ap, ap₂, subst, ◌∙◌}
use mathlib.Core.Bool.{false}
use mathlib.Core.List.{List, ◌++◌}
use native.Mathlib.Omega.{arith}
use lib.ListN.{length, get_or}
use borrow.Author.Tests.{leb-false}
use Rattle.facts.specs.FactSet.{union, difference}
use Rattle.job.specs.Job.{Job}
use Rattle.timeline.specs.Step.{Step, total}
use Rattle.timeline.specs.From.{IsNew}
use Rattle.timeline.specs.Timeline.{used_up}
use Rattle.timeline.specs.Places.{EachStep}
use Rattle.regression.specs.Tests.{must_hold}
use Rattle.regression.specs.DeadEnd.{Until}
use Rattle.tables.specs.Tables.{Describes, chosen, kept_of, from_of, KeepsKept}
use Rattle.tables.specs.declared.Frame.{Frame}
use Rattle.landmarks.specs.Landmarks.{marks_of, sum_over, minutes_in}
use Rattle.landmarks.specs.Tables.{mark_at, share_from, row_at}
use Rattle.landmarks.specs.Openings.{open_at}
use Rattle.cliques.specs.Cliques.{apart_at, least_at, CliqueMinutes}
use Rattle.landmarks.proofs.DeadEnds.{dead_when_store_short, dead_when_steps_short, dead_when_pool_short}
use Rattle.cliques.proofs.CliqueLaws.{dead_when_clique_too_long}
use Rattle.states.specs.declared.state.State.{State}
use Rattle.states.specs.States.{Stands, DeadFor}
use Rattle.states.proofs.Chosen.{length_chosen, chosen_splits, since_new}
use Rattle.pruning.specs.Missing.{Marked, Fresh, Missing, fits, UsedBefore}

module _ (J : Job) (sets numbers : List ℕ) (frame : Frame) (described : Describes J sets numbers frame)
    (marked : Marked J sets numbers frame) (st : State) (keeps : KeepsKept frame st.steps)
    (stands : Stands J frame st) (fresh : Fresh st) (not_before : frame.first ≤ st.minute) where
  abbrev L : List Step
  L = chosen J st.steps

  abbrev t : ℕ
  t = st.minute

  -- the steps chosen beside the kept ones
  since : List Step
  since = (chosen_splits J frame st.steps keeps).0

  both : List Step
  both = since ++ kept_of J frame

  same : L ≡ both
  unfolding since both
  same = (chosen_splits J frame st.steps keeps).1

  new_steps_lem : EachStep (IsNew (from_of frame)) since
  unfolding since
  new_steps_lem = since_new J frame st.steps keeps _ (chosen_splits J frame st.steps keeps).2

  later_steps : EachStep (λ x. t < x.stop) since
  unfolding since
  later_steps x Q p =
      let k = (chosen_splits J frame st.steps keeps).2 x Q p in
      let l = k.2 in
      rw k.3 (stands.later k.0 k.1 (omega arith))

  -- the landmarks of what must hold, less what is given
  missing_of : difference (marks_of (mark_at sets) 64 (union st.wanted st.at.across)) frame.given
      ≡ difference (marks_of (mark_at sets) 64 (must_hold frame.goal frame.horizon both t)) frame.given
  missing_of =
      ap (λ (set : ℕ). difference (marks_of (mark_at sets) 64 set) frame.given)
      (ap₂ union stands.wants stands.at.across
      ∙ ap (λ (P : List Step). must_hold frame.goal frame.horizon P t) same)

  back : DeadFor J frame (Until (from_of frame) t) both → DeadFor J frame (Until (from_of frame) t) L
  back = subst (DeadFor J frame (Until (from_of frame) t)) (sym same)

  pub dead_when_store_exceeded : (store missing : ℕ) → store < 4 → store < frame.stores
      → Missing sets frame st missing
      → fits numbers store missing (get_or st.uses.spent store 0) (get_or frame.stocks store 0) ≡ false
      → DeadFor J frame (Until (from_of frame) st.minute) L
  unfolding both
  dead_when_store_exceeded store missing few inside is fails =
      let count = described.stores in
      let known : store < length J.stores = omega arith in
      let stock = described.stocks store inside in
      let used = stands.uses.spent store few known ∙ ap (used_up J store) same in
      let more = leb-false
      (sum_over (share_from numbers (row_at store)) 64 missing + 2520 * get_or st.uses.spent store 0)
      (2520 * get_or frame.stocks store 0) fails in
      back
      (dead_when_store_short J (from_of frame) frame.goal frame.horizon t not_before stands.in_time since
      (kept_of J frame) later_steps new_steps_lem frame.given marked.hand 64 (mark_at sets) marked.landmarks
      (share_from numbers (row_at store)) store known 2520 (marked.stores store few known)
      (rw (is ∙ missing_of, used, stock) at more))

  pub dead_when_steps_exceeded : (missing : ℕ) → Missing sets frame st missing
      → fits numbers 8 missing st.steps.count 32 ≡ false → DeadFor J frame (Until (from_of frame) st.minute) L
  unfolding both
  dead_when_steps_exceeded missing is fails =
      let used = sym (length_chosen J st.steps st.steps.count) ∙ ap length same in
      let row = share_from numbers (row_at 8) in
      let more : 2520 * 32 < sum_over row 64 missing + 2520 * length both =
      subst (λ (n : ℕ). 2520 * 32 < sum_over row 64 missing + 2520 * n) used
      (leb-false (sum_over row 64 missing + 2520 * st.steps.count) (2520 * 32) fails) in
      back
      (dead_when_steps_short J (from_of frame) frame.goal frame.horizon t not_before stands.in_time since
      (kept_of J frame) later_steps new_steps_lem frame.given marked.hand 64 (mark_at sets) marked.landmarks
      row 2520 marked.steps (rw (is ∙ missing_of) at more))

  pub dead_when_minutes_exceeded : (missing minutes : ℕ) → Missing sets frame st missing
      → CliqueMinutes sets numbers missing minutes → st.minute - frame.first < minutes
      → DeadFor J frame (Until (from_of frame) st.minute) L
  unfolding both
  dead_when_minutes_exceeded missing minutes is clique exceeds =
      back
      (dead_when_clique_too_long J (from_of frame) frame.goal frame.horizon t not_before stands.in_time since
      (kept_of J frame) later_steps new_steps_lem frame.given marked.hand 64 (mark_at sets) marked.landmarks
      (apart_at sets)
      (least_at numbers) marked.cliques clique.0 minutes (rw (is ∙ missing_of) at clique.1) exceeds)

  pub dead_when_pool_exceeded : (pool missing used : ℕ) → pool < 4 → pool < frame.pools → Missing sets frame st missing
      → UsedBefore numbers frame.actions st.steps pool (open_at numbers pool + frame.origin) t st.steps.count
      used
      → fits numbers (4 + pool) missing used
      (get_or frame.available pool 0 * (t - (open_at numbers pool + frame.origin))) ≡ false
      → DeadFor J frame (Until (from_of frame) st.minute) L
  unfolding both
  dead_when_pool_exceeded pool missing used few inside is used_before fails =
      let count = described.pools in
      let known : pool < length J.pools = omega arith in
      let from : ℕ = open_at numbers pool + frame.origin in
      let more = leb-false (sum_over (share_from numbers (row_at (4 + pool))) 64 missing + 2520 * used)
      (2520 * (get_or frame.available pool 0 * (t - from))) fails in
      let uses = used_before J sets described.each known
      ∙ ap (λ (P : List Step). total (λ x. get_or x.action.pools pool 0 * minutes_in from t x) P) same in
      back
      (dead_when_pool_short J (from_of frame) frame.goal frame.horizon t not_before stands.in_time since
      (kept_of J frame) later_steps new_steps_lem frame.given marked.hand 64 (mark_at sets) marked.landmarks
      (share_from numbers (row_at (4 + pool))) pool known 2520 from (marked.pools pool few known)
      (marked.opens pool few known)
      (rw (is ∙ missing_of, uses, described.available pool inside) at more))
