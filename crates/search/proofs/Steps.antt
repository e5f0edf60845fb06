-- The steps of the search: what is ready stays ready, and a dead end after a step is one before it.
-- Assumes nothing.
use Rattle.std.specs.Prelude.{Option, Some, None, is_some}
use Prim.Native.Nat.{ℕ, ◌+◌, ◌≤◌, ◌<◌}
use mathlib.Core.Path.{◌≡◌, refl, sym, ap, ◌∙◌}
use mathlib.Core.Bool.{true, false, not}
use mathlib.Core.List.{List, ◌∷◌}
use native.Mathlib.Omega.{arith}
use Rattle.facts.specs.FactSet.{has}
use Rattle.job.specs.Job.{Job}
use Rattle.timeline.specs.Step.{Step}
use Rattle.regression.specs.DeadEnd.{Until, Open}
use Rattle.regression.proofs.Decisions.{dead_open}
use Rattle.tables.specs.Tables.{Known, chosen, duration_at, from_of}
use Rattle.tables.specs.declared.Frame.{Frame}
use Rattle.tables.specs.declared.Steps.{Steps}
use Rattle.leaf.specs.declared.Answer.{Answer}
use Rattle.leaf.specs.Answer.{Finishes}
use Rattle.states.specs.declared.state.State.{State}
use Rattle.states.specs.States.{Stands, DeadFor, next_step, MayStop, OpenIn}
use Rattle.states.specs.Moves.{Taken, Back, NoEventBetween}
use Rattle.pruning.specs.Missing.{Fresh}
use Rattle.search.specs.Search.{TaskOf, Ready}
use Rattle.states.proofs.Chosen.{known_pushed, keeps_pushed, starts_pushed}
use Rattle.states.proofs.StateLaws.{fits_in_time, new_when_fits, chosen_taken, taken_stands}
use Rattle.states.proofs.StateLaws.{back_stands}
use Rattle.search.proofs.Completeness.{dead_back}

-- an action that may stop at the state's minute starts at the first free minute or later
pub starts_in_time : {sets numbers : List ℕ} {frame : Frame} {st : State} {i : ℕ}
    → MayStop sets numbers frame st i true → frame.first + duration_at numbers i ≤ st.minute
starts_in_time {sets} {numbers} {frame} {st} {i} may = fits_in_time numbers frame st i (may.fits refl)

-- ---- an action taken
module _ (sets numbers times : List ℕ) (frame : Frame) (st : State) (ready : Ready sets numbers times frame st) (i : ℕ)
    (known : i < frame.actions) (may : MayStop sets numbers frame st i true) (r : State)
    (taken : Taken sets numbers frame.handovers st i r) where
  known_taken : Known frame.actions r.steps
  known_taken =
      rw taken.steps (known_pushed st.steps frame.actions i _ ready.safe.known (may.room refl) known)

  pub ready_taken : Ready sets numbers times frame r
  ready_taken =
      let since = taken.since in
      let before = ready.safe.since in
      let count = ap (λ (s : Steps). s.count) taken.steps in
      let minute = taken.minute in
      let first = ready.not_before in
      record {
        safe = record {
          lent = ready.safe.lent;
          known = known_taken;
          pools = ready.safe.pools;
          stores = ready.safe.stores;
          since = omega arith;
          small = rw count (taken.uses.more st.steps.count ready.safe.small);
        };
        time_count = ready.time_count;
        facts = ready.facts;
        not_before = omega arith;
        minute = rw minute ready.minute;
        starts = rw taken.steps
            (starts_pushed st.steps frame.actions i _ ready.safe.known (may.room refl) ready.starts
            (let m = ready.minute in omega arith));
        kept = rw taken.steps
            (keeps_pushed frame st.steps frame.actions i _ ready.safe.known (may.room refl) ready.kept
            (new_when_fits numbers frame st i (may.fits refl)));
        kept_known = ready.kept_known;
        origin = ready.origin;
      }

  module _ (J : Job) (file : List ℕ) (task : TaskOf J file sets numbers times frame) (stands : Stands J frame st) where
    pub stands_taken : Stands J frame r
    stands_taken =
        taken_stands J sets numbers frame task.described st ready.safe.known i known (may.room refl)
        (may.fits refl) r taken stands (may.apart refl) ready.safe.since

    steps_taken : chosen J r.steps ≡ next_step J st i ∷ chosen J st.steps
    steps_taken =
        chosen_taken J sets numbers frame task.described st ready.safe.known i known (may.room refl)
        (may.fits refl) r taken

    dead_as : (X : ℕ → Step → Type 0) {t t' : ℕ} {L L' : List Step} → t ≡ t' → L ≡ L' → DeadFor J frame (X t) L
        → DeadFor J frame (X t') L'
    dead_as X e f h = rw (← e, ← f) h

    pub dead_when_taken_open : (left : ℕ) → DeadFor J frame (OpenIn frame r left) (chosen J r.steps)
        → DeadFor J frame (OpenIn frame st left) (next_step J st i ∷ chosen J st.steps)
    dead_when_taken_open left dead =
        dead_as (λ t. Open (from_of frame) t (λ a. not (has left a))) taken.minute steps_taken dead

    pub dead_when_taken_until : (left : ℕ) → DeadFor J frame (Until (from_of frame) r.minute) (chosen J r.steps)
        → DeadFor J frame (OpenIn frame st left) (next_step J st i ∷ chosen J st.steps)
    dead_when_taken_until left dead =
        dead_open J (from_of frame) frame.goal frame.horizon st.minute (λ a. not (has left a)) _
        (dead_as (Until (from_of frame)) taken.minute steps_taken dead)

-- ---- back to the event before
module _ (sets numbers times : List ℕ) (frame : Frame) (st : State) (ready : Ready sets numbers times frame st)
    (r : State) (s : ℕ) (back : Back sets numbers frame s st r) (not_before : frame.first ≤ s) (earlier : s < st.minute)
    (none : NoEventBetween frame.handovers frame.pools st.steps s st.minute) where
  pub ready_back : Ready sets numbers times frame r
  ready_back =
      let since = back.since in
      let count = ap (λ (s : Steps). s.count) back.steps in
      record {
        safe = record {
          lent = ready.safe.lent;
          known = rw back.steps ready.safe.known;
          pools = ready.safe.pools;
          stores = ready.safe.stores;
          since = omega arith;
          small = rw count back.uses.small;
        };
        time_count = ready.time_count;
        facts = ready.facts;
        not_before = let e = back.minute in omega arith;
        minute = let m = ready.minute in let e = back.minute in omega arith;
        starts = rw back.steps ready.starts;
        kept = rw back.steps ready.kept;
        kept_known = ready.kept_known;
        origin = ready.origin;
      }

  pub fresh_back : Fresh r
  fresh_back = back.since ∙ ap (λ (s : Steps). s.count) (sym back.steps)

  pub stands_back : (J : Job) (file : List ℕ) → TaskOf J file sets numbers times frame → Stands J frame st
      → Stands J frame r
  stands_back J file task stands =
      back_stands J sets numbers frame task.described st r s back stands earlier none

  pub dead_when_back : (J : Job) (file : List ℕ) → TaskOf J file sets numbers times frame → Stands J frame st
      → DeadFor J frame (Until (from_of frame) r.minute) (chosen J r.steps)
      → DeadFor J frame (OpenIn frame st 0) (chosen J st.steps)
  dead_when_back J file task stands dead =
      dead_back J frame st sets numbers task.described stands.in_time s earlier none
      (rw (← back.minute, ← back.steps) dead)

-- ---- the first minute
pub dead_when_unfinished : (J : Job) (file sets numbers times : List ℕ) (frame : Frame) (st : State) (r : Option Answer)
    → Ready sets numbers times frame st → TaskOf J file sets numbers times frame → Finishes file frame st.steps r
    → st.minute ≤ frame.first → r ≡ None
    → DeadFor J frame (Until (from_of frame) st.minute) (chosen J st.steps)
dead_when_unfinished J file sets numbers times frame st r ready task finishes early none =
    finishes.dead none J task.in_file
    (record {
      goal = task.goal;
      in_time = task.described.in_time;
      known = rw task.described.actions ready.safe.known;
    })
    (from_of frame) st.minute early
