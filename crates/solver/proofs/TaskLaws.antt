-- The tables of a day, with the frame of a task: what the search is asked, and its answer.
-- Assumes nothing.
use Rattle.std.specs.Prelude.{Option, Some, None}
use Prim.Native.Nat.{ℕ, ◌+◌, ◌*◌}
use mathlib.Core.Path.{◌≡◌, refl, sym, ap, ◌∙◌, subst}
use mathlib.Core.Bool.{true, false}
use mathlib.Core.List.{List}
use native.Mathlib.Omega.{arith}
use Rattle.lists.proofs.Tabulate.{length_tabulate}
use Rattle.facts.specs.FactSet.{has}
use Rattle.job.specs.declared.Job as held
use Rattle.job.specs.Refusal.{pass}
use Rattle.job.specs.Job.{Job, Fits, action_at, job_in}
use Rattle.job.specs.Refusal.{first}
use Rattle.job.specs.Resumed.{resumed, resumed_value}
use Rattle.job.specs.Valid.{limit_rows}
use Rattle.job.proofs.Passed.{within_limits}
use Rattle.job.proofs.Resuming.{job_in_resumed}
use Rattle.job.proofs.Rows.{fits_of_limits}
use Rattle.timeline.specs.Step.{Step}
use Rattle.tables.specs.declared.Frame.{Frame}
use Rattle.tables.specs.Filled.{Filled, frame_of, FramedAs}
use Rattle.tables.specs.Tables.{Numbers, Describes, Known, chosen}
use Rattle.tables.proofs.Describing.{ByteDurations, describes}
use Rattle.landmarks.specs.Bounds.{AddedByNew}
use Rattle.landmarks.specs.Landmarks.{Landmarks}
use Rattle.landmarks.specs.Tables.{KeptBefore, mark_at}
use Rattle.landmarks.specs.Marked.{WithinLimits}
use Rattle.landmarks.proofs.TableLaws.{landmarks_when_closed}
use Rattle.landmarks.proofs.ShareLaws.{stores_when_within, pools_when_within, steps_when_within}
use Rattle.landmarks.proofs.OpeningLaws.{opens_of_tables}
use Rattle.landmarks.proofs.AddedByNew.{added_by_new_rest}
use Rattle.cliques.specs.Marked.{MarkedTables}
use Rattle.cliques.proofs.CliqueTables.{cliques_of_tables}
use Rattle.leaf.specs.declared.Answer.{Answer}
use Rattle.leaf.specs.Answer.{FileOf}
use Rattle.leaf.specs.Order.{in_order}
use Rattle.search.specs.Search.{TaskOf, FoundFor}
use Rattle.search.specs.Horizons.{Whole, NoneBefore, NoneBy}
use Rattle.solver.specs.declared.Task.{Task}
use Rattle.solver.specs.Task.{day_of, TaskFits, RestTimes, Solved}
use Rattle.solver.proofs.Solving.{solved}

-- the numbers of the actions, with durations of one byte
pub numbers_of_job : (job : held.Job) (sets numbers : List ℕ) → first (limit_rows (job_in job)) ≡ pass
    → Filled job sets numbers → Numbers numbers job.counts.actions
numbers_of_job job sets numbers passes filled =
    record {
      number_count = filled.number_count;
      few = (fits_of_limits job passes).2;
      short = λ i l.
          let n = filled.each_numbers i l in
          let d = n.duration in
          let b = n.byte in
          omega arith;
    }

-- the tables of the actions stay while those of the facts are filled
pub filled_still : (job : held.Job) (sets numbers sets' numbers' : List ℕ) → first (limit_rows (job_in job)) ≡ pass
    → Filled job sets numbers → KeptBefore 256 384 sets sets' → KeptBefore 576 1220 numbers numbers'
    → Filled job sets' numbers'
filled_still job sets numbers sets' numbers' passes filled kept_sets kept_numbers =
    let fits = fits_of_limits job passes in
    let limits = within_limits (job_in job) passes in
    record {
      set_count = kept_sets.size;
      number_count = kept_numbers.size;
      each_sets = λ i l.
          let f = filled.each_sets i l in
          let few = fits.2 in
          record {
            needs = kept_sets.same (i * 4) (omega arith) ∙ f.needs;
            adds = kept_sets.same (i * 4 + 1) (omega arith) ∙ f.adds;
            deletes = kept_sets.same (i * 4 + 2) (omega arith) ∙ f.deletes;
            clash = λ j m. ap (λ (set : ℕ). has set j) (kept_sets.same (i * 4 + 3) (omega arith)) ∙ f.clash j m;
          };
      each_numbers = λ i l.
          let f = filled.each_numbers i l in
          let few = fits.2 in
          record {
            duration = kept_numbers.same (i * 9) (omega arith) ∙ f.duration;
            byte = f.byte;
            pools = λ pool m.
                let p = limits.few_pools in kept_numbers.same (i * 9 + 1 + pool) (omega arith) ∙ f.pools pool m;
            stores = λ store m small.
                let p = limits.few_stores in
                kept_numbers.same (i * 9 + 5 + store) (omega arith) ∙ f.stores store m small;
          };
    }

-- ---- the day of the task
module _ (job day : held.Job) (task : Task) (is : day ≡ resumed_value job task.start task.stocks) where
  pub job_in_day : job_in day ≡ day_of job task
  job_in_day = ap job_in is ∙ job_in_resumed job task.start task.stocks

  pub day_fits : TaskFits (day_of job task) task → TaskFits (job_in day) task
  day_fits = subst (λ (J : Job). TaskFits J task) (sym job_in_day)

  pub day_resumes : resumed (job_in job) day.start day.stores ≡ job_in day
  day_resumes =
      subst (λ (d : held.Job). resumed (job_in job) d.start d.stores ≡ job_in d) (sym is)
      (sym (job_in_resumed job task.start task.stocks))

  pub job_durations : ByteDurations day → ByteDurations job
  job_durations = subst ByteDurations is

pub known_actions : (day : held.Job) (task : Task) → TaskFits (job_in day) task
    → Known day.counts.actions task.kept
known_actions day task fits =
    subst (λ (n : ℕ). Known n task.kept) (length_tabulate day.counts.actions (action_at day)) fits.known

-- day is a value of the job, and frame the frame of the task
module _ (day : held.Job) (task : Task) (fits : TaskFits (job_in day) task) (frame : Frame)
    (framed : FramedAs day task.goal task.first task.kept frame) where
  abbrev J : Job
  J = job_in day

  abbrev whole : Frame
  whole = frame_of day task.goal task.first task.kept frame.handovers

  same : frame ≡ whole
  same = framed.same

  passes : first (limit_rows J) ≡ pass
  passes = fits.passes

  counts : Fits day.counts
  counts = fits_of_limits day passes

  module _ (sets numbers : List ℕ) (filled : Filled day sets numbers) where
    described : Describes J sets numbers whole
    described =
        describes day sets numbers filled passes task.goal task.first task.kept frame.handovers
        framed.handovers

    pub numbers_of_frame : Numbers numbers frame.actions
    numbers_of_frame =
        subst (λ (f : Frame). Numbers numbers f.actions) (sym same) (numbers_of_job day sets numbers passes filled)

    module _ (times : List ℕ) (hand : ℕ) (rest : RestTimes day task.kept task.first times hand) where
      -- what the landmarks are filled for
      pub limits_of_frame : WithinLimits times frame
      limits_of_frame =
          subst (WithinLimits times) (sym same)
          (record {
            time_count = rest.whole;
            facts = (within_limits J passes).facts;
            actions = counts.2;
            pools = counts.0;
          })

      -- what the search requires of the tables and the frame
      pub whole_of_task : Whole sets numbers times frame
      whole_of_task =
          let within = within_limits J passes in
          let minute = fits.minute in
          subst (Whole sets numbers times) (sym same)
          (record {
            lent = record { set_count = filled.set_count; amounts = numbers_of_job day sets numbers passes filled };
            time_count = rest.whole;
            facts = within.facts;
            pools = counts.0;
            stores = counts.1;
            horizon = within.deadline;
            kept = known_actions day task fits;
            starts = λ k l. let e = fits.early k l in omega arith;
            origin = omega arith;
          })

      -- the tables are of the day, and its times and landmarks of what is left of it
      pub task_of_tables : MarkedTables sets numbers times frame hand → (file : List ℕ)
          → FileOf J file day.start day.stores → TaskOf J file sets numbers times frame
      task_of_tables marked file in_file =
          subst (λ (f : Frame). TaskOf J file sets numbers times f) (sym same)
          (record {
            in_file = in_file;
            described = described;
            timely = rest.bound;
            goal = fits.goal;
            marked = record {
              hand = hand;
              landmarks = added;
              stores = stores_when_within J sets numbers _ hand described.actions described.each
                  tables.landmarks.within;
              pools = pools_when_within J sets numbers _ hand described.actions described.each
                  tables.landmarks.within;
              steps = steps_when_within J sets numbers _ hand described.actions described.each
                  tables.landmarks.within;
              opens = λ pool few inside.
                  opens_of_tables J sets numbers times _ described task.first K task.first rest.bound pool _
                  inside (tables.landmarks.openings pool few);
              cliques = cliques_of_tables J sets numbers times _ described task.first K task.first rest.bound
                  tables.cliques;
            };
          })
        where
          K : List Step
          K = chosen J task.kept

          tables : MarkedTables sets numbers times whole hand
          tables = subst (λ (f : Frame). MarkedTables sets numbers times f hand) same marked

          added : AddedByNew J task.first K 0 hand 64 (mark_at sets)
          added =
              subst
              (λ (set : ℕ). Landmarks J set 64 (mark_at sets) → AddedByNew J task.first K 0 set 64 (mark_at sets))
              (sym rest.hand) (added_by_new_rest J task.first K 64 (mark_at sets))
              (landmarks_when_closed J sets numbers _ hand described.actions described.each
              tables.landmarks.closed)

  -- the answer of the search for the frame is the answer for the task
  pub solved_task : (r : Option Answer) → ((a : Answer) → r ≡ Some a → FoundFor J frame a × NoneBefore J frame a.end)
      → (r ≡ None → NoneBy J frame) → Solved J task.goal task.first (in_order J task.kept) r
  solved_task r found none =
      solved J whole refl (within_limits J passes) fits.known fits.early fits.rising r refl
      (λ a e. subst (λ (f : Frame). FoundFor J f a × NoneBefore J f a.end) same (found a e))
      (λ e. subst (λ (f : Frame). NoneBy J f) same (none e))
