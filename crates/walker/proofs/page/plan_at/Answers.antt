-- `plan_at` meets its contract: the tables of the day are a task of the search, and the writer can't refuse.
use mathlib.Core.Path.{refl, sym, subst, ◌∙◌}
use Prim.Native.Nat.{ℕ}
use Rattle.job.specs.Job.{Job, job_in}
use Rattle.job.proofs.Passed.{within_limits}
use Rattle.job.proofs.Rows.{fits_of_limits}
use Rattle.lists.proofs.Bools.{absurd}
use Rattle.tables.proofs.Describing.{byte_durations}
use Rattle.solver.proofs.FileLaws.{file_not_refused, file_in_slice, file_length, file_of_job}
use Rattle.solver.proofs.TaskLaws.{job_in_day, day_fits, day_resumes, job_durations, known_actions, filled_still}
use Rattle.solver.proofs.TaskLaws.{numbers_of_frame, limits_of_frame, whole_of_task, task_of_tables}
use Rattle.walker.specs.Page.{PageOf}
use Rattle.walker.proofs.WholeTasks.{whole_frame, frame_from_first, frame_to_deadline, frame_from_least, frame_for_goal}
use Rattle.walker.proofs.page.plan_at.Goals as goal

pub fill-requires : goal.fill-requires
fill-requires c =
    let day = c.resumed-day.result in
    let fits = day_fits c.args.job day c.args.task c.resumed-day.ensures c.requires.1 in
    (refl, refl, fits_of_limits day fits.passes)

pub fill_times-hand-requires : goal.fill_times-hand-requires
fill_times-hand-requires c =
    let day = c.resumed-day.result in
    let task = c.args.task in
    let fits = day_fits c.args.job day task c.resumed-day.ensures c.requires.1 in (
      refl,
      (within_limits (job_in day) fits.passes).facts,
      fits_of_limits day fits.passes,
      known_actions day task fits,
      fits.early,
    )

pub fill-requires-2 : goal.fill-requires-2
fill-requires-2 c =
    let day = c.resumed-day.result in
    let fits = day_fits c.args.job day c.args.task c.resumed-day.ensures c.requires.1 in (
      c.fill.ensures.set_count,
      numbers_of_frame day c.args.task fits c.of-frame.result c.of-frame.ensures _ _ c.fill.ensures,
      limits_of_frame day c.args.task fits c.of-frame.result c.of-frame.ensures _ _ c.fill.ensures _ _
          c.fill_times-hand.ensures,
    )

pub returns-in_err-length : goal.returns-in_err-length
returns-in_err-length c =
    absurd
    (file_not_refused c.args.job c.requires.0 _ refl c.write.result _ c.write.ensures
    (sym c.ok.ensures.value ∙ c.in_err-length.was))

pub slice_bounds-file-end : goal.slice_bounds-file-end
slice_bounds-file-end c =
    file_in_slice c.args.job c.requires.0 _ refl c.write.result _ c.write.ensures _ (sym c.ok.ensures.value ∙ c.in_ok-length.was)

pub slice_bounds-plan_from-end-4 : goal.slice_bounds-plan_from-end-4
slice_bounds-plan_from-end-4 c =
    file_length c.args.job c.requires.0 _ refl c.write.result _ c.write.ensures _ (sym c.ok.ensures.value ∙ c.in_ok-length.was)

pub plan_from-requires : goal.plan_from-requires
plan_from-requires c =
    let day = c.resumed-day.result in
    let fits = day_fits c.args.job day c.args.task c.resumed-day.ensures c.requires.1 in
    let put = c.fill-2.ensures in
    let filled = filled_still day _ _ _ _ fits.passes c.fill.ensures put.0 put.1 in (
      whole_of_task day c.args.task fits c.of-frame.result c.of-frame.ensures _ _ filled _ _ c.fill_times-hand.ensures,
      frame_from_first day c.args.task c.requires.2 c.of-frame.result c.of-frame.ensures,
    )

pub returns : goal.returns
returns c =
    let job = c.args.job in
    let task = c.args.task in
    let day = c.resumed-day.result in
    let is = c.resumed-day.ensures in
    let fits = day_fits job day task is c.requires.1 in
    let within = within_limits (job_in day) fits.passes in
    let put = c.fill-2.ensures in
    let filled = filled_still day _ _ _ _ fits.passes c.fill.ensures put.0 put.1 in
    let durations = job_durations job day task is (byte_durations day _ _ c.fill.ensures) in
    let file = file_of_job job _ c.write.result _ c.write.ensures durations _ (sym c.ok.ensures.value ∙ c.in_ok-length.was) day.start
    day.stores (job_in day) (day_resumes job day task is) fits.passes in
    let asked = task_of_tables day task fits c.of-frame.result c.of-frame.ensures _ _ filled _ _ c.fill_times-hand.ensures
    put.2 _ file in
    let frame = c.of-frame.result in
    let framed = c.of-frame.ensures in
    let whole = c.requires.2 in
    subst (λ (J : Job). PageOf J task.goal c.args.place c.plan_from.result) (job_in_day job day task is)
    (subst (λ (g : ℕ). PageOf (job_in day) g c.args.place c.plan_from.result) (frame_for_goal day task whole frame framed)
    (c.plan_from.ensures (job_in day) asked within (whole_frame day task whole frame framed)
    (frame_to_deadline day task whole frame framed) (frame_from_least day task whole frame framed)))
