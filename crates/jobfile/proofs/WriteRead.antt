-- The file of a job that passes is read, and gives the job again.
-- Assumes nothing.
use Prim.Native.Nat.{ℕ, ◌*◌, ◌/◌, ◌<◌}
use mathlib.Core.Path.{◌≡◌, refl, sym, ap, ◌∙◌}
use native.Mathlib.Nat.{mul-div_cancel, mul-mod_left}
use native.Mathlib.Omega.{arith}
use lib.ListN.{length}
use Rattle.lists.specs.Lists.{Each}
use Rattle.job.specs.Job.{Job, entries}
use Rattle.job.specs.Refusal.{first}
use Rattle.job.specs.Valid.{job_rows}
use Rattle.job.specs.Passed.{Passed}
use Rattle.job.specs.declared.Form.{Form}
use Rattle.job.specs.declared.Form.TheVariants.{Four, Five, Six}
use Rattle.job.specs.Refusal.{pass}
use Rattle.job.proofs.Passed.{passed}
use Rattle.job.proofs.Values.{Shape}
use Rattle.jobfile.specs.File.{amount_bytes, bodies, file_of, form_of, form_in, entries_in, action_size}
use Rattle.jobfile.specs.File.{decoded, layout_of}
use Rattle.jobfile.specs.Answers.{read_rows}
use Rattle.jobfile.proofs.Lengths.{length_head, short_head_lem, length_amounts, length_actions, length_file}
use Rattle.jobfile.proofs.Lengths.{count_bodies, handovers_sized, shortest_sized, file_fits}
use Rattle.jobfile.proofs.Bodies.{InRow, gapless_when_in_row, body_in_row, written_in_row}
use Rattle.jobfile.proofs.BodiesRead.{job_of_bodies, bodies_read}
use Rattle.jobfile.proofs.Laid.{Sized, not_missized, layout_in_row}
use Rattle.jobfile.proofs.ReadLaws.{right_size, file_rows_pass}

-- the first offset tells the form
form_of_entries : (form : Form) → form_of (4 * entries form) ≡ form
form_of_entries Four = refl
form_of_entries Five = refl
form_of_entries Six = refl

module _ (J : Job) (h : Shape J) (f : Passed J) where
  job_in_row : InRow (file_of J) (4 * length (bodies J)) 0 (bodies J)
  unfolding file_of
  job_in_row = let l = file_fits J h f in written_in_row (bodies J) (omega arith)

  form_read : form_in (file_of J) ≡ J.form
  form_read =
      ap form_of (job_in_row.0.place ∙ ap (λ (n : ℕ). 4 * n) (count_bodies J)) ∙ form_of_entries J.form

  entries_read : length (bodies J) ≡ entries_in (file_of J)
  entries_read = count_bodies J ∙ ap entries (sym form_read)

  bodies_sized : Sized (layout_of J.form (bodies J))
  bodies_sized =
      let n = length J.actions in
      let one = action_size (length J.pools) (length J.stores) in
      let lp = length_amounts J.pools in
      let ls = length_amounts J.stores in
      let p : length (amount_bytes J.pools) / 4 ≡ length J.pools = omega arith in
      let s : length (amount_bytes J.stores) / 4 ≡ length J.stores = omega arith in
      let a = length_actions J h in
      let fp = f.few_pools in
      let fs = f.few_stores in
      record {
        whole_head = rw (length_head J) (short_head_lem J.rule).0;
        short_head = rw (length_head J) (short_head_lem J.rule).1;
        whole_pools = omega arith;
        few_pools = omega arith;
        whole_stores = omega arith;
        few_stores = omega arith;
        whole_actions = rw (p, s, a) (mul-mod_left n one);
        few_actions = rw (p, s, a, mul-div_cancel n {n = one} (omega arith)) f.few_actions;
        handovers = rw p (handovers_sized J.form J (length J.pools) h.handovers);
        shortest = rw (p, s, a, mul-div_cancel n {n = one} (omega arith)) (shortest_sized J.form J n h.shortest);
      }

  decoded_file : Each (λ a. a.duration < 256) J.actions → decoded (file_of J) ≡ J
  decoded_file d =
      let at = 4 * length (bodies J) in
      let body = body_in_row (file_of J) at (bodies J) job_in_row entries_read in
      let said : decoded (file_of J) ≡ job_of_bodies (form_in (file_of J)) (bodies J) =
      rw (body 0, body 1, body 2, body 3, body 4, body 5) in
      said ∙ ap (λ (form : Form). job_of_bodies form (bodies J)) form_read ∙ bodies_read J h d f

pub write_read : (J : Job) → Shape J → Each (λ a. a.duration < 256) J.actions → first (job_rows J) ≡ pass
    → (first (read_rows (file_of J)) ≡ pass) × (decoded (file_of J) ≡ J)
write_read J h d passes =
    let f = passed J passes in
    let file = file_of J in
    let l = length_file J h in
    let n = count_bodies J in
    let e = entries_read J h f in
    let row = job_in_row J h f in
    let sized = not_missized (layout_of J.form (bodies J)) (bodies_sized J h f) in
    let same = decoded_file J h f d in (
      file_rows_pass file (right_size file (omega arith) (file_fits J h f))
          (rw e at (gapless_when_in_row file (4 * length (bodies J)) 0 (bodies J) row))
          (rw (layout_in_row file (4 * length (bodies J)) (bodies J) row e, form_read J h f) sized)
          ∙ ap (λ (K : Job). first (job_rows K)) same
          ∙ passes,
      same,
    )
