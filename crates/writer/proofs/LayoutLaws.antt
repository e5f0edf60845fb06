-- The lengths of the bodies of a job value's file, and where they stand in a slice that has room for it.
-- Assumes nothing.
use Prim.Native.Nat.{ℕ, ◌+◌, ◌*◌, ◌≤◌}
use mathlib.Core.Path.{◌≡◌, refl, sym, ap, ap₂, ◌∙◌}
use mathlib.Core.List.{List, [], ◌∷◌}
use native.Mathlib.Omega.{arith}
use lib.ListN.{length, get_or}
use Rattle.lists.specs.Lists.{firsts}
use Rattle.lists.proofs.Tabulate.{length_tabulate}
use Rattle.encoding.specs.Bytes.{to_bytes, joined, overwrite}
use Rattle.job.specs.declared.Job as held
use Rattle.job.specs.Job.{Job, entries, handover_count, shortest_count, head_size, action_at, job_in, Fits}
use Rattle.job.proofs.Values.{few_handovers_lem, few_shortest_lem, job_in_shape}
use Rattle.jobfile.specs.declared.Layout.{Layout}
use Rattle.jobfile.specs.declared.Places.{Places}
use Rattle.jobfile.specs.File.{head_bytes, amount_bytes, action_bytes, minute_bytes, bodies, content_numbers, file_of}
use Rattle.jobfile.specs.File.{action_size, layout_of, places_of, numbers_of, Small}
use Rattle.jobfile.proofs.Lengths.{length_head, short_head_lem, length_amounts, length_actions, handovers_sized}
use Rattle.jobfile.proofs.Lengths.{shortest_sized, end_of_places}
use Rattle.jobfile.proofs.Writes.{writes, write_file_lem, contents_of}
use Rattle.writer.proofs.ActionLaws.{few_action_bytes}
use Rattle.writer.specs.Room.{Room}

-- the lengths by the counts of a value
pub record Counted (job : held.Job) (l : Layout) : Type 0 where
  pub form : l.form ≡ job.form
  pub head : l.head ≡ head_size job.rule
  pub pools : l.pools ≡ 4 * job.counts.pools
  pub stores : l.stores ≡ 4 * job.counts.stores
  pub actions : l.actions ≡ job.counts.actions * action_size job.counts.pools job.counts.stores
  pub handovers : l.handovers ≡ handover_count job.form job.counts.pools
  pub shortest : l.shortest ≡ shortest_count job.form job.counts.actions

module _ (job : held.Job) where
  abbrev J : Job
  J = job_in job

  pub counted : Counted job (layout_of job.form (bodies J))
  counted =
      let shape = job_in_shape job in
      let p = length_tabulate job.counts.pools (λ k. get_or job.pools k 0) in
      let s = length_tabulate job.counts.stores (λ k. get_or job.stores k 0) in
      let a = length_tabulate job.counts.actions (action_at job) in
      let pools = length_amounts J.pools in
      let stores = length_amounts J.stores in
      record {
        form = refl;
        head = length_head J;
        pools = omega arith;
        stores = omega arith;
        actions = length_actions J shape ∙ ap₂ ◌*◌ a (ap₂ action_size p s);
        handovers = handovers_sized job.form J _ shape.handovers ∙ ap (handover_count job.form) p;
        shortest = shortest_sized job.form J _ shape.shortest ∙ ap (shortest_count job.form) a;
      }

  -- lengths that are the same by the counts are the same
  pub layout_is : (l : Layout) → Counted job l → l ≡ layout_of job.form (bodies J)
  layout_is l c =
      let d = counted in
      λ i.
      record {
        form = c.form i;
        head = (c.head ∙ sym d.head) i;
        pools = (c.pools ∙ sym d.pools) i;
        stores = (c.stores ∙ sym d.stores) i;
        actions = (c.actions ∙ sym d.actions) i;
        handovers = (c.handovers ∙ sym d.handovers) i;
        shortest = (c.shortest ∙ sym d.shortest) i;
      }

  pub small_layout : Fits job.counts → (l : Layout) → Counted job l → Small l
  small_layout fits l c =
      let few = few_action_bytes job.counts fits in
      let waits = few_handovers_lem job.form job.counts.pools in
      let least = few_shortest_lem job.form job.counts.actions in
      let h = c.head in
      let short = short_head_lem job.rule in
      let p = c.pools in
      let s = c.stores in
      let a = c.actions in
      let w = c.handovers in
      let m = c.shortest in
      (omega arith, omega arith, omega arith, omega arith, omega arith, omega arith)

-- the last body ends with the file
pub end_is_length : (job : held.Job) (l : Layout) (at : Places) → l ≡ layout_of job.form (bodies (job_in job))
    → at ≡ places_of l → at.end ≡ length (file_of (job_in job))
end_is_length job l at lengths places =
    ap (λ (x : Places). x.end) (places ∙ ap places_of lengths) ∙ end_of_places (job_in job)

-- what each body needs of a slice of n bytes, and of its array
pub record Parts (job : held.Job) (l : Layout) (at : Places) (n : ℕ) : Type 0 where
  pub contents : 4 * entries job.form ≤ n
  pub head : at.head + head_size job.rule ≤ n
  pub pools : at.pools + 4 * job.counts.pools ≤ n
  pub stores : at.stores + 4 * job.counts.stores ≤ n
  pub actions : at.actions + job.counts.actions * action_size job.counts.pools job.counts.stores ≤ n
  pub handovers : at.handovers + l.handovers ≤ n
  pub few_handovers : l.handovers ≤ 4
  pub shortest : at.shortest + l.shortest ≤ n
  pub few_shortest : l.shortest ≤ 64

pub room_for_parts : (job : held.Job) (l : Layout) (at : Places) (n : ℕ) → Fits job.counts → Room job l at n
    → Parts job l at n
room_for_parts job l at n fits room =
    let c : Counted job l = rw room.lengths (counted job) in
    let waits = few_handovers_lem job.form job.counts.pools in
    let least = few_shortest_lem job.form job.counts.actions in
    let f = ap entries c.form in
    let h = c.head in
    let p = c.pools in
    let s = c.stores in
    let a = c.actions in
    let w = c.handovers in
    let m = c.shortest in
    let inside : (places_of l).end ≤ n = rw room.places at room.inside in
    rw room.places
    (record {
      contents = omega arith;
      head = omega arith;
      pools = omega arith;
      stores = omega arith;
      actions = omega arith;
      handovers = omega arith;
      few_handovers = omega arith;
      shortest = omega arith;
      few_shortest = omega arith;
    })

-- the contents, then each body at its place, make the file
module _ (job : held.Job) (l : Layout) (at : Places) (o : List ℕ) (room : Room job l at (length o)) where
  by_counts : Counted job l
  by_counts = rw room.lengths (counted job)

  pub numbers_are : firsts (2 * entries job.form) 0 (numbers_of l at) ≡ content_numbers (bodies (job_in job))
  numbers_are =
      let n = 2 * entries job.form in
      ap (λ (x : Places). firsts n 0 (numbers_of l x)) room.places
      ∙ ap (λ (k : Layout). firsts n 0 (numbers_of k (places_of k))) room.lengths
      ∙ contents_of (job_in job) (job_in_shape job)

  pub handovers_are : firsts l.handovers 0 job.handovers ≡ (job_in job).handovers
  handovers_are = ap (λ (n : ℕ). firsts n 0 job.handovers) by_counts.handovers

  pub shortest_are : firsts l.shortest 0 job.shortest ≡ (job_in job).shortest
  shortest_are = ap (λ (n : ℕ). firsts n 0 job.shortest) by_counts.shortest

  pub write_whole : (numbers waits least : List ℕ) → numbers ≡ content_numbers (bodies (job_in job))
      → waits ≡ (job_in job).handovers → least ≡ (job_in job).shortest
      → writes o
      ((0, joined (to_bytes 2) numbers)
      ∷ (at.head, head_bytes (job_in job))
      ∷ (at.pools, amount_bytes (job_in job).pools)
      ∷ (at.stores, amount_bytes (job_in job).stores)
      ∷ (at.actions, joined action_bytes (job_in job).actions)
      ∷ (at.handovers, minute_bytes waits)
      ∷ (at.shortest, minute_bytes least)
      ∷ [])
      ≡ overwrite o 0 (file_of (job_in job))
  write_whole numbers waits least n w m =
      rw (n, w, m, room.places, room.lengths)
      (write_file_lem (job_in job) (job_in_shape job) o (rw (room.places, room.lengths) at room.inside))
