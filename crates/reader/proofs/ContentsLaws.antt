-- The loop over the contents, one entry a turn; and where the bodies are, once the contents are right.
-- Assumes nothing.
use Prim.Native.Nat.{ℕ, zero, suc, ◌+◌, ◌*◌, ◌-◌, ◌/◌, ◌≤◌, ◌<◌}
use mathlib.Core.Path.{◌≡◌, refl, ap, ◌∙◌}
use mathlib.Core.Bool.{true, false}
use mathlib.Core.List.{List}
use native.Mathlib.Omega.{arith}
use lib.Dec.{eqb}
use lib.ListN.{length}
use borrow.Author.Tests.{eq-eqb, ne_eqb, lt-ltb, ltb-false}
use Rattle.lists.proofs.Bools.{absurd, or_left}
use Rattle.jobfile.specs.declared.Layout.{Layout}
use Rattle.jobfile.specs.declared.Places.{Places}
use Rattle.encoding.specs.Bytes.{part}
use Rattle.job.specs.Job.{Job, entries}
use Rattle.job.specs.declared.Form.{Form}
use Rattle.jobfile.specs.File.{offset, size, form_in, entries_in, layout_in, action_size, job_of, decoded}
use Rattle.jobfile.specs.File.{gapless, missized, wrong_size, in_order, places_of}
use Rattle.jobfile.proofs.Laid.{Laid, laid, standing}
use Rattle.jobfile.proofs.Lengths.{least_entries}
use Rattle.jobfile.proofs.ReadLaws.{decoded_by_slices, slices_fit}
use Rattle.reader.specs.Placed.{Placed}

pub has_contents : (file : List ℕ) → wrong_size file ≡ false → 4 * entries_in file ≤ length file
has_contents file h = ltb-false (length file) (4 * entries_in file) (or_left _ _ h)

-- and so a first offset
pub has_offset : (file : List ℕ) → wrong_size file ≡ false → 2 ≤ length file
has_offset file h =
    let l = has_contents file h in
    let n = least_entries (form_in file) in
    omega arith

-- so many entries of a known form stand in the file
pub contents_told : (file : List ℕ) (form : Form) (n : ℕ) → form ≡ form_in file → 4 * entries form ≤ length file
    → n ≡ entries form → (n ≡ entries_in file) × (4 * n ≤ length file)
contents_told file form n e l m = (m ∙ ap entries e, omega arith)

-- every form has four entries
pub too_short : (file : List ℕ) → length file < 16 → wrong_size file ≡ true
too_short file h =
    let n = least_entries (form_in file) in rw (lt-ltb (length file) (4 * entries_in file) (omega arith))

module _ (file : List ℕ) (at k : ℕ) where
  pub gapless_broken : (n : ℕ) → 0 < n → (offset file k ≡ at → ⊥) → gapless file at k n ≡ false
  unfolding gapless
  gapless_broken zero h d = absurd (omega arith)
  gapless_broken (suc n) h d = rw (ne_eqb (offset file k) at d)

  pub gapless_next : (n : ℕ) → 0 < n → offset file k ≡ at
      → gapless file at k n ≡ gapless file (at + size file k) (k + 1) (n - 1)
  unfolding gapless
  gapless_next zero h e = absurd (omega arith)
  gapless_next (suc n) h e =
      let i : k + 1 ≡ suc k = omega arith in
      let j : suc n - 1 ≡ n = omega arith in
      rw (eq-eqb (offset file k) at e, i, j)

  pub gapless_end : gapless file at k 0 ≡ eqb at (length file)
  unfolding gapless
  gapless_end = refl

pub placed : (file : List ℕ) (l : Layout) → in_order file ≡ true → l ≡ layout_in file → missized l ≡ false
    → Placed file l
placed file l g e m =
    let k = laid file g (rw e at m) in
    let end = (standing file k).end in
    let n0 = k.lengths 0 in
    let n1 = k.lengths 1 in
    let n2 = k.lengths 2 in
    let n3 = k.lengths 3 in
    let n4 = k.lengths 4 in
    let f = ap (λ (l : Layout). entries l.form) e in
    let h = ap (λ (l : Layout). l.head) e in
    let p = ap (λ (l : Layout). l.pools) e in
    let s = ap (λ (l : Layout). l.stores) e in
    let a = ap (λ (l : Layout). l.actions) e in
    let w = ap (λ (l : Layout). l.handovers) e in
    record { order = g; same = e; sized = m; inside = omega arith }

-- the slices that the reader takes, from place to place
module _ (file : List ℕ) (l : Layout) (p : Placed file l) where
  abbrev at : Places
  at = places_of l

  abbrev slice : ℕ → ℕ → List ℕ
  slice from to = part file from (to - from)

  right : Laid file
  right = laid file p.order (rw p.same at p.sized)

  -- each slice ends where the next begins, and within the file
  pub places_rise : (r : Places) → r ≡ at
      → (r.head ≤ r.pools)
      × (r.pools ≤ r.stores)
      × (r.stores ≤ r.actions)
      × (r.actions ≤ r.handovers)
      × (r.handovers ≤ r.shortest)
      × (r.shortest ≤ length file)
  places_rise r e = let inside = p.inside in rw e (omega arith)

  -- the places by the file's own contents
  by_contents : (f : Layout → ℕ) → f l ≡ f (layout_in file)
  by_contents f = ap f p.same

  pub slices_fit_decode : ((19 ≤ length (slice at.head at.pools)) × (length (slice at.head at.pools) ≤ 20))
      × (length (slice at.pools at.stores) ≤ 16)
      × (length (slice at.stores at.actions) ≤ 16)
      × (length (slice at.actions at.handovers)
      / action_size (length (slice at.pools at.stores) / 4) (length (slice at.stores at.actions) / 4) ≤ 64)
      × (length (slice at.handovers at.shortest) ≤ 4)
      × (length (slice at.shortest (length file)) ≤ 64)
  slices_fit_decode =
      slices_fit file right at.head at.pools at.stores at.actions at.handovers at.shortest
      (by_contents (λ k. 4 * entries k.form))
      (by_contents (λ k. at.head + k.head))
      (by_contents (λ k. at.pools + k.pools))
      (by_contents (λ k. at.stores + k.stores))
      (by_contents (λ k. at.actions + k.actions))
      (by_contents (λ k. at.handovers + k.handovers))

  abbrev said : Form → Job
  said form =
      job_of form (slice at.head at.pools) (slice at.pools at.stores) (slice at.stores at.actions)
      (slice at.actions at.handovers) (slice at.handovers at.shortest) (slice at.shortest (length file))

  pub slices_say_job : job_of l.form (slice at.head at.pools) (slice at.pools at.stores)
      (slice at.stores at.actions) (slice at.actions at.handovers) (slice at.handovers at.shortest)
      (slice at.shortest (length file)) ≡ decoded file
  slices_say_job =
      ap said (ap (λ (k : Layout). k.form) p.same)
      ∙ decoded_by_slices file right at.head at.pools at.stores at.actions at.handovers at.shortest
      (by_contents (λ k. 4 * entries k.form))
      (by_contents (λ k. at.head + k.head))
      (by_contents (λ k. at.pools + k.pools))
      (by_contents (λ k. at.stores + k.stores))
      (by_contents (λ k. at.actions + k.actions))
      (by_contents (λ k. at.handovers + k.handovers))
