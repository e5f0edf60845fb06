-- What reading a file answers: one law for each way out of the reader, and the job in the slices that it takes.
-- Assumes nothing.
use Prim.Native.Nat.{ℕ, ◌+◌, ◌-◌, ◌*◌, ◌/◌, ◌≤◌}
use mathlib.Core.Path.{◌≡◌, refl, ap, sym, ◌∙◌}
use mathlib.Core.Bool.{true, false, not}
use mathlib.Core.List.{List}
use native.Mathlib.Omega.{arith}
use lib.ListN.{length}
use borrow.Author.Tests.{le-ltb, not-false}
use Rattle.encoding.specs.Bytes.{part}
use Rattle.job.specs.Job.{Job, job_in, job_value}
use Rattle.job.specs.Refusal.{first, reply_of, reply_by}
use Rattle.job.specs.Valid.{job_rows}
use Rattle.job.specs.declared.Job as held
use Rattle.job.specs.declared.refusal.Refusal.{Refusal}
use Rattle.job.specs.declared.refusal.Refusal.TheVariants.{FileSize, Offsets, BodySizes}
use Rattle.job.specs.Refusal.{Verdict}
use Rattle.std.specs.Prelude.{Ok, Err}
use Rattle.job.specs.Refusal.{pass}
use Rattle.job.proofs.Table.{first_here, first_next, first_pass}
use Rattle.job.proofs.Values.{few_handovers_lem, few_shortest_lem}
use Rattle.jobfile.specs.Answers.{Reading}
use Rattle.jobfile.specs.File.{form_in, entries_in, size_in, body_in, layout_in, action_size, job_of, decoded}
use Rattle.jobfile.specs.File.{missized, wrong_size, in_order, file_rows}
use Rattle.jobfile.specs.Answers.{read_rows, reading_of, read_file, Reads}
use Rattle.jobfile.proofs.Laid.{Laid, laid, standing}
use Rattle.jobfile.proofs.DecodeLaws.{value_holds_decoded}

pub right_size : (file : List ℕ) → 4 * entries_in file ≤ length file → length file ≤ 4096 → wrong_size file ≡ false
right_size file l h = rw (le-ltb (length file) (4 * entries_in file) l, le-ltb 4096 (length file) h)

-- a file that passes tests 1 to 3 is left to the tests of the job in it
pub file_rows_pass : (file : List ℕ) → wrong_size file ≡ false → in_order file ≡ true
    → missized (layout_in file) ≡ false → first (read_rows file) ≡ first (job_rows (decoded file))
unfolding read_rows file_rows
file_rows_pass file t1 t2 t3 =
    first_next FileSize _ _ t1 ∙ first_next Offsets _ _ (ap not t2) ∙ first_next BodySizes _ _ t3

-- and a file that passes all tests passes those
pub passes_laid : (file : List ℕ) → first (read_rows file) ≡ pass → Laid file × (first (job_rows (decoded file)) ≡ pass)
unfolding read_rows file_rows
passes_laid file h =
    let t1 = first_pass _ _ _ h in
    let t2 = first_pass _ _ _ t1.1 in
    let t3 = first_pass _ _ _ t2.1 in
    (laid file (not-false _ t2.0) t3.0, t3.1)

reading : (file : List ℕ) (v : Verdict) → first (read_rows file) ≡ v → read_file file ≡ reading_of v (decoded file)
unfolding read_file
reading file v h = ap (λ (v : Verdict). reading_of v (decoded file)) h

module _ (file : List ℕ) where
  pub read_wrong_size : wrong_size file ≡ true → read_file file ≡ Err FileSize
  unfolding read_rows file_rows
  read_wrong_size h = reading file (Err FileSize) (first_here FileSize _ _ h)

  pub read_offsets : wrong_size file ≡ false → in_order file ≡ false → read_file file ≡ Err Offsets
  unfolding read_rows file_rows
  read_offsets t1 h =
      reading file (Err Offsets) (first_next FileSize _ _ t1 ∙ first_here Offsets _ _ (ap not h))

  pub read_body_sizes : wrong_size file ≡ false → in_order file ≡ true → missized (layout_in file) ≡ true
      → read_file file ≡ Err BodySizes
  unfolding read_rows file_rows
  read_body_sizes t1 t2 h =
      reading file (Err BodySizes)
      (first_next FileSize _ _ t1 ∙ first_next Offsets _ _ (ap not t2) ∙ first_here BodySizes _ _ h)

  -- a file that passes tests 1 to 3: the answer is that of validating the decoded value
  module _ (t1 : wrong_size file ≡ false) (t2 : in_order file ≡ true) (t3 : missized (layout_in file) ≡ false)
      (j : held.Job) (e : j ≡ job_value (decoded file)) where
    pub read_validated : read_file file ≡ reading_of (first (job_rows (job_in j))) (decoded file)
    read_validated =
        reading file (first (job_rows (job_in j)))
        (file_rows_pass file t1 t2 t3
        ∙ ap (λ (J : Job). first (job_rows J)) (sym (value_holds_decoded file (laid file t2 t3) j e)))

    pub read_refused : (why : Refusal) → first (job_rows (job_in j)) ≡ Err why → read_file file ≡ Err why
    read_refused why h = read_validated ∙ ap (λ (v : Verdict). reading_of v (decoded file)) h

    pub read_passed : first (job_rows (job_in j)) ≡ pass → read_file file ≡ Ok j
    read_passed h = read_validated ∙ ap (λ (v : Verdict). reading_of v (decoded file)) h ∙ ap Ok (sym e)

-- ── the slices that begin at a, b, c, d, e and g are the bodies ──

slice_is : (file : List ℕ) (at n at₀ n₀ : ℕ) (body : List ℕ) → at ≡ at₀ → n ≡ n₀ → part file at₀ n₀ ≡ body
    → part file at n ≡ body
slice_is file at n at₀ n₀ body e f h = rw (e, f) h

module _ (file : List ℕ) (l : Laid file) (a b c d e g : ℕ) (ea : a ≡ 4 * entries_in file) (eb : b ≡ a + size_in file 0)
    (ec : c ≡ b + size_in file 1) (ed : d ≡ c + size_in file 2) (ee : e ≡ d + size_in file 3)
    (eg : g ≡ e + size_in file 4) where
  slices_are_bodies : (part file a (b - a) ≡ body_in file 0)
      × (part file b (c - b) ≡ body_in file 1)
      × (part file c (d - c) ≡ body_in file 2)
      × (part file d (e - d) ≡ body_in file 3)
      × (part file e (g - e) ≡ body_in file 4)
      × (part file g (length file - g) ≡ body_in file 5)
  slices_are_bodies =
      let s = standing file l in
      let end = s.end in
      let size : ℕ → ℕ = λ k. length (body_in file k) in
      let n0 = l.lengths 0 in
      let n1 = l.lengths 1 in
      let n2 = l.lengths 2 in
      let n3 = l.lengths 3 in
      let n4 = l.lengths 4 in
      let at0 = 4 * entries_in file in
      let at1 = at0 + size 0 in
      let at2 = at1 + size 1 in
      let at3 = at2 + size 2 in
      let at4 = at3 + size 3 in
      let at5 = at4 + size 4 in (
        slice_is file a (b - a) at0 (size 0) (body_in file 0) ea (omega arith) s.head,
        slice_is file b (c - b) at1 (size 1) (body_in file 1) (omega arith) (omega arith) s.pools,
        slice_is file c (d - c) at2 (size 2) (body_in file 2) (omega arith) (omega arith) s.stores,
        slice_is file d (e - d) at3 (size 3) (body_in file 3) (omega arith) (omega arith) s.actions,
        slice_is file e (g - e) at4 (size 4) (body_in file 4) (omega arith) (omega arith) s.handovers,
        slice_is file g (length file - g) at5 (size 5) (body_in file 5) (omega arith) (omega arith) s.shortest,
      )

  pub decoded_by_slices : job_of (form_in file) (part file a (b - a)) (part file b (c - b)) (part file c (d - c))
      (part file d (e - d)) (part file e (g - e)) (part file g (length file - g)) ≡ decoded file
  decoded_by_slices = let s = slices_are_bodies in rw (s.0, s.1, s.2, s.3, s.4, s.5)

  -- what decoding them requires
  pub slices_fit : ((19 ≤ length (part file a (b - a))) × (length (part file a (b - a)) ≤ 20))
      × (length (part file b (c - b)) ≤ 16)
      × (length (part file c (d - c)) ≤ 16)
      × (length (part file d (e - d))
      / action_size (length (part file b (c - b)) / 4) (length (part file c (d - c)) / 4) ≤ 64)
      × (length (part file e (g - e)) ≤ 4)
      × (length (part file g (length file - g)) ≤ 64)
  slices_fit =
      let s = slices_are_bodies in
      let z = l.sizes in
      let few = z.few_pools in
      let waits = z.handovers in
      let fewer = few_handovers_lem (form_in file) (size_in file 1 / 4) in
      let count = size_in file 3 / action_size (size_in file 1 / 4) (size_in file 2 / 4) in
      let most = z.few_actions in
      let least = z.shortest in
      let fewest = few_shortest_lem (form_in file) count in
      rw (s.0, s.1, s.2, s.3, s.4, s.5)
      (rw (l.lengths 0, l.lengths 1, l.lengths 2, l.lengths 3, l.lengths 4, l.lengths 5)
      ((z.whole_head, z.short_head), few, z.few_stores, most, omega arith, omega arith))

-- what is answered makes the papers' reply
pub reads_of_answer : (file : List ℕ) (r : Reading) → r ≡ read_file file → Reads file r
unfolding read_file
reads_of_answer file r e =
    record { answers = e; replies = rw e (reply_of_reading (first (read_rows file)) (decoded file)) }
  where
    reply_of_reading : (v : Verdict) (J : Job) → reply_of (reading_of v J) ≡ reply_by v (job_value J)
    reply_of_reading (Ok _) J = refl
    reply_of_reading (Err why) J = refl
