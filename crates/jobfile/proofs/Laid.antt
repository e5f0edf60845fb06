-- What tests 2 and 3 say of a file: its bodies stand in a row, and have lengths that a job gives.
-- Assumes nothing.
use Prim.Native.Nat.{ℕ, ◌+◌, ◌*◌, ◌/◌, ◌%◌, ◌≤◌}
use mathlib.Core.Path.{◌≡◌, refl, sym, ap, ◌∙◌}
use mathlib.Core.Bool.{Bool, true, false, not, ◌||◌}
use mathlib.Core.List.{List}
use native.Mathlib.Omega.{arith}
use lib.Dec.{eqb}
use lib.ListN.{length}
use borrow.Author.Tests.{eqb-true, eq-eqb, ltb-false, le-ltb, not-false}
use Rattle.lists.proofs.Bools.{or_left, or_right}
use Rattle.encoding.specs.Bytes.{part}
use Rattle.job.specs.Job.{entries, handover_count, shortest_count}
use Rattle.job.specs.Valid.{over}
use Rattle.job.specs.declared.Form.{Form}
use Rattle.job.specs.declared.Form.TheVariants.{Four, Five, Six}
use Rattle.jobfile.specs.declared.Layout.{Layout}
use Rattle.jobfile.specs.File.{form_in, entries_in, size_in, body_in, layout_in, action_size, missized, in_order}
use Rattle.jobfile.specs.File.{layout_of}
use Rattle.jobfile.proofs.Bodies.{InRow, bodies_in, count_in, in_row_when_gapless, size_in_row, body_in_row}

-- the lengths of the bodies are those that a job gives
pub record Sized (l : Layout) : Type 0 where
  pub whole_head : 19 ≤ l.head
  pub short_head : l.head ≤ 20
  pub whole_pools : l.pools % 4 ≡ 0
  pub few_pools : l.pools ≤ 16
  pub whole_stores : l.stores % 4 ≡ 0
  pub few_stores : l.stores ≤ 16
  pub whole_actions : l.actions % action_size (l.pools / 4) (l.stores / 4) ≡ 0
  pub few_actions : l.actions / action_size (l.pools / 4) (l.stores / 4) ≤ 64
  pub handovers : l.handovers ≡ handover_count l.form (l.pools / 4)
  pub shortest : l.shortest ≡ shortest_count l.form (l.actions / action_size (l.pools / 4) (l.stores / 4))

last_equal : (b : Bool) (m n : ℕ) → (b || not (eqb m n)) ≡ false → (b ≡ false) × (m ≡ n)
last_equal b m n h =
    (or_left b (not (eqb m n)) h, eqb-true m n (not-false (eqb m n) (or_right b (not (eqb m n)) h)))

last_within : (b : Bool) (limit n : ℕ) → (b || over limit n) ≡ false → (b ≡ false) × (n ≤ limit)
last_within b limit n h =
    (or_left b (over limit n) h, ltb-false limit n (or_right b (over limit n) h))

module _ (l : Layout) where
  abbrev one : ℕ
  one = action_size (l.pools / 4) (l.stores / 4)

  pub sized : missized l ≡ false → Sized l
  unfolding missized
  sized m =
      let m8 = last_equal _ l.shortest (shortest_count l.form (l.actions / one)) m in
      let m7 = last_equal _ l.handovers (handover_count l.form (l.pools / 4)) m8.0 in
      let m6 = last_within _ 64 (l.actions / one) m7.0 in
      let m5 = last_equal _ (l.actions % one) 0 m6.0 in
      let m4 = last_within _ 16 l.stores m5.0 in
      let m3 = last_equal _ (l.stores % 4) 0 m4.0 in
      let m2 = last_within _ 16 l.pools m3.0 in
      let m1 = last_equal _ (l.pools % 4) 0 m2.0 in
      let m0 = last_within _ 20 l.head m1.0 in
      record {
        whole_head = ltb-false l.head 19 m0.0;
        short_head = m0.1;
        whole_pools = m1.1;
        few_pools = m2.1;
        whole_stores = m3.1;
        few_stores = m4.1;
        whole_actions = m5.1;
        few_actions = m6.1;
        handovers = m7.1;
        shortest = m8.1;
      }

  pub not_missized : Sized l → missized l ≡ false
  unfolding missized
  not_missized s =
      rw (
        le-ltb l.head 19 s.whole_head,
        le-ltb 20 l.head s.short_head,
        eq-eqb (l.pools % 4) 0 s.whole_pools,
        le-ltb 16 l.pools s.few_pools,
        eq-eqb (l.stores % 4) 0 s.whole_stores,
        le-ltb 16 l.stores s.few_stores,
        eq-eqb (l.actions % one) 0 s.whole_actions,
        le-ltb 64 (l.actions / one) s.few_actions,
        eq-eqb l.handovers (handover_count l.form (l.pools / 4)) s.handovers,
        eq-eqb l.shortest (shortest_count l.form (l.actions / one)) s.shortest,
      )

-- ── of bodies in a row ──

pub layout_in_row : (file : List ℕ) (at : ℕ) (bs : List (List ℕ)) → InRow file at 0 bs → length bs ≡ entries_in file
    → layout_in file ≡ layout_of (form_in file) bs
layout_in_row file at bs r e =
    rw (
      size_in_row file at bs r e 0,
      size_in_row file at bs r e 1,
      size_in_row file at bs r e 2,
      size_in_row file at bs r e 3,
      size_in_row file at bs r e 4,
      size_in_row file at bs r e 5,
    )

pub record Laid (file : List ℕ) : Type 0 where
  pub row : InRow file (4 * entries_in file) 0 (bodies_in file 0 (entries_in file))
  pub sizes : Sized (layout_in file)
  pub lengths : (k : ℕ) → length (body_in file k) ≡ size_in file k

pub laid : (file : List ℕ) → in_order file ≡ true → missized (layout_in file) ≡ false → Laid file
laid file g m =
    let n = entries_in file in
    let bs = bodies_in file 0 n in
    let row = in_row_when_gapless file (4 * n) 0 n g in
    let e = count_in file 0 n in
    record {
      row = row;
      sizes = sized (layout_in file) m;
      lengths = λ k. ap length (body_in_row file (4 * n) bs row e k) ∙ sym (size_in_row file (4 * n) bs row e k);
    }

-- the bodies stand from `at` to the end of the file, those beyond the form being empty
pub record Standing (file : List ℕ) (at : ℕ) : Type 0 where
  pub head : part file at (length (body_in file 0)) ≡ body_in file 0
  pub pools : part file (at + length (body_in file 0)) (length (body_in file 1)) ≡ body_in file 1
  pub stores : part file (at + length (body_in file 0) + length (body_in file 1)) (length (body_in file 2)) ≡ body_in file 2
  pub actions : part file (at + length (body_in file 0) + length (body_in file 1) + length (body_in file 2))
      (length (body_in file 3)) ≡ body_in file 3
  pub handovers : part file
      (at + length (body_in file 0) + length (body_in file 1) + length (body_in file 2) + length (body_in file 3))
      (length (body_in file 4)) ≡ body_in file 4
  pub shortest : part file
      (at + length (body_in file 0) + length (body_in file 1) + length (body_in file 2) + length (body_in file 3)
      + length (body_in file 4))
      (length (body_in file 5)) ≡ body_in file 5
  pub end : at + length (body_in file 0) + length (body_in file 1) + length (body_in file 2) + length (body_in file 3)
      + length (body_in file 4) + length (body_in file 5) ≡ length file

pub standing : (file : List ℕ) → Laid file → Standing file (4 * entries_in file)
standing file l = by_form (form_in file) refl l.row
  where
    by_form : (form : Form) → form_in file ≡ form
        → InRow file (4 * entries form) 0 (bodies_in file 0 (entries form)) → Standing file (4 * entries form)
    by_form Four e r =
        let b = r.1 in
        let c = b.1 in
        let d = c.1 in
        let end = d.1 in
        record {
          head = rw e r.0.bytes;
          pools = rw e b.0.bytes;
          stores = rw e c.0.bytes;
          actions = rw e d.0.bytes;
          handovers = rw e refl;
          shortest = rw e refl;
          end = rw e (omega arith);
        }
    by_form Five e r =
        let b = r.1 in
        let c = b.1 in
        let d = c.1 in
        let f = d.1 in
        record {
          head = rw e r.0.bytes;
          pools = rw e b.0.bytes;
          stores = rw e c.0.bytes;
          actions = rw e d.0.bytes;
          handovers = rw e f.0.bytes;
          shortest = rw e refl;
          end = let last = f.1 in rw e (omega arith);
        }
    by_form Six e r =
        let b = r.1 in
        let c = b.1 in
        let d = c.1 in
        let f = d.1 in
        let g = f.1 in
        record {
          head = rw e r.0.bytes;
          pools = rw e b.0.bytes;
          stores = rw e c.0.bytes;
          actions = rw e d.0.bytes;
          handovers = rw e f.0.bytes;
          shortest = rw e g.0.bytes;
          end = rw e g.1;
        }
