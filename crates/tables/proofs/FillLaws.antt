-- Filling the tables of a job: the set of clashing actions, and entries put one after the other.
-- Assumes nothing.
use Prim.Native.Nat.{ℕ, ◌+◌, ◌*◌, ◌≤◌, ◌<◌}
use mathlib.Core.Path.{◌≡◌, refl, sym, ap, ap₂, ◌∙◌}
use mathlib.Core.Bool.{Bool, true, false, cond, ◌&&◌, ◌||◌, and-true, and-false, or-false}
use mathlib.Core.Logic.{⊎_elim}
use mathlib.Core.List.{List, [], ◌∷◌}
use native.Mathlib.Nat.{add-zero}
use native.Mathlib.Omega.{arith}
use lib.Dec.{eqb}
use lib.ListN.{length, get_or, set, length-set}
use lib.Seq.{get_or-set_same, get_or-set_other}
use borrow.Author.Tests.{eq-eqb, ne_eqb}
use Rattle.lists.proofs.Bools.{absurd}
use Rattle.lists.proofs.Tabulate.{length_tabulate, get_d_tabulate}
use Rattle.facts.specs.FactSet.{has, single}
use Rattle.facts.proofs.Membership.{has_zero}
use Rattle.job.specs.Resources.{store_amount, charged_in}
use Rattle.job.proofs.ResourceLaws.{charged_is}
use Rattle.job.specs.declared.Action as value
use Rattle.job.specs.declared.Job as held
use Rattle.job.specs.Job.{Action, Job, Fits, job_in, action_at, beyond, no_action}
use Rattle.timeline.specs.Timeline.{hinders}
use Rattle.timeline.proofs.Tests.{le_or_lt}
use Rattle.times.specs.Earliest.{action_of}
use Rattle.times.proofs.Singles.{has_single}
use Rattle.tables.specs.Tables.{clashes}
use Rattle.tables.specs.Filled.{SetsFilled, NumbersFilled, Clash, ClashSet, SameBefore, ValuesPut, CutTo}

-- ---- the actions of a job value
module _ (job : held.Job) where
  abbrev value_at : ℕ → value.Action
  value_at i = get_or job.actions i beyond

  pub action_of_value : (i : ℕ) → i < job.counts.actions → action_of (job_in job) i ≡ action_at job i
  action_of_value i l = get_d_tabulate job.counts.actions (action_at job) i no_action l

  pub clash_of_values : (i j : ℕ) (r : Bool) → i < job.counts.actions → j < job.counts.actions
      → Clash i j (value_at i) (value_at j) r → r ≡ clashes (job_in job) i j
  clash_of_values i j r li lj test =
      test job.counts
      ∙ sym (ap₂ (λ a b. eqb i j || (hinders a b || hinders b a)) (action_of_value i li) (action_of_value j lj))

-- ---- the set of the actions that clash with action i, up to action n
has_when : (test : Bool) (n k : ℕ) → has (cond test (single n) 0) k ≡ (test && eqb k n)
has_when true n k = has_single n k
has_when false n k = has_zero k

module _ (J : Job) (i : ℕ) where
  -- those below n are in it, and no number from n on
  abbrev pub ClashesBelow : ℕ → ℕ → Type 0
  ClashesBelow n set = ClashSet J i n set × ((k : ℕ) → n ≤ k → has set k ≡ false)

  pub clashes_at_first : ClashesBelow 0 0
  clashes_at_first = (λ k l. absurd (omega arith), λ k l. has_zero k)

  pub clashes_next : (n set member more : ℕ) (test : Bool) → ClashesBelow n set → test ≡ clashes J i n
      → member ≡ cond test (single n) 0 → ((k : ℕ) → has more k ≡ (has set k || has member k))
      → ClashesBelow (n + 1) more
  clashes_next n set member more test below same is_member is_more =
      let at : (k : ℕ) → has more k ≡ (has set k || (test && eqb k n)) =
      λ k. is_more k ∙ ap (λ b. has set k || b) (ap (λ m. has m k) is_member ∙ has_when test n k) in
      let other : (k : ℕ) → (k ≡ n → ⊥) → has more k ≡ has set k =
      λ k ne.
      at k ∙ ap (λ b. has set k || (test && b)) (ne_eqb k n ne) ∙ ap (λ b. has set k || b) (and-false test)
      ∙ or-false (has set k) in
      let here : has more n ≡ test =
      at n ∙ ap₂ (λ a b. a || (test && b)) (below.1 n (omega arith)) (eq-eqb n n refl) ∙ and-true test in (
        λ k l.
            ⊎_elim (λ a. let e : k ≡ n = omega arith in rw e (here ∙ same))
            (λ a. other k (λ e. omega arith) ∙ below.0 k a) (le_or_lt n k),
        λ k l. other k (λ e. omega arith) ∙ below.1 k (omega arith),
      )

-- ---- values put into a table, one after the other
pub values_at_first : (xs : List ℕ) (at : ℕ) (values : List ℕ) → ValuesPut xs at 0 values xs
values_at_first xs at values =
    record { size = refl; put = λ k l. absurd (omega arith); before = λ k l. refl }

pub values_next : (xs : List ℕ) (at n : ℕ) (values ys : List ℕ) → ValuesPut xs at n values ys
    → at + n < length xs → ValuesPut xs at (n + 1) values (set ys (at + n) (get_or values n 0))
values_next xs at n values ys put l =
    let whole = put.size in
    let x = get_or values n 0 in
    let other : (k : ℕ) → (k ≡ at + n → ⊥) → get_or (set ys (at + n) x) k 0 ≡ get_or ys k 0 =
    λ k ne. get_or-set_other ys (at + n) k x 0 ne in
    record {
      size = length-set ys (at + n) x ∙ whole;
      put =
          λ k m.
          ⊎_elim (λ a. let e : k ≡ n = omega arith in rw e (get_or-set_same ys (at + n) x 0 (omega arith)))
          (λ a. other (at + k) (λ e. omega arith) ∙ put.put k a) (le_or_lt n k);
      before = λ k m. other k (λ e. omega arith) ∙ put.before k m;
    }

-- the first of them
pub value_at_place : (xs : List ℕ) (at n : ℕ) (values ys : List ℕ) → ValuesPut xs at n values ys → 0 < n
    → get_or ys at 0 ≡ get_or values 0 0
value_at_place xs at n values ys put l = rw (add-zero at) at (put.put 0 l)

pub four_values : (xs : List ℕ) (at a b c d : ℕ) → at + 4 ≤ length xs
    → ValuesPut xs at 4 (a ∷ b ∷ c ∷ d ∷ []) (set (set (set (set xs at a) (at + 1) b) (at + 2) c) (at + 3) d)
four_values xs at a b c d l =
    let values : List ℕ = a ∷ b ∷ c ∷ d ∷ [] in
    let one : ValuesPut xs at 1 values (set xs at a) =
    rw (add-zero at) at (values_next xs at 0 values xs (values_at_first xs at values) (omega arith)) in
    let two = values_next xs at 1 values (set xs at a) one (omega arith) in
    let three = values_next xs at 2 values _ two (omega arith) in
    values_next xs at 3 values _ three (omega arith)

-- ---- the sets and numbers of one action
module _ (job : held.Job) (i : ℕ) (known : i < job.counts.actions) where
  abbrev a : value.Action
  a = value_at job i

  pub sets_put : (xs ys : List ℕ) (set : ℕ)
      → ValuesPut xs (i * 4) 4 (a.needs ∷ a.adds ∷ a.deletes ∷ set ∷ []) ys
      → ClashSet (job_in job) i job.counts.actions set → SetsFilled (job_in job) ys i
  sets_put xs ys set put clashing =
      let same = action_of_value job i known in
      let count = length_tabulate job.counts.actions (action_at job) in
      record {
        needs = value_at_place xs (i * 4) 4 _ ys put (omega arith) ∙ sym (ap (λ (x : Action). x.needs) same);
        adds = put.put 1 (omega arith) ∙ sym (ap (λ (x : Action). x.adds) same);
        deletes = put.put 2 (omega arith) ∙ sym (ap (λ (x : Action). x.deletes) same);
        clash = λ j l. ap (λ (m : ℕ). has m j) (put.put 3 (omega arith)) ∙ clashing j (omega arith);
      }

  pub numbers_put : (xs ys zs amounts cut : List ℕ) (d : ℕ) → amounts ≡ charged_in job a → CutTo amounts cut
      → Fits job.counts → i * 9 < length xs → d ≡ a.duration → d < 256
      → ValuesPut (set xs (i * 9) d) (i * 9 + 1) 4 a.pools ys → ValuesPut ys (i * 9 + 5) 4 cut zs
      → NumbersFilled (job_in job) zs i
  numbers_put xs ys zs amounts cut d charges cuts fits room is_d byte pools stores =
      let same = action_of_value job i known in
      let pool_count = length_tabulate job.counts.pools (λ k. get_or job.pools k 0) in
      let store_count = length_tabulate job.counts.stores (λ k. get_or job.stores k 0) in
      let same_duration : (action_of (job_in job) i).duration ≡ a.duration = ap (λ (x : Action). x.duration) same in
      record {
        duration =
            stores.before (i * 9) (omega arith) ∙ pools.before (i * 9) (omega arith)
            ∙ get_or-set_same xs (i * 9) d 0 room ∙ is_d ∙ sym same_duration;
        byte = omega arith;
        pools =
            λ k l.
            stores.before (i * 9 + 1 + k) (omega arith) ∙ pools.put k (omega arith)
            ∙ sym (get_d_tabulate job.counts.pools (λ m. get_or a.pools m 0) k 0 (omega arith))
            ∙ sym (ap (λ (x : Action). get_or x.pools k 0) same);
        stores =
            λ k l small.
            let amount = ap (λ (list : List ℕ). get_or list k 0) charges
            ∙ charged_is job a k (omega arith) (omega arith)
            ∙ sym (ap (store_amount (job_in job) k) same) in
            stores.put k (omega arith) ∙ cuts k (omega arith) (omega arith) ∙ amount;
      }

-- ---- one action after the other
module _ (J : Job) (n : ℕ) (xs ys : List ℕ) where
  pub sets_next : ((k : ℕ) → k < n → SetsFilled J xs k) → SameBefore (n * 4) xs ys → SetsFilled J ys n
      → (k : ℕ) → k < n + 1 → SetsFilled J ys k
  sets_next done same here k l =
      ⊎_elim (λ a. let e : k ≡ n = omega arith in rw e here)
      (λ a.
      let old = done k a in
      record {
        needs = same (k * 4) (omega arith) ∙ old.needs;
        adds = same (k * 4 + 1) (omega arith) ∙ old.adds;
        deletes = same (k * 4 + 2) (omega arith) ∙ old.deletes;
        clash = λ j m. ap (λ (set : ℕ). has set j) (same (k * 4 + 3) (omega arith)) ∙ old.clash j m;
      }) (le_or_lt n k)

  pub numbers_next : length J.pools ≤ 4 → length J.stores ≤ 4 → ((k : ℕ) → k < n → NumbersFilled J xs k)
      → SameBefore (n * 9) xs ys → NumbersFilled J ys n → (k : ℕ) → k < n + 1 → NumbersFilled J ys k
  numbers_next few_pools few_stores done same here k l =
      ⊎_elim (λ a. let e : k ≡ n = omega arith in rw e here)
      (λ a.
      let old = done k a in
      record {
        duration = same (k * 9) (omega arith) ∙ old.duration;
        byte = old.byte;
        pools = λ p m. same (k * 9 + 1 + p) (omega arith) ∙ old.pools p m;
        stores = λ p m small. same (k * 9 + 5 + p) (omega arith) ∙ old.stores p m small;
      }) (le_or_lt n k)
