-- Arrays that are filled with one job's actions behind the other's.
-- Assumes nothing.
use Prim.Native.Nat.{ℕ, ◌+◌, ◌<◌, ◌≤◌}
use mathlib.Core.Path.{◌≡◌, sym, ap, ap₂, ◌∙◌}
use mathlib.Core.List.{List, [], ◌∷◌, ◌++◌, map, map-append, append-nil, append_assoc}
use native.Mathlib.Omega.{arith}
use lib.ListN.{length, get_or, set, length-append, length-map}
use Rattle.lists.specs.Lists.{tabulate, filled}
use Rattle.lists.proofs.Tabulate.{length_tabulate, tabulate_snoc, get_d_tabulate, map_tabulate, filled_more, each_at}
use Rattle.job.specs.declared.Action as act
use Rattle.job.specs.declared.Job as held
use Rattle.job.specs.Job.{Action, no_action, beyond, action_at, job_in, unused_action, action_value}
use Rattle.job.specs.Passed.{PassedAction, Passed}
use Rattle.pooling.specs.Inner.{FitsBehind, HasActions}
use Rattle.pooling.proofs.PassingActions.{behind_word}

-- ---- one more element of an array, behind the elements of another list
pub put_behind : {C : Type 0} (n : ℕ) (z : C) (xs : List C) (f : ℕ → C) (i at : ℕ) (array : List C) (v : C)
    → length xs ≡ at → at + i < n → array ≡ filled n z (xs ++ tabulate i f) → v ≡ f i
    → set array (at + i) v ≡ filled n z (xs ++ tabulate (i + 1) f)
put_behind {C} n z xs f i at array v e l h k =
    let m = length_tabulate i f in
    let sum = length-append xs (tabulate i f) in
    let both : length (xs ++ tabulate i f) ≡ at + i = omega arith in
    ap₂ (λ (a : List C) (x : C). set a (at + i) x) h k
    ∙ ap (λ (j : ℕ). set (filled n z (xs ++ tabulate i f)) j (f i)) (sym both)
    ∙ filled_more n z (xs ++ tabulate i f) (f i) (omega arith)
    ∙ ap (λ (ys : List C). filled n z ys)
    (append_assoc xs (tabulate i f) (f i ∷ []) ∙ ap (λ (ys : List C). xs ++ ys) (sym (tabulate_snoc i f)))

pub nothing_behind : {C : Type 0} (xs : List C) (f : ℕ → C) → xs ≡ xs ++ tabulate 0 f
unfolding tabulate
nothing_behind xs f = sym (append-nil xs)

module _ (xs : List Action) (renumber : Action → Action) (g : ℕ → Action) where
  values_behind : (i : ℕ) → map action_value (xs ++ map renumber (tabulate i g))
      ≡ map action_value xs ++ tabulate i (λ k. action_value (renumber (g k)))
  values_behind i =
      map-append action_value xs (map renumber (tabulate i g))
      ∙ ap (λ (ys : List act.Action). map action_value xs ++ ys)
      (ap (map action_value) (map_tabulate renumber i g) ∙ map_tabulate action_value i (λ k. renumber (g k)))

  pub actions_start : (array : List act.Action) → HasActions array xs
      → HasActions array (xs ++ map renumber (tabulate 0 g))
  unfolding tabulate
  actions_start array h =
      h ∙ ap (λ (ys : List Action). filled 64 unused_action (map action_value ys)) (sym (append-nil xs))

  pub actions_next : (i at : ℕ) (array : List act.Action) (v : act.Action) → length xs ≡ at → at + i < 64
      → HasActions array (xs ++ map renumber (tabulate i g)) → v ≡ action_value (renumber (g i))
      → HasActions (set array (at + i) v) (xs ++ map renumber (tabulate (i + 1) g))
  actions_next i at array v e l h k =
      put_behind 64 unused_action (map action_value xs) (λ j. action_value (renumber (g j))) i at array v
      (length-map xs action_value ∙ e) l
      (h ∙ ap (λ (ys : List act.Action). filled 64 unused_action ys) (values_behind i)) k
      ∙ ap (λ (ys : List act.Action). filled 64 unused_action ys) (sym (values_behind (i + 1)))

-- ---- the sets of a job's actions are words behind so many facts
pub fits_behind : (k : ℕ) (job : held.Job) → Passed (job_in job) → k + job.facts ≤ 64 → (i : ℕ)
    → i < job.counts.actions → FitsBehind k (get_or job.actions i beyond)
fits_behind k job passed l i known =
    let n = length_tabulate job.counts.actions (action_at job) in
    let a : PassedAction job.facts (action_at job i)
    = rw (get_d_tabulate job.counts.actions (action_at job) i no_action known) at
    (each_at (PassedAction job.facts) (job_in job).actions no_action passed.actions i (omega arith)) in
    record {
      needs = behind_word k job.facts _ l a.needs;
      adds = behind_word k job.facts _ l a.adds;
      deletes = behind_word k job.facts _ l a.deletes;
    }
