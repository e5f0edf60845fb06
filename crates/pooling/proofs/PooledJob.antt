-- The actions of the pooled job by their numbers, and its steps.
-- Assumes nothing.
use Prim.Native.Nat.{ℕ, ◌+◌, ◌<◌}
use mathlib.Core.Path.{◌≡◌, sym, ap, ap₂, ◌∙◌}
use mathlib.Core.List.{List, ◌++◌, map}
use native.Mathlib.Omega.{arith}
use lib.ListN.{length, get_or, length-append, length-map, get_or-append}
use lib.Seq.{get_or-append-add}
use Rattle.lists.proofs.Tabulate.{get_d_map}
use Rattle.job.specs.Job.{Action, Job, no_action}
use Rattle.timeline.specs.Step.{Step}
use Rattle.timeline.specs.Places.{EachStep}
use Rattle.timeline.specs.Keeps.{OfJob}
use Rattle.timeline.proofs.Places.{each_map, each_append}
use Rattle.pooling.specs.Pooled.{plus, renumbered, pooled}
use Rattle.pooling.proofs.Steps.{in_pool}

module _ (A B : Job) where
  abbrev pub pool_count : ℕ
  pool_count = length (plus A.pools B.pools)

  abbrev pub store_count : ℕ
  store_count = length (plus A.stores B.stores)

  -- an action and a step of the first job, and of the second, in the pooled job
  abbrev pub first_action : Action → Action
  first_action = renumbered 0 pool_count store_count

  abbrev pub second_action : Action → Action
  second_action = renumbered A.facts pool_count store_count

  abbrev pub first_step : Step → Step
  first_step = in_pool 0 0 pool_count store_count

  abbrev pub second_step : Step → Step
  second_step = in_pool A.facts (length A.actions) pool_count store_count

  -- ---- actions
  pub count_of_actions : length (pooled A B).actions ≡ length A.actions + length B.actions
  count_of_actions =
      length-append (map first_action A.actions) (map second_action B.actions)
      ∙ ap₂ ◌+◌ (length-map A.actions first_action) (length-map B.actions second_action)

  pub action_of_first : (i : ℕ) → i < length A.actions
      → get_or (pooled A B).actions i no_action ≡ first_action (get_or A.actions i no_action)
  action_of_first i l =
      let n = length-map A.actions first_action in
      get_or-append (map first_action A.actions) _ no_action i (omega arith)
      ∙ get_d_map first_action A.actions i no_action no_action l

  pub action_of_second : (i : ℕ) → i < length B.actions
      → get_or (pooled A B).actions (length A.actions + i) no_action ≡ second_action (get_or B.actions i no_action)
  action_of_second i l =
      ap (λ (n : ℕ). get_or (pooled A B).actions (n + i) no_action) (sym (length-map A.actions first_action))
      ∙ get_or-append-add (map first_action A.actions) (map second_action B.actions) i no_action
      ∙ get_d_map second_action B.actions i no_action no_action l

-- ---- steps
own_in_pool : (W J : Job) (k n p s : ℕ) (x : Step) → OfJob J x
    → get_or W.actions (n + x.number) no_action ≡ renumbered k p s (get_or J.actions x.number no_action)
    → OfJob W (in_pool k n p s x)
own_in_pool W J k n p s x own there =
    let mine : x.action ≡ get_or J.actions x.number no_action = ap (λ (y : Step). y.action) own in
    let action = ap (renumbered k p s) mine ∙ sym there in
    let stop : x.stop ≡ x.start + (get_or J.actions x.number no_action).duration
    = ap (λ (y : Step). y.stop) own in
    let long : x.action.duration ≡ (get_or J.actions x.number no_action).duration
    = ap (λ (a : Action). a.duration) mine in
    let same : x.action.duration ≡ (get_or W.actions (n + x.number) no_action).duration
    = ap (λ (a : Action). a.duration) action in
    let last : x.stop ≡ x.start + (get_or W.actions (n + x.number) no_action).duration = omega arith in
    ap₂ {C = Step} (λ (a : Action) (t : ℕ). record { number = n + x.number; action = a; start = x.start; stop = t })
    action last

module _ (A B : Job) where
  pub first_own : (x : Step) → OfJob A x → x.number < length A.actions
      → OfJob (pooled A B) (first_step A B x)
  first_own x own l =
      let e : 0 + x.number ≡ x.number = omega arith in
      own_in_pool (pooled A B) A 0 0 (pool_count A B) (store_count A B) x own
      (ap (λ (i : ℕ). get_or (pooled A B).actions i no_action) e ∙ action_of_first A B x.number l)

  pub second_own : (x : Step) → OfJob B x → x.number < length B.actions
      → OfJob (pooled A B) (second_step A B x)
  second_own x own l =
      own_in_pool (pooled A B) B A.facts (length A.actions) (pool_count A B) (store_count A B) x own
      (action_of_second A B x.number l)

  -- two plans side by side: the steps of both in the pooled job
  abbrev pub side_by_side : List Step → List Step → List Step
  side_by_side P Q = map (first_step A B) P ++ map (second_step A B) Q

  pub each_side_by_side : (F : Step → Type 0) (P Q : List Step) → EachStep (λ x. F (first_step A B x)) P
      → EachStep (λ x. F (second_step A B x)) Q → EachStep F (side_by_side P Q)
  each_side_by_side F P Q p q =
      each_append F (map (first_step A B) P) (map (second_step A B) Q)
      (each_map F (first_step A B) P p) (each_map F (second_step A B) Q q)
