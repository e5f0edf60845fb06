-- What is left of the running steps, put into a value one after the other.
-- Assumes nothing.
use Prim.Native.Nat.{ℕ, ◌+◌, ◌<◌, ◌≤◌}
use mathlib.Core.Path.{◌≡◌, sym, ap, ap₂, ◌∙◌, subst}
use mathlib.Core.Bool.{Bool, cond}
use mathlib.Core.List.{List, [], ◌∷◌, ◌++◌, map, map-append, append-nil}
use native.Mathlib.Omega.{arith}
use lib.ListN.{length, set, length-set, length-replicate}
use lib.Seq.{get_or-set_same, get_or-set_other}
use borrow.Author.Tests.{lt-ltb, le-ltb}
use Rattle.lists.specs.Lists.{tabulate}
use Rattle.lists.proofs.Tabulate.{length_tabulate, get_d_tabulate, tabulate_snoc, tabulate_same, each_at}
use Rattle.job.specs.declared.Action as value
use Rattle.job.specs.declared.Counts.{Counts}
use Rattle.job.specs.Job.{Action, beyond, action_in, unused_action}
use Rattle.timeline.specs.declared.Step as valued
use Rattle.timeline.specs.Step.{Step}
use Rattle.timeline.specs.Value.{step_of_value}
use Rattle.earliest.specs.declared.extra.Extra.{Extra}
use Rattle.earliest.specs.Extra.{no_extra, extra_at, extra_actions}
use Rattle.begun.specs.RestOfDay.{running, rest_action}
use Rattle.begun.specs.Kept.{HasBegun, Begun, WithRest}
use Rattle.begun.proofs.Running.{running_append}

-- each of the steps has begun
pub begun_at : (M n : ℕ) (at : ℕ → Step) → Begun M (tabulate n at) → (i : ℕ) → i < n
    → HasBegun M (at i).start (at i).action.duration (at i).stop
begun_at M n at begun i l =
    let count = length_tabulate n at in
    subst (λ (x : Step). HasBegun M x.start x.action.duration x.stop) (get_d_tabulate n at i (at i) l)
    (each_at (λ x. HasBegun M x.start x.action.duration x.stop) (tabulate n at) (at i) begun i (omega arith))

-- what is left of the steps P in minute M
abbrev pub rests_of : ℕ → List Step → List Action
rests_of M P = map (rest_action M) (running M P)

pub rests_more : (M i : ℕ) (at : ℕ → Step)
    → rests_of M (tabulate (i + 1) at) ≡ rests_of M (tabulate i at) ++ rests_of M (at i ∷ [])
rests_more M i at =
    ap (rests_of M) (tabulate_snoc i at)
    ∙ ap (map (rest_action M)) (running_append M (tabulate i at) (at i ∷ []))
    ∙ map-append (rest_action M) (running M (tabulate i at)) (running M (at i ∷ []))

-- of no steps nothing is left
pub rests_of_none : (extra : Extra) → extra ≡ no_extra → (M : ℕ) (n : Counts) (at : ℕ → Step)
    → (extra.count ≤ 0) × (length extra.actions ≡ 32) × (extra_actions n extra ≡ rests_of M (tabulate 0 at))
unfolding tabulate
rests_of_none extra none M n at =
    let count : extra.count ≡ 0 = ap (λ (e : Extra). e.count) none in (
      omega arith,
      ap (λ (e : Extra). length e.actions) none ∙ length-replicate 32 unused_action,
      ap (extra_actions n) none,
    )

-- the actions with one more
abbrev pushed : Extra → value.Action → Extra
pushed extra a = record { count = extra.count + 1; actions = set extra.actions extra.count a }

extra_pushed : (n : Counts) (extra : Extra) (a : value.Action) → extra.count < length extra.actions
    → extra_actions n (pushed extra a) ≡ extra_actions n extra ++ (action_in n a ∷ [])
extra_pushed n extra a room =
    let at = extra_at n (pushed extra a) in
    let count = extra.count in
    tabulate_snoc count at
    ∙ ap₂ (λ (done : List Action) (last : Action). done ++ (last ∷ []))
    (tabulate_same count at (extra_at n extra)
    (λ k l. ap (action_in n) (get_or-set_other extra.actions count k a beyond (λ e. omega arith))))
    (ap (action_in n) (get_or-set_same extra.actions count a beyond room))

module _ (extra : Extra) (step : valued.Step) (M : ℕ) (full : length extra.actions ≡ 32) where
  abbrev only : Counts → Bool → List Action
  only n b = map (rest_action M) (cond b (step_of_value n step ∷ []) [])

  pub rest_when_stopped : step.stop ≤ M → WithRest extra step M extra
  rest_when_stopped stopped =
      record {
        count = omega arith;
        room = full;
        actions = λ n.
            sym (ap (λ (b : Bool). extra_actions n extra ++ only n b) (le-ltb M step.stop stopped)
            ∙ append-nil (extra_actions n extra));
      }

  pub rest_when_running : M < step.stop → extra.count < 32 → (a : value.Action)
      → ((n : Counts) → action_in n a ≡ rest_action M (step_of_value n step)) → WithRest extra step M (pushed extra a)
  rest_when_running runs few a same =
      record {
        count = omega arith;
        room = length-set extra.actions extra.count a ∙ full;
        actions = λ n.
            extra_pushed n extra a (omega arith)
            ∙ ap (λ (x : Action). extra_actions n extra ++ (x ∷ [])) (same n)
            ∙ sym (ap (λ (b : Bool). extra_actions n extra ++ only n b) (lt-ltb M step.stop runs));
      }
