-- Which facts hold when two plans run side by side in the pooled job: those of each job as in its own day.
-- Assumes nothing.
use Prim.Native.Nat.{ℕ, ◌+◌, ◌<◌}
use mathlib.Core.Path.{◌≡◌, refl, sym, ap, ap₂, ◌∙◌}
use mathlib.Core.Bool.{Bool, false, ◌||◌, or_assoc, or-false}
use mathlib.Core.List.{List, [], ◌∷◌, ◌++◌, map}
use native.Mathlib.Omega.{arith}
use Rattle.facts.specs.FactSet.{has, union, Within}
use Rattle.facts.proofs.Membership.{has_zero, has_union}
use Rattle.job.specs.Job.{Action}
use Rattle.timeline.specs.Step.{Step, union_of}
use Rattle.timeline.specs.Timeline.{held}
use Rattle.timeline.specs.Places.{EachStep}
use Rattle.timeline.proofs.Places.{each_map}
use Rattle.pooling.specs.Pooled.{behind, renumbered}
use Rattle.pooling.proofs.Steps.{in_pool}
use Rattle.pooling.proofs.Behind.{behind_low, behind_high, behind_zero}
use Rattle.pooling.proofs.ByFact.{held_by_fact, at_stop, none_at_stop, same_at_stop}

union_of_append : (f : Step → ℕ) (P R : List Step) (n : ℕ)
    → has (union_of f (P ++ R)) n ≡ (has (union_of f P) n || has (union_of f R) n)
union_of_append f [] R n = ap (λ (b : Bool). b || has (union_of f R) n) (sym (has_zero n))
union_of_append f (x ∷ P) R n =
    has_union (f x) (union_of f (P ++ R)) n
    ∙ ap (λ (b : Bool). has (f x) n || b) (union_of_append f P R n)
    ∙ sym (or_assoc (has (f x) n) (has (union_of f P) n) (has (union_of f R) n))
    ∙ ap (λ (b : Bool). b || has (union_of f R) n) (sym (has_union (f x) (union_of f P) n))

module _ (S R facts numbers pools stores : ℕ) (P Q : List Step) (within : Within facts S)
    (deletes : EachStep (λ x. Within facts x.action.deletes) P)
    (adds : EachStep (λ x. Within facts x.action.adds) P) where
  abbrev first : List Step
  first = map (in_pool 0 0 pools stores) P

  abbrev second : List Step
  second = map (in_pool facts numbers pools stores) Q

  -- added facts, or deleted ones, are numbered behind others
  abbrev Renumbers : (Action → ℕ) → Type 0
  Renumbers set = (k : ℕ) (a : Action) → set (renumbered k pools stores a) ≡ behind k (set a)

  -- the first's steps alone add and delete a fact of the first
  first_at_stop : (set : Action → ℕ) → Renumbers set → (t n : ℕ) → n < facts
      → has (at_stop set t (first ++ second)) n ≡ has (at_stop set t P) n
  first_at_stop set renumbers t n l =
      union_of_append _ first second n
      ∙ ap₂ ◌||◌
      (same_at_stop set (in_pool 0 0 pools stores) t n n P
      (λ x T i. (refl, ap (λ (s : ℕ). has s n) (renumbers 0 x.action ∙ behind_zero (set x.action)))))
      (none_at_stop set t n second
      (each_map (λ x. has (set x.action) n ≡ false) (in_pool facts numbers pools stores) Q
      (λ x T i. ap (λ (s : ℕ). has s n) (renumbers facts x.action) ∙ behind_low facts (set x.action) n l)))
      ∙ or-false (has (at_stop set t P) n)

  -- the first job's facts hold in the pooled day as in its own
  pub first_held : (n : ℕ) → n < facts → (t : ℕ)
      → has (held (union S (behind facts R)) (first ++ second) t) n ≡ has (held S P t) n
  first_held n l =
      held_by_fact (union S (behind facts R)) S (first ++ second) P n n
      (has_union S (behind facts R) n ∙ ap (λ (b : Bool). has S n || b) (behind_low facts R n l)
      ∙ or-false (has S n))
      (λ t. first_at_stop (λ a. a.deletes) (λ k a. refl) t n l)
      (λ t. first_at_stop (λ a. a.adds) (λ k a. refl) t n l)

  -- the second's steps alone add and delete a fact of the second
  second_at_stop : (set : Action → ℕ) → Renumbers set → EachStep (λ x. Within facts (set x.action)) P → (t n : ℕ)
      → has (at_stop set t (first ++ second)) (facts + n) ≡ has (at_stop set t Q) n
  second_at_stop set renumbers inside t n =
      union_of_append _ first second (facts + n)
      ∙ ap₂ ◌||◌
      (none_at_stop set t (facts + n) first
      (each_map (λ x. has (set x.action) (facts + n) ≡ false) (in_pool 0 0 pools stores) P
      (λ x T i.
      ap (λ (s : ℕ). has s (facts + n)) (renumbers 0 x.action ∙ behind_zero (set x.action))
      ∙ inside x T i (facts + n) (omega arith))))
      (same_at_stop set (in_pool facts numbers pools stores) t (facts + n) n Q
      (λ x T i. (
        refl,
        ap (λ (s : ℕ). has s (facts + n)) (renumbers facts x.action) ∙ behind_high facts (set x.action) n,
      )))

  -- the second's facts too, behind the first's
  pub second_held : (n : ℕ) (t : ℕ)
      → has (held (union S (behind facts R)) (first ++ second) t) (facts + n) ≡ has (held R Q t) n
  second_held n =
      held_by_fact (union S (behind facts R)) R (first ++ second) Q (facts + n) n
      (has_union S (behind facts R) (facts + n)
      ∙ ap₂ ◌||◌ (within (facts + n) (omega arith)) (behind_high facts R n))
      (λ t. second_at_stop (λ a. a.deletes) (λ k a. refl) deletes t n)
      (λ t. second_at_stop (λ a. a.adds) (λ k a. refl) adds t n)
